-- A record more, or the end of the walk: all bytes were taken, or a fault was met.
use Rattle.std.proofs.Common.{ℕ, List, ◌++◌, refl, sym, ◌∙◌, subst}
use Rattle.std.proofs.lemmas.Bool.{both_ways}
use Rattle.std.proofs.lemmas.List.{take_rest}
use Rattle.repl_lsn.specs.Segment.{IsSegSize}
use Rattle.repl_page.specs.declared.ident.Ident.{Ident}
use Rattle.repl_record.specs.Log.{IsPrefixOfRecords, IsWholeEnd}
use Rattle.repl_record.specs.Walker.{last_end, last_start}
use Rattle.repl_walk.proofs.Walks.{Going, bad_walk, going_on, refused_prefix, refused_whole, short_walk, walked_prefix, walked_whole}
use Rattle.repl_walk.proofs.pieces.walk.Goals as goal

pub records-preserved : goal.records-preserved
records-preserved c =
    let on = c.in-Whole.ensures in
    let rest = c.records.rest.now in
    subst (λ (t : List ℕ). Going c.args.walker.now c.step.new.self c.args.tli c.args.bytes.now t) (sym (take_rest rest c.in-Whole.used))
    (going_on c.args.walker.now c.records.walker c.step.new.self c.args.tli c.in-Whole.start c.in-Whole.end c.in-Whole.used c.args.bytes.now
    rest c.records.invariant on.ident on.passes on.answers on.goes_on on.again)

-- ---- all bytes were taken

pub returns-in-Short-clause-goes_on : goal.returns-in-Short-clause-goes_on
returns-in-Short-clause-goes_on c = short_walk c.args.walker.now c.records.walker c.step.new.self c.args.tli c.args.bytes.now
    c.records.rest.now
    c.records.invariant c.in-Short.ensures.ident c.in-Short.ensures.goes_on

pub returns-in-Short-clause-exact : goal.returns-in-Short-clause-exact
returns-in-Short-clause-exact c timeline from prev log is on =
    let old = c.args.walker.now in
    let new = c.step.new.self in
    let bytes = c.args.bytes.now in
    let walked = short_walk old c.records.walker new c.args.tli bytes c.records.rest.now c.records.invariant c.in-Short.ensures.ident
    c.in-Short.ensures.goes_on timeline from prev log is on in
    let same = c.in-Short.ensures.ident ∙ c.records.invariant.same in (
      λ told. subst (λ (i : Ident). IsPrefixOfRecords i timeline from prev (log ++ bytes)) same (walked_prefix new timeline from prev (log
          ++ bytes) walked),
      λ prefix. refl,
    )

pub returns-in-Short-clause-whole : goal.returns-in-Short-clause-whole
returns-in-Short-clause-whole c timeline from prev log is on =
    let old = c.args.walker.now in
    let new = c.step.new.self in
    let bytes = c.args.bytes.now in
    let walked = short_walk old c.records.walker new c.args.tli bytes c.records.rest.now c.records.invariant c.in-Short.ensures.ident
    c.in-Short.ensures.goes_on timeline from prev log is on in
    let same = c.in-Short.ensures.ident ∙ c.records.invariant.same in
    let size = subst (λ (i : Ident). IsSegSize i.size) (c.ident.ensures ∙ sym same) c.bytes-size.ensures.size in
    subst (λ (i : Ident). IsWholeEnd i timeline from prev (log ++ bytes) (last_end new) (last_start new)) same
    (walked_whole new timeline from prev (log ++ bytes) size walked)

-- ---- a fault was met

pub returns-in-Bad-clause-refuses : goal.returns-in-Bad-clause-refuses
returns-in-Bad-clause-refuses c = bad_walk c.args.walker.now c.records.walker c.step.new.self c.args.tli c.in-Bad.at c.in-Bad.why
    c.args.bytes.now c.records.rest.now c.records.invariant c.in-Bad.ensures.ident c.in-Bad.ensures.answers c.in-Bad.ensures.goes_on

pub returns-in-Bad-clause-exact : goal.returns-in-Bad-clause-exact
returns-in-Bad-clause-exact c timeline from prev log is on =
    let old = c.args.walker.now in
    let new = c.step.new.self in
    let bytes = c.args.bytes.now in
    let refused = bad_walk old c.records.walker new c.args.tli c.in-Bad.at c.in-Bad.why bytes c.records.rest.now c.records.invariant
    c.in-Bad.ensures.ident c.in-Bad.ensures.answers c.in-Bad.ensures.goes_on timeline from prev log is on in
    let same = c.in-Bad.ensures.ident ∙ c.records.invariant.same in
    let size = subst (λ (i : Ident). IsSegSize i.size) (c.ident.ensures ∙ sym same) c.bytes-size.ensures.size in (
      λ told. absurd (both_ways _ refl told),
      λ prefix. absurd (refused_prefix new timeline from prev c.in-Bad.at c.in-Bad.why (log ++ bytes) size refused
          (subst (λ (i : Ident). IsPrefixOfRecords i timeline from prev (log ++ bytes)) (sym same) prefix)),
    )

pub returns-in-Bad-clause-whole : goal.returns-in-Bad-clause-whole
returns-in-Bad-clause-whole c timeline from prev log is on =
    let old = c.args.walker.now in
    let new = c.step.new.self in
    let bytes = c.args.bytes.now in
    let refused = bad_walk old c.records.walker new c.args.tli c.in-Bad.at c.in-Bad.why bytes c.records.rest.now c.records.invariant
    c.in-Bad.ensures.ident c.in-Bad.ensures.answers c.in-Bad.ensures.goes_on timeline from prev log is on in
    let same = c.in-Bad.ensures.ident ∙ c.records.invariant.same in
    let size = subst (λ (i : Ident). IsSegSize i.size) (c.ident.ensures ∙ sym same) c.bytes-size.ensures.size in
    subst (λ (i : Ident). IsWholeEnd i timeline from prev (log ++ bytes) (last_end new) (last_start new)) same
    (refused_whole new timeline from prev c.in-Bad.at c.in-Bad.why (log ++ bytes) size refused)
