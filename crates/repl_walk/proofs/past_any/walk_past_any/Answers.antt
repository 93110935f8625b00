-- The first record tells where the one before starts, and is walked over anew after that one; any other fault stands.
use Rattle.std.proofs.Common.{◌≡◌, ◌≢◌, ℕ, ◌++◌, length, refl, sym, ◌∙◌, subst, inl, inr, arith}
use Rattle.std.proofs.lemmas.Bool.{both_ways, cases_eq}
use Rattle.std.proofs.lemmas.Result.{IfErr-weaker, on_ok_weaker}
use Rattle.repl_lsn.specs.Segment.{IsSegSize}
use Rattle.repl_page.specs.declared.ident.Ident.{Ident}
use Rattle.repl_record.specs.declared.answer.WalkReason.{WalkReason}
use Rattle.repl_record.specs.Log.{IsPrefixOfRecords}
use Rattle.repl_record.specs.Walker.{AreOn, identity, last_end}
use Rattle.repl_walk.specs.Walks.{HasRefused}
use Rattle.repl_walk.proofs.PastAny.{begun_anew, other_refused, refused_past_any, told_anew}
use Rattle.repl_walk.proofs.Walks.{refused_prefix}
use Rattle.repl_walk.proofs.past_any.walk_past_any.Goals as goal

pub returns-in_default-clause-exact : goal.returns-in_default-clause-exact
returns-in_default-clause-exact c timeline log is on =
    let new = c.walk.new.walker in
    let bytes = c.args.bytes.now in
    let from = c.args.from in
    let fault = c.in-Err.fault in
    let same = c.in-Err.ensures.ident in
    let size = subst (λ (i : Ident). IsSegSize i.size) (c.ident.ensures ∙ sym same) c.bytes-size.ensures.size in
    let refused = c.in-Err.ensures.refuses timeline from is.prev log is.walked on in (
      λ told. absurd (both_ways _ refl told),
      λ any. absurd (refused_past_any new timeline from is.prev any.prev fault.at fault.why (log ++ bytes) size refused
          (λ found expected at. c.in_default.ensures.none refl found expected)
          (refused_prefix new timeline from is.prev fault.at fault.why (log ++ bytes) size refused)
          (subst (λ (i : Ident). IsPrefixOfRecords i timeline from any.prev (log ++ bytes)) (sym same) any.records)),
    )

pub returns-then-last_end-from-clause-exact : goal.returns-then-last_end-from-clause-exact
returns-then-last_end-from-clause-exact c timeline log is on =
    let new = c.walk.new.walker in
    let bytes = c.args.bytes.now in
    let from = c.args.from in
    let fault = c.in-Err.fault in
    let same = c.in-Err.ensures.ident in
    let size = subst (λ (i : Ident). IsSegSize i.size) (c.ident.ensures ∙ sym same) c.bytes-size.ensures.size in
    let refused = c.in-Err.ensures.refuses timeline from is.prev log is.walked on in
    let later : last_end new ≢ from = λ at. absurd (omega (
      arith,
      at,
      c.last_end.ensures,
      c.from.view_is,
      c.last_end-2.view_is,
      c.if-last_end-from.true,
    )) in (
      λ told. absurd (both_ways _ refl told),
      λ any. absurd (refused_past_any new timeline from is.prev any.prev fault.at fault.why (log ++ bytes) size refused
          (λ found expected at. absurd (later at)) (refused_prefix new timeline from is.prev fault.at fault.why (log ++ bytes) size refused)
          (subst (λ (i : Ident). IsPrefixOfRecords i timeline from any.prev (log ++ bytes)) (sym same) any.records)),
    )

pub returns-clause-exact : goal.returns-clause-exact
returns-clause-exact c timeline log is on =
    let before = c.args.walker.now in
    let new = c.walk.new.walker in
    let bytes = c.args.bytes.now in
    let from = c.args.from in
    let at = c.in-Err.fault.at in
    let found = c.in-Some.found in
    let told = c.in-Some.ensures.told in
    let same = c.in-Err.ensures.ident in
    let size = subst (λ (i : Ident). IsSegSize i.size) (c.ident.ensures ∙ sym same) c.bytes-size.ensures.size in
    let refused = subst (λ (reason : WalkReason). HasRefused new timeline from is.prev (log ++ bytes) at reason) told.1
    (c.in-Err.ensures.refuses timeline from is.prev log is.walked on) in
    let begins : last_end new ≡ from = omega (arith, c.last_end.ensures, c.from.view_is, c.last_end-2.view_is, c.if-last_end-from.false) in
    let begun = begun_anew before new timeline from is.prev at found told.0 log bytes c.past.result size same is.walked refused begins
    c.past.ensures.stands c.past.ensures.ident in
    let pages = subst (λ (p : ℕ). AreOn timeline c.args.tli p (length bytes)) (sym c.past.ensures.position) on in
    let exact = c.walk-2.ensures.exact timeline from found log begun pages in (
      λ ok. record {
        prev = found;
        records = subst (λ (i : Ident). IsPrefixOfRecords i timeline from found (log ++ bytes)) c.past.ensures.ident (exact.0 ok);
      },
      λ any. elim (cases_eq any.prev found) [
        | inl alike ↦ exact.1 (subst (λ (i : Ident). IsPrefixOfRecords i timeline from found (log ++ bytes)) (sym c.past.ensures.ident)
            (subst (λ (p : ℕ). IsPrefixOfRecords (identity before) timeline from p (log ++ bytes)) alike any.records))
        | inr differs ↦ absurd (other_refused new timeline from is.prev any.prev at found told.0 (log ++ bytes) size refused begins differs
            (subst (λ (i : Ident). IsPrefixOfRecords i timeline from any.prev (log ++ bytes)) (sym same) any.records))
      ],
    )

pub returns-clause-goes_on : goal.returns-clause-goes_on
returns-clause-goes_on c = on_ok_weaker c.walk-2.result (λ goes timeline log is on.
    let before = c.args.walker.now in
    let new = c.walk.new.walker in
    let bytes = c.args.bytes.now in
    let from = c.args.from in
    let at = c.in-Err.fault.at in
    let found = c.in-Some.found in
    let told = c.in-Some.ensures.told in
    let same = c.in-Err.ensures.ident in
    let size = subst (λ (i : Ident). IsSegSize i.size) (c.ident.ensures ∙ sym same) c.bytes-size.ensures.size in
    let refused = subst (λ (reason : WalkReason). HasRefused new timeline from is.prev (log ++ bytes) at reason) told.1
    (c.in-Err.ensures.refuses timeline from is.prev log is.walked on) in
    let begins : last_end new ≡ from = omega (arith, c.last_end.ensures, c.from.view_is, c.last_end-2.view_is, c.if-last_end-from.false) in
    let begun = begun_anew before new timeline from is.prev at found told.0 log bytes c.past.result size same is.walked refused begins
    c.past.ensures.stands c.past.ensures.ident in
    let pages = subst (λ (p : ℕ). AreOn timeline c.args.tli p (length bytes)) (sym c.past.ensures.position) on in
    record { prev = found; walked = goes timeline from found log begun pages }) c.walk-2.ensures.goes_on

pub returns-clause-refuses : goal.returns-clause-refuses
returns-clause-refuses c = IfErr-weaker c.walk-2.result _ _ (λ wrong refuses timeline log is on.
    let before = c.args.walker.now in
    let new = c.walk.new.walker in
    let bytes = c.args.bytes.now in
    let from = c.args.from in
    let at = c.in-Err.fault.at in
    let found = c.in-Some.found in
    let told = c.in-Some.ensures.told in
    let same = c.in-Err.ensures.ident in
    let size = subst (λ (i : Ident). IsSegSize i.size) (c.ident.ensures ∙ sym same) c.bytes-size.ensures.size in
    let refused = subst (λ (reason : WalkReason). HasRefused new timeline from is.prev (log ++ bytes) at reason) told.1
    (c.in-Err.ensures.refuses timeline from is.prev log is.walked on) in
    let begins : last_end new ≡ from = omega (arith, c.last_end.ensures, c.from.view_is, c.last_end-2.view_is, c.if-last_end-from.false) in
    let begun = begun_anew before new timeline from is.prev at found told.0 log bytes c.past.result size same is.walked refused begins
    c.past.ensures.stands c.past.ensures.ident in
    let pages = subst (λ (p : ℕ). AreOn timeline c.args.tli p (length bytes)) (sym c.past.ensures.position) on in
    let anew = refuses timeline from found log begun pages in
    record {
      prev = found;
      refused = anew;
      unlike = λ at_first seen wanted named. told_anew new c.walk-2.new.walker timeline from is.prev at wrong.at found told.0 seen wanted (log
          ++ bytes) size (c.walk-2.ensures.ident ∙ c.past.ensures.ident ∙ sym same) refused begins (subst (λ (reason : WalkReason). HasRefused c.walk-2.new.walker timeline from found (log ++ bytes) wrong.at reason) named anew) at_first;
    }) c.walk-2.ensures.refuses

pub returns-in_default-clause-refuses : goal.returns-in_default-clause-refuses
returns-in_default-clause-refuses c timeline log is on = record {
  prev = is.prev;
  refused = c.in-Err.ensures.refuses timeline c.args.from is.prev log is.walked on;
  unlike = λ begins found expected. c.in_default.ensures.none refl found expected;
}

pub returns-then-last_end-from-clause-refuses : goal.returns-then-last_end-from-clause-refuses
returns-then-last_end-from-clause-refuses c timeline log is on = record {
  prev = is.prev;
  refused = c.in-Err.ensures.refuses timeline c.args.from is.prev log is.walked on;
  unlike = λ begins found expected. absurd (omega (
    arith,
    begins,
    c.last_end.ensures,
    c.from.view_is,
    c.last_end-2.view_is,
    c.if-last_end-from.true,
  ));
}
