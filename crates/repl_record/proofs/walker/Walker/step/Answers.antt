-- A record whole at once; and the moves of a step: a fault, the end of a record, or one move more; and what they answer.
use Rattle.std.proofs.Common.{◌≡◌, ℕ, ◌+◌, ◌-◌, ◌^◌, ◌≤◌, List, [], ◌++◌, length, take, drop, length-append, sym, ◌∙◌, subst, arith}
use Rattle.std.proofs.lemmas.Bool.{iff_false}
use Rattle.std.proofs.lemmas.List.{length-drop, length-take, take_all, take_rest}
use Rattle.repl_lsn.specs.Segment.{IsSegSize}
use Rattle.repl_page.specs.declared.ident.Ident.{Ident}
use Rattle.repl_record.specs.declared.answer.WalkStep.{WalkStep}
use Rattle.repl_record.specs.declared.walker.Walker.{Walker}
use Rattle.repl_record.specs.Record.{start_of}
use Rattle.repl_record.specs.Judging.{Answers, IsBeginning, IsFirstFault, IsWhole}
use Rattle.repl_record.specs.Walker.{AreOn, GoesOn, Stands, position}
use Rattle.repl_record.specs.Moves.{Reached, IsAtEnd}
use Rattle.repl_record.proofs.WalkerAtOnce.{stands_at_once, whole_at_once}
use Rattle.repl_record.proofs.WalkerSteps.{Walked, begins_next, fault_in_rest, part_of_rest, passes_from, rest_on, walked_on, whole_from}
use Rattle.repl_record.proofs.walker.Walker.step.Goals as goal

-- the pages of the rest are on the timeline, from where the walker stands
pages_on : (old w : Walker) (timeline : ℕ → ℕ) (tli used : ℕ) (bytes : List ℕ) → Walked old w tli bytes used
    → AreOn timeline tli (position old) (length bytes) → AreOn timeline tli (position w) (length (drop used bytes))
pages_on old w timeline tli used bytes walked on = subst (λ (p : ℕ). AreOn timeline tli p (length (drop used bytes))) (sym walked.past)
    (rest_on timeline tli (position old) used bytes walked.within on)

pub returns-in-Some-image_at_once-clause-answers : goal.returns-in-Some-image_at_once-clause-answers
returns-in-Some-image_at_once-clause-answers c timeline from prev log stands on =
    let old : Walker = c.args.self.now in
    let bytes = c.args.bytes.now in
    let image = c.in-Some-image_at_once.ensures in
    let Told : WalkStep → Type 0 = λ answer. Answers old.ident timeline from prev (log ++ bytes) answer in
    subst Told (sym c.pass_image.ensures.told) (whole_at_once old timeline from prev log bytes c.in-Some-image_at_once.taken image.0 image.1
    (λ i. omega (arith, c.type_inv.bytes i)) stands)

pub returns-in-Some-image_at_once-clause-goes_on : goal.returns-in-Some-image_at_once-clause-goes_on
returns-in-Some-image_at_once-clause-goes_on c timeline from prev log stands on =
    let old : Walker = c.args.self.now in
    let bytes = c.args.bytes.now in
    let n = c.in-Some-image_at_once.taken in
    let image = c.in-Some-image_at_once.ensures in
    let low : old.at + n ≤ 2 ^ 63 = omega (arith, c.requires, image.1.within) in
    let stood = stands_at_once old timeline from prev log bytes n image.0 image.1 low stands in
    let Stood : Walker → Type 0 = λ now. Stands now timeline (old.at + n) old.at [] in
    let Told : WalkStep → Type 0 = λ answer. GoesOn c.pass_image.new.self timeline from prev log bytes answer in
    subst Told (sym c.pass_image.ensures.told) (stood.0, subst Stood (sym c.pass_image.ensures.passed) stood.1)

pub returns-in-Err-clause-answers : goal.returns-in-Err-clause-answers
returns-in-Err-clause-answers c timeline from prev log stands on =
    let old = c.args.self.now in
    let w : Walker = c.loop-used.self in
    let bytes = c.args.bytes.now in
    let used = c.loop-used.used in
    let walked = c.loop-used.invariant in
    let refusal = c.in-Err.refusal in
    let Fault : List ℕ → Type 0 = λ rest. AreOn timeline c.args.tli (position w) (length rest)
    → IsFirstFault w.ident timeline from prev ((log ++ take used bytes) ++ rest) refusal.at refusal.why in
    let moved : Fault (drop used bytes) = subst Fault (take_rest bytes used) (λ rest_is_on. c.in-Err.ensures.moved timeline from prev (log
    ++ take used bytes) (walked.stands timeline from prev log stands on) rest_is_on) in
    let fault = fault_in_rest w.ident timeline from prev log bytes used refusal.at refusal.why
    (moved (pages_on old w timeline c.args.tli used bytes walked on)) in
    let Same : Ident → Type 0 = λ ident. IsFirstFault ident timeline from prev (log ++ bytes) refusal.at refusal.why in
    let Told : WalkStep → Type 0 = λ answer. Answers old.ident timeline from prev (log ++ bytes) answer in
    subst Told (sym c.refuse.ensures.told) (subst Same walked.same.0 fault)

-- what the last move has reached
reached_in : (w new : Walker) (timeline : ℕ → ℕ) (tli from prev used taken : ℕ) (log bytes : List ℕ) → used ≤ length bytes
    → (AreOn timeline tli (position w) (length (take (length bytes - used) (drop used bytes)))
    → Reached new timeline from prev ((log ++ take used bytes) ++ take taken (take (length bytes - used) (drop used bytes))))
    → AreOn timeline tli (position w) (length (drop used bytes)) → Reached new timeline from prev (log ++ take (used + taken) bytes)
reached_in w new timeline tli from prev used taken log bytes within moved on =
    let Moves : List ℕ → Type 0 = λ rest. AreOn timeline tli (position w) (length rest)
    → Reached new timeline from prev ((log ++ take used bytes) ++ take taken rest) in
    let After : List ℕ → Type 0 = λ l. Reached new timeline from prev l in
    subst After (part_of_rest log bytes used taken within) (subst Moves (take_rest bytes used) moved on)

pub returns-then-is_over-clause-answers : goal.returns-then-is_over-clause-answers
returns-then-is_over-clause-answers c timeline from prev log stands on =
    let old = c.args.self.now in
    let w : Walker = c.loop-used.self in
    let new : Walker = c.advance.new.self in
    let bytes = c.args.bytes.now in
    let used = c.loop-used.used in
    let taken = c.in-Ok.taken in
    let walked = c.loop-used.invariant in
    let same = c.in-Ok.ensures.same in
    let took = c.in-Ok.ensures.took in
    let reached = reached_in w new timeline c.args.tli from prev used taken log bytes walked.within (c.in-Ok.ensures.moved timeline from
    prev (log ++ take used bytes) (walked.stands timeline from prev log stands on)) (pages_on old w timeline c.args.tli used bytes
    walked on) in
    let end : IsAtEnd new = c.is_over.ensures.0 c.if-is_over.true in
    let size : IsSegSize new.ident.size = subst (λ (ident : Ident). IsSegSize ident.size) (sym same.0) c.in-Ok.ensures.size in
    let fits : used + taken ≤ length bytes = omega (
      arith,
      took.1,
      walked.within,
      length-take (length bytes - used) (drop used bytes),
      length-drop used bytes,
    ) in
    let whole = whole_from new timeline from prev log bytes (used + taken) size fits (omega (arith, took.0)) reached end in
    let low : new.from ≤ 2 ^ 63 = omega (arith, reached.keeps.begins, reached.keeps.past, took.2, walked.past, c.requires, fits) in
    let next = c.begin_next.ensures.next low in
    let Same : Ident → Type 0 = λ ident. IsWhole ident timeline from prev (log ++ bytes) (start_of new.ident.size new.from) new.at in
    let Told : WalkStep → Type 0 = λ answer. Answers old.ident timeline from prev (log ++ bytes) answer in
    subst Told (sym next.0) (subst Same (same.0 ∙ walked.same.0) whole)

pub returns-then-is_over-clause-goes_on : goal.returns-then-is_over-clause-goes_on
returns-then-is_over-clause-goes_on c timeline from prev log stands on =
    let old = c.args.self.now in
    let w : Walker = c.loop-used.self in
    let new : Walker = c.advance.new.self in
    let bytes = c.args.bytes.now in
    let used = c.loop-used.used in
    let taken = c.in-Ok.taken in
    let walked = c.loop-used.invariant in
    let took = c.in-Ok.ensures.took in
    let reached = reached_in w new timeline c.args.tli from prev used taken log bytes walked.within (c.in-Ok.ensures.moved timeline from
    prev (log ++ take used bytes) (walked.stands timeline from prev log stands on)) (pages_on old w timeline c.args.tli used bytes
    walked on) in
    let end : IsAtEnd new = c.is_over.ensures.0 c.if-is_over.true in
    let fits : used + taken ≤ length bytes = omega (
      arith,
      took.1,
      walked.within,
      length-take (length bytes - used) (drop used bytes),
      length-drop used bytes,
    ) in
    let high : new.at ≤ 2 ^ 63 = omega (arith, took.2, walked.past, c.requires, fits) in
    let low : new.from ≤ 2 ^ 63 = omega (arith, reached.keeps.begins, reached.keeps.past, high) in
    let next = c.begin_next.ensures.next low in
    let place : from + length log + (used + taken) ≡ new.at = omega (
      arith,
      reached.keeps.past,
      length-append log (take (used + taken) bytes),
      length-take (used + taken) bytes,
      fits,
    ) in
    let Stood : Walker → Type 0 = λ now. Stands now timeline new.at (start_of new.ident.size new.from) [] in
    let Told : WalkStep → Type 0 = λ answer. GoesOn c.begin_next.new.self timeline from prev log bytes answer in
    subst Told (sym next.0) (
      place,
      subst Stood (sym next.1) (begins_next new timeline from prev (log
          ++ take (used + taken) bytes) reached end high),
    )

pub returns-then-is_over-clause-passes : goal.returns-then-is_over-clause-passes
returns-then-is_over-clause-passes c =
    let bytes = c.args.bytes.now in
    let used = c.loop-used.used in
    let taken = c.in-Ok.taken in
    let walked = c.loop-used.invariant in
    let took = c.in-Ok.ensures.took in
    let fits : used + taken ≤ length bytes = omega (
      arith,
      took.1,
      walked.within,
      length-take (length bytes - used) (drop used bytes),
      length-drop used bytes,
    ) in
    passes_from c.args.self.now c.begin_next.new.self (length bytes) c.advance.new.self.at (used + taken) c.begin_next.result
    c.begin_next.ensures.ended (omega (arith, took.0)) fits (omega (arith, c.begin_next.ensures.position, took.2, walked.past))

pub loop-used-preserved : goal.loop-used-preserved
loop-used-preserved c =
    let old = c.args.self.now in
    let w : Walker = c.loop-used.self in
    let new : Walker = c.advance.new.self in
    let bytes = c.args.bytes.now in
    let used = c.loop-used.used in
    let taken = c.in-Ok.taken in
    let After : List ℕ → Type 0 = λ rest. (timeline : ℕ → ℕ) (from prev : ℕ) (log : List ℕ) → Stands w timeline from prev log
    → AreOn timeline c.args.tli (position w) (length rest) → Reached new timeline from prev (log ++ take taken rest) in
    let Fits : List ℕ → Type 0 = λ rest. taken ≤ length rest in
    let took = c.in-Ok.ensures.took in
    walked_on old w new c.args.tli bytes used taken c.loop-used.invariant (subst Fits (take_rest bytes used) took.1) took.2
    c.in-Ok.ensures.same (subst After (take_rest bytes used) c.in-Ok.ensures.moved) (iff_false c.is_over.ensures c.if-is_over.false)

pub returns-clause-answers : goal.returns-clause-answers
returns-clause-answers c timeline from prev log stands on =
    let walked = c.loop-used.invariant in
    let bytes = c.args.bytes.now in
    let all : take c.loop-used.used bytes ≡ bytes = take_all c.loop-used.used bytes (omega arith) in
    let Begins : List ℕ → Type 0 = λ part. IsBeginning c.loop-used.self.ident timeline from prev (log ++ part) in
    let Same : Ident → Type 0 = λ ident. IsBeginning ident timeline from prev (log ++ bytes) in
    subst Same walked.same.0 (subst Begins all (walked.stands timeline from prev log stands on).beginning)

pub returns-clause-goes_on : goal.returns-clause-goes_on
returns-clause-goes_on c timeline from prev log stands on =
    let bytes = c.args.bytes.now in
    let all : take c.loop-used.used bytes ≡ bytes = take_all c.loop-used.used bytes (omega arith) in
    let After : List ℕ → Type 0 = λ part. Stands c.loop-used.self timeline from prev (log ++ part) in
    subst After all (c.loop-used.invariant.stands timeline from prev log stands on)
