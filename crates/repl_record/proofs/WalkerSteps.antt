-- What a walker has done in a step so far, and what it answers.
use Rattle.std.proofs.Common.{◌≡◌, ℕ, ◌+◌, ◌-◌, ◌^◌, ◌<◌, ◌≤◌, List, [], ◌++◌, length, take, drop, None, refl, sym, ap, ◌∙◌, subst, inl, inr, arith, length-append, append_assoc}
use Rattle.std.proofs.Math.Seq.{take-add, take-append-add}
use Rattle.std.proofs.lemmas.Bool.{cases_Bool, cases_lt, cond-false, cond-true}
use Rattle.std.proofs.lemmas.List.{take-append-drop, take-take, length-take, length-drop, take_all}
use Rattle.repl_lsn.specs.Segment.{IsSegSize}
use Rattle.repl_page.specs.declared.ident.Ident.{Ident}
use Rattle.repl_page.specs.Page.{header_length, in_header, page_start}
use Rattle.repl_record.specs.declared.answer.WalkReason.{WalkReason}
use Rattle.repl_record.specs.declared.answer.WalkStep.{WalkStep}
use Rattle.repl_record.specs.declared.answer.WalkStep.TheVariants as step
use Rattle.repl_record.specs.declared.walker.Walker.{Walker}
use Rattle.repl_record.specs.Record.{IsImage, start_of}
use Rattle.repl_record.specs.Judging.{IsBeginning, IsFirstFault, IsWhole}
use Rattle.repl_record.specs.Walker.{AreOn, Passes, Stands, position}
use Rattle.repl_record.specs.Moves.{IsAtEnd, IsEnded, IsOfOneLog, Reached, renewed}
use Rattle.repl_record.proofs.Pages.{header_is}
use Rattle.repl_record.proofs.JudgingCalm.{IsCalm}
use Rattle.repl_record.proofs.ImageMade.{image_from_over}
use Rattle.repl_record.proofs.WalkerAtEnds.{begun, over_from, over_tells}

-- the walker has gone through so many of the bytes, and no record ended
pub record Walked (old new : Walker) (tli : ℕ) (bytes : List ℕ) (used : ℕ) : Type 0 where
  pub within : used ≤ length bytes
  pub past : new.at ≡ old.at + used
  pub same : IsOfOneLog old new
  pub open_still : old.refused ≡ None
  pub stands : (timeline : ℕ → ℕ) (from prev : ℕ) (log : List ℕ) → Stands old timeline from prev log
      → AreOn timeline tli (position old) (length bytes) → Stands new timeline from prev (log ++ take used bytes)

-- pages that begin in the rest of the bytes begin in the bytes
pub rest_on : (timeline : ℕ → ℕ) (tli at used : ℕ) (bytes : List ℕ) → used ≤ length bytes → AreOn timeline tli at (length bytes)
    → AreOn timeline tli (at + used) (length (drop used bytes))
rest_on timeline tli at used bytes within on page is from below = on page is (omega arith) (omega (arith, length-drop used bytes))

-- a part of the rest
pub part_of_rest : (log bytes : List ℕ) (used taken : ℕ) → used ≤ length bytes → (log ++ take used bytes)
    ++ take taken (drop used bytes) ≡ log ++ take (used + taken) bytes
part_of_rest log bytes used taken within = append_assoc log (take used bytes) (take taken (drop used bytes))
    ∙ ap (λ (t : List ℕ). log ++ t) (sym (take-add used taken bytes))

-- where no record ends, the walker stands after what it has reached
stands_from : (w : Walker) (timeline : ℕ → ℕ) (from prev : ℕ) (log : List ℕ) → Reached w timeline from prev log → ¬ IsAtEnd w
    → Stands w timeline from prev log
stands_from w timeline from prev log reached none = record { keeps = reached.keeps; beginning = beginning }
  where
    beginning : IsBeginning w.ident timeline from prev log
    beginning m below =
        elim (cases_lt m (length log)) [
          | inl inside ↦ reached.open_before m inside
          | inr end ↦
              let P : List ℕ → Type 0 = λ l. IsCalm w.ident timeline from prev l in
              subst P (sym (take_all m log end)) (λ over. none (over_tells w timeline from prev log reached.keeps over), reached.right)
        ]

-- one move more
pub walked_on : (old w new : Walker) (tli : ℕ) (bytes : List ℕ) (used taken : ℕ) → Walked old w tli bytes used
    → taken ≤ length (drop used bytes) → new.at ≡ w.at + taken → IsOfOneLog w new
    → ((timeline : ℕ → ℕ) (from prev : ℕ) (log : List ℕ) → Stands w timeline from prev log
    → AreOn timeline tli (position w) (length (drop used bytes)) → Reached new timeline from prev (log ++ take taken (drop used bytes)))
    → ¬ IsAtEnd new → Walked old new tli bytes (used + taken)
walked_on old w new tli bytes used taken walked within at same moved none = record {
  within = omega (arith, walked.within, length-drop used bytes);
  past = omega (arith, walked.past, at);
  same = (same.0 ∙ walked.same.0, same.1 ∙ walked.same.1, same.2 ∙ walked.same.2, same.3 ∙ walked.same.3);
  open_still = walked.open_still;
  stands = λ timeline from prev log stands on.
      let After : List ℕ → Type 0 = λ l. Stands new timeline from prev l in
      let rest : AreOn timeline tli (position w) (length (drop used bytes)) =
      subst (λ (p : ℕ). AreOn timeline tli p (length (drop used bytes))) (sym walked.past) (rest_on timeline tli (position old) used
      bytes walked.within on) in
      let reached = moved timeline from prev (log ++ take used bytes) (walked.stands timeline from prev log stands on) rest in
      subst After (part_of_rest log bytes used taken walked.within) (stands_from new timeline from prev ((log ++ take used bytes)
      ++ take taken (drop used bytes)) reached none);
}

-- a record that ended is whole
pub whole_from : (w : Walker) (timeline : ℕ → ℕ) (from prev : ℕ) (log bytes : List ℕ) (used : ℕ) → IsSegSize w.ident.size
    → used ≤ length bytes → 0 < used → Reached w timeline from prev (log ++ take used bytes) → IsAtEnd w
    → IsWhole w.ident timeline from prev (log ++ bytes) (start_of w.ident.size w.from) w.at
whole_from w timeline from prev log bytes used is within some reached end =
    let k = reached.keeps in
    let all = log ++ take used bytes in
    let n = length log + used in
    let long : length all ≡ n = omega (arith, length-append log (take used bytes), length-take used bytes) in
    let at : w.at - from ≡ n = omega (arith, k.past, long) in
    let front : take n (log ++ bytes) ≡ all = take-append-add log bytes used in
    let made = image_from_over w.ident timeline from prev all is k.aligned k.prev_fits k.are_bytes reached.open_before reached.right
    (over_from w timeline from prev all k end) in
    let P : List ℕ → Type 0 = λ l. IsCalm w.ident timeline from prev l in
    let Image : List ℕ → Type 0 = λ l. IsImage w.ident timeline from prev made.0 l in
    record {
      item = made.0;
      begins = ap (start_of w.ident.size) k.begins;
      after = omega (arith, k.past, long);
      within = omega (arith, k.past, long, length-append log bytes);
      first = λ m below. subst P (ap (take m) (sym front) ∙ take-take m n (log
          ++ bytes) (omega (arith, at))) (reached.open_before m (omega (arith, at, long)));
      image = subst Image (sym (ap (λ (i : ℕ). take i (log ++ bytes)) at ∙ front)) made.1;
    }

-- and the walker stands at the beginning of the next
pub begins_next : (w : Walker) (timeline : ℕ → ℕ) (from prev : ℕ) (log : List ℕ) → Reached w timeline from prev log → IsAtEnd w
    → w.at ≤ 2 ^ 63 → Stands (renewed w) timeline w.at (start_of w.ident.size w.from) []
begins_next w timeline from prev log reached end low =
    begun (renewed w) timeline (start_of w.ident.size w.from) reached.keeps.not_refused refl refl refl end.rounded refl
    (start_low w.ident.size w.from (omega (arith, reached.keeps.past, reached.keeps.begins)))
  where
    start_low : (size at : ℕ) → at ≤ 2 ^ 63 → start_of size at < 2 ^ 64
    start_low size at below =
        elim (cases_Bool (in_header size at)) [
          | inl inside ↦ omega (arith, header_is size at, cond-true (in_header size at) (page_start at + header_length size at) at inside)
          | inr outside ↦ omega (arith, cond-false (in_header size at) (page_start at + header_length size at) at outside)
        ]

-- a fault in the rest of the bytes is one in the bytes
pub fault_in_rest : (ident : Ident) (timeline : ℕ → ℕ) (from prev : ℕ) (log bytes : List ℕ) (used at : ℕ) (reason : WalkReason)
    → IsFirstFault ident timeline from prev ((log ++ take used bytes) ++ drop used bytes) at reason
    → IsFirstFault ident timeline from prev (log ++ bytes) at reason
fault_in_rest ident timeline from prev log bytes used at reason fault =
    let Fault : List ℕ → Type 0 = λ l. IsFirstFault ident timeline from prev l at reason in
    subst Fault (append_assoc log (take used bytes) (drop used bytes) ∙ ap (λ (t : List ℕ). log ++ t) (take-append-drop used bytes)) fault

-- the bytes that were taken up to a record's end are some of those that there are
pub passes_from : (old new : Walker) (count at used : ℕ) (answer : WalkStep) → IsEnded answer at used → 0 < used → used ≤ count
    → new.at ≡ old.at + used → Passes old new count answer
passes_from old new count at used (step.Whole start end taken) ended some within past = (
  omega (arith, ended.1),
  omega (arith, ended.1),
  omega (arith, ended.1),
)
passes_from old new count at used step.Short ended some within past = absurd ended
passes_from old new count at used (step.Bad place reason) ended some within past = absurd ended
