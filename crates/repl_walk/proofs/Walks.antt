-- A walk over a piece of the log, record by record: what the walker has gone through, and what it answers in the end.
use Rattle.std.proofs.Common.{
  ◌≡◌,
  ℕ,
  ◌+◌,
  ◌-◌,
  ◌%◌,
  ◌≤◌,
  List,
  [],
  ◌++◌,
  length,
  take,
  drop,
  sym,
  ap,
  ◌∙◌,
  subst,
  arith,
  append_assoc,
  length-append,
  length-drop,
}
use Rattle.std.proofs.lemmas.List.{drop_all, drop-append-le, length-take, take-append-drop, take_all}
use Rattle.std.proofs.Math.Seq.{take-append-add}
use Rattle.repl_lsn.specs.Segment.{IsSegSize}
use Rattle.repl_page.specs.declared.ident.Ident.{Ident}
use Rattle.repl_record.specs.declared.answer.WalkReason.{WalkReason}
use Rattle.repl_record.specs.declared.answer.WalkStep.{WalkStep}
use Rattle.repl_record.specs.declared.answer.WalkStep.TheVariants as step
use Rattle.repl_record.specs.declared.walker.Walker.{Walker}
use Rattle.repl_record.specs.Record.{IsImage, start_of}
use Rattle.repl_record.specs.Judging.{Answers, IsFirstFault}
use Rattle.repl_record.specs.Log.{RecordEnd, origin, next, IsPrefixOfRecords, IsWholeEnd}
use Rattle.repl_record.specs.Walker.{AreOn, GoesOn, Passes, Refuses, Stands, identity, last_end, last_start, position}
use Rattle.repl_record.proofs.LogChains.{greatest_end}
use Rattle.repl_record.proofs.LogEnds.{from_le, kept_by_more}
use Rattle.repl_walk.specs.Walks.{HasRefused, HasWalked}
use Rattle.repl_walk.proofs.Ends.{ends_within}
use Rattle.repl_walk.proofs.Faults.{fault_greatest, fault_refutes}

-- what stands past the walker's end, where more bytes come
rest_more : (w : Walker) (timeline : ℕ → ℕ) (from prev : ℕ) (log more : List ℕ) → HasWalked w timeline from prev log
    → drop (last_end w - from) (log ++ more) ≡ drop (last_end w - from) log ++ more
rest_more w timeline from prev log more is =
    let above = from_le w.ident timeline from prev log (last_end w) (last_start w) is.records in
    let within = ends_within w.ident timeline from prev log (last_end w) (last_start w) is.records in
    drop-append-le (last_end w - from) log more (omega arith)

-- ---- a step

-- it took these bytes, after which a record ended
pub whole_step : (w new : Walker) (timeline : ℕ → ℕ) (from prev start end used : ℕ) (log bytes : List ℕ)
    → HasWalked w timeline from prev log → identity new ≡ identity w → used ≤ length bytes
    → Answers (identity w) timeline (last_end w) (last_start w) (drop (last_end w - from) log ++ bytes) (step.Whole start end used)
    → GoesOn new timeline (last_end w) (last_start w) (drop (last_end w - from) log) bytes (step.Whole start end used)
    → HasWalked new timeline from prev (log ++ take used bytes)
whole_step w new timeline from prev start end used log bytes is same within answer on =
    let ident = identity w in
    let e = last_end w in
    let l = last_start w in
    let rest = drop (e - from) log in
    let piece = take used bytes in
    let above = from_le ident timeline from prev log e l is.records in
    let below = ends_within ident timeline from prev log e l is.records in
    let n = end - e in
    let counted = length-drop (e - from) log in
    let taken = length-take used bytes in
    let more = length-append log piece in
    let long : length (rest ++ piece) ≡ n = omega (arith, length-append rest piece, on.0) in
    let part : take n (rest ++ bytes) ≡ rest ++ piece =
    ap (λ (k : ℕ). take k (rest ++ bytes)) (omega (arith, on.0)) ∙ take-append-add rest bytes used in
    let all : take n (drop (e - from) (log ++ piece)) ≡ rest ++ piece =
    ap (take n) (rest_more w timeline from prev log piece is) ∙ take_all n (rest ++ piece) (omega (arith, long)) in
    let record_end : RecordEnd ident timeline from prev (log ++ piece) (e + n) (start_of ident.size e) =
    next e l answer.item n (kept_by_more ident timeline from prev log piece e l is.records) (omega (arith, more, on.0))
    (subst (IsImage ident timeline e l answer.item) (part ∙ sym all) answer.image) in
    let at : e + n ≡ last_end new = omega (arith, on.0, on.1.keeps.begins) in
    let begun : start_of ident.size e ≡ last_start new = sym answer.begins ∙ sym on.1.keeps.follows in
    let Ends : Ident → ℕ → ℕ → Type 0 = λ i. λ a. λ b. RecordEnd i timeline from prev (log ++ piece) a b in
    let none : drop (last_end new - from) (log ++ piece) ≡ [] = drop_all (last_end new - from) (log ++ piece) (omega (
      arith,
      more,
      on.0,
      on.1.keeps.begins,
    )) in
    record {
      aligned = is.aligned;
      records = subst (λ (i : Ident). Ends i (last_end new) (last_start new)) (sym same)
          (subst (λ (b : ℕ). Ends ident (last_end new) b) begun (subst (λ (a : ℕ). Ends ident a (start_of ident.size e)) at record_end));
      stands = subst (λ (t : List ℕ). Stands new timeline (last_end new) (last_start new) t) (sym none)
          (subst (λ (b : ℕ). Stands new timeline (last_end new) b []) (sym on.1.keeps.follows)
          (subst (λ (a : ℕ). Stands new timeline a start []) (sym on.1.keeps.begins) on.1));
    }

-- it took all bytes, and no record ended
pub short_step : (w new : Walker) (timeline : ℕ → ℕ) (from prev : ℕ) (log bytes : List ℕ)
    → HasWalked w timeline from prev log → identity new ≡ identity w
    → GoesOn new timeline (last_end w) (last_start w) (drop (last_end w - from) log) bytes step.Short
    → HasWalked new timeline from prev (log ++ bytes)
short_step w new timeline from prev log bytes is same on =
    let e = last_end w in
    let l = last_start w in
    let Ends : Ident → ℕ → ℕ → Type 0 = λ i. λ a. λ b. RecordEnd i timeline from prev (log ++ bytes) a b in
    let Stood : ℕ → ℕ → Type 0 = λ a. λ b. Stands new timeline a b (drop (a - from) (log ++ bytes)) in
    let at : e ≡ last_end new = sym on.keeps.begins in
    let begun : l ≡ last_start new = sym on.keeps.follows in
    let stood : Stood e l = subst (Stands new timeline e l) (sym (rest_more w timeline from prev log bytes is)) on in
    record {
      aligned = is.aligned;
      records = subst (λ (i : Ident). Ends i (last_end new) (last_start new)) (sym same)
          (subst (λ (b : ℕ). Ends (identity w) (last_end new) b) begun (subst (λ (a : ℕ). Ends (identity w) a l) at
          (kept_by_more (identity w) timeline from prev log bytes e l is.records)));
      stands = subst (λ (b : ℕ). Stood (last_end new) b) begun (subst (λ (a : ℕ). Stood a l) at stood);
    }

-- it met a fault
pub bad_step : (w new : Walker) (timeline : ℕ → ℕ) (from prev at : ℕ) (reason : WalkReason) (log bytes : List ℕ)
    → HasWalked w timeline from prev log → identity new ≡ identity w
    → Answers (identity w) timeline (last_end w) (last_start w) (drop (last_end w - from) log ++ bytes) (step.Bad at reason)
    → GoesOn new timeline (last_end w) (last_start w) (drop (last_end w - from) log) bytes (step.Bad at reason)
    → HasRefused new timeline from prev (log ++ bytes) at reason
bad_step w new timeline from prev at reason log bytes is same answer on =
    let e = last_end w in
    let l = last_start w in
    let Ends : Ident → ℕ → ℕ → Type 0 = λ i. λ a. λ b. RecordEnd i timeline from prev (log ++ bytes) a b in
    let Wrong : Ident → ℕ → ℕ → Type 0 = λ i. λ a. λ b. IsFirstFault i timeline a b (drop (a - from) (log ++ bytes)) at reason in
    let wrong : Wrong (identity w) e l =
    subst (λ (t : List ℕ). IsFirstFault (identity w) timeline e l t at reason) (sym (rest_more w timeline from prev log bytes is)) answer in
    let moved : (P : Ident → ℕ → ℕ → Type 0) → P (identity w) e l → P (identity new) (last_end new) (last_start new) =
    λ P p. subst (λ (i : Ident). P i (last_end new) (last_start new)) (sym same)
    (subst (λ (b : ℕ). P (identity w) (last_end new) b) (sym on.2) (subst (λ (a : ℕ). P (identity w) a l) (sym on.1) p)) in
    record {
      aligned = is.aligned;
      past = record {
        records = moved Ends (kept_by_more (identity w) timeline from prev log bytes e l is.records);
        fault = moved Wrong wrong;
      };
      refuses = on.0;
    }

-- ---- what they stand for

pub walked_prefix : (w : Walker) (timeline : ℕ → ℕ) (from prev : ℕ) (log : List ℕ) → HasWalked w timeline from prev log
    → IsPrefixOfRecords (identity w) timeline from prev log
walked_prefix w timeline from prev log is = record {
  end = last_end w;
  last = last_start w;
  records = is.records;
  beginning = is.stands.beginning;
}

pub walked_whole : (w : Walker) (timeline : ℕ → ℕ) (from prev : ℕ) (log : List ℕ) → IsSegSize (identity w).size
    → HasWalked w timeline from prev log → IsWholeEnd (identity w) timeline from prev log (last_end w) (last_start w)
unfolding walked_prefix
walked_whole w timeline from prev log size_is is =
    greatest_end (identity w) timeline from prev log size_is is.aligned (walked_prefix w timeline from prev log is)

pub refused_prefix : (w : Walker) (timeline : ℕ → ℕ) (from prev at : ℕ) (reason : WalkReason) (log : List ℕ)
    → IsSegSize (identity w).size → HasRefused w timeline from prev log at reason
    → ¬ IsPrefixOfRecords (identity w) timeline from prev log
refused_prefix w timeline from prev at reason log size_is is =
    fault_refutes (identity w) timeline from prev log (last_end w) (last_start w) at reason size_is is.aligned is.past

pub refused_whole : (w : Walker) (timeline : ℕ → ℕ) (from prev at : ℕ) (reason : WalkReason) (log : List ℕ)
    → IsSegSize (identity w).size → HasRefused w timeline from prev log at reason
    → IsWholeEnd (identity w) timeline from prev log (last_end w) (last_start w)
refused_whole w timeline from prev at reason log size_is is =
    fault_greatest (identity w) timeline from prev log (last_end w) (last_start w) at reason size_is is.aligned is.past

-- ---- a walk

-- The walker has taken a part of the bytes, and these are left.
pub record Going (old w : Walker) (tli : ℕ) (bytes rest : List ℕ) : Type 0 where
  pub part : List ℕ
  pub parts : bytes ≡ part ++ rest
  pub same : identity w ≡ identity old
  pub past : position w ≡ position old + length part
  pub still : (at : ℕ) (reason : WalkReason) → Refuses old at reason → (w ≡ old) × (part ≡ [])
  pub walked : (timeline : ℕ → ℕ) (from prev : ℕ) (log : List ℕ) → HasWalked old timeline from prev log
      → AreOn timeline tli (position old) (length bytes) → HasWalked w timeline from prev (log ++ part)

-- the pages that begin in the rest are on the timeline
pub rest_on : {old w : Walker} {tli : ℕ} {bytes rest : List ℕ} (timeline : ℕ → ℕ) → Going old w tli bytes rest
    → AreOn timeline tli (position old) (length bytes) → AreOn timeline tli (position w) (length rest)
rest_on {bytes = bytes} {rest = rest} timeline going on page is from below =
    let counted = length-append going.part rest in
    on page is (omega (arith, going.past)) (omega (arith, going.past, ap length going.parts))

-- ---- where it begins

pub begun_at_end : (w : Walker) (timeline : ℕ → ℕ) (from prev : ℕ) (log : List ℕ) (last : ℕ) → from % 8 ≡ 0
    → RecordEnd (identity w) timeline from prev log (from + length log) last → Stands w timeline (from + length log) last []
    → HasWalked w timeline from prev log
begun_at_end w timeline from prev log last eight ends stands =
    let end = from + length log in
    let at : end ≡ last_end w = sym stands.keeps.begins in
    let begun : last ≡ last_start w = sym stands.keeps.follows in
    let Stood : ℕ → ℕ → Type 0 = λ a. λ b. Stands w timeline a b (drop (a - from) log) in
    let Ends : ℕ → ℕ → Type 0 = λ a. λ b. RecordEnd (identity w) timeline from prev log a b in
    let stood : Stood end last = subst (Stands w timeline end last) (sym (drop_all (end - from) log (omega arith))) stands in
    record {
      aligned = eight;
      records = subst (λ (b : ℕ). Ends (last_end w) b) begun (subst (λ (a : ℕ). Ends a last) at ends);
      stands = subst (λ (b : ℕ). Stood (last_end w) b) begun (subst (λ (a : ℕ). Stood a last) at stood);
    }

pub from_its_end : (w : Walker) (timeline : ℕ → ℕ) (from prev : ℕ) (log : List ℕ) → HasWalked w timeline from prev log
    → HasWalked w timeline (last_end w) (last_start w) (drop (last_end w - from) log)
from_its_end w timeline from prev log is =
    let rest = drop (last_end w - from) log in
    let zero : 0 ≡ last_end w - last_end w = omega arith in
    record {
      aligned = is.stands.keeps.aligned;
      records = origin;
      stands = subst (λ (k : ℕ). Stands w timeline (last_end w) (last_start w) (drop k rest)) zero is.stands;
    }

-- ---- one step more, and the last

-- what a step answers, and where it goes on, of all that the walker may stand for
abbrev pub AnswersAll : Walker → ℕ → List ℕ → WalkStep → Type 0
AnswersAll w tli bytes answer = (timeline : ℕ → ℕ) (from prev : ℕ) (log : List ℕ) → Stands w timeline from prev log
    → AreOn timeline tli (position w) (length bytes) → Answers (identity w) timeline from prev (log ++ bytes) answer

abbrev pub GoesOnAll : Walker → Walker → ℕ → List ℕ → WalkStep → Type 0
GoesOnAll w new tli bytes answer = (timeline : ℕ → ℕ) (from prev : ℕ) (log : List ℕ) → Stands w timeline from prev log
    → AreOn timeline tli (position w) (length bytes) → GoesOn new timeline from prev log bytes answer

pub going_on : (old w new : Walker) (tli start end used : ℕ) (bytes rest : List ℕ) → Going old w tli bytes rest
    → identity new ≡ identity w → Passes w new (length rest) (step.Whole start end used)
    → AnswersAll w tli rest (step.Whole start end used) → GoesOnAll w new tli rest (step.Whole start end used)
    → ((at : ℕ) (reason : WalkReason) → Refuses w at reason → (step.Whole start end used ≡ step.Bad at reason) × (new ≡ w))
    → Going old new tli bytes (drop used rest)
going_on old w new tli start end used bytes rest going same passes answers goes again = record {
  part = going.part ++ take used rest;
  parts = going.parts ∙ ap (λ (t : List ℕ). going.part ++ t) (sym (take-append-drop used rest))
      ∙ sym (append_assoc going.part (take used rest) (drop used rest));
  same = same ∙ going.same;
  past = omega (arith, passes, going.past, length-append going.part (take used rest), length-take used rest);
  still = λ at reason refuses.
      let now : Refuses w at reason = subst (λ (v : Walker). Refuses v at reason) (sym (going.still at reason refuses).0) refuses in
      let bad : step.Whole start end used ≡ step.Bad at reason = (again at reason now).0 in
      absurd cc;
  walked = λ timeline from prev log is on.
      let now = going.walked timeline from prev log is on in
      let rest_is = drop (last_end w - from) (log ++ going.part) in
      let pages = rest_on timeline going on in
      subst (λ (t : List ℕ). HasWalked new timeline from prev t) (append_assoc log going.part (take used rest))
      (whole_step w new timeline from prev start end used (log ++ going.part) rest now same passes.1
      (answers timeline (last_end w) (last_start w) rest_is now.stands pages)
      (goes timeline (last_end w) (last_start w) rest_is now.stands pages));
}

-- the part and the rest after the log are the piece after it
whole_piece : (log bytes part rest : List ℕ) → bytes ≡ part ++ rest → (log ++ part) ++ rest ≡ log ++ bytes
whole_piece log bytes part rest parts = append_assoc log part rest ∙ ap (λ (t : List ℕ). log ++ t) (sym parts)

pub short_walk : (old w new : Walker) (tli : ℕ) (bytes rest : List ℕ) → Going old w tli bytes rest → identity new ≡ identity w
    → GoesOnAll w new tli rest step.Short
    → (timeline : ℕ → ℕ) (from prev : ℕ) (log : List ℕ) → HasWalked old timeline from prev log
    → AreOn timeline tli (position old) (length bytes) → HasWalked new timeline from prev (log ++ bytes)
short_walk old w new tli bytes rest going same goes timeline from prev log is on =
    let now = going.walked timeline from prev log is on in
    subst (λ (t : List ℕ). HasWalked new timeline from prev t) (whole_piece log bytes going.part rest going.parts)
    (short_step w new timeline from prev (log ++ going.part) rest now same (goes timeline (last_end w) (last_start w)
    (drop (last_end w - from) (log ++ going.part)) now.stands (rest_on timeline going on)))

pub bad_walk : (old w new : Walker) (tli at : ℕ) (reason : WalkReason) (bytes rest : List ℕ) → Going old w tli bytes rest
    → identity new ≡ identity w → AnswersAll w tli rest (step.Bad at reason) → GoesOnAll w new tli rest (step.Bad at reason)
    → (timeline : ℕ → ℕ) (from prev : ℕ) (log : List ℕ) → HasWalked old timeline from prev log
    → AreOn timeline tli (position old) (length bytes) → HasRefused new timeline from prev (log ++ bytes) at reason
bad_walk old w new tli at reason bytes rest going same answers goes timeline from prev log is on =
    let now = going.walked timeline from prev log is on in
    let rest_is = drop (last_end w - from) (log ++ going.part) in
    let pages = rest_on timeline going on in
    subst (λ (t : List ℕ). HasRefused new timeline from prev t at reason) (whole_piece log bytes going.part rest going.parts)
    (bad_step w new timeline from prev at reason (log ++ going.part) rest now same (answers timeline (last_end w) (last_start w) rest_is
    now.stands pages) (goes timeline (last_end w) (last_start w) rest_is now.stands pages))
