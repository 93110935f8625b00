-- A prefix of records that is cut is one: the records up to the cut, and the beginning of the one that is cut.
use Rattle.std.proofs.Common.{◌≡◌, ℕ, ◌+◌, ◌-◌, ◌%◌, ◌<◌, ◌≤◌, List, length, take, drop, sym, ap, ◌∙◌, subst, inl, inr, arith, length-drop}
use Rattle.std.proofs.lemmas.Bool.{cases_lt}
use Rattle.std.proofs.lemmas.List.{drop-take, length-take, take-take}
use Rattle.repl_lsn.specs.Segment.{IsSegSize}
use Rattle.repl_page.specs.declared.ident.Ident.{Ident}
use Rattle.repl_record.specs.Judging.{IsBeginning, IsOpenBefore, IsOver, IsRight}
use Rattle.repl_record.specs.Log.{RecordEnd, origin, next, IsPrefixOfRecords}
use Rattle.repl_record.proofs.LogAnswers.{front_open}
use Rattle.repl_record.proofs.LogChains.{placed}
use Rattle.repl_record.proofs.LogEnds.{kept_by_cut}

-- a front of an open log is a beginning
front_begins : (ident : Ident) (timeline : ℕ → ℕ) (from prev : ℕ) (log : List ℕ) (n k : ℕ) → IsOpenBefore ident timeline from prev log n
    → ((m : ℕ) → m ≤ k → m ≤ length log → m < n) → IsBeginning ident timeline from prev (take k log)
front_begins ident timeline from prev log n k opened before m below =
    let within : m ≤ k = omega (arith, length-take k log) in
    subst (λ (t : List ℕ). (¬ IsOver ident.size from t) × IsRight ident timeline from prev t) (sym (take-take m k log within))
    (opened m (before m within (omega (arith, length-take k log))))

-- what stands past a record end in the log that is cut
cut_begins : (ident : Ident) (timeline : ℕ → ℕ) (from c end last n : ℕ) (log : List ℕ) → from ≤ end → end ≤ from + c
    → IsOpenBefore ident timeline end last (drop (end - from) log) n
    → ((m : ℕ) → m ≤ c - (end - from) → m ≤ length (drop (end - from) log) → m < n)
    → IsBeginning ident timeline end last (drop (end - from) (take c log))
cut_begins ident timeline from c end last n log above within opened before =
    let place = end - from in
    let cut : drop place (take c log) ≡ take (c - place) (drop place log) =
    ap (λ (k : ℕ). drop place (take k log)) (omega arith) ∙ drop-take place (c - place) log in
    subst (IsBeginning ident timeline end last) (sym cut)
    (front_begins ident timeline end last (drop (end - from) log) n (c - (end - from)) opened before)

-- the cut is within one of the records
cut_record : (ident : Ident) (timeline : ℕ → ℕ) (from prev : ℕ) (log : List ℕ) (c end last : ℕ) → IsSegSize ident.size → from % 8 ≡ 0
    → RecordEnd ident timeline from prev log end last → from + c < end → IsPrefixOfRecords ident timeline from prev (take c log)
cut_record ident timeline from prev log c end last size_is eight origin below = absurd (omega arith)
cut_record ident timeline from prev log c _ _ size_is eight (next end last item n before fits image) below =
    let place = placed ident timeline from prev log end last eight before in
    elim (cases_lt (from + c) end) [
      | inl earlier ↦ cut_record ident timeline from prev log c end last size_is eight before earlier
      | inr within ↦ record {
        end = end;
        last = last;
        records = kept_by_cut ident timeline from prev log c end last before within;
        beginning = cut_begins ident timeline from c end last n log place.0 within
            (front_open ident timeline end last n item (drop (end - from) log) size_is place.1 (omega (
              arith,
              length-drop (end - from) log,
            )) image) (λ m few all. omega (arith, place.0));
      }
    ]

pub cut_prefix : (ident : Ident) (timeline : ℕ → ℕ) (from prev : ℕ) (log : List ℕ) (c : ℕ) → IsSegSize ident.size → from % 8 ≡ 0
    → IsPrefixOfRecords ident timeline from prev log → IsPrefixOfRecords ident timeline from prev (take c log)
cut_prefix ident timeline from prev log c size_is eight records =
    let end = records.end in
    let last = records.last in
    let place = placed ident timeline from prev log end last eight records.records in
    elim (cases_lt (from + c) end) [
      | inl earlier ↦ cut_record ident timeline from prev log c end last size_is eight records.records earlier
      | inr within ↦ record {
        end = end;
        last = last;
        records = kept_by_cut ident timeline from prev log c end last records.records within;
        beginning = cut_begins ident timeline from c end last (length (drop (end - from) log) + 1) log place.0 within records.beginning
            (λ m few all. omega arith);
      }
    ]
