-- Record ends counted from one of them on are those of the log, and a log that ends with a record goes on with an image.
use Rattle.std.proofs.Common.{
  ◌≡◌,
  ℕ,
  ◌+◌,
  ◌-◌,
  ◌%◌,
  ◌≤◌,
  List,
  [],
  ◌++◌,
  length,
  take,
  drop,
  sym,
  ap,
  ◌∙◌,
  subst,
  inl,
  inr,
  arith,
  length-append,
  length-drop,
}
use Rattle.std.proofs.Math.Seq.{drop-append_seam}
use Rattle.std.proofs.lemmas.Bool.{cases_lt}
use Rattle.std.proofs.lemmas.List.{drop_all, drop-drop, take_all}
use Rattle.repl_lsn.specs.Segment.{IsSegSize}
use Rattle.repl_page.specs.declared.ident.Ident.{Ident}
use Rattle.repl_record.specs.declared.record.RecordIn.{RecordIn}
use Rattle.repl_record.specs.Record.{IsImage, start_of}
use Rattle.repl_record.specs.Judging.{IsBeginning}
use Rattle.repl_record.specs.Log.{RecordEnd, origin, next, IsPrefixOfRecords, IsWholeEnd}
use Rattle.repl_record.proofs.LogChains.{greatest_end, in_line}
use Rattle.repl_record.proofs.LogEnds.{from_le, kept_by_more}
use Rattle.repl_record.proofs.WalkerAtEnds.{nothing_begins}

-- no record ends after the log
pub ends_within : (ident : Ident) (timeline : ℕ → ℕ) (from prev : ℕ) (log : List ℕ) (end last : ℕ)
    → RecordEnd ident timeline from prev log end last → end ≤ from + length log
ends_within ident timeline from prev log end last origin = omega arith
ends_within ident timeline from prev log _ _ (next end last item n before fits image) =
    omega (arith, from_le ident timeline from prev log end last before)

-- ---- counted from an end on

-- the rest of the rest of the log
rest_of_rest : (from end later : ℕ) (log : List ℕ) → from ≤ end → end ≤ later
    → drop (later - end) (drop (end - from) log) ≡ drop (later - from) log
rest_of_rest from end later log above past = drop-drop (later - end) (end - from) log ∙ ap (λ (k : ℕ). drop k log) (omega arith)

pub joined : (ident : Ident) (timeline : ℕ → ℕ) (from prev : ℕ) (log : List ℕ) (end last later start : ℕ)
    → RecordEnd ident timeline from prev log end last → RecordEnd ident timeline end last (drop (end - from) log) later start
    → RecordEnd ident timeline from prev log later start
joined ident timeline from prev log end last later start first origin = first
joined ident timeline from prev log end last _ _ first (next later start item n before fits image) =
    let above = from_le ident timeline from prev log end last first in
    let past = from_le ident timeline end last (drop (end - from) log) later start before in
    next later start item n (joined ident timeline from prev log end last later start first before) (omega (
      arith,
      length-drop (end - from) log,
      ends_within ident timeline from prev log end last first,
    )) (subst (λ (t : List ℕ). IsImage ident timeline later start item (take n t)) (rest_of_rest from end later log above past) image)

pub prefix_joined : (ident : Ident) (timeline : ℕ → ℕ) (from prev : ℕ) (log : List ℕ) (end last : ℕ)
    → RecordEnd ident timeline from prev log end last → IsPrefixOfRecords ident timeline end last (drop (end - from) log)
    → IsPrefixOfRecords ident timeline from prev log
prefix_joined ident timeline from prev log end last first records =
    let above = from_le ident timeline from prev log end last first in
    let past = from_le ident timeline end last (drop (end - from) log) records.end records.last records.records in
    record {
      end = records.end;
      last = records.last;
      records = joined ident timeline from prev log end last records.end records.last first records.records;
      beginning = subst (IsBeginning ident timeline records.end records.last) (rest_of_rest from end records.end log above past)
          records.beginning;
    }

pub prefix_split : (ident : Ident) (timeline : ℕ → ℕ) (from prev : ℕ) (log : List ℕ) (end last : ℕ) → IsSegSize ident.size → from % 8 ≡ 0
    → RecordEnd ident timeline from prev log end last → IsPrefixOfRecords ident timeline from prev log
    → IsPrefixOfRecords ident timeline end last (drop (end - from) log)
prefix_split ident timeline from prev log end last size_is eight first records =
    let above = from_le ident timeline from prev log end last first in
    let past = (greatest_end ident timeline from prev log size_is eight records).greatest end last first in
    record {
      end = records.end;
      last = records.last;
      records = in_line ident timeline from prev log end last records.end records.last size_is eight first records.records past;
      beginning = subst (IsBeginning ident timeline records.end records.last) (sym (rest_of_rest from end records.end log above past))
          records.beginning;
    }

pub whole_joined : (ident : Ident) (timeline : ℕ → ℕ) (from prev : ℕ) (log : List ℕ) (end last whole start : ℕ) → IsSegSize ident.size
    → from % 8 ≡ 0
    → RecordEnd ident timeline from prev log end last → IsWholeEnd ident timeline end last (drop (end - from) log) whole start
    → IsWholeEnd ident timeline from prev log whole start
whole_joined ident timeline from prev log end last whole start size_is eight first is = record {
  is_end = joined ident timeline from prev log end last whole start first is.is_end;
  greatest = λ other begun ends. elim (cases_lt other end) [
    | inl before ↦ omega (arith, from_le ident timeline end last (drop (end - from) log) whole start is.is_end)
    | inr past ↦ is.greatest other begun (in_line ident timeline from prev log end last other begun size_is eight first ends past)
  ];
}

pub whole_split : (ident : Ident) (timeline : ℕ → ℕ) (from prev : ℕ) (log : List ℕ) (end last whole start : ℕ) → IsSegSize ident.size
    → from % 8 ≡ 0
    → RecordEnd ident timeline from prev log end last → IsWholeEnd ident timeline from prev log whole start
    → IsWholeEnd ident timeline end last (drop (end - from) log) whole start
whole_split ident timeline from prev log end last whole start size_is eight first is = record {
  is_end = in_line ident timeline from prev log end last whole start size_is eight first is.is_end (is.greatest end last first);
  greatest = λ other begun ends. is.greatest other begun (joined ident timeline from prev log end last other begun first ends);
}

-- ---- after the log

pub image_goes_on : (ident : Ident) (timeline : ℕ → ℕ) (from prev : ℕ) (log bytes : List ℕ) (last : ℕ) (item : RecordIn)
    → RecordEnd ident timeline from prev log (from + length log) last → IsImage ident timeline (from + length log) last item bytes
    → RecordEnd ident timeline from prev (log ++ bytes) (from + length (log ++ bytes)) (start_of ident.size (from + length log))
image_goes_on ident timeline from prev log bytes last item ends image =
    let end = from + length log in
    let size = length bytes in
    let long = length-append log bytes in
    let back : drop (end - from) (log ++ bytes) ≡ bytes = ap (λ (k : ℕ). drop k (log ++ bytes)) (omega arith)
    ∙ drop-append_seam log bytes in
    let all : take size (drop (end - from) (log ++ bytes)) ≡ bytes = ap (take size) back ∙ take_all size bytes (omega arith) in
    let ended = next end last item size (kept_by_more ident timeline from prev log bytes end last ends) (omega (arith, long))
    (subst (IsImage ident timeline end last item) (sym all) image) in
    subst (λ (k : ℕ). RecordEnd ident timeline from prev (log ++ bytes) k (start_of ident.size end)) (omega (arith, long)) ended

pub records_begin_none : (ident : Ident) (timeline : ℕ → ℕ) (from prev : ℕ) (log : List ℕ) (last : ℕ)
    → RecordEnd ident timeline from prev log (from + length log) last → IsPrefixOfRecords ident timeline from prev log
records_begin_none ident timeline from prev log last ends =
    let end = from + length log in
    let none : drop (end - from) log ≡ [] = drop_all (end - from) log (omega arith) in
    record {
      end = end;
      last = last;
      records = ends;
      beginning = subst (IsBeginning ident timeline end last) (sym none) (nothing_begins ident timeline end last);
    }
