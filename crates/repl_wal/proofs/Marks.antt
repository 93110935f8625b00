-- Where whole records end and start in a log, in numbers.
use Rattle.std.proofs.Common.{◌≡◌, ℕ, ◌+◌, ◌-◌, ◌%◌, ◌<◌, ◌≤◌, suc, List, length, take, drop, subst, arith, length-drop, length-take}
use Rattle.std.specs.Int.{next_multiple_of}
use Rattle.repl_lsn.specs.Segment.{IsSegSize}
use Rattle.repl_page.specs.declared.ident.Ident.{Ident}
use Rattle.repl_record.specs.Length.{image_end, position_past}
use Rattle.repl_record.specs.Log.{RecordEnd, IsWholeEnd, origin, next}
use Rattle.repl_record.specs.Record.{start_of}
use Rattle.repl_record.proofs.ImageLength.{position_past-least, same_image_end}
use Rattle.repl_record.proofs.LogChains.{same_last}

start_past : (size at n : ℕ) → start_of size at < position_past size at (suc n)
unfolding position_past
start_past size at n = let least = position_past-least size (start_of size at + 1) n in omega (arith, least)

rounded_least : (position : ℕ) → position ≤ next_multiple_of position 8
rounded_least position = omega arith

-- a record starts before its image ends
pub start_before : (size at body : ℕ) → start_of size at < image_end size at body
start_before size at body =
    let more : suc (23 + body) ≡ 24 + body = omega arith in
    let past : start_of size at < position_past size at (24 + body) = subst (λ (k : ℕ). start_of size at
    < position_past size at k) more (start_past size at (23 + body)) in
    omega (arith, past, rounded_least (position_past size at (24 + body)))

pub starts_before : (ident : Ident) (timeline : ℕ → ℕ) (from prev : ℕ) (log : List ℕ) (end last : ℕ) → IsSegSize ident.size → prev < from
    → RecordEnd ident timeline from prev log end last → last < end
starts_before ident timeline from prev log end last is below origin = below
starts_before ident timeline from prev log _ _ is below (next end last item n before fits image) =
    let start = start_before ident.size end (length item.body) in
    let ends = same_image_end ident timeline end last item (take n (drop (end - from) log)) is image in
    omega (arith, start, ends, fits, length-take n (drop (end - from) log), length-drop (end - from) log)

-- there is one greatest record end, with one start
pub one_greatest : (ident : Ident) (timeline : ℕ → ℕ) (from prev : ℕ) (log : List ℕ) (end last other start : ℕ) → IsSegSize ident.size
    → from % 8 ≡ 0 → IsWholeEnd ident timeline from prev log end last → IsWholeEnd ident timeline from prev log other start
    → (other ≡ end) × (start ≡ last)
one_greatest ident timeline from prev log end last other start is eight a b =
    let low = a.greatest other start b.is_end in
    let high = b.greatest end last a.is_end in
    let same : other ≡ end = omega (arith, low, high) in (
      same,
      same_last ident timeline from prev log end start last is eight (subst (λ (e : ℕ). RecordEnd ident timeline from prev log e start) same
          b.is_end) a.is_end,
    )
