-- A walker that stands after bytes of the log: what it knows of them.
use Rattle.std.proofs.Common.{◌≡◌, ◌≢◌, ℕ, ◌+◌, ◌-◌, ◌%◌, ◌<◌, ◌≤◌, true, false, List, length, take, sym, ap, ◌∙◌, subst, inl, inr, arith}
use Rattle.std.proofs.lemmas.Bool.{cases_lt, both_ways}
use Rattle.std.proofs.lemmas.List.{take_all, drop_all}
use Rattle.repl_lsn.specs.Segment.{IsSegSize}
use Rattle.repl_page.specs.Page.{in_header, page_start}
use Rattle.repl_record.specs.declared.walker.Walker.{Walker}
use Rattle.repl_record.specs.Record.{from_page}
use Rattle.repl_record.specs.Judging.{IsOver, length_field}
use Rattle.repl_record.specs.Walker.{Keeps, Stands, so_far}
use Rattle.repl_record.specs.Moves.{total}
use Rattle.repl_record.proofs.Pages.{same_eight}
use Rattle.repl_record.proofs.Content.{length-content}
use Rattle.repl_record.proofs.WalkerCounts.{field_kept}

-- ---- bytes

-- ---- a record of which all bytes are there

not_over : {w : Walker} {timeline : ℕ → ℕ} {from prev : ℕ} {log : List ℕ} → Stands w timeline from prev log → ¬ IsOver w.ident.size from log
not_over {w = w} {from = from} {log = log} s over =
    (s.beginning (length log) (omega arith)).0 (subst (IsOver w.ident.size from) (sym (take_all (length log) log (omega arith))) over)

-- the next multiple of 8 is not reached
pub not_rounded : {w : Walker} {timeline : ℕ → ℕ} {from prev : ℕ} {log : List ℕ} → Stands w timeline from prev log
    → 4 ≤ length (so_far w from log) → length_field (so_far w from log) ≤ length (so_far w from log) → w.at % 8 ≢ 0
not_rounded s four all rounded =
    not_over s (record {
      right = s.keeps.has_length four;
      all = all;
      last = s.keeps.in_gap four all;
      rounded =
          omega (arith, s.keeps.past, rounded);
    })

-- no header of a page is next
not_in_header : {w : Walker} {timeline : ℕ → ℕ} {from prev : ℕ} {log : List ℕ} → IsSegSize w.ident.size → Stands w timeline from prev log
    → 4 ≤ length (so_far w from log) → length_field (so_far w from log) ≤ length (so_far w from log) → in_header w.ident.size w.at ≡ false
not_in_header {w = w} {from = from} {log = log} is s four all =
    let size = w.ident.size in
    let some : 0 < length log = omega (arith, length-content size from log) in
    let before = from + length log - 1 in
    let open_gap : w.at % 8 ≢ 0 = not_rounded s four all in
    let next : before + 1 ≡ w.at = omega (arith, s.keeps.past) in
    ap (in_header size) (sym next) ∙ same_eight size before 1 is (s.keeps.in_gap four all) (omega arith)

-- ---- a record of which bytes are to come

-- in a header they are
pub unfinished : {w : Walker} {timeline : ℕ → ℕ} {from prev : ℕ} {log : List ℕ} → IsSegSize w.ident.size → Stands w timeline from prev log
    → in_header w.ident.size w.at ≡ true → 4 ≤ length (so_far w from log) → length (so_far w from log) < length_field (so_far w from log)
unfinished {w = w} {from = from} {log = log} is s inside four =
    elim (cases_lt (length (so_far w from log)) (length_field (so_far w from log))) [
      | inl less ↦ less
      | inr all ↦ absurd (both_ways (in_header w.ident.size w.at) (not_in_header is s four all) inside)
    ]

pub count_is : {w : Walker} {timeline : ℕ → ℕ} {from prev : ℕ} {log : List ℕ} → Keeps w timeline from prev log
    → (4 ≤ length (so_far w from log) → length (so_far w from log) < length_field (so_far w from log))
    → w.count ≡ length (so_far w from log)
count_is {w = w} {from = from} {log = log} k less =
    elim (cases_lt (length (so_far w from log)) 24) [
      | inl few ↦ k.few few
      | inr many ↦ omega (arith, k.many many, less (omega arith))
    ]

-- the length that it wrote down is the record's
pub total_is : {w : Walker} {timeline : ℕ → ℕ} {from prev : ℕ} {log : List ℕ} → Keeps w timeline from prev log → 4 ≤ w.count
    → total w ≡ length_field (so_far w from log)
total_is {w = w} {from = from} {log = log} k four =
    field_kept w (so_far w from log) 0 4 k.front_is (omega arith)

-- where the first 24 bytes are counted, they are there
pub many_are : {w : Walker} {timeline : ℕ → ℕ} {from prev : ℕ} {log : List ℕ} → Keeps w timeline from prev log → 24 ≤ w.count
    → 24 ≤ length (so_far w from log)
many_are {w = w} {from = from} {log = log} k whole =
    elim (cases_lt (length (so_far w from log)) 24) [
      | inl few ↦ absurd (omega (arith, k.few few))
      | inr many ↦ many
    ]

-- ---- a page that begins

-- no byte of its header is there
pub new_page : (from at : ℕ) (header log : List ℕ) → at ≡ from + length log → at % 8192 ≡ 0
    → take (at % 8192) header ≡ from_page from log (page_start at)
new_page from at header log past first =
    ap (λ (n : ℕ). take n header) first ∙ sym (drop_all (page_start at - from) log (omega arith))
