-- A record's image grows by what is due of a header and by a block of the record's bytes after it.
use Rattle.std.proofs.Common.{◌≡◌, ℕ, ◌+◌, ◌-◌, ◌%◌, ◌<◌, ◌≤◌, ◌⊎◌, ◌==◌, Bool, cond, List, [], ◌++◌, length, take, drop, sym, ap, ◌∙◌, subst, inl, inr, arith, append-nil, append_assoc, length-append, length-drop}
use Rattle.std.proofs.lemmas.Bool.{cases_lt, cases_eq, eq-eqb, ne_eqb}
use Rattle.std.proofs.lemmas.List.{take_at, take_rest, take-append-drop, length-take-le, drop_at, length-take, nil_from_length}
use Rattle.repl_lsn.specs.Segment.{IsSegSize}
use Rattle.repl_page.specs.declared.ident.Ident.{Ident}
use Rattle.repl_page.specs.Page.{page_start, header_length}
use Rattle.repl_page.specs.Header.{header_of, header_bytes}
use Rattle.repl_record.specs.declared.laying.Place.{Place}
use Rattle.repl_record.specs.Record.{content, from_page, remaining, HeadersAreSpelled}
use Rattle.repl_record.specs.Laying.{IsLaid, content_of, due_header, left_over}
use Rattle.repl_record.proofs.Fields.{part_of_more}
use Rattle.repl_record.proofs.Pages.{header_is, same_header_length, same_page_start, place_on_page, length_of_page}
use Rattle.repl_record.proofs.Headers.{length-header_bytes, remaining-append}
use Rattle.repl_record.proofs.Content.{content-append, content-header, content-nil, content-more, last_more}

-- ---- headers of what is longer

-- a header stays spelled
pub old_header : (ident : Ident) (timeline total from : ℕ) (log more : List ℕ) (page : ℕ) → from ≤ page → page < from + length log
    → take (header_length ident.size page) (from_page from log page) ≡ header_bytes
    (header_of ident timeline page (remaining ident.size total from log page))
    → take (header_length ident.size page) (from_page from (log
    ++ more) page) ≡ header_bytes (header_of ident timeline page (remaining ident.size total from (log ++ more) page))
old_header ident timeline total from log more page above below spelled =
    let n = header_length ident.size page in
    let whole = ap length spelled ∙ length-header_bytes ident timeline page (remaining ident.size total from log page) in
    let room : n ≤ length (drop (page - from) log) = omega (arith, whole, length-take n (drop (page - from) log)) in
    part_of_more (page - from) n log more (omega (arith, room, length-drop (page - from) log))
    ∙ spelled
    ∙ ap (λ (left : ℕ). header_bytes (header_of ident timeline page left))
    (sym (remaining-append ident.size total from page log more below))

-- ---- the header that is due

-- a page that begins where the log from a position ends is its first exactly where the log is empty
same_begin : (from n : ℕ) → (from + n == from) ≡ (n == 0)
same_begin from n =
    elim (cases_eq n 0) [
      | inl none ↦ eq-eqb (from + n) from (omega arith) ∙ sym (eq-eqb n 0 none)
      | inr some ↦ ne_eqb (from + n) from (λ (e : from + n ≡ from). some (omega arith)) ∙ sym (ne_eqb n 0 some)
    ]

-- on a page that begins where the log ends
remaining_at : (place : Place) (done : ℕ) (log more : List ℕ) → done ≡ length (content_of place log)
    → remaining place.ident.size place.total place.at (log ++ more) (place.at + length log) ≡ left_over place done log
remaining_at place done log more is =
    let front : take (place.at + length log - place.at) (log ++ more) ≡ log =
    take_at log more (place.at + length log - place.at) (omega arith) in
    ap (λ (b : Bool). cond b 0 (place.total - length (content_of place (take (place.at + length log - place.at) (log ++ more)))))
    (same_begin place.at (length log))
    ∙ ap (λ (laid : List ℕ). cond (length log == 0) 0 (place.total - length (content_of place laid))) front
    ∙ ap (λ (count : ℕ). cond (length log == 0) 0 (place.total - count)) (sym is)

length-due_header : (place : Place) (done : ℕ) (log : List ℕ)
    → length (due_header place done log) ≡ header_length place.ident.size (page_start (place.at + length log)) - (place.at + length log) %
    8192
length-due_header place done log =
    let position = place.at + length log in
    let spelled = header_bytes (header_of place.ident place.tli (page_start position) (left_over place done log)) in
    length-drop (position % 8192) spelled ∙ ap (λ (n : ℕ). n - position % 8192) (length-header_bytes place.ident place.tli
    (page_start position) (left_over place done log))

-- it is spelled where a page begins
new_header : (place : Place) (done : ℕ) (log block : List ℕ) → (place.at + length log) % 8192 ≡ 0 → done ≡ length (content_of place log)
    → let page = place.at + length log in
    let grown = log ++ (due_header place done log ++ block) in
    take (header_length place.ident.size page) (from_page place.at grown page) ≡ header_bytes (header_of place.ident place.tli page
    (remaining place.ident.size place.total place.at grown page))
new_header place done log block begins is =
    let page = place.at + length log in
    let spelled : ℕ → List ℕ = λ left. header_bytes (header_of place.ident place.tli page left) in
    let start : page_start page ≡ page = omega arith in
    let due : due_header place done log ≡ spelled (left_over place done log) =
    ap (λ (n : ℕ). drop n (header_bytes (header_of place.ident place.tli (page_start page) (left_over place done log)))) begins
    ∙ ap (λ (n : ℕ). header_bytes (header_of place.ident place.tli n (left_over place done log))) start in
    let left = remaining_at place done log (due_header place done log ++ block) is in
    ap (take (header_length place.ident.size page)) (drop_at log (due_header place done log ++ block) (page - place.at) (omega arith))
    ∙ ap (λ (h : List ℕ). take (header_length place.ident.size page) (h ++ block)) due
    ∙ take_at (spelled (left_over place done log)) block (header_length place.ident.size page) (length-header_bytes place.ident place.tli
    page (left_over place done log))
    ∙ ap spelled (sym left)

-- ---- positions after the header that is due

-- where the log goes on: with r bytes of a header of n after it, and so many due
record IsPast (size position due : ℕ) : Type 0 where
  pub same : header_length size (position + due) ≡ header_length size position
  pub start : page_start (position + due) ≡ page_start position
  pub place : (position + due) % 8192 ≡ position % 8192 + due
  pub outside : header_length size position ≤ position % 8192 + due
  pub inside : (due ≡ 0) ⊎ (position % 8192 + due ≤ header_length size position)

past_header : (size position due : ℕ) → IsSegSize size → due ≡ header_length size (page_start position) - position % 8192
    → IsPast size position due
past_header size position due is due_is =
    let r = position % 8192 in
    let limit = length_of_page size position is in
    let within : r + due < 8192 = omega (arith, header_is size (page_start position)) in
    record {
      same = same_header_length size position due is within;
      start = same_page_start position due within;
      place = place_on_page position due within;
      outside = omega arith;
      inside = elim (cases_lt r (header_length size position)) [ inl below ↦ inr (omega arith) | inr above ↦ inl (omega arith) ];
    }

-- nothing of the header is the record's
no_content : (size position : ℕ) (header : List ℕ) → IsSegSize size → IsPast size position (length header)
    → content size position header ≡ []
no_content size position header is past =
    elim past.inside [
      | inl none ↦ ap (content size position) (nil_from_length header none) ∙ content-nil size position
      | inr within ↦ content-header size position header is within
    ]

-- ---- a block more

-- what is laid, with what is due of a header and a block after it
abbrev pub with_block : Place → ℕ → List ℕ → List ℕ → List ℕ
with_block place done log block = (log ++ due_header place done log) ++ block

content-with_block : (place : Place) (done : ℕ) (log block : List ℕ) → IsSegSize place.ident.size
    → (place.at + length (log ++ due_header place done log)) % 8192 + length block ≤ 8192
    → content_of place (with_block place done log block) ≡ content_of place log ++ block
content-with_block place done log block is fits =
    let size = place.ident.size in
    let header = due_header place done log in
    let position = place.at + length log in
    let past = past_header size position (length header) is (length-due_header place done log) in
    let along : place.at + length (log ++ header) ≡ position + length header = omega (arith, length-append log header) in
    let front : content_of place (log ++ header) ≡ content_of place log =
    content-append size place.at log header ∙ ap (λ (t : List ℕ). content_of place log ++ t) (no_content size position header is past)
    ∙ append-nil (content_of place log) in
    content-more size (position + length header) place.at (log ++ header) block is (sym along) (omega (
      arith,
      past.same,
      past.outside,
      past.place,
    )) (omega (arith, along)) ∙ ap (λ (t : List ℕ). t ++ block) front

-- the headers of the pages that begin before the block's end
headers-with_block : (place : Place) (done : ℕ) (log block : List ℕ) → IsSegSize place.ident.size → IsLaid place log
    → done ≡ length (content_of place log)
    → (place.at + length (log ++ due_header place done log)) % 8192 + length block ≤ 8192
    → HeadersAreSpelled place.ident (λ _. place.tli) place.total place.at (with_block place done log block)
headers-with_block place done log block is laid done_is fits page begins above below =
    let size = place.ident.size in
    let header = due_header place done log in
    let position = place.at + length log in
    let past = past_header size position (length header) is (length-due_header place done log) in
    let grouped : with_block place done log block ≡ log ++ (header ++ block) = append_assoc log header block in
    let P : List ℕ → Type 0 = λ grown. take (header_length size page) (from_page place.at grown page) ≡ header_bytes
    (header_of place.ident place.tli page (remaining size place.total place.at grown page)) in
    let spelled : P (log ++ (header ++ block)) =
    elim (cases_lt page position) [
      | inl old ↦ old_header place.ident place.tli place.total place.at log (header
          ++ block) page above old (laid.headers page begins above old)
      | inr new ↦
          let along : place.at + length (log ++ header) ≡ position + length header = omega (arith, length-append log header) in
          let short : (position + length header) % 8192 + length block ≤ 8192 = omega (arith, along) in
          let end : place.at + length (with_block place done log block) ≡ position + length header + length block =
          omega (arith, length-append log header, length-append (log ++ header) block) in
          let here : page ≡ position = omega (arith, past.place, header_is size position, past.inside) in
          subst (λ (p : ℕ). take (header_length size p) (from_page place.at (log ++ (header ++ block)) p) ≡ header_bytes
          (header_of place.ident place.tli p (remaining size place.total place.at (log ++ (header ++ block)) p))) (sym here)
          (new_header place done log block (omega arith) done_is)
    ] in
    subst P (sym grouped) spelled

IsLaid-with_block : (place : Place) (done : ℕ) (log block : List ℕ) → IsSegSize place.ident.size → IsLaid place log
    → done ≡ length (content_of place log) → 0 < length block
    → (place.at + length (log ++ due_header place done log)) % 8192 + length block ≤ 8192
    → IsLaid place (with_block place done log block)
IsLaid-with_block place done log block is laid done_is some fits =
    let size = place.ident.size in
    let header = due_header place done log in
    let position = place.at + length log in
    let past = past_header size position (length header) is (length-due_header place done log) in
    let along : place.at + length (log ++ header) ≡ position + length header = omega (arith, length-append log header) in
    record {
      headers = headers-with_block place done log block is laid done_is fits;
      last = inr (last_more size (position + length header) place.at (log ++ header) block is (sym along) (omega (
        arith,
        past.same,
        past.outside,
        past.place,
      )) (omega (arith, along)) some);
    }

-- of a piece that goes after what was laid before, only the rest is not laid
pub record IsGoing (place : Place) (before piece log rest : List ℕ) (done : ℕ) : Type 0 where
  pub laid : IsLaid place log
  pub bytes : content_of place log ++ rest ≡ content_of place before ++ piece
  pub done_is : done ≡ length (content_of place log)
  pub fits : done + length rest ≤ place.total

-- the rest without a block
pub IsGoing-with_block : (place : Place) (before piece log rest grown : List ℕ) (done count : ℕ) → IsSegSize place.ident.size
    → IsGoing place before piece log rest done → 0 < count → count ≤ length rest
    → (place.at + length (log ++ due_header place done log)) % 8192 + count ≤ 8192 → grown ≡ with_block place done log (take count rest)
    → IsGoing place before piece grown (take (length rest - count) (drop count rest)) (done + count)
IsGoing-with_block place before piece log rest grown done count is going some within fits grown_is =
    let block = take count rest in
    let counted : length block ≡ count = length-take-le count rest within in
    let room : (place.at + length (log ++ due_header place done log)) % 8192 + length block ≤ 8192 = omega (arith, counted) in
    let laid : IsLaid place grown = subst (IsLaid place) (sym grown_is) (IsLaid-with_block place done log block is going.laid going.done_is
    (omega (arith, counted)) room) in
    let bytes : content_of place grown ≡ content_of place log ++ block = ap (content_of place) grown_is
    ∙ content-with_block place done log block is room in
    let left : take (length rest - count) (drop count rest) ≡ drop count rest = take_rest rest count in
    record {
      laid = laid;
      bytes =
          ap (λ (t : List ℕ). content_of place grown ++ t) left
          ∙ ap (λ (t : List ℕ). t ++ drop count rest) bytes
          ∙ append_assoc (content_of place log) block (drop count rest)
          ∙ ap (λ (t : List ℕ). content_of place log ++ t) (take-append-drop count rest)
          ∙ going.bytes;
      done_is = omega (arith, counted, going.done_is, ap length bytes, length-append (content_of place log) block);
      fits = omega (arith, going.fits, ap length left, length-drop count rest);
    }
