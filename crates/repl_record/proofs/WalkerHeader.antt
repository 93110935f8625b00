-- A walker that takes a part of a page's header: what it keeps then, and what is judged.
use Rattle.std.proofs.Common.{◌≡◌, ℕ, ◌+◌, ◌-◌, ◌%◌, ◌<◌, ◌≤◌, ◌⊎◌, ◌==◌, true, cond, List, ◌++◌, length, take, drop, min, sym, ap, ◌∙◌, subst, inl, inr, arith, length-append, length-drop}
use Rattle.std.proofs.lemmas.Bool.{cases_eq, cond-true, cond-false, eq-eqb, ne_eqb}
use Rattle.std.proofs.lemmas.List.{drop-append-le, length-take-le, take-append-le, take_all, take_at}
use Rattle.std.proofs.Math.Seq.{take-append-add}
use Rattle.repl_lsn.specs.Segment.{IsSegSize}
use Rattle.repl_page.specs.declared.fault.PageFault.{PageFault}
use Rattle.repl_page.specs.declared.header.PageHeader.{PageHeader}
use Rattle.repl_page.specs.declared.ident.Ident.{Ident}
use Rattle.repl_page.specs.Page.{page_start, header_length, in_header}
use Rattle.repl_page.specs.Header.{Agrees, IsPageFault, header_of}
use Rattle.repl_record.specs.declared.answer.WalkReason.TheVariants as why
use Rattle.repl_record.specs.declared.walker.Walker.{Walker}
use Rattle.repl_record.specs.Checksum.{checksum}
use Rattle.repl_record.specs.Record.{AreBytes, content, from_page, remaining}
use Rattle.repl_record.specs.Judging.{HasLength, IsFirstFault, IsHeaderFault, IsOpenBefore, length_field}
use Rattle.repl_record.specs.Walker.{AreOn, Keeps, Stands, so_far}
use Rattle.repl_record.specs.Moves.{Reached, due_header, put, total, with_header}
use Rattle.repl_record.proofs.Fields.{AreBytes-append, AreBytes-take}
use Rattle.repl_record.proofs.Pages.{header_is, in_header_from, page_start_is_page, place_on_page, same_page_start, still_in_header, page_of_end, length_of_page}
use Rattle.repl_record.proofs.Headers.{no_fault}
use Rattle.repl_record.proofs.Content.{content-append-header, content-before_page, eight_before_page}
use Rattle.repl_record.proofs.JudgingCalm.{IsCalm, calm_header, header_fault_past, open_more}
use Rattle.repl_record.proofs.WalkerStands.{count_is, total_is, unfinished}

-- ---- a part of a header

-- The walker stands after the log's bytes in a page's header, and this piece is the next part of it. The page is on
-- this timeline, if it begins here.
pub record IsHeaderPart (w : Walker) (tli : ℕ) (timeline : ℕ → ℕ) (from prev : ℕ) (log piece : List ℕ) : Type 0 where
  pub stands : Stands w timeline from prev log
  pub size : IsSegSize w.ident.size
  pub some : 0 < length piece
  pub within : w.at % 8192 + length piece ≤ header_length w.ident.size w.at
  pub are_bytes : AreBytes piece
  pub starts : w.at % 8192 ≡ 0 → timeline w.at ≡ tli

-- the piece's last byte is one of the header
last_in_header : (size from at : ℕ) (log piece : List ℕ) → IsSegSize size → at ≡ from + length log → 0 < length piece
    → at % 8192 + length piece ≤ header_length size at → in_header size (from + length (log ++ piece) - 1) ≡ true
last_in_header size from at log piece is past some within = ap (in_header size) (omega (arith, length-append log piece))
    ∙ still_in_header size at (length piece - 1) is (omega arith)

-- as much of the bytes as the header has room for
pub header_part : {w : Walker} {timeline : ℕ → ℕ} {from prev : ℕ} {log : List ℕ} (tli : ℕ) (bytes : List ℕ) (taken : ℕ)
    → Stands w timeline from prev log → AreOn timeline tli w.at (length bytes) → IsSegSize w.ident.size
    → w.at % 8192 < header_length w.ident.size w.at → 0 < length bytes → AreBytes bytes
    → taken ≡ min (header_length w.ident.size w.at - w.at % 8192) (length bytes)
    → IsHeaderPart w tli timeline from prev log (take taken bytes)
header_part {w = w} tli bytes taken s on is inside some are taken_is =
    let all : length (take taken bytes) ≡ taken = length-take-le taken bytes (omega arith) in
    record {
      stands = s;
      size = is;
      some = omega arith;
      within = omega arith;
      are_bytes = AreBytes-take taken bytes are;
      starts = λ first. on w.at first (omega arith) (omega arith);
    }

-- nothing is judged before the header's end, nor there if its page began before the record's image
calm_part : {w : Walker} {timeline : ℕ → ℕ} {from prev : ℕ} {log : List ℕ} (piece : List ℕ) → IsSegSize w.ident.size
    → Stands w timeline from prev log → 0 < length piece
    → w.at % 8192 + length piece ≤ header_length w.ident.size w.at → (w.at % 8192 + length piece < header_length w.ident.size w.at)
    ⊎ (page_start w.at < from)
    → IsCalm w.ident timeline from prev (log ++ piece)
calm_part {w = w} {timeline = timeline} {from = from} {prev = prev} {log = log} piece is s some within unjudged =
    calm_header w.ident timeline from prev (log ++ piece) is (last_in_header size from w.at log piece is s.keeps.past some within) none
  where
    size : ℕ
    size = w.ident.size

    none : (found : PageFault) → ¬ IsHeaderFault w.ident timeline from (log ++ piece) found
    none found h =
        let at_end : w.at + length piece ≡ from + length (log ++ piece) = omega (arith, length-append log piece, s.keeps.past) in
        elim unjudged [
          | inl below ↦ header_fault_past w.ident timeline from (log ++ piece) found is h (ap (in_header size) (sym at_end)
              ∙ still_in_header size w.at (length piece) is below)
          | inr old ↦ absurd (omega (arith, old, h.began, page_of_end size w.at (length piece) h.page h.is_page within (at_end ∙ h.ended)))
        ]

-- up to the piece's last byte nothing is judged
open_part : {w : Walker} {tli : ℕ} {timeline : ℕ → ℕ} {from prev : ℕ} {log : List ℕ} (bytes : List ℕ) (taken : ℕ) → taken ≤ length bytes
    → IsHeaderPart w tli timeline from prev log (take taken bytes)
    → IsOpenBefore w.ident timeline from prev (log ++ bytes) (length log + taken)
open_part {w = w} {timeline = timeline} {from = from} {prev = prev} {log = log} bytes taken enough h =
    open_more w.ident timeline from prev log bytes taken h.stands.beginning calm
  where
    calm : (i : ℕ) → 0 < i → i < taken → IsCalm w.ident timeline from prev (log ++ take i bytes)
    calm i some below =
        let here : length (take i bytes) ≡ i = length-take-le i bytes (omega arith) in
        let all : length (take taken bytes) ≡ taken = length-take-le taken bytes enough in
        calm_part (take i bytes) h.size h.stands (omega arith) (omega (arith, h.within)) (inl (omega (arith, h.within)))

open_whole : {w : Walker} {tli : ℕ} {timeline : ℕ → ℕ} {from prev : ℕ} {log piece : List ℕ}
    → IsHeaderPart w tli timeline from prev log piece → IsOpenBefore w.ident timeline from prev (log ++ piece) (length (log ++ piece))
open_whole {w = w} {tli = tli} {timeline = timeline} {from = from} {prev = prev} {log = log} {piece = piece} h =
    let Next : List ℕ → Type 0 = λ (t : List ℕ). IsHeaderPart w tli timeline from prev log t in
    let Open : ℕ → Type 0 = λ (n : ℕ). IsOpenBefore w.ident timeline from prev (log ++ piece) n in
    subst Open (sym (length-append log piece)) (open_part piece (length piece) (omega arith)
    (subst Next (sym (take_all (length piece) piece (omega arith))) h))

-- a record's bytes are as before
so_far_is : {w : Walker} {tli : ℕ} {timeline : ℕ → ℕ} {from prev : ℕ} {log piece : List ℕ} → IsHeaderPart w tli timeline from prev log piece
    → so_far w from (log ++ piece) ≡ so_far w from log
so_far_is {w = w} {from = from} {log = log} {piece = piece} h =
    content-append-header w.ident.size from w.at log piece h.size h.stands.keeps.past h.within

-- the record has bytes to come
is_unfinished : {w : Walker} {tli : ℕ} {timeline : ℕ → ℕ} {from prev : ℕ} {log piece : List ℕ}
    → IsHeaderPart w tli timeline from prev log piece → 4 ≤ length (so_far w from log)
    → length (so_far w from log) < length_field (so_far w from log)
is_unfinished {w = w} h four = unfinished h.size h.stands (in_header_from w.ident.size w.at (omega (arith, h.within, h.some))) four

-- what is written down of the header is what the log has of it
header_so_far : {w : Walker} {tli : ℕ} {timeline : ℕ → ℕ} {from prev : ℕ} {log piece : List ℕ}
    → IsHeaderPart w tli timeline from prev log piece → from ≤ page_start w.at
    → take (w.at % 8192 + length piece) (put w.header (w.at % 8192) piece) ≡ from_page from (log ++ piece) (page_start w.at)
header_so_far {w = w} {from = from} {log = log} {piece = piece} h began =
    let place = w.at % 8192 in
    let n = page_start w.at - from in
    let past : w.at ≡ from + length log = h.stands.keeps.past in
    let old : take place w.header ≡ drop n log = h.stands.keeps.header_is (in_header_from w.ident.size w.at (omega (
      arith,
      h.within,
      h.some,
    ))) began in
    let long : length (take place w.header) ≡ place = ap length old ∙ omega (arith, length-drop n log) in
    let whole : place + length piece ≡ length (take place w.header ++ piece) = omega (arith, length-append (take place w.header) piece) in
    take_at (take place w.header ++ piece) (drop (place + length piece) w.header) (place + length piece) (sym whole)
    ∙ ap (λ (t : List ℕ). t ++ piece) old ∙ sym (drop-append-le n log piece (omega arith))

timeline_so_far : {w : Walker} {tli : ℕ} {timeline : ℕ → ℕ} {from prev : ℕ} {log piece : List ℕ}
    → IsHeaderPart w tli timeline from prev log piece → from ≤ page_start w.at
    → (with_header w tli piece).page_timeline ≡ timeline (page_start w.at)
timeline_so_far {w = w} {tli = tli} {timeline = timeline} h began =
    elim (cases_eq (w.at % 8192) 0) [
      | inl first ↦ cond-true (w.at % 8192 == 0) tli w.page_timeline (eq-eqb (w.at % 8192) 0 first) ∙ sym (h.starts first)
          ∙ ap timeline (omega arith)
      | inr later ↦ cond-false (w.at % 8192 == 0) tli w.page_timeline (ne_eqb (w.at % 8192) 0 later)
          ∙ h.stands.keeps.timeline_is (in_header_from w.ident.size w.at (omega (arith, h.within, h.some))) began (omega arith)
    ]

keeps_header : {w : Walker} {tli : ℕ} {timeline : ℕ → ℕ} {from prev : ℕ} {log piece : List ℕ}
    → IsHeaderPart w tli timeline from prev log piece → Keeps (with_header w tli piece) timeline from prev (log ++ piece)
keeps_header {w = w} {tli = tli} {timeline = timeline} {from = from} {prev = prev} {log = log} {piece = piece} h =
    let k = h.stands.keeps in
    let same : so_far w from (log ++ piece) ≡ so_far w from log = so_far_is h in
    let count : length (so_far w from (log ++ piece)) ≡ length (so_far w from log) = ap length same in
    let total : length_field (so_far w from (log ++ piece)) ≡ length_field (so_far w from log) = ap length_field same in
    let on_page : w.at % 8192 + length piece < 8192 = omega (arith, h.within, header_is w.ident.size w.at) in
    let page : page_start (w.at + length piece) ≡ page_start w.at = same_page_start w.at (length piece) on_page in
    record {
      not_refused = k.not_refused;
      begins = k.begins;
      follows = k.follows;
      prev_fits = k.prev_fits;
      past = omega (arith, k.past, length-append log piece);
      aligned = k.aligned;
      are_bytes = AreBytes-append log piece k.are_bytes h.are_bytes;
      header_is = λ inside began.
          ap (λ (n : ℕ). take n (put w.header (w.at % 8192) piece)) (place_on_page w.at (length piece) on_page)
          ∙ header_so_far h (omega (arith, began)) ∙ ap (from_page from (log ++ piece)) (sym page);
      timeline_is = λ inside began past. timeline_so_far h (omega (arith, began)) ∙ ap timeline (sym page);
      front_is = k.front_is ∙ ap (take 24) (sym same);
      few = λ few. k.few (omega (arith, few)) ∙ sym count;
      many = λ many. omega (arith, k.many (omega (arith, many)));
      sum_is = k.sum_is ∙ ap (λ (bytes : List ℕ). checksum (drop 24 (take w.count bytes))) (sym same);
      has_length = λ four. subst HasLength (sym same) (k.has_length (omega (arith, four)));
      in_gap = λ four all. absurd (omega (arith, four, all, is_unfinished h (omega (arith, four))));
    }

-- ---- the header that is due

-- where the record had bytes before the page, these are all it has
before_page : {w : Walker} {tli : ℕ} {timeline : ℕ → ℕ} {from prev : ℕ} {log piece : List ℕ}
    → IsHeaderPart w tli timeline from prev log piece → from < page_start w.at
    → (so_far w from log ≡ content w.ident.size from (take (page_start w.at - from) log)) × (8 ≤ length (so_far w from log))
before_page {w = w} {from = from} {log = log} h after =
    let k = h.stands.keeps in
    let size = w.ident.size in
    let page = page_start w.at in
    let same : so_far w from log ≡ content size from (take (page - from) log) =
    content-before_page size from page log h.size (page_start_is_page w.at) (omega arith) (omega (arith, k.past)) (omega (
      arith,
      k.past,
      h.within,
      length_of_page size w.at h.size,
    )) in
    let eight = eight_before_page size from page log h.size (page_start_is_page w.at) (omega (arith, after, k.aligned)) (omega (
      arith,
      k.past,
    )) in
    (same, omega (arith, ap length same, eight))

-- how much of the record is on the page and later
remaining_is : {w : Walker} {tli : ℕ} {timeline : ℕ → ℕ} {from prev : ℕ} {log piece : List ℕ}
    → IsHeaderPart w tli timeline from prev log piece → from ≤ page_start w.at
    → cond (page_start w.at == w.from) 0 (total w - w.count) ≡ remaining w.ident.size (length_field (so_far w from (log ++ piece))) from
    (log ++ piece) (page_start w.at)
remaining_is {w = w} {from = from} {log = log} {piece = piece} h began =
    let k = h.stands.keeps in
    let size = w.ident.size in
    let page = page_start w.at in
    let whole = length_field (so_far w from (log ++ piece)) in
    let before = length (content size from (take (page - from) (log ++ piece))) in
    elim (cases_eq page from) [
      | inl first ↦ cond-true (page == w.from) 0 (total w - w.count) (eq-eqb page w.from (first ∙ sym k.begins))
          ∙ sym (cond-true (page == from) 0 (whole - before) (eq-eqb page from first))
      | inr later ↦
          let old : take (page - from) (log ++ piece) ≡ take (page - from) log =
          take-append-le (page - from) log piece (omega (arith, k.past)) in
          let all = before_page h (omega arith) in
          let count = count_is k (is_unfinished h) in
          let rest : total w - w.count ≡ whole - before = omega (
            arith,
            count,
            total_is k (omega (arith, count, all.1)),
            ap length_field (so_far_is h),
            ap length all.0,
            ap (λ (t : List ℕ). length (content size from t)) old,
          ) in
          cond-false (page == w.from) 0 (total w - w.count) (ne_eqb page w.from (λ e. later (e ∙ k.begins))) ∙ rest
          ∙ sym (cond-false (page == from) 0 (whole - before) (ne_eqb page from later))
    ]

-- the header that is due on a page of the log
abbrev pub due_on : Ident → (ℕ → ℕ) → ℕ → List ℕ → ℕ → PageHeader
due_on ident timeline from log page = header_of ident (timeline page) page
    (remaining ident.size (length_field (content ident.size from log)) from log page)

due_is : {w : Walker} {tli : ℕ} {timeline : ℕ → ℕ} {from prev : ℕ} {log piece : List ℕ} → IsHeaderPart w tli timeline from prev log piece
    → from ≤ page_start w.at
    → due_header (with_header w tli piece) (page_start w.at) ≡ due_on w.ident timeline from (log ++ piece) (page_start w.at)
due_is {w = w} {tli = tli} {timeline = timeline} h began =
    ap (λ (t : ℕ). header_of w.ident t (page_start w.at) (cond (page_start w.at == w.from) 0 (total w - w.count))) (timeline_so_far h began)
    ∙ ap (header_of w.ident (timeline (page_start w.at)) (page_start w.at)) (remaining_is h began)

-- the record had bytes before the page, or it begins with the page
is_within : {w : Walker} {tli : ℕ} {timeline : ℕ → ℕ} {from prev : ℕ} {log piece : List ℕ} → IsHeaderPart w tli timeline from prev log piece
    → from ≤ page_start w.at
    → (page_start w.at ≡ from) ⊎ (HasLength (so_far w from (log ++ piece))
    × (length (so_far w from (log ++ piece)) < length_field (so_far w from (log ++ piece))))
is_within {w = w} {from = from} {log = log} {piece = piece} h began =
    let k = h.stands.keeps in
    let Within : List ℕ → Type 0 = λ (t : List ℕ). HasLength t × (length t < length_field t) in
    elim (cases_eq (page_start w.at) from) [
      | inl first ↦ inl first
      | inr later ↦
          let four : 4 ≤ length (so_far w from log) = omega (arith, (before_page h (omega arith)).1) in
          inr (subst Within (sym (so_far_is h)) (k.has_length four, is_unfinished h four))
    ]

-- what is so of the header that is due and of the one written down is so of what the log has on the page
pub on_log : {w new : Walker} {tli page : ℕ} {timeline : ℕ → ℕ} {from prev : ℕ} {log piece : List ℕ} (P : PageHeader → List ℕ → Type 0)
    → IsHeaderPart w tli timeline from prev log piece → from ≤ page_start w.at
    → w.at % 8192 + length piece ≡ header_length w.ident.size w.at → new ≡ with_header w tli piece → page ≡ page_start w.at
    → P (due_header new page) (take (header_length new.ident.size page) new.header)
    → P (due_on w.ident timeline from (log ++ piece) (page_start w.at)) (from_page from (log ++ piece) (page_start w.at))
on_log {w = w} {new = new} {tli = tli} {timeline = timeline} {from = from} {log = log} {piece =
    piece} P h began ended new_is page_is holds =
    let start = page_start w.at in
    let At : Walker → ℕ → Type 0 = λ (n : Walker) (p : ℕ). P (due_header n p) (take (header_length n.ident.size p) n.header) in
    let here : At (with_header w tli piece) start = subst (λ (n : Walker). At n start) new_is (subst (At new) page_is holds) in
    let due : P (due_on w.ident timeline from (log ++ piece) start) (take (header_length w.ident.size start)
    (put w.header (w.at % 8192) piece)) = subst (λ (d : PageHeader).
    P d (take (header_length w.ident.size start) (put w.header (w.at % 8192) piece))) (due_is h began) here in
    let whole = ap (λ (n : ℕ). take n (put w.header (w.at % 8192) piece)) (length_of_page w.ident.size w.at h.size ∙ sym ended)
    ∙ header_so_far h began in
    subst (P (due_on w.ident timeline from (log ++ piece) start)) whole due

-- ---- where the walker gets to

-- nothing is judged with the piece's last byte
pub header_goes_on : {w : Walker} {tli : ℕ} {timeline : ℕ → ℕ} {from prev : ℕ} {log piece : List ℕ}
    → IsHeaderPart w tli timeline from prev log piece
    → (w.at % 8192 + length piece < header_length w.ident.size w.at) ⊎ (page_start w.at < from)
    → Reached (with_header w tli piece) timeline from prev (log ++ piece)
header_goes_on {piece = piece} h unjudged =
    record { keeps = keeps_header h; open_before = open_whole h; right = (calm_part piece h.size h.stands h.some h.within unjudged).1 }

-- the header is the one that is due
pub header_agrees : {w : Walker} {tli : ℕ} {timeline : ℕ → ℕ} {from prev : ℕ} {log piece : List ℕ}
    → IsHeaderPart w tli timeline from prev log piece
    → Agrees (due_on w.ident timeline from (log ++ piece) (page_start w.at)) (from_page from (log ++ piece) (page_start w.at))
    → Reached (with_header w tli piece) timeline from prev (log ++ piece)
header_agrees {w = w} {timeline = timeline} {from = from} {prev = prev} {log = log} {piece = piece} h agrees =
    record {
      keeps = keeps_header h;
      open_before = open_whole h;
      right =
          (calm_header w.ident timeline from prev (log ++ piece) h.size last none).1;
    }
  where
    last : in_header w.ident.size (from + length (log ++ piece) - 1) ≡ true
    last = last_in_header w.ident.size from w.at log piece h.size h.stands.keeps.past h.some h.within

    none : (found : PageFault) → ¬ IsHeaderFault w.ident timeline from (log ++ piece) found
    none found f =
        let page = page_start w.at in
        let ended : w.at + length piece ≡ f.page + header_length w.ident.size f.page = omega (
          arith,
          length-append log piece,
          h.stands.keeps.past,
          f.ended,
        ) in
        let one = page_of_end w.ident.size w.at (length piece) f.page f.is_page h.within ended in
        let Fault : ℕ → Type 0 = λ (p : ℕ). IsPageFault (due_on w.ident timeline from (log ++ piece) p) (from_page from (log
        ++ piece) p) found in
        no_fault (due_on w.ident timeline from (log ++ piece) page) (from_page from (log ++ piece) page) found (subst Fault one f.fault)
        agrees

-- it has a fault
header_fault : {w : Walker} {tli : ℕ} {timeline : ℕ → ℕ} {from prev : ℕ} {log piece : List ℕ} (found : PageFault)
    → IsHeaderPart w tli timeline from prev log piece → from ≤ page_start w.at
    → w.at % 8192 + length piece ≡ header_length w.ident.size w.at
    → IsPageFault (due_on w.ident timeline from (log ++ piece) (page_start w.at)) (from_page from (log ++ piece) (page_start w.at)) found
    → IsHeaderFault w.ident timeline from (log ++ piece) found
header_fault {w = w} {from = from} {log = log} {piece = piece} found h began ended fault =
    record {
      page = page_start w.at;
      is_page = page_start_is_page w.at;
      began = began;
      ended = omega (arith, length-append log piece, h.stands.keeps.past, ended, length_of_page w.ident.size w.at h.size);
      within = is_within h began;
      fault = fault;
    }

pub header_differs : {w : Walker} {tli : ℕ} {page : ℕ} {timeline : ℕ
    → ℕ} {from prev : ℕ} {log : List ℕ} (bytes : List ℕ) (taken : ℕ) (found : PageFault) → page ≡ page_start w.at → taken ≤ length bytes
    → IsHeaderPart w tli timeline from prev log (take taken bytes)
    → from ≤ page_start w.at → w.at % 8192 + length (take taken bytes) ≡ header_length w.ident.size w.at
    → IsPageFault (due_on w.ident timeline from (log ++ take taken bytes) (page_start w.at)) (from_page from (log
    ++ take taken bytes) (page_start w.at)) found
    → IsFirstFault w.ident timeline from prev (log ++ bytes) page (why.Page found)
header_differs {w = w} {timeline = timeline} {from = from} {log = log} bytes taken found page_is enough h began ended fault =
    let same : take (length log + taken) (log ++ bytes) ≡ log ++ take taken bytes = take-append-add log bytes taken in
    let Fault : List ℕ → Type 0 = λ (t : List ℕ). IsHeaderFault w.ident timeline from t found in
    record {
      n = length log + taken;
      within = omega (arith, length-append log bytes);
      first = open_part bytes taken enough h;
      fault = subst Fault (sym same) (header_fault found h began ended fault);
      place = omega (
        arith,
        ap length same,
        length-append log (take taken bytes),
        h.stands.keeps.past,
        h.some,
        h.within,
        header_is w.ident.size w.at,
      );
    }
