-- A walker that takes a part of a record: what it keeps then, and that nothing is judged before the part's last byte.
use Rattle.std.proofs.Common.{◌≡◌, ℕ, ◌+◌, ◌%◌, ◌<◌, ◌≤◌, List, ◌++◌, length, sym, ap, ◌∙◌, subst, arith, length-append, min, take, true, ◌-◌}
use Rattle.std.proofs.lemmas.List.{length-take-le}
use Rattle.repl_lsn.specs.Segment.{IsSegSize}
use Rattle.repl_page.specs.Page.{header_length, in_header}
use Rattle.repl_record.specs.declared.walker.Walker.{Walker}
use Rattle.repl_record.specs.Record.{AreBytes, LastIsContent}
use Rattle.repl_record.specs.Judging.{length_field, HasLength}
use Rattle.repl_record.specs.Walker.{Stands, so_far, Keeps}
use Rattle.repl_record.specs.Moves.{goal, total, with_record}
use Rattle.repl_record.proofs.Fields.{field-append, AreBytes-append, AreBytes-take}
use Rattle.repl_record.proofs.Pages.{at_page}
use Rattle.repl_record.proofs.Content.{content-more, last_more}
use Rattle.repl_record.proofs.JudgingCalm.{IsCalm, calm_record}
use Rattle.repl_record.proofs.WalkerGoals.{goal_is}
use Rattle.repl_record.proofs.WalkerCounts.{IsCounted, counted_from, grown, holds_from, total_is}
use Rattle.repl_record.proofs.WalkerStands.{new_page}

-- the walker takes this part of a record, which ends where something is judged or before
pub record IsRecordPart (w : Walker) (timeline : ℕ → ℕ) (from prev : ℕ) (log piece : List ℕ) : Type 0 where
  pub size : IsSegSize w.ident.size
  pub stands : Stands w timeline from prev log
  pub outside : header_length w.ident.size w.at ≤ w.at % 8192
  pub unfinished : w.count < goal w
  pub some : 0 < length piece
  pub fits : w.count + length piece ≤ goal w
  pub on_page : w.at % 8192 + length piece ≤ 8192
  pub are_bytes : AreBytes piece

-- as much of the bytes as is judged at once and stands on the page
pub record_part : {w : Walker} {timeline : ℕ → ℕ} {from prev : ℕ} {log : List ℕ} (bytes : List ℕ) (taken : ℕ)
    → Stands w timeline from prev log → IsSegSize w.ident.size → header_length w.ident.size w.at ≤ w.at % 8192
    → w.count < goal w → 0 < length bytes → AreBytes bytes → taken ≡ min (min (goal w - w.count) (8192 - w.at % 8192)) (length bytes)
    → IsRecordPart w timeline from prev log (take taken bytes)
record_part bytes taken s is outside unfinished some are taken_is =
    let all : length (take taken bytes) ≡ taken = length-take-le taken bytes (omega arith) in
    record {
      size = is;
      stands = s;
      outside = outside;
      unfinished = unfinished;
      some = omega arith;
      fits = omega arith;
      on_page = omega arith;
      are_bytes = AreBytes-take taken bytes are;
    }

-- ---- a part of a record

counted : (w : Walker) (timeline : ℕ → ℕ) (from prev : ℕ) (log piece : List ℕ) → IsRecordPart w timeline from prev log piece
    → IsCounted w (so_far w from log)
counted w timeline from prev log piece t =
    counted_from w (so_far w from log) (holds_from w timeline from prev log t.stands.keeps) t.stands.keeps.has_length t.unfinished

content_taken : (w : Walker) (timeline : ℕ → ℕ) (from prev : ℕ) (log piece : List ℕ) → IsRecordPart w timeline from prev log piece
    → so_far w from (log ++ piece) ≡ so_far w from log ++ piece
content_taken w timeline from prev log piece t = content-more w.ident.size w.at from log piece t.size t.stands.keeps.past t.outside
    t.on_page

pub last_taken : (w : Walker) (timeline : ℕ → ℕ) (from prev : ℕ) (log piece : List ℕ) → IsRecordPart w timeline from prev log piece
    → LastIsContent w.ident.size from (log ++ piece)
last_taken w timeline from prev log piece t = last_more w.ident.size w.at from log piece t.size t.stands.keeps.past t.outside t.on_page
    t.some

pub counted_taken : (w : Walker) (timeline : ℕ → ℕ) (from prev : ℕ) (log piece : List ℕ) → IsRecordPart w timeline from prev log piece
    → IsCounted (with_record w piece) (so_far w from (log ++ piece))
counted_taken w timeline from prev log piece t =
    let Counts : List ℕ → Type 0 = λ bytes. IsCounted (with_record w piece) bytes in
    subst Counts (sym (content_taken w timeline from prev log piece t)) (grown w (so_far w from log) piece
    (counted w timeline from prev log piece t) t.stands.keeps.has_length t.some t.unfinished t.fits)

-- what it keeps, where the length is right
pub keeps_taken : (w : Walker) (timeline : ℕ → ℕ) (from prev : ℕ) (log piece : List ℕ) → IsRecordPart w timeline from prev log piece
    → (4 ≤ length (so_far w from (log ++ piece)) → HasLength (so_far w from (log ++ piece)))
    → Keeps (with_record w piece) timeline from prev (log ++ piece)
keeps_taken w timeline from prev log piece t right =
    let k = t.stands.keeps in
    let holds = (counted_taken w timeline from prev log piece t).holds in
    let at = w.at + length piece in
    let past : at ≡ from + length (log ++ piece) = omega (arith, k.past, length-append log piece) in
    let first : in_header w.ident.size at ≡ true → at % 8192 ≡ 0 = at_page w.ident.size w.at (length piece) t.size t.outside t.on_page in
    record {
      not_refused = k.not_refused;
      begins = k.begins;
      follows = k.follows;
      prev_fits = k.prev_fits;
      past = past;
      aligned = k.aligned;
      are_bytes = AreBytes-append log piece k.are_bytes t.are_bytes;
      header_is = λ inside above. new_page from at w.header (log ++ piece) past (first inside);
      timeline_is = λ inside above begun. absurd (omega (arith, first inside));
      front_is = holds.front_is;
      few = holds.few;
      many = holds.many;
      sum_is = holds.sum_is;
      has_length = right;
      in_gap = λ four all. last_taken w timeline from prev log piece t;
    }

-- a shorter part, with which nothing is judged
pub calm_inside : (w : Walker) (timeline : ℕ → ℕ) (from prev : ℕ) (log piece : List ℕ) → IsRecordPart w timeline from prev log piece
    → w.count + length piece < goal w → IsCalm w.ident timeline from prev (log ++ piece)
calm_inside w timeline from prev log piece t less =
    let bytes = so_far w from log in
    let c = counted w timeline from prev log piece t in
    let same = content_taken w timeline from prev log piece t in
    let count : length (so_far w from (log ++ piece)) ≡ w.count + length piece = omega (
      arith,
      ap length same,
      length-append bytes piece,
      c.count_is,
    ) in
    let cases = goal_is w.count (total w) in
    let whole : 24 ≤ w.count → total w ≡ length_field (so_far w from (log ++ piece)) =
    λ many. total_is w bytes c (omega (arith, c.count_is)) ∙ sym (ap length_field same
    ∙ field-append 0 4 bytes piece (omega (arith, c.count_is))) in
    calm_record w.ident timeline from prev (log ++ piece) t.size (last_taken w timeline from prev log piece t)
    (λ four. omega (arith, count, cases, t.some, less))
    (λ sixteen. omega (arith, count, cases, t.some, less))
    (λ twenty. omega (arith, count, cases, t.some, less))
    (λ many. omega (arith, count, cases, t.some, less, whole (omega (arith, count, cases, t.some, less))))
