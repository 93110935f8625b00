-- Along two paths that are one on the log, the log has the same images, record ends and faults.
use Rattle.std.proofs.Common.{ℕ, ◌+◌, ◌-◌, ◌≤◌, List, length, take, drop, sym, ◌∙◌, subst, arith, length-drop}
use Rattle.std.proofs.lemmas.List.{length-take}
use Rattle.repl_page.specs.declared.ident.Ident.{Ident}
use Rattle.repl_page.specs.declared.fault.PageFault.{PageFault}
use Rattle.repl_page.specs.Page.{page_start}
use Rattle.repl_page.specs.Header.{Agrees, IsPageFault, header_of}
use Rattle.repl_record.specs.declared.answer.WalkReason.{WalkReason}
use Rattle.repl_record.specs.declared.answer.WalkReason.TheVariants as why
use Rattle.repl_record.specs.declared.record.RecordIn.{RecordIn}
use Rattle.repl_record.specs.declared.walker.Walker.{Walker}
use Rattle.repl_record.specs.Record.{IsImage, content, from_page, remaining, total_length}
use Rattle.repl_record.specs.Judging.{IsBeginning, IsFaultAt, IsHeaderFault, length_field}
use Rattle.repl_record.specs.Log.{RecordEnd, origin, next, IsPrefixOfRecords}
use Rattle.repl_record.specs.Walker.{Keeps, last_end, last_start}
use Rattle.repl_record.proofs.LogEnds.{from_le}
use Rattle.repl_record.proofs.Pages.{header_is}
use Rattle.repl_walk.specs.Timelines.{AreAlike}
use Rattle.repl_walk.specs.Walks.{HasWalked}
use Rattle.repl_walk.proofs.Ends.{ends_within}

-- on a part of the log they are one
part_alike : (timeline other : ℕ → ℕ) (from count at few : ℕ) → AreAlike timeline other from count → from ≤ at → at + few ≤ from + count
    → AreAlike timeline other at few
part_alike timeline other from count at few alike above within page is begins below = alike page is (omega arith) (omega arith)

other_way : (timeline other : ℕ → ℕ) (from count : ℕ) → AreAlike timeline other from count → AreAlike other timeline from count
other_way timeline other from count alike page is begins below = sym (alike page is begins below)

pub image_alike : (ident : Ident) (timeline other : ℕ → ℕ) (from prev : ℕ) (item : RecordIn) (log : List ℕ)
    → AreAlike timeline other from (length log) → IsImage ident timeline from prev item log → IsImage ident other from prev item log
image_alike ident timeline other from prev item log alike is = record {
  front = is.front;
  gap = is.gap;
  parts = is.parts;
  item_is = is.item_is;
  follows = is.follows;
  bytes = is.bytes;
  last = is.last;
  few = is.few;
  rounded = is.rounded;
  headers = λ page is_page begins below.
      subst (λ (tli : ℕ). Agrees (header_of ident tli page (remaining ident.size (total_length item) from log page)) (from_page from log
      page)) (alike page is_page begins below) (is.headers page is_page begins below);
}

pub ends_alike : (ident : Ident) (timeline other : ℕ → ℕ) (from prev : ℕ) (log : List ℕ) (end last : ℕ)
    → AreAlike timeline other from (length log) → RecordEnd ident timeline from prev log end last
    → RecordEnd ident other from prev log end last
ends_alike ident timeline other from prev log end last alike origin = origin
ends_alike ident timeline other from prev log _ _ alike (next end last item n before fits image) =
    let above = from_le ident timeline from prev log end last before in
    let bytes = take n (drop (end - from) log) in
    let counted = length-take n (drop (end - from) log) in
    next end last item n (ends_alike ident timeline other from prev log end last alike before) fits
    (image_alike ident timeline other end last item bytes (part_alike timeline other from (length log) end (length bytes) alike above
    (omega (arith, counted, length-drop (end - from) log))) image)

-- ---- what is judged

header_alike : (ident : Ident) (timeline other : ℕ → ℕ) (from : ℕ) (log : List ℕ) (fault : PageFault)
    → AreAlike timeline other from (length log) → IsHeaderFault ident timeline from log fault → IsHeaderFault ident other from log fault
header_alike ident timeline other from log fault alike is = record {
  page = is.page;
  is_page = is.is_page;
  began = is.began;
  ended = is.ended;
  within = is.within;
  fault = subst (λ (tli : ℕ). IsPageFault (header_of ident tli is.page (remaining ident.size (length_field (content ident.size from log))
      from log is.page)) (from_page from log is.page) fault) (alike is.page is.is_page is.began (omega (
        arith,
        is.ended,
        header_is ident.size is.page,
      ))) is.fault;
}

fault_alike : (ident : Ident) (timeline other : ℕ → ℕ) (from prev : ℕ) (log : List ℕ) (reason : WalkReason)
    → AreAlike timeline other from (length log) → IsFaultAt ident timeline from prev log reason → IsFaultAt ident other from prev log reason
fault_alike ident timeline other from prev log (why.Page fault) alike is = header_alike ident timeline other from log fault alike is
fault_alike ident timeline other from prev log (why.Length found) alike is = is
fault_alike ident timeline other from prev log (why.Prev found expected) alike is = is
fault_alike ident timeline other from prev log why.Reserved alike is = is
fault_alike ident timeline other from prev log (why.Checksum found computed) alike is = is
fault_alike ident timeline other from prev log why.Padding alike is = is

begins_alike : (ident : Ident) (timeline other : ℕ → ℕ) (from prev : ℕ) (log : List ℕ) → AreAlike timeline other from (length log)
    → IsBeginning ident timeline from prev log → IsBeginning ident other from prev log
begins_alike ident timeline other from prev log alike is m below =
    let front = take m log in
    let part : AreAlike timeline other from (length front) = part_alike timeline other from (length log) from (length front) alike (omega
    arith) (omega (arith, length-take m log)) in (
      (is m below).0,
      λ reason fault. (is m below).1 reason (fault_alike ident other timeline from prev front reason
          (other_way timeline other from (length front) part) fault),
    )

-- past a record end
rest_alike : (ident : Ident) (timeline other : ℕ → ℕ) (from prev : ℕ) (log : List ℕ) (end last : ℕ)
    → AreAlike timeline other from (length log) → RecordEnd ident timeline from prev log end last
    → AreAlike timeline other end (length (drop (end - from) log))
rest_alike ident timeline other from prev log end last alike is =
    part_alike timeline other from (length log) end (length (drop (end - from) log)) alike
    (from_le ident timeline from prev log end last is) (omega (
      arith,
      length-drop (end - from) log,
      ends_within ident timeline from prev log end last is,
    ))

pub prefix_alike : (ident : Ident) (timeline other : ℕ → ℕ) (from prev : ℕ) (log : List ℕ) → AreAlike timeline other from (length log)
    → IsPrefixOfRecords ident timeline from prev log → IsPrefixOfRecords ident other from prev log
prefix_alike ident timeline other from prev log alike is = record {
  end = is.end;
  last = is.last;
  records = ends_alike ident timeline other from prev log is.end is.last alike is.records;
  beginning = begins_alike ident timeline other is.end is.last (drop (is.end - from) log)
      (rest_alike ident timeline other from prev log is.end is.last alike is.records) is.beginning;
}

-- ---- walkers

keeps_alike : (w : Walker) (timeline other : ℕ → ℕ) (from prev : ℕ) (log : List ℕ) → AreAlike timeline other from (length log)
    → Keeps w timeline from prev log → Keeps w other from prev log
keeps_alike w timeline other from prev log alike k = record {
  not_refused = k.not_refused;
  begins = k.begins;
  follows = k.follows;
  prev_fits = k.prev_fits;
  past = k.past;
  aligned = k.aligned;
  are_bytes = k.are_bytes;
  header_is = k.header_is;
  timeline_is = λ inside above begun. k.timeline_is inside above begun ∙ alike (page_start w.at) (omega arith) above (omega (
    arith,
    k.past,
  ));
  front_is = k.front_is;
  few = k.few;
  many = k.many;
  sum_is = k.sum_is;
  has_length = k.has_length;
  in_gap = k.in_gap;
}

pub walked_alike : (w : Walker) (timeline other : ℕ → ℕ) (from prev : ℕ) (log : List ℕ) → AreAlike timeline other from (length log)
    → HasWalked w timeline from prev log → HasWalked w other from prev log
walked_alike w timeline other from prev log alike is =
    let end = last_end w in
    let last = last_start w in
    let rest = drop (end - from) log in
    let part = rest_alike w.ident timeline other from prev log end last alike is.records in
    record {
      aligned = is.aligned;
      records = ends_alike w.ident timeline other from prev log end last alike is.records;
      stands = record {
        keeps = keeps_alike w timeline other end last rest part is.stands.keeps;
        beginning = begins_alike w.ident timeline other end last rest part is.stands.beginning;
      };
    }
