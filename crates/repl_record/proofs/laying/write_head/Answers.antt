-- What is written before the body: the front, and after it the checksum, which goes on from that of the body.
use Rattle.std.proofs.Common.{◌≡◌, ℕ, ◌-◌, List, ◌++◌, [], length, take, drop, refl, ap, ◌∙◌, length-append, length-drop, arith}
use Rattle.std.proofs.lemmas.List.{take_at, drop_all, length-take}
use Rattle.byteorder.specs.Endian.{little_bytes}
use borrow.Rule.Slice.PartMut.{put_mid}
use Rattle.repl_record.specs.Checksum.{checksum, checksum_from}
use Rattle.repl_record.specs.Record.{front_bytes}
use Rattle.repl_record.proofs.ChecksumPieces.{goes_on}
use Rattle.repl_record.proofs.laying.write_head.Goals as goal

-- a number of four bytes is written over the rest after the front
written_past : (front old : List ℕ) (sum : ℕ) → length front ≡ 20 → length old ≡ 24
    → let whole = front ++ drop 20 old in
    put_mid 20 (length whole - 20) whole (little_bytes 4 sum ++ drop 4 (take (length whole - 20) (drop 20 whole))) ≡ front
    ++ little_bytes 4 sum
written_past front old sum front_is old_is =
    let whole = front ++ drop 20 old in
    let k = length whole - 20 in
    let counted : length whole ≡ 24 = omega (arith, length-append front (drop 20 old), length-drop 20 old) in
    let none : drop 4 (take k (drop 20 whole)) ≡ [] = drop_all 4 (take k (drop 20 whole)) (omega (
      arith,
      length-take k (drop 20 whole),
      length-drop 20 whole,
    )) in
    let past : drop k (drop 20 whole) ≡ [] = drop_all k (drop 20 whole) (omega (arith, length-drop 20 whole)) in
    ap (λ (t : List ℕ). t ++ ((little_bytes 4 sum ++ drop 4 (take k (drop 20 whole)))
    ++ drop k (drop 20 whole))) (take_at front (drop 20 old) 20 front_is)
    ∙ ap (λ (t : List ℕ). front ++ ((little_bytes 4 sum ++ drop 4 (take k (drop 20 whole))) ++ t)) past
    ∙ ap (λ (t : List ℕ). front ++ ((little_bytes 4 sum ++ t) ++ [])) none

-- the whole
head_is : (front old room body : List ℕ) (sum of_body : ℕ) → length front ≡ 20 → length old ≡ 24 → of_body ≡ checksum_from 0 body
    → sum ≡ checksum_from of_body (take 20 (front ++ drop 20 old))
    → room ≡ little_bytes 4 sum ++ drop 4 (take (length (front ++ drop 20 old) - 20) (drop 20 (front ++ drop 20 old)))
    → put_mid 20 (length (front ++ drop 20 old) - 20) (front ++ drop 20 old) room ≡ front ++ little_bytes 4 (checksum (body ++ front))
head_is front old room body sum of_body front_is old_is of_body_is sum_is room_is =
    let whole = front ++ drop 20 old in
    let same : sum ≡ checksum (body ++ front) =
    sum_is ∙ ap (checksum_from of_body) (take_at front (drop 20 old) 20 front_is) ∙ ap (λ (n : ℕ). checksum_from n front) of_body_is
    ∙ goes_on 0 body front in
    ap (put_mid 20 (length whole - 20) whole) room_is ∙ written_past front old sum front_is old_is
    ∙ ap (λ (n : ℕ). front ++ little_bytes 4 n) same

pub returns : goal.returns
returns c =
    let item = c.args.item.now in
    let front = front_bytes c.args.prev item in
    ap (λ (t : List ℕ). put_mid 20 (length (t ++ drop 20 c.args.head.now) - 20) (t ++ drop 20 c.args.head.now) c.write_u32.new.buf)
    c.write_front.ensures
    ∙ head_is front c.args.head.now c.write_u32.new.buf item.body c.crc32c-sum.result c.crc32c.result refl c.requires.room
    (c.crc32c.ensures ∙ ap (checksum_from 0) c.as_slice.ensures)
    (c.crc32c-sum.ensures ∙ ap (λ (t : List ℕ). checksum_from c.crc32c.result (take 20 (t ++ drop 20 c.args.head.now)))
    c.write_front.ensures)
    (c.write_u32.ensures ∙ ap (λ (t : List ℕ). little_bytes 4 c.crc32c-sum.result
    ++ drop 4 (take (length (t ++ drop 20 c.args.head.now) - 20) (drop 20 (t ++ drop 20 c.args.head.now)))) c.write_front.ensures)
