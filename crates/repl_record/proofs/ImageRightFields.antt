-- What the fields read in a front of a record's bytes.
use Rattle.std.proofs.Common.{◌≡◌, ℕ, ◌+◌, ◌^◌, ◌<◌, ◌≤◌, List, ◌∷◌, ◌++◌, length, take, sym, ap, ◌∙◌, arith}
use Rattle.std.proofs.lemmas.List.{take_at}
use Rattle.byteorder.specs.Endian.{little_bytes}
use Rattle.byteorder.specs.Numbers.{little_number-reads_back}
use Rattle.repl_page.specs.Header.{field}
use Rattle.repl_record.specs.declared.record.RecordIn.{RecordIn}
use Rattle.repl_record.specs.Checksum.{checksum}
use Rattle.repl_record.specs.Record.{total_length, front_bytes, record_bytes, IsRecord}
use Rattle.repl_record.specs.Judging.{length_field, computed_sum}
use Rattle.repl_record.proofs.Fields.{field-take}
use Rattle.repl_record.proofs.ChecksumPieces.{checksum-lt}

-- ---- fields of a front

-- the bytes are a front of the record's and of what follows it
pub record IsBegun (prev : ℕ) (item : RecordIn) (bytes : List ℕ) : Type 0 where
  pub rest : List ℕ
  pub front : take (length bytes) (record_bytes prev item ++ rest) ≡ bytes

-- it reads in the record's bytes
field_begun : (prev : ℕ) (item : RecordIn) (bytes : List ℕ) (place n : ℕ) → (is : IsBegun prev item bytes) → place + n ≤ length bytes
    → field place n bytes ≡ field place n (record_bytes prev item ++ is.rest)
field_begun prev item bytes place n is within = ap (field place n) (sym is.front)
    ∙ field-take place n (length bytes) (record_bytes prev item ++ is.rest) within

pub length-record_bytes : (prev : ℕ) (item : RecordIn) → length (record_bytes prev item) ≡ total_length item
length-record_bytes prev item = omega arith

-- each field reads as it was written
pub length_begun : (prev : ℕ) (item : RecordIn) (bytes : List ℕ) → IsRecord item → IsBegun prev item bytes → 4 ≤ length bytes
    → length_field bytes ≡ total_length item
length_begun prev item bytes fits is within =
    let sum = checksum (item.body ++ front_bytes prev item) in
    field_begun prev item bytes 0 4 is within
    ∙ little_number-reads_back 4 (total_length item) (little_bytes 4 item.xid ++ little_bytes 8 prev
    ++ item.info ∷ item.rmid ∷ 0 ∷ 0 ∷ little_bytes 4 sum ++ item.body ++ is.rest) (omega (arith, fits.short))

pub prev_begun : (prev : ℕ) (item : RecordIn) (bytes : List ℕ) → prev < 2 ^ 64 → IsBegun prev item bytes → 16 ≤ length bytes
    → field 8 8 bytes ≡ prev
prev_begun prev item bytes fits is within =
    let sum = checksum (item.body ++ front_bytes prev item) in
    field_begun prev item bytes 8 8 is within
    ∙ little_number-reads_back 8 prev (item.info ∷ item.rmid ∷ 0 ∷ 0 ∷ little_bytes 4 sum ++ item.body ++ is.rest) fits

pub reserved_begun : (prev : ℕ) (item : RecordIn) (bytes : List ℕ) → IsBegun prev item bytes → 20 ≤ length bytes → field 18 2 bytes ≡ 0
reserved_begun prev item bytes is within = field_begun prev item bytes 18 2 is within ∙ omega arith

pub sum_begun : (prev : ℕ) (item : RecordIn) (bytes : List ℕ) → IsBegun prev item bytes → 24 ≤ length bytes
    → field 20 4 bytes ≡ checksum (item.body ++ front_bytes prev item)
sum_begun prev item bytes is within =
    let sum = checksum (item.body ++ front_bytes prev item) in
    field_begun prev item bytes 20 4 is within
    ∙ little_number-reads_back 4 sum (item.body ++ is.rest) (checksum-lt (item.body ++ front_bytes prev item))

-- where all are there, they are the record's
all_begun : (prev : ℕ) (item : RecordIn) (bytes : List ℕ) → IsBegun prev item bytes → length bytes ≡ total_length item
    → bytes ≡ record_bytes prev item
all_begun prev item bytes is all = sym is.front ∙ take_at (record_bytes prev item) is.rest (length bytes) (length-record_bytes prev item
    ∙ sym all)

-- and their checksum is the one that was written
pub computed_begun : (prev : ℕ) (item : RecordIn) (bytes : List ℕ) → IsBegun prev item bytes → length bytes ≡ total_length item
    → computed_sum bytes ≡ checksum (item.body ++ front_bytes prev item)
computed_begun prev item bytes is all = ap computed_sum (all_begun prev item bytes is all)
