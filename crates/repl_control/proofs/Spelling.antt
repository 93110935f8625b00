-- What bytes spell: the numbers that are read of a control's bytes are its own, and bytes without a fault are a control's.
use Rattle.std.proofs.Common.{◌≡◌, ℕ, ◌^◌, ◌<◌, List, [], ◌++◌, length, refl, ◌∙◌, arith}
use Rattle.std.proofs.lemmas.List.{take_all}
use Rattle.byteorder.specs.Endian.{big_bytes}
use Rattle.byteorder.specs.Numbers.{big_number-reads_back}
use Rattle.repl_control.specs.declared.fields.Fields.{Fields}
use Rattle.repl_control.specs.Control.{bytes_of, fields_in}
use Rattle.repl_control.proofs.Bytes.{AreBytes, spelled_on}

-- the numbers in bytes spell them
pub bytes_again : (bytes : List ℕ) → AreBytes bytes → length bytes ≡ 56 → bytes_of (fields_in bytes) ≡ bytes
unfolding bytes_of fields_in
bytes_again bytes fit len =
    let mark = spelled_on 0 4 4 bytes [] fit refl (omega arith) refl in
    let version = spelled_on 4 2 6 bytes _ fit refl (omega arith) mark in
    let role = spelled_on 6 1 7 bytes _ fit refl (omega arith) version in
    let zero = spelled_on 7 1 8 bytes _ fit refl (omega arith) role in
    let sysid = spelled_on 8 8 16 bytes _ fit refl (omega arith) zero in
    let tli = spelled_on 16 4 20 bytes _ fit refl (omega arith) sysid in
    let magic = spelled_on 20 2 22 bytes _ fit refl (omega arith) tli in
    let padding = spelled_on 22 2 24 bytes _ fit refl (omega arith) magic in
    let flushed = spelled_on 24 8 32 bytes _ fit refl (omega arith) padding in
    let whole = spelled_on 32 8 40 bytes _ fit refl (omega arith) flushed in
    let floor = spelled_on 40 8 48 bytes _ fit refl (omega arith) whole in
    let prev = spelled_on 48 8 56 bytes _ fit refl (omega arith) floor in
    prev ∙ take_all 56 bytes (omega arith)

-- they are 56 bytes
pub length-bytes_of : (numbers : Fields) → length (bytes_of numbers) ≡ 56
unfolding bytes_of
length-bytes_of numbers = refl

-- numbers fit their fields
pub record InRange (numbers : Fields) : Type 0 where
  pub mark : numbers.mark < 2 ^ 32
  pub version : numbers.version < 2 ^ 16
  pub role : numbers.role < 2 ^ 8
  pub zero : numbers.zero < 2 ^ 8
  pub sysid : numbers.sysid < 2 ^ 64
  pub tli : numbers.tli < 2 ^ 32
  pub magic : numbers.magic < 2 ^ 16
  pub padding : numbers.padding < 2 ^ 16
  pub flushed : numbers.flushed < 2 ^ 64
  pub whole : numbers.whole < 2 ^ 64
  pub floor : numbers.floor < 2 ^ 64
  pub prev : numbers.prev < 2 ^ 64

same_fields : (a b : Fields) → a.mark ≡ b.mark → a.version ≡ b.version → a.role ≡ b.role → a.zero ≡ b.zero → a.sysid ≡ b.sysid
    → a.tli ≡ b.tli → a.magic ≡ b.magic → a.padding ≡ b.padding → a.flushed ≡ b.flushed → a.whole ≡ b.whole → a.floor ≡ b.floor
    → a.prev ≡ b.prev → a ≡ b
same_fields a b m v r z s t g p f w l e = λ i. record {
  mark = m i;
  version = v i;
  role = r i;
  zero = z i;
  sysid = s i;
  tli = t i;
  magic = g i;
  padding = p i;
  flushed = f i;
  whole = w i;
  floor = l i;
  prev = e i;
}

-- the numbers that are read are those that were spelled
pub fields_again : (numbers : Fields) → InRange numbers → fields_in (bytes_of numbers) ≡ numbers
unfolding bytes_of fields_in
fields_again numbers fit =
    let floor = big_bytes 8 numbers.floor ++ big_bytes 8 numbers.prev in
    let whole = big_bytes 8 numbers.whole ++ floor in
    let flushed = big_bytes 8 numbers.flushed ++ whole in
    let padding = big_bytes 2 numbers.padding ++ flushed in
    let magic = big_bytes 2 numbers.magic ++ padding in
    let tli = big_bytes 4 numbers.tli ++ magic in
    let sysid = big_bytes 8 numbers.sysid ++ tli in
    let zero = big_bytes 1 numbers.zero ++ sysid in
    let role = big_bytes 1 numbers.role ++ zero in
    let version = big_bytes 2 numbers.version ++ role in
    same_fields (fields_in (bytes_of numbers)) numbers
    (big_number-reads_back 4 numbers.mark version fit.mark)
    (big_number-reads_back 2 numbers.version role fit.version)
    (big_number-reads_back 1 numbers.role zero fit.role)
    (big_number-reads_back 1 numbers.zero sysid fit.zero)
    (big_number-reads_back 8 numbers.sysid tli fit.sysid)
    (big_number-reads_back 4 numbers.tli magic fit.tli)
    (big_number-reads_back 2 numbers.magic padding fit.magic)
    (big_number-reads_back 2 numbers.padding flushed fit.padding)
    (big_number-reads_back 8 numbers.flushed whole fit.flushed)
    (big_number-reads_back 8 numbers.whole floor fit.whole)
    (big_number-reads_back 8 numbers.floor (big_bytes 8 numbers.prev) fit.floor)
    (big_number-reads_back 8 numbers.prev [] fit.prev)
