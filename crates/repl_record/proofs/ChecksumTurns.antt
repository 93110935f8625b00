-- A turn of several bytes: they are divided as if they stood in the register as one number, and the tables tell what
-- each leaves behind.
use Rattle.std.proofs.Common.{◌≡◌, ℕ, zero, suc, ◌+◌, ◌-◌, ◌*◌, ◌/◌, ◌%◌, ◌^◌, ◌<◌, ◌≤◌, List, [], ◌∷◌, length, slice_index, take, drop, sym, ap, ◌∙◌, arith}
use Rattle.std.proofs.lemmas.List.{length-drop, take_all, take-append-drop}
use Rattle.std.proofs.lemmas.Nat.{xor_mod, xor_shr}
use Rattle.std.specs.Int.{to_le_bytes, w32}
use Rattle.std.specs.Int.Bits.{bit_xor, xor_assoc, xor_comm, xor_shifted, xor_zero_r}
use Rattle.byteorder.specs.Endian.{little_from}
use Rattle.byteorder.specs.Numbers.{little_from-cons, little_from-lt, little_number-reads_back}
use Rattle.repl_record.specs.Checksum.{bits_of, remainder, message}
use Rattle.repl_record.specs.Shifts.{past_byte, past_bytes}
use Rattle.repl_record.proofs.ChecksumPieces.{message-append, remainder-append, remainder-byte}
use Rattle.repl_record.proofs.ChecksumShifts.{past_byte-xor, past_byte-high, past_byte-split, past_bytes-split, past_bytes-xor, remainder-byte_in}

-- a number of which one byte is divided
past_byte-number : (register byte others : ℕ) → byte < 256 → past_byte (bit_xor register (byte + 256 * others)) ≡ bit_xor
    (past_byte (bit_xor register byte)) others
past_byte-number register byte others fits =
    let swapped : byte + 256 * others ≡ others * 256 + byte = omega arith in
    ap (λ t. past_byte (bit_xor register t)) (swapped ∙ sym (xor_shifted others 8 byte fits) ∙ xor_comm (others * 256) byte)
    ∙ ap past_byte (sym (xor_assoc register byte (others * 256)))
    ∙ past_byte-xor (bit_xor register byte) (others * 256)
    ∙ ap (bit_xor (past_byte (bit_xor register byte))) (past_byte-high others)

-- so many bytes are divided as one number that is added to the register
remainder-number : (n register : ℕ) (bytes : List ℕ) → n ≤ length bytes → ((i : ℕ) → slice_index bytes i < 256)
    → remainder register (message (take n bytes)) ≡ past_bytes n (bit_xor register (little_from 0 n bytes))
unfolding remainder message past_bytes
remainder-number zero register bytes enough are_bytes = sym (xor_zero_r register)
remainder-number (suc n) register [] enough are_bytes = absurd (omega arith)
remainder-number (suc n) register (byte ∷ bytes) enough are_bytes =
    let number = little_from 0 n bytes in
    let fits : byte < 256 = are_bytes 0 in
    remainder-byte register byte (take n bytes)
    ∙ ap (λ t. remainder t (message (take n bytes))) (remainder-byte_in register byte fits)
    ∙ remainder-number n (past_byte (bit_xor register byte)) bytes (omega arith) (λ i. are_bytes (suc i))
    ∙ ap (past_bytes n) (sym (past_byte-number register byte number fits))
    ∙ ap (λ t. past_bytes n (past_byte (bit_xor register (byte + 256 * t)))) (sym (little_from-cons 0 n byte bytes))

-- a byte before others: what it leaves behind, and what they do
byte_added : (n m byte others e f : ℕ) → m ≡ suc n → byte < 256 → e ≡ past_bytes n others → f ≡ past_bytes m byte
    → bit_xor e f ≡ past_bytes m (byte + 256 * others)
byte_added n m byte others e f next fits e_is f_is =
    let above : (byte + 256 * others) / 256 ≡ others = omega arith in
    let low : (byte + 256 * others) % 256 ≡ byte = omega arith in
    ap (λ t. bit_xor t f) (e_is ∙ ap (past_bytes n) (sym above))
    ∙ ap (bit_xor (past_bytes n ((byte + 256 * others) / 256))) (f_is ∙ ap (λ k. past_bytes k byte) next
    ∙ ap (past_bytes (suc n)) (sym low))
    ∙ sym (past_bytes-split n (byte + 256 * others))
    ∙ ap (λ k. past_bytes k (byte + 256 * others)) (sym next)

-- four bytes, by four tables in a row
pub four_entries : (n i : ℕ) (bytes : List ℕ) (e0 e1 e2 e3 : ℕ) → ((k : ℕ) → slice_index bytes k < 256)
    → e0 ≡ past_bytes (n + 1) (slice_index bytes (i + 3)) → e1 ≡ past_bytes (n + 1 + 1) (slice_index bytes (i + 2))
    → e2 ≡ past_bytes (n + 2 + 1) (slice_index bytes (i + 1)) → e3 ≡ past_bytes (n + 3 + 1) (slice_index bytes i)
    → bit_xor (bit_xor (bit_xor e0 e1) e2) e3 ≡ past_bytes (n + 4) (little_from i 4 bytes)
four_entries n i bytes e0 e1 e2 e3 are_bytes e0_is e1_is e2_is e3_is =
    let place1 : i + 1 ≡ suc i = omega arith in
    let place2 : i + 2 ≡ suc (suc i) = omega arith in
    let place3 : i + 3 ≡ suc (suc (suc i)) = omega arith in
    let alone : slice_index bytes (suc (suc (suc i))) ≡ little_from (suc (suc (suc i))) 1 bytes = omega arith in
    let last = e0_is ∙ ap (λ k. past_bytes (n + 1) (slice_index bytes k)) place3 ∙ ap (past_bytes (n + 1)) alone in
    let third = e1_is ∙ ap (λ k. past_bytes (n + 1 + 1) (slice_index bytes k)) place2 in
    let second = e2_is ∙ ap (λ k. past_bytes (n + 2 + 1) (slice_index bytes k)) place1 in
    let two = byte_added (n + 1) (n + 1 + 1) (slice_index bytes (suc (suc i))) (little_from (suc (suc (suc i))) 1 bytes) e0 e1 (omega arith)
    (are_bytes (suc (suc i))) last third in
    let three = byte_added (n + 1 + 1) (n + 2 + 1) (slice_index bytes (suc i)) (little_from (suc (suc i)) 2 bytes) (bit_xor e0 e1) e2
    (omega arith) (are_bytes (suc i)) two second in
    let four = byte_added (n + 2 + 1) (n + 3 + 1) (slice_index bytes i) (little_from (suc i) 3 bytes) (bit_xor (bit_xor e0 e1) e2) e3
    (omega arith) (are_bytes i) three e3_is in
    let count : n + 3 + 1 ≡ n + 4 = omega arith in
    four ∙ ap (λ k. past_bytes k (little_from i 4 bytes)) count

abbrev four_more : ℕ → ℕ
four_more n = suc (suc (suc (suc n)))

-- four bytes of zeros bring the others down
past_four-high : (n high : ℕ) → past_bytes (four_more n) (high * 2 ^ 32) ≡ past_bytes n high
unfolding past_bytes
past_four-high n high =
    let four : high * 2 ^ 32 ≡ high * 256 * 256 * 256 * 256 = omega arith in
    let past = λ (t : ℕ). past_bytes n (past_byte (past_byte (past_byte (past_byte t)))) in
    ap past four
    ∙ ap (λ t. past_bytes n (past_byte (past_byte (past_byte t)))) (past_byte-high (high * 256 * 256 * 256))
    ∙ ap (λ t. past_bytes n (past_byte (past_byte t))) (past_byte-high (high * 256 * 256))
    ∙ ap (λ t. past_bytes n (past_byte t)) (past_byte-high (high * 256))
    ∙ ap (past_bytes n) (past_byte-high high)

-- what bytes leave behind: the first four, and the others
four_first : (n i : ℕ) (bytes : List ℕ) → ((k : ℕ) → slice_index bytes k < 256)
    → past_bytes (four_more n) (little_from i (four_more n) bytes)
    ≡ bit_xor (past_bytes (four_more n) (little_from i 4 bytes)) (past_bytes n (little_from (four_more i) n bytes))
four_first n i bytes are_bytes =
    let all = four_more n in
    let low = little_from i 4 bytes in
    let high = little_from (four_more i) n bytes in
    let fits : low < 2 ^ 32 = little_from-lt i 4 bytes are_bytes in
    let parts : little_from i all bytes ≡ high * 2 ^ 32 + low = omega arith in
    ap (past_bytes all) (parts ∙ sym (xor_shifted high 32 low fits) ∙ xor_comm (high * 2 ^ 32) low)
    ∙ past_bytes-xor all low (high * 2 ^ 32)
    ∙ ap (bit_xor (past_bytes all low)) (past_four-high n high)

-- the first four are added to the register
four_with : (n register : ℕ) (bytes : List ℕ) → ((k : ℕ) → slice_index bytes k < 256)
    → past_bytes (four_more n) (bit_xor register (little_from 0 (four_more n) bytes))
    ≡ bit_xor (past_bytes (four_more n) (bit_xor register (little_from 0 4 bytes))) (past_bytes n (little_from 4 n bytes))
four_with n register bytes are_bytes =
    let all = four_more n in
    let low = little_from 0 4 bytes in
    past_bytes-xor all register (little_from 0 all bytes)
    ∙ ap (bit_xor (past_bytes all register)) (four_first n 0 bytes are_bytes)
    ∙ sym (xor_assoc (past_bytes all register) (past_bytes all low) (past_bytes n (little_from 4 n bytes)))
    ∙ ap (λ t. bit_xor t (past_bytes n (little_from 4 n bytes))) (sym (past_bytes-xor all register low))

-- sixteen bytes, of which four are added to the register
pub sixteen : (register : ℕ) (bytes : List ℕ) (e0 e1 e2 e3 : ℕ) → 16 ≤ length bytes → ((k : ℕ) → slice_index bytes k < 256)
    → e0 ≡ past_bytes 16 (bit_xor register (little_from 0 4 bytes))
    → e1 ≡ past_bytes 12 (little_from 4 4 bytes) → e2 ≡ past_bytes 8 (little_from 8 4 bytes) → e3 ≡ past_bytes 4 (little_from 12 4 bytes)
    → bit_xor (bit_xor (bit_xor e0 e1) e2) e3 ≡ remainder register (message (take 16 bytes))
sixteen register bytes e0 e1 e2 e3 enough are_bytes e0_is e1_is e2_is e3_is =
    let last : bit_xor e2 e3 ≡ past_bytes 8 (little_from 8 8 bytes) = ap (λ t. bit_xor t e3) e2_is
    ∙ ap (bit_xor (past_bytes 8 (little_from 8 4 bytes))) e3_is ∙ sym (four_first 4 8 bytes are_bytes) in
    let others : bit_xor e1 (bit_xor e2 e3) ≡ past_bytes 12 (little_from 4 12 bytes) =
    ap (λ t. bit_xor t (bit_xor e2 e3)) e1_is ∙ ap (bit_xor (past_bytes 12 (little_from 4 4 bytes))) last
    ∙ sym (four_first 8 4 bytes are_bytes) in
    xor_assoc (bit_xor e0 e1) e2 e3
    ∙ xor_assoc e0 e1 (bit_xor e2 e3)
    ∙ ap (λ t. bit_xor t (bit_xor e1 (bit_xor e2 e3))) e0_is
    ∙ ap (bit_xor (past_bytes 16 (bit_xor register (little_from 0 4 bytes)))) others
    ∙ sym (four_with 12 register bytes are_bytes)
    ∙ sym (remainder-number 16 register bytes enough are_bytes)

-- a number of four bytes, written and read
pub number_back : (word : ℕ) → word < 2 ^ 32 → little_from 0 4 (to_le_bytes w32 word) ≡ word
number_back word fits = little_number-reads_back 4 word [] fits

-- one byte, by the first table
pub one_entry : (register byte entry : ℕ) → byte < 256 → entry ≡ past_bytes 1 (bit_xor (register % 256) byte)
    → bit_xor (register / 256) entry ≡ remainder register (bits_of byte)
unfolding past_bytes
one_entry register byte entry fits is =
    let sum = bit_xor register byte in
    let none : byte / 256 ≡ 0 = omega arith in
    let whole : byte % 256 ≡ byte = omega arith in
    let above : sum / 256 ≡ register / 256 = xor_shr register byte 8 ∙ ap (bit_xor (register / 256)) none ∙ xor_zero_r (register / 256) in
    let low : sum % 256 ≡ bit_xor (register % 256) byte = xor_mod register byte 8 ∙ ap (bit_xor (register % 256)) whole in
    ap (bit_xor (register / 256)) (is ∙ ap past_byte (sym low))
    ∙ ap (λ t. bit_xor t (past_byte (sum % 256))) (sym above)
    ∙ sym (past_byte-split sum)
    ∙ sym (remainder-byte_in register byte fits)

-- some bytes and then the others
pub remainder-turn : (n register next : ℕ) (bytes : List ℕ) → next ≡ remainder register (message (take n bytes))
    → remainder next (message (take (length bytes - n) (drop n bytes))) ≡ remainder register (message bytes)
remainder-turn n register next bytes is =
    let others = drop n bytes in
    ap (λ t. remainder next (message t)) (take_all (length bytes - n) others (omega (arith, length-drop n bytes)))
    ∙ ap (λ t. remainder t (message others)) is
    ∙ sym (remainder-append register (message (take n bytes)) (message others))
    ∙ ap (remainder register) (sym (message-append (take n bytes) others))
    ∙ ap (λ t. remainder register (message t)) (take-append-drop n bytes)
