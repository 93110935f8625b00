-- The register after bits that come in two pieces.
use Rattle.std.proofs.Common.{◌≡◌, ℕ, ◌+◌, ◌<◌, ◌≤◌, List, [], ◌∷◌, ◌++◌, get_or, drop, length, refl, sym, ap, ◌∙◌, append_assoc, ◌/◌, ◌%◌, ◌^◌, ◌==◌, arith}
use Rattle.std.proofs.lemmas.List.{drop_more, drop_all}
use Rattle.std.specs.Int.Bits.{bit_xor}
use Rattle.std.specs.Int.{bit_at}
use Rattle.std.proofs.lemmas.Nat.Bits.{bit_at-lt}
use Rattle.std.proofs.lemmas.Nat.{xor_of_32}
use Rattle.std.proofs.lemmas.Bool.{cond_both}
use Rattle.repl_record.specs.Checksum.{divided, bits_of, remainder, message, checksum_from, polynomial, checksum}
use Rattle.repl_record.proofs.ChecksumDivision.{xor_twice}

pub remainder-append : (register : ℕ) (a b : List ℕ) → remainder register (a ++ b) ≡ remainder (remainder register a) b
unfolding remainder
remainder-append register [] b = refl
remainder-append register (bit ∷ a) b = remainder-append (divided register bit) a b

pub message-append : (a b : List ℕ) → message (a ++ b) ≡ message a ++ message b
unfolding message
message-append [] b = refl
message-append (byte ∷ a) b = ap (λ t. bits_of byte ++ t) (message-append a b) ∙ sym (append_assoc (bits_of byte) (message a) (message b))

-- the register after a byte and then others
pub remainder-byte : (register byte : ℕ) (bytes : List ℕ) → remainder register (message (byte ∷ bytes)) ≡ remainder
    (remainder register (bits_of byte)) (message bytes)
unfolding message
remainder-byte register byte bytes = remainder-append register (bits_of byte) (message bytes)

pub goes_on : (before : ℕ) (a b : List ℕ) → checksum_from (checksum_from before a) b ≡ checksum_from before (a ++ b)
goes_on before a b =
    let start = bit_xor before 0xffff_ffff in
    ap (λ t. bit_xor (remainder t (message b)) 0xffff_ffff) (xor_twice (remainder start (message a)) 0xffff_ffff)
    ∙ ap (λ t. bit_xor t 0xffff_ffff) (sym (remainder-append start (message a) (message b)))
    ∙ ap (λ t. bit_xor (remainder start t) 0xffff_ffff) (sym (message-append a b))

-- the register after the byte at a place is the register from which those after it go on
pub remainder-next : (register next i : ℕ) (bytes : List ℕ) → i < length bytes → next ≡ remainder register (bits_of (get_or bytes i 0))
    → remainder next (message (drop (i + 1) bytes)) ≡ remainder register (message (drop i bytes))
remainder-next register next i bytes inside is =
    ap (λ t. remainder t (message (drop (i + 1) bytes))) is
    ∙ sym (remainder-byte register (get_or bytes i 0) (drop (i + 1) bytes))
    ∙ ap (λ t. remainder register (message t)) (sym (drop_more bytes i 0 inside))

-- after the last byte there is none
pub remainder_past : (register i : ℕ) (bytes : List ℕ) → length bytes ≤ i → remainder register (message (drop i bytes)) ≡ register
unfolding remainder message
remainder_past register i bytes past = ap (λ t. remainder register (message t)) (drop_all i bytes past)

-- ---- a checksum fits 32 bits

divided-lt : (register bit : ℕ) → register < 2 ^ 32 → bit < 2 → divided register bit < 2 ^ 32
divided-lt register bit fits small =
    let sum = bit_xor register bit in
    let below : sum < 2 ^ 32 = xor_of_32 register bit fits (omega arith) in
    cond_both (sum % 2 == 1) (bit_xor (sum / 2) polynomial) (sum / 2) (λ (n : ℕ). n < 2 ^ 32) (λ _.
    xor_of_32 (sum / 2) polynomial (omega arith) (omega arith)) (λ _. omega arith)

-- a byte, and then all of them, leave a register of 32 bits
remainder_byte-lt : (register byte : ℕ) → register < 2 ^ 32 → remainder register (bits_of byte) < 2 ^ 32
unfolding remainder
remainder_byte-lt register byte fits =
    let step : (i r : ℕ) → r < 2 ^ 32 → divided r (bit_at byte i) < 2 ^ 32 = λ i r h. divided-lt r (bit_at byte i) h (bit_at-lt byte i) in
    step 7 _ (step 6 _ (step 5 _ (step 4 _ (step 3 _ (step 2 _ (step 1 _ (step 0 register fits)))))))

remainder_bytes-lt : (register : ℕ) (bytes : List ℕ) → register < 2 ^ 32 → remainder register (message bytes) < 2 ^ 32
unfolding remainder message
remainder_bytes-lt register [] fits = fits
remainder_bytes-lt register (byte ∷ bytes) fits =
    let next = remainder register (bits_of byte) in
    let rest = remainder_bytes-lt next bytes (remainder_byte-lt register byte fits) in
    omega (arith, remainder-byte register byte bytes)

pub checksum-lt : (bytes : List ℕ) → checksum bytes < 2 ^ 32
checksum-lt bytes = xor_of_32 _ 0xffff_ffff (remainder_bytes-lt (bit_xor 0 0xffff_ffff) bytes (xor_of_32 0 0xffff_ffff (omega arith)
    (omega arith))) (omega arith)
