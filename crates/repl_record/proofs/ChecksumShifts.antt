-- The register moved on by whole bytes of zeros: the laws that make the tables enough.
use Rattle.std.proofs.Common.{◌≡◌, ℕ, zero, suc, ◌*◌, ◌/◌, ◌%◌, ◌<◌, ◌==◌, ◌&&◌, Bool, true, refl, sym, ap, ◌∙◌, subst, arith, eqb-true, inl, inr}
use Rattle.std.proofs.lemmas.Nat.{mod_below, shr_split}
use Rattle.std.proofs.lemmas.Bool.{cases_lt, and_parts}
use Rattle.std.specs.Int.Bits.{bit_xor, xor_shifted, xor_zero_r}
use Rattle.repl_record.specs.Checksum.{bits_of, remainder}
use Rattle.repl_record.specs.Shifts.{past_byte, past_bytes}
use Rattle.repl_record.proofs.ChecksumDivision.{remainder-xor, remainder-zeros}

pub past_byte-xor : (a b : ℕ) → past_byte (bit_xor a b) ≡ bit_xor (past_byte a) (past_byte b)
unfolding past_byte
past_byte-xor a b = remainder-xor a b (bits_of 0)

-- eight bits of zeros bring the other bytes down
pub past_byte-high : (high : ℕ) → past_byte (high * 256) ≡ high
unfolding past_byte
past_byte-high high = remainder-zeros high 8

-- a number is its low byte beside the others
split_byte : (n : ℕ) → n ≡ bit_xor (n / 256 * 256) (n % 256)
split_byte n = sym (xor_shifted (n / 256) 8 (n % 256) (mod_below n 256 (omega arith)) ∙ shr_split n 8)

pub past_byte-split : (n : ℕ) → past_byte n ≡ bit_xor (n / 256) (past_byte (n % 256))
past_byte-split n =
    ap past_byte (split_byte n)
    ∙ past_byte-xor (n / 256 * 256) (n % 256)
    ∙ ap (λ t. bit_xor t (past_byte (n % 256))) (past_byte-high (n / 256))

-- each byte below this one, divided alone, is as if it stood in the register
bytes_pass : ℕ → Bool
bytes_pass zero = true
bytes_pass (suc n) = remainder 0 (bits_of n) == past_byte n && bytes_pass n

all_pass : bytes_pass 256 ≡ true
unfolding bytes_pass remainder past_byte
all_pass = refl

passes : (n byte : ℕ) → bytes_pass n ≡ true → byte < n → remainder 0 (bits_of byte) ≡ past_byte byte
unfolding bytes_pass
passes zero byte pass below = absurd (omega arith)
passes (suc n) byte pass below =
    let parts = and_parts (remainder 0 (bits_of n) == past_byte n) (bytes_pass n) pass in
    elim (cases_lt byte n) [
      | inl less ↦ passes n byte parts.1 less
      | inr last ↦ let same : n ≡ byte = omega arith in subst (λ k. remainder 0 (bits_of k) ≡ past_byte k) same (eqb-true _ _ parts.0)
    ]

-- the bits of a byte are divided as if the byte stood in the register
pub remainder-byte_in : (register byte : ℕ) → byte < 256 → remainder register (bits_of byte) ≡ past_byte (bit_xor register byte)
unfolding past_byte
remainder-byte_in register byte fits =
    ap (λ t. remainder t (bits_of byte)) (sym (xor_zero_r register))
    ∙ remainder-xor register 0 (bits_of byte)
    ∙ ap (bit_xor (remainder register (bits_of 0))) (passes 256 byte all_pass fits)
    ∙ sym (past_byte-xor register byte)

pub past_bytes-xor : (n a b : ℕ) → past_bytes n (bit_xor a b) ≡ bit_xor (past_bytes n a) (past_bytes n b)
unfolding past_bytes
past_bytes-xor zero a b = refl
past_bytes-xor (suc n) a b = ap (past_bytes n) (past_byte-xor a b) ∙ past_bytes-xor n (past_byte a) (past_byte b)

-- the low byte falls out, and the others move down
pub past_bytes-split : (n register : ℕ) → past_bytes (suc n) register ≡ bit_xor (past_bytes n (register / 256))
    (past_bytes (suc n) (register % 256))
unfolding past_bytes
past_bytes-split n register = ap (past_bytes n) (past_byte-split register) ∙ past_bytes-xor n (register / 256) (past_byte (register % 256))

-- one byte of zeros more at the end is one more at the beginning
pub past_bytes-last : (n register : ℕ) → past_byte (past_bytes n register) ≡ past_bytes (suc n) register
unfolding past_bytes
past_bytes-last zero register = refl
past_bytes-last (suc n) register = past_bytes-last n (past_byte register)
