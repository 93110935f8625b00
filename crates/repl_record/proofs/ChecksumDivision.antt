-- Division by the polynomial is linear: what divides an exclusive-or divides each part.
use Rattle.std.proofs.Common.{◌≡◌, ℕ, zero, suc, ◌/◌, ◌%◌, ◌*◌, ◌^◌, ◌<◌, ◌==◌, Bool, true, false, if◌then◌else◌, List, [], ◌∷◌, replicate, refl, sym, ap, ◌∙◌, arith}
use Rattle.std.proofs.Math.Nat.{mul_assoc, pow-suc}
use Rattle.std.proofs.lemmas.Nat.{xor_comm, xor_shr, xor_mod, mod_below}
use Rattle.std.specs.Int.Bits.{bit_xor, xor_assoc, xor_self, xor_zero_r}
use Rattle.repl_record.specs.Checksum.{polynomial, divided, remainder}

-- an exclusive-or twice changes nothing
pub xor_twice : (a b : ℕ) → bit_xor (bit_xor a b) b ≡ a
xor_twice a b = xor_assoc a b b ∙ ap (bit_xor a) (xor_self b) ∙ xor_zero_r a

-- the parts of a sum in another order
xor_swapped : (a b c : ℕ) → bit_xor (bit_xor a b) c ≡ bit_xor (bit_xor a c) b
xor_swapped a b c = xor_assoc a b c ∙ ap (bit_xor a) (xor_comm b c) ∙ sym (xor_assoc a c b)

xor_crossed : (a b c d : ℕ) → bit_xor (bit_xor a b) (bit_xor c d) ≡ bit_xor (bit_xor a c) (bit_xor b d)
xor_crossed a b c d = sym (xor_assoc (bit_xor a b) c d) ∙ ap (λ t. bit_xor t d) (xor_swapped a b c) ∙ xor_assoc (bit_xor a c) b d

-- what is subtracted where this bit falls out
unfoldable falling : ℕ → ℕ
falling bit = if bit == 1 then polynomial else 0

falling-xor : (a b : ℕ) → a < 2 → b < 2 → falling (bit_xor a b) ≡ bit_xor (falling a) (falling b)
unfolding falling
falling-xor zero zero a_bit b_bit = refl
falling-xor zero (suc zero) a_bit b_bit = refl
falling-xor (suc zero) zero a_bit b_bit = refl
falling-xor (suc zero) (suc zero) a_bit b_bit = refl
falling-xor (suc (suc a)) b a_bit b_bit = absurd (omega arith)
falling-xor a (suc (suc b)) a_bit b_bit = absurd (omega arith)

chosen : (b : Bool) (half taken : ℕ) → (if b then bit_xor half taken else half) ≡ bit_xor half (if b then taken else 0)
chosen true half taken = refl
chosen false half taken = sym (xor_zero_r half)

divided-is : (s b : ℕ) → divided s b ≡ bit_xor (bit_xor s b / 2) (falling (bit_xor s b % 2))
unfolding falling
divided-is s b = chosen (bit_xor s b % 2 == 1) (bit_xor s b / 2) polynomial

-- the half and the bit that falls out, of an exclusive-or
halved-xor : (x y : ℕ) → bit_xor (bit_xor x y / 2) (falling (bit_xor x y % 2)) ≡ bit_xor (bit_xor (x / 2) (falling (x % 2)))
    (bit_xor (y / 2) (falling (y % 2)))
halved-xor x y =
    let low = ap falling (xor_mod x y 1) ∙ falling-xor (x % 2) (y % 2) (mod_below x 2 (omega arith)) (mod_below y 2 (omega arith)) in
    ap (λ t. bit_xor t (falling (bit_xor x y % 2))) (xor_shr x y 1)
    ∙ ap (bit_xor (bit_xor (x / 2) (y / 2))) low
    ∙ xor_crossed (x / 2) (y / 2) (falling (x % 2)) (falling (y % 2))

divided-xor : (s t b c : ℕ) → divided (bit_xor s t) (bit_xor b c) ≡ bit_xor (divided s b) (divided t c)
divided-xor s t b c =
    divided-is (bit_xor s t) (bit_xor b c)
    ∙ ap (λ x. bit_xor (x / 2) (falling (x % 2))) (xor_crossed s t b c)
    ∙ halved-xor (bit_xor s b) (bit_xor t c)
    ∙ ap (λ x. bit_xor x (bit_xor (bit_xor t c / 2) (falling (bit_xor t c % 2)))) (sym (divided-is s b))
    ∙ ap (bit_xor (divided s b)) (sym (divided-is t c))

-- as many zeros as there are bits
abbrev pub zeros : List ℕ → List ℕ
zeros [] = []
zeros (bit ∷ bits) = 0 ∷ zeros bits

-- one part goes on by zeros alone, and the other takes the bits
pub remainder-xor : (s t : ℕ) (bits : List ℕ) → remainder (bit_xor s t) bits ≡ bit_xor (remainder s (zeros bits)) (remainder t bits)
unfolding remainder
remainder-xor s t [] = refl
remainder-xor s t (bit ∷ bits) = ap (λ x. remainder x bits) (divided-xor s t 0 bit) ∙ remainder-xor (divided s 0) (divided t bit) bits

-- where no 1 falls out, the register is halved
divided-even : (half : ℕ) → divided (half * 2) 0 ≡ half
unfolding falling
divided-even half =
    let even : half * 2 % 2 ≡ 0 = omega arith in
    let halved : half * 2 / 2 ≡ half = omega arith in
    divided-is (half * 2) 0
    ∙ ap (λ x. bit_xor (x / 2) (falling (x % 2))) (xor_zero_r (half * 2))
    ∙ ap (λ x. bit_xor (half * 2 / 2) (falling x)) even
    ∙ xor_zero_r (half * 2 / 2)
    ∙ halved

pub remainder-zeros : (high k : ℕ) → remainder (high * 2 ^ k) (replicate k 0) ≡ high
unfolding remainder
remainder-zeros high zero = omega arith
remainder-zeros high (suc k) =
    let double : high * 2 ^ suc k ≡ high * 2 ^ k * 2 = ap (λ t. high * t) (pow-suc 2 k) ∙ sym (mul_assoc high (2 ^ k) 2) in
    ap (λ t. remainder (divided t 0) (replicate k 0)) double
    ∙ ap (λ t. remainder t (replicate k 0)) (divided-even (high * 2 ^ k))
    ∙ remainder-zeros high k
