-- Numbers of bytes: the bytes of a number that was read are those that it was read from.
use Rattle.std.proofs.Common.{
  ◌≡◌,
  ℕ,
  zero,
  suc,
  ◌+◌,
  ◌*◌,
  ◌/◌,
  ◌^◌,
  ◌<◌,
  ◌≤◌,
  List,
  [],
  ◌∷◌,
  ◌++◌,
  length,
  get_or,
  take,
  drop,
  refl,
  sym,
  ap,
  ◌∙◌,
  arith,
  All,
  ⊎_elim,
}
use Rattle.std.specs.Int.{byte_at, bytes_high_first}
use Rattle.std.proofs.Math.Nat.{mod-lt}
use Rattle.std.proofs.Math.Seq.{take-add}
use Rattle.std.proofs.lemmas.Bool.{cases_lt}
use Rattle.std.proofs.lemmas.List.{append-nil, get_or_past, length-drop, length-take-le}
use Rattle.std.proofs.lemmas.List.Elements.{All-nil, All-cons, All-tail, All-take, All-drop}
use Rattle.std.proofs.lemmas.Nat.{div-mul-add}
use Rattle.byteorder.specs.Endian.{big_from, big_bytes}
use Rattle.byteorder.specs.Numbers.{big_from-cons, big_from-lt, big_from-take, big_number-reads_back, length-bytes_high_first}
use Rattle.repl_control.specs.Control.{number_at}

abbrev pub AreBytes : List ℕ → Type 0
AreBytes bytes = All (λ b. b < 256) bytes

small : (xs : List ℕ) → AreBytes xs → (i : ℕ) → get_or xs i 0 < 256
small xs fit i = ⊎_elim
    (λ lt. fit i 0 lt)
    (λ le. omega (arith, get_or_past xs i 0 le))
    (cases_lt i (length xs))

pub number_small : (n : ℕ) (xs : List ℕ) → AreBytes xs → big_from 0 n xs < 256 ^ n
number_small n xs fit = big_from-lt 0 n xs (small xs fit)

byte_small : (k x : ℕ) → byte_at k x < 256
byte_small zero x = mod-lt x (omega arith)
byte_small (suc k) x = mod-lt (x / 256 ^ suc k) (omega arith)

bytes_small : (n x : ℕ) → AreBytes (bytes_high_first n x)
bytes_small zero x = All-nil (λ b. b < 256)
bytes_small (suc n) x = All-cons (λ b. b < 256) (byte_at n x) (bytes_high_first n x) (byte_small n x) (bytes_small n x)

-- one digit and the rest tell each other apart
digit_one : (w a b r s : ℕ) → r < w → s < w → a * w + r ≡ b * w + s → (a ≡ b) × (r ≡ s)
digit_one w a b r s r_fits s_fits e =
    let first : a ≡ b = sym (div-mul-add a w r r_fits) ∙ ap (λ t. t / w) e ∙ div-mul-add b w s s_fits in
    let same : a * w ≡ b * w = ap (λ t. t * w) first in
    (first, omega arith)

-- as many bytes with one number are the same
number_one : (n : ℕ) (xs ys : List ℕ) → length xs ≡ n → length ys ≡ n → AreBytes xs → AreBytes ys → big_from 0 n xs ≡ big_from 0 n ys
    → xs ≡ ys
number_one zero [] [] xs_length ys_length xs_fit ys_fit e = refl
number_one zero (x ∷ xs) ys xs_length ys_length xs_fit ys_fit e = absurd (omega arith)
number_one zero [] (y ∷ ys) xs_length ys_length xs_fit ys_fit e = absurd (omega arith)
number_one (suc n) [] ys xs_length ys_length xs_fit ys_fit e = absurd (omega arith)
number_one (suc n) (x ∷ xs) [] xs_length ys_length xs_fit ys_fit e = absurd (omega arith)
number_one (suc n) (x ∷ xs) (y ∷ ys) xs_length ys_length xs_fit ys_fit e =
    let xs_bytes = All-tail (λ b. b < 256) x xs xs_fit in
    let ys_bytes = All-tail (λ b. b < 256) y ys ys_fit in
    let same : x * 256 ^ n + big_from 0 n xs ≡ y * 256 ^ n + big_from 0 n ys =
    ap (λ t. x * 256 ^ n + t) (sym (big_from-cons 0 n x xs)) ∙ e ∙ ap (λ t. y * 256 ^ n + t) (big_from-cons 0 n y ys) in
    let parts = digit_one (256 ^ n) x y (big_from 0 n xs) (big_from 0 n ys) (number_small n xs xs_bytes) (number_small n ys ys_bytes) same
    in
    let rest = number_one n xs ys (omega arith) (omega arith) xs_bytes ys_bytes parts.1 in
    cc (parts.0, rest)

-- the bytes of the number that is read in front are those in front
respelled : (n : ℕ) (xs : List ℕ) → AreBytes xs → n ≤ length xs → big_bytes n (big_from 0 n xs) ≡ take n xs
respelled n xs fit enough =
    let number = big_from 0 n xs in
    let bytes = bytes_high_first n number in
    let back : big_from 0 n bytes ≡ number = ap (big_from 0 n) (sym (append-nil bytes))
    ∙ big_number-reads_back n number [] (number_small n xs fit) in
    let front : big_from 0 n (take n xs) ≡ number = big_from-take 0 n n xs (omega arith) in
    number_one n bytes (take n xs) (length-bytes_high_first n number) (length-take-le n xs enough) (bytes_small n number)
    (All-take (λ b. b < 256) n xs fit) (back ∙ sym front)

-- the bytes up to a place, and then those of the number that stands there
pub spelled_on : (p n q : ℕ) (bytes front : List ℕ) → AreBytes bytes → q ≡ p + n → q ≤ length bytes → front ≡ take p bytes
    → front ++ big_bytes n (number_at p n bytes) ≡ take q bytes
spelled_on p n q bytes front fit sum within so_far =
    let number = respelled n (drop p bytes) (All-drop (λ b. b < 256) p bytes fit) (omega (arith, length-drop p bytes)) in
    ap (λ t. t ++ big_bytes n (number_at p n bytes)) so_far ∙ ap (λ t. take p bytes ++ t) number ∙ sym (take-add p n bytes)
    ∙ ap (λ t. take t bytes) (sym sum)
