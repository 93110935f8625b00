-- Spellings that tell where they end: the bytes say which value is spelled, and what follows it.
use Rattle.std.proofs.Common.{◌≡◌, ℕ, ◌+◌, ◌^◌, ◌<◌, ◌≤◌, List, [], ◌∷◌, ◌++◌, length, take, drop, refl, sym, ap, ◌∙◌, append_assoc, arith}
use mir.Val.{bits}
use Rattle.std.specs.Prelude.{FitsSigned}
use Rattle.std.specs.Int.{Width, w16, w32, byte_len, from_be_bytes, to_be_bytes, cast_unsigned, cast_signed}
use Rattle.std.specs.List.{AllByRecursion, flat_map}
use Rattle.std.proofs.Math.Facts.{Fits-of_z, Fits-lt-pow}
use Rattle.std.proofs.lemmas.Int.{to_z-of_z}
use Rattle.std.proofs.lemmas.List.{take_at, drop_at}
use Rattle.repl_text.specs.Text.{IsText}
use Rattle.repl_message.specs.declared.back.TheConstants.{LIST_LIMIT}
use Rattle.repl_message.specs.Message.{int16, int32, signed16, signed32, string, counted, ended, framed}
use Rattle.repl_message.specs.Decoding.{string_at}
use Rattle.repl_message.proofs.FieldLaws.{IsWide, wide16, wide32, wide_again, ok_is, string_again, ended-cons}

-- no spelling of a value that fits is the beginning of another's
pub record IsPrefixFree {A : Type 0} (Fits : A → Type 0) (spell : A → List ℕ) : Type 0 where
  pub one : (x y : A) (r s : List ℕ) → Fits x → Fits y → spell x ++ r ≡ spell y ++ s → (x ≡ y) × (r ≡ s)

-- ---- numbers

wide_one : (w : Width) (limit : ℕ) → IsWide w limit → IsPrefixFree (λ n. n < limit) (to_be_bytes w)
wide_one w limit wide = record {
  one = λ x y r s x_fits y_fits e.
      let a = wide_again w limit wide x r x_fits in
      let b = wide_again w limit wide y s y_fits in
      (sym a.0 ∙ ap (λ (t : List ℕ). from_be_bytes w (take (byte_len w) t)) e ∙ b.0, sym a.1 ∙ ap (drop (byte_len w)) e ∙ b.1);
}

pub int16_one : IsPrefixFree (λ n. n < 2 ^ 16) int16
int16_one = wide_one w16 (2 ^ 16) wide16

pub int32_one : IsPrefixFree (λ n. n < 2 ^ 32) int32
int32_one = wide_one w32 (2 ^ 32) wide32

-- a signed number is told by its bits
signed_one : (w : Width) → IsWide w (2 ^ bits w) → IsPrefixFree (FitsSigned w) (λ z. to_be_bytes w (cast_unsigned w z))
signed_one w wide = record {
  one = λ x y r s x_fits y_fits e.
      let t = (wide_one w (2 ^ bits w) wide).one (cast_unsigned w x) (cast_unsigned w y) r s (Fits-lt-pow (Fits-of_z x_fits))
      (Fits-lt-pow (Fits-of_z y_fits)) e in
      (sym (to_z-of_z w x x_fits) ∙ ap (cast_signed w) t.0 ∙ to_z-of_z w y y_fits, t.1);
}

pub signed16_one : IsPrefixFree (FitsSigned w16) signed16
signed16_one = signed_one w16 wide16

pub signed32_one : IsPrefixFree (FitsSigned w32) signed32
signed32_one = signed_one w32 wide32

-- ---- strings

pub string_one : IsPrefixFree IsText string
string_one = record {
  one = λ x y r s x_fits y_fits e.
      let t : (x, r) ≡ (y, s) = ok_is (x, r) (y, s) (sym (string_again x r x_fits) ∙ ap string_at e ∙ string_again y s y_fits) in
      (ap (λ (p : List ℕ × List ℕ). p.0) t, ap (λ (p : List ℕ × List ℕ). p.1) t);
}

-- ---- lists

entries_one : {A : Type 0} {Fits : A → Type 0} {entry : A → List ℕ} (free : IsPrefixFree Fits entry) (xs ys : List A) (r s : List ℕ)
    → length xs ≡ length ys → AllByRecursion Fits xs → AllByRecursion Fits ys
    → flat_map entry xs ++ r ≡ flat_map entry ys ++ s → (xs ≡ ys) × (r ≡ s)
entries_one free [] [] r s len xs_fit ys_fit e = (refl, e)
entries_one free [] (y ∷ ys) r s len xs_fit ys_fit e = absurd (omega (arith, len))
entries_one free (x ∷ xs) [] r s len xs_fit ys_fit e = absurd (omega (arith, len))
entries_one {A} {Fits} {entry} free (x ∷ xs) (y ∷ ys) r s len xs_fit ys_fit e =
    let regrouped = sym (append_assoc (entry x) (flat_map entry xs) r) ∙ e ∙ append_assoc (entry y) (flat_map entry ys) s in
    let first = free.one x y (flat_map entry xs ++ r) (flat_map entry ys ++ s) xs_fit.0 ys_fit.0 regrouped in
    let others = entries_one free xs ys r s (omega arith) xs_fit.1 ys_fit.1 first.1 in
    (cc, others.1)

-- a list that its length counts
pub counted_one : {A : Type 0} (Fits : A → Type 0) (entry : A → List ℕ) → IsPrefixFree Fits entry
    → IsPrefixFree (λ xs. (length xs ≤ LIST_LIMIT) × AllByRecursion Fits xs) (counted entry)
counted_one Fits entry free = record {
  one = λ xs ys r s xs_fit ys_fit e.
      let t = int16_one.one (length xs) (length ys) (flat_map entry xs ++ r) (flat_map entry ys ++ s) (omega (arith, xs_fit.0))
      (omega (arith, ys_fit.0)) e in
      entries_one free xs ys r s t.0 xs_fit.1 ys_fit.1 t.1;
}

-- its spelling, whatever follows it, begins with a byte that is not 0
abbrev pub IsMarked : List ℕ → Type 0
IsMarked spelled = (rest : List ℕ) → (b : ℕ) × (past : List ℕ) × (spelled ++ rest ≡ b ∷ past) × (0 < b)

-- the end of a list is no entry
end_apart : {A : Type 0} (entry : A → List ℕ) (y : A) (ys : List A) (r s : List ℕ) → IsMarked (entry y) → 0 ∷ r ≡ ended entry (y ∷ ys) ++ s
    → ⊥
end_apart entry y ys r s marked e =
    let m = marked (ended entry ys ++ s) in
    let split : ended entry (y ∷ ys) ++ s ≡ entry y ++ (ended entry ys ++ s) = ap (λ (t : List ℕ). t ++ s) (ended-cons entry y ys)
    ∙ append_assoc (entry y) (ended entry ys) s in
    let all : 0 ∷ r ≡ m.0 ∷ m.1 = e ∙ split ∙ m.2 in
    let first : 0 ≡ m.0 = cc in
    omega (arith, first, m.3)

-- a list that a zero byte ends
ended_lists : {A : Type 0} {Fits : A → Type 0} {entry : A → List ℕ} (free : IsPrefixFree Fits entry)
    (marked : (x : A) → Fits x → IsMarked (entry x)) (xs ys : List A) (r s : List ℕ) → AllByRecursion Fits xs → AllByRecursion Fits ys
    → ended entry xs ++ r ≡ ended entry ys ++ s → (xs ≡ ys) × (r ≡ s)
ended_lists free marked [] [] r s xs_fit ys_fit e = (refl, cc)
ended_lists {A} {Fits} {entry} free marked [] (y ∷ ys) r s xs_fit ys_fit e = absurd (end_apart entry y ys r s (marked y ys_fit.0) e)
ended_lists {A} {Fits} {entry} free marked (x ∷ xs) [] r s xs_fit ys_fit e = absurd (end_apart entry x xs s r (marked x xs_fit.0) (sym e))
ended_lists {A} {Fits} {entry} free marked (x ∷ xs) (y ∷ ys) r s xs_fit ys_fit e =
    let split = λ (z : A) (zs : List A) (t : List ℕ). ap (λ (u : List ℕ). u ++ t) (ended-cons entry z zs)
    ∙ append_assoc (entry z) (ended entry zs) t in
    let first = free.one x y (ended entry xs ++ r) (ended entry ys ++ s) xs_fit.0 ys_fit.0 (sym (split x xs r) ∙ e ∙ split y ys s) in
    let others = ended_lists free marked xs ys r s xs_fit.1 ys_fit.1 first.1 in
    (cc, others.1)

pub ended_one : {A : Type 0} (Fits : A → Type 0) (entry : A → List ℕ) → IsPrefixFree Fits entry → ((x : A) → Fits x → IsMarked (entry x))
    → IsPrefixFree (AllByRecursion Fits) (ended entry)
ended_one Fits entry free marked = record { one = λ xs ys r s xs_fit ys_fit e. ended_lists free marked xs ys r s xs_fit ys_fit e }

-- ---- bytes that their length counts

-- bytes of one length, and what follows them
pub bytes_one : (a b x y : List ℕ) → length a ≡ length b → a ++ x ≡ b ++ y → (a ≡ b) × (x ≡ y)
bytes_one a b x y len e = (
  sym (take_at a x (length a) refl) ∙ ap (take (length a)) e ∙ take_at b y (length a) (sym len),
  sym (drop_at a x (length a) refl)
      ∙ ap (drop (length a)) e ∙ drop_at b y (length a) (sym len),
)

-- bodies in frames
pub framed_one : IsPrefixFree (λ body. length body + 4 < 2 ^ 32) framed
framed_one = record {
  one = λ a b x y a_fits b_fits e.
      let t = int32_one.one (length a + 4) (length b + 4) (a ++ x) (b ++ y) a_fits b_fits e in
      bytes_one a b x y (omega (arith, t.0)) t.1;
}
