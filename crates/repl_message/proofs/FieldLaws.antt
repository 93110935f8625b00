-- A field that is read is the field that was written, and what was written is read again.
use Rattle.std.proofs.Common.{◌≡◌, ℕ, zero, suc, ◌+◌, ◌^◌, ◌<◌, ◌≤◌, Bool, true, false, cond, eqb, List, [], ◌∷◌, ◌++◌, length, get_or, take, drop, Option, Some, None, Result, Ok, Err, refl, sym, ap, subst, ◌∙◌, append_assoc, arith, inl, inr}
use Rattle.std.specs.Int.{Width, w16, w32, byte_len, from_be_bytes, to_be_bytes}
use Rattle.std.specs.List.{AllByRecursion, AllWithin, flat_map}
use Rattle.std.specs.Option.{option_map}
use Rattle.std.proofs.lemmas.Bool.{cases_lt, eqb-true}
use Rattle.std.proofs.lemmas.List.{append-nil, take_at, drop_at, take-append-drop, length-take, get_or-drop, get_or-take, get_or_past, nil_from_length}
use Rattle.std.proofs.lemmas.List.Elements.{All-from_recursion, recursion_from_All}
use Rattle.std.proofs.lemmas.List.Concat.{flat_map-cons}
use Rattle.std.proofs.lemmas.Nat.{be_bytes_2, be_bytes_4, from_be_bytes-to_be_bytes_2, from_be_bytes-to_be_bytes_4}
use Rattle.repl_text.specs.Text.{IsText}
use Rattle.repl_message.specs.Message.{int16, int32, string, ended}
use Rattle.repl_message.specs.Decoding.{◌>>=◌, at_zero, ok_or_left, string_at, whole, number}

abbrev pub IsBytes : List ℕ → Type 0
IsBytes bytes = (i : ℕ) → get_or bytes i 0 < 256

pub IsBytes-drop : (n : ℕ) (bytes : List ℕ) → IsBytes bytes → IsBytes (drop n bytes)
IsBytes-drop n bytes h i = rw get_or-drop (h (n + i))

pub IsBytes-take : (n : ℕ) (bytes : List ℕ) → IsBytes bytes → IsBytes (take n bytes)
IsBytes-take n bytes h i =
    elim (cases_lt i n) [
      | inl lt ↦ rw (get_or-take n bytes i 0 lt) (h i)
      | inr le ↦ rw (get_or_past (take n bytes) i 0 (omega (arith, length-take n bytes))) (omega arith)
    ]

pub IsBytes-rest : (b : ℕ) (bytes : List ℕ) → IsBytes (b ∷ bytes) → IsBytes bytes
IsBytes-rest b bytes h i = h (suc i)

-- ---- steps

-- the value of a step that did not fail
pub bind_ok : {A B : Type 0} (r : Result A ℕ) (f : A → Result B ℕ) (y : B) → (r >>= f) ≡ Ok y → (x : A) × (r ≡ Ok x) × (f x ≡ Ok y)
bind_ok (Ok x) f y e = (x, refl, e)
bind_ok (Err left) f y e = absurd cc

abbrev done : {A : Type 0} → A → Result A ℕ
done x = Ok x

pub ok_is : {A : Type 0} (x y : A) → done x ≡ done y → x ≡ y
ok_is x y e = cc

-- what a test lets through
pub guard_ended : {A : Type 0} (b : Bool) (left : ℕ) (x y : A) → cond b (Ok x) (Err left) ≡ Ok y → (b ≡ true) × (x ≡ y)
guard_ended true left x y e = (refl, cc)
guard_ended false left x y e = absurd cc

-- what is read to the end of a body
pub whole_takes : {A : Type 0} (x y : A) (rest : List ℕ) → whole (x, rest) ≡ Ok y → (rest ≡ []) × (x ≡ y)
whole_takes x y rest e =
    let g = guard_ended (eqb (length rest) 0) (length rest) x y e in
    (nil_from_length rest (eqb-true _ _ g.0), g.1)

-- what a reader took from the front
pub record Takes (bytes text rest : List ℕ) : Type 0 where
  pub parts : bytes ≡ text ++ rest
  pub rest_fits : IsBytes rest

pub Takes-then : (a x b y c : List ℕ) → Takes a x b → Takes b y c → Takes a (x ++ y) c
Takes-then a x b y c p q = record {
  parts = p.parts ∙ ap (λ (t : List ℕ). x ++ t) q.parts ∙ sym (append_assoc x y c);
  rest_fits = q.rest_fits;
}

-- nothing is left
pub Takes-all : (bytes text rest : List ℕ) → Takes bytes text rest → rest ≡ [] → bytes ≡ text
Takes-all bytes text rest p nothing = p.parts ∙ ap (λ (t : List ℕ). text ++ t) nothing ∙ append-nil text

-- ---- lists

pub ended-cons : {A : Type 0} (entry : A → List ℕ) (x : A) (xs : List A) → ended entry (x ∷ xs) ≡ entry x ++ ended entry xs
ended-cons entry x xs = ap (λ (w : List ℕ). w ++ 0 ∷ []) (flat_map-cons entry x xs) ∙ append_assoc (entry x) (flat_map entry xs) (0 ∷ [])

-- an entry and the others, up to a zero byte, and where something else says how many there are
pub Takes-ended : {A : Type 0} (entry : A → List ℕ) (bytes : List ℕ) (x : A) (mid : List ℕ) (xs : List A) (rest : List ℕ)
    → Takes bytes (entry x) mid → Takes mid (ended entry xs) rest → Takes bytes (ended entry (x ∷ xs)) rest
Takes-ended entry bytes x mid xs rest p q = rw ended-cons (Takes-then bytes (entry x) mid (ended entry xs) rest p q)

pub Takes-cons : {A : Type 0} (entry : A → List ℕ) (bytes : List ℕ) (x : A) (mid : List ℕ) (xs : List A) (rest : List ℕ)
    → Takes bytes (entry x) mid → Takes mid (flat_map entry xs) rest → Takes bytes (flat_map entry (x ∷ xs)) rest
Takes-cons entry bytes x mid xs rest p q = rw flat_map-cons (Takes-then bytes (entry x) mid (flat_map entry xs) rest p q)

-- ---- numbers

pub record IsWide (w : Width) (limit : ℕ) : Type 0 where
  pub len : (n : ℕ) → length (to_be_bytes w n) ≡ byte_len w
  pub back : (bytes : List ℕ) → length bytes ≡ byte_len w → IsBytes bytes → to_be_bytes w (from_be_bytes w bytes) ≡ bytes
  pub again : (n : ℕ) → n < limit → from_be_bytes w (to_be_bytes w n) ≡ n
  pub below : (bytes : List ℕ) → IsBytes bytes → from_be_bytes w bytes < limit

pub wide16 : IsWide w16 (2 ^ 16)
wide16 = record {
  len = λ n. refl;
  back = λ bytes len fits. be_bytes_2 bytes _ len fits refl;
  again = λ n lt. from_be_bytes-to_be_bytes_2 n lt;
  below = λ bytes fits. omega (arith, fits 0, fits 1);
}

pub wide32 : IsWide w32 (2 ^ 32)
wide32 = record {
  len = λ n. refl;
  back = λ bytes len fits. be_bytes_4 bytes _ len fits refl;
  again = λ n lt. from_be_bytes-to_be_bytes_4 n lt;
  below = λ bytes fits. omega (arith, fits 0, fits 1, fits 2, fits 3);
}

pub wide_takes : (w : Width) (limit : ℕ) (wide : IsWide w limit) (bytes : List ℕ) → IsBytes bytes → byte_len w ≤ length bytes
    → Takes bytes (to_be_bytes w (from_be_bytes w (take (byte_len w) bytes))) (drop (byte_len w) bytes)
    × (from_be_bytes w (take (byte_len w) bytes) < limit)
wide_takes w limit wide bytes fits long =
    let front : to_be_bytes w (from_be_bytes w (take (byte_len w) bytes))
    ≡ take (byte_len w) bytes = wide.back (take (byte_len w) bytes) (omega (arith, length-take (byte_len w) bytes))
    (IsBytes-take (byte_len w) bytes fits) in (
      record { parts = rw front (sym (take-append-drop (byte_len w) bytes)); rest_fits = IsBytes-drop (byte_len w) bytes fits },
      wide.below (take (byte_len w) bytes) (IsBytes-take (byte_len w) bytes fits),
    )

pub wide_again : (w : Width) (limit : ℕ) (wide : IsWide w limit) (n : ℕ) (rest : List ℕ) → n < limit
    → (from_be_bytes w (take (byte_len w) (to_be_bytes w n ++ rest)) ≡ n) × (drop (byte_len w) (to_be_bytes w n ++ rest) ≡ rest)
wide_again w limit wide n rest lt =
    let len = wide.len n in
    (rw (take_at (to_be_bytes w n) rest (byte_len w) len) (wide.again n lt), drop_at (to_be_bytes w n) rest (byte_len w) len)

-- the number in the first two bytes, and what is after it
pub int16_takes : (bytes : List ℕ) → IsBytes bytes → 2 ≤ length bytes
    → Takes bytes (int16 (from_be_bytes w16 (take 2 bytes))) (drop 2 bytes) × (from_be_bytes w16 (take 2 bytes) < 2 ^ 16)
int16_takes bytes fits long = wide_takes w16 (2 ^ 16) wide16 bytes fits long

pub int16_again : (n : ℕ) (rest : List ℕ) → n < 2 ^ 16 → (from_be_bytes w16 (take 2 (int16 n ++ rest)) ≡ n)
    × (drop 2 (int16 n ++ rest) ≡ rest)
int16_again n rest lt = wide_again w16 (2 ^ 16) wide16 n rest lt

-- the same of the first four bytes
pub int32_takes : (bytes : List ℕ) → IsBytes bytes → 4 ≤ length bytes → Takes bytes (int32 (number bytes)) (drop 4 bytes)
    × (number bytes < 2 ^ 32)
int32_takes bytes fits long = wide_takes w32 (2 ^ 32) wide32 bytes fits long

pub int32_again : (n : ℕ) (rest : List ℕ) → n < 2 ^ 32 → (number (int32 n ++ rest) ≡ n) × (drop 4 (int32 n ++ rest) ≡ rest)
int32_again n rest lt = wide_again w32 (2 ^ 32) wide32 n rest lt

-- ---- strings

map_some : {A B : Type 0} (o : Option A) (f : A → B) (y : B) → option_map f o ≡ Some y → (x : A) × (o ≡ Some x) × (f x ≡ y)
map_some (Some x) f y e = (x, refl, cc)
map_some None f y e = absurd cc

some_of : {A : Type 0} (o : Option A) (left : ℕ) (x : A) → ok_or_left o left ≡ Ok x → o ≡ Some x
some_of (Some y) left x e = cc
some_of None left x e = absurd cc

abbrev IsTextByte : ℕ → Type 0
IsTextByte b = (0 < b) × (b < 256)

at_zero_takes : (bytes text rest : List ℕ) → IsBytes bytes → at_zero bytes ≡ Some (text, rest) → Takes bytes (string text) rest
    × AllByRecursion IsTextByte text
at_zero_takes [] text rest fits e = absurd cc
at_zero_takes (zero ∷ bytes) text rest fits e =
    let same : ([], bytes) ≡ (text, rest) = cc in
    subst (λ (p : List ℕ × List ℕ). Takes (0 ∷ bytes) (string p.0) p.1 × AllByRecursion IsTextByte p.0) same
    (record { parts = refl; rest_fits = IsBytes-rest 0 bytes fits }, tt)
at_zero_takes (suc b ∷ bytes) text rest fits e =
    let m = map_some (at_zero bytes) (λ (parts : List ℕ × List ℕ). (suc b ∷ parts.0, parts.1)) (text, rest) e in
    let t = at_zero_takes bytes m.0.0 m.0.1 (IsBytes-rest (suc b) bytes fits) m.1 in
    subst (λ (p : List ℕ × List ℕ). Takes (suc b ∷ bytes) (string p.0) p.1 × AllByRecursion IsTextByte p.0) m.2
    (record { parts = ap (λ (w : List ℕ). suc b ∷ w) t.0.parts; rest_fits = t.0.rest_fits }, ((omega arith, fits 0), t.1))

at_zero_again : (text rest : List ℕ) → AllByRecursion IsTextByte text → at_zero (string text ++ rest) ≡ Some (text, rest)
at_zero_again [] rest fits = refl
at_zero_again (zero ∷ text) rest fits = absurd (omega (arith, fits.0.0))
at_zero_again (suc b ∷ text) rest fits = rw (at_zero_again text rest fits.1) refl

pub string_takes : (bytes text rest : List ℕ) → IsBytes bytes → string_at bytes ≡ Ok (text, rest) → Takes bytes (string text) rest
    × IsText text
unfolding string_at
string_takes bytes text rest fits e =
    let t = at_zero_takes bytes text rest fits (some_of (at_zero bytes) (length bytes) (text, rest) e) in
    (t.0, All-from_recursion IsTextByte text t.1)

pub string_again : (text rest : List ℕ) → IsText text → string_at (string text ++ rest) ≡ Ok (text, rest)
unfolding string_at
string_again text rest fits = rw (at_zero_again text rest (recursion_from_All IsTextByte text fits)) refl

-- where the code looks for the zero byte

at_zero_none : (bytes : List ℕ) → ((k : ℕ) → k < length bytes → 0 < get_or bytes k 0) → at_zero bytes ≡ None
at_zero_none [] h = refl
at_zero_none (zero ∷ bytes) h = absurd (omega (arith, h 0 (omega arith)))
at_zero_none (suc b ∷ bytes) h = rw (at_zero_none bytes (λ k lt. h (suc k) (omega arith))) refl

at_zero_first : (i : ℕ) (bytes : List ℕ) → i < length bytes → get_or bytes i 0 ≡ 0 → ((k : ℕ) → k < i → 0 < get_or bytes k 0)
    → at_zero bytes ≡ Some (take i bytes, drop (suc i) bytes)
at_zero_first i [] lt here before = absurd (omega arith)
at_zero_first zero (zero ∷ bytes) lt here before = refl
at_zero_first zero (suc b ∷ bytes) lt here before = absurd (omega arith)
at_zero_first (suc i) (zero ∷ bytes) lt here before = absurd (omega (arith, before 0 (omega arith)))
at_zero_first (suc i) (suc b ∷ bytes) lt here before = rw (at_zero_first i bytes (omega arith) here
    (λ k less. before (suc k) (omega arith))) refl

pub string_at_none : (bytes : List ℕ) → AllWithin (λ b. 0 < b) bytes 0 (length bytes) → string_at bytes ≡ Err (length bytes)
unfolding string_at
string_at_none bytes h = rw (at_zero_none bytes (λ k lt. h k 0 (omega arith) lt)) refl

pub string_at_first : (i : ℕ) (bytes : List ℕ) → i < length bytes → get_or bytes i 0 ≡ 0 → AllWithin (λ b. 0 < b) bytes 0 i
    → string_at bytes ≡ Ok (take i bytes, drop (i + 1) bytes)
unfolding string_at
string_at_first i bytes lt here before =
    let e : i + 1 ≡ suc i = omega arith in
    rw (e, at_zero_first i bytes lt here (λ k less. before k 0 (omega arith) less)) refl

-- a string whose first byte is not 0 is not empty
pub string_first : (b : ℕ) (bytes text rest : List ℕ) → string_at (suc b ∷ bytes) ≡ Ok (text, rest) → 0 < length text
unfolding string_at
string_first b bytes text rest e =
    let m = map_some (at_zero bytes) (λ (parts : List ℕ × List ℕ). (suc b ∷ parts.0, parts.1)) (text, rest)
    (some_of (at_zero (suc b ∷ bytes)) (length (suc b ∷ bytes)) (text, rest) e) in
    let same : suc b ∷ m.0.0 ≡ text = ap (λ (p : List ℕ × List ℕ). p.0) m.2 in
    rw (← same) (omega arith)

-- a string that is not empty does not begin with a zero byte
pub string_begins : (text rest : List ℕ) → 0 < length text → IsText text → (b : ℕ) × (past : List ℕ) × (string text ++ rest ≡ b ∷ past)
    × (0 < b)
string_begins [] rest some fits = absurd (omega arith)
string_begins (b ∷ text) rest some fits = (b, string text ++ rest, refl, (fits 0 0 (omega arith)).0)
