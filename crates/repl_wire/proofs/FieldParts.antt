-- Fields as parts of a body: each reader reads what was written, or no such field stands there.
use Rattle.std.proofs.Common.{◌≡◌, ◌≢◌, ℕ, ◌^◌, ◌<◌, Bool, true, false, cond, ltb, List, [], ◌∷◌, ◌++◌, length, take, drop, Option, Some, None, Result, Ok, Err, refl, sym, ap, subst, ◌∙◌, arith}
use Rattle.std.specs.Int.{w16, from_be_bytes}
use Rattle.std.proofs.lemmas.Bool.{ltb-true, ltb-false}
use Rattle.std.proofs.lemmas.List.{append-nil}
use Rattle.std.proofs.lemmas.List.Elements.{All-nil}
use Rattle.repl_text.specs.Text.{IsText}
use Rattle.repl_message.specs.Message.{int16, int32, string}
use Rattle.repl_message.specs.Decoding.{at_zero, ok_or_left, string_at, number}
use Rattle.repl_message.proofs.FieldLaws.{IsBytes-rest, ok_is, int16_takes, int32_takes, string_takes, string_again}
use Rattle.repl_message.proofs.Spellings.{int16_one, int32_one, string_one}
use Rattle.repl_wire.specs.Judging.{byte_at, int16_at, int32_at}
use Rattle.repl_wire.proofs.Leaving.{IsBody, IsBody-rest, leaves_here, IsParted, IsPart}

pub record IsField {A : Type 0} (Fits : A → Type 0) (spell : A → List ℕ) (read : List ℕ → Result (A × List ℕ) ℕ) : Type 0 where
  pub some : A
  pub some_fits : Fits some
  pub takes : (bytes : List ℕ) (x : A) (rest : List ℕ) → IsBody bytes → read bytes ≡ Ok (x, rest) → (bytes ≡ spell x ++ rest) × IsBody rest
      × Fits x
  pub one : (x y : A) → Fits x → Fits y → spell x ≡ spell y → x ≡ y
  pub refuses : (bytes : List ℕ) (left : ℕ) → IsBody bytes → read bytes ≡ Err left → (length bytes ≡ left)
      × ((x : A) (past : List ℕ) → Fits x → bytes ≢ spell x ++ past)

pub field_part : {A : Type 0} {Fits : A → Type 0} {spell : A → List ℕ} {read : List ℕ → Result (A × List ℕ) ℕ} → IsField Fits spell read
    → IsPart Fits (λ x. spell x ∷ []) read
field_part {A} {Fits} {spell} {read} f = record {
  some = f.some;
  some_fits = f.some_fits;
  takes = λ bytes x rest is e.
      let t = f.takes bytes x rest is e in
      (t.0 ∙ ap (λ (s : List ℕ). s ++ rest) (sym (append-nil (spell x))), t.1, t.2);
  one = λ x y more others x_fits y_fits e.
      let first : spell x ≡ spell y = cc in
      (f.one x y x_fits y_fits first, cc);
  leaves = λ K some bytes left is e.
      let r = f.refuses bytes left is e in
      let goes_on = some f.some f.some_fits in
      leaves_here (IsParted Fits (λ x. spell x ∷ []) K) bytes left r.0
      ((spell f.some ∷ []) ++ goes_on.0, record { value = f.some; fits = f.some_fits; more = goes_on.0; parts = refl; past = goes_on.1 })
      (λ field more past p b. r.1 p.value past p.fits (let same : field ≡ spell p.value = (let q = p.parts in cc) in b
      ∙ ap (λ (t : List ℕ). t ++ past) same))
      (λ p. absurd (let q = p.parts in cc));
}

-- ---- strings

left_is : {A : Type 0} (o : Option A) (n left : ℕ) → ok_or_left o n ≡ Err left → n ≡ left
left_is None n left e = cc
left_is (Some x) n left e = absurd cc

text_left : (bytes : List ℕ) (left : ℕ) → string_at bytes ≡ Err left → length bytes ≡ left
unfolding string_at
text_left bytes left e = left_is (at_zero bytes) (length bytes) left e

pub text_field : IsField IsText string string_at
text_field = record {
  some = [];
  some_fits = All-nil (λ (b : ℕ). (0 < b) × (b < 256));
  takes = λ bytes x rest is e.
      let t = string_takes bytes x rest is.fits e in
      (t.0.parts, IsBody-rest bytes (string x) rest is t.0.parts t.0.rest_fits, t.1);
  one = λ x y x_fits y_fits e. (string_one.one x y [] [] x_fits y_fits (ap (λ (t : List ℕ). t ++ []) e)).0;
  refuses = λ bytes left is e. (
    text_left bytes left e,
    λ x past fits b. absurd
        (let read = sym e ∙ ap string_at b ∙ string_again x past fits in cc),
  );
}

-- ---- numbers

-- what is read where there is room
room_ok : {A : Type 0} (short : Bool) (n : ℕ) (x y : A) → cond short (Err n) (Ok x) ≡ Ok y → (short ≡ false) × (x ≡ y)
room_ok true n x y e = absurd cc
room_ok false n x y e = (refl, cc)

room_err : {A : Type 0} (short : Bool) (n : ℕ) (x : A) (left : ℕ) → cond short (Err n) (Ok x) ≡ Err left → (short ≡ true) × (n ≡ left)
room_err true n x left e = (refl, cc)
room_err false n x left e = absurd cc

int16_read : (bytes : List ℕ) (x : ℕ) (rest : List ℕ) → IsBody bytes → int16_at bytes ≡ Ok (x, rest) → (bytes ≡ int16 x ++ rest)
    × IsBody rest × (x < 2 ^ 16)
unfolding int16_at
int16_read bytes x rest is e =
    let r = room_ok (ltb (length bytes) 2) (length bytes) (from_be_bytes w16 (take 2 bytes), drop 2 bytes) (x, rest) e in
    let t = int16_takes bytes is.fits (ltb-false _ _ r.0) in
    subst (λ (p : ℕ × List ℕ). (bytes ≡ int16 p.0 ++ p.1) × IsBody p.1 × (p.0 < 2 ^ 16)) r.1
    (t.0.parts, IsBody-rest bytes (int16 (from_be_bytes w16 (take 2 bytes))) (drop 2 bytes) is t.0.parts t.0.rest_fits, t.1)

int16_left : (bytes : List ℕ) (left : ℕ) → int16_at bytes ≡ Err left → (length bytes < 2) × (length bytes ≡ left)
unfolding int16_at
int16_left bytes left e =
    let r = room_err (ltb (length bytes) 2) (length bytes) (from_be_bytes w16 (take 2 bytes), drop 2 bytes) left e in
    (ltb-true _ _ r.0, r.1)

pub int16_field : IsField (λ n. n < 2 ^ 16) int16 int16_at
int16_field = record {
  some = 0;
  some_fits = omega arith;
  takes = int16_read;
  one = λ x y x_fits y_fits e. (int16_one.one x y [] [] x_fits y_fits (ap (λ (t : List ℕ). t ++ []) e)).0;
  refuses = λ bytes left is e.
      let r = int16_left bytes left e in
      (r.1, λ x past fits b. omega (arith, r.0, ap length b));
}

int32_read : (bytes : List ℕ) (x : ℕ) (rest : List ℕ) → IsBody bytes → int32_at bytes ≡ Ok (x, rest) → (bytes ≡ int32 x ++ rest)
    × IsBody rest × (x < 2 ^ 32)
unfolding int32_at
int32_read bytes x rest is e =
    let r = room_ok (ltb (length bytes) 4) (length bytes) (number bytes, drop 4 bytes) (x, rest) e in
    let t = int32_takes bytes is.fits (ltb-false _ _ r.0) in
    subst (λ (p : ℕ × List ℕ). (bytes ≡ int32 p.0 ++ p.1) × IsBody p.1 × (p.0 < 2 ^ 32)) r.1
    (t.0.parts, IsBody-rest bytes (int32 (number bytes)) (drop 4 bytes) is t.0.parts t.0.rest_fits, t.1)

pub int32_left : (bytes : List ℕ) (left : ℕ) → int32_at bytes ≡ Err left → (length bytes < 4) × (length bytes ≡ left)
unfolding int32_at
int32_left bytes left e =
    let r = room_err (ltb (length bytes) 4) (length bytes) (number bytes, drop 4 bytes) left e in
    (ltb-true _ _ r.0, r.1)

pub int32_field : IsField (λ n. n < 2 ^ 32) int32 int32_at
int32_field = record {
  some = 0;
  some_fits = omega arith;
  takes = int32_read;
  one = λ x y x_fits y_fits e. (int32_one.one x y [] [] x_fits y_fits (ap (λ (t : List ℕ). t ++ []) e)).0;
  refuses = λ bytes left is e.
      let r = int32_left bytes left e in
      (r.1, λ x past fits b. omega (arith, r.0, ap length b));
}

-- ---- bytes

byte_read : (bytes : List ℕ) (x : ℕ) (rest : List ℕ) → IsBody bytes → byte_at bytes ≡ Ok (x, rest) → (bytes ≡ (x ∷ []) ++ rest)
    × IsBody rest × (x < 256)
byte_read [] x rest is e = absurd cc
byte_read (b ∷ bytes) x rest is e =
    subst (λ (p : ℕ × List ℕ). (b ∷ bytes ≡ (p.0 ∷ []) ++ p.1) × IsBody p.1 × (p.0 < 256)) (ok_is (b, bytes) (x, rest) e)
    (refl, IsBody-rest (b ∷ bytes) (b ∷ []) bytes is refl (IsBytes-rest b bytes is.fits), is.fits 0)

pub byte_left : (bytes : List ℕ) (left : ℕ) → byte_at bytes ≡ Err left → (bytes ≡ []) × (length bytes ≡ left)
byte_left [] left e = (refl, cc)
byte_left (b ∷ bytes) left e = absurd cc

pub byte_field : IsField (λ b. b < 256) (λ b. b ∷ []) byte_at
byte_field = record {
  some = 0;
  some_fits = omega arith;
  takes = byte_read;
  one = λ x y x_fits y_fits e. cc;
  refuses = λ bytes left is e.
      let r = byte_left bytes left e in
      (r.1, λ x past fits b. absurd (let none = r.0 in cc));
}
