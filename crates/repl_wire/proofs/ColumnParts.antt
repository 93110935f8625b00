-- A value of DataRow as a part of a body: its length is one field, and its bytes are another.
use Rattle.std.proofs.Common.{
  ◌≡◌,
  ◌≢◌,
  ℕ,
  zero,
  suc,
  ◌^◌,
  ◌<◌,
  ◌≤◌,
  Bool,
  true,
  false,
  cond,
  eqb,
  ltb,
  List,
  [],
  ◌∷◌,
  ◌++◌,
  length,
  take,
  drop,
  Option,
  Some,
  None,
  Result,
  Ok,
  Err,
  refl,
  sym,
  ap,
  subst,
  ◌∙◌,
  append_assoc,
  arith,
  ◌⊎◌,
  inl,
  inr,
}
use Rattle.std.specs.List.{AllByRecursion, concat}
use Rattle.std.proofs.lemmas.Bool.{eqb-true, eqb-false, ltb-true, ltb-false}
use Rattle.std.proofs.lemmas.List.{length-append, length-take, take-append-drop}
use Rattle.repl_message.specs.Message.{int32, column, AreBytes, FitsColumn}
use Rattle.repl_message.proofs.FieldLaws.{IsBytes-take, IsBytes-drop, bind_ok}
use Rattle.repl_message.proofs.Spellings.{int32_one}
use Rattle.repl_wire.specs.Judging.{int32_at, column_at}
use Rattle.repl_wire.specs.Places.{column_fields, IsSized}
use Rattle.repl_wire.proofs.BodyLaws.{are_bytes}
use Rattle.repl_wire.proofs.FieldSpellings.{column_is}
use Rattle.repl_wire.proofs.Leaving.{IsBody, IsBody-rest, Leaves, leaves_here, leaves_past, bind_err, IsParted, HasSome, IsPart, some_parted}
use Rattle.repl_wire.proofs.FieldParts.{int32_field, int32_left}

abbrev Column : Type 0
Column = Option (List ℕ)

-- a value of bytes, whose length is one
pub record FitsValue (c : Option (List ℕ)) : Type 0 where
  pub fits : FitsColumn c
  pub sized : IsSized c

pub values_parts : (cs : List (Option (List ℕ))) → AllByRecursion FitsValue cs → AllByRecursion FitsColumn cs × AllByRecursion IsSized cs
values_parts [] are = (tt, tt)
values_parts (c ∷ cs) are =
    let others = values_parts cs are.1 in
    ((are.0.fits, others.0), (are.0.sized, others.1))

pub values_from : (cs : List (Option (List ℕ))) → AllByRecursion FitsColumn cs → AllByRecursion IsSized cs → AllByRecursion FitsValue cs
values_from [] fits sized = tt
values_from (c ∷ cs) fits sized = (record { fits = fits.0; sized = sized.0 }, values_from cs fits.1 sized.1)

null_fits : FitsValue None
null_fits = record { fits = tt; sized = tt }

-- ---- the lengths that there are

-- that of a null, or that of a value
abbrev IsLength : ℕ → Type 0
IsLength n = (n < 2 ^ 31) ⊎ (n ≡ 0xffff_ffff)

abbrev length_of : Column → ℕ
length_of None = 0xffff_ffff
length_of (Some bytes) = length bytes

is_length : (c : Column) → IsSized c → IsLength (length_of c)
is_length None sized = inr refl
is_length (Some bytes) sized = inl sized

length_small : (n : ℕ) → IsLength n → n < 2 ^ 32
length_small n (inl sized) = omega (arith, sized)
length_small n (inr null) = omega (arith, null)

-- what stands after the length
abbrev past_length : Column → List (List ℕ)
past_length None = []
past_length (Some bytes) = bytes ∷ []

fields_parts : (c : Column) (more : List (List ℕ)) → column_fields c ++ more ≡ int32 (length_of c) ∷ (past_length c ++ more)
fields_parts None more = refl
fields_parts (Some bytes) more = refl

-- the first field is the length
first_is : (c : Column) (field : List ℕ) (others more : List (List ℕ)) → field ∷ others ≡ column_fields c ++ more
    → (field ≡ int32 (length_of c)) × (others ≡ past_length c ++ more)
first_is c field others more e = let whole = e ∙ fields_parts c more in (cc, cc)

-- a length says which it is
same_length : (m n : ℕ) → m < 2 ^ 32 → n < 2 ^ 32 → int32 m ≡ int32 n → m ≡ n
same_length m n m_small n_small e = int32_field.one m n m_small n_small e

-- a value after its length has so many bytes
value_long : (c : Column) (n : ℕ) → n < 2 ^ 31 → length_of c ≡ n → (field : List ℕ) (others more : List (List ℕ))
    → field ∷ others ≡ past_length c ++ more → length field ≡ n
value_long None n below same field others more e = absurd (omega (arith, below, same))
value_long (Some bytes) n below same field others more e =
    let whole : field ≡ bytes = cc in
    ap length whole ∙ same

-- a value stands after its length
value_there : (c : Column) (n : ℕ) → n < 2 ^ 31 → length_of c ≡ n → (more : List (List ℕ)) → [] ≢ past_length c ++ more
value_there None n below same more e = omega (arith, below, same)
value_there (Some bytes) n below same more e = absurd cc

-- some value of so many bytes
some_bytes : (n : ℕ) → (bytes : List ℕ) × AreBytes bytes × (length bytes ≡ n)
some_bytes zero = ([], tt, refl)
some_bytes (suc n) =
    let others = some_bytes n in
    (0 ∷ others.0, (omega arith, others.1), ap suc others.2)

-- ---- which value was read

abbrev Read : Type 0
Read = Column × List ℕ

read_ok : (null out short : Bool) (at past : ℕ) (rest : List ℕ) (some y : Read)
    → cond null (Ok (None, rest)) (cond out (Err at) (cond short (Err past) (Ok some))) ≡ Ok y
    → ((null ≡ true) × ((None, rest) ≡ y)) ⊎ ((out ≡ false) × (short ≡ false) × (some ≡ y))
read_ok true out short at past rest some y e = inl (refl, cc)
read_ok false true short at past rest some y e = absurd cc
read_ok false false true at past rest some y e = absurd cc
read_ok false false false at past rest some y e = inr (refl, refl, cc)

read_err : (null out short : Bool) (at past : ℕ) (rest : List ℕ) (some : Read) (left : ℕ)
    → cond null (Ok (None, rest)) (cond out (Err at) (cond short (Err past) (Ok some))) ≡ Err left
    → (null ≡ false) × (((out ≡ true) × (at ≡ left)) ⊎ ((out ≡ false) × (short ≡ true) × (past ≡ left)))
read_err true out short at past rest some left e = absurd cc
read_err false true short at past rest some left e = (refl, inl (refl, cc))
read_err false false true at past rest some left e = (refl, inr (refl, refl, cc))
read_err false false false at past rest some left e = absurd cc

abbrev past_size : List ℕ → ℕ × List ℕ → Result Read ℕ
past_size bytes size = cond (eqb size.0 0xffff_ffff) (Ok (None, size.1))
    (cond (ltb 0x7fff_ffff size.0) (Err (length bytes))
    (cond (ltb (length size.1) size.0) (Err (length size.1)) (Ok (Some (take size.0 size.1), drop size.0 size.1))))

-- a value was read
abbrev IsRead : List ℕ → Read → Type 0
IsRead bytes c = (bytes ≡ concat (column_fields c.0) ++ c.1) × IsBody c.1 × FitsValue c.0

read_from : (bytes : List ℕ) (c : Read) → bytes ≡ column c.0 ++ c.1 → IsBody c.1 → FitsValue c.0 → IsRead bytes c
read_from bytes c e is fits = (e ∙ ap (λ (t : List ℕ). t ++ c.1) (column_is c.0), is, fits)

some_read : (bytes rest : List ℕ) (n : ℕ) → bytes ≡ int32 n ++ rest → IsBody rest → n ≤ 0x7fff_ffff → n ≤ length rest
    → IsRead bytes (Some (take n rest), drop n rest)
some_read bytes rest n e is sized long =
    let len : length (take n rest) ≡ n = omega (arith, length-take n rest) in
    let parts : rest ≡ take n rest ++ drop n rest = sym (take-append-drop n rest) in
    let spelled : bytes ≡ int32 (length (take n rest)) ++ (take n rest ++ drop n rest) = rw (len, ← parts) e in
    read_from bytes (Some (take n rest), drop n rest)
    (spelled ∙ sym (append_assoc (int32 (length (take n rest))) (take n rest) (drop n rest)))
    (IsBody-rest rest (take n rest) (drop n rest) is parts (IsBytes-drop n rest is.fits))
    (record { fits = are_bytes (take n rest) (IsBytes-take n rest is.fits); sized = omega (arith, len, sized) })

value_takes : (bytes : List ℕ) (x : Option (List ℕ)) (rest : List ℕ) → IsBody bytes → column_at bytes ≡ Ok (x, rest)
    → (bytes ≡ concat (column_fields x) ++ rest) × IsBody rest × FitsValue x
unfolding column_at
value_takes bytes x rest is e =
    let a = bind_ok (int32_at bytes) (past_size bytes) (x, rest) e in
    let size = int32_field.takes bytes a.0.0 a.0.1 is a.1 in
    elim (read_ok (eqb a.0.0 0xffff_ffff) (ltb 0x7fff_ffff a.0.0) (ltb (length a.0.1) a.0.0) (length bytes) (length a.0.1) a.0.1
    (Some (take a.0.0 a.0.1), drop a.0.0 a.0.1) (x, rest) a.2) [
      | inl null ↦
          let n : a.0.0 ≡ 0xffff_ffff = eqb-true _ _ null.0 in
          subst (IsRead bytes) null.1
          (read_from bytes (None, a.0.1) (size.0 ∙ ap (λ (m : ℕ). int32 m ++ a.0.1) n) size.1 null_fits)
      | inr some ↦ subst (IsRead bytes) some.2
          (some_read bytes a.0.1 a.0.0 size.0 size.1 (ltb-false _ _ some.0) (ltb-false _ _ some.1))
    ]

value_one : (x y : Option (List ℕ)) (more others : List (List ℕ)) → FitsValue x → FitsValue y
    → column_fields x ++ more ≡ column_fields y ++ others → (x ≡ y) × (more ≡ others)
value_one None None more others x_fits y_fits e = (refl, cc)
value_one None (Some b) more others x_fits y_fits e =
    let first : int32 0xffff_ffff ≡ int32 (length b) = cc in
    absurd (omega (arith, y_fits.sized, same_length 0xffff_ffff (length b) (omega arith) (omega (arith, y_fits.sized)) first))
value_one (Some a) None more others x_fits y_fits e =
    let first : int32 (length a) ≡ int32 0xffff_ffff = cc in
    absurd (omega (arith, x_fits.sized, same_length (length a) 0xffff_ffff (omega (arith, x_fits.sized)) (omega arith) first))
value_one (Some a) (Some b) more others x_fits y_fits e =
    let bytes : a ≡ b = cc in
    (ap Some bytes, cc)

-- ---- where no value is read

-- what stands after a value
abbrev Past : Type 1
Past = Option (List ℕ) → List (List ℕ) → Type 0

-- no length stands here
no_length : (K : Past) (bytes : List ℕ) (left : ℕ) → ((x : Option (List ℕ)) → FitsValue x → HasSome (K x)) → length bytes ≡ left
    → ((n : ℕ) (past : List ℕ) → IsLength n → bytes ≢ int32 n ++ past) → Leaves (IsParted FitsValue column_fields K) bytes left
no_length K bytes left some size none =
    leaves_here (IsParted FitsValue column_fields K) bytes left size (some_parted column_fields K None null_fits (some None null_fits))
    (λ field more past p b. let first = first_is p.value field more p.more p.parts in
    none (length_of p.value) past (is_length p.value p.fits.sized) (b ∙ ap (λ (t : List ℕ). t ++ past) first.0))
    (λ p. absurd (let e = p.parts ∙ fields_parts p.value p.more in cc))

-- what goes on with a length
goes_on : (K : Past) (n : ℕ) → n ≤ 0x7fff_ffff → ((x : Option (List ℕ)) → FitsValue x → HasSome (K x))
    → (more : List (List ℕ)) × IsParted FitsValue column_fields K (int32 n ∷ more)
goes_on K n sized some =
    let v = some_bytes n in
    let same = v.2 in
    let fits : FitsValue (Some v.0) = record { fits = v.1; sized = omega (arith, same, sized) } in
    let others = some (Some v.0) fits in (
      v.0 ∷ others.0,
      record {
        value = Some v.0;
        fits = fits;
        more = others.0;
        parts = ap (λ (k : ℕ). int32 k ∷ v.0 ∷ others.0) (sym same);
        past = others.1;
      },
    )

-- too few bytes stand after a length
too_few : (K : Past) (n : ℕ) (rest : List ℕ) (left : ℕ) → n ≤ 0x7fff_ffff → ((x : Option (List ℕ)) → FitsValue x → HasSome (K x))
    → length rest < n → length rest ≡ left → Leaves (λ fs. IsParted FitsValue column_fields K (int32 n ∷ fs)) rest left
too_few K n rest left sized some short size =
    let same : (fs : List (List ℕ)) (p : IsParted FitsValue column_fields K (int32 n ∷ fs)) → length_of p.value ≡ n = λ fs p.
    sym (same_length n (length_of p.value) (omega (arith, sized)) (length_small (length_of p.value) (is_length p.value p.fits.sized))
    (first_is p.value (int32 n) fs p.more p.parts).0)
    in
    leaves_here (λ fs. IsParted FitsValue column_fields K (int32 n ∷ fs)) rest left size (goes_on K n sized some)
    (λ field more past p b. let long = value_long p.value n (omega (arith, sized)) (same (field ∷ more) p) field more p.more
    (first_is p.value (int32 n) (field ∷ more) p.more p.parts).1 in
    omega (arith, short, long, ap length b, length-append field past))
    (λ p. absurd (value_there p.value n (omega (arith, sized)) (same [] p) p.more
    (first_is p.value (int32 n) [] p.more p.parts).1))

-- a length that none has
no_such_length : (bytes rest : List ℕ) (n : ℕ) → bytes ≡ int32 n ++ rest → n < 2 ^ 32 → n ≢ 0xffff_ffff → 0x7fff_ffff < n
    → (k : ℕ) (past : List ℕ) → IsLength k → bytes ≢ int32 k ++ past
no_such_length bytes rest n parts below some out k past is b =
    let t = int32_one.one n k rest past below (length_small k is) (sym parts ∙ b) in
    elim is [
      | inl sized ↦ omega (arith, out, sized, t.0)
      | inr null ↦ some (t.0 ∙ null)
    ]

value_leaves : (K : Past) → ((x : Option (List ℕ)) → FitsValue x → HasSome (K x)) → (bytes : List ℕ) (left : ℕ) → IsBody bytes
    → column_at bytes ≡ Err left → Leaves (IsParted FitsValue column_fields K) bytes left
unfolding column_at
value_leaves K some bytes left is e =
    elim (bind_err (int32_at bytes) (past_size bytes) left e) [
      | inl none ↦
          let r = int32_left bytes left none in
          no_length K bytes left some r.1 (λ n past length_is b. omega (arith, r.0, ap length b))
      | inr a ↦
          let n = a.0.0 in
          let rest = a.0.1 in
          let size = int32_field.takes bytes n rest is a.1 in
          let r = read_err (eqb n 0xffff_ffff) (ltb 0x7fff_ffff n) (ltb (length rest) n) (length bytes) (length rest) rest
          (Some (take n rest), drop n rest) left a.2 in
          elim r.1 [
            | inl out ↦ no_length K bytes left some out.1
                (no_such_length bytes rest n size.0 size.2 (eqb-false _ _ r.0) (ltb-true _ _ out.0))
            | inr short ↦ leaves_past (IsParted FitsValue column_fields K) (int32 n) bytes rest left size.0
                (too_few K n rest left (ltb-false _ _ short.0) some (ltb-true _ _ short.1) short.2)
          ]
    ]

pub column_part : IsPart FitsValue column_fields column_at
column_part = record {
  some = None;
  some_fits = null_fits;
  takes = value_takes;
  one = value_one;
  leaves = value_leaves;
}
