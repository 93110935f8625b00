-- A column of RowDescription as a part of a body: seven fields.
use Rattle.std.proofs.Common.{◌≡◌, ℕ, ◌^◌, ◌<◌, List, [], ◌∷◌, ◌++◌, Result, Ok, Err, refl, sym, ap, subst, ◌∙◌, append_assoc, arith}
use borrow.Author.Gap.{read_sfits}
use Rattle.std.specs.Int.{w16, w32, cast_signed, cast_unsigned}
use Rattle.std.specs.List.{concat}
use Rattle.std.proofs.Math.Facts.{Fits-of_z, Fits-lt-pow}
use Rattle.std.proofs.lemmas.Int.{to_z-of_z, of_z-to_z}
use Rattle.std.proofs.lemmas.List.Elements.{All-nil}
use Rattle.repl_text.specs.Text.{IsText}
use Rattle.repl_message.specs.declared.back.Field.{Field}
use Rattle.repl_message.specs.Message.{int16, int32, signed16, signed32, string, FitsField}
use Rattle.repl_message.specs.Decoding.{◌>>=◌, string_at}
use Rattle.repl_message.proofs.FieldLaws.{bind_ok, ok_is}
use Rattle.repl_message.proofs.Spellings.{signed16_one, signed32_one}
use Rattle.repl_wire.specs.Judging.{int16_at, int32_at, field_at}
use Rattle.repl_wire.specs.Places.{description_fields}
use Rattle.repl_wire.proofs.Leaving.{Language, IsBody, Leaves, leaves_as, IsParted, HasSome, IsPart, some_parted, leaves_then}
use Rattle.repl_wire.proofs.FieldParts.{field_part, text_field, int16_field, int32_field}

-- the column of these numbers
abbrev made : List ℕ → ℕ → ℕ → ℕ → ℕ → ℕ → ℕ → Field
made name table attribute type_oid size modifier format =
    record {
      name = name;
      table = table;
      attribute = cast_signed w16 attribute;
      type_oid = type_oid;
      size = cast_signed w16 size;
      modifier = cast_signed w32 modifier;
      format = format;
    }

fits_made : (n : List ℕ) (t a o s m f : ℕ) → IsText n → t < 2 ^ 32 → o < 2 ^ 32 → f < 2 ^ 16 → FitsField (made n t a o s m f)
fits_made n t a o s m f name table type_oid format = record {
  name = name;
  table = table;
  attribute = read_sfits w16 a;
  type_oid = type_oid;
  size = read_sfits w16 s;
  modifier = read_sfits w32 m;
  format = format;
}

-- ---- reading in steps

abbrev after_format : List ℕ → ℕ → ℕ → ℕ → ℕ → ℕ → ℕ × List ℕ → Result (Field × List ℕ) ℕ
after_format n t a o s m format = Ok (made n t a o s m format.0, format.1)

abbrev after_modifier : List ℕ → ℕ → ℕ → ℕ → ℕ → ℕ × List ℕ → Result (Field × List ℕ) ℕ
after_modifier n t a o s modifier = int16_at modifier.1 >>= after_format n t a o s modifier.0

abbrev after_size : List ℕ → ℕ → ℕ → ℕ → ℕ × List ℕ → Result (Field × List ℕ) ℕ
after_size n t a o size = int32_at size.1 >>= after_modifier n t a o size.0

abbrev after_type : List ℕ → ℕ → ℕ → ℕ × List ℕ → Result (Field × List ℕ) ℕ
after_type n t a type_oid = int16_at type_oid.1 >>= after_size n t a type_oid.0

abbrev after_attribute : List ℕ → ℕ → ℕ × List ℕ → Result (Field × List ℕ) ℕ
after_attribute n t attribute = int32_at attribute.1 >>= after_type n t attribute.0

abbrev after_table : List ℕ → ℕ × List ℕ → Result (Field × List ℕ) ℕ
after_table n table = int16_at table.1 >>= after_attribute n table.0

abbrev after_name : List ℕ × List ℕ → Result (Field × List ℕ) ℕ
after_name name = int32_at name.1 >>= after_table name.0

-- ---- what is read is the column's fields

abbrev seven : List ℕ → List ℕ → List ℕ → List ℕ → List ℕ → List ℕ → List ℕ → List (List ℕ) → List (List ℕ)
seven a b c d e f g more = a ∷ b ∷ c ∷ d ∷ e ∷ f ∷ g ∷ more

-- the bits of signed numbers are written as they were read
made_fields : (n : List ℕ) (t a o s m f : ℕ) (more : List (List ℕ)) → a < 2 ^ 16 → s < 2 ^ 16 → m < 2 ^ 32
    → seven (string n) (int32 t) (int16 a) (int32 o) (int16 s) (int32 m) (int16 f) more ≡ description_fields (made n t a o s m f) ++ more
made_fields n t a o s m f more a_fits s_fits m_fits =
    ap (λ (k : ℕ). seven (string n) (int32 t) (int16 k) (int32 o) (int16 s) (int32 m) (int16 f) more) (sym (of_z-to_z w16 a a_fits))
    ∙ ap (λ (k : ℕ). seven (string n) (int32 t) (signed16 (cast_signed w16 a)) (int32 o) (int16 k) (int32 m) (int16 f) more)
    (sym (of_z-to_z w16 s s_fits))
    ∙ ap (λ (k : ℕ). seven (string n) (int32 t) (signed16 (cast_signed w16 a)) (int32 o) (signed16 (cast_signed w16 s)) (int32 k) (int16 f)
    more) (sym (of_z-to_z w32 m m_fits))

-- a field, and others after it
cons_part : (a : List ℕ) (others : List (List ℕ)) (x y z : List ℕ) → x ≡ a ++ y → y ≡ concat others ++ z → x ≡ concat (a ∷ others) ++ z
cons_part a others x y z first past = first ∙ ap (λ (r : List ℕ). a ++ r) past ∙ sym (append_assoc a (concat others) z)

seven_parts : (a b c d e f g x0 x1 x2 x3 x4 x5 x6 x7 : List ℕ) → x0 ≡ a ++ x1 → x1 ≡ b ++ x2 → x2 ≡ c ++ x3 → x3 ≡ d ++ x4 → x4 ≡ e ++ x5
    → x5 ≡ f ++ x6 → x6 ≡ g ++ x7 → x0 ≡ concat (seven a b c d e f g []) ++ x7
seven_parts a b c d e f g x0 x1 x2 x3 x4 x5 x6 x7 p1 p2 p3 p4 p5 p6 p7 =
    let six = cons_part g [] x6 x7 x7 p7 refl in
    let five = cons_part f (g ∷ []) x5 x6 x7 p6 six in
    let four = cons_part e (f ∷ g ∷ []) x4 x5 x7 p5 five in
    let three = cons_part d (e ∷ f ∷ g ∷ []) x3 x4 x7 p4 four in
    let two = cons_part c (d ∷ e ∷ f ∷ g ∷ []) x2 x3 x7 p3 three in
    let one = cons_part b (c ∷ d ∷ e ∷ f ∷ g ∷ []) x1 x2 x7 p2 two in
    cons_part a (b ∷ c ∷ d ∷ e ∷ f ∷ g ∷ []) x0 x1 x7 p1 one

abbrev IsTaken : List ℕ → Field × List ℕ → Type 0
IsTaken bytes x = (bytes ≡ concat (description_fields x.0) ++ x.1) × IsBody x.1 × FitsField x.0

made_taken : (bytes rest n : List ℕ) (t a o s m f : ℕ) → bytes
    ≡ concat (seven (string n) (int32 t) (int16 a) (int32 o) (int16 s) (int32 m) (int16 f) []) ++ rest → IsBody rest
    → FitsField (made n t a o s m f) → a < 2 ^ 16 → s < 2 ^ 16 → m < 2 ^ 32 → IsTaken bytes (made n t a o s m f, rest)
made_taken bytes rest n t a o s m f parts is fits a_fits s_fits m_fits =
    (parts ∙ ap (λ (fs : List (List ℕ)). concat fs ++ rest) (made_fields n t a o s m f [] a_fits s_fits m_fits), is, fits)

field_take : (bytes : List ℕ) (x : Field × List ℕ) → IsBody bytes → field_at bytes ≡ Ok x → IsTaken bytes x
unfolding field_at
field_take bytes x is e =
    let n = bind_ok (string_at bytes) after_name x e in
    let t = bind_ok (int32_at n.0.1) (after_table n.0.0) x n.2 in
    let a = bind_ok (int16_at t.0.1) (after_attribute n.0.0 t.0.0) x t.2 in
    let o = bind_ok (int32_at a.0.1) (after_type n.0.0 t.0.0 a.0.0) x a.2 in
    let s = bind_ok (int16_at o.0.1) (after_size n.0.0 t.0.0 a.0.0 o.0.0) x o.2 in
    let m = bind_ok (int32_at s.0.1) (after_modifier n.0.0 t.0.0 a.0.0 o.0.0 s.0.0) x s.2 in
    let f = bind_ok (int16_at m.0.1) (after_format n.0.0 t.0.0 a.0.0 o.0.0 s.0.0 m.0.0) x m.2 in
    let name = text_field.takes bytes n.0.0 n.0.1 is n.1 in
    let table = int32_field.takes n.0.1 t.0.0 t.0.1 name.1 t.1 in
    let attribute = int16_field.takes t.0.1 a.0.0 a.0.1 table.1 a.1 in
    let type_oid = int32_field.takes a.0.1 o.0.0 o.0.1 attribute.1 o.1 in
    let size = int16_field.takes o.0.1 s.0.0 s.0.1 type_oid.1 s.1 in
    let modifier = int32_field.takes s.0.1 m.0.0 m.0.1 size.1 m.1 in
    let format = int16_field.takes m.0.1 f.0.0 f.0.1 modifier.1 f.1 in
    let parts = seven_parts (string n.0.0) (int32 t.0.0) (int16 a.0.0) (int32 o.0.0) (int16 s.0.0) (int32 m.0.0) (int16 f.0.0) bytes n.0.1
    t.0.1 a.0.1 o.0.1 s.0.1 m.0.1 f.0.1 name.0 table.0 attribute.0 type_oid.0 size.0 modifier.0 format.0 in
    let column = made n.0.0 t.0.0 a.0.0 o.0.0 s.0.0 m.0.0 f.0.0 in
    let fits = fits_made n.0.0 t.0.0 a.0.0 o.0.0 s.0.0 m.0.0 f.0.0 name.2 table.2 type_oid.2 format.2 in
    subst (IsTaken bytes) {x = (column, f.0.1)} (ok_is (column, f.0.1) x f.2)
    (made_taken bytes f.0.1 n.0.0 t.0.0 a.0.0 o.0.0 s.0.0 m.0.0 f.0.0 parts format.1 fits attribute.2 size.2 modifier.2)

-- ---- what may stand after each field

abbrev Short : (ℕ → Language) → Language
Short K = IsParted (λ n. n < 2 ^ 16) (λ n. int16 n ∷ []) K

abbrev Long : (ℕ → Language) → Language
Long K = IsParted (λ n. n < 2 ^ 32) (λ n. int32 n ∷ []) K

abbrev Format : (Field → Language) → List ℕ → ℕ → ℕ → ℕ → ℕ → ℕ → Language
Format K n t a o s m = Short (λ f. K (made n t a o s m f))

abbrev Modifier : (Field → Language) → List ℕ → ℕ → ℕ → ℕ → ℕ → Language
Modifier K n t a o s = Long (Format K n t a o s)

abbrev Size : (Field → Language) → List ℕ → ℕ → ℕ → ℕ → Language
Size K n t a o = Short (Modifier K n t a o)

abbrev TypeOid : (Field → Language) → List ℕ → ℕ → ℕ → Language
TypeOid K n t a = Long (Size K n t a)

abbrev Attribute : (Field → Language) → List ℕ → ℕ → Language
Attribute K n t = Short (TypeOid K n t)

abbrev Table : (Field → Language) → List ℕ → Language
Table K n = Long (Attribute K n)

abbrev Name : (Field → Language) → Language
Name K = IsParted IsText (λ t. string t ∷ []) (Table K)

to : (K : Field → Language) (fs : List (List ℕ)) → Name K fs → IsParted FitsField description_fields K fs
to K fs p =
    let t = p.past in
    let a = t.past in
    let o = a.past in
    let s = o.past in
    let m = s.past in
    let f = m.past in
    let parts : fs ≡ seven (string p.value) (int32 t.value) (int16 a.value) (int32 o.value) (int16 s.value) (int32 m.value) (int16 f.value)
    f.more =
    p.parts ∙ ap (λ (r : List (List ℕ)). string p.value ∷ r)
    (t.parts ∙ ap (λ (r : List (List ℕ)). int32 t.value ∷ r) (a.parts ∙ ap (λ (r : List (List ℕ)). int16 a.value ∷ r)
    (o.parts ∙ ap (λ (r : List (List ℕ)). int32 o.value ∷ r)
    (s.parts ∙ ap (λ (r : List (List ℕ)). int16 s.value ∷ r) (m.parts ∙ ap (λ (r : List (List ℕ)). int32 m.value ∷ r) f.parts)))))
    in
    record {
      value = made p.value t.value a.value o.value s.value m.value f.value;
      fits = fits_made p.value t.value a.value o.value s.value m.value f.value p.fits t.fits o.fits f.fits;
      more = f.more;
      parts = parts ∙ made_fields p.value t.value a.value o.value s.value m.value f.value f.more a.fits s.fits m.fits;
      past = f.past;
    }

-- a column is made of its bits
made_again : (f : Field) → FitsField f → f ≡ made f.name f.table (cast_unsigned w16 f.attribute) f.type_oid (cast_unsigned w16 f.size)
    (cast_unsigned w32 f.modifier) f.format
made_again f fits =
    let attribute = sym (to_z-of_z w16 f.attribute fits.attribute) in
    let size = sym (to_z-of_z w16 f.size fits.size) in
    let modifier = sym (to_z-of_z w32 f.modifier fits.modifier) in
    λ i. record {
      name = f.name;
      table = f.table;
      attribute = attribute i;
      type_oid = f.type_oid;
      size = size i;
      modifier = modifier i;
      format = f.format;
    }

from : (K : Field → Language) (fs : List (List ℕ)) → IsParted FitsField description_fields K fs → Name K fs
from K fs p =
    let f = p.value in
    let fits = p.fits in
    let a = cast_unsigned w16 f.attribute in
    let s = cast_unsigned w16 f.size in
    let m = cast_unsigned w32 f.modifier in
    let a_fits : a < 2 ^ 16 = Fits-lt-pow (Fits-of_z fits.attribute) in
    let s_fits : s < 2 ^ 16 = Fits-lt-pow (Fits-of_z fits.size) in
    let m_fits : m < 2 ^ 32 = Fits-lt-pow (Fits-of_z fits.modifier) in
    let k : K (made f.name f.table a f.type_oid s m f.format) p.more = subst (λ (g : Field). K g p.more) (made_again f fits) p.past in
    let format : Format K f.name f.table a f.type_oid s m (int16 f.format ∷ p.more) =
    record { value = f.format; fits = fits.format; more = p.more; parts = refl; past = k } in
    let modifier : Modifier K f.name f.table a f.type_oid s (int32 m ∷ int16 f.format ∷ p.more) =
    record { value = m; fits = m_fits; more = int16 f.format ∷ p.more; parts = refl; past = format } in
    let size : Size K f.name f.table a f.type_oid (int16 s ∷ int32 m ∷ int16 f.format ∷ p.more) =
    record { value = s; fits = s_fits; more = int32 m ∷ int16 f.format ∷ p.more; parts = refl; past = modifier } in
    let type_oid : TypeOid K f.name f.table a (int32 f.type_oid ∷ int16 s ∷ int32 m ∷ int16 f.format ∷ p.more) =
    record { value = f.type_oid; fits = fits.type_oid; more = int16 s ∷ int32 m ∷ int16 f.format ∷ p.more; parts = refl; past = size }
    in
    let attribute : Attribute K f.name f.table (int16 a ∷ int32 f.type_oid ∷ int16 s ∷ int32 m ∷ int16 f.format ∷ p.more) =
    record {
      value = a;
      fits = a_fits;
      more = int32 f.type_oid ∷ int16 s ∷ int32 m ∷ int16 f.format ∷ p.more;
      parts = refl;
      past = type_oid;
    }
    in
    let table : Table K f.name (int32 f.table ∷ int16 a ∷ int32 f.type_oid ∷ int16 s ∷ int32 m ∷ int16 f.format ∷ p.more) =
    record {
      value = f.table;
      fits = fits.table;
      more = int16 a ∷ int32 f.type_oid ∷ int16 s ∷ int32 m ∷ int16 f.format ∷ p.more;
      parts = refl;
      past = attribute;
    }
    in
    record {
      value = f.name;
      fits = fits.name;
      more = int32 f.table ∷ int16 a ∷ int32 f.type_oid ∷ int16 s ∷ int32 m ∷ int16 f.format ∷
          p.more;
      parts = p.parts;
      past = table;
    }

-- ---- something goes on

abbrev GoesOn : (Field → Language) → Type 0
GoesOn K = (f : Field) → FitsField f → HasSome (K f)

some_format : (K : Field → Language) → GoesOn K → (n : List ℕ) (t a o s m : ℕ) → IsText n → t < 2 ^ 32 → o < 2 ^ 32
    → HasSome (Format K n t a o s m)
some_format K some n t a o s m name table type_oid = some_parted (λ k. int16 k ∷ []) (λ f. K (made n t a o s m f)) 0 (omega arith)
    (some (made n t a o s m 0) (fits_made n t a o s m 0 name table type_oid (omega arith)))

some_modifier : (K : Field → Language) → GoesOn K → (n : List ℕ) (t a o s : ℕ) → IsText n → t < 2 ^ 32 → o < 2 ^ 32
    → HasSome (Modifier K n t a o s)
some_modifier K some n t a o s name table type_oid = some_parted (λ k. int32 k ∷ []) (Format K n t a o s) 0 (omega arith)
    (some_format K some n t a o s 0 name table type_oid)

some_size : (K : Field → Language) → GoesOn K → (n : List ℕ) (t a o : ℕ) → IsText n → t < 2 ^ 32 → o < 2 ^ 32 → HasSome (Size K n t a o)
some_size K some n t a o name table type_oid = some_parted (λ k. int16 k ∷ []) (Modifier K n t a o) 0 (omega arith)
    (some_modifier K some n t a o 0 name table type_oid)

some_type_oid : (K : Field → Language) → GoesOn K → (n : List ℕ) (t a : ℕ) → IsText n → t < 2 ^ 32 → HasSome (TypeOid K n t a)
some_type_oid K some n t a name table = some_parted (λ k. int32 k ∷ []) (Size K n t a) 0 (omega arith)
    (some_size K some n t a 0 name table (omega arith))

some_attribute : (K : Field → Language) → GoesOn K → (n : List ℕ) (t : ℕ) → IsText n → t < 2 ^ 32 → HasSome (Attribute K n t)
some_attribute K some n t name table = some_parted (λ k. int16 k ∷ []) (TypeOid K n t) 0 (omega arith)
    (some_type_oid K some n t 0 name table)

some_table : (K : Field → Language) → GoesOn K → (n : List ℕ) → IsText n → HasSome (Table K n)
some_table K some n name = some_parted (λ k. int32 k ∷ []) (Attribute K n) 0 (omega arith) (some_attribute K some n 0 name (omega arith))

-- ---- where reading stops

leave_format : (K : Field → Language) → GoesOn K → (n : List ℕ) (t a o s m : ℕ) → IsText n → t < 2 ^ 32 → o < 2 ^ 32
    → (bytes : List ℕ) (left : ℕ) → IsBody bytes → (int16_at bytes >>= after_format n t a o s m) ≡ Err left
    → Leaves (Format K n t a o s m) bytes left
leave_format K some n t a o s m name table type_oid bytes left is e =
    leaves_then (field_part int16_field) (λ f. K (made n t a o s m f))
    (λ f format. some (made n t a o s m f) (fits_made n t a o s m f name table type_oid format)) (after_format n t a o s m) bytes left
    is (λ f rest format body parts failed. absurd cc) e

leave_modifier : (K : Field → Language) → GoesOn K → (n : List ℕ) (t a o s : ℕ) → IsText n → t < 2 ^ 32 → o < 2 ^ 32
    → (bytes : List ℕ) (left : ℕ) → IsBody bytes → (int32_at bytes >>= after_modifier n t a o s) ≡ Err left
    → Leaves (Modifier K n t a o s) bytes left
leave_modifier K some n t a o s name table type_oid bytes left is e =
    leaves_then (field_part int32_field) (Format K n t a o s) (λ m fits. some_format K some n t a o s m name table type_oid)
    (after_modifier n t a o s) bytes left is
    (λ m rest fits body parts failed. leave_format K some n t a o s m name table type_oid rest left body failed) e

leave_size : (K : Field → Language) → GoesOn K → (n : List ℕ) (t a o : ℕ) → IsText n → t < 2 ^ 32 → o < 2 ^ 32 → (bytes : List ℕ) (left : ℕ)
    → IsBody bytes → (int16_at bytes >>= after_size n t a o) ≡ Err left → Leaves (Size K n t a o) bytes left
leave_size K some n t a o name table type_oid bytes left is e =
    leaves_then (field_part int16_field) (Modifier K n t a o) (λ s fits. some_modifier K some n t a o s name table type_oid)
    (after_size n t a o) bytes left is (λ s rest fits body parts failed. leave_modifier K some n t a o s name table type_oid rest left
    body failed) e

leave_type_oid : (K : Field → Language) → GoesOn K → (n : List ℕ) (t a : ℕ) → IsText n → t < 2 ^ 32 → (bytes : List ℕ) (left : ℕ)
    → IsBody bytes → (int32_at bytes >>= after_type n t a) ≡ Err left → Leaves (TypeOid K n t a) bytes left
leave_type_oid K some n t a name table bytes left is e =
    leaves_then (field_part int32_field) (Size K n t a) (λ o type_oid. some_size K some n t a o name table type_oid) (after_type n t a)
    bytes left is (λ o rest type_oid body parts failed. leave_size K some n t a o name table type_oid rest left body failed) e

leave_attribute : (K : Field → Language) → GoesOn K → (n : List ℕ) (t : ℕ) → IsText n → t < 2 ^ 32 → (bytes : List ℕ) (left : ℕ)
    → IsBody bytes → (int16_at bytes >>= after_attribute n t) ≡ Err left → Leaves (Attribute K n t) bytes left
leave_attribute K some n t name table bytes left is e =
    leaves_then (field_part int16_field) (TypeOid K n t) (λ a fits. some_type_oid K some n t a name table) (after_attribute n t) bytes left
    is (λ a rest fits body parts failed. leave_type_oid K some n t a name table rest left body failed) e

leave_table : (K : Field → Language) → GoesOn K → (n : List ℕ) → IsText n → (bytes : List ℕ) (left : ℕ) → IsBody bytes
    → (int32_at bytes >>= after_table n) ≡ Err left → Leaves (Table K n) bytes left
leave_table K some n name bytes left is e =
    leaves_then (field_part int32_field) (Attribute K n) (λ t table. some_attribute K some n t name table) (after_table n) bytes left is
    (λ t rest table body parts failed. leave_attribute K some n t name table rest left body failed) e

field_leave : (K : Field → List (List ℕ) → Type 0) → ((f : Field) → FitsField f → HasSome (K f)) → (bytes : List ℕ) (left : ℕ)
    → IsBody bytes → field_at bytes ≡ Err left → Leaves (IsParted FitsField description_fields K) bytes left
unfolding field_at
field_leave K some bytes left is e =
    leaves_as (Name K) (IsParted FitsField description_fields K) bytes left (to K) (from K)
    (leaves_then (field_part text_field) (Table K) (λ n name. some_table K some n name) after_name bytes left is
    (λ n rest name body parts failed. leave_table K some n name rest left body failed) e)

-- ---- the fields say which column it is

field_told : (f g : Field) (more others : List (List ℕ)) → FitsField f → FitsField g → description_fields f ++ more ≡ description_fields g
    ++ others → (f ≡ g) × (more ≡ others)
field_told f g more others f_fits g_fits e =
    let one : string f.name ≡ string g.name = cc in
    let two : int32 f.table ≡ int32 g.table = ap second e in
    let three : signed16 f.attribute ≡ signed16 g.attribute = ap third e in
    let four : int32 f.type_oid ≡ int32 g.type_oid = ap fourth e in
    let five : signed16 f.size ≡ signed16 g.size = ap fifth e in
    let six : signed32 f.modifier ≡ signed32 g.modifier = ap sixth e in
    let last : int16 f.format ≡ int16 g.format = ap seventh e in
    let name = text_field.one f.name g.name f_fits.name g_fits.name one in
    let table = int32_field.one f.table g.table f_fits.table g_fits.table two in
    let attribute = (signed16_one.one f.attribute g.attribute [] [] f_fits.attribute g_fits.attribute
    (ap (λ (t : List ℕ). t ++ []) three)).0 in
    let type_oid = int32_field.one f.type_oid g.type_oid f_fits.type_oid g_fits.type_oid four in
    let size = (signed16_one.one f.size g.size [] [] f_fits.size g_fits.size (ap (λ (t : List ℕ). t ++ []) five)).0 in
    let modifier = (signed32_one.one f.modifier g.modifier [] [] f_fits.modifier g_fits.modifier (ap (λ (t : List ℕ). t ++ []) six)).0 in
    let format = int16_field.one f.format g.format f_fits.format g_fits.format last in (
      λ i. record {
        name = name i;
        table = table i;
        attribute = attribute i;
        type_oid = type_oid i;
        size = size i;
        modifier = modifier i;
        format = format i;
      },
      ap past e,
    )
  where
    tail : List (List ℕ) → List (List ℕ)
    tail [] = []
    tail (x ∷ xs) = xs

    first : List (List ℕ) → List ℕ
    first [] = []
    first (x ∷ xs) = x

    second : List (List ℕ) → List ℕ
    second xs = first (tail xs)

    third : List (List ℕ) → List ℕ
    third xs = first (tail (tail xs))

    fourth : List (List ℕ) → List ℕ
    fourth xs = first (tail (tail (tail xs)))

    fifth : List (List ℕ) → List ℕ
    fifth xs = first (tail (tail (tail (tail xs))))

    sixth : List (List ℕ) → List ℕ
    sixth xs = first (tail (tail (tail (tail (tail xs)))))

    seventh : List (List ℕ) → List ℕ
    seventh xs = first (tail (tail (tail (tail (tail (tail xs))))))

    past : List (List ℕ) → List (List ℕ)
    past xs = tail (tail (tail (tail (tail (tail (tail xs))))))

pub description_part : IsPart FitsField description_fields field_at
description_part = record {
  some = made [] 0 0 0 0 0 0;
  some_fits = fits_made [] 0 0 0 0 0 0 (All-nil (λ (b : ℕ). (0 < b) × (b < 256))) (omega arith) (omega arith) (omega arith);
  takes = λ bytes f rest is e. field_take bytes (f, rest) is e;
  one = field_told;
  leaves = field_leave;
}
