-- The entries of the lists in messages: their spellings tell where they end, and none that stands before a
-- zero byte begins with one.
use Rattle.std.proofs.Common.{◌≡◌, ℕ, ◌<◌, List, [], ◌∷◌, ◌++◌, length, Option, Some, None, refl, sym, ap, ◌∙◌, append_assoc, arith}
use Rattle.std.specs.List.{AllByRecursion, flat_map}
use Rattle.std.proofs.lemmas.List.{length-append}
use Rattle.repl_message.specs.declared.startup.Pair.{Pair}
use Rattle.repl_message.specs.declared.back.Field.{Field}
use Rattle.repl_message.specs.declared.back.ErrorField.{ErrorField}
use Rattle.repl_message.specs.Message.{int16, int32, signed16, signed32, string, pair, field, column, error_field, FitsPair, FitsField, FitsErrorField}
use Rattle.repl_message.proofs.FieldLaws.{string_begins}
use Rattle.repl_message.proofs.Spellings.{IsPrefixFree, IsMarked, int16_one, int32_one, signed16_one, signed32_one, string_one, bytes_one}

-- ---- equal parts make equal entries

same_pair : (p q : Pair) → p.name ≡ q.name → p.value ≡ q.value → p ≡ q
same_pair p q name value = λ i. record { name = name i; value = value i }

same_field : (f g : Field) → f.name ≡ g.name → f.table ≡ g.table → f.attribute ≡ g.attribute → f.type_oid ≡ g.type_oid → f.size ≡ g.size
    → f.modifier ≡ g.modifier → f.format ≡ g.format → f ≡ g
same_field f g name table attribute type_oid size modifier format =
    λ i. record {
      name = name i;
      table = table i;
      attribute = attribute i;
      type_oid = type_oid i;
      size = size i;
      modifier = modifier i;
      format = format i;
    }

same_error_field : (f g : ErrorField) → f.code ≡ g.code → f.text ≡ g.text → f ≡ g
same_error_field f g code text = λ i. record { code = code i; text = text i }

-- ---- entries

pub pair_one : IsPrefixFree FitsPair pair
pair_one = record {
  one = λ p q r s p_fits q_fits e.
      let split : string p.name ++ (string p.value ++ r) ≡ string q.name
      ++ (string q.value ++ s) = sym (append_assoc (string p.name) (string p.value) r) ∙ e
      ∙ append_assoc (string q.name) (string q.value) s in
      let name = string_one.one p.name q.name (string p.value ++ r) (string q.value ++ s) p_fits.name q_fits.name split in
      let value = string_one.one p.value q.value r s p_fits.value q_fits.value name.1 in
      (same_pair p q name.0 value.0, value.1);
}

-- no name is empty
pub pair_marked : (p : Pair) → FitsPair p → IsMarked (pair p)
pair_marked p fits rest =
    let t = string_begins p.name (string p.value ++ rest) fits.named fits.name in
    (t.0, t.1, append_assoc (string p.name) (string p.value) rest ∙ t.2, t.3)

-- what stands after a column's name
abbrev past_name : Field → List ℕ → List ℕ
past_name f rest = int32 f.table ++ (signed16 f.attribute ++
    (int32 f.type_oid ++ (signed16 f.size ++ (signed32 f.modifier ++ (int16 f.format ++ rest)))))

field_parts : (f : Field) (rest : List ℕ) → field f ++ rest ≡ string f.name ++ past_name f rest
field_parts f rest = append_assoc (string f.name) (int32 f.table ++ signed16 f.attribute ++ int32 f.type_oid ++ signed16 f.size
    ++ signed32 f.modifier ++ int16 f.format) rest

pub field_one : IsPrefixFree FitsField field
field_one = record {
  one = λ f g r s f_fits g_fits e.
      let name = string_one.one f.name g.name (past_name f r) (past_name g s) f_fits.name g_fits.name
      (sym (field_parts f r) ∙ e ∙ field_parts g s) in
      let table = int32_one.one f.table g.table _ _ f_fits.table g_fits.table name.1 in
      let attribute = signed16_one.one f.attribute g.attribute _ _ f_fits.attribute g_fits.attribute table.1 in
      let type_oid = int32_one.one f.type_oid g.type_oid _ _ f_fits.type_oid g_fits.type_oid attribute.1 in
      let size = signed16_one.one f.size g.size _ _ f_fits.size g_fits.size type_oid.1 in
      let modifier = signed32_one.one f.modifier g.modifier _ _ f_fits.modifier g_fits.modifier size.1 in
      let format = int16_one.one f.format g.format r s f_fits.format g_fits.format modifier.1 in
      (same_field f g name.0 table.0 attribute.0 type_oid.0 size.0 modifier.0 format.0, format.1);
}

-- a value that a message has room for: its length is not that of a null
abbrev pub IsShort : Option (List ℕ) → Type 0
IsShort c = length (column c) < 0xffff_ffff

columns_one : (c d : Option (List ℕ)) (r s : List ℕ) → IsShort c → IsShort d → column c ++ r ≡ column d ++ s → (c ≡ d) × (r ≡ s)
columns_one None None r s c_fits d_fits e = (refl, (int32_one.one 0xffff_ffff 0xffff_ffff r s (omega arith) (omega arith) e).1)
columns_one None (Some b) r s c_fits d_fits e =
    let short : length b < 0xffff_ffff = omega (arith, length-append (int32 (length b)) b) in
    let t = int32_one.one 0xffff_ffff (length b) r (b ++ s) (omega arith) (omega arith) e in
    absurd (omega (arith, t.0))
columns_one (Some a) None r s c_fits d_fits e =
    let short : length a < 0xffff_ffff = omega (arith, length-append (int32 (length a)) a) in
    let t = int32_one.one (length a) 0xffff_ffff (a ++ r) s (omega arith) (omega arith) e in
    absurd (omega (arith, t.0))
columns_one (Some a) (Some b) r s c_fits d_fits e =
    let a_short : length a < 0xffff_ffff = omega (arith, length-append (int32 (length a)) a) in
    let b_short : length b < 0xffff_ffff = omega (arith, length-append (int32 (length b)) b) in
    let t = int32_one.one (length a) (length b) (a ++ r) (b ++ s) (omega arith) (omega arith) e in
    let u = bytes_one a b r s t.0 t.1 in
    (ap Some u.0, u.1)

pub column_one : IsPrefixFree IsShort column
column_one = record { one = columns_one }

-- values within a length
pub all_short : (cs : List (Option (List ℕ))) → length (flat_map column cs) < 0xffff_ffff → AllByRecursion IsShort cs
all_short [] short = tt
all_short (c ∷ cs) short =
    let len = length-append (column c) (flat_map column cs) in
    (omega arith, all_short cs (omega arith))

pub error_field_one : IsPrefixFree FitsErrorField error_field
error_field_one = record {
  one = λ f g r s f_fits g_fits e.
      let code : f.code ≡ g.code = cc in
      let past : string f.text ++ r ≡ string g.text ++ s = cc in
      let text = string_one.one f.text g.text r s f_fits.text g_fits.text past in
      (same_error_field f g code text.0, text.1);
}

-- no code is 0
pub error_field_marked : (f : ErrorField) → FitsErrorField f → IsMarked (error_field f)
error_field_marked f fits rest = (f.code, string f.text ++ rest, refl, fits.coded)
