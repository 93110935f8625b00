-- Fields of the server's messages: what is read was written so, what was written is read again, and reading
-- entries one after the other, as a loop does.
use Rattle.std.proofs.Common.{◌≡◌, ℕ, zero, suc, ◌+◌, ◌-◌, ◌^◌, ◌<◌, ◌≤◌, Bool, true, false, cond, ltb, eqb, List, [], ◌∷◌, ◌++◌, length, take, drop, Option, Some, None, Result, Ok, Err, refl, sym, ap, subst, ◌∙◌, append_assoc, arith, ◌⊎◌, inl, inr}
use Rattle.std.specs.Prelude.{FitsSigned}
use Rattle.std.specs.Int.{w16, w32, from_be_bytes, cast_signed, cast_unsigned}
use Rattle.std.specs.List.{AllByRecursion, flat_map}
use Rattle.std.proofs.Math.Facts.{Fits-of_z, Fits-lt-pow, sfits_to_z}
use Rattle.std.proofs.lemmas.Bool.{ltb-false, le-ltb, eqb-true, ne_eqb}
use Rattle.std.proofs.lemmas.List.{append-nil, length-append, length-take, take_at, drop_at, take-append-drop}
use Rattle.std.proofs.lemmas.List.Elements.{All-from_recursion}
use Rattle.std.proofs.lemmas.List.Concat.{flat_map-cons}
use Rattle.std.proofs.lemmas.Int.{of_z-to_z, to_z-of_z}
use Rattle.repl_text.specs.Text.{IsText}
use Rattle.repl_message.specs.declared.back.Field.{Field}
use Rattle.repl_message.specs.declared.back.ErrorField.{ErrorField}
use Rattle.repl_message.specs.declared.back.TheConstants.{LIST_LIMIT}
use Rattle.repl_wire.specs.declared.fields.FieldFault.{FieldFault}
use Rattle.repl_wire.specs.declared.fields.FieldFault.TheVariants as field_fault
use Rattle.repl_message.specs.Lists.{AreCoded}
use Rattle.repl_message.specs.Message.{int16, int32, signed16, signed32, string, field, column, error_field, counted, ended, FitsField, FitsColumn, FitsErrorField}
use Rattle.repl_message.specs.Decoding.{◌>>=◌, string_at, number}
use Rattle.repl_wire.specs.Judging.{Fails, byte_at, int16_at, int32_at, entries_at, counted_at, field_at, column_at, coded_at}
use Rattle.repl_message.proofs.FieldLaws.{IsBytes, IsBytes-rest, IsBytes-take, IsBytes-drop, bind_ok, ok_is, Takes, Takes-then, Takes-ended, Takes-cons, ended-cons, int16_takes, int16_again, int32_takes, int32_again, string_takes, string_again}
use Rattle.repl_wire.specs.Places.{IsSized}
use Rattle.repl_wire.proofs.BodyLaws.{are_bytes}

-- ---- entries one after the other

-- what was read before, and what is still read
abbrev pub with_front : {A : Type 0} → List A → Result (List A × List ℕ) ℕ → Result (List A × List ℕ) ℕ
with_front front read = read >>= λ x. Ok (front ++ x.0, x.1)

abbrev after_others : {A : Type 0} → A → List A × List ℕ → Result (List A × List ℕ) ℕ
after_others first others = Ok (first ∷ others.0, others.1)

regroup : {A : Type 0} (front : List A) (first : A) (read : Result (List A × List ℕ) ℕ) → with_front front (read >>= after_others first)
    ≡ with_front (front ++ first ∷ []) read
regroup {A} front first (Ok x) = ap (λ (xs : List A). Ok (xs, x.1)) (simp append_assoc)
regroup front first (Err left) = refl

pub begins : {A : Type 0} (read : Result (List A × List ℕ) ℕ) → with_front [] read ≡ read
begins (Ok x) = refl
begins (Err left) = refl

pub entry_read : {A : Type 0} (entry : List ℕ → Result (A × List ℕ) ℕ) (front : List A) (count i : ℕ) (bytes : List ℕ) (first : A)
    (after : List ℕ) (total : Result (List A × List ℕ) ℕ) → i < count → entry bytes ≡ Ok (first, after)
    → with_front front (entries_at entry (count - i) bytes) ≡ total
    → with_front (front ++ first ∷ []) (entries_at entry (count - (i + 1)) after) ≡ total
unfolding entries_at
entry_read entry front count i bytes first after total lt read so_far =
    let k : count - i ≡ suc (count - (i + 1)) = omega arith in
    let one : with_front front (entries_at entry (count - i) bytes)
    ≡ with_front (front ++ first ∷ []) (entries_at entry (count - (i + 1)) after) =
    rw (k, read) (regroup front first (entries_at entry (count - (i + 1)) after)) in
    sym one ∙ so_far

pub entry_fails : {A : Type 0} (entry : List ℕ → Result (A × List ℕ) ℕ) (e : FieldFault) (front : List A) (count i : ℕ) (bytes : List ℕ)
    (total : Result (List A × List ℕ) ℕ) → i < count → Fails e (entry bytes)
    → with_front front (entries_at entry (count - i) bytes) ≡ total → Fails e total
unfolding entries_at
entry_fails entry field_fault.Memory front count i bytes total lt fails so_far = tt
entry_fails entry (field_fault.Left left) front count i bytes total lt fails so_far =
    let k : count - i ≡ suc (count - (i + 1)) = omega arith in
    let one : with_front front (entries_at entry (count - i) bytes) ≡ Err left = rw (k, fails) refl in
    sym so_far ∙ one

pub all_read : {A : Type 0} (entry : List ℕ → Result (A × List ℕ) ℕ) (front : List A) (count i : ℕ) (bytes : List ℕ)
    (total : Result (List A × List ℕ) ℕ) → count ≤ i
    → with_front front (entries_at entry (count - i) bytes) ≡ total → total ≡ Ok (front, bytes)
unfolding entries_at
all_read {A} entry front count i bytes total le so_far =
    let k : count - i ≡ 0 = omega arith in
    let one : with_front front (entries_at entry (count - i) bytes)
    ≡ Ok (front, bytes) = rw k (ap (λ (xs : List A). Ok (xs, bytes)) (append-nil front)) in
    sym so_far ∙ one

-- as many entries as were to be read
pub length-entries : {A : Type 0} (entry : List ℕ → Result (A × List ℕ) ℕ) (count : ℕ) (bytes : List ℕ) (x : List A × List ℕ)
    → entries_at entry count bytes ≡ Ok x → length x.0 ≡ count
unfolding entries_at
length-entries {A} entry zero bytes x e = subst (λ (y : List A × List ℕ). length y.0 ≡ 0) (ok_is ([], bytes) x e) refl
length-entries {A} entry (suc count) bytes x e =
    let f = bind_ok (entry bytes) (λ (first : A × List ℕ). entries_at entry count first.1 >>= after_others first.0) x e in
    let o = bind_ok (entries_at entry count f.0.1) (after_others f.0.0) x f.2 in
    let others = length-entries entry count f.0.1 o.0 o.1 in
    subst (λ (y : List A × List ℕ). length y.0 ≡ suc count) (ok_is (f.0.0 ∷ o.0.0, o.0.1) x o.2) (ap suc others)

-- ---- codes with strings

-- a code that is not 0 and what follows it, in steps
abbrev after_coded : ℕ → List ℕ → List ErrorField × List ℕ → Result (List ErrorField × List ℕ) ℕ
after_coded code text others = Ok (record { code = code; text = text } ∷ others.0, others.1)

abbrev after_text : ℕ → ℕ → List ℕ × List ℕ → Result (List ErrorField × List ℕ) ℕ
after_text turns code text = coded_at turns text.1 >>= after_coded code text.0

coded_at_code : (turns code : ℕ) (past : List ℕ) → 0 < code → coded_at (suc turns) (code ∷ past)
    ≡ (string_at past >>= after_text turns code)
unfolding coded_at
coded_at_code turns zero past first = absurd (omega arith)
coded_at_code turns (suc code) past first = refl

pub code_read : (front : List ErrorField) (count i : ℕ) (bytes : List ℕ) (f : ErrorField) (past after : List ℕ)
    (total : Result (List ErrorField × List ℕ) ℕ) → i < count → bytes ≡ f.code ∷ past → 0 < f.code
    → string_at past ≡ Ok (f.text, after) → with_front front (coded_at (count - i) bytes) ≡ total
    → with_front (front ++ f ∷ []) (coded_at (count - (i + 1)) after) ≡ total
code_read front count i bytes f past after total lt starts first read so_far =
    let k : count - i ≡ suc (count - (i + 1)) = omega arith in
    let one : with_front front (coded_at (count - i) bytes) ≡ with_front (front ++ f ∷ []) (coded_at (count - (i + 1)) after) =
    rw (k, starts, coded_at_code (count - (i + 1)) f.code past first, read) (regroup front f (coded_at (count - (i + 1)) after)) in
    sym one ∙ so_far

pub text_fails : (e : FieldFault) (front : List ErrorField) (count i : ℕ) (bytes : List ℕ) (code : ℕ) (past : List ℕ)
    (total : Result (List ErrorField × List ℕ) ℕ) → i < count → bytes ≡ code ∷ past → 0 < code
    → Fails e (string_at past) → with_front front (coded_at (count - i) bytes) ≡ total → Fails e total
text_fails field_fault.Memory front count i bytes code past total lt starts first fails so_far = tt
text_fails (field_fault.Left left) front count i bytes code past total lt starts first fails so_far =
    let k : count - i ≡ suc (count - (i + 1)) = omega arith in
    let one : with_front front (coded_at (count - i) bytes) ≡ Err left =
    rw (k, starts, coded_at_code (count - (i + 1)) code past first, fails) refl in
    sym so_far ∙ one

pub ends_at_zero : (front : List ErrorField) (count i : ℕ) (bytes : List ℕ) (code : ℕ) (past : List ℕ)
    (total : Result (List ErrorField × List ℕ) ℕ) → i < count → bytes ≡ code ∷ past → code ≡ 0
    → with_front front (coded_at (count - i) bytes) ≡ total → total ≡ Ok (front, past)
unfolding coded_at
ends_at_zero front count i bytes code past total lt starts first so_far =
    let k : count - i ≡ suc (count - (i + 1)) = omega arith in
    let one : with_front front (coded_at (count - i) bytes) ≡ Ok (front, past) =
    rw (k, starts, first) (ap (λ (fs : List ErrorField). Ok (fs, past)) (append-nil front)) in
    sym so_far ∙ one

pub ends_empty : (front : List ErrorField) (count i : ℕ) (bytes : List ℕ) (total : Result (List ErrorField × List ℕ) ℕ) → i < count → bytes
    ≡ []
    → with_front front (coded_at (count - i) bytes) ≡ total → total ≡ Err 0
unfolding coded_at
ends_empty front count i bytes total lt none so_far =
    let k : count - i ≡ suc (count - (i + 1)) = omega arith in
    let one : with_front front (coded_at (count - i) bytes) ≡ Err 0 = rw (k, none) refl in
    sym so_far ∙ one

abbrev AreCodedEach : List ErrorField × List ℕ → Type 0
AreCodedEach x = AllByRecursion (λ (f : ErrorField). 0 < f.code) x.0

each_coded : (turns : ℕ) (bytes : List ℕ) (x : List ErrorField × List ℕ) → coded_at turns bytes ≡ Ok x → AreCodedEach x
unfolding coded_at
each_coded zero bytes x e = absurd cc
each_coded (suc turns) [] x e = absurd cc
each_coded (suc turns) (zero ∷ bytes) x e = subst AreCodedEach (ok_is ([], bytes) x e) tt
each_coded (suc turns) (suc code ∷ bytes) x e =
    let t = bind_ok (string_at bytes) (after_text turns (suc code)) x e in
    let o = bind_ok (coded_at turns t.0.1) (after_coded (suc code) t.0.0) x t.2 in
    let f : ErrorField = record { code = suc code; text = t.0.0 } in
    subst AreCodedEach {x = (f ∷ o.0.0, o.0.1)} (ok_is (f ∷ o.0.0, o.0.1) x o.2) (omega arith, each_coded turns t.0.1 o.0 o.1)

-- no code is 0
pub are_coded : (turns : ℕ) (bytes : List ℕ) (fs : List ErrorField) (rest : List ℕ) → coded_at turns bytes ≡ Ok (fs, rest) → AreCoded fs
are_coded turns bytes fs rest e = All-from_recursion (λ (f : ErrorField). 0 < f.code) fs (each_coded turns bytes (fs, rest) e)

-- ---- what is read, and what is read again

abbrev IsTaken : {A : Type 0} → (A → Type 0) → (A → List ℕ) → List ℕ → A × List ℕ → Type 0
IsTaken Fits spell bytes x = Takes bytes (spell x.0) x.1 × Fits x.0

-- a reader takes from the front what spells its value
pub record Reads {A : Type 0} (Fits : A → Type 0) (spell : A → List ℕ) (read : List ℕ → Result (A × List ℕ) ℕ) : Type 0 where
  pub takes : (bytes : List ℕ) (x : A × List ℕ) → IsBytes bytes → read bytes ≡ Ok x → Takes bytes (spell x.0) x.1 × Fits x.0

-- a reader gives the value that is spelled, whatever follows it
pub record ReadsAgain {A : Type 0} (Fits : A → Type 0) (spell : A → List ℕ) (read : List ℕ → Result (A × List ℕ) ℕ) : Type 0 where
  pub again : (x : A) (rest : List ℕ) → Fits x → read (spell x ++ rest) ≡ Ok (x, rest)

-- one step, and what follows it
pub read_then : {A B : Type 0} (r : Result A ℕ) (f : A → Result B ℕ) (x : A) (y : Result B ℕ) → r ≡ Ok x → f x ≡ y → (r >>= f) ≡ y
read_then {A} {B} r f x y first others = ap (λ (s : Result A ℕ). s >>= f) first ∙ others

-- nothing follows
pub read_last : {A : Type 0} (read : List ℕ → Result A ℕ) (text : List ℕ) (y : Result A ℕ) → read (text ++ []) ≡ y → read text ≡ y
read_last read text y e = ap read (sym (append-nil text)) ∙ e

-- ---- numbers

byte_taken : (bytes : List ℕ) (x : ℕ × List ℕ) → IsBytes bytes → byte_at bytes ≡ Ok x → IsTaken (λ b. b < 256) (λ b. b ∷ []) bytes x
byte_taken [] x fits e = absurd cc
byte_taken (b ∷ rest) x fits e = subst (IsTaken (λ b. b < 256) (λ b. b ∷ []) (b ∷ rest)) (ok_is (b, rest) x e)
    (record { parts = refl; rest_fits = IsBytes-rest b rest fits }, fits 0)

pub byte_reads : Reads (λ b. b < 256) (λ b. b ∷ []) byte_at
byte_reads = record { takes = byte_taken }

-- what a test for too few lets through
guard_long : {A : Type 0} (short : Bool) (left : ℕ) (x y : A) → cond short (Err left) (Ok x) ≡ Ok y → (short ≡ false) × (x ≡ y)
guard_long true left x y e = absurd cc
guard_long false left x y e = (refl, cc)

int16_taken : (bytes : List ℕ) (x : ℕ × List ℕ) → IsBytes bytes → int16_at bytes ≡ Ok x → IsTaken (λ n. n < 2 ^ 16) int16 bytes x
unfolding int16_at
int16_taken bytes x fits e =
    let g = guard_long (ltb (length bytes) 2) (length bytes) (from_be_bytes w16 (take 2 bytes), drop 2 bytes) x e in
    subst (IsTaken (λ n. n < 2 ^ 16) int16 bytes) g.1 (int16_takes bytes fits (ltb-false _ _ g.0))

int16_is : (bytes : List ℕ) (n : ℕ) (rest : List ℕ) → 2 ≤ length bytes → from_be_bytes w16 (take 2 bytes) ≡ n → drop 2 bytes ≡ rest
    → int16_at bytes ≡ Ok (n, rest)
unfolding int16_at
int16_is bytes n rest long first past = rw (le-ltb _ _ long, first, past) refl

pub int16_at_again : (n : ℕ) (rest : List ℕ) → n < 2 ^ 16 → int16_at (int16 n ++ rest) ≡ Ok (n, rest)
int16_at_again n rest lt =
    let a = int16_again n rest lt in
    int16_is (int16 n ++ rest) n rest (omega (arith, length-append (int16 n) rest)) a.0 a.1

int32_taken : (bytes : List ℕ) (x : ℕ × List ℕ) → IsBytes bytes → int32_at bytes ≡ Ok x → IsTaken (λ n. n < 2 ^ 32) int32 bytes x
unfolding int32_at
int32_taken bytes x fits e =
    let g = guard_long (ltb (length bytes) 4) (length bytes) (number bytes, drop 4 bytes) x e in
    subst (IsTaken (λ n. n < 2 ^ 32) int32 bytes) g.1 (int32_takes bytes fits (ltb-false _ _ g.0))

int32_is : (bytes : List ℕ) (n : ℕ) (rest : List ℕ) → 4 ≤ length bytes → number bytes ≡ n → drop 4 bytes ≡ rest → int32_at bytes
    ≡ Ok (n, rest)
unfolding int32_at
int32_is bytes n rest long first past = rw (le-ltb _ _ long, first, past) refl

pub int32_at_again : (n : ℕ) (rest : List ℕ) → n < 2 ^ 32 → int32_at (int32 n ++ rest) ≡ Ok (n, rest)
int32_at_again n rest lt =
    let a = int32_again n rest lt in
    int32_is (int32 n ++ rest) n rest (omega (arith, length-append (int32 n) rest)) a.0 a.1

pub int16_reads : Reads (λ n. n < 2 ^ 16) int16 int16_at
int16_reads = record { takes = int16_taken }

pub int16_reads_again : ReadsAgain (λ n. n < 2 ^ 16) int16 int16_at
int16_reads_again = record { again = int16_at_again }

pub int32_reads : Reads (λ n. n < 2 ^ 32) int32 int32_at
int32_reads = record { takes = int32_taken }

-- the same bytes, read as a signed number
signed16_taken : (bytes : List ℕ) (x : ℕ × List ℕ) → IsBytes bytes → int16_at bytes ≡ Ok x
    → Takes bytes (signed16 (cast_signed w16 x.0)) x.1 × FitsSigned w16 (cast_signed w16 x.0)
signed16_taken bytes x fits e =
    let t = int16_taken bytes x fits e in
    (subst (λ (n : ℕ). Takes bytes (int16 n) x.1) (sym (of_z-to_z w16 x.0 t.1)) t.0, sfits_to_z {w = w16} {n = x.0} (record { fits = t.1 }))

signed32_taken : (bytes : List ℕ) (x : ℕ × List ℕ) → IsBytes bytes → int32_at bytes ≡ Ok x
    → Takes bytes (signed32 (cast_signed w32 x.0)) x.1 × FitsSigned w32 (cast_signed w32 x.0)
signed32_taken bytes x fits e =
    let t = int32_taken bytes x fits e in
    (subst (λ (n : ℕ). Takes bytes (int32 n) x.1) (sym (of_z-to_z w32 x.0 t.1)) t.0, sfits_to_z {w = w32} {n = x.0} (record { fits = t.1 }))

-- ---- strings

string_taken : (bytes : List ℕ) (x : List ℕ × List ℕ) → IsBytes bytes → string_at bytes ≡ Ok x → IsTaken IsText string bytes x
string_taken bytes x fits e = string_takes bytes x.0 x.1 fits e

pub string_reads : Reads IsText string string_at
string_reads = record { takes = string_taken }

-- ---- columns of RowDescription, in steps

abbrev as_field : List ℕ → ℕ → ℕ → ℕ → ℕ → ℕ → ℕ → Field
as_field name table attribute type_oid size modifier format =
    record {
      name = name;
      table = table;
      attribute = cast_signed w16 attribute;
      type_oid = type_oid;
      size = cast_signed w16 size;
      modifier = cast_signed w32 modifier;
      format = format;
    }

abbrev after_format : List ℕ → ℕ → ℕ → ℕ → ℕ → ℕ → ℕ × List ℕ → Result (Field × List ℕ) ℕ
after_format name table attribute type_oid size modifier format =
    Ok (as_field name table attribute type_oid size modifier format.0, format.1)

abbrev after_modifier : List ℕ → ℕ → ℕ → ℕ → ℕ → ℕ × List ℕ → Result (Field × List ℕ) ℕ
after_modifier name table attribute type_oid size modifier =
    int16_at modifier.1 >>= after_format name table attribute type_oid size modifier.0

abbrev after_size : List ℕ → ℕ → ℕ → ℕ → ℕ × List ℕ → Result (Field × List ℕ) ℕ
after_size name table attribute type_oid size = int32_at size.1 >>= after_modifier name table attribute type_oid size.0

abbrev after_type_oid : List ℕ → ℕ → ℕ → ℕ × List ℕ → Result (Field × List ℕ) ℕ
after_type_oid name table attribute type_oid = int16_at type_oid.1 >>= after_size name table attribute type_oid.0

abbrev after_attribute : List ℕ → ℕ → ℕ × List ℕ → Result (Field × List ℕ) ℕ
after_attribute name table attribute = int32_at attribute.1 >>= after_type_oid name table attribute.0

abbrev after_table : List ℕ → ℕ × List ℕ → Result (Field × List ℕ) ℕ
after_table name table = int16_at table.1 >>= after_attribute name table.0

abbrev after_name : List ℕ × List ℕ → Result (Field × List ℕ) ℕ
after_name name = int32_at name.1 >>= after_table name.0

field_taken : (bytes : List ℕ) (x : Field × List ℕ) → IsBytes bytes → field_at bytes ≡ Ok x → IsTaken FitsField field bytes x
unfolding field_at
field_taken bytes x fits e =
    let n = bind_ok (string_at bytes) after_name x e in
    let t = bind_ok (int32_at n.0.1) (after_table n.0.0) x n.2 in
    let a = bind_ok (int16_at t.0.1) (after_attribute n.0.0 t.0.0) x t.2 in
    let o = bind_ok (int32_at a.0.1) (after_type_oid n.0.0 t.0.0 a.0.0) x a.2 in
    let s = bind_ok (int16_at o.0.1) (after_size n.0.0 t.0.0 a.0.0 o.0.0) x o.2 in
    let m = bind_ok (int32_at s.0.1) (after_modifier n.0.0 t.0.0 a.0.0 o.0.0 s.0.0) x s.2 in
    let f = bind_ok (int16_at m.0.1) (after_format n.0.0 t.0.0 a.0.0 o.0.0 s.0.0 m.0.0) x m.2 in
    let name = string_taken bytes n.0 fits n.1 in
    let table = int32_taken n.0.1 t.0 name.0.rest_fits t.1 in
    let attribute = signed16_taken t.0.1 a.0 table.0.rest_fits a.1 in
    let type_oid = int32_taken a.0.1 o.0 attribute.0.rest_fits o.1 in
    let size = signed16_taken o.0.1 s.0 type_oid.0.rest_fits s.1 in
    let modifier = signed32_taken s.0.1 m.0 size.0.rest_fits m.1 in
    let format = int16_taken m.0.1 f.0 modifier.0.rest_fits f.1 in
    let made : Field = as_field n.0.0 t.0.0 a.0.0 o.0.0 s.0.0 m.0.0 f.0.0 in
    let rest = f.0.1 in
    let past_size = Takes-then s.0.1 (signed32 made.modifier) m.0.1 (int16 made.format) rest modifier.0 format.0 in
    let past_type_oid = Takes-then o.0.1 (signed16 made.size) s.0.1 (signed32 made.modifier ++ int16 made.format) rest size.0 past_size
    in
    let past_attribute = Takes-then a.0.1 (int32 made.type_oid) o.0.1 (signed16 made.size ++ signed32 made.modifier ++ int16 made.format)
    rest type_oid.0 past_type_oid in
    let past_table = Takes-then t.0.1 (signed16 made.attribute) a.0.1
    (int32 made.type_oid ++ signed16 made.size ++ signed32 made.modifier ++ int16 made.format) rest attribute.0 past_attribute in
    let past_name = Takes-then n.0.1 (int32 made.table) t.0.1
    (signed16 made.attribute ++ int32 made.type_oid ++ signed16 made.size ++ signed32 made.modifier ++ int16 made.format) rest table.0
    past_table in
    let all : Takes bytes (field made) rest = Takes-then bytes (string made.name) n.0.1
    (int32 made.table ++ signed16 made.attribute ++ int32 made.type_oid ++ signed16 made.size ++ signed32 made.modifier
    ++ int16 made.format) rest name.0 past_name in
    let made_fits : FitsField made = record {
      name = name.1;
      table = table.1;
      attribute = attribute.1;
      type_oid = type_oid.1;
      size = size.1;
      modifier = modifier.1;
      format = format.1;
    } in
    subst (IsTaken FitsField field bytes) (ok_is (made, f.0.1) x f.2) (all, made_fits)

pub field_reads : Reads FitsField field field_at
field_reads = record { takes = field_taken }

-- what stands after each of the parts
abbrev from_format : Field → List ℕ → List ℕ
from_format f rest = int16 f.format ++ rest

abbrev from_modifier : Field → List ℕ → List ℕ
from_modifier f rest = signed32 f.modifier ++ from_format f rest

abbrev from_size : Field → List ℕ → List ℕ
from_size f rest = signed16 f.size ++ from_modifier f rest

abbrev from_type_oid : Field → List ℕ → List ℕ
from_type_oid f rest = int32 f.type_oid ++ from_size f rest

abbrev from_attribute : Field → List ℕ → List ℕ
from_attribute f rest = signed16 f.attribute ++ from_type_oid f rest

abbrev from_table : Field → List ℕ → List ℕ
from_table f rest = int32 f.table ++ from_attribute f rest

field_again : (f : Field) (rest : List ℕ) → FitsField f → field_at (field f ++ rest) ≡ Ok (f, rest)
unfolding field_at
field_again f rest fits =
    let attribute = cast_unsigned w16 f.attribute in
    let size = cast_unsigned w16 f.size in
    let modifier = cast_unsigned w32 f.modifier in
    let attribute_fits : attribute < 2 ^ 16 = Fits-lt-pow (Fits-of_z fits.attribute) in
    let size_fits : size < 2 ^ 16 = Fits-lt-pow (Fits-of_z fits.size) in
    let modifier_fits : modifier < 2 ^ 32 = Fits-lt-pow (Fits-of_z fits.modifier) in
    let regrouped : field f ++ rest ≡ string f.name ++ from_table f rest =
    append_assoc (string f.name) (int32 f.table ++ signed16 f.attribute ++ int32 f.type_oid ++ signed16 f.size ++ signed32 f.modifier
    ++ int16 f.format) rest in
    let made : Result (Field × List ℕ) ℕ = Ok (as_field f.name f.table attribute f.type_oid size modifier f.format, rest) in
    let same : made ≡ Ok (f, rest) =
    λ i. Ok (
      record {
        name = f.name;
        table = f.table;
        attribute = to_z-of_z w16 f.attribute fits.attribute i;
        type_oid = f.type_oid;
        size = to_z-of_z w16 f.size fits.size i;
        modifier = to_z-of_z w32 f.modifier fits.modifier i;
        format = f.format;
      },
      rest,
    ) in
    let read : field_at (string f.name ++ from_table f rest) ≡ made =
    read_then (string_at (string f.name ++ from_table f rest)) after_name (f.name, from_table f rest) made
    (string_again f.name (from_table f rest) fits.name)
    (read_then (int32_at (from_table f rest)) (after_table f.name) (f.table, from_attribute f rest) made
    (int32_at_again f.table (from_attribute f rest) fits.table)
    (read_then (int16_at (from_attribute f rest)) (after_attribute f.name f.table) (attribute, from_type_oid f rest) made
    (int16_at_again attribute (from_type_oid f rest) attribute_fits)
    (read_then (int32_at (from_type_oid f rest)) (after_type_oid f.name f.table attribute) (f.type_oid, from_size f rest) made
    (int32_at_again f.type_oid (from_size f rest) fits.type_oid)
    (read_then (int16_at (from_size f rest)) (after_size f.name f.table attribute f.type_oid) (size, from_modifier f rest) made
    (int16_at_again size (from_modifier f rest) size_fits)
    (read_then (int32_at (from_modifier f rest)) (after_modifier f.name f.table attribute f.type_oid size) (modifier, from_format f rest)
    made (int32_at_again modifier (from_format f rest) modifier_fits)
    (read_then (int16_at (from_format f rest)) (after_format f.name f.table attribute f.type_oid size modifier) (f.format, rest) made
    (int16_at_again f.format rest fits.format) refl)))))) in
    ap field_at regrouped ∙ read ∙ same

pub field_reads_again : ReadsAgain FitsField field field_at
field_reads_again = record { again = field_again }

-- ---- values of DataRow

abbrev ColumnRead : Type 0
ColumnRead = Option (List ℕ) × List ℕ

abbrev after_length : List ℕ → ℕ × List ℕ → Result ColumnRead ℕ
after_length bytes size = cond (eqb size.0 0xffff_ffff) (Ok (None, size.1))
    (cond (ltb 0x7fff_ffff size.0) (Err (length bytes))
    (cond (ltb (length size.1) size.0) (Err (length size.1)) (Ok (Some (take size.0 size.1), drop size.0 size.1))))

-- a null, or a value that is there
column_cases : (null out short : Bool) (at past : ℕ) (a b y : ColumnRead)
    → cond null (Ok a) (cond out (Err at) (cond short (Err past) (Ok b))) ≡ Ok y
    → ((null ≡ true) × (a ≡ y)) ⊎ ((short ≡ false) × (b ≡ y))
column_cases true out short at past a b y e = inl (refl, cc)
column_cases false true short at past a b y e = absurd cc
column_cases false false true at past a b y e = absurd cc
column_cases false false false at past a b y e = inr (refl, cc)

column_taken : (bytes : List ℕ) (x : ColumnRead) → IsBytes bytes → column_at bytes ≡ Ok x → IsTaken FitsColumn column bytes x
unfolding column_at
column_taken bytes x fits e =
    let s = bind_ok (int32_at bytes) (after_length bytes) x e in
    let n = s.0.0 in
    let past = s.0.1 in
    let size = int32_taken bytes s.0 fits s.1 in
    elim (column_cases (eqb n 0xffff_ffff) (ltb 0x7fff_ffff n) (ltb (length past) n) (length bytes) (length past) (None, past)
    (Some (take n past), drop n past) x s.2) [
      | inl null ↦ subst (IsTaken FitsColumn column bytes) null.1
          (subst (λ (k : ℕ). Takes bytes (int32 k) past) (eqb-true _ _ null.0) size.0, tt)
      | inr there ↦
          let long : n ≤ length past = ltb-false _ _ there.0 in
          let len : length (take n past) ≡ n = omega (arith, length-take n past) in
          let value : Takes past (take n past) (drop n past) =
          record { parts = sym (take-append-drop n past); rest_fits = IsBytes-drop n past size.0.rest_fits } in
          let counted : Takes bytes (int32 (length (take n past))) past =
          subst (λ (k : ℕ). Takes bytes (int32 k) past) (sym len) size.0 in
          subst (IsTaken FitsColumn column bytes) there.1 (
            Takes-then _ _ _ _ _ counted value,
            are_bytes (take n past) (IsBytes-take n past size.0.rest_fits),
          )
    ]

pub column_reads : Reads FitsColumn column column_at
column_reads = record { takes = column_taken }

value_read : (n : ℕ) (v rest bytes : List ℕ) → n ≡ length v → n < 2 ^ 31 → after_length bytes (n, v ++ rest) ≡ Ok (Some v, rest)
value_read n v rest bytes len short =
    let not_null : eqb n 0xffff_ffff ≡ false = ne_eqb n 0xffff_ffff (λ same. omega arith) in
    let sized : ltb 0x7fff_ffff n ≡ false = le-ltb 0x7fff_ffff n (omega arith) in
    let there : ltb (length (v ++ rest)) n ≡ false = le-ltb (length (v ++ rest)) n (omega (arith, length-append v rest)) in
    rw (not_null, sized, there, take_at v rest n (sym len), drop_at v rest n (sym len)) refl

column_again : (c : Option (List ℕ)) (rest : List ℕ) → IsSized c → column_at (column c ++ rest) ≡ Ok (c, rest)
unfolding column_at
column_again None rest sized = read_then (int32_at (int32 0xffff_ffff ++ rest)) (after_length (int32 0xffff_ffff ++ rest))
    (0xffff_ffff, rest) (Ok (None, rest)) (int32_at_again 0xffff_ffff rest (omega arith)) refl
column_again (Some v) rest sized =
    let bytes = column (Some v) ++ rest in
    let regrouped : bytes ≡ int32 (length v) ++ (v ++ rest) = append_assoc (int32 (length v)) v rest in
    let size : int32_at bytes ≡ Ok (length v, v ++ rest) = ap int32_at regrouped ∙ int32_at_again (length v) (v ++ rest) (omega arith) in
    read_then (int32_at bytes) (after_length bytes) (length v, v ++ rest) (Ok (Some v, rest)) size
    (value_read (length v) v rest bytes refl sized)

pub column_reads_again : ReadsAgain IsSized column column_at
column_reads_again = record { again = column_again }

-- ---- entries

pub entries_taken : {A : Type 0} {Fits : A → Type 0} {spell : A → List ℕ} {entry : List ℕ → Result (A × List ℕ) ℕ}
    (reads : Reads Fits spell entry) (count : ℕ) (bytes : List ℕ) (x : List A × List ℕ) → IsBytes bytes
    → entries_at entry count bytes ≡ Ok x → Takes bytes (flat_map spell x.0) x.1 × AllByRecursion Fits x.0
unfolding entries_at
entries_taken {A} {Fits} {spell} {entry} reads zero bytes x fits e =
    subst (λ (y : List A × List ℕ). Takes bytes (flat_map spell y.0) y.1 × AllByRecursion Fits y.0) (ok_is ([], bytes) x e)
    (record { parts = refl; rest_fits = fits }, tt)
entries_taken {A} {Fits} {spell} {entry} reads (suc count) bytes x fits e =
    let f = bind_ok (entry bytes) (λ (first : A × List ℕ). entries_at entry count first.1 >>= after_others first.0) x e in
    let o = bind_ok (entries_at entry count f.0.1) (after_others f.0.0) x f.2 in
    let first = reads.takes bytes f.0 fits f.1 in
    let others = entries_taken reads count f.0.1 o.0 first.0.rest_fits o.1 in
    let all = Takes-cons spell bytes f.0.0 f.0.1 o.0.0 o.0.1 first.0 others.0 in
    subst (λ (y : List A × List ℕ). Takes bytes (flat_map spell y.0) y.1 × AllByRecursion Fits y.0) (ok_is (f.0.0 ∷ o.0.0, o.0.1) x o.2)
    (all, (first.1, others.1))

pub entries_again : {A : Type 0} {Fits : A → Type 0} {spell : A → List ℕ} {entry : List ℕ → Result (A × List ℕ) ℕ}
    (reads : ReadsAgain Fits spell entry) (xs : List A) (rest : List ℕ) → AllByRecursion Fits xs
    → entries_at entry (length xs) (flat_map spell xs ++ rest) ≡ Ok (xs, rest)
unfolding entries_at
entries_again reads [] rest fits = refl
entries_again {A} {Fits} {spell} {entry} reads (x ∷ xs) rest fits =
    let past : List ℕ = flat_map spell xs ++ rest in
    let regrouped : flat_map spell (x ∷ xs) ++ rest ≡ spell x ++ past = ap (λ (w : List ℕ). w ++ rest) (flat_map-cons spell x xs)
    ∙ append_assoc (spell x) (flat_map spell xs) rest in
    let others = read_then (entries_at entry (length xs) past) (after_others x) (xs, rest) (Ok (x ∷ xs, rest))
    (entries_again reads xs rest fits.1) refl in
    let first = read_then (entry (spell x ++ past)) (λ (first : A × List ℕ). entries_at entry (length xs) first.1 >>= after_others
    first.0) (x, past) (Ok (x ∷ xs, rest)) (reads.again x past fits.0) others in
    ap (entries_at entry (suc (length xs))) regrouped ∙ first

pub counted_taken : {A : Type 0} {Fits : A → Type 0} {spell : A → List ℕ} {entry : List ℕ → Result (A × List ℕ) ℕ}
    (reads : Reads Fits spell entry) (bytes : List ℕ) (x : List A × List ℕ) → IsBytes bytes
    → counted_at entry bytes ≡ Ok x → Takes bytes (counted spell x.0) x.1 × (length x.0 ≤ LIST_LIMIT) × AllByRecursion Fits x.0
counted_taken {A} {Fits} {spell} {entry} reads bytes x fits e =
    let c = bind_ok (int16_at bytes) (λ (count : ℕ × List ℕ). entries_at entry count.0 count.1) x e in
    let count = int16_taken bytes c.0 fits c.1 in
    let entries = entries_taken reads c.0.0 c.0.1 x count.0.rest_fits c.2 in
    let len = length-entries entry c.0.0 c.0.1 x c.2 in
    let counts : Takes bytes (int16 (length x.0)) c.0.1 = subst (λ (k : ℕ). Takes bytes (int16 k) c.0.1) (sym len) count.0 in
    (Takes-then _ _ _ _ _ counts entries.0, omega (arith, count.1), entries.1)

pub counted_again : {A : Type 0} {Fits : A → Type 0} {spell : A → List ℕ} {entry : List ℕ → Result (A × List ℕ) ℕ}
    (reads : ReadsAgain Fits spell entry) (xs : List A) → length xs ≤ LIST_LIMIT → AllByRecursion Fits xs
    → counted_at entry (counted spell xs) ≡ Ok (xs, [])
counted_again {A} {Fits} {spell} {entry} reads xs few fits =
    let entries = read_last (entries_at entry (length xs)) (flat_map spell xs) (Ok (xs, [])) (entries_again reads xs [] fits) in
    read_then (int16_at (counted spell xs)) (λ (count : ℕ × List ℕ). entries_at entry count.0 count.1) (length xs, flat_map spell xs)
    (Ok (xs, [])) (int16_at_again (length xs) (flat_map spell xs) (omega arith)) entries

-- ---- codes with strings, up to a zero byte

abbrev IsCodedTaken : List ℕ → List ErrorField × List ℕ → Type 0
IsCodedTaken bytes x = Takes bytes (ended error_field x.0) x.1 × AllByRecursion FitsErrorField x.0

pub coded_taken : (turns : ℕ) (bytes : List ℕ) (x : List ErrorField × List ℕ) → IsBytes bytes → coded_at turns bytes ≡ Ok x
    → Takes bytes (ended error_field x.0) x.1 × AllByRecursion FitsErrorField x.0
unfolding coded_at
coded_taken zero bytes x fits e = absurd cc
coded_taken (suc turns) [] x fits e = absurd cc
coded_taken (suc turns) (zero ∷ bytes) x fits e = subst (IsCodedTaken (0 ∷ bytes)) (ok_is ([], bytes) x e)
    (record { parts = refl; rest_fits = IsBytes-rest 0 bytes fits }, tt)
coded_taken (suc turns) (suc code ∷ bytes) x fits e =
    let t = bind_ok (string_at bytes) (after_text turns (suc code)) x e in
    let o = bind_ok (coded_at turns t.0.1) (after_coded (suc code) t.0.0) x t.2 in
    let text = string_taken bytes t.0 (IsBytes-rest (suc code) bytes fits) t.1 in
    let others = coded_taken turns t.0.1 o.0 text.0.rest_fits o.1 in
    let f : ErrorField = record { code = suc code; text = t.0.0 } in
    let first : Takes (suc code ∷ bytes) (error_field f) t.0.1 =
    record { parts = ap (λ (w : List ℕ). suc code ∷ w) text.0.parts; rest_fits = text.0.rest_fits } in
    let all = Takes-ended error_field (suc code ∷ bytes) f t.0.1 o.0.0 o.0.1 first others.0 in
    subst (IsCodedTaken (suc code ∷ bytes)) (ok_is (f ∷ o.0.0, o.0.1) x o.2)
    (all, (record { coded = omega arith; code = fits 0; text = text.1 }, others.1))

-- each code takes a turn, and the zero byte one
pub coded_again : (turns : ℕ) (fs : List ErrorField) (rest : List ℕ) → length fs < turns → AllByRecursion FitsErrorField fs
    → coded_at turns (ended error_field fs ++ rest) ≡ Ok (fs, rest)
unfolding coded_at
coded_again zero fs rest enough fits = absurd (omega arith)
coded_again (suc turns) [] rest enough fits = refl
coded_again (suc turns) (f ∷ fs) rest enough fits =
    let past : List ℕ = ended error_field fs ++ rest in
    let text : List ℕ = string f.text ++ past in
    let regrouped : ended error_field (f ∷ fs) ++ rest ≡ f.code ∷ text = ap (λ (w : List ℕ). w ++ rest) (ended-cons error_field f fs)
    ∙ append_assoc (error_field f) (ended error_field fs) rest in
    let others = read_then (coded_at turns past) (after_coded f.code f.text) (fs, rest) (Ok (f ∷ fs, rest))
    (coded_again turns fs rest (omega arith) fits.1) refl in
    let first = read_then (string_at text) (after_text turns f.code) (f.text, past) (Ok (f ∷ fs, rest))
    (string_again f.text past fits.0.text) others in
    ap (coded_at (suc turns)) regrouped ∙ coded_at_code turns f.code text fits.0.coded ∙ first

-- a list of codes is no longer than their spelling
pub length-coded : (fs : List ErrorField) → length fs ≤ length (flat_map error_field fs)
length-coded [] = omega arith
length-coded (f ∷ fs) =
    let e = ap length (flat_map-cons error_field f fs) in
    omega (arith, e, length-append (error_field f) (flat_map error_field fs), length-coded fs)
