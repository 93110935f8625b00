-- Where the server's messages are refused.
use Rattle.std.proofs.Common.{◌≡◌, ◌≢◌, ℕ, ◌^◌, ◌<◌, ◌≤◌, Bool, true, false, cond, eqb, List, [], ◌∷◌, ◌++◌, length, map, Option, Some, None, Result, Ok, Err, refl, sym, ap, subst, ◌∙◌, arith, ◌⊎◌, inl, inr}
use Rattle.std.specs.List.{AllByRecursion, flat_map}
use Rattle.std.proofs.lemmas.Bool.{eqb-true, eqb-false}
use Rattle.std.proofs.lemmas.List.{length-append, append-nil}
use Rattle.std.proofs.lemmas.List.Concat.{flat_map_single}
use Rattle.std.proofs.lemmas.List.Elements.{All-nil}
use Rattle.repl_text.specs.Text.{IsText}
use Rattle.repl_message.specs.declared.back.TransactionStatus.{TransactionStatus}
use Rattle.repl_message.specs.declared.back.TransactionStatus.TheVariants.{Idle, Open, Failed}
use Rattle.repl_message.specs.declared.back.Field.{Field}
use Rattle.repl_message.specs.declared.back.ErrorField.{ErrorField}
use Rattle.repl_message.specs.declared.back.Back.{Back}
use Rattle.repl_message.specs.declared.back.Back.TheVariants as back
use Rattle.repl_message.specs.declared.message.Phase.TheVariants as phase
use Rattle.repl_message.specs.declared.message.Message.{Message}
use Rattle.repl_message.specs.declared.message.Message.TheVariants as message
use Rattle.repl_message.specs.declared.message.TheConstants.{MESSAGE_LIMIT, COPY_DATA_LIMIT}
use Rattle.repl_message.specs.Message.{int16, int32, string, column, field, error_field, status_byte, framed, back_kind, back_body, back_limit, back_spelling, FitsField, FitsErrorField, IsBack, Spells}
use Rattle.repl_message.specs.Decoding.{◌>>=◌, string_at, whole}
use Rattle.repl_message.proofs.FieldLaws.{IsBytes, IsBytes-rest}
use Rattle.repl_message.proofs.Spellings.{int32_one}
use Rattle.repl_wire.specs.declared.fault.WireFault.{WireFault}
use Rattle.repl_wire.specs.declared.fault.WireFault.TheVariants as fault
use Rattle.repl_wire.specs.declared.taking.Taken.{Taken}
use Rattle.repl_wire.specs.declared.taking.Taken.TheVariants as taken
use Rattle.repl_wire.specs.Judging.{int16_at, int32_at, counted_at, made, text_of, nothing_of, authentication_of, setting_of, key_of, status_of, description_of, data_row_of, tag_of, error_of, notice_of, copy_done_of, copy_both_of, Row, judge_row, judge_back}
use Rattle.repl_wire.specs.Places.{description_fields, coded_fields, column_fields, back_fields, LeavesAt, IsOfBackKind, IsFault}
use Rattle.repl_wire.proofs.Leaving.{Language, IsBody, Leaves, leaves_here, leaves_past, leaves_as, leaves_at, Nothing, bind_err, leaves_end, IsParted, HasSome, some_parted, leaves_then, leaves_last}
use Rattle.repl_wire.proofs.FieldParts.{field_part, text_field, int16_field, int32_field, int32_left, byte_field}
use Rattle.repl_wire.proofs.ColumnParts.{FitsValue, values_parts, values_from, column_part}
use Rattle.repl_wire.proofs.ListParts.{IsListed, counted_fields, counted_part}
use Rattle.repl_wire.proofs.EndedParts.{ended_fields, coded_part}
use Rattle.repl_wire.proofs.DescriptionParts.{description_part}
use Rattle.repl_wire.proofs.PlainBodies.{choice, OneText, text_leaves, text_is, nothing_leaves}
use Rattle.repl_wire.proofs.MessagePlaces.{AreNone, left_short, IsTyped, LeavesWithin, message_fault}

-- what is spelled in this phase is a message of the server
back_spelled : (m : Message) (bytes : List ℕ) → Spells phase.Back m bytes → (n : Back) × IsBack n × (bytes ≡ back_spelling n)
back_spelled (message.Startup m) bytes s = absurd s.belongs
back_spelled (message.Front m) bytes s = absurd s.belongs
back_spelled (message.Back m) bytes s = (m, s.belongs, s.spelled)

-- every message of this type byte has so many bytes at least, and this limit
abbrev AreLong : ℕ → ℕ → ℕ → Type 0
AreLong kind least limit = (m : Back) → back_kind m ≡ kind → (least ≤ length (back_body m)) × (back_limit m ≡ limit)

typed : (kind least limit : ℕ) → limit < 0xffff_ffff → AreLong kind least limit → (m : Back) → IsBack m → back_kind m ≡ kind
    → IsTyped phase.Back kind least limit
typed kind least limit below long m is kind_is = record {
  one_byte = refl;
  below = below;
  some = (
    framed (back_body m),
    (
      message.Back m,
      record {
        belongs = is;
        spelled = ap (λ (k : ℕ). k ∷ framed (back_body m)) (sym kind_is);
      },
    ),
  );
  spells = λ more s.
      let t = back_spelled s.0 (kind ∷ more) s.1 in
      let spelled = t.2 in
      let same : back_kind t.0 ≡ kind = cc in
      let framed_is : more ≡ framed (back_body t.0) = cc in
      let l = long t.0 same in
      (back_body t.0, framed_is, l.0, omega (arith, t.1.within, l.1));
}

-- what a row of the server's messages says
record IsRow (kind least limit : ℕ) (read : List ℕ → Result Back ℕ) : Type 0 where
  below : limit < 0xffff_ffff
  long : AreLong kind least limit
  some : Back
  is : IsBack some
  kind_is : back_kind some ≡ kind
  leaves : (body : List ℕ) (left : ℕ) → IsBody body → read body ≡ Err left → LeavesAt (IsOfBackKind kind) back_fields body left

abbrev no_text : IsText []
no_text = All-nil (λ (b : ℕ). (0 < b) × (b < 256))

-- ---- AuthenticationOk

abbrev Single : List ℕ → Language
Single x fs = fs ≡ x ∷ []

past_single : (x body rest : List ℕ) (left : ℕ) → body ≡ x ++ rest → Leaves Nothing rest left → Leaves (Single x) body left
past_single x body rest left parts l = leaves_past (Single x) x body rest left parts
    (leaves_as Nothing (λ fs. Single x (x ∷ fs)) rest left (λ fs n. ap (λ (t : List (List ℕ)). x ∷ t) n) (λ fs n. cc) l)

here_single : (x body : List ℕ) (left : ℕ) → length body ≡ left → ((past : List ℕ) → body ≢ x ++ past) → Leaves (Single x) body left
here_single x body left size none =
    leaves_here (Single x) body left size (x ∷ [], refl) (λ f more past s b. let same : f ≡ x = cc in
    none past (b ∙ ap (λ (t : List ℕ). t ++ past) same)) (λ s. absurd cc)

abbrev past_code : List ℕ → ℕ × List ℕ → Result Back ℕ
past_code body code = cond (eqb code.0 0) (whole (back.AuthenticationOk, code.1)) (Err (length body))

err_is : {A : Type 0} (r : Result A ℕ) (n left : ℕ) → r ≡ Err n → r ≡ Err left → n ≡ left
err_is r n left e f = let same = sym e ∙ f in cc

authentication_leaves : (body : List ℕ) (left : ℕ) → IsBody body → authentication_of body ≡ Err left → Leaves (Single (int32 0)) body left
unfolding authentication_of
authentication_leaves body left is e =
    elim (bind_err (int32_at body) (past_code body) left e) [
      | inl none ↦
          let r = int32_left body left none in
          here_single (int32 0) body left r.1 (λ past b. omega (arith, r.0, ap length b))
      | inr a ↦
          let code = int32_field.takes body a.0.0 a.0.1 is a.1 in
          elim (choice (eqb a.0.0 0) (whole (back.AuthenticationOk, a.0.1)) (Err (length body)) (Err left) a.2) [
            | inl ok ↦ past_single (int32 0) body a.0.1 left (code.0 ∙ ap (λ (n : ℕ). int32 n ++ a.0.1) (eqb-true _ _ ok.0))
                (leaves_end back.AuthenticationOk a.0.1 left ok.1)
            | inr other ↦
                let size : length body ≡ left = (let o = other.1 in cc) in
                here_single (int32 0) body left size (λ past b. eqb-false _ _ other.0
                (int32_field_one a.0.0 a.0.1 past code.2 (sym code.0 ∙ b)))
          ]
    ]
  where
    int32_field_one : (n : ℕ) (rest past : List ℕ) → n < 2 ^ 32 → int32 n ++ rest ≡ int32 0 ++ past → n ≡ 0
    int32_field_one n rest past below e = (int32_one.one n 0 rest past below (omega arith) e).0

authentication_long : AreLong 82 4 MESSAGE_LIMIT
authentication_long back.AuthenticationOk e = (omega arith, refl)
authentication_long _ e = absurd (omega (arith, e))

authentication_from : (m : Back) → IsOfBackKind 82 m → Single (int32 0) (back_fields m)
authentication_from back.AuthenticationOk is = refl
authentication_from _ is = absurd (omega (arith, is.kind_is))

authentication_row : IsRow 82 4 MESSAGE_LIMIT authentication_of
authentication_row = record {
  below = omega arith;
  long = authentication_long;
  some = back.AuthenticationOk;
  is = record { fits = tt; within = omega arith };
  kind_is = refl;
  leaves = λ body left is e. leaves_at (IsOfBackKind 82) back_fields (Single (int32 0)) body left
      (λ fs s. (back.AuthenticationOk, record { fits = tt; sized = tt; kind_is = refl }, sym s)) authentication_from
      (authentication_leaves body left is e);
}

-- ---- ParameterStatus

abbrev TwoTexts : Language
TwoTexts = IsParted IsText (λ t. string t ∷ []) (λ t. OneText)

one_text : HasSome OneText
one_text = some_parted (λ t. string t ∷ []) (λ t. Nothing) [] no_text ([], refl)

abbrev past_name : List ℕ × List ℕ → Result Back ℕ
past_name name = string_at name.1 >>= λ value. whole (back.ParameterStatus name.0 value.0, value.1)

setting_leaves : (body : List ℕ) (left : ℕ) → IsBody body → setting_of body ≡ Err left → Leaves TwoTexts body left
unfolding setting_of
setting_leaves body left is e =
    leaves_then (field_part text_field) (λ t. OneText) (λ t fits. one_text) past_name body left is
    (λ name rest fits body parts failed. leaves_last (field_part text_field) (λ (value : List ℕ). back.ParameterStatus name value) rest
    left body failed) e

setting_long : AreLong 83 2 MESSAGE_LIMIT
setting_long (back.ParameterStatus name value) e = (
  omega (
    arith,
    length-append (string name) (string value),
    length-append name (0 ∷ []),
    length-append value (0 ∷ []),
  ),
  refl,
)
setting_long _ e = absurd (omega (arith, e))

setting_to : (fs : List (List ℕ)) → TwoTexts fs → (m : Back) × IsOfBackKind 83 m × (back_fields m ≡ fs)
setting_to fs p = (
  back.ParameterStatus p.value p.past.value,
  record { fits = (p.fits, p.past.fits); sized = tt; kind_is = refl },
  ap (λ (t : List (List ℕ)). string p.value ∷ t) (text_is p.more p.past.more p.past.value p.past.parts p.past.past)
      ∙ sym p.parts,
)

setting_from : (m : Back) → IsOfBackKind 83 m → TwoTexts (back_fields m)
setting_from (back.ParameterStatus name value) is = record {
  value = name;
  fits = is.fits.0;
  more = string value ∷ [];
  parts = refl;
  past = record { value = value; fits = is.fits.1; more = []; parts = refl; past = refl };
}
setting_from _ is = absurd (omega (arith, is.kind_is))

setting_row : IsRow 83 2 MESSAGE_LIMIT setting_of
setting_row = record {
  below = omega arith;
  long = setting_long;
  some = back.ParameterStatus [] [];
  is = record { fits = (no_text, no_text); within = omega arith };
  kind_is = refl;
  leaves = λ body left is e. leaves_at (IsOfBackKind 83) back_fields TwoTexts body left setting_to setting_from
      (setting_leaves body left is e);
}

-- ---- BackendKeyData

abbrev OneNumber : Language
OneNumber = IsParted (λ n. n < 2 ^ 32) (λ n. int32 n ∷ []) (λ n. Nothing)

abbrev TwoNumbers : Language
TwoNumbers = IsParted (λ n. n < 2 ^ 32) (λ n. int32 n ∷ []) (λ n. OneNumber)

abbrev past_pid : ℕ × List ℕ → Result Back ℕ
past_pid pid = int32_at pid.1 >>= λ key. whole (back.BackendKeyData pid.0 key.0, key.1)

key_leaves : (body : List ℕ) (left : ℕ) → IsBody body → key_of body ≡ Err left → Leaves TwoNumbers body left
unfolding key_of
key_leaves body left is e =
    leaves_then (field_part int32_field) (λ n. OneNumber) (λ n fits. some_parted (λ k. int32 k ∷ []) (λ k. Nothing) 0 (omega arith)
    ([], refl)) past_pid body left is
    (λ pid rest fits body parts failed. leaves_last (field_part int32_field) (λ (key : ℕ). back.BackendKeyData pid key) rest left body
    failed) e

key_long : AreLong 75 8 MESSAGE_LIMIT
key_long (back.BackendKeyData pid key) e = (omega arith, refl)
key_long _ e = absurd (omega (arith, e))

number_is : (fs more : List (List ℕ)) (n : ℕ) → fs ≡ (int32 n ∷ []) ++ more → more ≡ [] → int32 n ∷ [] ≡ fs
number_is fs more n e nothing = sym (e ∙ ap (λ (t : List (List ℕ)). int32 n ∷ t) nothing)

key_to : (fs : List (List ℕ)) → TwoNumbers fs → (m : Back) × IsOfBackKind 75 m × (back_fields m ≡ fs)
key_to fs p = (
  back.BackendKeyData p.value p.past.value,
  record { fits = (p.fits, p.past.fits); sized = tt; kind_is = refl },
  ap (λ (t : List (List ℕ)). int32 p.value ∷ t) (number_is p.more p.past.more p.past.value p.past.parts p.past.past)
      ∙ sym p.parts,
)

key_from : (m : Back) → IsOfBackKind 75 m → TwoNumbers (back_fields m)
key_from (back.BackendKeyData pid key) is = record {
  value = pid;
  fits = is.fits.0;
  more = int32 key ∷ [];
  parts = refl;
  past = record { value = key; fits = is.fits.1; more = []; parts = refl; past = refl };
}
key_from _ is = absurd (omega (arith, is.kind_is))

key_row : IsRow 75 8 MESSAGE_LIMIT key_of
key_row = record {
  below = omega arith;
  long = key_long;
  some = back.BackendKeyData 0 0;
  is = record { fits = (omega arith, omega arith); within = omega arith };
  kind_is = refl;
  leaves = λ body left is e. leaves_at (IsOfBackKind 75) back_fields TwoNumbers body left key_to key_from (key_leaves body left is e);
}

-- ---- ReadyForQuery

abbrev Status : Language
Status fs = (s : TransactionStatus) × (fs ≡ (status_byte s ∷ []) ∷ [])

status_here : (body : List ℕ) (left : ℕ) → length body ≡ left → ((s : TransactionStatus) (past : List ℕ) → body ≢ status_byte s ∷ past)
    → Leaves Status body left
status_here body left size none =
    leaves_here Status body left size ((73 ∷ []) ∷ [], (Idle, refl))
    (λ f more past s b. let e = s.1 in let same : f ≡ status_byte s.0 ∷ [] = cc in
    none s.0 past (b ∙ ap (λ (t : List ℕ). t ++ past) same)) (λ s. absurd (let e = s.1 in cc))

-- after a status that was read stands nothing
status_past : (b : ℕ) (rest : List ℕ) (left : ℕ) (s : TransactionStatus) → b ≡ status_byte s → whole (back.ReadyForQuery s, rest)
    ≡ Err left → Leaves Status (b ∷ rest) left
status_past b rest left s is e =
    leaves_past Status (b ∷ []) (b ∷ rest) rest left refl
    (leaves_as Nothing (λ fs. Status ((b ∷ []) ∷ fs)) rest left (λ fs n. (s, cc)) (λ fs t. let e = t.1 in cc)
    (leaves_end (back.ReadyForQuery s) rest left e))

no_status : (b : ℕ) (rest : List ℕ) → b ≢ 73 → b ≢ 84 → b ≢ 69 → (s : TransactionStatus) (past : List ℕ)
    → b ∷ rest ≢ status_byte s ∷ past
no_status b rest i o f Idle past e = i (cc)
no_status b rest i o f Open past e = o (cc)
no_status b rest i o f Failed past e = f (cc)

status_leaves : (body : List ℕ) (left : ℕ) → status_of body ≡ Err left → Leaves Status body left
unfolding status_of
status_leaves [] left e = status_here [] left (cc) (λ s past b. absurd cc)
status_leaves (b ∷ rest) left e =
    elim (choice (eqb b 73) (whole (back.ReadyForQuery Idle, rest)) _ (Err left) e) [
      | inl i ↦ status_past b rest left Idle (eqb-true _ _ i.0) i.1
      | inr e1 ↦ elim (choice (eqb b 84) (whole (back.ReadyForQuery Open, rest)) _ (Err left) e1.1) [
        | inl o ↦ status_past b rest left Open (eqb-true _ _ o.0) o.1
        | inr e2 ↦ elim (choice (eqb b 69) (whole (back.ReadyForQuery Failed, rest)) _ (Err left) e2.1) [
          | inl f ↦ status_past b rest left Failed (eqb-true _ _ f.0) f.1
          | inr e3 ↦ status_here (b ∷ rest) left (let n = e3.1 in cc)
              (no_status b rest (eqb-false _ _ e1.0) (eqb-false _ _ e2.0) (eqb-false _ _ e3.0))
        ]
      ]
    ]

status_long : AreLong 90 1 MESSAGE_LIMIT
status_long (back.ReadyForQuery s) e = (omega arith, refl)
status_long _ e = absurd (omega (arith, e))

status_from : (m : Back) → IsOfBackKind 90 m → Status (back_fields m)
status_from (back.ReadyForQuery s) is = (s, refl)
status_from _ is = absurd (omega (arith, is.kind_is))

status_row : IsRow 90 1 MESSAGE_LIMIT status_of
status_row = record {
  below = omega arith;
  long = status_long;
  some = back.ReadyForQuery Idle;
  is = record { fits = tt; within = omega arith };
  kind_is = refl;
  leaves = λ body left is e. leaves_at (IsOfBackKind 90) back_fields Status body left
      (λ fs s. (back.ReadyForQuery s.0, record { fits = tt; sized = tt; kind_is = refl }, sym s.1)) status_from (status_leaves body left e);
}

-- ---- lists that their length counts

-- such a list, and nothing after it
abbrev Listed : {A : Type 0} → (A → Type 0) → (A → List (List ℕ)) → Language
Listed Fits fields = IsParted (IsListed Fits) (counted_fields fields) (λ xs. Nothing)

all_of : (fs fields more : List (List ℕ)) → fs ≡ fields ++ more → more ≡ [] → fields ≡ fs
all_of fs fields more e nothing = sym (e ∙ ap (λ (t : List (List ℕ)). fields ++ t) nothing ∙ append-nil fields)

listed_from : {A : Type 0} (Fits : A → Type 0) (fields : A → List (List ℕ)) (xs : List A) → IsListed Fits xs
    → Listed Fits fields (counted_fields fields xs)
listed_from Fits fields xs are = record {
  value = xs;
  fits = are;
  more = [];
  parts = sym (append-nil (counted_fields fields xs));
  past = refl;
}

-- ---- RowDescription

abbrev Descriptions : Language
Descriptions = Listed FitsField description_fields

description_leaves : (body : List ℕ) (left : ℕ) → IsBody body → description_of body ≡ Err left → Leaves Descriptions body left
unfolding description_of
description_leaves body left is e = leaves_last (counted_part description_part) (λ (fields : List Field). back.RowDescription fields) body
    left is e

description_long : AreLong 84 2 MESSAGE_LIMIT
description_long (back.RowDescription fields) e = (omega (arith, length-append (int16 (length fields)) (flat_map field fields)), refl)
description_long _ e = absurd (omega (arith, e))

description_from : (m : Back) → IsOfBackKind 84 m → Descriptions (back_fields m)
description_from (back.RowDescription fields) is = listed_from FitsField description_fields fields
    (record { few = is.fits.0; each = is.fits.1 })
description_from _ is = absurd (omega (arith, is.kind_is))

description_row : IsRow 84 2 MESSAGE_LIMIT description_of
description_row = record {
  below = omega arith;
  long = description_long;
  some = back.RowDescription [];
  is = record { fits = (omega arith, tt); within = omega arith };
  kind_is = refl;
  leaves = λ body left is e. leaves_at (IsOfBackKind 84) back_fields Descriptions body left
      (λ fs p. (
        back.RowDescription p.value,
        record { fits = (p.fits.few, p.fits.each); sized = tt; kind_is = refl },
        all_of fs (counted_fields description_fields p.value) p.more p.parts p.past,
      )) description_from
      (description_leaves body left is e);
}

-- ---- DataRow

abbrev Columns : Language
Columns = Listed FitsValue column_fields

data_row_leaves : (body : List ℕ) (left : ℕ) → IsBody body → data_row_of body ≡ Err left → Leaves Columns body left
unfolding data_row_of
data_row_leaves body left is e = leaves_last (counted_part column_part)
    (λ (columns : List (Option (List ℕ))). back.DataRow columns) body left is e

data_row_long : AreLong 68 2 MESSAGE_LIMIT
data_row_long (back.DataRow columns) e = (omega (arith, length-append (int16 (length columns)) (flat_map column columns)), refl)
data_row_long _ e = absurd (omega (arith, e))

data_row_from : (m : Back) → IsOfBackKind 68 m → Columns (back_fields m)
data_row_from (back.DataRow columns) is = listed_from FitsValue column_fields columns
    (record { few = is.fits.0; each = values_from columns is.fits.1 is.sized })
data_row_from _ is = absurd (omega (arith, is.kind_is))

data_row_row : IsRow 68 2 MESSAGE_LIMIT data_row_of
data_row_row = record {
  below = omega arith;
  long = data_row_long;
  some = back.DataRow [];
  is = record { fits = (omega arith, tt); within = omega arith };
  kind_is = refl;
  leaves = λ body left is e. leaves_at (IsOfBackKind 68) back_fields Columns body left
      (λ fs p. (
        back.DataRow p.value,
        record {
          fits = (p.fits.few, (values_parts p.value p.fits.each).0);
          sized = (values_parts p.value p.fits.each).1;
          kind_is = refl;
        },
        all_of fs (counted_fields column_fields p.value) p.more p.parts p.past,
      )) data_row_from
      (data_row_leaves body left is e);
}

-- ---- CommandComplete

made_failed : {A B : Type 0} (make : A → B) (r : Result A ℕ) (left : ℕ) → made make r ≡ Err left → r ≡ Err left
made_failed make (Ok x) left e = absurd cc
made_failed make (Err n) left e = cc

tag_leaves : (body : List ℕ) (left : ℕ) → IsBody body → tag_of body ≡ Err left → Leaves OneText body left
unfolding tag_of
tag_leaves body left is e = text_leaves body left is (made_failed (λ text. back.CommandComplete text) (text_of body) left e)

tag_long : AreLong 67 1 MESSAGE_LIMIT
tag_long (back.CommandComplete tag) e = (omega (arith, length-append tag (0 ∷ [])), refl)
tag_long _ e = absurd (omega (arith, e))

tag_from : (m : Back) → IsOfBackKind 67 m → OneText (back_fields m)
tag_from (back.CommandComplete tag) is = record { value = tag; fits = is.fits; more = []; parts = refl; past = refl }
tag_from _ is = absurd (omega (arith, is.kind_is))

tag_row : IsRow 67 1 MESSAGE_LIMIT tag_of
tag_row = record {
  below = omega arith;
  long = tag_long;
  some = back.CommandComplete [];
  is = record { fits = no_text; within = omega arith };
  kind_is = refl;
  leaves = λ body left is e. leaves_at (IsOfBackKind 67) back_fields OneText body left
      (λ fs p. (back.CommandComplete p.value, record { fits = p.fits; sized = tt; kind_is = refl }, text_is fs p.more p.value p.parts p.past))
      tag_from (tag_leaves body left is e);
}

-- ---- ErrorResponse and NoticeResponse

abbrev Codes : Language
Codes = IsParted (AllByRecursion FitsErrorField) (ended_fields coded_fields) (λ xs. Nothing)

codes_from : (xs : List ErrorField) → AllByRecursion FitsErrorField xs → Codes (ended_fields coded_fields xs)
codes_from xs are = record { value = xs; fits = are; more = []; parts = sym (append-nil (ended_fields coded_fields xs)); past = refl }

error_leaves : (body : List ℕ) (left : ℕ) → IsBody body → error_of body ≡ Err left → Leaves Codes body left
unfolding error_of
error_leaves body left is e = leaves_last coded_part (λ (fields : List ErrorField). back.ErrorResponse fields) body left is e

notice_leaves : (body : List ℕ) (left : ℕ) → IsBody body → notice_of body ≡ Err left → Leaves Codes body left
unfolding notice_of
notice_leaves body left is e = leaves_last coded_part (λ (fields : List ErrorField). back.NoticeResponse fields) body left is e

error_long : AreLong 69 1 MESSAGE_LIMIT
error_long (back.ErrorResponse fields) e = (omega (arith, length-append (flat_map error_field fields) (0 ∷ [])), refl)
error_long _ e = absurd (omega (arith, e))

notice_long : AreLong 78 1 MESSAGE_LIMIT
notice_long (back.NoticeResponse fields) e = (omega (arith, length-append (flat_map error_field fields) (0 ∷ [])), refl)
notice_long _ e = absurd (omega (arith, e))

error_from : (m : Back) → IsOfBackKind 69 m → Codes (back_fields m)
error_from (back.ErrorResponse fields) is = codes_from fields is.fits
error_from _ is = absurd (omega (arith, is.kind_is))

notice_from : (m : Back) → IsOfBackKind 78 m → Codes (back_fields m)
notice_from (back.NoticeResponse fields) is = codes_from fields is.fits
notice_from _ is = absurd (omega (arith, is.kind_is))

error_row : IsRow 69 1 MESSAGE_LIMIT error_of
error_row = record {
  below = omega arith;
  long = error_long;
  some = back.ErrorResponse [];
  is = record { fits = tt; within = omega arith };
  kind_is = refl;
  leaves = λ body left is e. leaves_at (IsOfBackKind 69) back_fields Codes body left
      (λ fs p. (
        back.ErrorResponse p.value,
        record { fits = p.fits; sized = tt; kind_is = refl },
        all_of fs (ended_fields coded_fields p.value) p.more p.parts p.past,
      )) error_from (error_leaves body left is e);
}

notice_row : IsRow 78 1 MESSAGE_LIMIT notice_of
notice_row = record {
  below = omega arith;
  long = notice_long;
  some = back.NoticeResponse [];
  is = record { fits = tt; within = omega arith };
  kind_is = refl;
  leaves = λ body left is e. leaves_at (IsOfBackKind 78) back_fields Codes body left
      (λ fs p. (
        back.NoticeResponse p.value,
        record { fits = p.fits; sized = tt; kind_is = refl },
        all_of fs (ended_fields coded_fields p.value) p.more p.parts p.past,
      )) notice_from (notice_leaves body left is e);
}

-- ---- CopyData and CopyDone

data_long : AreLong 100 0 COPY_DATA_LIMIT
data_long (back.CopyData bytes) e = (omega arith, refl)
data_long _ e = absurd (omega (arith, e))

data_row : IsRow 100 0 COPY_DATA_LIMIT (λ body. Ok (back.CopyData body))
data_row = record {
  below = omega arith;
  long = data_long;
  some = back.CopyData [];
  is = record { fits = tt; within = omega arith };
  kind_is = refl;
  leaves = λ body left is e. absurd cc;
}

done_leaves : (body : List ℕ) (left : ℕ) → copy_done_of body ≡ Err left → Leaves Nothing body left
unfolding copy_done_of
done_leaves body left e = nothing_leaves body left (made_failed (λ u. back.CopyDone) (nothing_of body) left e)

done_long : AreLong 99 0 MESSAGE_LIMIT
done_long back.CopyDone e = (omega arith, refl)
done_long _ e = absurd (omega (arith, e))

done_from : (m : Back) → IsOfBackKind 99 m → Nothing (back_fields m)
done_from back.CopyDone is = refl
done_from _ is = absurd (omega (arith, is.kind_is))

done_row : IsRow 99 0 MESSAGE_LIMIT copy_done_of
done_row = record {
  below = omega arith;
  long = done_long;
  some = back.CopyDone;
  is = record { fits = tt; within = omega arith };
  kind_is = refl;
  leaves = λ body left is e. leaves_at (IsOfBackKind 99) back_fields Nothing body left
      (λ fs n. (back.CopyDone, record { fits = tt; sized = tt; kind_is = refl }, sym n)) done_from (done_leaves body left e);
}

-- ---- CopyBothResponse

abbrev Formats : Language
Formats = Listed (λ n. n < 2 ^ 16) (λ n. int16 n ∷ [])

abbrev FormatThen : Language
FormatThen = IsParted (λ b. b < 256) (λ b. (b ∷ []) ∷ []) (λ b. Formats)

abbrev past_format : ℕ × List ℕ → Result Back ℕ
past_format format = counted_at int16_at format.1 >>= λ formats. whole (back.CopyBoth format.0 formats.0, formats.1)

formats_fields : (formats : List ℕ) → counted_fields (λ n. int16 n ∷ []) formats ≡ int16 (length formats) ∷ map int16 formats
formats_fields formats = ap (λ (t : List (List ℕ)). int16 (length formats) ∷ t) (flat_map_single int16 formats)

some_formats : HasSome Formats
some_formats = some_parted (counted_fields (λ n. int16 n ∷ [])) (λ xs. Nothing) [] (record { few = omega arith; each = tt }) ([], refl)

both_leaves : (body : List ℕ) (left : ℕ) → IsBody body → copy_both_of body ≡ Err left → Leaves FormatThen body left
unfolding copy_both_of
both_leaves body left is e =
    leaves_then (field_part byte_field) (λ b. Formats) (λ b fits. some_formats) past_format body left is
    (λ format rest fits body parts failed. leaves_last (counted_part (field_part int16_field))
    (λ (formats : List ℕ). back.CopyBoth format formats) rest left body failed) e

both_long : AreLong 87 3 MESSAGE_LIMIT
both_long (back.CopyBoth format formats) e = (omega (arith, length-append (int16 (length formats)) (flat_map int16 formats)), refl)
both_long _ e = absurd (omega (arith, e))

both_to : (fs : List (List ℕ)) → FormatThen fs → (m : Back) × IsOfBackKind 87 m × (back_fields m ≡ fs)
both_to fs p = (
  back.CopyBoth p.value p.past.value,
  record { fits = (p.fits, p.past.fits.few, p.past.fits.each); sized = tt; kind_is = refl },
  ap (λ (t : List (List ℕ)). (p.value ∷ []) ∷ t) (sym (formats_fields p.past.value)
      ∙ all_of p.more (counted_fields (λ n. int16 n ∷ []) p.past.value) p.past.more p.past.parts p.past.past) ∙ sym p.parts,
)

both_from : (m : Back) → IsOfBackKind 87 m → FormatThen (back_fields m)
both_from (back.CopyBoth format formats) is = record {
  value = format;
  fits = is.fits.0;
  more = int16 (length formats) ∷ map int16 formats;
  parts = refl;
  past = subst Formats (formats_fields formats) (listed_from (λ n. n < 2 ^ 16) (λ n. int16 n ∷ []) formats
      (record { few = is.fits.1; each = is.fits.2 }));
}
both_from _ is = absurd (omega (arith, is.kind_is))

both_row : IsRow 87 3 MESSAGE_LIMIT copy_both_of
both_row = record {
  below = omega arith;
  long = both_long;
  some = back.CopyBoth 0 [];
  is = record { fits = (omega arith, omega arith, tt); within = omega arith };
  kind_is = refl;
  leaves = λ body left is e. leaves_at (IsOfBackKind 87) back_fields FormatThen body left both_to both_from (both_leaves body left is e);
}

-- ---- type bytes

-- no message has another type byte
abbrev IsNoKind : ℕ → Type 0
IsNoKind kind = (m : Back) → back_kind m ≢ kind

kind_fault : (kind : ℕ) (bytes : List ℕ) (f : WireFault) → judge_row None bytes ≡ taken.Wrong f → IsNoKind kind
    → IsFault phase.Back (kind ∷ bytes) f
kind_fault kind bytes f e none =
    let same : fault.Kind 0 ≡ f = cc in
    subst (IsFault phase.Back (kind ∷ bytes)) same (
      refl,
      omega arith,
      λ b.
          let t = back_spelled b.1.0 (kind ∷ b.0) b.1.1 in
          let spelled = t.2 in
          none t.0 (cc),
    )

-- the row of a type byte
row_fault : {known least limit : ℕ} {read : List ℕ → Result Back ℕ} (r : IsRow known least limit read) (kind : ℕ) (bytes : List ℕ)
    (f : WireFault) → IsBytes bytes → AreNone phase.Back (kind ∷ bytes) → kind ≡ known
    → judge_row (Some (record { least = least; limit = limit; read = read })) bytes ≡ taken.Wrong f → IsFault phase.Back (kind ∷ bytes) f
row_fault {known} {least} {limit} {read} r kind bytes f fits none same e =
    let at_known : AreNone phase.Back (known ∷ bytes) = subst (λ (k : ℕ). AreNone phase.Back (k ∷ bytes)) same none in
    let leaves : (body : List ℕ) (left : ℕ) → IsBody body → read body ≡ Err left
    → LeavesWithin phase.Back known body left = λ body left is failed.
    let l = r.leaves body left is failed in (l, left_short l)
    in
    subst (λ (k : ℕ). IsFault phase.Back (k ∷ bytes) f) (sym same)
    (message_fault (typed known least limit r.below r.long r.some r.is r.kind_is) (λ m. message.Back m) read leaves bytes f fits at_known e)

-- which row it is
rows : (b : Bool) (x other : Option Row) (bytes : List ℕ) (y : Taken) → judge_row (cond b x other) bytes ≡ y
    → ((b ≡ true) × (judge_row x bytes ≡ y)) ⊎ ((b ≡ false) × (judge_row other bytes ≡ y))
rows true x other bytes y e = inl (refl, e)
rows false x other bytes y e = inr (refl, e)

record IsOther (kind : ℕ) : Type 0 where
  authentication : kind ≢ 82
  setting : kind ≢ 83
  key : kind ≢ 75
  status : kind ≢ 90
  description : kind ≢ 84
  values : kind ≢ 68
  tag : kind ≢ 67
  error : kind ≢ 69
  notice : kind ≢ 78
  piece : kind ≢ 100
  done : kind ≢ 99
  both : kind ≢ 87

no_kind : (kind : ℕ) → IsOther kind → IsNoKind kind
no_kind kind o back.AuthenticationOk same = o.authentication (sym same)
no_kind kind o (back.ParameterStatus name value) same = o.setting (sym same)
no_kind kind o (back.BackendKeyData pid key) same = o.key (sym same)
no_kind kind o (back.ReadyForQuery status) same = o.status (sym same)
no_kind kind o (back.RowDescription fields) same = o.description (sym same)
no_kind kind o (back.DataRow columns) same = o.values (sym same)
no_kind kind o (back.CommandComplete tag) same = o.tag (sym same)
no_kind kind o (back.ErrorResponse fields) same = o.error (sym same)
no_kind kind o (back.NoticeResponse fields) same = o.notice (sym same)
no_kind kind o (back.CopyData bytes) same = o.piece (sym same)
no_kind kind o back.CopyDone same = o.done (sym same)
no_kind kind o (back.CopyBoth format formats) same = o.both (sym same)

pub back_fault : (bytes : List ℕ) (f : WireFault) → IsBytes bytes → AreNone phase.Back bytes → judge_back bytes ≡ taken.Wrong f
    → IsFault phase.Back bytes f
unfolding judge_back
back_fault [] f fits none e = absurd cc
back_fault (kind ∷ bytes) f fits none e =
    let past = IsBytes-rest kind bytes fits in
    let wrong = taken.Wrong f in
    elim (rows (eqb kind 82) _ _ bytes wrong e) [
      | inl r ↦ row_fault authentication_row kind bytes f past none (eqb-true _ _ r.0) r.1
      | inr e1 ↦ elim (rows (eqb kind 83) _ _ bytes wrong e1.1) [
        | inl r ↦ row_fault setting_row kind bytes f past none (eqb-true _ _ r.0) r.1
        | inr e2 ↦ elim (rows (eqb kind 75) _ _ bytes wrong e2.1) [
          | inl r ↦ row_fault key_row kind bytes f past none (eqb-true _ _ r.0) r.1
          | inr e3 ↦ elim (rows (eqb kind 90) _ _ bytes wrong e3.1) [
            | inl r ↦ row_fault status_row kind bytes f past none (eqb-true _ _ r.0) r.1
            | inr e4 ↦ elim (rows (eqb kind 84) _ _ bytes wrong e4.1) [
              | inl r ↦ row_fault description_row kind bytes f past none (eqb-true _ _ r.0) r.1
              | inr e5 ↦ elim (rows (eqb kind 68) _ _ bytes wrong e5.1) [
                | inl r ↦ row_fault data_row_row kind bytes f past none (eqb-true _ _ r.0) r.1
                | inr e6 ↦ elim (rows (eqb kind 67) _ _ bytes wrong e6.1) [
                  | inl r ↦ row_fault tag_row kind bytes f past none (eqb-true _ _ r.0) r.1
                  | inr e7 ↦ elim (rows (eqb kind 69) _ _ bytes wrong e7.1) [
                    | inl r ↦ row_fault error_row kind bytes f past none (eqb-true _ _ r.0) r.1
                    | inr e8 ↦ elim (rows (eqb kind 78) _ _ bytes wrong e8.1) [
                      | inl r ↦ row_fault notice_row kind bytes f past none (eqb-true _ _ r.0) r.1
                      | inr e9 ↦ elim (rows (eqb kind 100) _ _ bytes wrong e9.1) [
                        | inl r ↦ row_fault data_row kind bytes f past none (eqb-true _ _ r.0) r.1
                        | inr e10 ↦ elim (rows (eqb kind 99) _ _ bytes wrong e10.1) [
                          | inl r ↦ row_fault done_row kind bytes f past none (eqb-true _ _ r.0) r.1
                          | inr e11 ↦ elim (rows (eqb kind 87) _ _ bytes wrong e11.1) [
                            | inl r ↦ row_fault both_row kind bytes f past none (eqb-true _ _ r.0) r.1
                            | inr e12 ↦ kind_fault kind bytes f e12.1 (no_kind kind (record {
                              authentication = eqb-false _ _ e1.0;
                              setting = eqb-false _ _ e2.0;
                              key = eqb-false _ _ e3.0;
                              status = eqb-false _ _ e4.0;
                              description = eqb-false _ _ e5.0;
                              values = eqb-false _ _ e6.0;
                              tag = eqb-false _ _ e7.0;
                              error = eqb-false _ _ e8.0;
                              notice = eqb-false _ _ e9.0;
                              piece = eqb-false _ _ e10.0;
                              done = eqb-false _ _ e11.0;
                              both = eqb-false _ _ e12.0;
                            }))
                          ]
                        ]
                      ]
                    ]
                  ]
                ]
              ]
            ]
          ]
        ]
      ]
    ]
