-- Bodies of the server's messages: what is read of all of a body was written so, and what was written is read
-- again, by the rows of their table.
use Rattle.std.proofs.Common.{◌≡◌, ℕ, ◌^◌, ◌<◌, ◌≤◌, Bool, true, false, cond, eqb, List, [], ◌∷◌, ◌++◌, length, Option, Some, None, Result, Ok, Err, refl, sym, ap, subst, arith, ◌⊎◌, inl, inr}
use Rattle.std.specs.List.{AllByRecursion, flat_map}
use Rattle.std.proofs.lemmas.Bool.{eqb-true}
use Rattle.std.proofs.lemmas.List.{length-append}
use Rattle.repl_text.specs.Text.{IsText}
use Rattle.repl_message.specs.declared.back.TransactionStatus.{TransactionStatus}
use Rattle.repl_message.specs.declared.back.TransactionStatus.TheVariants.{Idle, Open, Failed}
use Rattle.repl_message.specs.declared.back.Field.{Field}
use Rattle.repl_message.specs.declared.back.ErrorField.{ErrorField}
use Rattle.repl_message.specs.declared.back.Back.{Back}
use Rattle.repl_message.specs.declared.back.Back.TheVariants as back
use Rattle.repl_message.specs.declared.back.TheConstants.{LIST_LIMIT}
use Rattle.repl_message.specs.declared.message.TheConstants.{MESSAGE_LIMIT, COPY_DATA_LIMIT}
use Rattle.repl_message.specs.Message.{int16, int32, string, field, column, error_field, counted, ended, status_byte, back_kind, back_body, back_limit, FitsField, FitsErrorField, FitsBack, IsBack}
use Rattle.repl_message.specs.Decoding.{◌>>=◌, string_at, whole}
use Rattle.repl_wire.specs.Judging.{byte_at, int16_at, int32_at, counted_at, field_at, column_at, coded_at, made, text_of, nothing_of, authentication_of, setting_of, key_of, status_of, description_of, data_row_of, tag_of, error_of, notice_of, copy_done_of, copy_both_of, Row, usual, back_row}
use Rattle.repl_message.proofs.FieldLaws.{IsBytes, bind_ok, ok_is, whole_takes, Takes, Takes-then, Takes-all, string_again}
use Rattle.repl_wire.specs.Places.{IsSized}
use Rattle.repl_wire.proofs.BodyLaws.{text_takes, text_again, nothing_takes, nothing_again, are_bytes}
use Rattle.repl_wire.proofs.ServerFields.{read_then, read_last, byte_reads, int16_reads, int16_reads_again, int32_reads, int32_at_again, string_reads, field_reads, field_reads_again, column_reads, column_reads_again, counted_taken, counted_again, coded_taken, coded_again, length-coded}

-- ---- what is read of a body

-- the body spells this message, which is of this kind and has this limit
pub record IsBody (kind limit : ℕ) (body : List ℕ) (m : Back) : Type 0 where
  pub parts : body ≡ back_body m
  pub fits : FitsBack m
  pub kind_is : back_kind m ≡ kind
  pub limit_is : limit ≡ back_limit m

-- what is read to the end of a body
body_whole : (kind limit : ℕ) (body : List ℕ) (m n : Back) (rest : List ℕ) → whole (m, rest) ≡ Ok n → Takes body (back_body m) rest
    → FitsBack m → back_kind m ≡ kind → limit ≡ back_limit m → IsBody kind limit body n
body_whole kind limit body m n rest e taken fits kind_is limit_is =
    let w = whole_takes m n rest e in
    subst (IsBody kind limit body) w.1 (record {
      parts = Takes-all body (back_body m) rest taken w.0;
      fits = fits;
      kind_is = kind_is;
      limit_is = limit_is;
    })

made_ok : {A B : Type 0} (make : A → B) (r : Result A ℕ) (y : B) → made make r ≡ Ok y → (x : A) × (r ≡ Ok x) × (make x ≡ y)
made_ok make (Ok x) y e = (x, refl, cc)
made_ok make (Err left) y e = absurd cc

-- what a test lets on, and what an unknown code does not
abbrev Read : Type 0
Read = Result Back ℕ

passed : (b : Bool) (r : Read) (left : ℕ) (m : Back) → cond b r (Err left) ≡ Ok m → (b ≡ true) × (r ≡ Ok m)
passed true r left m e = (refl, e)
passed false r left m e = absurd cc

pub authentication_taken : (body : List ℕ) (m : Back) → IsBytes body → authentication_of body ≡ Ok m → IsBody 82 MESSAGE_LIMIT body m
unfolding authentication_of
authentication_taken body m fits e =
    let c = bind_ok (int32_at body) (λ (code : ℕ × List ℕ). cond (eqb code.0 0) (whole (back.AuthenticationOk, code.1)) (Err (length body)))
    m e in
    let p = passed (eqb c.0.0 0) (whole (back.AuthenticationOk, c.0.1)) (length body) m c.2 in
    let code = int32_reads.takes body c.0 fits c.1 in
    let zero_code : Takes body (int32 0) c.0.1 = subst (λ (n : ℕ). Takes body (int32 n) c.0.1) (eqb-true _ _ p.0) code.0 in
    body_whole 82 MESSAGE_LIMIT body back.AuthenticationOk m c.0.1 p.1 zero_code tt refl refl

pub setting_taken : (body : List ℕ) (m : Back) → IsBytes body → setting_of body ≡ Ok m → IsBody 83 MESSAGE_LIMIT body m
unfolding setting_of
setting_taken body m fits e =
    let n = bind_ok (string_at body) (λ (name : List ℕ × List ℕ). string_at name.1 >>= λ value. whole
    (back.ParameterStatus name.0 value.0, value.1)) m e in
    let v = bind_ok (string_at n.0.1) (λ (value : List ℕ × List ℕ). whole (back.ParameterStatus n.0.0 value.0, value.1)) m n.2 in
    let name = string_reads.takes body n.0 fits n.1 in
    let value = string_reads.takes n.0.1 v.0 name.0.rest_fits v.1 in
    body_whole 83 MESSAGE_LIMIT body (back.ParameterStatus n.0.0 v.0.0) m v.0.1 v.2
    (Takes-then body (string n.0.0) n.0.1 (string v.0.0) v.0.1 name.0 value.0) (name.1, value.1) refl refl

pub key_taken : (body : List ℕ) (m : Back) → IsBytes body → key_of body ≡ Ok m → IsBody 75 MESSAGE_LIMIT body m
unfolding key_of
key_taken body m fits e =
    let p = bind_ok (int32_at body) (λ (pid : ℕ × List ℕ). int32_at pid.1 >>= λ key. whole (back.BackendKeyData pid.0 key.0, key.1)) m e in
    let k = bind_ok (int32_at p.0.1) (λ (key : ℕ × List ℕ). whole (back.BackendKeyData p.0.0 key.0, key.1)) m p.2 in
    let pid = int32_reads.takes body p.0 fits p.1 in
    let key = int32_reads.takes p.0.1 k.0 pid.0.rest_fits k.1 in
    body_whole 75 MESSAGE_LIMIT body (back.BackendKeyData p.0.0 k.0.0) m k.0.1 k.2
    (Takes-then body (int32 p.0.0) p.0.1 (int32 k.0.0) k.0.1 pid.0 key.0) (pid.1, key.1) refl refl

status_whole : (body : List ℕ) (status : TransactionStatus) (b : ℕ) (m : Back) (rest : List ℕ) → Takes body (b ∷ []) rest
    → eqb b (status_byte status) ≡ true → whole (back.ReadyForQuery status, rest) ≡ Ok m → IsBody 90 MESSAGE_LIMIT body m
status_whole body status b m rest taken is e =
    body_whole 90 MESSAGE_LIMIT body (back.ReadyForQuery status) m rest e
    (subst (λ (n : ℕ). Takes body (n ∷ []) rest) (eqb-true _ _ is) taken) tt refl refl

-- a choice of readings that gives a message
choice : (b : Bool) (r other : Read) (m : Back) → cond b r other ≡ Ok m → ((b ≡ true) × (r ≡ Ok m)) ⊎ (other ≡ Ok m)
choice true r other m e = inl (refl, e)
choice false r other m e = inr e

abbrev after_status : List ℕ → ℕ × List ℕ → Read
after_status body status =
    cond (eqb status.0 73) (whole (back.ReadyForQuery Idle, status.1))
    (cond (eqb status.0 84) (whole (back.ReadyForQuery Open, status.1))
    (cond (eqb status.0 69) (whole (back.ReadyForQuery Failed, status.1)) (Err (length body))))

pub status_taken : (body : List ℕ) (m : Back) → IsBytes body → status_of body ≡ Ok m → IsBody 90 MESSAGE_LIMIT body m
unfolding status_of
status_taken body m fits e =
    let s = bind_ok (byte_at body) (after_status body) m e in
    let b = s.0.0 in
    let rest = s.0.1 in
    let t = byte_reads.takes body s.0 fits s.1 in
    elim (choice (eqb b 73) _ _ m s.2) [
      | inl i ↦ status_whole body Idle b m rest t.0 i.0 i.1
      | inr e1 ↦ elim (choice (eqb b 84) _ _ m e1) [
        | inl o ↦ status_whole body Open b m rest t.0 o.0 o.1
        | inr e2 ↦ let f = passed (eqb b 69) (whole (back.ReadyForQuery Failed, rest)) (length body) m e2 in
            status_whole body Failed b m rest t.0 f.0 f.1
      ]
    ]

pub description_taken : (body : List ℕ) (m : Back) → IsBytes body → description_of body ≡ Ok m → IsBody 84 MESSAGE_LIMIT body m
unfolding description_of
description_taken body m fits e =
    let f = bind_ok (counted_at field_at body) (λ (fields : List Field × List ℕ). whole (back.RowDescription fields.0, fields.1)) m e in
    let t = counted_taken field_reads body f.0 fits f.1 in
    body_whole 84 MESSAGE_LIMIT body (back.RowDescription f.0.0) m f.0.1 f.2 t.0 (t.1, t.2) refl refl

pub data_row_taken : (body : List ℕ) (m : Back) → IsBytes body → data_row_of body ≡ Ok m → IsBody 68 MESSAGE_LIMIT body m
unfolding data_row_of
data_row_taken body m fits e =
    let c = bind_ok (counted_at column_at body) (λ (columns : List (Option (List ℕ)) × List ℕ). whole (back.DataRow columns.0, columns.1)) m
    e in
    let t = counted_taken column_reads body c.0 fits c.1 in
    body_whole 68 MESSAGE_LIMIT body (back.DataRow c.0.0) m c.0.1 c.2 t.0 (t.1, t.2) refl refl

pub tag_taken : (body : List ℕ) (m : Back) → IsBytes body → tag_of body ≡ Ok m → IsBody 67 MESSAGE_LIMIT body m
unfolding tag_of
tag_taken body m fits e =
    let a = made_ok (λ (text : List ℕ). back.CommandComplete text) (text_of body) m e in
    let t = text_takes body a.0 fits a.1 in
    subst (IsBody 67 MESSAGE_LIMIT body) a.2 (record { parts = t.0; fits = t.1; kind_is = refl; limit_is = refl })

pub error_taken : (body : List ℕ) (m : Back) → IsBytes body → error_of body ≡ Ok m → IsBody 69 MESSAGE_LIMIT body m
unfolding error_of
error_taken body m fits e =
    let f = bind_ok (coded_at (length body) body) (λ (fields : List ErrorField × List ℕ). whole (back.ErrorResponse fields.0, fields.1)) m e
    in
    let t = coded_taken (length body) body f.0 fits f.1 in
    body_whole 69 MESSAGE_LIMIT body (back.ErrorResponse f.0.0) m f.0.1 f.2 t.0 t.1 refl refl

pub notice_taken : (body : List ℕ) (m : Back) → IsBytes body → notice_of body ≡ Ok m → IsBody 78 MESSAGE_LIMIT body m
unfolding notice_of
notice_taken body m fits e =
    let f = bind_ok (coded_at (length body) body) (λ (fields : List ErrorField × List ℕ). whole (back.NoticeResponse fields.0, fields.1)) m
    e in
    let t = coded_taken (length body) body f.0 fits f.1 in
    body_whole 78 MESSAGE_LIMIT body (back.NoticeResponse f.0.0) m f.0.1 f.2 t.0 t.1 refl refl

abbrev copy_data : Row
copy_data = record { least = 0; limit = COPY_DATA_LIMIT; read = λ body. Ok (back.CopyData body) }

copy_data_taken : (body : List ℕ) (m : Back) → IsBytes body → copy_data.read body ≡ Ok m → IsBody 100 COPY_DATA_LIMIT body m
copy_data_taken body m fits e = subst (IsBody 100 COPY_DATA_LIMIT body) (ok_is (back.CopyData body) m e)
    (record { parts = refl; fits = are_bytes body fits; kind_is = refl; limit_is = refl })

pub copy_done_taken : (body : List ℕ) (m : Back) → IsBytes body → copy_done_of body ≡ Ok m → IsBody 99 MESSAGE_LIMIT body m
unfolding copy_done_of
copy_done_taken body m fits e =
    let a = made_ok (λ (u : Unit {0}). back.CopyDone) (nothing_of body) m e in
    subst (IsBody 99 MESSAGE_LIMIT body) a.2 (record { parts = nothing_takes body a.0 a.1; fits = tt; kind_is = refl; limit_is = refl })

pub copy_both_taken : (body : List ℕ) (m : Back) → IsBytes body → copy_both_of body ≡ Ok m → IsBody 87 MESSAGE_LIMIT body m
unfolding copy_both_of
copy_both_taken body m fits e =
    let f = bind_ok (byte_at body) (λ (format : ℕ × List ℕ). counted_at int16_at format.1 >>= λ formats. whole
    (back.CopyBoth format.0 formats.0, formats.1)) m e in
    let s = bind_ok (counted_at int16_at f.0.1) (λ (formats : List ℕ × List ℕ). whole (back.CopyBoth f.0.0 formats.0, formats.1)) m f.2 in
    let format = byte_reads.takes body f.0 fits f.1 in
    let formats = counted_taken int16_reads f.0.1 s.0 format.0.rest_fits s.1 in
    body_whole 87 MESSAGE_LIMIT body (back.CopyBoth f.0.0 s.0.0) m s.0.1 s.2
    (Takes-then body (f.0.0 ∷ []) f.0.1 (counted int16 s.0.0) s.0.1 format.0 formats.0) (format.1, formats.1, formats.2) refl refl

-- ---- the rows

pub record IsRow (kind : ℕ) (r : Row) : Type 0 where
  pub below : r.limit < 2 ^ 32
  pub takes : (body : List ℕ) (m : Back) → IsBytes body → r.read body ≡ Ok m → IsBody kind r.limit body m

-- the row of this kind, or one of the others
row_choice : (b : Bool) (a r : Row) (other : Option Row) → cond b (Some a) other ≡ Some r → ((b ≡ true) × (a ≡ r)) ⊎ (other ≡ Some r)
row_choice true a r other e = inl (refl, cc)
row_choice false a r other e = inr e

abbrev row_with : ℕ → (List ℕ → Result Back ℕ) → Row
row_with least read = record { least = least; limit = MESSAGE_LIMIT; read = read }

row_of_kind : (kind number : ℕ) (a r : Row) → IsRow number a → eqb kind number ≡ true → a ≡ r → IsRow kind r
row_of_kind kind number a r is same a_is = subst (IsRow kind) a_is (subst (λ (k : ℕ). IsRow k a) (sym (eqb-true _ _ same)) is)

authentication_row : IsRow 82 (row_with 4 authentication_of)
authentication_row = record { below = omega arith; takes = authentication_taken }

setting_row : IsRow 83 (row_with 2 setting_of)
setting_row = record { below = omega arith; takes = setting_taken }

key_row : IsRow 75 (row_with 8 key_of)
key_row = record { below = omega arith; takes = key_taken }

status_row : IsRow 90 (row_with 1 status_of)
status_row = record { below = omega arith; takes = status_taken }

description_row : IsRow 84 (row_with 2 description_of)
description_row = record { below = omega arith; takes = description_taken }

data_row_row : IsRow 68 (row_with 2 data_row_of)
data_row_row = record { below = omega arith; takes = data_row_taken }

tag_row : IsRow 67 (row_with 1 tag_of)
tag_row = record { below = omega arith; takes = tag_taken }

error_row : IsRow 69 (row_with 1 error_of)
error_row = record { below = omega arith; takes = error_taken }

notice_row : IsRow 78 (row_with 1 notice_of)
notice_row = record { below = omega arith; takes = notice_taken }

copy_data_row : IsRow 100 copy_data
copy_data_row = record { below = omega arith; takes = copy_data_taken }

copy_done_row : IsRow 99 (row_with 0 copy_done_of)
copy_done_row = record { below = omega arith; takes = copy_done_taken }

copy_both_row : IsRow 87 (row_with 3 copy_both_of)
copy_both_row = record { below = omega arith; takes = copy_both_taken }

abbrev later_row : ℕ → Option Row
later_row kind =
    cond (eqb kind 68) (usual 2 data_row_of)
    (cond (eqb kind 67) (usual 1 tag_of)
    (cond (eqb kind 69) (usual 1 error_of)
    (cond (eqb kind 78) (usual 1 notice_of)
    (cond (eqb kind 100) (Some copy_data)
    (cond (eqb kind 99) (usual 0 copy_done_of)
    (cond (eqb kind 87) (usual 3 copy_both_of) None))))))

later_rows : (kind : ℕ) (r : Row) → later_row kind ≡ Some r → IsRow kind r
later_rows kind r e =
    elim (row_choice (eqb kind 68) _ r _ e) [
      | inl d ↦ row_of_kind kind 68 _ r data_row_row d.0 d.1
      | inr e1 ↦ elim (row_choice (eqb kind 67) _ r _ e1) [
        | inl t ↦ row_of_kind kind 67 _ r tag_row t.0 t.1
        | inr e2 ↦ elim (row_choice (eqb kind 69) _ r _ e2) [
          | inl f ↦ row_of_kind kind 69 _ r error_row f.0 f.1
          | inr e3 ↦ elim (row_choice (eqb kind 78) _ r _ e3) [
            | inl n ↦ row_of_kind kind 78 _ r notice_row n.0 n.1
            | inr e4 ↦ elim (row_choice (eqb kind 100) _ r _ e4) [
              | inl p ↦ row_of_kind kind 100 _ r copy_data_row p.0 p.1
              | inr e5 ↦ elim (row_choice (eqb kind 99) _ r _ e5) [
                | inl c ↦ row_of_kind kind 99 _ r copy_done_row c.0 c.1
                | inr e6 ↦ elim (row_choice (eqb kind 87) _ r _ e6) [
                  | inl b ↦ row_of_kind kind 87 _ r copy_both_row b.0 b.1
                  | inr e7 ↦ absurd cc
                ]
              ]
            ]
          ]
        ]
      ]
    ]

pub rows_take : (kind : ℕ) (r : Row) → back_row kind ≡ Some r → IsRow kind r
rows_take kind r e =
    elim (row_choice (eqb kind 82) _ r _ e) [
      | inl a ↦ row_of_kind kind 82 _ r authentication_row a.0 a.1
      | inr e1 ↦ elim (row_choice (eqb kind 83) _ r _ e1) [
        | inl s ↦ row_of_kind kind 83 _ r setting_row s.0 s.1
        | inr e2 ↦ elim (row_choice (eqb kind 75) _ r _ e2) [
          | inl k ↦ row_of_kind kind 75 _ r key_row k.0 k.1
          | inr e3 ↦ elim (row_choice (eqb kind 90) _ r _ e3) [
            | inl z ↦ row_of_kind kind 90 _ r status_row z.0 z.1
            | inr e4 ↦ elim (row_choice (eqb kind 84) _ r _ e4) [
              | inl d ↦ row_of_kind kind 84 _ r description_row d.0 d.1
              | inr e5 ↦ later_rows kind r e5
            ]
          ]
        ]
      ]
    ]

-- ---- what is spelled is read

-- the row by which a message is read
pub record HasRow (m : Back) : Type 0 where
  pub its : Row
  pub row_is : back_row (back_kind m) ≡ Some its
  pub low : its.least ≤ length (back_body m)
  pub limit_is : its.limit ≡ back_limit m
  pub below : its.limit < 2 ^ 32
  pub again : its.read (back_body m) ≡ Ok m

authentication_again : authentication_of (int32 0) ≡ Ok back.AuthenticationOk
unfolding authentication_of
authentication_again =
    read_then (int32_at (int32 0)) (λ (code : ℕ × List ℕ). cond (eqb code.0 0) (whole (back.AuthenticationOk, code.1)) (Err 4)) (0, [])
    (Ok back.AuthenticationOk) (int32_at_again 0 [] (omega arith)) refl

setting_again : (name value : List ℕ) → IsText name → IsText value → setting_of (string name ++ string value)
    ≡ Ok (back.ParameterStatus name value)
unfolding setting_of
setting_again name value name_fits value_fits =
    let m = back.ParameterStatus name value in
    let last = read_last string_at (string value) (Ok (value, [])) (string_again value [] value_fits) in
    let values = read_then (string_at (string value)) (λ (v : List ℕ × List ℕ). whole (back.ParameterStatus name v.0, v.1)) (value, [])
    (Ok m) last refl in
    read_then (string_at (string name ++ string value)) (λ (n : List ℕ × List ℕ). string_at n.1 >>= λ v. whole
    (back.ParameterStatus n.0 v.0, v.1)) (name, string value) (Ok m) (string_again name (string value) name_fits) values

key_again : (pid key : ℕ) → pid < 2 ^ 32 → key < 2 ^ 32 → key_of (int32 pid ++ int32 key) ≡ Ok (back.BackendKeyData pid key)
unfolding key_of
key_again pid key pid_fits key_fits =
    let m = back.BackendKeyData pid key in
    let keys = read_then (int32_at (int32 key)) (λ (k : ℕ × List ℕ). whole (back.BackendKeyData pid k.0, k.1)) (key, []) (Ok m)
    (int32_at_again key [] key_fits) refl in
    read_then (int32_at (int32 pid ++ int32 key)) (λ (p : ℕ × List ℕ). int32_at p.1 >>= λ k. whole (back.BackendKeyData p.0 k.0, k.1))
    (pid, int32 key) (Ok m) (int32_at_again pid (int32 key) pid_fits) keys

status_again : (status : TransactionStatus) → status_of (status_byte status ∷ []) ≡ Ok (back.ReadyForQuery status)
unfolding status_of
status_again Idle = refl
status_again Open = refl
status_again Failed = refl

description_again : (fields : List Field) → length fields ≤ LIST_LIMIT → AllByRecursion FitsField fields
    → description_of (counted field fields) ≡ Ok (back.RowDescription fields)
unfolding description_of
description_again fields few fits =
    read_then (counted_at field_at (counted field fields)) (λ (f : List Field × List ℕ). whole (back.RowDescription f.0, f.1)) (fields, [])
    (Ok (back.RowDescription fields)) (counted_again field_reads_again fields few fits) refl

data_row_again : (columns : List (Option (List ℕ))) → length columns ≤ LIST_LIMIT → AllByRecursion IsSized columns
    → data_row_of (counted column columns) ≡ Ok (back.DataRow columns)
unfolding data_row_of
data_row_again columns few sized =
    read_then (counted_at column_at (counted column columns)) (λ (c : List (Option (List ℕ)) × List ℕ). whole (back.DataRow c.0, c.1))
    (columns, []) (Ok (back.DataRow columns)) (counted_again column_reads_again columns few sized) refl

tag_again : (tag : List ℕ) → IsText tag → tag_of (string tag) ≡ Ok (back.CommandComplete tag)
unfolding tag_of
tag_again tag fits = ap (made (λ (text : List ℕ). back.CommandComplete text)) (text_again tag fits)

coded_whole : (fields : List ErrorField) → AllByRecursion FitsErrorField fields
    → coded_at (length (ended error_field fields)) (ended error_field fields) ≡ Ok (fields, [])
coded_whole fields fits =
    let text = ended error_field fields in
    let enough : length fields < length text = omega (arith, length-coded fields, length-append (flat_map error_field fields) (0 ∷ [])) in
    read_last (coded_at (length text)) text (Ok (fields, [])) (coded_again (length text) fields [] enough fits)

error_again : (fields : List ErrorField) → AllByRecursion FitsErrorField fields → error_of (ended error_field fields)
    ≡ Ok (back.ErrorResponse fields)
unfolding error_of
error_again fields fits =
    let text = ended error_field fields in
    read_then (coded_at (length text) text) (λ (f : List ErrorField × List ℕ). whole (back.ErrorResponse f.0, f.1)) (fields, [])
    (Ok (back.ErrorResponse fields)) (coded_whole fields fits) refl

notice_again : (fields : List ErrorField) → AllByRecursion FitsErrorField fields → notice_of (ended error_field fields)
    ≡ Ok (back.NoticeResponse fields)
unfolding notice_of
notice_again fields fits =
    let text = ended error_field fields in
    read_then (coded_at (length text) text) (λ (f : List ErrorField × List ℕ). whole (back.NoticeResponse f.0, f.1)) (fields, [])
    (Ok (back.NoticeResponse fields)) (coded_whole fields fits) refl

copy_done_again : copy_done_of [] ≡ Ok back.CopyDone
unfolding copy_done_of
copy_done_again = ap (made (λ (u : Unit {0}). back.CopyDone)) nothing_again

copy_both_again : (format : ℕ) (formats : List ℕ) → length formats ≤ LIST_LIMIT → AllByRecursion (λ f. f < 2 ^ 16) formats
    → copy_both_of (format ∷ counted int16 formats) ≡ Ok (back.CopyBoth format formats)
unfolding copy_both_of
copy_both_again format formats few fits =
    read_then (counted_at int16_at (counted int16 formats)) (λ (f : List ℕ × List ℕ). whole (back.CopyBoth format f.0, f.1)) (formats, [])
    (Ok (back.CopyBoth format formats)) (counted_again int16_reads_again formats few fits) refl

-- values within a message are short
all_sized : (columns : List (Option (List ℕ))) → length (flat_map column columns) < 2 ^ 31 → AllByRecursion IsSized columns
all_sized [] short = tt
all_sized (None ∷ columns) short =
    (tt, all_sized columns (omega (arith, length-append (int32 0xffff_ffff) (flat_map column columns))))
all_sized (Some v ∷ columns) short =
    let whole = length-append (column (Some v)) (flat_map column columns) in
    (omega (arith, whole, length-append (int32 (length v)) v), all_sized columns (omega (arith, whole)))

columns_sized : (columns : List (Option (List ℕ))) → IsBack (back.DataRow columns) → AllByRecursion IsSized columns
columns_sized columns is = all_sized columns (omega (arith, is.within, length-append (int16 (length columns)) (flat_map column columns)))

pub has_row : (m : Back) → IsBack m → HasRow m
has_row back.AuthenticationOk is =
    record {
      its = row_with 4 authentication_of;
      row_is = refl;
      low = omega arith;
      limit_is = refl;
      below = omega arith;
      again = authentication_again;
    }
has_row (back.ParameterStatus name value) is =
    record {
      its = row_with 2 setting_of;
      row_is = refl;
      low =
          omega (arith, length-append (string name) (string value), length-append name (0 ∷ []), length-append value (0 ∷ []));
      limit_is = refl;
      below = omega arith;
      again = setting_again name value is.fits.0 is.fits.1;
    }
has_row (back.BackendKeyData pid key) is =
    record {
      its = row_with 8 key_of;
      row_is = refl;
      low = omega arith;
      limit_is = refl;
      below = omega arith;
      again = key_again pid key is.fits.0 is.fits.1;
    }
has_row (back.ReadyForQuery status) is =
    record {
      its = row_with 1 status_of;
      row_is = refl;
      low = omega arith;
      limit_is = refl;
      below = omega arith;
      again = status_again status;
    }
has_row (back.RowDescription fields) is =
    record {
      its = row_with 2 description_of;
      row_is = refl;
      low = omega (arith, length-append (int16 (length fields)) (flat_map field fields));
      limit_is = refl;
      below = omega arith;
      again = description_again fields is.fits.0 is.fits.1;
    }
has_row (back.DataRow columns) is =
    record {
      its = row_with 2 data_row_of;
      row_is = refl;
      low =
          omega (arith, length-append (int16 (length columns)) (flat_map column columns));
      limit_is = refl;
      below = omega arith;
      again = data_row_again columns is.fits.0 (columns_sized columns is);
    }
has_row (back.CommandComplete tag) is =
    record {
      its = row_with 1 tag_of;
      row_is = refl;
      low = omega (arith, length-append tag (0 ∷ []));
      limit_is = refl;
      below = omega arith;
      again = tag_again tag is.fits;
    }
has_row (back.ErrorResponse fields) is =
    record {
      its = row_with 1 error_of;
      row_is = refl;
      low = omega (arith, length-append (flat_map error_field fields) (0 ∷ []));
      limit_is = refl;
      below = omega arith;
      again = error_again fields is.fits;
    }
has_row (back.NoticeResponse fields) is =
    record {
      its = row_with 1 notice_of;
      row_is = refl;
      low = omega (arith, length-append (flat_map error_field fields) (0 ∷ []));
      limit_is = refl;
      below = omega arith;
      again = notice_again fields is.fits;
    }
has_row (back.CopyData bytes) is =
    record { its = copy_data; row_is = refl; low = omega arith; limit_is = refl; below = omega arith; again = refl }
has_row back.CopyDone is =
    record {
      its = row_with 0 copy_done_of;
      row_is = refl;
      low = omega arith;
      limit_is = refl;
      below = omega arith;
      again = copy_done_again;
    }
has_row (back.CopyBoth format formats) is =
    record {
      its = row_with 3 copy_both_of;
      row_is = refl;
      low =
          omega (arith, length-append (int16 (length formats)) (flat_map int16 formats));
      limit_is = refl;
      below = omega arith;
      again = copy_both_again format formats is.fits.1 is.fits.2;
    }
