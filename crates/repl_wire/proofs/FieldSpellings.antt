-- The fields of a body, one after another, are the body, and no message of a phase begins another.
use Rattle.std.proofs.Common.{◌≡◌, ℕ, List, [], ◌∷◌, ◌++◌, length, map, Option, Some, None, refl, sym, ap, ◌∙◌, append_assoc}
use Rattle.std.specs.List.{concat, flat_map}
use Rattle.std.proofs.lemmas.List.{append-nil}
use Rattle.repl_message.specs.declared.startup.Startup.{Startup}
use Rattle.repl_message.specs.declared.startup.Startup.TheVariants as startup
use Rattle.repl_message.specs.declared.startup.Pair.{Pair}
use Rattle.repl_message.specs.declared.front.Front.{Front}
use Rattle.repl_message.specs.declared.front.Front.TheVariants as front
use Rattle.repl_message.specs.declared.back.Back.{Back}
use Rattle.repl_message.specs.declared.back.Back.TheVariants as back
use Rattle.repl_message.specs.declared.back.Field.{Field}
use Rattle.repl_message.specs.declared.back.ErrorField.{ErrorField}
use Rattle.repl_message.specs.declared.message.Phase.{Phase}
use Rattle.repl_message.specs.declared.message.Phase.TheVariants as phase
use Rattle.repl_message.specs.declared.message.Message.{Message}
use Rattle.repl_message.specs.declared.message.Message.TheVariants as message
use Rattle.repl_message.specs.Message.{int16, int32, string, pair, field, column, error_field, ended, startup_code, startup_body, front_body, back_body, spelling, Belongs, Spells}
use Rattle.repl_message.proofs.OneSpelling.{startups_one, fronts_one, backs_one}
use Rattle.repl_wire.specs.Places.{pair_fields, startup_fields, front_fields, description_fields, coded_fields, column_fields, back_fields}

-- ---- fields

pub concat-append : (xs ys : List (List ℕ)) → concat (xs ++ ys) ≡ concat xs ++ concat ys
concat-append [] ys = refl
concat-append (x ∷ xs) ys = ap (λ (t : List ℕ). x ++ t) (concat-append xs ys) ∙ sym (append_assoc x (concat xs) (concat ys))

-- entries whose fields spell them
pub concat-entries : {A : Type 0} (fields : A → List (List ℕ)) (entry : A → List ℕ) → ((x : A) → entry x ≡ concat (fields x))
    → (xs : List A) → flat_map entry xs ≡ concat (flat_map fields xs)
concat-entries fields entry each [] = refl
concat-entries fields entry each (x ∷ xs) =
    ap (λ (t : List ℕ). t ++ flat_map entry xs) (each x) ∙ ap (λ (t : List ℕ). concat (fields x) ++ t) (concat-entries fields entry each xs)
    ∙ sym (concat-append (fields x) (flat_map fields xs))

pub concat-map : {A : Type 0} (entry : A → List ℕ) (xs : List A) → flat_map entry xs ≡ concat (map entry xs)
concat-map entry [] = refl
concat-map entry (x ∷ xs) = ap (λ (t : List ℕ). entry x ++ t) (concat-map entry xs)

-- up to a zero byte
pub concat-ended : {A : Type 0} (fields : A → List (List ℕ)) (entry : A → List ℕ) → ((x : A) → entry x ≡ concat (fields x)) → (xs : List A)
    → ended entry xs ≡ concat (flat_map fields xs ++ (0 ∷ []) ∷ [])
concat-ended fields entry each xs = ap (λ (t : List ℕ). t ++ 0 ∷ []) (concat-entries fields entry each xs)
    ∙ sym (concat-append (flat_map fields xs) ((0 ∷ []) ∷ []))

pub pair_is : (p : Pair) → pair p ≡ concat (pair_fields p)
pair_is p = ap (λ (t : List ℕ). string p.name ++ t) (sym (append-nil (string p.value)))

description_is : (f : Field) → field f ≡ concat (description_fields f)
description_is f = ap (λ (t : List ℕ). string f.name ++ t) refl

pub coded_is : (f : ErrorField) → error_field f ≡ concat (coded_fields f)
coded_is f = ap (λ (t : List ℕ). f.code ∷ t) (sym (append-nil (string f.text)))

pub column_is : (c : Option (List ℕ)) → column c ≡ concat (column_fields c)
column_is None = sym (append-nil (int32 0xffff_ffff))
column_is (Some bytes) = ap (λ (t : List ℕ). int32 (length bytes) ++ t) (sym (append-nil bytes))

-- ---- bodies

pub startup_spell : (m : Startup) → startup_body m ≡ int32 (startup_code m) ++ concat (startup_fields m)
startup_spell (startup.Params pairs) = ap (λ (t : List ℕ). int32 196_608 ++ t) (concat-ended pair_fields pair pair_is pairs)
startup_spell startup.Ssl = refl
startup_spell startup.Gss = refl
startup_spell (startup.Cancel pid key) = refl

pub front_spell : (m : Front) → front_body m ≡ concat (front_fields m)
front_spell (front.Query text) = sym (append-nil (string text))
front_spell (front.CopyData bytes) = sym (append-nil bytes)
front_spell front.CopyDone = refl
front_spell (front.CopyFail text) = sym (append-nil (string text))
front_spell front.Terminate = refl

pub back_spell : (m : Back) → back_body m ≡ concat (back_fields m)
back_spell back.AuthenticationOk = refl
back_spell (back.ParameterStatus name value) = ap (λ (t : List ℕ). string name ++ t) (sym (append-nil (string value)))
back_spell (back.BackendKeyData pid key) = refl
back_spell (back.ReadyForQuery status) = refl
back_spell (back.RowDescription fields) = ap (λ (t : List ℕ). int16 (length fields) ++ t)
    (concat-entries description_fields field description_is fields)
back_spell (back.DataRow columns) = ap (λ (t : List ℕ). int16 (length columns) ++ t) (concat-entries column_fields column column_is columns)
back_spell (back.CommandComplete tag) = sym (append-nil (string tag))
back_spell (back.ErrorResponse fields) = concat-ended coded_fields error_field coded_is fields
back_spell (back.NoticeResponse fields) = concat-ended coded_fields error_field coded_is fields
back_spell (back.CopyData bytes) = sym (append-nil bytes)
back_spell back.CopyDone = refl
back_spell (back.CopyBoth format formats) = ap (λ (t : List ℕ). format ∷ int16 (length formats) ++ t) (concat-map int16 formats)

-- ---- messages

spellings_one : (p : Phase) (m n : Message) (x y : List ℕ) → Belongs p m → Belongs p n → spelling m ++ x ≡ spelling n ++ y → (m ≡ n)
    × (x ≡ y)
spellings_one phase.Startup (message.Startup m) (message.Startup n) x y m_is n_is e = let t = startups_one m n x y m_is n_is e in
    (ap message.Startup t.0, t.1)
spellings_one phase.Front (message.Front m) (message.Front n) x y m_is n_is e = let t = fronts_one m n x y m_is n_is e in
    (ap message.Front t.0, t.1)
spellings_one phase.Back (message.Back m) (message.Back n) x y m_is n_is e = let t = backs_one m n x y m_is n_is e in
    (ap message.Back t.0, t.1)
spellings_one phase.Startup (message.Startup m) (message.Front n) x y m_is n_is e = absurd n_is
spellings_one phase.Startup (message.Startup m) (message.Back n) x y m_is n_is e = absurd n_is
spellings_one phase.Startup (message.Front m) n x y m_is n_is e = absurd m_is
spellings_one phase.Startup (message.Back m) n x y m_is n_is e = absurd m_is
spellings_one phase.Front (message.Front m) (message.Startup n) x y m_is n_is e = absurd n_is
spellings_one phase.Front (message.Front m) (message.Back n) x y m_is n_is e = absurd n_is
spellings_one phase.Front (message.Startup m) n x y m_is n_is e = absurd m_is
spellings_one phase.Front (message.Back m) n x y m_is n_is e = absurd m_is
spellings_one phase.Back (message.Back m) (message.Startup n) x y m_is n_is e = absurd n_is
spellings_one phase.Back (message.Back m) (message.Front n) x y m_is n_is e = absurd n_is
spellings_one phase.Back (message.Startup m) n x y m_is n_is e = absurd m_is
spellings_one phase.Back (message.Front m) n x y m_is n_is e = absurd m_is
spellings_one phase.Ended m n x y m_is n_is e = absurd m_is

pub messages_one : (p : Phase) (m n : Message) (a b x y : List ℕ) → Spells p m a → Spells p n b → a ++ x ≡ b ++ y → (m ≡ n) × (x ≡ y)
messages_one p m n a b x y s t e =
    spellings_one p m n x y s.belongs t.belongs (sym (ap (λ (u : List ℕ). u ++ x) s.spelled) ∙ e ∙ ap (λ (u : List ℕ). u ++ y) t.spelled)
