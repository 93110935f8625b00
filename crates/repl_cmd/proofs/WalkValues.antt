-- A token says one value at most, where one is wanted.
use Rattle.std.proofs.Common.{◌≡◌, ◌≢◌, ℕ, Bool, true, false, ◌||◌, ◌⊎◌, inl, inr, List, map, bytes_eq, codes, sym, ap, ◌∙◌}
use Rattle.std.proofs.lemmas.Bool.{false≢true}
use Rattle.std.specs.Char.{to_ascii_lowercase}
use Rattle.hex.proofs.HexLemmas.{decode_of-same}
use Rattle.repl_lsn.proofs.Splits.{one_position}
use Rattle.repl_names.specs.declared.setting.Setting.{Setting}
use Rattle.repl_names.proofs.Settings as settings
use Rattle.repl_names.specs.StandbyList.{Listing}
use Rattle.repl_names.proofs.GrammarLists.{reads_one_list}
use Rattle.repl_cmd.specs.declared.token.Kind.{Kind}
use Rattle.repl_cmd.specs.declared.token.Kind.TheVariants as kind
use Rattle.repl_cmd.specs.Token.{Lexeme}
use Rattle.repl_cmd.specs.Command.{IsKeyword, IsNaming, IsValue, IsSlot, IsParameter, IsPosition, IsNumber, IsFlag, IsSetting, IsBody, IsList}

-- a token is one keyword
pub one_keyword : (w v : List ℕ) (t : Lexeme) → bytes_eq w v ≡ false → bytes_eq w w ≡ true → IsKeyword w t → IsKeyword v t → ⊥
one_keyword w v t differ same a b = false≢true (sym differ ∙ ap (bytes_eq w) (sym b.1 ∙ a.1) ∙ same)

-- a token has one kind
pub not_word : (w : List ℕ) (t : Lexeme) (k : Kind) → kind.Word ≢ k → IsKeyword w t → t.kind ≡ k → ⊥
not_word w t k differ a b = differ (sym a.0 ∙ b)

pub one_slot : (t : Lexeme) (a b : List ℕ) → IsSlot a t → IsSlot b t → a ≡ b
one_slot t a b p q = written p.written q.written
  where
    written : ((t.kind ≡ kind.Word) × (a ≡ map to_ascii_lowercase t.text)) ⊎ ((t.kind ≡ kind.Name) × (a ≡ t.text))
        → ((t.kind ≡ kind.Word) × (b ≡ map to_ascii_lowercase t.text)) ⊎ ((t.kind ≡ kind.Name) × (b ≡ t.text)) → a ≡ b
    written (inl x) (inl y) = x.1 ∙ sym y.1
    written (inl x) (inr y) = absurd cc
    written (inr x) (inl y) = absurd cc
    written (inr x) (inr y) = x.1 ∙ sym y.1

pub one_parameter : (t : Lexeme) (a b : List ℕ) → IsParameter a t → IsParameter b t → a ≡ b
one_parameter t a b p q = p.written ∙ sym q.written

pub one_number : (least : ℕ) (t : Lexeme) (a b : ℕ) → IsNumber least a t → IsNumber least b t → a ≡ b
one_number least t a b p q = p.value ∙ sym q.value

pub one_place : (t : Lexeme) (a b : ℕ) → IsPosition a t → IsPosition b t → a ≡ b
one_place t a b p q = one_position t.text a b p.1 q.1

abbrev flag_of : List ℕ → Bool
flag_of word = bytes_eq word (codes "true") || bytes_eq word (codes "on") || bytes_eq word (codes "1")

flag_is : (b : Bool) (t : Lexeme) → IsFlag b t → flag_of (map to_ascii_lowercase t.text) ≡ b
flag_is true t (v, inl e) = ap flag_of e
flag_is true t (v, inr (inl e)) = ap flag_of e
flag_is true t (v, inr (inr e)) = ap flag_of e
flag_is false t (v, inl e) = ap flag_of e
flag_is false t (v, inr (inl e)) = ap flag_of e
flag_is false t (v, inr (inr e)) = ap flag_of e

pub one_flag : (t : Lexeme) (a b : Bool) → IsFlag a t → IsFlag b t → a ≡ b
one_flag t a b p q = sym (flag_is a t p) ∙ flag_is b t q

pub one_setting : (t : Lexeme) (a b : Setting) → IsSetting a t → IsSetting b t → a ≡ b
one_setting t a b p q = settings.one_setting t.text a b p.1 q.1

pub one_body : (t : Lexeme) (a b : List ℕ) → IsBody a t → IsBody b t → a ≡ b
one_body t a b p q = decode_of-same t.text a b p.1 q.1

pub one_list : (t : Lexeme) (a b : Listing) → IsList a t → IsList b t → a ≡ b
one_list t a b p q = reads_one_list t.text a b p.1 q.1

-- ---- of which kinds values are

pub slot_kind : (name : List ℕ) (t : Lexeme) → IsSlot name t → IsNaming t
slot_kind name t p = kinds p.written
  where
    kinds : ((t.kind ≡ kind.Word) × (name ≡ map to_ascii_lowercase t.text)) ⊎ ((t.kind ≡ kind.Name) × (name ≡ t.text)) → IsNaming t
    kinds (inl x) = inl x.0
    kinds (inr x) = inr x.0

pub flag_kind : (b : Bool) (t : Lexeme) → IsFlag b t → IsValue t
flag_kind true t p = p.0
flag_kind false t p = p.0

pub naming_not : (t : Lexeme) (k : Kind) → kind.Word ≢ k → kind.Name ≢ k → IsNaming t → t.kind ≡ k → ⊥
naming_not t k word name (inl e) f = word (sym e ∙ f)
naming_not t k word name (inr e) f = name (sym e ∙ f)

pub value_not : (t : Lexeme) (k : Kind) → kind.Word ≢ k → kind.Text ≢ k → IsValue t → t.kind ≡ k → ⊥
value_not t k word text (inl e) f = word (sym e ∙ f)
value_not t k word text (inr e) f = text (sym e ∙ f)
