-- What the tokens of a written text are by the rows of commands.
use Rattle.std.proofs.Common.{◌≡◌, ℕ, zero, suc, ◌+◌, ◌<◌, ◌≤◌, ◌^◌, true, List, [], ◌∷◌, length, map, decimal, refl, sym, inl, inr, arith}
use Rattle.std.specs.Char.{to_ascii_lowercase, is_ascii_digit, digit_value}
use Rattle.std.specs.List.{All}
use Rattle.std.specs.Str.Parse.{AllDigits}
use Rattle.std.proofs.lemmas.Bool.Decides.{nat_tests}
use Rattle.std.proofs.lemmas.Fmt.{decimal_is_IsNumeral}
use Rattle.std.proofs.lemmas.List.{append-nil}
use Rattle.std.proofs.lemmas.List.Elements.{All-nil, All-cons, All-head, All-tail}
use Rattle.hex.specs.Hex.{IsBytes, encode_lower}
use Rattle.hex.proofs.HexLemmas.{decode_of-encode_lower}
use Rattle.repl_lsn.specs.Position.{position_text}
use Rattle.repl_lsn.proofs.Canonical.{position_text_spells}
use Rattle.repl_names.specs.StandbyList as names
use Rattle.repl_names.specs.StandbyList.{Listing, IsListing}
use Rattle.repl_names.proofs.PrintedTokens.{spelling_is_read}
use Rattle.repl_names.specs.declared.setting.Setting.{Setting}
use Rattle.repl_names.specs.declared.setting.Setting.TheVariants as setting
use Rattle.repl_cmd.specs.declared.command.Command.{Command}
use Rattle.repl_text.specs.SlotName.{IsSlotName}
use Rattle.repl_cmd.specs.Name.{IsParameterName}
use Rattle.repl_cmd.specs.Token.{Lexeme}
use Rattle.repl_names.specs.Setting.{setting_word}
use Rattle.repl_cmd.specs.Command.{Part, Keyword, Sign, Slot, Parameter, Position, Number, Value, Body, Names, Is, Follow, OneOf, SaysCommand, forms}
use Rattle.repl_cmd.proofs.TokenOf.{Piece, IsWritten, tokens_from, written_reads, word_piece, position_piece, name_piece, text_piece, equals_piece}

-- wherever it stands, the token is this part
abbrev pub MeansOne : Part → Piece → Type 0
MeansOne part p = (at : ℕ) → Is part (record { kind = p.kind; place = at; text = p.text })

-- the tokens are these parts
abbrev pub Means : List Part → List Piece → Type 0
Means [] [] = Unit {0}
Means [] (p ∷ ps) = ⊥
Means (part ∷ parts) [] = ⊥
Means (part ∷ parts) (p ∷ ps) = MeansOne part p × Means parts ps

means_follow : (parts : List Part) (p : Piece) (ps : List Piece) (at : ℕ) → Means parts (p ∷ ps) → Follow parts (tokens_from at p ps)
means_follow [] p ps at m = absurd m
means_follow (part ∷ []) p [] at m = (m.0 at, tt)
means_follow (part ∷ []) p (q ∷ qs) at m = absurd m.1
means_follow (part ∷ next ∷ parts) p [] at m = absurd m.1
means_follow (part ∷ next ∷ parts) p (q ∷ qs) at m = (m.0 at, means_follow (next ∷ parts) q qs (at + length p.spelled + 1) m.1)

-- a written text, whose tokens are a form of the command, says it
pub written_is_read : (text : List ℕ) (p : Piece) (ps : List Piece) (form : List Part) (c : Command) → IsWritten text p ps
    → Means form (p ∷ ps) → ((said : List Lexeme) → Follow form said → OneOf (forms c) said) → SaysCommand text c
written_is_read text p ps form c written means is_form = record {
  tokens = tokens_from 0 p ps;
  reads = written_reads text p ps written;
  says = record {
    said = tokens_from 0 p ps;
    ending = [];
    parts = sym (append-nil (tokens_from 0 p ps));
    is_said = is_form (tokens_from 0 p ps) (means_follow form p ps 0 means);
    ends = tt;
  };
}

-- ---- the parts

pub keyword_means : (word small : List ℕ) → map to_ascii_lowercase word ≡ small → MeansOne (Keyword small) (word_piece word)
keyword_means word small e = λ at. (refl, e)

pub slot_means : (name : List ℕ) → IsSlotName name → MeansOne (Slot name) (name_piece name)
slot_means name is = λ at. record { written = inr (refl, refl); is_name = is }

pub parameter_means : (name : List ℕ) → IsParameterName name → MeansOne (Parameter name) (name_piece name)
parameter_means name is = λ at. record { naming = inr refl; text = is.text; written = sym is.small }

digit_of_ten : (c : ℕ) → digit_value c < 10 → is_ascii_digit c ≡ true
digit_of_ten c h = grind (arith, nat_tests)

digits_of_ten : (ds : List ℕ) → AllDigits 10 ds → All (λ c. is_ascii_digit c ≡ true) ds
digits_of_ten [] h = All-nil (λ c. is_ascii_digit c ≡ true)
digits_of_ten (c ∷ cs) h = All-cons (λ c. is_ascii_digit c ≡ true) c cs (digit_of_ten c h.0) (digits_of_ten cs h.1)

pub number_means : (least n : ℕ) → least ≤ n → n < 2 ^ 32 → MeansOne (Number least n) (word_piece (decimal n))
number_means least n above below =
    let numeral = decimal_is_IsNumeral n (omega arith) in
    λ at. record {
      word = refl;
      digits = digits_of_ten (decimal n) numeral.0.1;
      value = sym numeral.1;
      above = above;
      below = below;
    }

pub position_means : (at : ℕ) → at < 2 ^ 64 → MeansOne (Position at) (position_piece (position_text at))
position_means at small = λ place. (refl, position_text_spells at small)

pub setting_means : (v : Setting) → MeansOne (Value v) (word_piece (setting_word v))
setting_means setting.RemoteApply = λ at. (inl refl, refl)
setting_means setting.On = λ at. (inl refl, refl)
setting_means setting.RemoteWrite = λ at. (inl refl, refl)
setting_means setting.Local = λ at. (inl refl, refl)
setting_means setting.Off = λ at. (inl refl, refl)

pub bytes_small : (body : List ℕ) → All (λ b. b < 256) body → IsBytes body
bytes_small [] h i = omega arith
bytes_small (b ∷ bs) h zero = All-head (λ b. b < 256) b bs h
bytes_small (b ∷ bs) h (suc i) = bytes_small bs (All-tail (λ b. b < 256) b bs h) i

pub body_means : (body : List ℕ) → All (λ b. b < 256) body → MeansOne (Body body) (text_piece (encode_lower body))
body_means body small = λ at. (refl, decode_of-encode_lower body (bytes_small body small))

pub list_means : (list : Listing) → IsListing list → MeansOne (Names list) (text_piece (names.list_spelling list))
list_means list is = λ at. (refl, spelling_is_read list is)

pub equals_means : MeansOne (Sign equals_piece.kind) equals_piece
equals_means = λ at. refl
