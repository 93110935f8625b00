-- What the lexer's tokens are to a list.
use Rattle.std.proofs.Common.{◌≡◌, ◌≢◌, ℕ, zero, suc, ◌<◌, Bool, true, false, ◌&&◌, ◌==◌, nat_lt, if◌then◌else◌, List, [], ◌∷◌, map, slice_get, codes, bytes_eq, Some, refl, sym, ap, subst, ◌∙◌, ◌⊎◌, inl, inr, arith}
use Rattle.std.specs.Char.{to_ascii_lowercase, is_ascii_digit}
use Rattle.std.specs.List.{All}
use Rattle.std.proofs.lemmas.Bool.{cond-true, cond-false, false_from_ne_true}
use Rattle.std.proofs.lemmas.Bool.Decides.{nat_tests}
use Rattle.std.proofs.lemmas.List.Elements.{All-weaker}
use Rattle.std.proofs.lemmas.List.Sums.{AllPass-from_list_all, list_all-from_AllPass}
use Rattle.repl_text.specs.Text.{IsText}
use Rattle.repl_token.specs.declared.token.Kind as lexer
use Rattle.repl_token.specs.declared.token.Kind.TheVariants as raw
use Rattle.repl_token.specs.declared.class.Class.TheVariants as class
use Rattle.repl_token.specs.Class.{is_digit}
use Rattle.repl_token.specs.Token.{RawToken, IsToken}
use Rattle.repl_token.specs.Token as lexer_token
use Rattle.repl_token.proofs.Runs.{run_all}
use Rattle.repl_names.specs.declared.token.Kind.{Kind}
use Rattle.repl_names.specs.declared.token.Kind.TheVariants as kind
use Rattle.repl_names.specs.declared.token.Token.{Token}
use Rattle.repl_names.specs.Token.{list_class, list_token, holds_text, kind_of, said, ReadsListTokens}

-- ---- texts

passes_byte : (b : ℕ) → (0 < b) × (b < 256) → (nat_lt 0 b && nat_lt b 256) ≡ true
passes_byte b h = let some = h.0 in let small = h.1 in grind (arith, nat_tests)

byte_passes : (b : ℕ) → (nat_lt 0 b && nat_lt b 256) ≡ true → (0 < b) × (b < 256)
byte_passes b e = (grind (arith, nat_tests), grind (arith, nat_tests))

pub text_holds : (text : List ℕ) → IsText text → holds_text text ≡ true
text_holds text h = list_all-from_AllPass (λ b. nat_lt 0 b && nat_lt b 256) text
    (All-weaker (λ b. (0 < b) × (b < 256)) (λ b. (nat_lt 0 b && nat_lt b 256) ≡ true) passes_byte text h)

pub holds_is_text : (text : List ℕ) → holds_text text ≡ true → IsText text
holds_is_text text e = All-weaker (λ b. (nat_lt 0 b && nat_lt b 256) ≡ true) (λ b. (0 < b) × (b < 256)) byte_passes text
    (AllPass-from_list_all (λ b. nat_lt 0 b && nat_lt b 256) text e)

pub text_holds_none : (text : List ℕ) → ¬ IsText text → holds_text text ≡ false
text_holds_none text none = false_from_ne_true (holds_text text) (λ e. none (holds_is_text text e))

-- ---- a token of a list

abbrev pub own : Kind → ℕ → List ℕ → Token
own k place text = record { kind = k; place = place; text = text }

-- `*`, or a token that is wrong where it is no text
abbrev IsSaid : Kind → ℕ → List ℕ → Type 0
IsSaid k place text = ((k ≡ kind.Star) × (said k place text ≡ own kind.Star place (codes "*")))
    ⊎ ((k ≢ kind.Star) × (said k place text ≡ (if holds_text text then own k place text else own kind.Wrong place [])))

is_said : (k : Kind) (place : ℕ) (text : List ℕ) → IsSaid k place text
is_said kind.Star place text = inl (refl, refl)
is_said kind.Word place text = inr (λ e. cc, refl)
is_said kind.First place text = inr (λ e. cc, refl)
is_said kind.Any place text = inr (λ e. cc, refl)
is_said kind.Number place text = inr (λ e. cc, refl)
is_said kind.Quoted place text = inr (λ e. cc, refl)
is_said kind.Comma place text = inr (λ e. cc, refl)
is_said kind.Opening place text = inr (λ e. cc, refl)
is_said kind.Closing place text = inr (λ e. cc, refl)
is_said kind.Wrong place text = inr (λ e. cc, refl)
is_said kind.Unclosed place text = inr (λ e. cc, refl)

said_as : (k : Kind) (place : ℕ) (text : List ℕ) → k ≢ kind.Star
    → said k place text ≡ (if holds_text text then own k place text else own kind.Wrong place [])
said_as k place text other = elim (is_said k place text) [ inl s ↦ absurd (other s.0) | inr s ↦ s.1 ]

pub said_text : (k : Kind) (place : ℕ) (text : List ℕ) → k ≢ kind.Star → IsText text → said k place text ≡ own k place text
said_text k place text other is = said_as k place text other ∙ cond-true (holds_text text) _ _ (text_holds text is)

said_wrong : (k : Kind) (place : ℕ) (text : List ℕ) → k ≢ kind.Star → ¬ IsText text → said k place text ≡ own kind.Wrong place []
said_wrong k place text other none = said_as k place text other ∙ cond-false (holds_text text) _ _ (text_holds_none text none)

-- the same of the parts that the reader has

said_of : (t : RawToken) (k : lexer.Kind) (place : ℕ) (items looked : List ℕ) (l : Kind)
    → t ≡ record { kind = k; place = place; text = items } → looked ≡ items
    → l ≡ kind_of k looked → said l place items ≡ list_token t
said_of t k place items looked l e f is = ap (λ j. said j place items) (is ∙ ap (kind_of k) f) ∙ ap list_token (sym e)

pub text_token : (t : RawToken) (k : lexer.Kind) (place : ℕ) (items looked text : List ℕ) (l : Kind)
    → t ≡ record { kind = k; place = place; text = items } → looked ≡ items
    → l ≡ kind_of k looked → l ≢ kind.Star → text ≡ items → IsText items → own l place text ≡ list_token t
text_token t k place items looked text l e f is other same texts =
    ap (own l place) same ∙ sym (said_text l place items other texts) ∙ said_of t k place items looked l e f is

pub wrong_token : (t : RawToken) (k : lexer.Kind) (place : ℕ) (items looked text : List ℕ) (l : Kind)
    → t ≡ record { kind = k; place = place; text = items } → looked ≡ items
    → l ≡ kind_of k looked → l ≢ kind.Star → text ≡ [] → ¬ IsText items → own kind.Wrong place text ≡ list_token t
wrong_token t k place items looked text l e f is other same none =
    ap (own kind.Wrong place) same ∙ sym (said_wrong l place items other none) ∙ said_of t k place items looked l e f is

-- ---- numbers

digit_class : (c : ℕ) → is_digit (list_class c) ≡ true → is_ascii_digit c ≡ true
digit_class c e = grind (arith, nat_tests)

-- only a number of the lexer is a number

if_number : (b : Bool) (k : Kind) (place : ℕ) (text : List ℕ) (t : Token) → t ≡ (if b then own k place text else own kind.Wrong place [])
    → t.kind ≡ kind.Number
    → (k ≡ kind.Number) × (t.text ≡ text)
if_number true k place text t e n = (sym (ap (λ (u : Token). u.kind) e) ∙ n, ap (λ (u : Token). u.text) e)
if_number false k place text t e n = absurd (let wrong : kind.Wrong ≡ kind.Number = sym (ap (λ (u : Token). u.kind) e) ∙ n in cc)

said_number : (k : Kind) (place : ℕ) (text : List ℕ) → (said k place text).kind ≡ kind.Number
    → (k ≡ kind.Number) × ((said k place text).text ≡ text)
said_number k place text n = elim (is_said k place text) [
  | inl s ↦ absurd (let star : kind.Star ≡ kind.Number = sym (ap (λ (u : Token). u.kind) s.1) ∙ n in cc)
  | inr s ↦ if_number (holds_text text) k place text (said k place text) s.1 n
]

word_no_number : (a b : Bool) → (if a then kind.First else if b then kind.Any else kind.Word) ≡ kind.Number → ⊥
word_no_number true b e = cc
word_no_number false true e = cc
word_no_number false false e = cc

sign_no_number : (a b c d : Bool)
    → (if a then kind.Star else if b then kind.Comma else if c then kind.Opening else if d then kind.Closing else kind.Wrong) ≡ kind.Number
    → ⊥
sign_no_number true b c d e = cc
sign_no_number false true c d e = cc
sign_no_number false false true d e = cc
sign_no_number false false false true e = cc
sign_no_number false false false false e = cc

raw_number : (k : lexer.Kind) (text : List ℕ) → kind_of k text ≡ kind.Number → k ≡ raw.Number
raw_number raw.Word text e = absurd (word_no_number (bytes_eq (map to_ascii_lowercase text) (codes "first"))
    (bytes_eq (map to_ascii_lowercase text) (codes "any")) e)
raw_number raw.Number text e = refl
raw_number (raw.Alone sign) text e = absurd (sign_no_number (sign == 42) (sign == 44) (sign == 40) (sign == 41) e)
raw_number (raw.Quoted quote) text e = absurd cc
raw_number raw.Wrong text e = absurd cc
raw_number (raw.Unclosed quote) text e = absurd cc

run_digits : (text past : List ℕ) → IsToken list_class raw.Number text text past → All (λ c. is_ascii_digit c ≡ true) text
run_digits text past h = All-weaker (λ c. is_digit (list_class c) ≡ true) (λ c. is_ascii_digit c ≡ true) digit_class text
    (run_all list_class class.Digit is_digit text past refl h.1)

token_digits : (t : RawToken) (spelled past : List ℕ) → IsToken list_class t.kind t.text spelled past
    → (list_token t).kind ≡ kind.Number
    → All (λ c. is_ascii_digit c ≡ true) (list_token t).text
token_digits t spelled past is n =
    let number = said_number (kind_of t.kind t.text) t.place t.text n in
    let k = raw_number t.kind t.text number.0 in
    let run : IsToken list_class raw.Number t.text spelled past = subst
    (λ (j : lexer.Kind). IsToken list_class j t.text spelled past) k is in
    let digits = run_digits spelled past (refl, run.1) in
    subst (All (λ c. is_ascii_digit c ≡ true)) (sym (number.1 ∙ run.0)) digits

raw_digits : (at : ℕ) (bytes : List ℕ) (tokens : List RawToken) (i : ℕ) (number : Token) → lexer_token.Reads list_class at bytes tokens
    → slice_get (map list_token tokens) i ≡ Some number → number.kind ≡ kind.Number → All (λ c. is_ascii_digit c ≡ true) number.text
raw_digits at bytes [] i number r e k = absurd cc
raw_digits at bytes (t ∷ tokens) zero number (past, place, next, size, others) e k =
    let same : list_token t ≡ number = cc in
    subst (λ (n : Token). All (λ c. is_ascii_digit c ≡ true) n.text) same
    (token_digits t next.spelled past next.is (ap (λ (n : Token). n.kind) same ∙ k))
raw_digits at bytes (t ∷ tokens) (suc i) number (past, place, next, size, others) e k = raw_digits place past tokens i number others e k

-- the digits of a number among the tokens of a list
pub reads_number : (at : ℕ) (bytes : List ℕ) (tokens : List Token) (i : ℕ) (number : Token) → ReadsListTokens at bytes tokens
    → slice_get tokens i ≡ Some number
    → number.kind ≡ kind.Number → All (λ c. is_ascii_digit c ≡ true) number.text
reads_number at bytes tokens i number r e k = raw_digits at bytes r.0 i number r.1 (ap (λ ts. slice_get ts i) (sym r.2) ∙ e) k
