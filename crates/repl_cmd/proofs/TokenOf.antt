-- The tokens of a text that is written from tokens.
use Rattle.std.proofs.Common.{◌≡◌, ℕ, ◌+◌, ◌<◌, ◌≤◌, ◌^◌, Bool, true, false, ◌==◌, ◌&&◌, List, [], ◌∷◌, ◌++◌, length, get_or, codes, decimal, refl, sym, ap, subst, ◌∙◌, length-append, arith}
use Rattle.std.specs.Char.{digit_value}
use Rattle.std.specs.List.{All, list_any}
use Rattle.std.specs.Str.Parse.{AllDigits}
use Rattle.std.proofs.lemmas.Bool.{and_parts, cond-true, cond-false, or_right, ne_eqb, true≢false}
use Rattle.std.proofs.lemmas.Bool.Decides.{nat_tests}
use Rattle.std.proofs.lemmas.Fmt.{decimal_is_IsNumeral, decimal_nonempty}
use Rattle.std.proofs.lemmas.List.{append-nil, append_assoc}
use Rattle.std.proofs.lemmas.List.Elements.{All-nil, All-cons, All-append, All-weaker}
use Rattle.std.proofs.lemmas.List.Folds.{list_any_none, list_any-append}
use Rattle.repl_lsn.specs.Position.{position_text}
use Rattle.repl_lsn.proofs.Canonical.{position_text_spells}
use Rattle.repl_cmd.specs.declared.token.Kind.{Kind}
use Rattle.repl_cmd.specs.declared.token.Kind.TheVariants as kind
use Rattle.repl_token.specs.declared.class.Class.{Class}
use Rattle.repl_token.specs.declared.class.Class.TheVariants as class
use Rattle.repl_token.specs.declared.token.Kind.TheVariants as raw
use Rattle.repl_token.specs.Class.{is_blank, is_inside}
use Rattle.repl_token.specs.Token.{EndsBefore, quoted}
use Rattle.repl_token.proofs.Runs.{run_of}
use Rattle.repl_token.proofs.Written.{IsTokenAs, read_last, one_blank}
use Rattle.repl_token.proofs.Written as written
use Rattle.repl_cmd.specs.Token.{Lexeme, ReadsLexemes, command_class, command_token, is_space, is_word_byte, is_run_byte, run_kind}

-- ---- a token in front of those that were read

-- a token of a command, at any place
abbrev pub token_of : Kind → List ℕ → ℕ → Lexeme
token_of k text place = record { kind = k; place = place; text = text }

-- these bytes spell a token of this kind with this text
abbrev pub IsToken : Kind → List ℕ → List ℕ → List ℕ → Type 0
IsToken k text spelled past = IsTokenAs command_class command_token (token_of k text) spelled past

read_next : (at : ℕ) (blanks spelled past : List ℕ) (k : Kind) (text : List ℕ) (tokens : List Lexeme)
    → All (λ c. is_blank (command_class c) ≡ true) blanks
    → IsToken k text spelled past → ReadsLexemes (at + length blanks + length spelled) past tokens
    → ReadsLexemes at (blanks ++ spelled ++ past) (token_of k text (at + length blanks) ∷ tokens)
read_next at blanks spelled past k text tokens blank is reads = written.read_next command_class command_token at blanks spelled past
    (token_of k text) tokens blank is reads

no_blank : All (λ c. is_blank (command_class c) ≡ true) []
no_blank = written.no_blank command_class

one_space : All (λ c. is_blank (command_class c) ≡ true) (32 ∷ [])
one_space = one_blank command_class 32 refl

-- ---- tokens of each kind

run_class : (c : ℕ) → is_run_byte c ≡ true → command_class c ≡ class.Letter
run_class c e =
    let no_space : is_space c ≡ false = grind (arith, nat_tests) in
    cond-false (is_space c) _ _ no_space ∙ cond-true (is_run_byte c) _ _ e

run_is_inside : (run : List ℕ) → All (λ c. is_run_byte c ≡ true) run → All (λ c. is_inside (command_class c) ≡ true) run
run_is_inside run h = All-weaker (λ c. is_run_byte c ≡ true) (λ c. is_inside (command_class c) ≡ true)
    (λ c e. ap is_inside (run_class c e)) run h

-- a run, of which there is some, and no more after it
run_token : (k : Kind) (run past : List ℕ) → 0 < length run → All (λ c. is_run_byte c ≡ true) run
    → EndsBefore (λ c. is_inside (command_class c)) past
    → run_kind run ≡ k → IsToken k run run past
run_token k run past some bytes ends is = record {
  kind = raw.Word;
  text = run;
  is = (
    refl,
    run_of command_class class.Letter is_inside run past some (run_class (get_or run 0 0) (bytes 0 0 some))
        (run_is_inside run bytes) ends,
  );
  means = λ place. ap (λ l. token_of l run place) is;
}

word_runs : (c : ℕ) → is_word_byte c ≡ true → is_run_byte c ≡ true
word_runs c e = grind (arith, nat_tests)

word_is_run : (word : List ℕ) → All (λ c. is_word_byte c ≡ true) word → All (λ c. is_run_byte c ≡ true) word
word_is_run word h = All-weaker (λ c. is_word_byte c ≡ true) (λ c. is_run_byte c ≡ true) word_runs word h

no_slash : (c : ℕ) → is_word_byte c ≡ true → (c == 47) ≡ false
no_slash c e = grind (arith, nat_tests)

-- bytes of words, of which there are some
pub word_token : (word past : List ℕ) → 0 < length word → All (λ c. is_word_byte c ≡ true) word
    → EndsBefore (λ c. is_inside (command_class c)) past
    → IsToken kind.Word word word past
word_token word past some bytes ends =
    let none = list_any_none (λ c. c == 47) word (All-weaker (λ c. is_word_byte c ≡ true) (λ c. (c == 47) ≡ false) no_slash word bytes) in
    run_token kind.Word word past some (word_is_run word bytes) ends (cond-false (list_any (λ c. c == 47) word) _ _ none)

slash_in : (high low : List ℕ) → list_any (λ c. c == 47) (high ++ 47 ∷ low) ≡ true
slash_in high low = list_any-append (λ c. c == 47) high (47 ∷ low)
    ∙ or_right (list_any (λ c. c == 47) high) (list_any (λ c. c == 47) (47 ∷ low)) refl

-- bytes of words with a slash between them
pub position_token : (high low past : List ℕ) → All (λ c. is_word_byte c ≡ true) high → All (λ c. is_word_byte c ≡ true) low
    → EndsBefore (λ c. is_inside (command_class c)) past → IsToken kind.Position (high ++ 47 ∷ low) (high ++ 47 ∷ low) past
position_token high low past above below ends =
    let bytes = All-append (λ c. is_run_byte c ≡ true) high (47 ∷ low) (word_is_run high above)
    (All-cons (λ c. is_run_byte c ≡ true) 47 low refl (word_is_run low below)) in
    run_token kind.Position (high ++ 47 ∷ low) past (omega (arith, length-append high (47 ∷ low))) bytes ends
    (cond-true (list_any (λ c. c == 47) (high ++ 47 ∷ low)) _ _ (slash_in high low))

pub name_token : (name past : List ℕ) → EndsBefore (λ c. c == 34) past → IsToken kind.Name name (quoted 34 name) past
name_token name past ends = record {
  kind = raw.Quoted 34;
  text = name;
  is = (refl, record { spelled = refl; ends = ends });
  means = λ place. refl;
}

pub text_token : (text past : List ℕ) → EndsBefore (λ c. c == 39) past → IsToken kind.Text text (quoted 39 text) past
text_token text past ends = record {
  kind = raw.Quoted 39;
  text = text;
  is = (refl, record { spelled = refl; ends = ends });
  means = λ place. refl;
}

pub equals_token : (past : List ℕ) → IsToken kind.Equals [] (codes "=") past
equals_token past = record { kind = raw.Alone 61; text = []; is = (refl, refl, refl); means = λ place. refl }

-- ---- texts with one space between tokens

-- a token, and the bytes that spell it
pub record Piece : Type 0 where
  pub kind : Kind
  pub text : List ℕ
  pub spelled : List ℕ

-- nothing stands here, or a blank
abbrev pub IsApart : List ℕ → Type 0
IsApart [] = Unit {0}
IsApart (c ∷ past) = is_blank (command_class c) ≡ true

-- the bytes spell the token, where it stands apart from what is after it
abbrev pub IsPiece : Piece → Type 0
IsPiece p = (past : List ℕ) → IsApart past → IsToken p.kind p.text p.spelled past

abbrev pub ArePieces : List Piece → Type 0
ArePieces [] = Unit {0}
ArePieces (p ∷ ps) = IsPiece p × ArePieces ps

abbrev pub spaced : Piece → List Piece → List ℕ
spaced p [] = p.spelled
spaced p (q ∷ qs) = p.spelled ++ 32 ∷ spaced q qs

-- more tokens
pub spaced_append : (p : Piece) (ps : List Piece) (q : Piece) (qs : List Piece) → spaced p (ps ++ q ∷ qs) ≡ spaced p ps ++ 32 ∷ spaced q qs
spaced_append p [] q qs = refl
spaced_append p (r ∷ rs) q qs = ap (λ rest. p.spelled ++ 32 ∷ rest) (spaced_append r rs q qs)
    ∙ sym (append_assoc p.spelled (32 ∷ spaced r rs) (32 ∷ spaced q qs))

pub are_append : (ps qs : List Piece) → ArePieces ps → ArePieces qs → ArePieces (ps ++ qs)
are_append [] qs a b = b
are_append (p ∷ ps) qs a b = (a.0, are_append ps qs a.1 b)

-- the tokens, the first of them at this place
abbrev pub tokens_from : ℕ → Piece → List Piece → List Lexeme
tokens_from at p [] = record { kind = p.kind; place = at; text = p.text } ∷ []
tokens_from at p (q ∷ qs) = record { kind = p.kind; place = at; text = p.text } ∷ tokens_from (at + length p.spelled + 1) q qs

-- such a text has these tokens
pub spaced_reads : (at : ℕ) (blanks : List ℕ) (p : Piece) (ps : List Piece) → All (λ c. is_blank (command_class c) ≡ true) blanks
    → ArePieces (p ∷ ps) → ReadsLexemes at (blanks ++ spaced p ps) (tokens_from (at + length blanks) p ps)
spaced_reads at blanks p [] blank are = read_last command_class command_token at blanks p.spelled (token_of p.kind p.text) blank
    (are.0 [] tt)
spaced_reads at blanks p (q ∷ qs) blank are =
    let end : ℕ = at + length blanks + length p.spelled in
    let others = spaced_reads end (32 ∷ []) q qs one_space are.1 in
    subst (λ (bytes : List ℕ). ReadsLexemes at bytes (tokens_from (at + length blanks) p (q ∷ qs)))
    (append_assoc blanks p.spelled (32 ∷ spaced q qs))
    (read_next at blanks p.spelled (32 ∷ spaced q qs) p.kind p.text (tokens_from (end + 1) q qs) blank
    (are.0 (32 ∷ spaced q qs) refl) others)

-- a text from its first byte on
pub text_reads : (p : Piece) (ps : List Piece) → ArePieces (p ∷ ps) → ReadsLexemes 0 (spaced p ps) (tokens_from 0 p ps)
text_reads p ps are = spaced_reads 0 [] p ps no_blank are

-- ---- such texts, written from their front

-- the text is these tokens
pub record IsWritten (text : List ℕ) (p : Piece) (ps : List Piece) : Type 0 where
  pub spelled : text ≡ spaced p ps
  pub pieces : ArePieces (p ∷ ps)

pub written_first : (p : Piece) → IsPiece p → IsWritten p.spelled p []
written_first p is = record { spelled = refl; pieces = (is, tt) }

-- a space and one more token
pub written_more : (text : List ℕ) (p : Piece) (ps : List Piece) (q : Piece) → IsWritten text p ps → IsPiece q
    → IsWritten (text ++ 32 ∷ q.spelled) p (ps ++ q ∷ [])
written_more text p ps q h is = record {
  spelled = ap (λ front. front ++ 32 ∷ q.spelled) h.spelled ∙ sym (spaced_append p ps q []);
  pieces = are_append (p ∷ ps) (q ∷ []) h.pieces (is, tt);
}

-- nothing more
pub written_none : (text : List ℕ) (p : Piece) (ps : List Piece) → IsWritten text p ps → IsWritten (text ++ []) p ps
written_none text p ps h = record { spelled = append-nil text ∙ h.spelled; pieces = h.pieces }

-- the same text, in another form
pub written_as : (text other : List ℕ) (p : Piece) (ps : List Piece) → other ≡ text → IsWritten text p ps → IsWritten other p ps
written_as text other p ps e h = record { spelled = e ∙ h.spelled; pieces = h.pieces }

pub written_reads : (text : List ℕ) (p : Piece) (ps : List Piece) → IsWritten text p ps → ReadsLexemes 0 text (tokens_from 0 p ps)
written_reads text p ps h = subst (λ (bytes : List ℕ). ReadsLexemes 0 bytes (tokens_from 0 p ps)) (sym h.spelled) (text_reads p ps h.pieces)

-- the text is these tokens and a space
pub record IsFront (text : List ℕ) (p : Piece) (ps : List Piece) : Type 0 where
  pub spelled : text ≡ spaced p ps ++ 32 ∷ []
  pub pieces : ArePieces (p ∷ ps)

pub front_space : (text : List ℕ) (p : Piece) (ps : List Piece) → IsWritten text p ps → IsFront (text ++ 32 ∷ []) p ps
front_space text p ps h = record { spelled = ap (λ front. front ++ 32 ∷ []) h.spelled; pieces = h.pieces }

pub front_more : (text : List ℕ) (p : Piece) (ps : List Piece) (q : Piece) → IsFront text p ps → IsPiece q
    → IsWritten (text ++ q.spelled) p (ps ++ q ∷ [])
front_more text p ps q h is = record {
  spelled = ap (λ front. front ++ q.spelled) h.spelled ∙ append_assoc (spaced p ps) (32 ∷ []) q.spelled ∙ sym (spaced_append p ps q []);
  pieces = are_append (p ∷ ps) (q ∷ []) h.pieces (is, tt);
}

-- one more token and a space
pub front_word : (text : List ℕ) (p : Piece) (ps : List Piece) (q : Piece) → IsFront text p ps → IsPiece q
    → IsFront (text ++ (q.spelled ++ 32 ∷ [])) p (ps ++ q ∷ [])
front_word text p ps q h is =
    let more = front_more text p ps q h is in
    record { spelled = sym (append_assoc text q.spelled (32 ∷ [])) ∙ ap (λ front. front ++ 32 ∷ []) more.spelled; pieces = more.pieces }

pub front_none : (text : List ℕ) (p : Piece) (ps : List Piece) → IsFront text p ps → IsFront (text ++ []) p ps
front_none text p ps h = record { spelled = append-nil text ∙ h.spelled; pieces = h.pieces }

pub front_as : (text other : List ℕ) (p : Piece) (ps : List Piece) → other ≡ text → IsFront text p ps → IsFront other p ps
front_as text other p ps e h = record { spelled = e ∙ h.spelled; pieces = h.pieces }

-- ---- pieces of each kind

abbrev pub word_piece : List ℕ → Piece
word_piece word = record { kind = kind.Word; text = word; spelled = word }

abbrev pub position_piece : List ℕ → Piece
position_piece text = record { kind = kind.Position; text = text; spelled = text }

abbrev pub name_piece : List ℕ → Piece
name_piece name = record { kind = kind.Name; text = name; spelled = quoted 34 name }

abbrev pub text_piece : List ℕ → Piece
text_piece text = record { kind = kind.Text; text = text; spelled = quoted 39 text }

abbrev pub equals_piece : Piece
equals_piece = record { kind = kind.Equals; text = []; spelled = codes "=" }

apart_ends : (test : ℕ → Bool) → ((c : ℕ) → is_blank (command_class c) ≡ true → test c ≡ false) → (past : List ℕ) → IsApart past
    → EndsBefore test past
apart_ends test blank [] apart = tt
apart_ends test blank (c ∷ past) apart = blank c apart

blank_class : (k : Class) → is_blank k ≡ true → k ≡ class.Blank
blank_class class.Blank e = refl
blank_class class.Alone e = absurd cc
blank_class class.Quote e = absurd cc
blank_class class.Letter e = absurd cc
blank_class class.Digit e = absurd cc
blank_class class.Inner e = absurd cc
blank_class class.Nothing e = absurd cc

blank_no_run : (c : ℕ) → is_blank (command_class c) ≡ true → is_inside (command_class c) ≡ false
blank_no_run c e = ap is_inside (blank_class (command_class c) e)

-- a quote is no blank
blank_no_quote : (c quote : ℕ) → is_blank (command_class quote) ≡ false → is_blank (command_class c) ≡ true → (c == quote) ≡ false
blank_no_quote c quote none e = ne_eqb c quote (λ same. true≢false (sym e ∙ ap (λ b. is_blank (command_class b)) same ∙ none))

pub word_is_piece : (word : List ℕ) → 0 < length word → All (λ c. is_word_byte c ≡ true) word → IsPiece (word_piece word)
word_is_piece word some bytes = λ past apart. word_token word past some bytes
    (apart_ends (λ c. is_inside (command_class c)) blank_no_run past apart)

-- a test of a keyword, which computes
abbrev pub all_word_bytes : List ℕ → Bool
all_word_bytes [] = true
all_word_bytes (c ∷ cs) = is_word_byte c && all_word_bytes cs

word_bytes_pass : (word : List ℕ) → all_word_bytes word ≡ true → All (λ c. is_word_byte c ≡ true) word
word_bytes_pass [] e = All-nil (λ c. is_word_byte c ≡ true)
word_bytes_pass (c ∷ cs) e = All-cons (λ c. is_word_byte c ≡ true) c cs (and_parts (is_word_byte c) (all_word_bytes cs) e).0
    (word_bytes_pass cs (and_parts (is_word_byte c) (all_word_bytes cs) e).1)

pub keyword_is_piece : (word : List ℕ) → 0 < length word → all_word_bytes word ≡ true → IsPiece (word_piece word)
keyword_is_piece word some e = word_is_piece word some (word_bytes_pass word e)

digit_is_word_byte : (c : ℕ) → digit_value c < 16 → is_word_byte c ≡ true
digit_is_word_byte c h = grind (arith, nat_tests)

-- digits in a base up to sixteen
pub digits_are_word_bytes : (base : ℕ) (ds : List ℕ) → base ≤ 16 → AllDigits base ds → All (λ c. is_word_byte c ≡ true) ds
digits_are_word_bytes base [] few h = All-nil (λ c. is_word_byte c ≡ true)
digits_are_word_bytes base (c ∷ cs) few h = All-cons (λ c. is_word_byte c ≡ true) c cs (digit_is_word_byte c (omega (arith, h.0)))
    (digits_are_word_bytes base cs few h.1)

pub number_is_piece : (n : ℕ) → n < 2 ^ 64 → IsPiece (word_piece (decimal n))
number_is_piece n small = word_is_piece (decimal n) (decimal_nonempty n small)
    (digits_are_word_bytes 10 (decimal n) (omega arith) (decimal_is_IsNumeral n small).0.1)

pub position_is_piece : (at : ℕ) → at < 2 ^ 64 → IsPiece (position_piece (position_text at))
position_is_piece at small = λ past apart.
    let s = position_text_spells at small in
    subst (λ (text : List ℕ). IsToken kind.Position text text past) (sym s.parts)
    (position_token s.high s.low past (digits_are_word_bytes 16 s.high (omega arith) s.high_is.hexadecimal)
    (digits_are_word_bytes 16 s.low (omega arith) s.low_is.hexadecimal)
    (apart_ends (λ c. is_inside (command_class c)) blank_no_run past apart))

pub name_is_piece : (name : List ℕ) → IsPiece (name_piece name)
name_is_piece name = λ past apart. name_token name past (apart_ends (λ c. c == 34) (λ c e. blank_no_quote c 34 refl e) past apart)

pub text_is_piece : (text : List ℕ) → IsPiece (text_piece text)
text_is_piece text = λ past apart. text_token text past (apart_ends (λ c. c == 39) (λ c e. blank_no_quote c 39 refl e) past apart)

pub equals_is_piece : IsPiece equals_piece
equals_is_piece = λ past apart. equals_token past
