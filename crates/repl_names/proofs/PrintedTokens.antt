-- The tokens of a list's spelling, from its end to its front.
use Rattle.std.proofs.Common.{◌≡◌, ℕ, ◌+◌, ◌<◌, ◌^◌, ◌==◌, List, [], ◌∷◌, ◌++◌, length, codes, bytes_eq, Bool, true, false, cond, get_or, Some, None, refl, sym, ap, ◌∙◌, subst, inl, inr, arith, All, decimal}
use Rattle.std.specs.Char.{is_ascii_digit}
use Rattle.std.specs.Str.Parse.{AllDigits}
use Rattle.std.proofs.lemmas.Bool.{cond-true, cond-false}
use Rattle.std.proofs.lemmas.Bool.Decides.{nat_tests}
use Rattle.std.proofs.lemmas.Fmt.{decimal_is_IsNumeral, decimal_nonempty}
use Rattle.std.proofs.lemmas.List.{append_assoc}
use Rattle.std.proofs.lemmas.List.Elements.{All-weaker, All-from_recursion, All-nil, All-cons, All-head, All-tail}
use Rattle.std.proofs.lemmas.Slice.Eq.{bytes_eq-Decides}
use Rattle.repl_text.specs.Text.{IsText}
use Rattle.repl_token.specs.declared.class.Class.TheVariants as class
use Rattle.repl_token.specs.declared.token.Kind.TheVariants as raw
use Rattle.repl_token.specs.Class.{is_blank, is_digit, is_inside}
use Rattle.repl_token.specs.Token.{EndsBefore, quoted}
use Rattle.repl_token.proofs.Runs.{run_of}
use Rattle.repl_token.proofs.Written.{IsTokenAs, read_end, one_blank}
use Rattle.repl_token.proofs.Written as written
use Rattle.repl_names.specs.declared.list.Method.{Method}
use Rattle.repl_names.specs.declared.list.Method.TheVariants as method
use Rattle.repl_names.specs.declared.token.Kind.{Kind}
use Rattle.repl_names.specs.declared.token.Kind.TheVariants as kind
use Rattle.repl_names.specs.declared.token.Token.{Token}
use Rattle.repl_names.specs.StandbyList.{Listing, IsListing, Demands, name_spelling, names_spelling, method_spelling, spelling_of, list_spelling}
use Rattle.repl_names.specs.Token.{list_class, list_token, is_space, is_letter, sign_kind, said, ReadsListTokens}
use Rattle.repl_names.proofs.TokenKinds.{said_text}
use Rattle.repl_names.specs.Grammar.{IsName, AreNames, Spells, SaysList, keyword, value_of}

-- a token of a list, at any place
abbrev token_of : Kind → List ℕ → ℕ → Token
token_of k text place = record { kind = k; place = place; text = text }

-- the token after these blanks, which begin at this place
abbrev token_past : ℕ → List ℕ → Kind → List ℕ → Token
token_past at blanks k text = token_of k text (at + length blanks)

-- these bytes spell a token of this kind with this text
abbrev IsToken : Kind → List ℕ → List ℕ → List ℕ → Type 0
IsToken k text spelled past = IsTokenAs list_class list_token (token_of k text) spelled past

read_next : (at : ℕ) (blanks spelled past : List ℕ) (k : Kind) (text : List ℕ) (tokens : List Token)
    → All (λ c. is_blank (list_class c) ≡ true) blanks
    → IsToken k text spelled past → ReadsListTokens (at + length blanks + length spelled) past tokens
    → ReadsListTokens at (blanks ++ spelled ++ past) (token_past at blanks k text ∷ tokens)
read_next at blanks spelled past k text tokens blank is reads = written.read_next list_class list_token at blanks spelled past
    (token_of k text) tokens blank is reads

no_blank : All (λ c. is_blank (list_class c) ≡ true) []
no_blank = written.no_blank list_class

one_space : All (λ c. is_blank (list_class c) ≡ true) (32 ∷ [])
one_space = one_blank list_class 32 refl

-- a byte that is a token of its own
sign_token : (sign : ℕ) (k : Kind) (text past : List ℕ) → list_class sign ≡ class.Alone
    → ((place : ℕ) → said (sign_kind sign) place [] ≡ token_of k text place)
    → IsToken k text (sign ∷ []) past
sign_token sign k text past alone means = record { kind = raw.Alone sign; text = []; is = (refl, refl, alone); means = means }

comma_token : (past : List ℕ) → IsToken kind.Comma [] (codes ",") past
comma_token past = sign_token 44 kind.Comma [] past refl (λ place. refl)

opening_token : (past : List ℕ) → IsToken kind.Opening [] (codes "(") past
opening_token past = sign_token 40 kind.Opening [] past refl (λ place. refl)

closing_token : (past : List ℕ) → IsToken kind.Closing [] (codes ")") past
closing_token past = sign_token 41 kind.Closing [] past refl (λ place. refl)

quoted_token : (name past : List ℕ) → IsText name → EndsBefore (λ c. c == 34) past → IsToken kind.Quoted name (quoted 34 name) past
quoted_token name past texts ends = record {
  kind = raw.Quoted 34;
  text = name;
  is = (refl, record { spelled = refl; ends = ends });
  means = λ place. said_text kind.Quoted place name (λ e. cc) texts;
}

-- a name is printed as `*` or in quotes
record IsPrinted (name past : List ℕ) : Type 0 where
  kind_of : Kind
  is_name : IsName kind_of
  is_token : IsToken kind_of name (name_spelling name) past

printed_name : (name past : List ℕ) → IsText name → EndsBefore (λ c. c == 34) past → IsPrinted name past
printed_name name past texts ends = by_test (bytes_eq name (codes "*")) refl
  where
    by_test : (b : Bool) → bytes_eq name (codes "*") ≡ b → IsPrinted name past
    by_test true e =
        let star : name ≡ codes "*" = (bytes_eq-Decides name (codes "*")).0 e in
        record {
          kind_of = kind.Star;
          is_name = inr (inr (inr refl));
          is_token = subst
              (λ (text : List ℕ). IsToken kind.Star name text past) (sym (ap (λ b. cond b (codes "*") (quoted 34 name)) e))
              (subst (λ (text : List ℕ). IsToken kind.Star text (codes "*") past) (sym star)
              (sign_token 42 kind.Star (codes "*") past refl (λ place. refl)));
        }
    by_test false e =
        record {
          kind_of = kind.Quoted;
          is_name = inr (inr (inl refl));
          is_token = subst (λ (text : List ℕ). IsToken kind.Quoted name text past)
              (sym (ap (λ b. cond b (codes "*") (quoted 34 name)) e)) (quoted_token name past texts ends);
        }

-- the names, and the parenthesis that closes them
record ReadsNames (at : ℕ) (bytes : List ℕ) (names : List (List ℕ)) : Type 0 where
  inside : List Token
  closing : Token
  reads : ReadsListTokens at bytes (inside ++ closing ∷ [])
  are_names : AreNames inside names
  closes : closing.kind ≡ kind.Closing

-- names after blanks: a space, but for the first
read_names : (at : ℕ) (blanks : List ℕ) (names : List (List ℕ)) → All (λ c. is_blank (list_class c) ≡ true) blanks → 0 < length names
    → All IsText names → ReadsNames at (blanks ++ names_spelling names ++ codes ")") names
read_names at blanks [] blank some texts = absurd (omega arith)
read_names at blanks (name ∷ []) blank some texts =
    let p = printed_name name (codes ")") (All-head IsText name [] texts) refl in
    let end : ℕ = at + length blanks + length (name_spelling name) in
    record {
      inside = token_past at blanks p.kind_of name ∷ [];
      closing = token_past end [] kind.Closing [];
      reads = read_next at blanks (name_spelling name) (codes ")") p.kind_of name
          (token_past end [] kind.Closing [] ∷ []) blank p.is_token (read_next end [] (codes ")") [] kind.Closing [] [] no_blank
          (closing_token []) (read_end list_class list_token (end + 0 + 1)));
      are_names = (p.is_name, refl);
      closes = refl;
    }
read_names at blanks (name ∷ second ∷ names) blank some texts =
    let end : ℕ = at + length blanks + length (name_spelling name) in
    let others = read_names (end + 0 + 1) (codes " ") (second ∷ names) one_space (omega arith)
    (All-tail IsText name (second ∷ names) texts) in
    let rest : List ℕ = codes " " ++ names_spelling (second ∷ names) ++ codes ")" in
    let p = printed_name name (44 ∷ rest) (All-head IsText name (second ∷ names) texts) refl in
    let comma : Token = token_past end [] kind.Comma [] in
    let parts : blanks ++ name_spelling name ++ 44 ∷ rest ≡ blanks ++ names_spelling (name ∷ second ∷ names) ++ codes ")" =
    simp append_assoc in
    let reads_comma : ReadsListTokens end (44 ∷ rest) (comma ∷ others.inside ++ others.closing ∷ []) =
    read_next end [] (codes ",") rest kind.Comma [] (others.inside ++ others.closing ∷ []) no_blank (comma_token rest) others.reads in
    record {
      inside = token_past at blanks p.kind_of name ∷ comma ∷ others.inside;
      closing = others.closing;
      reads = subst (λ bytes. ReadsListTokens at bytes (token_past at blanks p.kind_of name ∷ comma ∷ others.inside ++ others.closing ∷ [])) parts
          (read_next at blanks (name_spelling name) (44 ∷ rest) p.kind_of name
          (comma ∷ others.inside ++ others.closing ∷ []) blank p.is_token reads_comma);
      are_names = (p.is_name, refl, (second ∷ names, refl, others.are_names));
      closes = others.closes;
    }

-- a keyword is a word
read_keyword : (m : Method) (past : List ℕ) → IsToken (keyword m) (method_spelling m) (method_spelling m) (32 ∷ past)
read_keyword method.First past = record {
  kind = raw.Word;
  text = codes "FIRST";
  is = (
    refl,
    record {
      first = 70;
      others = codes "IRST";
      parts = refl;
      starts = refl;
      continues = All-from_recursion (λ c. is_inside (list_class c) ≡ true) (codes "IRST") (refl, (refl, (refl, (refl, tt))));
      ends = refl;
    },
  );
  means = λ place. refl;
}
read_keyword method.Any past = record {
  kind = raw.Word;
  text = codes "ANY";
  is = (
    refl,
    record {
      first = 65;
      others = codes "NY";
      parts = refl;
      starts = refl;
      continues = All-from_recursion (λ c. is_inside (list_class c) ≡ true) (codes "NY") (refl, (refl, tt));
      ends = refl;
    },
  );
  means = λ place. refl;
}

digit_is : (c : ℕ) → is_ascii_digit c ≡ true → list_class c ≡ class.Digit
digit_is c e =
    let no_space : is_space c ≡ false = grind (arith, nat_tests) in
    let no_letter : is_letter c ≡ false = grind (arith, nat_tests) in
    cond-false (is_space c) _ _ no_space ∙ cond-false (is_letter c) _ _ no_letter ∙ cond-true (is_ascii_digit c) _ _ e

digit_in_text : (c : ℕ) → is_ascii_digit c ≡ true → (0 < c) × (c < 256)
digit_in_text c e = (grind (arith, nat_tests), grind (arith, nat_tests))

digits_are_ascii : (ds : List ℕ) → AllDigits 10 ds → All (λ c. is_ascii_digit c ≡ true) ds
digits_are_ascii [] h = All-nil (λ c. is_ascii_digit c ≡ true)
digits_are_ascii (c ∷ cs) h = All-cons (λ c. is_ascii_digit c ≡ true) c cs (grind (arith, nat_tests)) (digits_are_ascii cs h.1)

read_number : (n : ℕ) (past : List ℕ) → n < 2 ^ 64 → IsToken kind.Number (decimal n) (decimal n) (32 ∷ past)
read_number n past small =
    let digits = decimal n in
    let some = decimal_nonempty n small in
    let all = digits_are_ascii digits (decimal_is_IsNumeral n small).0.1 in
    let first : is_ascii_digit (get_or digits 0 0) ≡ true = all 0 0 some in
    let passes = All-weaker (λ c. is_ascii_digit c ≡ true) (λ c. is_digit (list_class c) ≡ true)
    (λ c e. ap is_digit (digit_is c e)) digits all in
    let texts : IsText digits = All-weaker (λ c. is_ascii_digit c ≡ true) (λ c. (0 < c) × (c < 256)) digit_in_text digits all in
    record {
      kind = raw.Number;
      text = digits;
      is = (refl, run_of list_class class.Digit is_digit digits (32 ∷ past) some (digit_is (get_or digits 0 0) first) passes refl);
      means = λ place. said_text kind.Number place digits (λ e. cc) texts;
    }

-- a list with names is a keyword, a number and the names in parentheses
spells_some : (list : Listing) (names : List (List ℕ)) → list.names ≡ names → 0 < length names → All IsText names → list.number < 2 ^ 64
    → Spells (method_spelling list.method ++ codes " " ++ decimal list.number ++ codes " (" ++ names_spelling names ++ codes ")") list
spells_some list names is some texts small =
    let word : List ℕ = method_spelling list.method in
    let digits : List ℕ = decimal list.number in
    let after_word : ℕ = 0 + 0 + length word in
    let after_number : ℕ = after_word + 1 + length digits in
    let inner = read_names (after_number + 1 + 1) [] names no_blank some texts in
    let opening : Token = token_past after_number (codes " ") kind.Opening [] in
    let number : Token = token_past after_word (codes " ") kind.Number digits in
    let chosen : Token = token_past 0 [] (keyword list.method) word in
    let tail : List ℕ = names_spelling names ++ codes ")" in
    let counted : List Token = number ∷ opening ∷ inner.inside ++ inner.closing ∷ [] in
    let reads_opening : ReadsListTokens after_number (codes " (" ++ tail) (opening ∷ inner.inside ++ inner.closing ∷ []) =
    read_next after_number (codes " ") (codes "(") tail kind.Opening [] (inner.inside ++ inner.closing ∷ []) one_space
    (opening_token tail) inner.reads in
    let reads_number : ReadsListTokens after_word (codes " " ++ digits ++ (codes " (" ++ tail)) counted =
    read_next after_word (codes " ") digits (codes " (" ++ tail) kind.Number digits
    (opening ∷ inner.inside ++ inner.closing ∷ []) one_space (read_number list.number (40 ∷ tail) small) reads_opening in
    let reads_word : ReadsListTokens 0 (word ++ (codes " " ++ digits ++ (codes " (" ++ tail))) (chosen ∷ counted) =
    read_next 0 [] word (codes " " ++ digits ++ (codes " (" ++ tail)) (keyword list.method) word counted no_blank
    (read_keyword list.method (digits ++ (codes " (" ++ tail))) reads_number in
    let parts : word ++ (codes " " ++ digits ++
    (codes " (" ++ tail)) ≡ word ++ codes " " ++ digits ++ codes " (" ++ names_spelling names ++ codes ")" = simp append_assoc in
    record {
      tokens = chosen ∷ counted;
      number = Some number;
      reads = subst (λ bytes. ReadsListTokens 0 bytes (chosen ∷ counted)) parts reads_word;
      says = inr (record {
        chosen = chosen;
        others = counted;
        parts = refl;
        chooses = refl;
        are_counted = record {
          opening = opening;
          inside = inner.inside;
          closing = inner.closing;
          parts = refl;
          is_number = refl;
          opens = refl;
          are_names = subst (AreNames inner.inside) (sym is) inner.are_names;
          closes = inner.closes;
        };
      });
      value = sym (decimal_is_IsNumeral list.number small).1;
    }

spells : (list : Listing) (names : List (List ℕ)) → list.names ≡ names → All IsText names → Demands names list.method list.number
    → Spells (spelling_of list names) list
spells list [] is texts demands = record {
  tokens = [];
  number = None;
  reads = read_end list_class list_token 0;
  says = (demands.0, inl (refl, is));
  value = demands.1 ∙ ap (value_of None) (sym is);
}
spells list (name ∷ names) is texts demands = spells_some list (name ∷ names) is (omega arith) texts (omega (arith, demands.1))

-- what is printed of a list says it
pub spelling_is_read : (list : Listing) → IsListing list → SaysList (list_spelling list) list
spelling_is_read list h = record { spells = spells list list.names refl h.texts h.demands; is_listing = h }
