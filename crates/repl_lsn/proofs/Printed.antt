-- The canonical text of a history says it.
use Rattle.std.proofs.Common.{◌≡◌, ◌≢◌, ℕ, ◌+◌, ◌^◌, ◌<◌, ◌≤◌, true, List, [], ◌∷◌, ◌++◌, length, get_or, take, map, flat_map, decimal, refl, sym, ap, subst, ◌∙◌, inl, inr, append-nil, append_assoc, length-append, arith}
use Rattle.std.proofs.lemmas.Bool.Decides.{nat_tests}
use Rattle.std.proofs.lemmas.Fmt.{decimal_is_IsNumeral, decimal_nonempty}
use Rattle.std.proofs.lemmas.List.{take_more}
use Rattle.std.proofs.lemmas.List.Concat.{flat_map-append}
use Rattle.std.proofs.lemmas.List.Elements.{All-nil, All-cons, All-head, All-tail, All-append}
use Rattle.std.specs.Char.{is_ascii_digit, digit_value}
use Rattle.std.specs.List.{All}
use Rattle.std.specs.Str.Parse.{AllDigits}
use Rattle.repl_lsn.specs.declared.history.Part.{Part}
use Rattle.repl_lsn.specs.declared.history.TheConstants.{HISTORY_LIMIT}
use Rattle.repl_lsn.specs.Line.{is_blank, IsLine}
use Rattle.repl_lsn.specs.Position.{Spells, position_text}
use Rattle.repl_lsn.specs.History.{Path, IsPath, ended, line_text, canonical, SaysPart, SayParts, SaysHistory}
use Rattle.repl_lsn.proofs.Lines.{IsSingle}

-- what the values of a part are
pub record IsPrinted (p : Part) : Type 0 where
  pub number : (0 < p.tli) × (p.tli < 2 ^ 32)
  pub position : Spells (position_text p.switch) p.switch
  pub reason : IsLine p.reason

-- ---- no line feed is in a line

digits_ascii : (ds : List ℕ) → AllDigits 10 ds → All (λ c. is_ascii_digit c ≡ true) ds
digits_ascii [] h = All-nil (λ c. is_ascii_digit c ≡ true)
digits_ascii (c ∷ cs) h = All-cons (λ c. is_ascii_digit c ≡ true) c cs (grind (arith, nat_tests)) (digits_ascii cs h.1)

no_feed : (c radix : ℕ) → radix ≤ 16 → digit_value c < radix → c ≢ 10
no_feed c radix few h e = let feed : digit_value 10 < radix = subst (λ x. digit_value x < radix) e h in omega arith

digits_single : (radix : ℕ) (ds : List ℕ) → radix ≤ 16 → AllDigits radix ds → IsSingle ds
digits_single radix [] few h = All-nil (λ c. c ≢ 10)
digits_single radix (c ∷ cs) few h = All-cons (λ c. c ≢ 10) c cs (no_feed c radix few h.0) (digits_single radix cs few h.1)

position_single : (text : List ℕ) (position : ℕ) → Spells text position → IsSingle text
position_single text position p =
    subst IsSingle (sym p.parts)
    (All-append (λ c. c ≢ 10) p.high (47 ∷ p.low) (digits_single 16 p.high (omega arith) p.high_is.hexadecimal)
    (All-cons (λ c. c ≢ 10) 47 p.low (λ e. omega arith) (digits_single 16 p.low (omega arith) p.low_is.hexadecimal)))

-- a canonical line without its end
abbrev line_of : Part → List ℕ
line_of p = (decimal p.tli ++ (9 ∷ position_text p.switch)) ++ (9 ∷ p.reason)

no_tab : ◌≢◌ {A = ℕ} 9 10
no_tab e = omega arith

line_single : (p : Part) → IsPrinted p → IsSingle (line_of p)
line_single p h =
    let numeral = decimal_is_IsNumeral p.tli (omega (arith, h.number.1)) in
    All-append (λ c. c ≢ 10) (decimal p.tli ++ (9 ∷ position_text p.switch)) (9 ∷ p.reason)
    (All-append (λ c. c ≢ 10) (decimal p.tli) (9 ∷ position_text p.switch) (digits_single 10 (decimal p.tli) (omega arith) numeral.0.1)
    (All-cons (λ c. c ≢ 10) 9 (position_text p.switch) no_tab (position_single (position_text p.switch) p.switch h.position)))
    (All-cons (λ c. c ≢ 10) 9 p.reason no_tab (h.reason).one)

-- ---- and it says the part

blank_tab : All (λ c. is_blank c ≡ true) (9 ∷ [])
blank_tab = All-cons (λ c. is_blank c ≡ true) 9 [] refl (All-nil (λ c. is_blank c ≡ true))

line_says : (p : Part) → IsPrinted p → SaysPart (line_of p) p
line_says p h =
    let small : p.tli < 2 ^ 64 = omega (arith, h.number.1) in
    let numeral = decimal_is_IsNumeral p.tli small in
    record {
      past = (9 ∷ position_text p.switch) ++ (9 ∷ p.reason);
      rest = 9 ∷ p.reason;
      number =
          record {
            lead = [];
            number = decimal p.tli;
            parts = append_assoc (decimal p.tli) (9 ∷ position_text p.switch) (9 ∷ p.reason);
            blank = All-nil (λ c. is_blank c ≡ true);
            digits = digits_ascii (decimal p.tli) numeral.0.1;
            some = decimal_nonempty p.tli small;
            value = sym numeral.1;
            in_range = h.number;
            apart = refl;
          };
      switch =
          record {
            gap = 9 ∷ [];
            position = position_text p.switch;
            parts = refl;
            blank = blank_tab;
            some = omega arith;
            spelled = h.position;
            apart = refl;
          };
      reason =
          record {
            front = 9 ∷ [];
            back = [];
            parts = sym (append-nil (9 ∷ p.reason));
            blank = (blank_tab, All-nil (λ c. is_blank c ≡ true));
            line = h.reason;
          };
    }

-- ---- all lines

lines_canonical : (parts : List Part) → flat_map line_text parts ≡ flat_map ended (map line_of parts)
lines_canonical [] = refl
lines_canonical (p ∷ parts) = ap (λ rest. line_text p ++ rest) (lines_canonical parts)

lines_single : (parts : List Part) → All IsPrinted parts → All IsSingle (map line_of parts)
lines_single [] h = All-nil IsSingle
lines_single (p ∷ parts) h =
    All-cons IsSingle (line_of p) (map line_of parts) (line_single p (All-head IsPrinted p parts h))
    (lines_single parts (All-tail IsPrinted p parts h))

lines_say : (parts : List Part) → All IsPrinted parts → SayParts (map line_of parts) parts
lines_say [] h = refl
lines_say (p ∷ parts) h = inr (p, parts, refl, line_says p (All-head IsPrinted p parts h), lines_say parts (All-tail IsPrinted p parts h))

pub canonical_read : (path : Path) → IsPath path → All IsPrinted path.parents → length (canonical path) ≤ HISTORY_LIMIT
    → SaysHistory (canonical path) path
canonical_read path is_path printed short = record {
  short = short;
  says =
      record {
        lines = map line_of path.parents;
        are = record { single = lines_single path.parents printed; parts = inl (lines_canonical path.parents) };
        say = lines_say path.parents printed;
      };
  is_path = is_path;
}

-- ---- line by line

pub printed_more : (parts : List Part) (i : ℕ) (p : Part) → i < length parts → p ≡ get_or parts i p
    → flat_map line_text (take (i + 1) parts) ≡ flat_map line_text (take i parts) ++ line_text p
printed_more parts i p l e =
    ap (flat_map line_text) (take_more parts i p l ∙ ap (λ q. take i parts ++ q ∷ []) (sym e))
    ∙ flat_map-append line_text (take i parts) (p ∷ [])
    ∙ ap (λ line. flat_map line_text (take i parts) ++ line) (append-nil (line_text p))

-- a line from its head and its reason
abbrev pub head_text : Part → List ℕ
head_text p = decimal p.tli ++ (9 ∷ (position_text p.switch ++ (9 ∷ [])))

pub line_from_head : (p : Part) → head_text p ++ (p.reason ++ (10 ∷ [])) ≡ line_text p
line_from_head p =
    ap (λ head. head ++ (p.reason ++ (10 ∷ []))) (sym (append_assoc (decimal p.tli) (9 ∷ position_text p.switch) (9 ∷ [])))
    ∙ append_assoc (decimal p.tli ++ (9 ∷ position_text p.switch)) (9 ∷ []) (p.reason ++ (10 ∷ []))
    ∙ sym (append_assoc (decimal p.tli ++ (9 ∷ position_text p.switch)) (9 ∷ p.reason) (10 ∷ []))

pub line_length : (p : Part) → length (line_text p) ≡ length (head_text p) + length p.reason + 1
line_length p = omega (
  arith,
  ap length (line_from_head p),
  length-append (head_text p) (p.reason ++ (10 ∷ [])),
  length-append p.reason (10 ∷ []),
)

-- one line more
pub text_more : (front head reason : List ℕ) (p : Part) → head ≡ head_text p → reason ≡ p.reason → front
    ++ (head ++ (reason ++ (10 ∷ []))) ≡ front ++ line_text p
text_more front head reason p h r =
    ap (λ bytes. front ++ (bytes ++ (reason ++ (10 ∷ [])))) h ∙ ap (λ bytes. front ++ (head_text p ++ (bytes ++ (10 ∷ [])))) r
    ∙ ap (λ line. front ++ line) (line_from_head p)
