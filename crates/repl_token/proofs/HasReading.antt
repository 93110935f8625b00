-- Each text has a list of tokens.
use Rattle.std.proofs.Common.{◌≡◌, ℕ, zero, suc, ◌+◌, ◌<◌, ◌⊎◌, inl, inr, Bool, true, false, ◌==◌, List, [], ◌∷◌, ◌++◌, map, length, take, drop, flat_map, refl, ap, sym, subst, ◌∙◌, arith}
use Rattle.std.specs.List.{prefix_len}
use Rattle.std.proofs.lemmas.Bool.{cond-true, cond-false, eqb-true, eq-eqb}
use Rattle.std.proofs.lemmas.List.{append-nil, append_assoc, length-append, take-append-drop, length-drop}
use Rattle.std.proofs.lemmas.List.Elements.{All-nil, All-cons}
use Rattle.repl_token.specs.declared.class.Class.{Class}
use Rattle.repl_token.specs.declared.class.Class.TheVariants as class
use Rattle.repl_token.specs.declared.token.Kind.{Kind}
use Rattle.repl_token.specs.declared.token.Kind.TheVariants as kind
use Rattle.repl_token.specs.Class.{is_blank, is_digit, is_inside, begins_nothing}
use Rattle.repl_token.specs.Token.{RawToken, Reads, ReadsAs, IsNext, IsToken, IsRun, EndsBefore, doubled, quoted}
use Rattle.repl_token.proofs.Runs.{run_front, run_some}

truth : (b : Bool) → (b ≡ true) ⊎ (b ≡ false)
truth true = inl refl
truth false = inr refl

-- ---- a token in front

-- some tokens of these bytes
abbrev Reading : (ℕ → Class) → ℕ → List ℕ → Type 0
Reading class_of at bytes = (tokens : List RawToken) × Reads class_of at bytes tokens

token_first : (class_of : ℕ → Class) (at : ℕ) (spelled past : List ℕ) (k : Kind) (text : List ℕ) → IsToken class_of k text spelled past
    → Reading class_of (at + length spelled) past → Reading class_of at (spelled ++ past)
token_first class_of at spelled past k text is rest =
    let token : RawToken = record { kind = k; place = at; text = text } in
    let next : IsNext class_of at (spelled ++ past) token past =
    record {
      blanks = [];
      spelled = spelled;
      parts = refl;
      blank = All-nil (λ c. is_blank (class_of c) ≡ true);
      place = omega arith;
      is = is;
    } in
    let total : at + length spelled + length past ≡ at + length (spelled ++ past) = omega (arith, length-append spelled past) in
    (token ∷ rest.0, (past, at + length spelled, next, total, rest.1))

blank_first : (class_of : ℕ → Class) (at c : ℕ) (cs : List ℕ) (tokens : List RawToken) → is_blank (class_of c) ≡ true
    → Reads class_of (at + 1) cs tokens → Reads class_of at (c ∷ cs) tokens
blank_first class_of at c cs [] e reads = All-cons (λ b. is_blank (class_of b) ≡ true) c cs e reads
blank_first class_of at c cs (token ∷ tokens) e (past, place, next, total, reads) = (
  past,
  place,
  record {
    blanks = c ∷ next.blanks;
    spelled = next.spelled;
    parts = ap (λ bs. c ∷ bs) next.parts;
    blank = All-cons (λ b. is_blank (class_of b) ≡ true) c next.blanks e next.blank;
    place = omega (arith, next.place);
    is = next.is;
  },
  omega arith,
  reads,
)

-- a token that takes all the bytes
token_whole : (class_of : ℕ → Class) (at : ℕ) (bytes : List ℕ) (k : Kind) → IsToken class_of k [] bytes [] → Reading class_of at bytes
token_whole class_of at bytes k is =
    subst (Reading class_of at) (append-nil bytes)
    (token_first class_of at bytes [] k [] is ([], All-nil (λ c. is_blank (class_of c) ≡ true)))

-- ---- quotes

-- a text, the quote that ends it, and what is after that
record Closed (quote : ℕ) (bytes : List ℕ) : Type 0 where
  text : List ℕ
  past : List ℕ
  parts : bytes ≡ flat_map (doubled quote) text ++ quote ∷ past
  ends : EndsBefore (λ c. c == quote) past

abbrev Quotes : ℕ → List ℕ → Type 0
Quotes quote bytes = Closed quote bytes ⊎ ((text : List ℕ) × (bytes ≡ flat_map (doubled quote) text))

plain_spelled : (quote c : ℕ) (text : List ℕ) → (c == quote) ≡ false
    → flat_map (doubled quote) (c ∷ text) ≡ c ∷ flat_map (doubled quote) text
plain_spelled quote c text e = ap (λ piece. piece ++ flat_map (doubled quote) text)
    (cond-false (c == quote) (quote ∷ quote ∷ []) (c ∷ []) e)

quote_spelled : (quote : ℕ) (text : List ℕ) → flat_map (doubled quote) (quote ∷ text) ≡ quote ∷ quote ∷ flat_map (doubled quote) text
quote_spelled quote text = ap (λ piece. piece ++ flat_map (doubled quote) text)
    (cond-true (quote == quote) (quote ∷ quote ∷ []) (quote ∷ []) (eq-eqb quote quote refl))

plain_more : (quote c : ℕ) (cs : List ℕ) → (c == quote) ≡ false → Quotes quote cs → Quotes quote (c ∷ cs)
plain_more quote c cs e (inl h) = inl (record {
  text = c ∷ h.text;
  past = h.past;
  parts = ap (λ bs. c ∷ bs) h.parts ∙ ap (λ bs. bs ++ quote ∷ h.past) (sym (plain_spelled quote c h.text e));
  ends = h.ends;
})
plain_more quote c cs e (inr h) = inr (c ∷ h.0, ap (λ bs. c ∷ bs) h.1 ∙ sym (plain_spelled quote c h.0 e))

pair_more : (quote : ℕ) (cs : List ℕ) → Quotes quote cs → Quotes quote (quote ∷ quote ∷ cs)
pair_more quote cs (inl h) = inl (record {
  text = quote ∷ h.text;
  past = h.past;
  parts = ap (λ bs. quote ∷ quote ∷ bs) h.parts ∙ ap (λ bs. bs ++ quote ∷ h.past) (sym (quote_spelled quote h.text));
  ends = h.ends;
})
pair_more quote cs (inr h) = inr (quote ∷ h.0, ap (λ bs. quote ∷ quote ∷ bs) h.1 ∙ sym (quote_spelled quote h.0))

closes : (quote c : ℕ) (past : List ℕ) → (c == quote) ≡ true → EndsBefore (λ b. b == quote) past → Quotes quote (c ∷ past)
closes quote c past e ends = inl (record { text = []; past = past; parts = ap (λ b. b ∷ past) (eqb-true c quote e); ends = ends })

quotes : (quote : ℕ) (bytes : List ℕ) → Quotes quote bytes
quotes quote [] = inr ([], refl)
quotes quote (c ∷ []) = elim (truth (c == quote)) [
  | inl e ↦ closes quote c [] e tt
  | inr e ↦ plain_more quote c [] e (inr ([], refl))
]
quotes quote (c ∷ d ∷ ds) = elim (truth (c == quote)) [
  | inl e ↦ elim (truth (d == quote)) [
    | inl f ↦ subst (λ (b : ℕ). Quotes quote (b ∷ d ∷ ds)) (sym (eqb-true c quote e))
        (subst (λ (b : ℕ). Quotes quote (quote ∷ b ∷ ds)) (sym (eqb-true d quote f)) (pair_more quote ds (quotes quote ds)))
    | inr f ↦ closes quote c (d ∷ ds) e f
  ]
  | inr e ↦ plain_more quote c (d ∷ ds) e (quotes quote (d ∷ ds))
]

-- ---- every text

-- shorter texts have tokens
abbrev Shorter : (ℕ → Class) → ℕ → Type 0
Shorter class_of n = (at : ℕ) (bytes : List ℕ) → length bytes < n → Reading class_of at bytes

quoted_first : (class_of : ℕ → Class) (n : ℕ) → Shorter class_of n → (at quote : ℕ) (cs : List ℕ) → class_of quote ≡ class.Quote
    → length cs < n
    → Reading class_of at (quote ∷ cs)
quoted_first class_of n shorter at quote cs is l = elim (quotes quote cs) [
  | inl h ↦
      let spelled = quoted quote h.text in
      let parts : quote ∷ cs ≡ spelled ++ h.past = ap (λ bs. quote ∷ bs)
      (h.parts ∙ sym (append_assoc (flat_map (doubled quote) h.text) (quote ∷ []) h.past)) in
      let below : length h.past < n = omega (
        arith,
        ap length h.parts,
        length-append (flat_map (doubled quote) h.text)
            (quote ∷ h.past),
      ) in
      subst (Reading class_of at) (sym parts)
      (token_first class_of at spelled h.past (kind.Quoted quote) h.text (is, record { spelled = refl; ends = h.ends })
      (shorter (at + length spelled) h.past below))
  | inr h ↦ token_whole class_of at (quote ∷ cs) (kind.Unclosed quote) (refl, refl, is, (h.0, ap (λ bs. quote ∷ bs) h.1))
]

run_first : (class_of : ℕ → Class) (n : ℕ) → Shorter class_of n
    → (at c : ℕ) (cs : List ℕ) (begins : Class) (goes_on : Class → Bool) (k : Kind)
    → ((bytes past : List ℕ) → IsRun class_of begins goes_on bytes past → IsToken class_of k bytes bytes past) → goes_on begins ≡ true
    → class_of c ≡ begins → length cs < n → Reading class_of at (c ∷ cs)
run_first class_of n shorter at c cs begins goes_on k token e is l =
    let run = run_front class_of begins goes_on (c ∷ cs) e (omega arith) is in
    let m : ℕ = prefix_len (λ b. goes_on (class_of b)) (c ∷ cs) in
    let front : List ℕ = take m (c ∷ cs) in
    let past : List ℕ = drop m (c ∷ cs) in
    let some : 0 < m = run_some (λ b. goes_on (class_of b)) (c ∷ cs) (omega arith) (ap goes_on is ∙ e) in
    let below : length past < n = omega (arith, length-drop m (c ∷ cs)) in
    subst (Reading class_of at) (take-append-drop m (c ∷ cs))
    (token_first class_of at front past k front (token front past run) (shorter (at + length front) past below))

by_class : (class_of : ℕ → Class) (n : ℕ) → Shorter class_of n → (at c : ℕ) (cs : List ℕ) (k : Class) → class_of c ≡ k → length cs < n
    → Reading class_of at (c ∷ cs)
by_class class_of n shorter at c cs class.Blank e l =
    let rest = shorter (at + 1) cs l in
    (rest.0, blank_first class_of at c cs rest.0 (ap is_blank e) rest.1)
by_class class_of n shorter at c cs class.Alone e l = token_first class_of at (c ∷ []) cs (kind.Alone c) [] (refl, refl, e)
    (shorter (at + length (c ∷ [])) cs l)
by_class class_of n shorter at c cs class.Quote e l = quoted_first class_of n shorter at c cs e l
by_class class_of n shorter at c cs class.Letter e l = run_first class_of n shorter at c cs class.Letter is_inside kind.Word
    (λ bytes past h. (refl, h)) refl e l
by_class class_of n shorter at c cs class.Digit e l = run_first class_of n shorter at c cs class.Digit is_digit kind.Number
    (λ bytes past h. (refl, h)) refl e l
by_class class_of n shorter at c cs class.Inner e l = token_whole class_of at (c ∷ cs) kind.Wrong
    (refl, refl, (c, cs, refl, ap begins_nothing e))
by_class class_of n shorter at c cs class.Nothing e l = token_whole class_of at (c ∷ cs) kind.Wrong
    (refl, refl, (c, cs, refl, ap begins_nothing e))

reading : (class_of : ℕ → Class) (n : ℕ) → Shorter class_of n
reading class_of zero at bytes l = absurd (omega arith)
reading class_of (suc n) at [] l = ([], All-nil (λ c. is_blank (class_of c) ≡ true))
reading class_of (suc n) at (c ∷ cs) l = by_class class_of n (reading class_of n) at c cs (class_of c) refl (omega arith)

pub has_reading : (class_of : ℕ → Class) (at : ℕ) (bytes : List ℕ) → (tokens : List RawToken) × Reads class_of at bytes tokens
has_reading class_of at bytes = reading class_of (length bytes + 1) at bytes (omega arith)

-- the same of a language's own tokens
pub has_reading_as : {A : Type 0} (class_of : ℕ → Class) (meaning : RawToken → A) (at : ℕ) (bytes : List ℕ)
    → (tokens : List A) × ReadsAs class_of meaning at bytes tokens
has_reading_as class_of meaning at bytes = let h = has_reading class_of at bytes in (map meaning h.0, (h.0, h.1, refl))
