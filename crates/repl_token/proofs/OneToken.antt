-- Bytes begin with one token.
use Rattle.std.proofs.Common.{◌≡◌, ℕ, ◌<◌, Bool, true, false, List, [], ◌∷◌, ◌++◌, length, take, drop, flat_map, refl, sym, ap, subst, ◌∙◌, arith}
use Rattle.std.specs.List.{prefix_len}
use Rattle.std.proofs.lemmas.List.{append-nil, append_assoc, take_at, drop_at}
use Rattle.repl_token.specs.declared.class.Class.{Class}
use Rattle.repl_token.specs.declared.class.Class.TheVariants as class
use Rattle.repl_token.specs.declared.token.Kind.{Kind}
use Rattle.repl_token.specs.declared.token.Kind.TheVariants as kind
use Rattle.repl_token.specs.Class.{is_blank, is_digit, is_inside, begins_nothing}
use Rattle.repl_token.specs.Token.{IsToken, IsRun, IsQuoted, IsUnclosed, IsWrong, EndsBefore, doubled}
use Rattle.repl_token.proofs.OneQuoted.{Closes, one_text}
use Rattle.repl_token.proofs.Runs.{run_size}

-- what is read of a token: its kind, what it says and what is after it
record Outcome : Type 0 where
  kind : Kind
  text : List ℕ
  past : List ℕ

abbrev outcome : Kind → List ℕ → List ℕ → Outcome
outcome k x b = record { kind = k; text = x; past = b }

-- ---- what is read, by the class of the first byte

-- a run
abbrev run_read : Kind → (ℕ → Bool) → List ℕ → Outcome
run_read k test w = outcome k (take (prefix_len test w) w) (drop (prefix_len test w) w)

-- a text in quotes, and what closes it
abbrev quoted_outcome : ℕ → List ℕ → List ℕ → Outcome
quoted_outcome quote text [] = outcome (kind.Unclosed quote) [] []
quoted_outcome quote text (c ∷ past) = outcome (kind.Quoted quote) text past

-- what is read after the opening quote
record QuotedAs (quote : ℕ) (rest : List ℕ) (o : Outcome) : Type 0 where
  text : List ℕ
  tail : List ℕ
  spelled : rest ≡ flat_map (doubled quote) text ++ tail
  closes : Closes quote tail
  is : o ≡ quoted_outcome quote text tail

one_quoted : (quote : ℕ) (rest : List ℕ) (o p : Outcome) → QuotedAs quote rest o → QuotedAs quote rest p → o ≡ p
one_quoted quote rest o p g h =
    let same = one_text quote g.text h.text g.tail h.tail g.closes h.closes (sym g.spelled ∙ h.spelled) in
    g.is ∙ (λ i. quoted_outcome quote (same.0 i) (same.1 i)) ∙ sym h.is

abbrev ReadBy : (ℕ → Class) → Class → ℕ → List ℕ → Outcome → Type 0
ReadBy class_of class.Blank c cs o = ⊥
ReadBy class_of class.Alone c cs o = o ≡ outcome (kind.Alone c) [] cs
ReadBy class_of class.Quote c cs o = QuotedAs c cs o
ReadBy class_of class.Letter c cs o = o ≡ run_read kind.Word (λ b. is_inside (class_of b)) (c ∷ cs)
ReadBy class_of class.Digit c cs o = o ≡ run_read kind.Number (λ b. is_digit (class_of b)) (c ∷ cs)
ReadBy class_of class.Inner c cs o = o ≡ outcome kind.Wrong [] []
ReadBy class_of class.Nothing c cs o = o ≡ outcome kind.Wrong [] []

one_read : (class_of : ℕ → Class) (k : Class) (c : ℕ) (cs : List ℕ) (o p : Outcome) → ReadBy class_of k c cs o → ReadBy class_of k c cs p
    → o ≡ p
one_read class_of class.Blank c cs o p g h = absurd g
one_read class_of class.Alone c cs o p g h = g ∙ sym h
one_read class_of class.Quote c cs o p g h = one_quoted c cs o p g h
one_read class_of class.Letter c cs o p g h = g ∙ sym h
one_read class_of class.Digit c cs o p g h = g ∙ sym h
one_read class_of class.Inner c cs o p g h = g ∙ sym h
one_read class_of class.Nothing c cs o p g h = g ∙ sym h

read_no_blank : (class_of : ℕ → Class) (k : Class) (c : ℕ) (cs : List ℕ) (o : Outcome) → ReadBy class_of k c cs o → is_blank k ≡ false
read_no_blank class_of class.Blank c cs o g = absurd g
read_no_blank class_of class.Alone c cs o g = refl
read_no_blank class_of class.Quote c cs o g = refl
read_no_blank class_of class.Letter c cs o g = refl
read_no_blank class_of class.Digit c cs o g = refl
read_no_blank class_of class.Inner c cs o g = refl
read_no_blank class_of class.Nothing c cs o g = refl

-- what begins a token, and what is read
record Starts (class_of : ℕ → Class) (s b : List ℕ) (o : Outcome) : Type 0 where
  first : ℕ
  rest : List ℕ
  parts : s ++ b ≡ first ∷ rest
  read : ReadBy class_of (class_of first) first rest o

one_start : (class_of : ℕ → Class) (s b r d : List ℕ) (o p : Outcome) → Starts class_of s b o → Starts class_of r d p → s ++ b ≡ r ++ d
    → o ≡ p
one_start class_of s b r d o p g h e =
    let same : g.first ∷ g.rest ≡ h.first ∷ h.rest = sym g.parts ∙ e ∙ h.parts in
    let first : h.first ≡ g.first = cc in
    let rest : h.rest ≡ g.rest = cc in
    one_read class_of (class_of g.first) g.first g.rest o p g.read
    (subst (λ (c : ℕ). ReadBy class_of (class_of c) c g.rest p) first (subst
    (λ (cs : List ℕ). ReadBy class_of (class_of h.first) h.first cs p) rest h.read))

-- ---- each kind of token begins so

-- a first byte of this class
starts_by : (class_of : ℕ → Class) (k : Class) (c : ℕ) (cs s b : List ℕ) (o : Outcome) → s ++ b ≡ c ∷ cs → class_of c ≡ k
    → ReadBy class_of k c cs o → Starts class_of s b o
starts_by class_of k c cs s b o parts e read = record {
  first = c;
  rest = cs;
  parts = parts;
  read = subst (λ (l : Class). ReadBy class_of l c cs o) (sym e) read;
}

run_is : (class_of : ℕ → Class) (begins : Class) (goes_on : Class → Bool) (k : Kind) (s b : List ℕ) → goes_on begins ≡ true
    → (h : IsRun class_of begins goes_on s b)
    → outcome k s b ≡ run_read k (λ c. goes_on (class_of c)) (h.first ∷ h.others ++ b)
run_is class_of begins goes_on k s b e h =
    let test : ℕ → Bool = λ c. goes_on (class_of c) in
    let n : length s ≡ prefix_len test (s ++ b) = run_size class_of begins goes_on s b e h in
    sym (ap (run_read k test) (sym (ap (λ t. t ++ b) h.parts))
    ∙ (λ i. outcome k (take_at s b (prefix_len test (s ++ b)) n i) (drop_at s b (prefix_len test (s ++ b)) n i)))

quoted_starts : (class_of : ℕ → Class) (quote : ℕ) (text s b : List ℕ) → class_of quote ≡ class.Quote → IsQuoted quote text s b
    → Starts class_of s b (outcome (kind.Quoted quote) text b)
quoted_starts class_of quote text s b is h =
    starts_by class_of class.Quote quote (flat_map (doubled quote) text ++ quote ∷ b) s b (outcome (kind.Quoted quote) text b)
    (ap (λ t. t ++ b) h.spelled ∙ ap (λ rest. quote ∷ rest) (append_assoc (flat_map (doubled quote) text) (quote ∷ []) b))
    is
    (record { text = text; tail = quote ∷ b; spelled = refl; closes = (refl, h.ends); is = refl })

unclosed_starts : (class_of : ℕ → Class) (quote : ℕ) (s : List ℕ) → class_of quote ≡ class.Quote → IsUnclosed quote s
    → Starts class_of s [] (outcome (kind.Unclosed quote) [] [])
unclosed_starts class_of quote s is h =
    starts_by class_of class.Quote quote (flat_map (doubled quote) h.0) s [] (outcome (kind.Unclosed quote) [] [])
    (append-nil s ∙ h.1)
    is
    (record { text = h.0; tail = []; spelled = sym (append-nil (flat_map (doubled quote) h.0)); closes = tt; is = refl })

wrong_read : (class_of : ℕ → Class) (k : Class) (c : ℕ) (cs : List ℕ) → begins_nothing k ≡ true
    → ReadBy class_of k c cs (outcome kind.Wrong [] [])
wrong_read class_of class.Blank c cs e = absurd cc
wrong_read class_of class.Alone c cs e = absurd cc
wrong_read class_of class.Quote c cs e = absurd cc
wrong_read class_of class.Letter c cs e = absurd cc
wrong_read class_of class.Digit c cs e = absurd cc
wrong_read class_of class.Inner c cs e = refl
wrong_read class_of class.Nothing c cs e = refl

wrong_starts : (class_of : ℕ → Class) (s : List ℕ) → IsWrong class_of s → Starts class_of s [] (outcome kind.Wrong [] [])
wrong_starts class_of s h = record {
  first = h.0;
  rest = h.1;
  parts = append-nil s ∙ h.2;
  read = wrong_read class_of (class_of h.0) h.0 h.1 h.3;
}

-- with the text and the end that the definition says
starts_as : (class_of : ℕ → Class) (k : Kind) (x y s b d : List ℕ) → x ≡ y → b ≡ d → Starts class_of s d (outcome k y d)
    → Starts class_of s b (outcome k x b)
starts_as class_of k x y s b d e f h =
    subst (λ (t : List ℕ). Starts class_of s t (outcome k x t)) (sym f)
    (subst (λ (t : List ℕ). Starts class_of s d (outcome k t d)) (sym e) h)

token_starts : (class_of : ℕ → Class) (k : Kind) (x s b : List ℕ) → IsToken class_of k x s b → Starts class_of s b (outcome k x b)
token_starts class_of kind.Word x s b h = starts_as class_of kind.Word x s s b b h.0 refl
    (starts_by class_of class.Letter h.1.first (h.1.others ++ b) s b (outcome kind.Word s b) (ap (λ t. t ++ b) h.1.parts) h.1.starts
    (run_is class_of class.Letter is_inside kind.Word s b refl h.1))
token_starts class_of kind.Number x s b h = starts_as class_of kind.Number x s s b b h.0 refl
    (starts_by class_of class.Digit h.1.first (h.1.others ++ b) s b (outcome kind.Number s b) (ap (λ t. t ++ b) h.1.parts) h.1.starts
    (run_is class_of class.Digit is_digit kind.Number s b refl h.1))
token_starts class_of (kind.Alone sign) x s b h = starts_as class_of (kind.Alone sign) x [] s b b h.0 refl
    (starts_by class_of class.Alone sign b s b (outcome (kind.Alone sign) [] b) (ap (λ t. t ++ b) h.1) h.2 refl)
token_starts class_of (kind.Quoted quote) x s b h = quoted_starts class_of quote x s b h.0 h.1
token_starts class_of kind.Wrong x s b h = starts_as class_of kind.Wrong x [] s b [] h.0 h.1 (wrong_starts class_of s h.2)
token_starts class_of (kind.Unclosed quote) x s b h = starts_as class_of (kind.Unclosed quote) x [] s b [] h.0 h.1
    (unclosed_starts class_of quote s h.2 h.3)

-- a token is not empty, and begins with no blank
pub token_begins : (class_of : ℕ → Class) (k : Kind) (x s b : List ℕ) → IsToken class_of k x s b
    → (0 < length (s ++ b)) × EndsBefore (λ c. is_blank (class_of c)) (s ++ b)
token_begins class_of k x s b h =
    let start = token_starts class_of k x s b h in (
      omega (arith, ap length start.parts),
      subst (EndsBefore (λ c. is_blank (class_of c))) (sym start.parts)
          (read_no_blank class_of (class_of start.first) start.first start.rest (outcome k x b) start.read),
    )

-- the same bytes begin with the same token
pub one_token : (class_of : ℕ → Class) (k l : Kind) (x y s b r d : List ℕ) → IsToken class_of k x s b → IsToken class_of l y r d
    → s ++ b ≡ r ++ d
    → (k ≡ l) × (x ≡ y) × (b ≡ d)
one_token class_of k l x y s b r d g h e =
    let same = one_start class_of s b r d (outcome k x b) (outcome l y d) (token_starts class_of k x s b g)
    (token_starts class_of l y r d h) e in
    (ap (λ o. o.kind) same, ap (λ o. o.text) same, ap (λ o. o.past) same)
