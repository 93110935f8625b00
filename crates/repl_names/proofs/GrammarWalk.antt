-- The states lead through exactly those tokens that are a list.
use Rattle.std.proofs.Common.{◌≡◌, ℕ, ◌+◌, ◌<◌, ◌≤◌, Bool, true, false, ◌⊎◌, inl, inr, List, [], ◌∷◌, ◌++◌, length, get_or, take, drop, Option, Some, None, refl, sym, ap, subst, ◌∙◌, arith, ⊎_elim}
use Rattle.std.proofs.lemmas.Bool.{false≢true}
use Rattle.std.proofs.lemmas.List.{take-append-drop, take_more, take_all, append-nil}
use Rattle.std.proofs.Math.Seq.{take-length}
use Rattle.repl_text.specs.Language.{Begins, StopsAt}
use Rattle.repl_names.specs.declared.token.Kind.{Kind}
use Rattle.repl_names.specs.declared.token.Kind.TheVariants as kind
use Rattle.repl_names.specs.declared.token.Token.{Token}
use Rattle.repl_names.specs.declared.grammar.State.{State}
use Rattle.repl_names.specs.declared.grammar.State.TheVariants as state
use Rattle.repl_names.specs.declared.list.Method.{Method}
use Rattle.repl_names.specs.declared.list.Method.TheVariants as method
use Rattle.repl_names.specs.Grammar.{IsName, AreNames, AreCounted, AreChosen, keyword, Says, IsSaid}
use Rattle.repl_names.specs.Walk.{step, may_end}

-- where the tokens lead from here
abbrev pub goes : Option State → List Token → Option State
goes o [] = o
goes None (token ∷ tokens) = None
goes (Some s) (token ∷ tokens) = goes (step s token.kind) tokens

-- the tokens lead from here to where a list may end
abbrev pub passes : Option State → List Token → Bool
passes None [] = false
passes (Some s) [] = may_end s
passes None (token ∷ tokens) = false
passes (Some s) (token ∷ tokens) = passes (step s token.kind) tokens

passes_none : (tokens : List Token) → passes None tokens ≡ false
passes_none [] = refl
passes_none (token ∷ tokens) = refl

goes_none : (tokens : List Token) → goes None tokens ≡ None
goes_none [] = refl
goes_none (token ∷ tokens) = refl

pub passes_after : (o : Option State) (front more : List Token) → passes o (front ++ more) ≡ passes (goes o front) more
passes_after o [] more = refl
passes_after None (token ∷ front) more = sym (passes_none more)
passes_after (Some s) (token ∷ front) more = passes_after (step s token.kind) front more

pub goes_after : (o : Option State) (front more : List Token) → goes o (front ++ more) ≡ goes (goes o front) more
goes_after o [] more = refl
goes_after None (token ∷ front) more = sym (goes_none more)
goes_after (Some s) (token ∷ front) more = goes_after (step s token.kind) front more

name_from_comma : (k : Kind) → IsName k → step state.Comma k ≡ Some state.Name
name_from_comma k (inl e) = ap (step state.Comma) e
name_from_comma k (inr (inl e)) = ap (step state.Comma) e
name_from_comma k (inr (inr (inl e))) = ap (step state.Comma) e
name_from_comma k (inr (inr (inr e))) = ap (step state.Comma) e

name_from_opened : (k : Kind) → IsName k → step state.Opened k ≡ Some state.Inside
name_from_opened k (inl e) = ap (step state.Opened) e
name_from_opened k (inr (inl e)) = ap (step state.Opened) e
name_from_opened k (inr (inr (inl e))) = ap (step state.Opened) e
name_from_opened k (inr (inr (inr e))) = ap (step state.Opened) e

-- ---- the tokens of a list pass

names_pass : (tokens : List Token) (names : List (List ℕ)) → AreNames tokens names → passes (Some state.Comma) tokens ≡ true
names_pass [] names n = absurd n
names_pass (token ∷ []) names n = ap (λ o. passes o []) (name_from_comma token.kind n.0)
names_pass (token ∷ comma ∷ tokens) names n =
    ap (λ o. passes o (comma ∷ tokens)) (name_from_comma token.kind n.0) ∙ ap (λ k. passes (step state.Name k) tokens) n.1
    ∙ names_pass tokens n.2.0 n.2.2

inner_passes : (inside : List Token) (closing : Token) (names : List (List ℕ)) → AreNames inside names → closing.kind ≡ kind.Closing
    → passes (Some state.Opened) (inside ++ closing ∷ []) ≡ true
inner_passes [] closing names n e = absurd n
inner_passes (token ∷ []) closing names n e =
    ap (λ o. passes o (closing ∷ [])) (name_from_opened token.kind n.0) ∙ ap (λ k. passes (step state.Inside k) []) e
inner_passes (token ∷ comma ∷ tokens) closing names n e =
    ap (λ o. passes o (comma ∷ tokens ++ closing ∷ [])) (name_from_opened token.kind n.0)
    ∙ ap (λ k. passes (step state.Inside k) (tokens ++ closing ∷ [])) n.1 ∙ inner_passes tokens closing n.2.0 n.2.2 e

nothing_passes : (tokens : List Token) → passes None tokens ≡ true → ⊥
nothing_passes tokens p = false≢true (sym (passes_none tokens) ∙ p)

-- a number that stands first is a name where no parenthesis opens
number_as_name : (k : Kind) (tokens : List Token) → passes (step state.Name k) tokens ≡ true
    → passes (step state.FirstNumber k) tokens ≡ true
number_as_name kind.Comma tokens p = p
number_as_name _ tokens p = absurd (nothing_passes tokens p)

first_number : (tokens : List Token) → passes (Some state.Name) tokens ≡ true → passes (Some state.FirstNumber) tokens ≡ true
first_number [] p = refl
first_number (token ∷ tokens) p = number_as_name token.kind tokens p

name_at_start : (k : Kind) (tokens : List Token) → IsName k → passes (Some state.Name) tokens ≡ true
    → passes (step state.Start k) tokens ≡ true
name_at_start k tokens (inl e) p = ap (λ j. passes (step state.Start j) tokens) e ∙ p
name_at_start k tokens (inr (inl e)) p = ap (λ j. passes (step state.Start j) tokens) e ∙ first_number tokens p
name_at_start k tokens (inr (inr (inl e))) p = ap (λ j. passes (step state.Start j) tokens) e ∙ p
name_at_start k tokens (inr (inr (inr e))) p = ap (λ j. passes (step state.Start j) tokens) e ∙ p

plain_passes : (tokens : List Token) (names : List (List ℕ)) → AreNames tokens names → passes (Some state.Start) tokens ≡ true
plain_passes [] names n = refl
plain_passes (token ∷ []) names n = name_at_start token.kind [] n.0 refl
plain_passes (token ∷ comma ∷ tokens) names n = name_at_start token.kind (comma ∷ tokens) n.0
    (ap (λ k. passes (step state.Name k) tokens) n.1 ∙ names_pass tokens n.2.0 n.2.2)

counted_passes : (s : State) (tokens : List Token) (number : Token) (names : List (List ℕ)) → (s ≡ state.Start) ⊎ (s ≡ state.Keyword)
    → AreCounted tokens number names → passes (Some s) tokens ≡ true
counted_passes s tokens number names at c =
    let inner = inner_passes c.inside c.closing names c.are_names c.closes in
    let opened : (t : State) → step t kind.Opening ≡ Some state.Opened
    → passes (Some t) (c.opening ∷ c.inside ++ c.closing ∷ []) ≡ true =
    λ t o. ap (λ k. passes (step t k) (c.inside ++ c.closing ∷ [])) c.opens ∙ ap (λ u. passes u (c.inside ++ c.closing ∷ [])) o
    ∙ inner in
    let after = c.opening ∷ c.inside ++ c.closing ∷ [] in
    ap (passes (Some s)) c.parts ∙ ⊎_elim
    (λ e. ap (λ t. passes (step t number.kind) after) e ∙ ap (λ k. passes (step state.Start k) after) c.is_number
    ∙ opened state.FirstNumber refl)
    (λ e. ap (λ t. passes (step t number.kind) after) e ∙ ap (λ k. passes (step state.Keyword k) after) c.is_number
    ∙ opened state.Number refl)
    at

chosen_passes : (tokens : List Token) (m : Method) (number : Token) (names : List (List ℕ)) → AreChosen tokens m number names
    → passes (Some state.Start) tokens ≡ true
chosen_passes tokens method.First number names c =
    ap (passes (Some state.Start)) c.parts ∙ ap (λ k. passes (step state.Start k) c.others) c.chooses
    ∙ counted_passes state.Keyword c.others number names (inr refl) c.are_counted
chosen_passes tokens method.Any number names c =
    ap (passes (Some state.Start)) c.parts ∙ ap (λ k. passes (step state.Start k) c.others) c.chooses
    ∙ counted_passes state.Keyword c.others number names (inr refl) c.are_counted

says_passes : (tokens : List Token) (m : Method) (number : Option Token) (names : List (List ℕ)) → Says tokens m number names
    → passes (Some state.Start) tokens ≡ true
says_passes tokens m None names (f, inl e) = ap (passes (Some state.Start)) e.0
says_passes tokens m None names (f, inr n) = plain_passes tokens names n
says_passes tokens m (Some number) names (inl c) = counted_passes state.Start tokens number names (inl refl) c.1
says_passes tokens m (Some number) names (inr c) = chosen_passes tokens m number names c

pub said_passes : (tokens : List Token) → IsSaid tokens → passes (Some state.Start) tokens ≡ true
said_passes tokens (m, number, names, says) = says_passes tokens m number names says

-- ---- tokens that pass are a list

past_name : (k : Kind) (tokens : List Token) → passes (step state.Name k) tokens ≡ true
    → (k ≡ kind.Comma) × (passes (Some state.Comma) tokens ≡ true)
past_name kind.Comma tokens p = (refl, p)
past_name _ tokens p = absurd (nothing_passes tokens p)

past_comma : (k : Kind) (tokens : List Token) → passes (step state.Comma k) tokens ≡ true
    → IsName k × (passes (Some state.Name) tokens ≡ true)
past_comma kind.Word tokens p = (inl refl, p)
past_comma kind.Number tokens p = (inr (inl refl), p)
past_comma kind.Quoted tokens p = (inr (inr (inl refl)), p)
past_comma kind.Star tokens p = (inr (inr (inr refl)), p)
past_comma _ tokens p = absurd (nothing_passes tokens p)

past_opened : (k : Kind) (tokens : List Token) → passes (step state.Opened k) tokens ≡ true
    → IsName k × (passes (Some state.Inside) tokens ≡ true)
past_opened kind.Word tokens p = (inl refl, p)
past_opened kind.Number tokens p = (inr (inl refl), p)
past_opened kind.Quoted tokens p = (inr (inr (inl refl)), p)
past_opened kind.Star tokens p = (inr (inr (inr refl)), p)
past_opened _ tokens p = absurd (nothing_passes tokens p)

past_inside : (k : Kind) (tokens : List Token) → passes (step state.Inside k) tokens ≡ true
    → ((k ≡ kind.Comma) × (passes (Some state.Opened) tokens ≡ true)) ⊎ ((k ≡ kind.Closing) × (passes (Some state.Closed) tokens ≡ true))
past_inside kind.Comma tokens p = inl (refl, p)
past_inside kind.Closing tokens p = inr (refl, p)
past_inside _ tokens p = absurd (nothing_passes tokens p)

past_closed : (tokens : List Token) → passes (Some state.Closed) tokens ≡ true → tokens ≡ []
past_closed [] p = refl
past_closed (token ∷ tokens) p = absurd (nothing_passes tokens p)

past_keyword : (k : Kind) (tokens : List Token) → passes (step state.Keyword k) tokens ≡ true
    → (k ≡ kind.Number) × (passes (Some state.Number) tokens ≡ true)
past_keyword kind.Number tokens p = (refl, p)
past_keyword _ tokens p = absurd (nothing_passes tokens p)

past_number : (k : Kind) (tokens : List Token) → passes (step state.Number k) tokens ≡ true
    → (k ≡ kind.Opening) × (passes (Some state.Opened) tokens ≡ true)
past_number kind.Opening tokens p = (refl, p)
past_number _ tokens p = absurd (nothing_passes tokens p)

past_first_number : (k : Kind) (tokens : List Token) → passes (step state.FirstNumber k) tokens ≡ true
    → (passes (step state.Name k) tokens ≡ true) ⊎ ((k ≡ kind.Opening) × (passes (Some state.Opened) tokens ≡ true))
past_first_number kind.Comma tokens p = inl p
past_first_number kind.Opening tokens p = inr (refl, p)
past_first_number _ tokens p = absurd (nothing_passes tokens p)

names_past : (token : Token) (tokens : List Token) → IsName token.kind → passes (Some state.Name) tokens ≡ true
    → (names : List (List ℕ)) × AreNames (token ∷ tokens) names
names_past token [] n p = (token.text ∷ [], (n, refl))
names_past token (comma ∷ []) n p = absurd (false≢true (past_name comma.kind [] p).1)
names_past token (comma ∷ next ∷ tokens) n p =
    let b = past_name comma.kind (next ∷ tokens) p in
    let h = past_comma next.kind tokens b.1 in
    let r = names_past next tokens h.0 h.1 in
    (token.text ∷ r.0, (n, b.0, (r.0, refl, r.1)))

-- names, and the parenthesis that closes
record AreInner (tokens : List Token) : Type 0 where
  inside : List Token
  closing : Token
  names : List (List ℕ)
  parts : tokens ≡ inside ++ closing ∷ []
  are_names : AreNames inside names
  closes : closing.kind ≡ kind.Closing

inner_past : (token : Token) (tokens : List Token) → IsName token.kind → passes (Some state.Inside) tokens ≡ true
    → AreInner (token ∷ tokens)
inner_past token [] n p = absurd (false≢true p)
inner_past token (closing ∷ []) n p =
    ⊎_elim
    (λ c. absurd (false≢true c.1))
    (λ c. record { inside = token ∷ []; closing = closing; names = token.text ∷ []; parts = refl; are_names = (n, refl); closes = c.0 })
    (past_inside closing.kind [] p)
inner_past token (second ∷ next ∷ tokens) n p =
    ⊎_elim
    (λ c.
    let h = past_opened next.kind tokens c.1 in
    let r = inner_past next tokens h.0 h.1 in
    record {
      inside = token ∷ second ∷ r.inside;
      closing = r.closing;
      names = token.text ∷ r.names;
      parts = ap (λ ts. token ∷ second ∷ ts) r.parts;
      are_names = (n, c.0, (r.names, refl, r.are_names));
      closes = r.closes;
    })
    (λ c. absurd (nothing_passes tokens c.1))
    (past_inside second.kind (next ∷ tokens) p)

inner_opened : (tokens : List Token) → passes (Some state.Opened) tokens ≡ true → AreInner tokens
inner_opened [] p = absurd (false≢true p)
inner_opened (token ∷ tokens) p = let h = past_opened token.kind tokens p in inner_past token tokens h.0 h.1

counted_from : (number opening : Token) (tokens : List Token) → number.kind ≡ kind.Number → opening.kind ≡ kind.Opening
    → passes (Some state.Opened) tokens ≡ true
    → (names : List (List ℕ)) × AreCounted (number ∷ opening ∷ tokens) number names
counted_from number opening tokens is opens p =
    let r = inner_opened tokens p in (
      r.names,
      record {
        opening = opening;
        inside = r.inside;
        closing = r.closing;
        parts = ap (λ ts. number ∷ opening ∷ ts) r.parts;
        is_number = is;
        opens = opens;
        are_names = r.are_names;
        closes = r.closes;
      },
    )

plain_said : (token : Token) (tokens : List Token) → IsName token.kind → passes (Some state.Name) tokens ≡ true → IsSaid (token ∷ tokens)
plain_said token tokens n p = let r = names_past token tokens n p in (method.First, None, r.0, (refl, inr r.1))

number_said : (token : Token) (tokens : List Token) → token.kind ≡ kind.Number → passes (Some state.FirstNumber) tokens ≡ true
    → IsSaid (token ∷ tokens)
number_said token [] e p = plain_said token [] (inr (inl e)) refl
number_said token (second ∷ tokens) e p =
    ⊎_elim
    (λ q. plain_said token (second ∷ tokens) (inr (inl e)) q)
    (λ q. let r = counted_from token second tokens e q.0 q.1 in (method.First, Some token, r.0, inl (refl, r.1)))
    (past_first_number second.kind tokens p)

keyword_said : (m : Method) (token : Token) (tokens : List Token) → token.kind ≡ keyword m → passes (Some state.Keyword) tokens ≡ true
    → IsSaid (token ∷ tokens)
keyword_said m token [] e p = absurd (false≢true p)
keyword_said m token (number ∷ []) e p = absurd (false≢true (past_keyword number.kind [] p).1)
keyword_said m token (number ∷ opening ∷ tokens) e p =
    let h = past_keyword number.kind (opening ∷ tokens) p in
    let g = past_number opening.kind tokens h.1 in
    let r = counted_from number opening tokens h.0 g.0 g.1 in
    (m, Some number, r.0, inr (record { chosen = token; others = number ∷ opening ∷ tokens; parts = refl; chooses = e; are_counted = r.1 }))

first_said : (k : Kind) (token : Token) (tokens : List Token) → token.kind ≡ k → passes (step state.Start k) tokens ≡ true
    → IsSaid (token ∷ tokens)
first_said kind.Number token tokens e p = number_said token tokens e p
first_said kind.First token tokens e p = keyword_said method.First token tokens e p
first_said kind.Any token tokens e p = keyword_said method.Any token tokens e p
first_said kind.Word token tokens e p = plain_said token tokens (inl e) p
first_said kind.Quoted token tokens e p = plain_said token tokens (inr (inr (inl e))) p
first_said kind.Star token tokens e p = plain_said token tokens (inr (inr (inr e))) p
first_said _ token tokens e p = absurd (nothing_passes tokens p)

pub passes_said : (tokens : List Token) → passes (Some state.Start) tokens ≡ true → IsSaid tokens
passes_said [] p = (method.First, None, [], (refl, inl (refl, refl)))
passes_said (token ∷ tokens) p = first_said token.kind token tokens refl p

-- ---- where tokens leave the grammar

token_of : Kind → Token
token_of k = record { kind = k; place = 0; text = [] }

-- tokens with which a list ends
finish : State → List Token
unfolding token_of
finish state.Comma = token_of kind.Word ∷ []
finish state.Keyword = token_of kind.Number ∷ token_of kind.Opening ∷ token_of kind.Word ∷ token_of kind.Closing ∷ []
finish state.Number = token_of kind.Opening ∷ token_of kind.Word ∷ token_of kind.Closing ∷ []
finish state.Opened = token_of kind.Word ∷ token_of kind.Closing ∷ []
finish state.Inside = token_of kind.Closing ∷ []
finish _ = []

finish_passes : (s : State) → passes (Some s) (finish s) ≡ true
unfolding finish token_of
finish_passes state.Start = refl
finish_passes state.FirstNumber = refl
finish_passes state.Name = refl
finish_passes state.Comma = refl
finish_passes state.Keyword = refl
finish_passes state.Number = refl
finish_passes state.Opened = refl
finish_passes state.Inside = refl
finish_passes state.Closed = refl

-- a list of the grammar goes on with tokens that lead to a state
goes_on : (front : List Token) (s : State) → goes (Some state.Start) front ≡ Some s → Begins IsSaid front
goes_on front s g = (
  finish s,
  passes_said (front ++ finish s) (passes_after (Some state.Start) front (finish s)
      ∙ ap (λ o. passes o (finish s)) g ∙ finish_passes s),
)

-- and none with tokens that lead to none
goes_nowhere : (front : List Token) → goes (Some state.Start) front ≡ None → ¬ Begins IsSaid front
goes_nowhere front g b = nothing_passes b.0 (ap (λ o. passes o b.0) (sym g) ∙ sym (passes_after (Some state.Start) front b.0)
    ∙ said_passes (front ++ b.0) b.1)

pub goes_more : (tokens : List Token) (i : ℕ) (token : Token) (s : State) → goes (Some state.Start) (take i tokens) ≡ Some s
    → i < length tokens → get_or tokens i token ≡ token
    → goes (Some state.Start) (take (i + 1) tokens) ≡ step s token.kind
goes_more tokens i token s g l e =
    ap (goes (Some state.Start)) (take_more tokens i token l ∙ ap (λ t. take i tokens ++ t ∷ []) e)
    ∙ goes_after (Some state.Start) (take i tokens) (token ∷ []) ∙ ap (λ o. goes o (token ∷ [])) g

-- the walk stops at a token
pub stops_at : (tokens : List Token) (i : ℕ) (token : Token) (s : State) → goes (Some state.Start) (take i tokens) ≡ Some s
    → i < length tokens → get_or tokens i token ≡ token
    → step s token.kind ≡ None → StopsAt IsSaid tokens i
stops_at tokens i token s g l e none =
    let stops : ¬ Begins IsSaid (take (i + 1) tokens) = goes_nowhere (take (i + 1) tokens) (goes_more tokens i token s g l e ∙ none) in
    record {
      within = omega arith;
      refused = λ said. stops (drop (i + 1) tokens, subst IsSaid (sym (take-append-drop (i + 1) tokens)) said);
      goes_on = goes_on (take i tokens) s g;
      stops = λ _. stops;
    }

-- the walk comes to the end
passes_end : (tokens : List Token) (s : State) → goes (Some state.Start) tokens ≡ Some s → passes (Some state.Start) tokens ≡ may_end s
passes_end tokens s g = ap (passes (Some state.Start)) (sym (append-nil tokens)) ∙ passes_after (Some state.Start) tokens []
    ∙ ap (λ o. passes o []) g

pub stops_at_end : (tokens : List Token) (s : State) → goes (Some state.Start) tokens ≡ Some s → may_end s ≡ false
    → StopsAt IsSaid tokens (length tokens)
stops_at_end tokens s g e = record {
  within = omega arith;
  refused = λ said. false≢true (sym (passes_end tokens s g ∙ e) ∙ said_passes tokens said);
  goes_on = subst (Begins IsSaid) (sym (take-length tokens)) (goes_on tokens s g);
  stops = λ l. absurd (omega arith);
}

pub said_at_end : (tokens : List Token) (s : State) → goes (Some state.Start) tokens ≡ Some s → may_end s ≡ true → IsSaid tokens
said_at_end tokens s g e = passes_said tokens (passes_end tokens s g ∙ e)

pub at_end : (tokens : List Token) (i : ℕ) (s : State) → goes (Some state.Start) (take i tokens) ≡ Some s → length tokens ≤ i
    → goes (Some state.Start) tokens ≡ Some s
at_end tokens i s g l = ap (goes (Some state.Start)) (sym (take_all i tokens l)) ∙ g
