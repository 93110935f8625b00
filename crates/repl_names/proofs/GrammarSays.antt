-- What the tokens of a list say: there is one meaning at most.
use Rattle.std.proofs.Common.{◌≡◌, ℕ, Bool, true, false, ◌⊎◌, inl, inr, List, [], ◌∷◌, ◌++◌, map, filter, slice_get, drop, Option, Some, None, refl, sym, ap, subst, ◌∙◌, cond, append-nil}
use Rattle.std.proofs.lemmas.List.{map-append}
use Rattle.std.proofs.lemmas.List.Elements.{filter-append}
use Rattle.repl_names.specs.declared.token.Kind.{Kind}
use Rattle.repl_names.specs.declared.token.Kind.TheVariants as kind
use Rattle.repl_names.specs.declared.token.Token.{Token}
use Rattle.repl_names.specs.declared.list.Method.{Method}
use Rattle.repl_names.specs.declared.list.Method.TheVariants as method
use Rattle.repl_names.specs.Grammar.{IsName, AreNames, AreCounted, AreChosen, Says, IsSaid}
use Rattle.repl_names.specs.declared.grammar.Shape.{Shape}
use Rattle.repl_names.specs.Walk.{is_name, kind_at, shape_from, said_number, said_names}

pub record Meaning : Type 0 where
  pub method : Method
  pub number : Option Token
  pub names : List (List ℕ)

abbrev pub meant : Method → Option Token → List (List ℕ) → Meaning
meant m number names = record { method = m; number = number; names = names }

abbrev pub meaning_from : Shape → List Token → Meaning
meaning_from s tokens = meant s.method (said_number tokens s.number) (said_names (drop s.names tokens))

-- what the tokens say, judged by the kinds of the first two
abbrev pub meaning : List Token → Meaning
meaning tokens = meaning_from (shape_from (kind_at tokens 0) (kind_at tokens 1)) tokens

-- the names

said_more : (token : Token) (tokens : List Token) (b : Bool) → is_name token.kind ≡ b
    → said_names (token ∷ tokens) ≡ cond b (token.text ∷ said_names tokens) (said_names tokens)
said_more token tokens true e = ap (λ b. map (λ t. t.text) (cond b (token ∷ filter (λ t. is_name t.kind) tokens)
    (filter (λ t. is_name t.kind) tokens))) e
said_more token tokens false e = ap (λ b. map (λ t. t.text) (cond b (token ∷ filter (λ t. is_name t.kind) tokens)
    (filter (λ t. is_name t.kind) tokens))) e

name_said : (token : Token) (tokens : List Token) → IsName token.kind → said_names (token ∷ tokens) ≡ token.text ∷ said_names tokens
name_said token tokens (inl e) = said_more token tokens true (ap is_name e)
name_said token tokens (inr (inl e)) = said_more token tokens true (ap is_name e)
name_said token tokens (inr (inr (inl e))) = said_more token tokens true (ap is_name e)
name_said token tokens (inr (inr (inr e))) = said_more token tokens true (ap is_name e)

names_are_said : (tokens : List Token) (names : List (List ℕ)) → AreNames tokens names → names ≡ said_names tokens
names_are_said [] names n = absurd n
names_are_said (token ∷ []) names n = n.1 ∙ sym (name_said token [] n.0)
names_are_said (token ∷ comma ∷ tokens) names n =
    n.2.1 ∙ ap (λ others. token.text ∷ others) (names_are_said tokens n.2.0 n.2.2)
    ∙ sym (name_said token (comma ∷ tokens) n.0 ∙ ap (λ others. token.text ∷ others) (said_more comma tokens false (ap is_name n.1)))

-- the closing parenthesis adds none
inner_are_said : (inside : List Token) (closing : Token) (names : List (List ℕ)) → AreNames inside names → closing.kind ≡ kind.Closing
    → names ≡ said_names (inside ++ closing ∷ [])
inner_are_said inside closing names n e =
    let none : said_names (closing ∷ []) ≡ [] = said_more closing [] false (ap is_name e) in
    names_are_said inside names n
    ∙ sym (append-nil (said_names inside))
    ∙ ap (λ others. said_names inside ++ others) (sym none)
    ∙ sym (map-append (λ t. t.text) (filter (λ t. is_name t.kind) inside) (filter (λ t. is_name t.kind) (closing ∷ [])))
    ∙ ap (map (λ t. t.text)) (sym (filter-append (λ t. is_name t.kind) inside (closing ∷ [])))

-- ---- the one meaning

-- the first token is a name, and no parenthesis opens after it
plain_shape : (j : Kind) (second : Option Kind) → IsName j → (second ≡ Some kind.Comma) ⊎ (second ≡ None)
    → shape_from (Some j) second ≡ shape_from None None
plain_shape j second (inl d) (inl e) = ap (λ k. shape_from (Some k) second) d ∙ ap (shape_from (Some kind.Word)) e
plain_shape j second (inl d) (inr e) = ap (λ k. shape_from (Some k) second) d ∙ ap (shape_from (Some kind.Word)) e
plain_shape j second (inr (inl d)) (inl e) = ap (λ k. shape_from (Some k) second) d ∙ ap (shape_from (Some kind.Number)) e
plain_shape j second (inr (inl d)) (inr e) = ap (λ k. shape_from (Some k) second) d ∙ ap (shape_from (Some kind.Number)) e
plain_shape j second (inr (inr (inl d))) (inl e) = ap (λ k. shape_from (Some k) second) d ∙ ap (shape_from (Some kind.Quoted)) e
plain_shape j second (inr (inr (inl d))) (inr e) = ap (λ k. shape_from (Some k) second) d ∙ ap (shape_from (Some kind.Quoted)) e
plain_shape j second (inr (inr (inr d))) (inl e) = ap (λ k. shape_from (Some k) second) d ∙ ap (shape_from (Some kind.Star)) e
plain_shape j second (inr (inr (inr d))) (inr e) = ap (λ k. shape_from (Some k) second) d ∙ ap (shape_from (Some kind.Star)) e

names_meaning : (tokens : List Token) (names : List (List ℕ)) → AreNames tokens names
    → meaning tokens ≡ meant method.First None (said_names tokens)
names_meaning [] names n = absurd n
names_meaning (token ∷ []) names n = ap (λ s. meaning_from s (token ∷ [])) (plain_shape token.kind None n.0 (inr refl))
names_meaning (token ∷ comma ∷ tokens) names n = ap (λ s. meaning_from s (token ∷ comma ∷ tokens))
    (plain_shape token.kind (Some comma.kind) n.0 (inl (ap (λ k. Some k) n.1)))

same_meaning : (m n : Method) (a b : Option Token) (xs ys : List (List ℕ)) → m ≡ n → a ≡ b → xs ≡ ys → meant m a xs ≡ meant n b ys
same_meaning m n a b xs ys d e f = cc

counted_meaning : (tokens : List Token) (number : Token) (names : List (List ℕ)) → AreCounted tokens number names
    → meaning tokens ≡ meant method.First (Some number) names
counted_meaning tokens number names c =
    let all = number ∷ c.opening ∷ c.inside ++ c.closing ∷ [] in
    ap meaning c.parts
    ∙ ap (λ k. meaning_from (shape_from (Some k) (Some c.opening.kind)) all) c.is_number
    ∙ ap (λ k. meaning_from (shape_from (Some kind.Number) (Some k)) all) c.opens
    ∙ ap (meant method.First (Some number)) (sym (inner_are_said c.inside c.closing names c.are_names c.closes))

chosen_meaning : (tokens : List Token) (m : Method) (number : Token) (names : List (List ℕ)) → AreChosen tokens m number names
    → meaning tokens ≡ meant m (Some number) names
chosen_meaning tokens method.First number names c =
    let a = c.are_counted in
    ap meaning c.parts
    ∙ ap (λ k. meaning_from (shape_from (Some k) (kind_at c.others 0)) (c.chosen ∷ c.others)) c.chooses
    ∙ ap (λ ts. meant method.First (slice_get ts 0) (said_names (drop 2 ts))) a.parts
    ∙ ap (meant method.First (Some number)) (sym (inner_are_said a.inside a.closing names a.are_names a.closes))
chosen_meaning tokens method.Any number names c =
    let a = c.are_counted in
    ap meaning c.parts
    ∙ ap (λ k. meaning_from (shape_from (Some k) (kind_at c.others 0)) (c.chosen ∷ c.others)) c.chooses
    ∙ ap (λ ts. meant method.Any (slice_get ts 0) (said_names (drop 2 ts))) a.parts
    ∙ ap (meant method.Any (Some number)) (sym (inner_are_said a.inside a.closing names a.are_names a.closes))

says_meaning : (tokens : List Token) (m : Method) (number : Option Token) (names : List (List ℕ)) → Says tokens m number names
    → meaning tokens ≡ meant m number names
says_meaning tokens m None names (f, inl e) = ap meaning e.0 ∙ same_meaning method.First m None None [] names (sym f) refl (sym e.1)
says_meaning tokens m None names (f, inr n) = names_meaning tokens names n
    ∙ same_meaning method.First m None None (said_names tokens) names (sym f) refl (sym (names_are_said tokens names n))
says_meaning tokens m (Some number) names (inl c) = counted_meaning tokens number names c.1
    ∙ same_meaning method.First m (Some number) (Some number) names names (sym c.0) refl refl
says_meaning tokens m (Some number) names (inr c) = chosen_meaning tokens m number names c

-- two readings of the same tokens are one
pub record SaySame (m n : Method) (a b : Option Token) (xs ys : List (List ℕ)) : Type 0 where
  pub same_method : m ≡ n
  pub same_number : a ≡ b
  pub same_names : xs ≡ ys

pub say_same : (tokens : List Token) (m n : Method) (a b : Option Token) (xs ys : List (List ℕ)) → Says tokens m a xs → Says tokens n b ys
    → SaySame m n a b xs ys
say_same tokens m n a b xs ys p q =
    let e = sym (says_meaning tokens m a xs p) ∙ says_meaning tokens n b ys q in
    record { same_method = ap (λ t. t.method) e; same_number = ap (λ t. t.number) e; same_names = ap (λ t. t.names) e }

-- what the tokens of a list say is what their shape says
pub shape_says : (tokens : List Token) (s : Shape) → IsSaid tokens → s ≡ shape_from (kind_at tokens 0) (kind_at tokens 1)
    → Says tokens s.method (said_number tokens s.number) (said_names (drop s.names tokens))
shape_says tokens s (m, a, xs, p) e =
    let f = sym (says_meaning tokens m a xs p) ∙ ap (λ t. meaning_from t tokens) (sym e) in
    subst (λ (t : Meaning). Says tokens t.method t.number t.names) f p
