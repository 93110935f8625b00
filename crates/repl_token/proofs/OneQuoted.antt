-- A text in quotes has one spelling, and a spelling has one end.
use Rattle.std.proofs.Common.{◌≡◌, ◌≢◌, ℕ, eqb, List, [], ◌∷◌, ◌++◌, flat_map, refl, sym, ap, subst, ◌∙◌, ⊎_elim}
use Rattle.std.proofs.lemmas.Bool.{cases_eq, eq-eqb, ne_eqb, cond-true, cond-false, true≢false}
use Rattle.repl_token.specs.Token.{EndsBefore}
use Rattle.repl_token.specs.Token.{doubled}

-- what stands after the bytes of a text in quotes: nothing, or a quote that no other follows
abbrev pub Closes : ℕ → List ℕ → Type 0
Closes quote [] = Unit {0}
Closes quote (c ∷ past) = (c ≡ quote) × EndsBefore (λ b. eqb b quote) past

pair_spelled : (quote c : ℕ) (cs tail : List ℕ) → c ≡ quote
    → flat_map (doubled quote) (c ∷ cs) ++ tail ≡ quote ∷ quote ∷ (flat_map (doubled quote) cs ++ tail)
pair_spelled quote c cs tail e = ap (λ piece. (piece ++ flat_map (doubled quote) cs) ++ tail)
    (cond-true (eqb c quote) (quote ∷ quote ∷ []) (c ∷ []) (eq-eqb c quote e))

byte_spelled : (quote c : ℕ) (cs tail : List ℕ) → c ≢ quote
    → flat_map (doubled quote) (c ∷ cs) ++ tail ≡ c ∷ (flat_map (doubled quote) cs ++ tail)
byte_spelled quote c cs tail e = ap (λ piece. (piece ++ flat_map (doubled quote) cs) ++ tail)
    (cond-false (eqb c quote) (quote ∷ quote ∷ []) (c ∷ []) (ne_eqb c quote e))

no_pair : (quote : ℕ) (past rest : List ℕ) → EndsBefore (λ b. eqb b quote) past → past ≡ quote ∷ rest → ⊥
no_pair quote past rest ends e = true≢false (sym (eq-eqb quote quote refl) ∙ subst (EndsBefore (λ b. eqb b quote)) e ends)

-- what closes a text is not more of it
no_more : (quote : ℕ) (tail : List ℕ) (c : ℕ) (cs other : List ℕ) → Closes quote tail → tail ≡ flat_map (doubled quote) (c ∷ cs) ++ other
    → ⊥
no_more quote [] c cs other closes e = ⊎_elim
    (λ q. let p = e ∙ pair_spelled quote c cs other q in cc)
    (λ q. let p = e ∙ byte_spelled quote c cs other q in cc)
    (cases_eq c quote)
no_more quote (q ∷ past) c cs other closes e = ⊎_elim
    (λ is. let p = e ∙ pair_spelled quote c cs other is in let rest : past ≡ quote ∷
    (flat_map (doubled quote) cs ++ other) = cc in no_pair quote past _ closes.1 rest)
    (λ no. let p = e ∙ byte_spelled quote c cs other no in let same : c ≡ q = cc in no (same ∙ closes.0))
    (cases_eq c quote)

pub one_text : (quote : ℕ) (a b tail other : List ℕ) → Closes quote tail → Closes quote other
    → flat_map (doubled quote) a ++ tail ≡ flat_map (doubled quote) b ++ other → (a ≡ b) × (tail ≡ other)
one_text quote [] [] tail other closes ends e = (refl, e)
one_text quote [] (d ∷ ds) tail other closes ends e = absurd (no_more quote tail d ds other closes e)
one_text quote (c ∷ cs) [] tail other closes ends e = absurd (no_more quote other c cs tail ends (sym e))
one_text quote (c ∷ cs) (d ∷ ds) tail other closes ends e = ⊎_elim
    (λ p. ⊎_elim
    (λ q.
    let l = sym (pair_spelled quote c cs tail p) ∙ e ∙ pair_spelled quote d ds other q in
    let rest : flat_map (doubled quote) cs ++ tail ≡ flat_map (doubled quote) ds ++ other = cc in
    let more = one_text quote cs ds tail other closes ends rest in
    ((λ i. (p ∙ sym q) i ∷ more.0 i), more.1))
    (λ q. let l = sym (pair_spelled quote c cs tail p) ∙ e ∙ byte_spelled quote d ds other q in let is : d ≡ quote = cc in absurd (q is))
    (cases_eq d quote))
    (λ p. ⊎_elim
    (λ q. let l = sym (byte_spelled quote c cs tail p) ∙ e ∙ pair_spelled quote d ds other q in let is : c ≡ quote = cc in absurd (p is))
    (λ q.
    let l = sym (byte_spelled quote c cs tail p) ∙ e ∙ byte_spelled quote d ds other q in
    let first : c ≡ d = cc in
    let rest : flat_map (doubled quote) cs ++ tail ≡ flat_map (doubled quote) ds ++ other = cc in
    let more = one_text quote cs ds tail other closes ends rest in
    ((λ i. first i ∷ more.0 i), more.1))
    (cases_eq d quote))
    (cases_eq c quote)
