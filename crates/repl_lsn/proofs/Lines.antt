-- The lines of a text: there are some, and no others.
use Rattle.std.proofs.Common.{◌≡◌, ◌≢◌, ℕ, ◌<◌, ◌⊎◌, cond, eqb, List, [], ◌∷◌, ◌++◌, length, refl, sym, ap, subst, ◌∙◌, inl, inr, ⊎_elim, append-nil, append_assoc, length-append, arith}
use Rattle.std.proofs.lemmas.Bool.{cases_eq, ne_eqb, cond-false}
use Rattle.std.proofs.lemmas.List.Elements.{All-nil, All-cons, All-head, All-tail}
use Rattle.std.specs.List.{All, flat_map}
use Rattle.repl_lsn.specs.History.{ended, AreLines}

-- a byte in front of the first line
abbrev onto_first : ℕ → List (List ℕ) → List (List ℕ)
onto_first c [] = (c ∷ []) ∷ []
onto_first c (line ∷ lines) = (c ∷ line) ∷ lines

abbrev pub lines_of : List ℕ → List (List ℕ)
lines_of [] = []
lines_of (c ∷ cs) = cond (eqb c 10) ([] ∷ lines_of cs) (onto_first c (lines_of cs))

abbrev pub IsSingle : List ℕ → Type 0
IsSingle line = All (λ c. c ≢ 10) line

inside : (c : ℕ) (cs : List ℕ) → c ≢ 10 → lines_of (c ∷ cs) ≡ onto_first c (lines_of cs)
inside c cs other = cond-false (eqb c 10) ([] ∷ lines_of cs) (onto_first c (lines_of cs)) (ne_eqb c 10 other)

pub line_then : (line rest : List ℕ) → IsSingle line → lines_of (line ++ 10 ∷ rest) ≡ line ∷ lines_of rest
line_then [] rest one = refl
line_then (c ∷ cs) rest one =
    inside c (cs ++ 10 ∷ rest) (All-head (λ x. x ≢ 10) c cs one) ∙ ap (onto_first c) (line_then cs rest (All-tail (λ x. x ≢ 10) c cs one))

pub line_last : (line : List ℕ) → IsSingle line → 0 < length line → lines_of line ≡ line ∷ []
line_last [] one some = absurd (omega arith)
line_last (c ∷ []) one some = inside c [] (All-head (λ x. x ≢ 10) c [] one)
line_last (c ∷ d ∷ cs) one some =
    inside c (d ∷ cs) (All-head (λ x. x ≢ 10) c (d ∷ cs) one)
    ∙ ap (onto_first c) (line_last (d ∷ cs) (All-tail (λ x. x ≢ 10) c (d ∷ cs) one) (omega arith))

-- ---- no others

lines_front : (front : List (List ℕ)) (rest : List ℕ) → All IsSingle front → lines_of (flat_map ended front ++ rest) ≡ front
    ++ lines_of rest
lines_front [] rest one = refl
lines_front (line ∷ front) rest one =
    let parts : flat_map ended (line ∷ front) ++ rest ≡ line ++ 10 ∷ (flat_map ended front ++ rest) =
    append_assoc (ended line) (flat_map ended front) rest ∙ append_assoc line (10 ∷ []) (flat_map ended front ++ rest) in
    ap lines_of parts ∙ line_then line (flat_map ended front ++ rest) (All-head IsSingle line front one)
    ∙ ap (λ lines. line ∷ lines) (lines_front front rest (All-tail IsSingle line front one))

front_single : (a b : List (List ℕ)) → All IsSingle (a ++ b) → All IsSingle a × All IsSingle b
front_single [] b h = (All-nil IsSingle, h)
front_single (line ∷ a) b h =
    let r = front_single a b (All-tail IsSingle line (a ++ b) h) in
    (All-cons IsSingle line a (All-head IsSingle line (a ++ b) h) r.0, r.1)

lines_ended : (text : List ℕ) (lines : List (List ℕ)) → All IsSingle lines → text ≡ flat_map ended lines → lines ≡ lines_of text
lines_ended text lines one e =
    sym (ap lines_of (e ∙ sym (append-nil (flat_map ended lines))) ∙ lines_front lines [] one ∙ append-nil lines)

lines_open : (text : List ℕ) (front : List (List ℕ)) (last : List ℕ) → All IsSingle (front ++ last ∷ []) → 0 < length last
    → text ≡ flat_map ended front ++ last → front ++ last ∷ [] ≡ lines_of text
lines_open text front last one some e =
    let singles = front_single front (last ∷ []) one in
    sym (ap lines_of e ∙ lines_front front last singles.0 ∙ ap (λ lines. front
    ++ lines) (line_last last (All-head IsSingle last [] singles.1) some))

pub lines_are : (text : List ℕ) (lines : List (List ℕ)) → AreLines text lines → lines ≡ lines_of text
lines_are text lines h = ⊎_elim
    (λ e. lines_ended text lines h.single e)
    (λ o. o.2 ∙ lines_open text o.0 o.1 (subst (All IsSingle) o.2 h.single) o.3 o.4)
    h.parts

-- ---- there are some

more_end : (text : List ℕ) (lines : List (List ℕ)) → AreLines text lines → AreLines (10 ∷ text) ([] ∷ lines)
more_end text lines h = record {
  single = All-cons IsSingle [] lines (All-nil (λ c. c ≢ 10)) h.single;
  parts = ⊎_elim
      (λ e. inl (ap (λ rest. 10 ∷ rest) e))
      (λ o. inr ([] ∷ o.0, o.1, ap (λ rest. [] ∷ rest) o.2, o.3, ap (λ rest. 10 ∷ rest) o.4))
      h.parts;
}

none_open : (front : List (List ℕ)) (last : List ℕ) → [] ≡ front ++ last ∷ [] → ⊥
none_open [] last e = cc
none_open (line ∷ front) last e = cc

more_first : (c : ℕ) (text : List ℕ) → c ≢ 10 → AreLines text [] → AreLines (c ∷ text) ((c ∷ []) ∷ [])
more_first c text other h = record {
  single = All-cons IsSingle (c ∷ []) [] (All-cons (λ x. x ≢ 10) c [] other (All-nil (λ x. x ≢ 10))) (All-nil IsSingle);
  parts = ⊎_elim
      (λ e. inr ([], c ∷ [], refl, omega arith, ap (λ rest. c ∷ rest) e))
      (λ o. absurd (none_open o.0 o.1 o.2))
      h.parts;
}

open_more : (c : ℕ) (text line : List ℕ) (lines front : List (List ℕ)) (last : List ℕ) → line ∷ lines ≡ front ++ last ∷ [] → 0 < length last
    → text ≡ flat_map ended front ++ last
    → (more : List (List ℕ)) × (end : List ℕ) × ((c ∷ line) ∷ lines ≡ more ++ end ∷ []) × (0 < length end)
    × (c ∷ text ≡ flat_map ended more ++ end)
open_more c text line lines [] last e some t = ([], c ∷ last, cc, omega arith, ap (λ rest. c ∷ rest) t)
open_more c text line lines (first ∷ front) last e some t = ((c ∷ first) ∷ front, last, cc, some, ap (λ rest. c ∷ rest) t)

more_inside : (c : ℕ) (text line : List ℕ) (lines : List (List ℕ)) → c ≢ 10 → AreLines text (line ∷ lines)
    → AreLines (c ∷ text) ((c ∷ line) ∷ lines)
more_inside c text line lines other h = record {
  single = All-cons IsSingle (c ∷ line) lines (All-cons (λ x. x ≢ 10) c line other (All-head IsSingle line lines h.single))
      (All-tail IsSingle line lines h.single);
  parts = ⊎_elim
      (λ e. inl (ap (λ rest. c ∷ rest) e))
      (λ o. inr (open_more c text line lines o.0 o.1 o.2 o.3 o.4))
      h.parts;
}

more_onto : (c : ℕ) (text : List ℕ) (lines : List (List ℕ)) → c ≢ 10 → AreLines text lines → AreLines (c ∷ text) (onto_first c lines)
more_onto c text [] other h = more_first c text other h
more_onto c text (line ∷ lines) other h = more_inside c text line lines other h

pub are_lines : (text : List ℕ) → AreLines text (lines_of text)
are_lines [] = record { single = All-nil IsSingle; parts = inl refl }
are_lines (c ∷ cs) = ⊎_elim
    (λ e. subst (λ d. AreLines (d ∷ cs) (lines_of (d ∷ cs))) (sym e) (more_end cs (lines_of cs) (are_lines cs)))
    (λ other. subst (AreLines (c ∷ cs)) (sym (inside c cs other)) (more_onto c cs (lines_of cs) other (are_lines cs)))
    (cases_eq c 10)

-- ---- the first of them

pub record Splits (text line past : List ℕ) : Type 0 where
  pub first : lines_of text ≡ line ∷ lines_of past
  pub shorter : length past < length text

pub split_first : (text line past : List ℕ) → 0 < length text → IsSingle line → (text ≡ line ++ 10 ∷ past)
    ⊎ ((text ≡ line) × (past ≡ [])) → Splits text line past
split_first text line past some one parts = ⊎_elim
    (λ e.
    record {
      first = ap lines_of e ∙ line_then line past one;
      shorter = omega (arith, ap length e, length-append line (10 ∷ past));
    })
    (λ e.
    record {
      first = ap lines_of e.0 ∙ line_last line one (subst (λ t. 0 < length t) e.0 some) ∙ ap (λ rest. line ∷ lines_of rest) (sym e.1);
      shorter = subst (λ rest. length rest < length text) (sym e.1) some;
    })
    parts
