-- Fronts whose bytes pass a test and after which one does not: a list is cut so in one way.
use Rattle.std.proofs.Common.{◌≡◌, ℕ, ◌<◌, Bool, true, false, List, [], ◌∷◌, ◌++◌, length, get_or, take, drop, refl, sym, ap, subst, ◌∙◌, ⊎_elim, take-append-drop, arith}
use Rattle.std.proofs.lemmas.Bool.{both_ways, cases_lt}
use Rattle.std.proofs.lemmas.List.{drop_more, drop_all, get_or-take, length-take-le}
use Rattle.std.proofs.lemmas.List.Elements.{All-head, All-tail, All-from_get_or}
use Rattle.std.proofs.lemmas.List.Sums.{prefix_len-le-length, prefix_len_passes, prefix_len_stops}
use Rattle.std.specs.List.{AllPass, prefix_len}

-- no byte stands first that passes
abbrev pub Stops : (ℕ → Bool) → List ℕ → Type 0
Stops test [] = Unit {0}
Stops test (c ∷ cs) = test c ≡ false

pub one_cut : (test : ℕ → Bool) (a b c d : List ℕ) → AllPass test a → AllPass test b → Stops test c → Stops test d → a ++ c ≡ b ++ d
    → (a ≡ b) × (c ≡ d)
one_cut test [] [] c d p q u v e = (refl, e)
one_cut test [] (y ∷ b) c d p q u v e =
    absurd (both_ways (test y) (subst (Stops test) e u) (All-head (λ x. test x ≡ true) y b q))
one_cut test (x ∷ a) [] c d p q u v e =
    absurd (both_ways (test x) (subst (Stops test) (sym e) v) (All-head (λ x. test x ≡ true) x a p))
one_cut test (x ∷ a) (y ∷ b) c d p q u v e =
    let first : x ≡ y = cc in
    let rest : a ++ c ≡ b ++ d = cc in
    let r = one_cut test a b c d (All-tail (λ x. test x ≡ true) x a p) (All-tail (λ x. test x ≡ true) y b q) u v rest in
    (cc, r.1)

-- the longest such front

pub run_passes : (test : ℕ → Bool) (text : List ℕ) → AllPass test (take (prefix_len test text) text)
run_passes test text =
    let size = length-take-le (prefix_len test text) text (prefix_len-le-length test text) in
    All-from_get_or (λ c. test c ≡ true) (take (prefix_len test text) text) 0
    (λ i l.
    let below : i < prefix_len test text = omega (arith, size) in
    ap test (get_or-take (prefix_len test text) text i 0 below) ∙ prefix_len_passes test text i 0 below)

stops_at : (test : ℕ → Bool) (text : List ℕ) (n : ℕ) → (n < length text → test (get_or text n 0) ≡ false) → Stops test (drop n text)
stops_at test text n stops = ⊎_elim
    (λ l. subst (Stops test) (sym (drop_more text n 0 l)) (stops l))
    (λ l. subst (Stops test) (sym (drop_all n text l)) tt)
    (cases_lt n (length text))

pub run_stops : (test : ℕ → Bool) (text : List ℕ) → Stops test (drop (prefix_len test text) text)
run_stops test text = stops_at test text (prefix_len test text) (prefix_len_stops test text 0)

-- such a front is the longest one
pub run_is : (test : ℕ → Bool) (text front past : List ℕ) → text ≡ front ++ past → AllPass test front → Stops test past
    → (front ≡ take (prefix_len test text) text) × (past ≡ drop (prefix_len test text) text)
run_is test text front past e passes stops =
    one_cut test front (take (prefix_len test text) text) past (drop (prefix_len test text) text) passes (run_passes test text) stops
    (run_stops test text)
    (sym e ∙ sym (take-append-drop (prefix_len test text) text))
