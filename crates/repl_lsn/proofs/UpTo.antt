-- The history of a timeline on a path: there is one.
use Rattle.std.proofs.Common.{◌≡◌, ℕ, ◌<◌, List, [], ◌∷◌, ◌++◌, refl, sym, ap, subst, ◌∙◌, ⊎_elim, arith}
use Rattle.repl_lsn.specs.declared.history.Part.{Part}
use Rattle.repl_lsn.specs.History.{Path, IsPath, InOrder}
use Rattle.repl_lsn.specs.Path.{IsUpTo}

order_past : (own : ℕ) (p : Part) (ps : List Part) → InOrder own (p ∷ ps) → InOrder own ps
order_past own p [] order = tt
order_past own p (q ∷ ps) order = order.2

-- numbers rise up to the own one
rises : (own : ℕ) (p : Part) (between : List Part) (q : Part) (after : List Part) → InOrder own (p ∷ (between ++ q ∷ after)) → p.tli < q.tli
rises own p [] q after order = order.0
rises own p (r ∷ between) q after order = let more = rises own r between q after order.2 in omega (arith, order.0)

below_own : (own : ℕ) (before : List Part) (p : Part) (after : List Part) → InOrder own (before ++ p ∷ after) → p.tli < own
below_own own [] p [] order = order
below_own own [] p (q ∷ after) order = let more = below_own own [] q after order.2 in omega (arith, order.0)
below_own own (q ∷ before) p after order = below_own own before p after (order_past own q (before ++ p ∷ after) order)

first_same : (p q : Part) (ps qs : List Part) → p ∷ ps ≡ q ∷ qs → p ≡ q
first_same p q ps qs e = cc

rest_same : (p q : Part) (ps qs : List Part) → p ∷ ps ≡ q ∷ qs → ps ≡ qs
rest_same p q ps qs e = cc

-- so a number stands in one place
same_before : (own : ℕ) (a b : List Part) (p q : Part) (after rest : List Part) → InOrder own (a ++ p ∷ after)
    → a ++ p ∷ after ≡ b ++ q ∷ rest → p.tli ≡ q.tli → a ≡ b
same_before own [] [] p q after rest order e number = refl
same_before own [] (x ∷ b) p q after rest order e number =
    let up = rises own x b q rest (subst (InOrder own) e order) in
    absurd (omega (arith, ap (λ (r : Part). r.tli) (first_same p x after (b ++ q ∷ rest) e)))
same_before own (x ∷ a) [] p q after rest order e number =
    let up = rises own x a p after order in
    absurd (omega (arith, ap (λ (r : Part). r.tli) (first_same x q (a ++ p ∷ after) rest e)))
same_before own (x ∷ a) (y ∷ b) p q after rest order e number =
    let tail = same_before own a b p q after rest (order_past own x (a ++ p ∷ after) order)
    (rest_same x y (a ++ p ∷ after) (b ++ q ∷ rest) e) number in
    ap (λ (r : Part). r ∷ a) (first_same x y (a ++ p ∷ after) (b ++ q ∷ rest) e) ∙ ap (λ ps. y ∷ ps) tail

-- the path up to a timeline that was left
Left : Path → ℕ → Path → Type 0
Left path tli history = (p : Part) × (after : List Part) × (path.parents ≡ history.parents ++ p ∷ after) × (p.tli ≡ tli)

not_own : (path history : Path) (tli : ℕ) → IsPath path → Left path tli history → tli ≡ path.own → ⊥
unfolding Left
not_own path history tli order left own =
    let below = below_own path.own history.parents left.0 left.1 (subst (InOrder path.own) left.2 order) in
    omega (arith, left.3)

same_parents : (path a b : Path) (tli : ℕ) → IsPath path → Left path tli a → Left path tli b → a.parents ≡ b.parents
unfolding Left
same_parents path a b tli order left right =
    same_before path.own a.parents b.parents left.0 right.0 left.1 right.1 (subst (InOrder path.own) left.2 order)
    (sym left.2 ∙ right.2) (left.3 ∙ sym right.3)

from_fields : (a b : Path) → a.own ≡ b.own → a.parents ≡ b.parents → a ≡ b
from_fields a b p q =
    let with_own : ℕ → Path = λ x. record { own = x; parents = a.parents } in
    let with_parents : List Part → Path = λ x. record { own = b.own; parents = x } in
    ap with_own p ∙ ap with_parents q

pub one_up_to : (path a b : Path) (tli : ℕ) → IsPath path → IsUpTo path tli a → IsUpTo path tli b → a ≡ b
unfolding Left
one_up_to path a b tli order u v =
    ⊎_elim
    (λ (e : a ≡ path). ⊎_elim
    (λ (f : b ≡ path). e ∙ sym f)
    (λ right. absurd (not_own path b tli order right (sym u.own ∙ ap (λ (h : Path). h.own) e)))
    v.begins)
    (λ left. ⊎_elim
    (λ (f : b ≡ path). absurd (not_own path a tli order left (sym v.own ∙ ap (λ (h : Path). h.own) f)))
    (λ right. from_fields a b (u.own ∙ sym v.own) (same_parents path a b tli order left right))
    v.begins)
    u.begins
