-- Timelines in order: one more, and those in the middle.
use Rattle.std.proofs.Common.{◌≡◌, ℕ, suc, ◌+◌, ◌-◌, ◌<◌, ◌≤◌, List, [], ◌∷◌, ◌++◌, length, get_or, take, drop, refl, sym, ap, subst, ◌∙◌, take-append-drop, arith}
use Rattle.std.proofs.lemmas.List.{take_more, drop_more}
use Rattle.repl_lsn.specs.declared.history.Part.{Part}
use Rattle.repl_lsn.specs.History.{InOrder, last_number, last_switch}

pub in_order_push : (own : ℕ) (before : List Part) (p : Part) → InOrder own before → last_number before < p.tli → p.tli < own
    → last_switch before ≤ p.switch → InOrder own (before ++ p ∷ [])
in_order_push own [] p h rises below falls = below
in_order_push own (a ∷ []) p h rises below falls = (rises, falls, below)
in_order_push own (a ∷ b ∷ before) p h rises below falls = (h.0, h.1, in_order_push own (b ∷ before) p h.2 rises below falls)

below_own : (own : ℕ) (p : Part) (others : List Part) → InOrder own (p ∷ others) → p.tli < own
below_own own p [] h = h
below_own own p (q ∷ others) h = omega (arith, h.0, below_own own q others h.2)

-- what the order says of one of them
pub in_order_at : (own : ℕ) (before : List Part) (p : Part) (others : List Part) → 0 < p.tli → InOrder own (before ++ p ∷ others)
    → (last_number before < p.tli) × (p.tli < own) × (last_switch before ≤ p.switch)
in_order_at own [] p others some h = (some, below_own own p others h, omega arith)
in_order_at own (a ∷ []) p others some h = (h.0, below_own own p others h.2, h.1)
in_order_at own (a ∷ b ∷ before) p others some h = in_order_at own (b ∷ before) p others some h.2

pub last_number_push : (before : List Part) (p : Part) → last_number (before ++ p ∷ []) ≡ p.tli
last_number_push [] p = refl
last_number_push (a ∷ []) p = refl
last_number_push (a ∷ b ∷ before) p = last_number_push (b ∷ before) p

pub last_switch_push : (before : List Part) (p : Part) → last_switch (before ++ p ∷ []) ≡ p.switch
last_switch_push [] p = refl
last_switch_push (a ∷ []) p = refl
last_switch_push (a ∷ b ∷ before) p = last_switch_push (b ∷ before) p

-- the last one by its place
pub last_is : (parts : List Part) (d : Part) → 0 < length parts → (last_number parts ≡ (get_or parts (length parts - 1) d).tli)
    × (last_switch parts ≡ (get_or parts (length parts - 1) d).switch)
last_is [] d some = absurd (omega arith)
last_is (a ∷ []) d some = (refl, refl)
last_is (a ∷ b ∷ parts) d some = let e : length (a ∷ b ∷ parts) - 1 ≡ suc (length (b ∷ parts) - 1) =
    omega arith in rw e (last_is (b ∷ parts) d (omega arith))

-- the same by places

more_is : (parts : List Part) (i : ℕ) (p : Part) → i < length parts → p ≡ get_or parts i p → take (i + 1) parts ≡ take i parts ++ p ∷ []
more_is parts i p l e = take_more parts i p l ∙ ap (λ q. take i parts ++ q ∷ []) (sym e)

pub in_order_more : (own : ℕ) (parts : List Part) (i : ℕ) (p : Part) → i < length parts → p ≡ get_or parts i p → InOrder own (take i parts)
    → last_number (take i parts) < p.tli → p.tli < own → last_switch (take i parts) ≤ p.switch → InOrder own (take (i + 1) parts)
in_order_more own parts i p l e h rises below falls = subst (InOrder own) (sym (more_is parts i p l e)) (in_order_push own (take i parts) p
    h rises below falls)

pub last_number_more : (parts : List Part) (i : ℕ) (p : Part) → i < length parts → p ≡ get_or parts i p
    → last_number (take (i + 1) parts) ≡ p.tli
last_number_more parts i p l e = ap last_number (more_is parts i p l e) ∙ last_number_push (take i parts) p

pub last_switch_more : (parts : List Part) (i : ℕ) (p : Part) → i < length parts → p ≡ get_or parts i p
    → last_switch (take (i + 1) parts) ≡ p.switch
last_switch_more parts i p l e = ap last_switch (more_is parts i p l e) ∙ last_switch_push (take i parts) p

pub in_order_item : (own : ℕ) (parts : List Part) (i : ℕ) (p : Part) → i < length parts → p ≡ get_or parts i p → 0 < p.tli
    → InOrder own parts → (last_number (take i parts) < p.tli) × (p.tli < own) × (last_switch (take i parts) ≤ p.switch)
in_order_item own parts i p l e some h =
    let rest : drop i parts ≡ p ∷ drop (i + 1) parts = drop_more parts i p l ∙ ap (λ q. q ∷ drop (i + 1) parts) (sym e) in
    in_order_at own (take i parts) p (drop (i + 1) parts) some (subst (InOrder own) (sym (take-append-drop i parts)
    ∙ ap (λ past. take i parts ++ past) rest) h)
