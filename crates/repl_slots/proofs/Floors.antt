-- The least position of a list, with one slot more.
use Rattle.std.proofs.Common.{◌≡◌, ℕ, ◌+◌, ◌<◌, ◌≤◌, min, List, [], ◌∷◌, ◌++◌, length, take, get_or, Option, Some, None, All, option_to_list, refl, sym, ◌∙◌, ap, subst, arith, append_assoc, inl, inr}
use Rattle.std.proofs.lemmas.Bool.{cases_lt}
use Rattle.std.proofs.lemmas.List.{take_more, append-nil}
use Rattle.std.proofs.lemmas.List.Elements.{All-append, Contains-append_left, Contains-append_right}
use Rattle.repl_slots.specs.Slot.{IsLeast, IsFloor, held, held_positions, lower}
use Rattle.repl_slots.specs.declared.slot.Slot.{Slot}

all_of_one : (P : ℕ → Type 0) (x : ℕ) → P x → All P (x ∷ [])
all_of_one P x p k d lt = let is : k ≡ 0 = omega arith in rw is p

-- what is at or above a position is at or above a lower one
lowered : (ps : List ℕ) (a b : ℕ) → b ≤ a → All (λ p. a ≤ p) ps → All (λ p. b ≤ p) ps
lowered ps a b le all k d lt = omega (arith, all k d lt, le)

least_more : (ps : List ℕ) (floor more : Option ℕ) → IsLeast ps floor → IsLeast (ps ++ option_to_list more) (lower floor more)
least_more ps None None least = append-nil ps ∙ least
least_more ps None (Some b) least =
    subst (λ (l : List ℕ). IsLeast (l ++ b ∷ []) (Some b)) (sym least)
    ((0, omega arith, refl), all_of_one (λ p. b ≤ p) b (omega arith))
least_more ps (Some a) None least = subst (λ (l : List ℕ). IsLeast l (Some a)) (sym (append-nil ps)) least
least_more ps (Some a) (Some b) least =
    elim (cases_lt b a) [
      | inl lt ↦
          let is : min a b ≡ b = omega arith in
          subst (λ (m : ℕ). IsLeast (ps ++ b ∷ []) (Some m)) (sym is) (
            Contains-append_right ps (b ∷ []) b (0, omega arith, refl),
            All-append (λ p. b ≤ p) ps (b ∷ [])
                (lowered ps a b (omega arith) least.1) (all_of_one (λ p. b ≤ p) b (omega arith)),
          )
      | inr le ↦
          let is : min a b ≡ a = omega arith in
          subst (λ (m : ℕ). IsLeast (ps ++ b ∷ []) (Some m)) (sym is)
          (Contains-append_left ps (b ∷ []) a least.0, All-append (λ p. a ≤ p) ps (b ∷ []) least.1 (all_of_one (λ p. a ≤ p) b le))
    ]

positions_more : (slots : List Slot) (slot : Slot) → held_positions (slots ++ slot ∷ []) ≡ held_positions slots
    ++ option_to_list (held slot)
positions_more [] slot = append-nil (option_to_list (held slot))
positions_more (first ∷ slots) slot =
    ap (λ (l : List ℕ). option_to_list (held first) ++ l) (positions_more slots slot)
    ∙ sym (append_assoc (option_to_list (held first)) (held_positions slots) (option_to_list (held slot)))

pub floor_more : (slots : List Slot) (i : ℕ) (floor : Option ℕ) (slot : Slot) → IsFloor (take i slots) floor → i < length slots
    → slot ≡ get_or slots i slot → IsFloor (take (i + 1) slots) (lower floor (held slot))
floor_more slots i floor slot so_far lt is =
    subst (λ (l : List Slot). IsFloor l (lower floor (held slot)))
    (sym (take_more slots i slot lt ∙ ap (λ (s : Slot). take i slots ++ s ∷ []) (sym is)))
    (subst (λ (ps : List ℕ). IsLeast ps (lower floor (held slot))) (sym (positions_more (take i slots) slot))
    (least_more (held_positions (take i slots)) floor (held slot) so_far))
