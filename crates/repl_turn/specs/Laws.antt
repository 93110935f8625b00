-- Laws of histories, for the proofs of those who share a machine.
use Rattle.std.specs.Prelude.{◌≡◌, ℕ, zero, suc, Bool, true, All, Some, List, [], ◌∷◌, ◌++◌, slice_get}
use Rattle.std.proofs.Common.{refl, sym, ap, ◌∙◌, subst}
use Rattle.std.proofs.lemmas.List.Elements.{All-head, All-tail}
use mathlib.Core.List.{IsPrefix}
use Rattle.repl_turn.specs.declared.machine.Entry.{Entry}
use Rattle.repl_turn.specs.History.{TurnId, Replays, Legal, StepAt}

module _ {S E R : Type 0} (steps : S → E → R → S → Type 0) where
  -- events that lead somewhere are split at an entry
  pub step_at : (x : S) (h : List (Entry E R)) (y : S) (at : ℕ) (e : Entry E R) → Replays steps x h y → slice_get h at ≡ Some e
      → StepAt steps x h y at e
  step_at x [] y at e p is = absurd cc
  step_at x (d ∷ h) y zero e p is =
      let same : d ≡ e = cc is in
      record {
        earlier = [];
        later = h;
        before = x;
        after = p.0;
        whole = ap (λ z. z ∷ h) same;
        place = refl;
        leads = refl;
        made = subst (λ (z : Entry E R). steps x z.event z.reply p.0) same p.1;
        goes_on = p.2;
      }
  step_at x (d ∷ h) y (suc at) e p is =
      let rest = step_at p.0 h y at e p.2 is in
      record {
        earlier = d ∷ rest.earlier;
        later = rest.later;
        before = rest.before;
        after = rest.after;
        whole = ap (λ l. d ∷ l) rest.whole;
        place = ap suc rest.place;
        leads = (p.0, p.1, rest.leads);
        made = rest.made;
        goes_on = rest.goes_on;
      }

  -- a beginning of a legal history is legal
  pub legal_front : (turn : TurnId S) (g h : List (Entry E R)) → IsPrefix g h → Legal steps turn h → Legal steps turn g
  legal_front turn g h pre l =
      let front = replays_front l.0 g pre.0 l.2 (subst (λ z. Replays steps l.0 z l.2) (sym pre.1) l.3) in
      (l.0, l.1, front.0, front.1)
    where
      replays_front : (x : S) (g h : List (Entry E R)) (z : S) → Replays steps x (g ++ h) z → (y : S) × Replays steps x g y
      replays_front x [] h z p = (x, refl)
      replays_front x (d ∷ g) h z p = let rest = replays_front p.0 g h z p.2 in (rest.0, (p.0, p.1, rest.1))

  -- quiet events leave what a quiet event leaves
  module _ {W : Type 0} (awaited : S → W) (quiet : E → Bool) (stays : (x : S) (event : E) (reply : R) (y : S) → quiet event ≡ true
      → steps x event reply y → awaited y ≡ awaited x) where
    abbrev pub IsQuiet : Entry E R → Type 0
    IsQuiet e = quiet e.event ≡ true

    pub all_quiet : (x : S) (h : List (Entry E R)) (y : S) → All IsQuiet h → Replays steps x h y → awaited y ≡ awaited x
    all_quiet x [] y a p = ap awaited (sym p)
    all_quiet x (e ∷ h) y a p = all_quiet p.0 h y (All-tail IsQuiet e h a) p.2 ∙ stays x e.event e.reply p.0 (All-head IsQuiet e h a) p.1
