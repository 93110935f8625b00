-- A turn is taken apart: where each ticket was served, the machine is in its slot, in the state to which the history led.
use Rattle.std.proofs.Common.{◌≡◌, ℕ, zero, suc, List, [], ◌∷◌, ◌<◌, length, get_or, Some, ⊎_elim, sym, ap, ◌∙◌, subst, arith}
use mathlib.Core.Option.{some, some-injective, some-ne-none}
use lib.ListN.{get_elem?}
use Rattle.atomic_table.specs.Table.{State, Final, Seen}
use Rattle.atomic_table.specs.Seated.{TableId}
use Rattle.repl_turn.specs.declared.rule.View.{View}
use Rattle.repl_turn.specs.declared.rule.Stage.TheVariants.{Holding}
use Rattle.repl_turn.specs.History.{Replays, Ends}
use Rattle.repl_turn.specs.Rule.{StageFits, Kept}
use Rattle.repl_turn.proofs.Knowing.{known}

module _ {A : Type 0} where
  read_there : (l : List A) (i : ℕ) (a d : A) → get_elem? l i ≡ some a → get_or l i d ≡ a
  read_there [] i a d e = absurd (some-ne-none a (sym e))
  read_there (x ∷ l) zero a d e = some-injective x a e
  read_there (x ∷ l) (suc i) a d e = read_there l i a d e

module _ {S E R : Type 0} (steps : S → E → R → S → Type 0) (opening : S) where
  -- no seat has the machine out
  home : (s : State S (View S E R)) (r : Kept steps opening s) → get_or s.words 0 0 ≡ get_or s.words 16 0
      → get_elem? s.homes 0 ≡ some (some r.state)
  home s r same = ⊎_elim (λ e. e) (λ p. absurd (held p.0 p.1 p.2 p.3 p.4 p.5)) r.place
    where
      held : (j : ℕ) (u : View S E R) (k : ℕ) (x : S) → get_elem? s.views j ≡ some u → u.stage ≡ Holding k x → ⊥
      held j u k x e h =
          let fits = subst (StageFits r.log r.top r.state (get_or s.words 0 0) (length r.log) u.numbers) h (r.each_view j u e).stage in
          let counted = r.counted in
          let turn : k ≡ length r.log = fits.0 in
          let drawn : k < get_or s.words 0 0 = fits.1 in
          omega arith

  pub ended : (t : TableId) (id : ℕ) (v : View S E R) (words : List ℕ) (slots : List S) (n : ℕ) (x : S) → v.opening ≡ Some opening
      → Final (Seen (Kept steps opening) id v) words slots
      → get_elem? words 0 ≡ some n → get_elem? words 16 ≡ some n → get_elem? slots 0 ≡ some x → Ends steps (known t v) x
  ended t id v words slots n x o final drawn served there =
      let s : State S (View S E R) = final.0 in
      let r : Kept steps opening s = final.1.0 in
      let b = (r.each_view id v final.1.1).begins in
      let first : get_or s.words 0 0 ≡ n = ap (λ ws. get_or ws 0 0) final.2 ∙ read_there words 0 n 0 drawn in
      let second : get_or s.words 16 0 ≡ n = ap (λ ws. get_or ws 16 0) final.2 ∙ read_there words 16 n 0 served in
      let same : r.state ≡ x = some-injective r.state x (sym (final.4 0 r.state (home s r (first ∙ sym second))) ∙ there) in
      record {
        opening = opening;
        opened = o;
        more = b.rest;
        others = b.others;
        leads = subst (λ (l : List _). Replays steps opening l x) (sym b.whole) (subst (λ z. Replays steps opening r.log z) same r.legal);
      }
