-- The turn has come, or not yet; and the history so far is seen.
use Rattle.std.proofs.Common.{◌≡◌, ◌≢◌, ℕ, ◌<◌, true, ◌++◌, length, get_or, set, Some, inl, inr, refl, sym, ap, ◌∙◌, subst, arith, le_refl}
use mathlib.Core.Logic.{dite}
use mathlib.Core.Option.{some, none, some-injective}
use native.Mathlib.Decide.{ℕ_discrete}
use lib.ListN.{get_elem?}
use lib.Seq.{set-get_or}
use Rattle.atomic_table.specs.Table.{State, step, keeps, takes, Allows}
use Rattle.repl_turn.specs.declared.rule.View.{View}
use Rattle.repl_turn.specs.declared.rule.Stage.{Stage}
use Rattle.repl_turn.specs.declared.rule.Stage.TheVariants.{Waiting, Holding}
use Rattle.repl_turn.specs.History.{has, Disjoint}
use Rattle.repl_turn.specs.Rule.{Sits, StageFits, HasPlace, Kept, at_stage, Looked, ticket, taken_in, owned, Apart}
use Rattle.repl_turn.proofs.Views.{set_there, settled}
use Rattle.repl_turn.proofs.Draws.{unmoved}

module _ {S E R : Type 0} where
  abbrev ticket_of : Stage S E R → ℕ
  ticket_of (Waiting k) = k
  ticket_of (Holding k x) = k
  ticket_of _ = 0

  -- a seat that waits for this ticket finds the machine in the slot
  pub at_home : (s : State S (View S E R)) (state : S) (id : ℕ) (v : View S E R) (k : ℕ) → get_elem? s.views id ≡ some v
      → v.stage ≡ Waiting k
      → ((j : ℕ) (u : View S E R) → j ≢ id → get_elem? s.views j ≡ some u → Apart v u)
      → ((j : ℕ) (u : View S E R) (n : ℕ) (x : S) → get_elem? s.views j ≡ some u → u.stage ≡ Holding n x → n ≡ k)
      → HasPlace state s → get_elem? s.homes 0 ≡ some (some state)
  at_home s state id v k at waits apart served = elim [
    | inl e ↦ e
    | inr p ↦ absurd (held p.0 p.1 p.2 p.3 p.4 p.5 (ℕ_discrete p.0 id))
  ]
    where
      held : (j : ℕ) (u : View S E R) (n : ℕ) (x : S) → get_elem? s.views j ≡ some u → u.stage ≡ Holding n x → Dec (j ≡ id) → ⊥
      held j u n x e h (yes same) =
          let views : v ≡ u = some-injective v u (sym at ∙ (ap (get_elem? s.views) (sym same) ∙ e)) in
          let stages : Waiting k ≡ Holding n x = sym waits ∙ (ap (λ (w : View S E R). w.stage) views ∙ h) in
          absurd cc
      held j u n x e h (no other) =
          let a = apart j u other e in
          a.tickets k (ap ticket waits) (ap ticket h ∙ ap Some (served j u n x e h))

module _ {S E R : Type 0} (steps : S → E → R → S → Type 0) (opening : S) where
  taken : (s : State S (View S E R)) (r : Kept steps opening s) (id : ℕ) (v : View S E R) (k : ℕ) → get_elem? s.views id ≡ some v
      → v.stage ≡ Waiting k → k ≡ length r.log → 0 < length s.homes
      → Kept steps opening record { words = s.words; homes = set s.homes 0 none; views = set s.views id (at_stage v (Holding k r.state)) }
  taken s r id v k at waits now some_slot =
      let w : View S E R = at_stage v (Holding k r.state) in
      let f = r.each_view id v at in
      let fits = subst (StageFits r.log r.top r.state (get_or s.words 0 0) (length r.log) v.numbers) waits f.stage in
      settled steps opening s r s.words (set s.homes 0 none) r.top id w r.wide r.counted (le_refl (get_or s.words 0 0)) r.low
      (le_refl r.top)
      record {
        opened = f.opened;
        begins = f.begins;
        below = subst (λ st. (n : ℕ) → has n (v.numbers ++ taken_in st) ≡ true → n < r.top) waits f.below;
        stage = (now, fits.1, refl);
      }
      (λ j u apart e. let a = r.apart id j v u at e (λ same. apart (sym same)) in record {
        tickets = λ n p. a.tickets n (ap ticket waits ∙ p);
        numbers = subst (λ st. Disjoint (v.numbers ++ taken_in st) (owned u)) waits a.numbers;
      })
      (inr (id, w, k, r.state, set_there s.views id v w at, refl))

  pub looks : (slots id : ℕ) (m : Sits S E R) (k : ℕ) → slots ≡ 1 → m.0.stage ≡ Waiting k
      → Allows (Kept steps opening) slots id m 16 (λ n. n) (Looked (step slots 16 0 0 none) m)
  looks slots id m k one waits s r sized at _ =
      let found : ℕ = get_or s.words 16 0 in
      dite (ℕ_discrete k found)
      (λ hit.
      let w : View S E R = at_stage m.0 (Holding found r.state) in
      let home = at_home s r.state id m.0 k at waits (λ j u apart e. r.apart id j m.0 u at e (λ same. apart (sym same)))
      (λ j u n x e h.
      let f = r.each_view j u e in
      let fits = subst (StageFits r.log r.top r.state (get_or s.words 0 0) (length r.log) u.numbers) h f.stage in
      fits.0 ∙ (sym r.counted ∙ sym hit))
      r.place in
      let now : k ≡ length r.log = hit ∙ r.counted in (
        w,
        takes 0 r.state,
        home,
        subst (λ ws. Kept steps opening record { words = ws; homes = set s.homes 0 none; views = set s.views id w })
            (sym (set-get_or s.words 16 0))
            (subst (λ n. Kept steps opening record {
              words = s.words;
              homes = set s.homes 0 none;
              views = set s.views id (at_stage m.0 (Holding n r.state));
            }) hit (taken s r id m.0 k at waits now (omega arith))),
        record { hit = λ _. (r.state, refl); miss = λ not. absurd (not (waits ∙ ap Waiting hit)) },
      ))
      (λ miss. (
        m.0,
        keeps,
        tt,
        unmoved steps opening s 16 id m at r,
        record { hit = λ is. absurd (miss (ap ticket_of (sym waits ∙ is))); miss = λ _. refl },
      ))
