-- A pass is split: the second half comes with no number, and then has a new one.
use Rattle.std.proofs.Common.{◌≡◌, ◌≢◌, ℕ, ◌+◌, true≢false, List, [], ◌∷◌, ◌++◌, length, get_or, inl, inr, ⊎_elim, refl, sym, ap, ◌∙◌, subst, arith, le_refl}
use mathlib.Core.Option.{some, none}
use lib.ListN.{get_elem?}
use Rattle.atomic_table.specs.Table.{State, step, keeps, Allows, Splits}
use Rattle.atomic_table.proofs.Lists.{set_again, at_snoc, at_longer}
use Rattle.repl_turn.specs.declared.rule.View.{View}
use Rattle.repl_turn.specs.declared.rule.Stage.TheVariants.{Holding, Unborn}
use Rattle.repl_turn.specs.History.{has}
use Rattle.repl_turn.specs.Rule.{Sits, StageFits, Fits, Kept, resting, unborn, Christened, Apart, owned, taken_in}
use Rattle.repl_turn.proofs.Histories.{calls_of_part, begins_none, has_left, has_one, lacks_above}
use Rattle.repl_turn.proofs.Views.{loaded, apart_sym}

module _ {S E R : Type 0} (steps : S → E → R → S → Type 0) (opening : S) where
  apart_unborn : (v u : View S E R) → Apart (unborn v) u
  apart_unborn v u = record { tickets = λ k e. absurd cc; numbers = λ n e. absurd (true≢false (sym e)) }

  new_half : (s : State S (View S E R)) (r : Kept steps opening s) (id : ℕ) (v : View S E R) → get_elem? s.views id ≡ some v
      → Fits r.log r.top r.state (get_or s.words 0 0) (length r.log) opening (unborn v)
  new_half s r id v at =
      let f = r.each_view id v at in
      let b = f.begins in
      record {
        opened = f.opened;
        begins = record { rest = b.rest; whole = b.whole; others = calls_of_part [] v.numbers b.rest (λ n _. refl) b.others };
        below = λ n e. absurd (true≢false (sym e));
        stage = λ n e. f.below n (has_left n v.numbers (taken_in v.stage) e);
      }

  pub halves : (id : ℕ) (v : View S E R) → Splits (Kept steps opening) id v v (unborn v)
  halves id v s r at =
      subst (λ (vs : List (View S E R)). Kept steps opening record { words = s.words; homes = s.homes; views = vs ++ unborn v ∷ [] })
      (sym (set_again s.views id v at)) record {
        log = r.log;
        top = r.top;
        state = r.state;
        wide = r.wide;
        counted = r.counted;
        ordered = r.ordered;
        low = r.low;
        legal = r.legal;
        unused = r.unused;
        each_view = λ j u e. ⊎_elim (r.each_view j u)
            (λ new. subst (Fits r.log r.top r.state (get_or s.words 0 0) (length r.log) opening) new (new_half s r id v at))
            (at_snoc s.views (unborn v) u j e);
        apart = λ i j a b e d n. ⊎_elim
            (λ old. ⊎_elim (λ other. r.apart i j a b old other n) (λ new. subst (Apart a) new (apart_sym (unborn v) a (apart_unborn v a)))
            (at_snoc s.views (unborn v) b j d))
            (λ new. subst (λ (x : View S E R). Apart x b) new (apart_unborn v b))
            (at_snoc s.views (unborn v) a i e);
        place = ⊎_elim inl (λ p. inr (p.0, p.1, p.2, p.3, at_longer s.views (unborn v ∷ []) p.0 p.1 p.4, p.5)) r.place;
      }

  unborn_free : (v : View S E R) (ns : List ℕ) → v.stage ≡ Unborn ns → (k : ℕ) (x : S) → v.stage ≢ Holding k x
  unborn_free v ns is k x e = let both : Unborn ns ≡ Holding k x = sym is ∙ e in absurd cc

  pub christens : (slots id : ℕ) (m : Sits S E R) (ns : List ℕ) → m.0.stage ≡ Unborn ns
      → Allows (Kept steps opening) slots id m 0 (λ n. n) (Christened (step slots 0 0 0 none) m)
  christens slots id m ns is s r _ at _ =
      let v : View S E R = m.0 in
      let f = r.each_view id v at in
      let b = f.begins in
      let n : ℕ = r.top in
      let w : View S E R = resting v.opening v.seen (n ∷ []) in
      let none_yet = begins_none (n ∷ []) v.seen r.log (b.rest, b.whole) (r.unused n (le_refl n)) in (
        w,
        keeps,
        tt,
        loaded steps opening s r 0 (n + 1) id m.1 v w at (unborn_free v ns is) (omega arith)
            record {
              opened = f.opened;
              begins = none_yet.0;
              below = λ k e. let same : k ≡ n = has_one k n e in omega arith;
              stage = tt;
            }
            (λ j u apart e.
            let g = r.each_view j u e in
            record {
              tickets = λ k p. absurd cc;
              numbers = λ k t. ap (λ x. has x (owned u)) (has_one k n t) ∙ lacks_above n n (owned u) g.below (le_refl n);
            }),
        λ ms same. (
          n,
          refl,
          lacks_above n n ms (subst (StageFits r.log r.top r.state (get_or s.words 0 0)
              (length r.log) v.numbers) same f.stage) (le_refl n),
          none_yet.1,
        ),
      )
