-- The rule holds at the start.
use Rattle.std.proofs.Common.{replicate, ◌≡◌, ◌≢◌, ℕ, zero, suc, [], ◌∷◌, inl, refl, sym, ap, subst, arith, le_refl}
use Rattle.std.specs.Option.{unwrap_or}
use mathlib.Core.Option.{some, some-injective, some-ne-none}
use lib.ListN.{get_elem?}
use Rattle.atomic_table.specs.Table.{opening}
use Rattle.repl_turn.specs.declared.rule.View.{View}
use Rattle.repl_turn.specs.Rule.{Fits, Apart, Kept, newcomer}
use Rattle.repl_turn.proofs.Histories.{begins_all, has_one}

module _ {S E R : Type 0} (steps : S → E → R → S → Type 0) where
  first_fits : (x : S) → Fits {E = E} {R = R} [] 1 x 0 0 x (newcomer x)
  first_fits x = record {
    opened = λ y e. sym (ap (λ o. unwrap_or o x) e);
    begins = begins_all {E = E} {R = R} (0 ∷ []) [];
    below = λ n e. let same : n ≡ 0 = has_one n 0 e in omega arith;
    stage = tt;
  }

  pub opens : (x : S) → Kept steps x (opening (replicate 17 0) (x ∷ []) (newcomer x))
  opens x = record {
    log = [];
    top = 1;
    state = x;
    wide = refl;
    counted = refl;
    ordered = le_refl 0;
    low = omega arith;
    legal = refl;
    unused = λ n le. refl;
    each_view = one;
    apart = alone;
    place = inl refl;
  }
    where
      one : (j : ℕ) (v : View S E R) → get_elem? (newcomer {E = E} {R = R} x ∷ []) j ≡ some v → Fits [] 1 x 0 0 x v
      one zero v e = subst (Fits [] 1 x 0 0 x) (some-injective (newcomer {E = E} {R = R} x) v e) (first_fits x)
      one (suc j) v e = absurd (some-ne-none v (sym e))

      alone : (i j : ℕ) (v w : View S E R) → get_elem? (newcomer {E = E} {R = R} x ∷ []) i ≡ some v
          → get_elem? (newcomer {E = E} {R = R} x ∷ []) j ≡ some w → i ≢ j → Apart v w
      alone zero zero v w e d n = absurd (n refl)
      alone zero (suc j) v w e d n = absurd (some-ne-none w (sym d))
      alone (suc i) j v w e d n = absurd (some-ne-none v (sym e))
