-- A ticket is drawn.
use Rattle.std.proofs.Common.{◌≡◌, ◌≢◌, ℕ, ◌+◌, ◌<◌, ◌^◌, eqb, true, List, ◌++◌, length, get_or, set, Some, refl, sym, ap, ◌∙◌, subst, arith, le_refl, length-set, get_or-set_other, get_or-set_same, eq-eqb, ne_eqb}
use mathlib.Core.Logic.{dite}
use mathlib.Core.Option.{some, none}
use native.Mathlib.Decide.{ℕ_discrete}
use lib.ListN.{get_elem?}
use lib.Seq.{set-get_or}
use prog.Atomic.{either}
use Rattle.atomic_table.specs.Table.{State, step, keeps, stepped, Allows}
use Rattle.atomic_table.proofs.Lists.{set_again}
use Rattle.repl_turn.specs.declared.rule.View.{View}
use Rattle.repl_turn.specs.declared.rule.Stage.{Stage}
use Rattle.repl_turn.specs.declared.rule.Stage.TheVariants.{Idle, Waiting, Holding, Unborn, Joining}
use Rattle.std.specs.Option.{unwrap_or}
use Rattle.repl_turn.specs.History.{has, Disjoint}
use Rattle.repl_turn.specs.Rule.{Sits, StageFits, Kept, at_stage, Drawn, ticket, taken_in, owned}
use Rattle.repl_turn.proofs.Views.{settled, place_set}

module _ {S E R : Type 0} (steps : S → E → R → S → Type 0) (opening : S) where
  abbrev V : Type 0
  V = View S E R

  abbrev St : Type 0
  St = State S V

  abbrev Rule : St → Type 0
  Rule = Kept steps opening

  -- a step that changes nothing
  pub unmoved : (s : St) (i id : ℕ) (m : Sits S E R) → get_elem? s.views id ≡ some m.0 → Rule s
      → Rule (stepped s i (get_or s.words i 0) id m.1 m.0 keeps)
  unmoved s i id m at r = subst Rule (λ k. record {
    words = sym (set-get_or s.words i 0) k;
    homes = s.homes;
    views = sym (set_again s.views id m.0 at) k;
  }) r

  pub idle_free : (v : V) → v.stage ≡ Idle → (k : ℕ) (x : S) → v.stage ≢ Holding k x
  idle_free v idle k x e = absurd (cc)

  new_ticket : (s : St) (r : Rule s) (id : ℕ) (v : V) → get_elem? s.views id ≡ some v → v.stage ≡ Idle → get_or s.words 0 0 < 2 ^ 63
      → Rule record {
        words = set s.words 0 (get_or s.words 0 0 + 1);
        homes = s.homes;
        views = set s.views id (at_stage v (Waiting (get_or s.words 0 0)));
      }
  new_ticket s r id v at idle low =
      let k : ℕ = get_or s.words 0 0 in
      let w : V = at_stage v (Waiting k) in
      let wide = r.wide in
      let ordered = r.ordered in
      let words : List ℕ = set s.words 0 (k + 1) in
      let first : get_or words 0 0 ≡ k + 1 = get_or-set_same s.words 0 (k + 1) 0 (omega arith) in
      let second : get_or words 16 0 ≡ get_or s.words 16 0 = get_or-set_other s.words 0 16 (k + 1) 0 (λ e. omega arith) in
      let f = r.each_view id v at in
      settled steps opening s r words s.homes r.top id w (length-set s.words 0 (k + 1) ∙ wide) (second ∙ r.counted) (omega arith)
      (omega arith) (le_refl r.top)
      record {
        opened = f.opened;
        begins = f.begins;
        below = subst (λ st. (n : ℕ) → has n (v.numbers ++ taken_in st) ≡ true → n < r.top) idle f.below;
        stage = (ordered, omega arith);
      }
      (λ j u apart e.
      let a = r.apart id j v u at e (λ same. apart (sym same)) in
      let g = r.each_view j u e in
      record {
        tickets = λ n p q. other_ticket s r u.numbers u.stage g.stage n (ap (λ t. unwrap_or t 0) p) q;
        numbers = subst (λ st. Disjoint (v.numbers ++ taken_in st) (owned u)) idle a.numbers;
      })
      (place_set r.state s words id v w at (idle_free v idle) r.place)
    where
      -- each ticket of a pass was drawn before
      other_ticket : (s : St) (r : Rule s) (ns : List ℕ) (st : Stage S E R)
          → StageFits r.log r.top r.state (get_or s.words 0 0) (length r.log) ns st
          → (n : ℕ) → get_or s.words 0 0 ≡ n → ticket st ≢ Some n
      other_ticket s r ns Idle p n e t = absurd cc
      other_ticket s r ns (Waiting k) p n e t = let same : k ≡ n = ap (λ o. unwrap_or o 0) t in let l = p.1 in absurd (omega arith)
      other_ticket s r ns (Holding k x) p n e t = let same : k ≡ n = ap (λ o. unwrap_or o 0) t in let l = p.1 in absurd (omega arith)
      other_ticket s r ns (Unborn ms) p n e t = absurd cc
      other_ticket s r ns (Joining ms h) p n e t = absurd cc

  pub draws : (slots id : ℕ) (m : Sits S E R) (old new : ℕ) → m.0.stage ≡ Idle → old < 2 ^ 63 → new ≡ old + 1
      → Allows Rule slots id m 0 (λ n. either (eqb n old) new n) (Drawn (step slots 0 old new none) m)
  draws slots id m old new idle low up s r _ at _ =
      let x : ℕ = get_or s.words 0 0 in
      dite (ℕ_discrete x old)
      (λ hit. (
        at_stage m.0 (Waiting x),
        keeps,
        tt,
        subst (λ n. Rule (stepped s 0 n id m.1 (at_stage m.0 (Waiting x)) keeps)) (let e : x + 1 ≡ new = omega arith in e
            ∙ ap (λ b. either b new x) (sym (eq-eqb x old hit)))
            (new_ticket s r id m.0 at idle (omega arith)),
        record { hit = λ _. refl; miss = λ not. absurd (not hit) },
      ))
      (λ miss. (
        m.0,
        keeps,
        tt,
        subst (λ b. Rule (stepped s 0 (either b new x) id m.1 m.0 keeps)) (sym (ne_eqb x old miss)) (unmoved s 0 id m at r),
        record { hit = λ is. absurd (miss is); miss = λ _. refl },
      ))
