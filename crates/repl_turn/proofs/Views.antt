-- The views of the passes: how they fit the history, and what sets them apart.
use Rattle.std.proofs.Common.{◌≡◌, ◌≢◌, ℕ, zero, suc, ◌<◌, ◌≤◌, ◌^◌, true, true≢false, List, [], ◌∷◌, length, get_or, set, Some, inl, inr, ⊎_elim, refl, sym, ap, ◌∙◌, subst, arith, le_refl}
use mathlib.Core.Option.{some, some-ne-none, some-injective}
use mathlib.Core.List.{IsPrefix}
use lib.ListN.{get_elem?}
use lib.Seq.{set-get_or}
use Rattle.atomic_table.specs.Table.{State, keeps, stepped}
use Rattle.atomic_table.proofs.Lists.{at_set, set_else}
use Rattle.repl_turn.specs.declared.machine.Entry.{Entry}
use Rattle.repl_turn.specs.declared.rule.View.{View}
use Rattle.repl_turn.specs.declared.rule.Stage.{Stage}
use Rattle.repl_turn.specs.declared.rule.Stage.TheVariants.{Idle, Waiting, Holding, Unborn, Joining}
use Rattle.repl_turn.specs.History.{has, Replays}
use Rattle.repl_turn.specs.Rule.{ticket, owned, Apart, StageFits, Fits, HasPlace, Kept, Leads, nobody}
use Rattle.repl_turn.proofs.Histories.{disjoint_sym, replays_front}

module _ {S E R : Type 0} where
  pub set_there : (l : List (View S E R)) (i : ℕ) (a b : View S E R) → get_elem? l i ≡ some a → get_elem? (set l i b) i ≡ some b
  set_there [] i a b e = absurd (some-ne-none a (sym e))
  set_there (x ∷ xs) zero a b e = refl
  set_there (x ∷ xs) (suc i) a b e = set_there xs i a b e

  pub apart_sym : (v w : View S E R) → Apart v w → Apart w v
  apart_sym v w a = record { tickets = λ k p q. a.tickets k q p; numbers = disjoint_sym (owned v) (owned w) a.numbers }

  -- a view with fewer numbers, and no ticket or the same
  pub apart_less : (v w u : View S E R) → ((k : ℕ) → ticket w.stage ≡ Some k → ticket v.stage ≡ Some k)
      → ((n : ℕ) → has n (owned w) ≡ true → has n (owned v) ≡ true) → Apart v u → Apart w u
  apart_less v w u same fewer a = record { tickets = λ k p. a.tickets k (same k p); numbers = λ n e. a.numbers n (fewer n e) }

  pub apart_nobody : (u : View S E R) → Apart nobody u
  apart_nobody u = record { tickets = λ k e. absurd cc; numbers = λ n e. absurd (true≢false (sym e)) }

  -- a fact about each view, where one view is replaced
  pub each_set : (P : ℕ → View S E R → Type 0) (views : List (View S E R)) (id : ℕ) (w : View S E R) → P id w
      → ((j : ℕ) (u : View S E R) → j ≢ id → get_elem? views j ≡ some u → P j u)
      → (j : ℕ) (u : View S E R) → get_elem? (set views id w) j ≡ some u → P j u
  each_set P views id w mine others j u e =
      ⊎_elim
      (λ (t : (j ≡ id) × (w ≡ u)). subst (λ (z : ℕ × View S E R). P z.0 z.1) (λ i. (sym t.0 i, t.1 i)) mine)
      (λ (t : (j ≢ id) × (get_elem? views j ≡ some u)). others j u t.0 t.1)
      (at_set views id j w u e)

  pub apart_set : (views : List (View S E R)) (id : ℕ) (w : View S E R)
      → ((i j : ℕ) (v u : View S E R) → get_elem? views i ≡ some v → get_elem? views j ≡ some u → i ≢ j → Apart v u)
      → ((j : ℕ) (u : View S E R) → j ≢ id → get_elem? views j ≡ some u → Apart w u)
      → (i j : ℕ) (v u : View S E R) → get_elem? (set views id w) i ≡ some v → get_elem? (set views id w) j ≡ some u → i ≢ j → Apart v u
  apart_set views id w others mine i j v u =
      each_set (λ i v. (at : get_elem? (set views id w) j ≡ some u) → i ≢ j → Apart v u) views id w
      (each_set (λ j u. id ≢ j → Apart w u) views id w (λ n. absurd (n refl)) (λ j u n e _. mine j u n e) j u)
      (λ i v n e. each_set (λ j u. i ≢ j → Apart v u) views id w (λ _. apart_sym w v (mine i v n e))
      (λ j u m f d. others i j v u e f d) j u)
      i v

  pub fits_more : (log : List (Entry E R)) (top : ℕ) (state : S) (drawn served top' drawn' : ℕ) (opening : S) (v : View S E R)
      → drawn ≤ drawn' → top ≤ top'
      → Fits log top state drawn served opening v → Fits log top' state drawn' served opening v
  fits_more log top state drawn served top' drawn' opening v a b f = record {
    opened = f.opened;
    begins = f.begins;
    below = λ n e. let l = f.below n e in omega arith;
    stage = more v.stage f.stage;
  }
    where
      more : (st : Stage S E R) → StageFits log top state drawn served v.numbers st → StageFits log top' state drawn' served v.numbers st
      more Idle p = tt
      more (Waiting k) p = (p.0, (let l : k < drawn = p.1 in omega arith))
      more (Holding k x) p = (p.0, (let l : k < drawn = p.1 in omega arith), p.2)
      more (Unborn ns) p = λ n e. let l = p n e in omega arith
      more (Joining ns h) p = p

  -- where a view without the machine is replaced, the machine is where it was
  pub place_set : (state : S) (s : State S (View S E R)) (words : List ℕ) (id : ℕ) (v w : View S E R) → get_elem? s.views id ≡ some v
      → ((k : ℕ) (x : S) → v.stage ≢ Holding k x)
      → HasPlace state s → HasPlace state record { words = words; homes = s.homes; views = set s.views id w }
  place_set state s words id v w at free = elim [
    | inl e ↦ inl e
    | inr p ↦ inr (
      p.0,
      p.1,
      p.2,
      p.3,
      set_else s.views id p.0 w
          (λ same. free p.2 p.3 (ap (λ (u : View S E R). u.stage)
          (some-injective v p.1 (sym at ∙ (ap (get_elem? s.views) (sym same) ∙ p.4)))
          ∙ p.5)) ∙ p.4,
      p.5,
    )
  ]

  module _ (steps : S → E → R → S → Type 0) (opening : S) where
    -- One view is replaced, and no event is made
    pub settled : (s : State S (View S E R)) (r : Kept steps opening s) (words : List ℕ) (homes : List _) (top id : ℕ) (w : View S E R)
        → length words ≡ 17 → get_or words 16 0 ≡ length r.log → get_or s.words 0 0 ≤ get_or words 0 0 → get_or words 0 0 ≤ 2 ^ 63
        → r.top ≤ top
        → Fits r.log top r.state (get_or words 0 0) (length r.log) opening w
        → ((j : ℕ) (u : View S E R) → j ≢ id → get_elem? s.views j ≡ some u → Apart w u)
        → HasPlace r.state record { words = words; homes = homes; views = set s.views id w }
        → Kept steps opening record { words = words; homes = homes; views = set s.views id w }
    settled s r words homes top id w wide counted more low higher fits apart place = record {
      log = r.log;
      top = top;
      state = r.state;
      wide = wide;
      counted = counted;
      ordered = let o = r.ordered in omega arith;
      low = low;
      legal = r.legal;
      unused = λ n le. r.unused n (omega arith);
      each_view = each_set (λ _ u. Fits r.log top r.state (get_or words 0 0) (length r.log) opening u) s.views id w fits
          (λ j u _ e. fits_more r.log r.top r.state (get_or s.words 0 0) (length r.log) top (get_or words 0 0) opening u more higher
          (r.each_view j u e));
      apart = apart_set s.views id w r.apart apart;
      place = place;
    }

    -- the same at a load, by a seat that does not have the machine
    pub loaded : (s : State S (View S E R)) (r : Kept steps opening s) (i top id : ℕ) (held : List (ℕ × S)) (v w : View S E R)
        → get_elem? s.views id ≡ some v → ((k : ℕ) (x : S) → v.stage ≢ Holding k x) → r.top ≤ top
        → Fits r.log top r.state (get_or s.words 0 0) (length r.log) opening w
        → ((j : ℕ) (u : View S E R) → j ≢ id → get_elem? s.views j ≡ some u → Apart w u)
        → Kept steps opening (stepped s i (get_or s.words i 0) id held w keeps)
    loaded s r i top id held v w at free higher fits apart =
        subst (λ ws. Kept steps opening record { words = ws; homes = s.homes; views = set s.views id w }) (sym (set-get_or s.words i 0))
        (settled s r s.words s.homes top id w r.wide r.counted (le_refl (get_or s.words 0 0)) r.low higher fits apart
        (place_set r.state s s.words id v w at free r.place))

    -- what was seen leads somewhere
    pub leads : (s : State S (View S E R)) (r : Kept steps opening s) (id : ℕ) (v : View S E R) (seen : List (Entry E R))
        → get_elem? s.views id ≡ some v → IsPrefix seen r.log → Leads steps v.opening seen
    leads s r id v seen at p x o =
        let same : opening ≡ x = sym ((r.each_view id v at).opened x o) in
        let front = replays_front steps opening seen p.0 r.state (subst (λ h. Replays steps opening h r.state) (sym p.1) r.legal) in
        (front.0, subst (λ z. Replays steps z seen front.0) same front.1)
