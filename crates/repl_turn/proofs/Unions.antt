-- A pass takes in another, and then knows what both knew.
use Rattle.std.proofs.Common.{◌≡◌, ◌≢◌, ◌⊎◌, ℕ, true, true≢false, List, [], ◌++◌, length, get_or, set, inl, inr, ⊎_elim, refl, sym, ap, ◌∙◌, subst, le_refl}
use Rattle.std.proofs.lemmas.List.{set_comm}
use mathlib.Core.Option.{some, none}
use mathlib.Core.List.{IsPrefix}
use lib.ListN.{get_elem?}
use Rattle.atomic_table.specs.Table.{State, step, keeps, stepped, Allows, Joins}
use Rattle.atomic_table.proofs.Lists.{set_else}
use Rattle.repl_turn.specs.declared.machine.Entry.{Entry}
use Rattle.repl_turn.specs.declared.rule.View.{View}
use Rattle.repl_turn.specs.declared.rule.Stage.{Stage}
use Rattle.repl_turn.specs.declared.rule.Stage.TheVariants.{Idle, Holding, Joining}
use Rattle.repl_turn.specs.History.{has}
use Rattle.repl_turn.specs.Rule.{Sits, StageFits, Fits, Kept, resting, nobody, joining, Merged, TakesIn, Apart, owned, taken_in}
use Rattle.repl_turn.proofs.Histories.{begins_on, begins_both, begins_calls, has_left, has_either, lacks_left, calls_of_nobody, prefix_self, prefix_either}
use Rattle.repl_turn.proofs.Views.{place_set, loaded, leads, each_set, apart_set, apart_sym, apart_nobody, apart_less}
use Rattle.repl_turn.proofs.Draws.{idle_free}

module _ {S E R : Type 0} where
  abbrev taken_seen : Stage S E R → List (Entry E R)
  taken_seen (Joining ns h) = h
  taken_seen _ = []

module _ {S E R : Type 0} (steps : S → E → R → S → Type 0) (opening : S) where
  free : (v : View S E R) → v.stage ≡ Idle → (k : ℕ) (x : S) → v.stage ≢ Holding k x
  free = idle_free steps opening

  apart_union : (v w u : View S E R) → Apart v u → Apart w u → Apart (joining v w) u
  apart_union v w u a b = record {
    tickets = λ k e. absurd cc;
    numbers = λ n e. ⊎_elim (λ l. a.numbers n (has_left n v.numbers (taken_in v.stage) l))
        (λ l. b.numbers n (has_left n w.numbers (taken_in w.stage) l)) (has_either n v.numbers w.numbers e);
  }

  pub unites : (id : ℕ) (v : View S E R) (other : ℕ) (w : View S E R) → v.stage ≡ Idle → w.stage ≡ Idle
      → Joins (Kept steps opening) id v other w (joining v w) nobody
  unites id v other w idle idle' s r at n there =
      let both : View S E R = joining v w in
      let at' : get_elem? s.views other ≡ some w = sym (set_else s.views id other both n) ∙ there in
      let f = r.each_view id v at in
      let g = r.each_view other w at' in
      let apart_vw = r.apart id other v w at at' (λ same. n (sym same)) in
      let fewer : List (View S E R) = set s.views other nobody in
      let still : get_elem? fewer id ≡ some v = set_else s.views other id nobody (λ same. n (sym same)) ∙ at in
      let P : ℕ → View S E R → Type 0 = λ _ u. Fits r.log r.top r.state (get_or s.words 0 0) (length r.log) opening u in
      let nobody_fits : P other nobody = record {
        opened = λ x e. absurd cc;
        begins = record { rest = r.log; whole = refl; others = calls_of_nobody r.log };
        below = λ n e. absurd (true≢false (sym e));
        stage = tt;
      } in
      let both_fit : P id both = record {
        opened = f.opened;
        begins = f.begins;
        below = λ m e. ⊎_elim (λ l. f.below m (has_left m v.numbers (taken_in v.stage) l))
            (λ l. g.below m (has_left m w.numbers (taken_in w.stage) l)) (has_either m v.numbers w.numbers e);
        stage = (
          g.begins,
          λ m e. lacks_left m w.numbers (taken_in w.stage)
              (apart_vw.numbers m (has_left m v.numbers (taken_in v.stage) e)),
        );
      } in
      subst (λ (vs : List (View S E R)). Kept steps opening record { words = s.words; homes = s.homes; views = vs })
      (set_comm s.views other id nobody both n) record {
        log = r.log;
        top = r.top;
        state = r.state;
        wide = r.wide;
        counted = r.counted;
        ordered = r.ordered;
        low = r.low;
        legal = r.legal;
        unused = r.unused;
        each_view = each_set P fewer id both both_fit (λ j u _ e. each_set P s.views other nobody nobody_fits
            (λ i x _ d. r.each_view i x d) j u e);
        apart = apart_set fewer id both (apart_set s.views other nobody r.apart (λ j u _ _. apart_nobody u))
            (λ j u m e. each_set (λ i x. i ≢ id → Apart both x) s.views other nobody (λ _. apart_sym nobody both (apart_nobody both))
            (λ i x k d l. apart_union v w x (r.apart id i v x at d (λ same. l (sym same)))
            (r.apart other i w x at' d (λ same. k (sym same)))) j u e m);
        place = place_set r.state record { words = s.words; homes = s.homes; views = fewer } s.words id v both still (free v idle)
            (place_set r.state s s.words other w nobody at' (free w idle') r.place);
      }

  merged : (s : State S (View S E R)) (r : Kept steps opening s) (slots id : ℕ) (m : Sits S E R) (ns : List ℕ) (h seen : List (Entry E R))
      → get_elem? s.views id ≡ some m.0 → m.0.stage ≡ Joining ns h
      → (seen ≡ m.0.seen) ⊎ (seen ≡ h) → IsPrefix m.0.seen seen → IsPrefix h seen → IsPrefix seen r.log
      → Kept steps opening (stepped s 0 (get_or s.words 0 0) id m.1 (resting m.0.opening seen (m.0.numbers ++ ns)) keeps)
      × TakesIn steps ns h m (resting m.0.opening seen (m.0.numbers ++ ns), m.1)
  merged s r slots id m ns h seen at is one first second front =
      let v : View S E R = m.0 in
      let w : View S E R = resting v.opening seen (v.numbers ++ ns) in
      let f = r.each_view id v at in
      let taken = subst (StageFits r.log r.top r.state (get_or s.words 0 0) (length r.log) v.numbers) is f.stage in
      let part : (n : ℕ) → has n (owned w) ≡ true → has n (owned v) ≡ true = λ n e. subst (λ st. has n (v.numbers ++ taken_in st) ≡ true)
      (sym is) (⊎_elim (λ l. l) (λ l. absurd (true≢false (sym l))) (has_either n (v.numbers ++ ns) [] e)) in (
        loaded steps opening s r 0 r.top id m.1 v w at (joining_free v ns h is) (le_refl r.top)
            record {
              opened = f.opened;
              begins = begins_both v.numbers ns seen r.log (begins_on v.numbers v.seen seen r.log f.begins first front)
                  (begins_on ns h seen r.log taken.0 second front);
              below = λ n e. f.below n (part n e);
              stage = tt;
            }
            (λ j u apart e. apart_less v w u (λ k p. absurd cc) part (r.apart id j v u at e (λ same. apart (sym same)))),
        record {
          seen = seen;
          view = refl;
          one = one;
          first = first;
          second = second;
          first_calls = begins_calls v.numbers v.seen seen r.log f.begins first front;
          second_calls = begins_calls ns h seen r.log taken.0 second front;
          apart = taken.1;
          legal = leads steps opening s r id v seen at front;
        },
      )
    where
      joining_free : (v : View S E R) (ns : List ℕ) (h : List (Entry E R)) → v.stage ≡ Joining ns h → (k : ℕ) (x : S)
          → v.stage ≢ Holding k x
      joining_free v ns h is k x e = let both : Joining ns h ≡ Holding k x = sym is ∙ e in absurd cc

  told : (ns : List ℕ) (h : List (Entry E R)) (m n : Sits S E R) → m.0.stage ≡ Joining ns h → TakesIn steps ns h m n
      → (ns' : List ℕ) (h' : List (Entry E R)) → m.0.stage ≡ Joining ns' h' → TakesIn steps ns' h' m n
  told ns h m n is t ns' h' is' = subst (λ (z : List ℕ × List (Entry E R)). TakesIn steps z.0 z.1 m n)
      (λ i. (ap taken_in (sym is ∙ is') i, ap taken_seen (sym is ∙ is') i)) t

  pub merges : (slots id : ℕ) (m : Sits S E R) (ns : List ℕ) (h : List (Entry E R)) → m.0.stage ≡ Joining ns h
      → Allows (Kept steps opening) slots id m 0 (λ n. n) (Merged steps (step slots 0 0 0 none) m)
  merges slots id m ns h is s r _ at _ =
      let f = r.each_view id m.0 at in
      let b = f.begins in
      let taken = subst (StageFits r.log r.top r.state (get_or s.words 0 0) (length r.log) m.0.numbers) is f.stage in
      let c = taken.0 in
      let p : IsPrefix m.0.seen r.log = (b.rest, b.whole) in
      let q : IsPrefix h r.log = (c.rest, c.whole) in
      ⊎_elim
      (λ (pre : IsPrefix m.0.seen h). let t = merged s r slots id m ns h h at is (inr refl) pre
      (prefix_self h) q in let w = resting m.0.opening h (m.0.numbers ++ ns) in (w, keeps, tt, t.0, told ns h m (w, m.1) is t.1))
      (λ (pre : IsPrefix h m.0.seen). let t = merged s r slots id m ns h m.0.seen at is (inl refl)
      (prefix_self m.0.seen) pre p in let w = resting m.0.opening m.0.seen (m.0.numbers ++ ns) in
      (w, keeps, tt, t.0, told ns h m (w, m.1) is t.1))
      (prefix_either m.0.seen h r.log p q)
