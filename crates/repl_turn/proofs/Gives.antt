-- The turn is given on: the machine is back, and the history has one entry more.
use Rattle.std.proofs.Common.{◌≡◌, ◌≢◌, ℕ, ◌+◌, ◌%◌, ◌<◌, ◌^◌, true, false, true≢false, List, [], ◌∷◌, ◌++◌, length, get_or, set, Option, Some, inl, ⊎_elim, refl, sym, ap, ◌∙◌, subst, arith, length-set, length-append, get_or-set_other, get_or-set_same}
use Rattle.std.specs.Option.{unwrap_or}
use mathlib.Core.Option.{some, none}
use lib.ListN.{get_elem?}
use Rattle.atomic_table.specs.Table.{State, step, gives, Allows}
use Rattle.atomic_table.proofs.Lists.{set_here}
use Rattle.repl_turn.specs.declared.machine.Entry.{Entry}
use Rattle.repl_turn.specs.declared.rule.View.{View}
use Rattle.repl_turn.specs.declared.rule.Stage.{Stage}
use Rattle.repl_turn.specs.declared.rule.Stage.TheVariants.{Idle, Waiting, Holding, Unborn, Joining}
use Rattle.repl_turn.specs.History.{has, entry, Replays}
use Rattle.repl_turn.specs.Rule.{Sits, StageFits, Fits, Kept, resting, Gave, ticket, taken_in, owned}
use Rattle.repl_turn.proofs.Histories.{begins_all, begins_push, has_first, has_left, has_either, has_one, lacks_left, lacks_right, unless_true, no_more, calls_of_other, replays_push}
use Rattle.repl_turn.proofs.Views.{each_set, apart_set, apart_less}

module _ {S E R : Type 0} where
  -- the stage of another pass, as the served ticket rises by one
  other_stage : (log : List (Entry E R)) (top : ℕ) (state after : S) (drawn : ℕ) (e : Entry E R) (ns : List ℕ) (st : Stage S E R)
      → ((k : ℕ) → k ≡ length log → ticket st ≢ Some k) → has e.by (ns ++ taken_in st) ≡ false
      → StageFits log top state drawn (length log) ns st → StageFits (log ++ e ∷ []) top after drawn (length (log ++ e ∷ [])) ns st
  other_stage log top state after drawn e ns Idle apart lacks p = tt
  other_stage log top state after drawn e ns (Waiting k) apart lacks p =
      let l = p.0 in
      let n : k ≢ length log = λ same. apart k same refl in
      (omega (arith, length-append log (e ∷ [])), p.1)
  other_stage log top state after drawn e ns (Holding k x) apart lacks p = absurd (apart k p.0 refl)
  other_stage log top state after drawn e ns (Unborn ms) apart lacks p = p
  other_stage log top state after drawn e ns (Joining ms h) apart lacks p = (begins_push ms h log e (lacks_right e.by ns ms lacks) p.0, p.1)

module _ {S E R : Type 0} (steps : S → E → R → S → Type 0) (opening : S) where
  given : (s : State S (View S E R)) (r : Kept steps opening s) (id : ℕ) (v : View S E R) (k : ℕ) (x y : S) (event : E) (reply : R)
      → get_elem? s.views id ≡ some v → v.stage ≡ Holding k x → 0 < length v.numbers → steps x event reply y → 0 < length s.homes
      → Kept steps opening record {
        words = set s.words 16 (length r.log + 1);
        homes = set s.homes 0 (some y);
        views = set s.views id (resting v.opening (r.log ++ entry (get_or v.numbers 0 0) event reply ∷ []) v.numbers);
      }
  given s r id v k x y event reply at holds numbered made some_slot =
      let by : ℕ = get_or v.numbers 0 0 in
      let e : Entry E R = entry by event reply in
      let log : List (Entry E R) = r.log ++ e ∷ [] in
      let w : View S E R = resting v.opening log v.numbers in
      let n : ℕ = length r.log in
      let words : List ℕ = set s.words 16 (n + 1) in
      let wide = r.wide in
      let f = r.each_view id v at in
      let fits = subst (StageFits r.log r.top r.state (get_or s.words 0 0) n v.numbers) holds f.stage in
      let turn : k ≡ n = fits.0 in
      let drawn : k < get_or s.words 0 0 = fits.1 in
      let longer : length log ≡ n + 1 = length-append r.log (e ∷ []) in
      let first : get_or words 0 0 ≡ get_or s.words 0 0 = get_or-set_other s.words 16 0 (n + 1) 0 (λ e. omega arith) in
      let second : get_or words 16 0 ≡ n + 1 = get_or-set_same s.words 16 (n + 1) 0 (omega arith) in
      let low = r.low in
      let own : has by v.numbers ≡ true = has_first v.numbers numbered in
      let owns : has by (owned v) ≡ true = has_left by v.numbers (taken_in v.stage) own in
      let below : by < r.top = f.below by owns in
      record {
        log = log;
        top = r.top;
        state = y;
        wide = length-set s.words 16 (n + 1) ∙ wide;
        counted = second ∙ sym longer;
        ordered = omega arith;
        low = omega arith;
        legal = replays_push steps opening r.log r.state e y r.legal (subst (λ z. steps z event reply y) fits.2 made);
        unused = λ m le. no_more (m ∷ []) r.log (e ∷ []) (r.unused m le)
            (calls_of_other (m ∷ []) e (unless_true (has by (m ∷ [])) (λ t. let same : by ≡ m = has_one by m t in omega arith)));
        each_view = subst (λ d. (j : ℕ) (u : View S E R) → get_elem? (set s.views id w) j ≡ some u
            → Fits log r.top y d (length log) opening u) (sym first)
            (each_set (λ _ u. Fits log r.top y (get_or s.words 0 0) (length log) opening u) s.views id w
            record {
              opened = f.opened;
              begins = begins_all v.numbers log;
              below = λ m t. f.below m (has_left m v.numbers (taken_in v.stage)
                  (⊎_elim (λ l. l) (λ l. absurd (true≢false (sym l))) (has_either m v.numbers [] t)));
              stage = tt;
            }
            (λ j u apart there.
            let a = r.apart id j v u at there (λ same. apart (sym same)) in
            let g = r.each_view j u there in
            let lacks : has by (owned u) ≡ false = a.numbers by owns in
            record {
              opened = g.opened;
              begins = begins_push u.numbers u.seen r.log e (lacks_left by u.numbers (taken_in u.stage) lacks) g.begins;
              below = g.below;
              stage = other_stage r.log r.top r.state y (get_or s.words 0 0) e u.numbers u.stage
                  (λ m same. a.tickets m (ap ticket holds ∙ ap Some (turn ∙ sym same))) lacks g.stage;
            }));
        apart = apart_set s.views id w r.apart (λ j u apart there. apart_less v w u (λ m none_left. absurd cc)
            (λ m t. has_left m v.numbers (taken_in v.stage) (⊎_elim (λ l. l) (λ l. absurd (true≢false (sym l)))
            (has_either m v.numbers [] t)))
            (r.apart id j v u at there (λ same. apart (sym same))));
        place = inl (set_here s.homes 0 (some y) some_slot);
      }

  gives_held : (slots id : ℕ) (v : View S E R) (k : ℕ) (x y : S) (event : E) (reply : R) (call : Option (E × R)) → slots ≡ 1
      → v.stage ≡ Holding k x → 0 < length v.numbers → steps x event reply y → call ≡ Some (event, reply)
      → Allows (Kept steps opening) slots id (v, (0, y) ∷ []) 16 (λ n. (n + 1) % 2 ^ 64)
      (Gave steps call (step slots 16 1 0 none) (v, (0, y) ∷ []))
  gives_held slots id v k x y event reply call one holds numbered made said s r sized at small =
      let f = r.each_view id v at in
      let b = f.begins in
      let fits = subst (StageFits r.log r.top r.state (get_or s.words 0 0) (length r.log) v.numbers) holds f.stage in
      let turn : k ≡ length r.log = fits.0 in
      let drawn : k < get_or s.words 0 0 = fits.1 in
      let counted = r.counted in
      let low = r.low in
      let by : ℕ = get_or v.numbers 0 0 in
      let e : Entry E R = entry by event reply in
      let w : View S E R = resting v.opening ((v.seen ++ b.rest) ++ e ∷ []) v.numbers in
      let sum : length r.log + 1 ≡ (get_or s.words 16 0 + 1) % 2 ^ 64 = omega arith in
      let after = given s r id v k x y event reply at holds numbered made (omega arith) in
      let whole = subst (λ l. Kept steps opening record {
        words = set s.words 16 (length r.log + 1);
        homes = set s.homes 0 (some y);
        views = set s.views id (resting v.opening (l ++ e ∷ []) v.numbers);
      }) (sym b.whole) after in
      let kept = subst (λ n. Kept steps opening record {
        words = set s.words 16 n;
        homes = set s.homes 0 (some y);
        views = set s.views id w;
      }) sum whole in (
        w,
        gives,
        tt,
        kept,
        record {
          between = b.rest;
          view = λ e' r' is. ap (λ (o : E × R). (resting v.opening ((v.seen ++ b.rest) ++ entry by o.0 o.1 ∷ []) v.numbers, []))
              (ap (λ o. unwrap_or o (event, reply)) (sym said ∙ is));
          place = ap length b.whole ∙ sym counted;
          low = omega arith;
          others = b.others;
          legal = λ z o.
              let same : opening ≡ z = sym (f.opened z o) in (
                y,
                subst (λ l. Replays steps l ((v.seen ++ b.rest) ++ e ∷ []) y) same
                    (subst (λ l. Replays steps opening (l ++ e ∷ []) y) (sym b.whole)
                    (replays_push steps opening r.log r.state e y r.legal (subst (λ z. steps z event reply y) fits.2 made))),
              );
        },
      )

  pub gives_on : (slots id : ℕ) (m : Sits S E R) (k : ℕ) (x y : S) (event : E) (reply : R) (call : Option (E × R)) → slots ≡ 1
      → m.0.stage ≡ Holding k x → m.1 ≡ (0, y) ∷ [] → 0 < length m.0.numbers → steps x event reply y → call ≡ Some (event, reply)
      → Allows (Kept steps opening) slots id m 16 (λ n. (n + 1) % 2 ^ 64) (Gave steps call (step slots 16 1 0 none) m)
  gives_on slots id m k x y event reply call one holds carried numbered made said =
      subst (λ (c : List (ℕ × S)). Allows (Kept steps opening) slots id (m.0, c) 16 (λ n. (n + 1) % 2 ^ 64)
      (Gave steps call (step slots 16 1 0 none) (m.0, c))) (sym carried)
      (gives_held slots id m.0 k x y event reply call one holds numbered made said)
