-- The history so far is seen.
use Rattle.std.proofs.Common.{◌≡◌, ℕ, ◌<◌, ◌≤◌, true, List, [], ◌∷◌, ◌++◌, length, refl, sym, ap, ◌∙◌, subst, arith, le_refl, length-append}
use Rattle.std.proofs.lemmas.List.{append-nil}
use Rattle.atomic_table.specs.Table.{keeps, Allows}
use Rattle.repl_turn.specs.declared.machine.Entry.{Entry}
use Rattle.repl_turn.specs.declared.rule.View.{View}
use Rattle.repl_turn.specs.declared.rule.Stage.TheVariants.{Idle}
use Rattle.repl_turn.specs.History.{has, Disjoint}
use Rattle.repl_turn.specs.Rule.{Sits, Begins, Kept, resting, Watched, owned, taken_in}
use Rattle.repl_turn.proofs.Histories.{begins_all}
use Rattle.repl_turn.proofs.Views.{loaded, leads}
use Rattle.repl_turn.proofs.Draws.{idle_free}

module _ {S E R : Type 0} (steps : S → E → R → S → Type 0) (opening : S) where
  pub watches : (slots id : ℕ) (m : Sits S E R) → m.0.stage ≡ Idle → Allows (Kept steps opening) slots id m 16 (λ n. n) (Watched steps m)
  watches slots id m idle s r _ at _ =
      let v : View S E R = m.0 in
      let f = r.each_view id v at in
      let b = f.begins in
      let seen : List (Entry E R) = v.seen ++ b.rest in
      let w : View S E R = resting v.opening seen v.numbers in (
        w,
        keeps,
        tt,
        loaded steps opening s r 16 r.top id m.1 v w at (idle_free steps opening v idle) (le_refl r.top)
            record {
              opened = f.opened;
              begins = subst (Begins v.numbers seen) b.whole (begins_all v.numbers seen);
              below = subst (λ st. (n : ℕ) → has n (v.numbers ++ taken_in st) ≡ true → n < r.top) idle f.below;
              stage = tt;
            }
            (λ j u apart e. let a = r.apart id j v u at e (λ same. apart (sym same)) in record {
              tickets = λ n p. absurd cc;
              numbers = subst (λ st. Disjoint (v.numbers ++ taken_in st) (owned u)) idle a.numbers;
            }),
        record {
          more = b.rest;
          view = refl;
          place = ap length b.whole ∙ sym r.counted;
          others = b.others;
          legal = leads steps opening s r id v seen at ([], append-nil seen ∙ b.whole);
        },
      )

module _ {X : Type 0} where
  -- where nothing is longer, nothing came
  nothing_more : (xs ys : List X) → length (xs ++ ys) ≤ length xs → xs ++ ys ≡ xs
  nothing_more xs [] l = append-nil xs
  nothing_more xs (y ∷ ys) l = absurd (omega (arith, length-append xs (y ∷ ys)))

  pub some_more : (xs ys : List X) → length xs < length (xs ++ ys) → 0 < length ys
  some_more xs ys l = omega (arith, length-append xs ys)

module _ {S E R : Type 0} (steps : S → E → R → S → Type 0) where
  pub nothing_seen : (m n : Sits S E R) (found : ℕ) → m.0.stage ≡ Idle → Watched steps m found n → found ≤ length m.0.seen → n ≡ m
  nothing_seen m n found idle w l =
      let same : m.0.seen ++ w.more ≡ m.0.seen = nothing_more m.0.seen w.more (subst (λ k. k ≤ length m.0.seen) (sym w.place) l) in
      w.view ∙ (λ i. (record { opening = m.0.opening; seen = same i; numbers = m.0.numbers; stage = sym idle i }, m.1))
