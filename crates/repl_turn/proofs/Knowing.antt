-- From what a step tells of views to what a call tells of passes.
use Rattle.std.proofs.Common.{◌≡◌, ◌⊎◌, ◌≢◌, ℕ, ◌+◌, ◌<◌, false, true≢false, List, [], ◌∷◌, ◌++◌, length, get_or, Some, ⊎_elim, max, refl, sym, ap, ◌∙◌, subst, arith, length-append}
use mathlib.Core.List.{IsPrefix}
use Rattle.atomic_table.specs.Seated.{TableId}
use Rattle.repl_turn.specs.declared.machine.Entry.{Entry}
use Rattle.repl_turn.specs.declared.rule.View.{View}
use Rattle.repl_turn.specs.declared.rule.Stage.TheVariants.{Idle}
use Rattle.repl_turn.specs.History.{TurnId, Known, has, entry, calls_by, Acts, Watches, Joins, Splits, Legal}
use Rattle.repl_turn.specs.Rule.{Sits, Leads, Gives, Watched, TakesIn, resting, joining, unborn}
use Rattle.repl_turn.proofs.Histories.{calls_by-append, calls_of_one, same_calls, has_first, get_last}

module _ {S E R : Type 0} where
  abbrev pub known : TableId → View S E R → Known S E R
  known t v = record { turn = record { table = t; opening = v.opening }; seen = v.seen; numbers = v.numbers }

module _ {S E R : Type 0} (steps : S → E → R → S → Type 0) where
  legal_of : (turn : TurnId S) (x : S) (h : List (Entry E R)) → turn.opening ≡ Some x → Leads steps turn.opening h → Legal steps turn h
  legal_of turn x h o l = let p = l x o in (x, o, p.0, p.1)

  acts_now : (t : TableId) (v : View S E R) (x : S) (event : E) (reply : R) (at : ℕ) (between : List (Entry E R)) → v.opening ≡ Some x
      → 0 < length v.numbers → length (v.seen ++ between) ≡ at → calls_by v.numbers between ≡ []
      → Leads steps v.opening ((v.seen ++ between) ++ entry (get_or v.numbers 0 0) event reply ∷ [])
      → Acts steps (known t v) event reply at (known t (resting v.opening
      ((v.seen ++ between) ++ entry (get_or v.numbers 0 0) event reply ∷ []) v.numbers))
  acts_now t v x event reply at between o numbered place others l =
      let e : Entry E R = entry (get_or v.numbers 0 0) event reply in
      let front : List (Entry E R) = v.seen ++ between in
      record {
        between = between;
        seen = refl;
        place = get_last front e at place;
        last = length-append front (e ∷ []) ∙ ap (λ n. n + 1) place;
        legal = legal_of record { table = t; opening = v.opening } x (front ++ e ∷ []) o l;
        others = others;
        calls = calls_by-append v.numbers front (e ∷ [])
            ∙ (ap (λ c. c ++ calls_by v.numbers (e ∷ [])) (same_calls v.numbers v.seen between others)
            ∙ ap (λ c. calls_by v.numbers v.seen ++ c) (calls_of_one v.numbers e (has_first v.numbers numbered)));
        turn = refl;
        numbers = refl;
      }

  pub acts_known : (t t' : TableId) (v : View S E R) (x : S) (event : E) (reply : R) (at : ℕ) (n : Sits S E R) → t' ≡ t → v.opening ≡ Some x
      → 0 < length v.numbers → Gives steps event reply v at n
      → Acts steps (known t v) event reply at (known t' n.0)
  acts_known t t' v x event reply at n same o numbered g =
      let after : View S E R = resting v.opening ((v.seen ++ g.between) ++ entry (get_or v.numbers 0 0) event reply ∷ []) v.numbers in
      let l = subst (λ (z : Sits S E R). Leads steps z.0.opening z.0.seen) g.view g.legal in
      subst (λ (z : TableId × View S E R). Acts steps (known t v) event reply at (known z.0 z.1))
      (λ i. (sym same i, ap (λ (z : Sits S E R). z.0) (sym g.view) i))
      (acts_now t v x event reply at g.between o numbered g.place g.others l)

  -- what a watch tells, where the history was longer
  pub watches_known : (t t' : TableId) (v : View S E R) (x : S) (more : List (Entry E R)) (n : View S E R) → t' ≡ t → v.opening ≡ Some x
      → n ≡ resting v.opening (v.seen ++ more) v.numbers → 0 < length more → calls_by v.numbers more ≡ []
      → Leads steps v.opening (v.seen ++ more) → Watches steps (known t v) (known t' n)
  watches_known t t' v x more n same o is longer others l =
      subst (λ (z : TableId × View S E R). Watches steps (known t v) (known z.0 z.1)) (λ i. (sym same i, sym is i)) record {
        more = more;
        seen = refl;
        longer = longer;
        legal = legal_of record { table = t; opening = v.opening } x (v.seen ++ more) o l;
        others = others;
        calls = same_calls v.numbers v.seen more others;
        turn = refl;
        numbers = refl;
      }

  pub joins_known : (t t' t'' : TableId) (v w : View S E R) (x : S) (m n : Sits S E R) → t'' ≡ t → v.opening ≡ Some x
      → m ≡ (joining v w, []) → TakesIn steps w.numbers w.seen m n → Joins steps (known t v) (known t' w) (known t'' n.0)
  joins_known t t' t'' v w x m n same o is taken =
      let k = subst (λ (z : Sits S E R). TakesIn steps w.numbers w.seen z n) is taken in
      subst (λ (z : TableId × View S E R). Joins steps (known t v) (known t' w) (known z.0 z.1))
      (λ i. (sym same i, ap (λ (z : Sits S E R). z.0) (sym k.view) i)) record {
        one = k.one;
        first = k.first;
        second = k.second;
        legal = legal_of record { table = t; opening = v.opening } x k.seen o k.legal;
        first_calls = k.first_calls;
        second_calls = k.second_calls;
        apart = k.apart;
        turn = refl;
        numbers = refl;
      }

module _ {X : Type 0} where
  -- of two beginnings, the longer has the greater length
  pub longer_length : (xs ys zs : List X) → (zs ≡ xs) ⊎ (zs ≡ ys) → IsPrefix xs zs → IsPrefix ys zs
      → max (length xs) (length ys) ≡ length zs
  longer_length xs ys zs one p q =
      let a : length xs + length p.0 ≡ length zs = sym (length-append xs p.0) ∙ ap length p.1 in
      let b : length ys + length q.0 ≡ length zs = sym (length-append ys q.0) ∙ ap length q.1 in
      ⊎_elim (λ e. let c : length zs ≡ length xs = ap length e in omega arith)
      (λ e. let c : length zs ≡ length ys = ap length e in omega arith) one

module _ {S E R : Type 0} (steps : S → E → R → S → Type 0) where
  -- the invariant of a pass that took in another
  pub joined_pass : (v w : View S E R) (m n : Sits S E R) (count count' : ℕ) → m ≡ (joining v w, []) → TakesIn steps w.numbers w.seen m n
      → count ≡ length v.seen → count' ≡ length w.seen → 0 < length v.numbers
      → (max count count' ≡ length n.0.seen) × (n.0.stage ≡ Idle) × (n.1 ≡ []) × (0 < length n.0.numbers)
  joined_pass v w m n count count' is taken a b numbered =
      let k = subst (λ (z : Sits S E R). TakesIn steps w.numbers w.seen z n) is taken in
      let long = length-append v.numbers w.numbers in
      subst (λ (z : Sits S E R). (max count count' ≡ length z.0.seen) × (z.0.stage ≡ Idle) × (z.1 ≡ []) × (0 < length z.0.numbers))
      (sym k.view)
      ((λ i. max (a i) (b i)) ∙ longer_length v.seen w.seen k.seen k.one k.first k.second, refl, refl, omega arith)

  -- the invariant of a pass that saw the history as it is
  pub watched_pass : (m n : Sits S E R) (found : ℕ) → Watched steps m found n → m.1 ≡ [] → 0 < length m.0.numbers
      → (found ≡ length n.0.seen) × (n.0.stage ≡ Idle) × (n.1 ≡ []) × (0 < length n.0.numbers)
  watched_pass m n found w none_held numbered =
      subst (λ (z : Sits S E R). (found ≡ length z.0.seen) × (z.0.stage ≡ Idle) × (z.1 ≡ []) × (0 < length z.0.numbers)) (sym w.view)
      (sym w.place, refl, none_held, numbered)

  -- the invariant of a pass that made an event
  pub gave_pass : (event : E) (reply : R) (v : View S E R) (at : ℕ) (n : Sits S E R) → Gives steps event reply v at n → 0 < length v.numbers
      → (at + 1 ≡ length n.0.seen) × (n.0.stage ≡ Idle) × (n.1 ≡ []) × (0 < length n.0.numbers)
  gave_pass event reply v at n g numbered =
      let e : Entry E R = entry (get_or v.numbers 0 0) event reply in
      subst (λ (z : Sits S E R). (at + 1 ≡ length z.0.seen) × (z.0.stage ≡ Idle) × (z.1 ≡ []) × (0 < length z.0.numbers)) (sym g.view)
      (sym (length-append (v.seen ++ g.between) (e ∷ []) ∙ ap (λ n. n + 1) g.place), refl, refl, numbered)

-- a new number is not the pass's own
apart_from_first : (k : ℕ) (ns : List ℕ) → 0 < length ns → has k ns ≡ false → k ≢ get_or ns 0 0
apart_from_first k ns l lacks e = true≢false (sym (has_first ns l) ∙ (ap (λ n. has n ns) (sym e) ∙ lacks))

module _ {S E R : Type 0} where
  pub splits_known : (t t' : TableId) (v : View S E R) (m n : Sits S E R) (k : ℕ) → t' ≡ t → m ≡ (unborn v, []) → 0 < length v.numbers
      → n ≡ (resting m.0.opening m.0.seen (k ∷ []), m.1) → has k v.numbers ≡ false → calls_by (k ∷ []) m.0.seen ≡ []
      → Splits (known t v) (known t' n.0)
  splits_known t t' v m n k same is numbered born lacks none_yet =
      let view : n.0 ≡ resting v.opening v.seen (k ∷ []) = ap (λ z. z.0) born
      ∙ ap (λ (z : Sits S E R). resting z.0.opening z.0.seen (k ∷ [])) is in
      subst (λ (z : TableId × View S E R). Splits (known t v) (known z.0 z.1)) (λ i. (sym same i, sym view i)) record {
        numbers = refl;
        other = apart_from_first k v.numbers numbered lacks;
        new = lacks;
        calls = subst (λ (z : Sits S E R). calls_by (k ∷ []) z.0.seen ≡ []) is none_yet;
        seen = refl;
        turn = refl;
      }
