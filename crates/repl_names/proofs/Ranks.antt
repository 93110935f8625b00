-- The order of priority and connection: places in it, ranks, and the first candidates.
use Rattle.std.proofs.Common.{◌≡◌, ℕ, suc, ◌-◌, ◌<◌, ◌≤◌, Bool, true, false, cond, not, ◌&&◌, nat_lt, ◌==◌, List, [], ◌∷◌, map, length, get_or, min, All, Any, unwrap_or, filter, fold, count_by, refl, sym, ap, subst, ◌⊎◌, inl, inr, ⊎_elim, arith}
use Rattle.std.specs.List.{reduce}
use Rattle.std.proofs.lemmas.Bool.{cases_lt, or_cases, and_parts, le-ltb, ltb-true, ltb-false, eqb-true, not-true, both_ways, false_from_ne_true}
use Rattle.std.proofs.lemmas.Bool.Decides.{nat_tests}
use Rattle.std.proofs.lemmas.List.Elements.{All-cons, All-nil, All-head, All-tail, All-filter, filter_passes}
use Rattle.std.proofs.lemmas.List.Sums.{count_by-le-length}
use Rattle.repl_names.specs.declared.quorum.Mode.{Mode}
use Rattle.repl_names.specs.declared.quorum.Candidate.{Candidate}
use Rattle.repl_names.specs.Quorum.{position, goes_before, rank, MetByFirst}
use Rattle.repl_names.specs.Order.{is_up_to, is_within}
use Rattle.repl_names.proofs.Quorums.{count_le, count_all, count_none}

-- ---- places in the order

-- who goes before has this priority or a better one
before_up_to : (c d : Candidate) → goes_before d c ≡ true → is_up_to c.priority d ≡ true
before_up_to c d h = grind (arith, nat_tests)

-- before the oldest connection go those of better priority
before_oldest : (c d : Candidate) → c.session ≡ 0 → goes_before d c ≡ true → d.priority < c.priority
before_oldest c d z h = grind (arith, nat_tests)

up_to_below : (priority : ℕ) (d : Candidate) → d.priority < priority → is_up_to (priority - 1) d ≡ true
up_to_below priority d h = grind (arith, nat_tests)

before_within : (c d : Candidate) → 0 < c.session → goes_before d c ≡ true → is_within c.priority (c.session - 1) d ≡ true
before_within c d some h = grind (arith, nat_tests)

within_cases : (priority session : ℕ) (c : Candidate) → is_within priority session c ≡ true
    → (c.priority < priority) ⊎ ((c.priority ≡ priority) × (c.session ≤ session))
within_cases priority session c h = ⊎_elim
    (λ l. inl (ltb-true c.priority priority l))
    (λ r.
    let parts = and_parts (c.priority == priority) (not (nat_lt session c.session)) r in
    inr (eqb-true c.priority priority parts.0, ltb-false session c.session (not-true (nat_lt session c.session) parts.1)))
    (or_cases (nat_lt c.priority priority) (c.priority == priority && not (nat_lt session c.session)) h)

-- who is within goes before one who is not
within_before : (priority session : ℕ) (c d : Candidate) → is_within priority session c ≡ false → is_within priority session d ≡ true
    → goes_before d c ≡ true
within_before priority session c d out h = grind (arith, nat_tests)

-- at the last priority, all are within the greatest session
pub up_to_within : (priority session : ℕ) (cs : List Candidate) → All (λ c. c.session ≤ session) cs
    → count_by (is_up_to priority) cs ≤ count_by (is_within priority session) cs
up_to_within priority session cs h = count_le (is_up_to priority) (is_within priority session) cs
    (λ k d l e. let low = h k d l in one priority session (get_or cs k d) low e)
  where
    one : (priority session : ℕ) (c : Candidate) → c.session ≤ session → is_up_to priority c ≡ true → is_within priority session c ≡ true
    one priority session c low e = grind (arith, nat_tests)

pub up_to_all : (priority : ℕ) (cs : List Candidate) → All (λ c. c.priority ≤ priority) cs → count_by (is_up_to priority) cs ≡ length cs
up_to_all priority cs h = count_all (is_up_to priority) cs (λ k d l. ap not (le-ltb priority (get_or cs k d).priority (h k d l)))

pub up_to_rises : (earlier later : ℕ) (cs : List Candidate) → earlier ≤ later
    → count_by (is_up_to earlier) cs ≤ count_by (is_up_to later) cs
up_to_rises earlier later cs le = count_le (is_up_to earlier) (is_up_to later) cs (λ k d l h. one earlier later (get_or cs k d) le h)
  where
    one : (earlier later : ℕ) (c : Candidate) → earlier ≤ later → is_up_to earlier c ≡ true → is_up_to later c ≡ true
    one earlier later c le h = grind (arith, nat_tests)

pub within_rises : (priority earlier later : ℕ) (cs : List Candidate) → earlier ≤ later
    → count_by (is_within priority earlier) cs ≤ count_by (is_within priority later) cs
within_rises priority earlier later cs le = count_le (is_within priority earlier) (is_within priority later) cs
    (λ k d l h. one priority earlier later (get_or cs k d) le h)
  where
    one : (priority earlier later : ℕ) (c : Candidate) → earlier ≤ later → is_within priority earlier c ≡ true
        → is_within priority later c ≡ true
    one priority earlier later c le h = grind (arith, nat_tests)

-- ---- the last place

-- up to it there are so many, and up to no earlier one
pub record IsLast (number priority session : ℕ) (cs : List Candidate) : Type 0 where
  pub enough : number ≤ count_by (is_within priority session) cs
  pub no_better : (earlier : ℕ) → earlier < priority → count_by (is_up_to earlier) cs < number
  pub no_older : (earlier : ℕ) → earlier < session → count_by (is_within priority earlier) cs < number

-- those before the oldest connection of a priority are few
oldest_rank : (cs : List Candidate) (number priority : ℕ) (c : Candidate) → 0 < number → c.session ≡ 0 → c.priority ≡ priority
    → ((earlier : ℕ) → earlier < priority → count_by (is_up_to earlier) cs < number) → rank cs c < number
oldest_rank cs number priority c some z same fewer = ⊎_elim
    (λ l.
    let none = count_none (λ d. goes_before d c) cs
    (λ k d l'. false_from_ne_true _ (λ e. let better = before_oldest c (get_or cs k d) z e in absurd (omega arith))) in
    omega arith)
    (λ l.
    let le = count_le (λ d. goes_before d c) (is_up_to (priority - 1)) cs
    (λ k d l' e. let better = before_oldest c (get_or cs k d) z e in up_to_below priority (get_or cs k d) (omega arith)) in
    let few = fewer (priority - 1) (omega arith) in
    omega arith)
    (cases_lt priority 1)

-- those up to the last place are the first
pub first_within : (cs : List Candidate) (number priority session : ℕ) (c : Candidate) → IsLast number priority session cs → 0 < number
    → is_within priority session c ≡ true → rank cs c < number
first_within cs number priority session c last some h = ⊎_elim
    (λ better.
    let le = count_le (λ d. goes_before d c) (is_up_to c.priority) cs (λ k d l e. before_up_to c (get_or cs k d) e) in
    let few = last.no_better c.priority better in
    omega arith)
    (λ at. ⊎_elim
    (λ z. oldest_rank cs number priority c some (omega arith) at.0 last.no_better)
    (λ l.
    let le = count_le (λ d. goes_before d c) (is_within c.priority (c.session - 1)) cs
    (λ k d l' e. before_within c (get_or cs k d) (omega arith) e) in
    let few : count_by (is_within c.priority (c.session - 1)) cs < number =
    subst (λ n. count_by (is_within n (c.session - 1)) cs < number) (sym at.0) (last.no_older (c.session - 1) (omega (arith, at.1))) in
    omega arith)
    (cases_lt c.session 1))
    (within_cases priority session c h)

-- the first are up to the last place
pub within_first : (cs : List Candidate) (number priority session : ℕ) (c : Candidate) → IsLast number priority session cs
    → rank cs c < number
    → is_within priority session c ≡ true
within_first cs number priority session c last h = by_test (is_within priority session c) refl
  where
    by_test : (b : Bool) → is_within priority session c ≡ b → is_within priority session c ≡ true
    by_test true e = e
    by_test false e =
        let more = count_le (is_within priority session) (λ d. goes_before d c) cs
        (λ k d l i. within_before priority session c (get_or cs k d) e i) in
        absurd (omega (arith, last.enough))

-- ---- the least of a list

-- the number is that of an element, and no element has a lesser one
pub record IsLeast {X : Type 0} (f : X → ℕ) (xs : List X) (least : ℕ) : Type 0 where
  pub below : All (λ x. least ≤ f x) xs
  pub one : Any (λ x. f x ≡ least) xs

-- the least so far is the one that it began with or that of an element
record IsLeastFrom {X : Type 0} (f : X → ℕ) (start : ℕ) (xs : List X) (least : ℕ) : Type 0 where
  first : least ≤ start
  below : All (λ x. least ≤ f x) xs
  one : (least ≡ start) ⊎ Any (λ x. f x ≡ least) xs

least_from : {X : Type 0} (f : X → ℕ) (start : ℕ) (xs : List X) → IsLeastFrom f start xs (fold min start (map f xs))
least_from f start [] = record { first = omega arith; below = All-nil (λ x. start ≤ f x); one = inl refl }
least_from {X} f start (x ∷ xs) =
    let rest = least_from f (min start (f x)) xs in
    let least = fold min (min start (f x)) (map f xs) in
    record {
      first = omega (arith, rest.first);
      below = All-cons (λ y. least ≤ f y) x xs (omega (arith, rest.first)) rest.below;
      one = ⊎_elim
          (λ e. ⊎_elim
          (λ l. inl (omega arith))
          (λ l. inr (0, x, omega arith, refl, omega arith))
          (cases_lt start (f x)))
          (λ w. inr (suc w.0, w.1, omega (arith, w.2), w.3, w.4))
          rest.one;
    }

least_fold : {X : Type 0} (f : X → ℕ) (x : X) (xs : List X) → IsLeast f (x ∷ xs) (fold min (f x) (map f xs))
least_fold {X} f x xs =
    let from = least_from f (f x) xs in
    let least = fold min (f x) (map f xs) in
    let below = All-cons (λ y. least ≤ f y) x xs from.first from.below in
    ⊎_elim
    (λ e. record { below = below; one = (0, x, omega arith, refl, sym e) })
    (λ w. record { below = below; one = (suc w.0, w.1, omega (arith, w.2), w.3, w.4) })
    from.one

pub least_of : {X : Type 0} (f : X → ℕ) (xs : List X) → 0 < length xs → IsLeast f xs (unwrap_or (reduce min (map f xs)) 0)
least_of f [] h = absurd (omega arith)
least_of f (x ∷ xs) h = least_fold f x xs

-- ---- the first candidates

all_cond : {X : Type 0} (p : X → Bool) (P : X → Type 0) (x : X) (xs ys : List X) (b : Bool) → p x ≡ b → All P (cond b (x ∷ ys) ys)
    → (All P ys → All (λ y. p y ≡ true → P y) xs) → All (λ y. p y ≡ true → P y) (x ∷ xs)
all_cond p P x xs ys true e h rest = All-cons (λ y. p y ≡ true → P y) x xs (λ _. All-head P x ys h) (rest (All-tail P x ys h))
all_cond p P x xs ys false e h rest = All-cons (λ y. p y ≡ true → P y) x xs (λ t. absurd (both_ways (p x) e t)) (rest h)

-- what each that a filter keeps has
pub all_from_filter : {X : Type 0} (p : X → Bool) (P : X → Type 0) (xs : List X) → All P (filter p xs) → All (λ x. p x ≡ true → P x) xs
all_from_filter p P [] h = All-nil (λ x. p x ≡ true → P x)
all_from_filter p P (x ∷ xs) h = all_cond p P x xs (filter p xs) (p x) refl h (all_from_filter p P xs)

-- the least position of those up to the last place is one at which the list is met
pub first_met : (cs : List Candidate) (m : Mode) (number priority session end : ℕ) → IsLast number priority session cs
    → IsLeast (position m) (filter (is_within priority session) cs) end → MetByFirst number cs m end
first_met cs m number priority session end last least =
    let size = count_by-le-length (is_within priority session) cs in
    let below = all_from_filter (is_within priority session) (λ c. end ≤ position m c) cs least.below in
    record {
      enough = omega (arith, last.enough);
      first = λ k d l h. below k d l (within_first cs number priority session (get_or cs k d) last h);
    }

-- and at no later one
pub first_missed : (cs : List Candidate) (m : Mode) (number priority session end later : ℕ) → IsLast number priority session cs → 0 < number
    → IsLeast (position m) (filter (is_within priority session) cs) end → end < later → MetByFirst number cs m later → ⊥
first_missed cs m number priority session end later last some least h met =
    let test = is_within priority session in
    let kept = filter test cs in
    let c = least.one.1 in
    let at = λ (P : Candidate → Type 0) (all : All P kept). subst P least.one.3 (all least.one.0 c least.one.2) in
    let close : test c ≡ true = at (λ d. test d ≡ true) (filter_passes test cs) in
    let reach : rank cs c < number → later ≤ position m c = at (λ d. rank cs d < number → later ≤ position m d)
    (All-filter test (λ d. rank cs d < number → later ≤ position m d) cs met.first) in
    let past : later ≤ position m c = reach (first_within cs number priority session c last some close) in
    let value : position m c ≡ end = least.one.4 in
    omega arith
