-- Those by which a list is met: how many they are, that they differ, and what they have.
use Rattle.std.proofs.Common.{◌≡◌, ◌≢◌, ℕ, zero, suc, ◌<◌, ◌≤◌, Bool, true, false, cond, ◌==◌, List, [], ◌∷◌, length, take, get_or, All, Contains, IsPermutation, filter, sym, ap, subst, arith}
use Rattle.std.specs.List.{IsDistinct}
use Rattle.std.proofs.lemmas.Bool.{ne_eqb, eqb-false}
use Rattle.std.proofs.lemmas.Bool.Decides.{nat_tests}
use Rattle.std.proofs.lemmas.List.{length-take-le}
use Rattle.std.proofs.lemmas.List.Elements.{All-nil, All-cons, All-weaker, All-filter, All-take, All-from_recursion, recursion_from_All, All-contains_itself, filter_passes}
use Rattle.std.proofs.lemmas.List.Sums.{length-filter}
use Rattle.std.proofs.lemmas.List.Sorted.{All-permutation, length_permutation, sum_by-IsPermutation}
use Rattle.std.proofs.lemmas.Map.Keys.{IsDistinct-head, IsDistinct-tail, IsDistinct-IsPermutation}
use Rattle.repl_names.specs.declared.list.Method.{Method}
use Rattle.repl_names.specs.declared.list.Method.TheVariants as method
use Rattle.repl_names.specs.declared.quorum.Mode.{Mode}
use Rattle.repl_names.specs.declared.quorum.Candidate.{Candidate}
use Rattle.repl_names.specs.StandbyList.{Listing, IsListing, Demands}
use Rattle.repl_names.specs.Quorum.{Met, MetBy, MetFor, Counted, CountedFor, Differ, InOrder, candidates, counts, eligible, goes_before, position, rank, reaches}
use Rattle.repl_names.proofs.Quorums.{count_cons, count_none, reached}

-- ---- different sessions

abbrev same_session : Candidate → Candidate → Bool
same_session c d = c.session == d.session

differ_cond : (b : Bool) (c : Candidate) (cs : List Candidate) → All (λ d. d.session ≢ c.session) cs → Differ cs
    → Differ (cond b (c ∷ cs) cs)
differ_cond true c cs apart rest = (apart, rest)
differ_cond false c cs apart rest = rest

pub differ_filter : (p : Candidate → Bool) (cs : List Candidate) → Differ cs → Differ (filter p cs)
differ_filter p [] h = h
differ_filter p (c ∷ cs) h = differ_cond (p c) c (filter p cs) (All-filter p (λ d. d.session ≢ c.session) cs h.0) (differ_filter p cs h.1)

differ_take : (n : ℕ) (cs : List Candidate) → Differ cs → Differ (take n cs)
differ_take zero cs h = tt
differ_take (suc n) [] h = tt
differ_take (suc n) (c ∷ cs) h = (All-take (λ d. d.session ≢ c.session) n cs h.0, differ_take n cs h.1)

distinct_from_differ : (cs : List Candidate) → Differ cs → IsDistinct same_session cs
unfolding IsDistinct
distinct_from_differ [] h = tt
distinct_from_differ (c ∷ cs) h =
    let apart = All-weaker (λ d. d.session ≢ c.session) (λ d. same_session c d ≡ false)
    (λ d ne. ne_eqb c.session d.session (λ e. ne (sym e))) cs h.0 in
    (recursion_from_All (λ d. same_session c d ≡ false) cs apart, distinct_from_differ cs h.1)

differ_from_distinct : (cs : List Candidate) → IsDistinct same_session cs → Differ cs
differ_from_distinct [] h = tt
differ_from_distinct (c ∷ cs) h =
    let apart = All-from_recursion (λ d. same_session c d ≡ false) cs (IsDistinct-head same_session c cs h) in (
      All-weaker (λ d. same_session c d ≡ false) (λ d. d.session ≢ c.session) (λ d no e. eqb-false c.session d.session no (sym e)) cs apart,
      differ_from_distinct cs (IsDistinct-tail same_session c cs h),
    )

flips : (a b : ℕ) → (a == b) ≡ (b == a)
flips a b = grind (arith, nat_tests)

differ_permutation : (cs ds : List Candidate) → IsPermutation cs ds → Differ cs → Differ ds
differ_permutation cs ds moved h = differ_from_distinct ds
    (IsDistinct-IsPermutation same_session (λ c d. flips c.session d.session) cs ds moved (distinct_from_differ cs h))

-- ---- those of best priority

before_none : (c : Candidate) → goes_before c c ≡ false
before_none c = grind (arith, nat_tests)

before_once : (c d : Candidate) → goes_before c d ≡ true → goes_before d c ≡ false
before_once c d h = grind (arith, nat_tests)

one_at_most : (b : Bool) → cond b 1 0 ≤ 1
one_at_most true = omega arith
one_at_most false = omega arith

-- fewer than n go before each of the first n
first_ranks : (n : ℕ) (order : List Candidate) → InOrder order → All (λ c. rank order c < n) (take n order)
first_ranks zero order h = All-nil (λ c. rank order c < zero)
first_ranks (suc n) [] h = All-nil (λ c. rank [] c < suc n)
first_ranks (suc n) (c ∷ cs) h =
    let none = count_none (λ d. goes_before d c) cs (λ k d l. before_once c (get_or cs k d) (h.0 k d l)) in
    let itself : cond {A = ℕ} (goes_before c c) 1 0 ≡ 0 = ap (λ b. cond b 1 0) (before_none c) in
    let head : rank (c ∷ cs) c < suc n = omega (arith, count_cons (λ d. goes_before d c) c cs) in
    All-cons (λ e. rank (c ∷ cs) e < suc n) c (take n cs) head
    (All-weaker (λ e. rank cs e < n) (λ e. rank (c ∷ cs) e < suc n)
    (λ e l. omega (arith, count_cons (λ d. goes_before d e) c cs, one_at_most (goes_before c e)))
    (take n cs) (first_ranks n cs h.1))

-- ---- what they have

taken_size : (number : ℕ) (cs order : List Candidate) → IsPermutation cs order → number ≤ length cs → length (take number order) ≡ number
taken_size number cs order moved enough = length-take-le number order (omega (arith, length_permutation cs order moved))

abbrev Taken : ℕ → List Candidate → List Candidate → Mode → ℕ → Type 0
Taken number cs taken m end = (length taken ≡ number) × Differ taken × All (λ c. Contains cs c × (end ≤ position m c)) taken

taken_by : (me : Method) (number : ℕ) (cs order : List Candidate) (m : Mode) (end : ℕ) → MetBy me number cs m end
    → IsPermutation (eligible me cs m end) order → InOrder order → Differ cs
    → Taken number cs (take number order) m end
taken_by method.Any number cs order m end met moved up differ =
    let able = filter (reaches m end) cs in
    let P : Candidate → Type 0 = λ c. Contains cs c × (end ≤ position m c) in
    let members = All-filter (reaches m end) (Contains cs) cs (All-contains_itself cs) in
    let reach = filter_passes (reaches m end) cs in
    let have : All P able = λ k d l. (members k d l, reached m end (get_or able k d) (reach k d l)) in (
      taken_size number able order moved (omega (arith, length-filter (reaches m end) cs)),
      differ_take number order (differ_permutation able order moved (differ_filter (reaches m end) cs differ)),
      All-take P number order (All-permutation P able order moved have),
    )
taken_by method.First number cs order m end met moved up differ =
    let P : Candidate → Type 0 = λ c. Contains cs c × (rank cs c < number → end ≤ position m c) in
    let members = All-contains_itself cs in
    let have : All P cs = λ k d l. (members k d l, met.first k d l) in
    let there = All-take P number order (All-permutation P cs order moved have) in
    let ranks = first_ranks number order up in (
      taken_size number cs order moved met.enough,
      differ_take number order (differ_permutation cs order moved differ),
      λ k d l.
          let c = get_or (take number order) k d in
          let same = sum_by-IsPermutation (λ e. cond (goes_before e c) 1 0) cs order moved in
          let low = ranks k d l in
          ((there k d l).0, (there k d l).1 (omega arith)),
    )

taken_for : (names : List (List ℕ)) (list : Listing) (cs counted : List Candidate) (m : Mode) (end : ℕ)
    → Demands names list.method list.number → Differ cs
    → MetFor names list cs m end → CountedFor names list cs m end counted → Taken list.number cs counted m end
taken_for [] list cs counted m end demands differ met taken = subst (λ ds. Taken list.number cs ds m end) (sym taken)
    (sym demands.1, tt, All-nil (λ c. Contains cs c × (end ≤ position m c)))
taken_for (name ∷ names) list cs counted m end demands differ met taken = subst (λ ds. Taken list.number cs ds m end) (sym taken.3)
    (taken_by list.method list.number cs taken.0 m end met taken.1 taken.2 differ)

pub those_counted : (list : Listing) (sessions counted : List Candidate) (m : Mode) (end : ℕ) → IsListing list → Differ sessions
    → Met list sessions m end → Counted list sessions m end counted
    → (length counted ≡ list.number) × Differ counted × All (λ c. Contains (candidates sessions) c × (end ≤ position m c)) counted
those_counted list sessions counted m end is differ met taken =
    taken_for list.names list (candidates sessions) counted m end is.demands (differ_filter counts sessions differ) met taken
