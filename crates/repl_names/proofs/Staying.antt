-- What stays met where candidates stay, and where others come.
use Rattle.std.proofs.Common.{
  ◌≡◌,
  ◌≢◌,
  ◌↔◌,
  ℕ,
  ◌+◌,
  ◌<◌,
  ◌≤◌,
  Bool,
  true,
  false,
  cond,
  List,
  [],
  ◌∷◌,
  length,
  get_or,
  All,
  Contains,
  count_by,
  Option,
  Some,
  MatchOption,
  refl,
  sym,
  ap,
  subst,
  ◌∙◌,
  inr,
  ⊎_elim,
  arith,
}
use Rattle.std.specs.List.{remove}
use Rattle.std.proofs.lemmas.List.Elements.{All-head, All-tail, All-contains}
use Rattle.std.proofs.lemmas.List.Sorted.{IsPermutation-remove, Contains-permutation, sum_by-IsPermutation}
use Rattle.repl_names.specs.declared.list.Method.{Method}
use Rattle.repl_names.specs.declared.list.Method.TheVariants as method
use Rattle.repl_names.specs.declared.quorum.Mode.{Mode}
use Rattle.repl_names.specs.declared.quorum.Candidate.{Candidate}
use Rattle.repl_names.specs.StandbyList.{Listing}
use Rattle.repl_names.specs.Quorum.{
  Met,
  MetBy,
  MetByFirst,
  IsReleased,
  Continue,
  Differ,
  Forward,
  NoneLags,
  candidates,
  counts,
  goes_before,
  position,
  rank,
  reaches,
}
use Rattle.repl_names.proofs.CountedOrder.{there}
use Rattle.repl_names.proofs.GreatestMet.{met_where_released}
use Rattle.repl_names.proofs.Lists.{met_by, met_for, met_for_both}
use Rattle.repl_names.proofs.Progress.{forward_before, forward_position}
use Rattle.repl_names.proofs.Quorums.{count_all, count_cons, reached, reaches_at}
use Rattle.repl_names.proofs.Taken.{differ_filter}

-- ---- counts of different sessions

-- the session is one of the list's, and passes the test there
Passes : (Candidate → Bool) → List Candidate → Candidate → Type 0
Passes q new c = (d : Candidate) × Contains new d × (d.session ≡ c.session) × (q d ≡ true)

-- a session that was taken out leaves the others
passes_without : (q : Candidate → Bool) (new : List Candidate) (k : ℕ) (d c : Candidate) → k < length new → get_or new k d ≡ d
    → c.session ≢ d.session → Passes q new c → Passes q (remove new k) c
unfolding Passes
passes_without q new k d c l at apart p =
    let e = p.0 in
    let moved = Contains-permutation new (d ∷ remove new k) e (IsPermutation-remove new k d l (sym at)) p.1 in (
      e,
      ⊎_elim
          (λ same. absurd (apart (sym p.2 ∙ ap (λ (x : Candidate). x.session) (sym same))))
          (λ rest. rest)
          (there d e (remove new k) moved),
      p.2,
      p.3,
    )

count_without : (q : Candidate → Bool) (new : List Candidate) (k : ℕ) (d : Candidate) → k < length new → get_or new k d ≡ d → q d ≡ true
    → count_by q new ≡ 1 + count_by q (remove new k)
count_without q new k d l at passes =
    let same = sum_by-IsPermutation (λ x. cond (q x) 1 0) new (d ∷ remove new k) (IsPermutation-remove new k d l (sym at)) in
    sym same ∙ count_cons q d (remove new k) ∙ ap (λ b. cond {A = ℕ} b 1 0 + count_by q (remove new k)) passes

count_into_by : (p q : Candidate → Bool) (c : Candidate) (cs : List Candidate) (b : Bool) → p c ≡ b → (new : List Candidate)
    → All (λ d. d.session ≢ c.session) cs → All (λ x. p x ≡ true → Passes q new x) (c ∷ cs)
    → ((others : List Candidate) → All (λ x. p x ≡ true → Passes q others x) cs → count_by p cs ≤ count_by q others)
    → count_by p (c ∷ cs) ≤ count_by q new
unfolding Passes
count_into_by p q c cs false e new apart h rest =
    let more = rest new (All-tail (λ x. p x ≡ true → Passes q new x) c cs h) in
    omega (arith, count_cons p c cs ∙ ap (λ b. cond {A = ℕ} b 1 0 + count_by p cs) e)
count_into_by p q c cs true e new apart h rest =
    let first = All-head (λ x. p x ≡ true → Passes q new x) c cs h e in
    let d = first.0 in
    let k = first.1.0 in
    let past = All-tail (λ x. p x ≡ true → Passes q new x) c cs h in
    let more = rest (remove new k) (λ i x l passes.
    let y = get_or cs i x in
    passes_without q new k d y first.1.1 first.1.2 (λ same. apart i x l (same ∙ first.2)) (past i x l passes)) in
    omega (arith, count_cons p c cs ∙ ap (λ b. cond {A = ℕ} b 1 0 + count_by p cs) e, count_without q new k d first.1.1 first.1.2 first.3)

-- no fewer pass the test where each that passed has one of its own that does
count_into : (p q : Candidate → Bool) (old new : List Candidate) → Differ old → All (λ c. p c ≡ true → Passes q new c) old
    → count_by p old ≤ count_by q new
count_into p q [] new differ h = omega arith
count_into p q (c ∷ cs) new differ h =
    count_into_by p q c cs (p c) refl new differ.0 h (λ others more. count_into p q cs others differ.1 more)

-- ---- candidates that stay

no_fewer : (old new : List Candidate) → Differ old → Continue old new → length old ≤ length new
unfolding Passes
no_fewer old new differ stay =
    let more = count_into (λ _. true) (λ _. true) old new differ (λ k d l _. let s = stay k d l in (s.0, s.1, s.2.session, refl)) in
    omega (arith, count_all (λ _. true) old (λ k d l. refl), count_all (λ _. true) new (λ k d l. refl))

stays_by_any : (number : ℕ) (old new : List Candidate) (m : Mode) (end : ℕ) → Differ old → Continue old new
    → number ≤ count_by (reaches m end) old → number ≤ count_by (reaches m end) new
unfolding Passes
stays_by_any number old new m end differ stay h =
    let more = count_into (reaches m end) (reaches m end) old new differ
    (λ k d l r.
    let s = stay k d l in
    let c = get_or old k d in
    let at = reached m end c r in
    let up = forward_position m c s.0 s.2 in
    (s.0, s.1, s.2.session, reaches_at m end s.0 (omega arith))) in
    omega arith

-- no more went before it than do now
rank_grows : (old new : List Candidate) (c d : Candidate) → Differ old → Continue old new → Forward c d → rank old c ≤ rank new d
unfolding Passes
rank_grows old new c d differ stay f =
    count_into (λ e. goes_before e c) (λ e. goes_before e d) old new differ
    (λ k x l b.
    let s = stay k x l in
    (s.0, s.1, s.2.session, forward_before c (get_or old k x) d s.0 f s.2 ∙ b))

stays_by_first : (number : ℕ) (old new : List Candidate) (m : Mode) (end : ℕ) → Differ old → Continue old new → MetByFirst number old m end
    → NoneLags number old new m end → MetByFirst number new m end
stays_by_first number old new m end differ stay met none = record {
  enough = let more = no_fewer old new differ stay in omega (arith, met.enough);
  first = λ k x l r.
      let d = get_or new k x in
      ⊎_elim
      (λ (was : (c : Candidate) × Contains old c × Forward c d).
      let less = rank_grows old new was.0 d differ stay was.2 in
      let at = All-contains (λ c. rank old c < number → end ≤ position m c) old was.0 met.first was.1 (omega arith) in
      let up = forward_position m was.0 d was.2 in
      omega arith)
      (λ at. at)
      (none k x l r);
}

pub stays_any : (list : Listing) (old new : List Candidate) (m : Mode) (end : ℕ) → list.method ≡ method.Any → Differ old
    → Continue (candidates old) (candidates new) → Met list old m end → Met list new m end
stays_any list old new m end any differ stay =
    met_for_both list.names list (candidates old) (candidates new) m end end
    (λ h. subst (λ (me : Method). MetBy me list.number (candidates new) m end) (sym any)
    (stays_by_any list.number (candidates old) (candidates new) m end (differ_filter counts old differ) stay
    (subst (λ (me : Method). MetBy me list.number (candidates old) m end) any h)))

by_first : (list : Listing) (sessions : List Candidate) (m : Mode) (end : ℕ) → list.method ≡ method.First → 0 < length list.names
    → Met list sessions m end → MetByFirst list.number (candidates sessions) m end
by_first list sessions m end first some met =
    subst (λ (me : Method). MetBy me list.number (candidates sessions) m end) first
    (met_by list.names list (candidates sessions) m end some met)

stays_first : (list : Listing) (old new : List Candidate) (m : Mode) (end : ℕ) → list.method ≡ method.First → 0 < length list.names
    → Differ old → Continue (candidates old) (candidates new) → Met list old m end
    → NoneLags list.number (candidates old) (candidates new) m end → Met list new m end
stays_first list old new m end first some differ stay met none =
    met_for list.names list (candidates new) m end some
    (subst (λ (me : Method). MetBy me list.number (candidates new) m end) (sym first)
    (stays_by_first list.number (candidates old) (candidates new) m end (differ_filter counts old differ) stay
    (by_first list old m end first some met) none))

pub stays_where_none_lags : (list : Listing) (old new : List Candidate) (m : Mode) (end : ℕ) → list.method ≡ method.First
    → 0 < length list.names → Differ old → Continue (candidates old) (candidates new) → Met list old m end
    → (Met list new m end ↔ NoneLags list.number (candidates old) (candidates new) m end)
stays_where_none_lags list old new m end first some differ stay met = (
  λ after. let by = by_first list new m end first some after in λ k d l r. inr (by.first k d l r),
  stays_first list old new m end first some differ stay met,
)

stays_by : (me : Method) (list : Listing) (old new : List Candidate) (m : Mode) (end : ℕ) → list.method ≡ me → 0 < length list.names
    → Differ old → Continue (candidates old) (candidates new)
    → (list.method ≡ method.First → NoneLags list.number (candidates old) (candidates new) m end) → Met list old m end → Met list new m end
stays_by method.Any list old new m end is some differ stay none met = stays_any list old new m end is differ stay met
stays_by method.First list old new m end is some differ stay none met =
    stays_first list old new m end is some differ stay met (none is)

pub no_less_released : (list : Listing) (old new : List Candidate) (m : Mode) (end : ℕ) (released : Option ℕ) → 0 < length list.names
    → Differ old → Continue (candidates old) (candidates new)
    → (list.method ≡ method.First → NoneLags list.number (candidates old) (candidates new) m end) → IsReleased list old m (Some end)
    → IsReleased list new m released → MatchOption released ⊥ (λ (later : ℕ). end ≤ later)
no_less_released list old new m end released some differ stay none was is =
    (met_where_released list new m end released some is).0 (stays_by list.method list old new m end refl some differ stay none was.met)
