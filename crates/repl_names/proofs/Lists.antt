-- When a list is met, by whether it has names.
use Rattle.std.proofs.Common.{◌≡◌, ℕ, ◌<◌, ◌≤◌, List, [], ◌∷◌, length, count_by, sym, subst, ◌∙◌, ⊎_elim, arith}
use Rattle.std.proofs.lemmas.Bool.{cases_lt}
use Rattle.repl_names.specs.declared.list.Method.{Method}
use Rattle.repl_names.specs.declared.list.Method.TheVariants as method
use Rattle.repl_names.specs.declared.quorum.Mode.{Mode}
use Rattle.repl_names.specs.declared.quorum.Candidate.{Candidate}
use Rattle.repl_names.specs.StandbyList.{Listing}
use Rattle.repl_names.specs.Quorum.{MetByAny, MetBy, MetFor, IsGreatest, candidates, reaches}

-- a list with names is met as its method says
pub met_for : (names : List (List ℕ)) (list : Listing) (cs : List Candidate) (m : Mode) (end : ℕ) → 0 < length names
    → MetBy list.method list.number cs m end → MetFor names list cs m end
met_for [] list cs m end some h = absurd (omega arith)
met_for (name ∷ names) list cs m end some h = h

pub met_by : (names : List (List ℕ)) (list : Listing) (cs : List Candidate) (m : Mode) (end : ℕ) → 0 < length names
    → MetFor names list cs m end → MetBy list.method list.number cs m end
met_by [] list cs m end some h = absurd (omega arith)
met_by (name ∷ names) list cs m end some h = h

pub greatest_from : (list : Listing) (sessions : List Candidate) (m : Mode) (end : ℕ) → 0 < length list.names
    → MetBy list.method list.number (candidates sessions) m end
    → ((later : ℕ) → end < later → MetBy list.method list.number (candidates sessions) m later → ⊥) → IsGreatest list sessions m end
greatest_from list sessions m end some met missed = record {
  met = met_for list.names list (candidates sessions) m end some met;
  greatest = λ later h g. missed later h (met_by list.names list (candidates sessions) m later some g);
}

pub greatest_by_any : (list : Listing) (sessions : List Candidate) (m : Mode) (told : Method) (number end : ℕ) → 0 < length list.names
    → told ≡ list.method → told ≡ method.Any → number ≡ list.number
    → MetByAny number (candidates sessions) m end → ((later : ℕ) → end < later → MetByAny number (candidates sessions) m later → ⊥)
    → IsGreatest list sessions m end
greatest_by_any list sessions m told number end some is any same met missed =
    greatest_from list sessions m end some
    (subst (λ (me : Method). MetBy me list.number (candidates sessions) m end) (sym any ∙ is) (omega arith))
    (λ later h g. missed later h (let a : MetByAny list.number (candidates sessions) m later = subst
    (λ (me : Method). MetBy me list.number (candidates sessions) m later) (sym is ∙ any) g in omega arith))

-- from one meeting to another, where the list has names
pub met_for_both : (names : List (List ℕ)) (list : Listing) (cs ds : List Candidate) (m : Mode) (a b : ℕ)
    → (MetBy list.method list.number cs m a → MetBy list.method list.number ds m b) → MetFor names list cs m a → MetFor names list ds m b
met_for_both [] list cs ds m a b by h = tt
met_for_both (name ∷ names) list cs ds m a b by h = by h

-- the greatest position for `ANY` has so many, and no later one has
pub reached_by_any : (list : Listing) (sessions : List Candidate) (m : Mode) (end : ℕ) → list.method ≡ method.Any → 0 < length list.names
    → IsGreatest list sessions m end
    → (list.number ≤ count_by (reaches m end) (candidates sessions)) × ((later : ℕ) → end < later
    → count_by (reaches m later) (candidates sessions) < list.number)
reached_by_any list sessions m end any some greatest = (
  subst (λ (me : Method). MetBy me list.number (candidates sessions) m end) any
      (met_by list.names list (candidates sessions) m end some greatest.met),
  λ later h. ⊎_elim
      (λ l. l)
      (λ l. absurd (greatest.greatest later h (met_for list.names list (candidates sessions) m later some
      (subst (λ (me : Method). MetBy me list.number (candidates sessions) m later) (sym any) l))))
      (cases_lt (count_by (reaches m later) (candidates sessions)) list.number),
)
