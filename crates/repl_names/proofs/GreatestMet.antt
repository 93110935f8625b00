-- A list is met exactly up to the greatest position.
use Rattle.std.proofs.Common.{◌↔◌, ℕ, ◌<◌, ◌≤◌, List, length, Option, Some, None, MatchOption, ⊎_elim, arith}
use Rattle.std.proofs.lemmas.Bool.{cases_lt}
use Rattle.std.proofs.lemmas.List.Sums.{count_by-le-length}
use Rattle.repl_names.specs.declared.list.Method.{Method}
use Rattle.repl_names.specs.declared.list.Method.TheVariants as method
use Rattle.repl_names.specs.declared.quorum.Mode.{Mode}
use Rattle.repl_names.specs.declared.quorum.Candidate.{Candidate}
use Rattle.repl_names.specs.StandbyList.{Listing}
use Rattle.repl_names.specs.Quorum.{Met, MetBy, IsReleased, candidates, reaches}
use Rattle.repl_names.proofs.Lists.{met_by}
use Rattle.repl_names.proofs.Progress.{stays_met_below}

-- a list is met by so many at least
met_enough : (me : Method) (number : ℕ) (cs : List Candidate) (m : Mode) (end : ℕ) → MetBy me number cs m end → number ≤ length cs
met_enough method.Any number cs m end h = omega (arith, count_by-le-length (reaches m end) cs)
met_enough method.First number cs m end h = h.enough

pub met_where_released : (list : Listing) (sessions : List Candidate) (m : Mode) (end : ℕ) (released : Option ℕ) → 0 < length list.names
    → IsReleased list sessions m released → (Met list sessions m end ↔ MatchOption released ⊥ (λ (greatest : ℕ). end ≤ greatest))
met_where_released list sessions m end None some few = (
  λ met. let enough = met_enough list.method list.number (candidates sessions) m end
      (met_by list.names list (candidates sessions) m end some met) in omega arith,
  λ none. absurd none,
)
met_where_released list sessions m end (Some greatest) some is = (
  λ met. ⊎_elim (λ later. absurd (is.greatest end later met)) (λ le. le) (cases_lt greatest end),
  λ le. stays_met_below list sessions m end greatest le is.met,
)
