-- When a standby list is met (PostgreSQL 17 manual, section "Synchronous Replication", and
-- `synchronous_standby_names`): how many of the standbys that it names have reached a position.
use Rattle.std.specs.Prelude.{
  ◌≡◌,
  ℕ,
  ◌<◌,
  ◌≤◌,
  ◌≢◌,
  Bool,
  true,
  ◌&&◌,
  ◌||◌,
  nat_lt,
  ◌==◌,
  not,
  List,
  [],
  ◌∷◌,
  length,
  take,
  filter,
  count_by,
  All,
  Option,
  Some,
  None,
  IsPermutation,
  Contains,
  ◌⊎◌,
}
use Rattle.repl_names.specs.declared.list.Method.{Method}
use Rattle.repl_names.specs.declared.list.Method.TheVariants as method
use Rattle.repl_names.specs.declared.quorum.Mode.{Mode}
use Rattle.repl_names.specs.declared.quorum.Mode.TheVariants as mode
use Rattle.repl_names.specs.declared.quorum.Candidate.{Candidate}
use Rattle.repl_names.specs.StandbyList.{Listing}

-- the position that counts in this mode
abbrev pub position : Mode → Candidate → ℕ
position mode.Write c = c.written
position mode.Flush c = c.flushed
position mode.Apply c = c.applied

-- it is on the list, and has said what it flushed
abbrev pub counts : Candidate → Bool
counts c = nat_lt 0 c.priority && nat_lt 0 c.flushed

abbrev pub candidates : List Candidate → List Candidate
candidates sessions = filter counts sessions

-- it has the position or a later one
abbrev pub reaches : Mode → ℕ → Candidate → Bool
reaches m end c = not (nat_lt (position m c) end)

-- it has the better priority, or the same one and the older connection
abbrev pub goes_before : Candidate → Candidate → Bool
goes_before c d = nat_lt c.priority d.priority || (c.priority == d.priority && nat_lt c.session d.session)

-- so many go before it
abbrev pub rank : List Candidate → Candidate → ℕ
rank cs c = count_by (λ d. goes_before d c) cs

-- `ANY n`: so many have the position
abbrev pub MetByAny : ℕ → List Candidate → Mode → ℕ → Type 0
MetByAny number cs m end = number ≤ count_by (reaches m end) cs

-- `FIRST n`: there are so many, and those of best priority have the position
pub record MetByFirst (number : ℕ) (cs : List Candidate) (m : Mode) (end : ℕ) : Type 0 where
  pub enough : number ≤ length cs
  pub first : All (λ c. rank cs c < number → end ≤ position m c) cs

abbrev pub MetBy : Method → ℕ → List Candidate → Mode → ℕ → Type 0
MetBy method.Any number cs m end = MetByAny number cs m end
MetBy method.First number cs m end = MetByFirst number cs m end

-- the list without names is met by nobody's report
abbrev pub MetFor : List (List ℕ) → Listing → List Candidate → Mode → ℕ → Type 0
MetFor [] list cs m end = Unit {0}
MetFor names list cs m end = MetBy list.method list.number cs m end

-- these sessions have reached the position as the list demands
abbrev pub Met : Listing → List Candidate → Mode → ℕ → Type 0
Met list sessions m end = MetFor list.names list (candidates sessions) m end

-- the position is the greatest at which the list is met
pub record IsGreatest (list : Listing) (sessions : List Candidate) (m : Mode) (end : ℕ) : Type 0 where
  pub met : Met list sessions m end
  pub greatest : (later : ℕ) → end < later → ¬ Met list sessions m later

-- the greatest position, or none where the candidates are too few
abbrev pub IsReleased : Listing → List Candidate → Mode → Option ℕ → Type 0
IsReleased list sessions m (Some end) = IsGreatest list sessions m end
IsReleased list sessions m None = length (candidates sessions) < list.number

-- ---- those that count

-- each goes before those after it
abbrev pub InOrder : List Candidate → Type 0
InOrder [] = Unit {0}
InOrder (c ∷ cs) = All (λ d. goes_before c d ≡ true) cs × InOrder cs

-- those among which the first are taken: for ANY the ones that have the position
abbrev pub eligible : Method → List Candidate → Mode → ℕ → List Candidate
eligible method.Any cs m end = filter (reaches m end) cs
eligible method.First cs m end = cs

abbrev pub CountedFor : List (List ℕ) → Listing → List Candidate → Mode → ℕ → List Candidate → Type 0
CountedFor [] list cs m end counted = counted ≡ []
CountedFor names list cs m end counted = (order : List Candidate) × IsPermutation (eligible list.method cs m end) order × InOrder order
    × (counted ≡ take list.number order)

-- those by which the list is met: for FIRST the ones of best priority, for ANY the first, in order of priority
-- and connection, that have the position; so many as the list demands
abbrev pub Counted : Listing → List Candidate → Mode → ℕ → List Candidate → Type 0
Counted list sessions m end counted = CountedFor list.names list (candidates sessions) m end counted

-- they are different sessions
abbrev pub Differ : List Candidate → Type 0
Differ [] = Unit {0}
Differ (c ∷ cs) = All (λ d. d.session ≢ c.session) cs × Differ cs

-- a session after it has moved forward: it has its priority, and no position is less
pub record Forward (old new : Candidate) : Type 0 where
  pub session : new.session ≡ old.session
  pub priority : new.priority ≡ old.priority
  pub written : old.written ≤ new.written
  pub flushed : old.flushed ≤ new.flushed
  pub applied : old.applied ≤ new.applied

-- each of the first list is one of the second, where it has moved forward
abbrev pub Continue : List Candidate → List Candidate → Type 0
Continue old new = All (λ c. (d : Candidate) × Contains new d × Forward c d) old

-- of the first n of the second list each was in the first one, or has the position
abbrev pub NoneLags : ℕ → List Candidate → List Candidate → Mode → ℕ → Type 0
NoneLags number old new m end = All (λ d. rank new d < number → ((c : Candidate) × Contains old c × Forward c d)
    ⊎ (end ≤ position m d)) new
