-- Which timeline of a path holds which positions, and how paths stand to each other.
use Rattle.std.specs.Prelude.{◌≡◌, ℕ, ◌<◌, ◌≤◌, ◌⊎◌, List, [], ◌∷◌, ◌++◌, length, map, take, drop, Option, Some, None, nat_lt, if◌then◌else◌}
use Rattle.repl_lsn.specs.declared.history.Part.{Part}
use Rattle.repl_lsn.specs.declared.relation.Relation.{Relation}
use Rattle.repl_lsn.specs.declared.relation.Relation.TheVariants as relation
use Rattle.repl_lsn.specs.History.{Path}

-- ---- positions

-- The timeline holds the positions from start on and below end, or from start on where it has no end. Each timeline
-- starts where the one before it ends, and the first at this start.
abbrev pub Holds : ℕ → List Part → ℕ → ℕ → ℕ → Option ℕ → Type 0
Holds origin [] own tli start end = (tli ≡ own) × (start ≡ origin) × (end ≡ None)
Holds origin (p ∷ ps) own tli start end = ((tli ≡ p.tli) × (start ≡ origin) × (end ≡ Some p.switch)) ⊎ Holds p.switch ps own tli start end

abbrev pub IsBelow : ℕ → Option ℕ → Type 0
IsBelow at None = Unit {0}
IsBelow at (Some end) = at < end

-- the position is on this timeline of the path
pub record IsOn (path : Path) (tli at : ℕ) : Type 0 where
  pub start : ℕ
  pub end : Option ℕ
  pub holds : Holds 0 path.parents path.own tli start end
  pub from : start ≤ at
  pub below : IsBelow at end

-- a timeline of the path, and where it ends: a parent at its switch point, and the own one nowhere
abbrev pub EndsAt : Path → ℕ → ℕ → Type 0
EndsAt path tli end = (before : List Part) × (p : Part) × (after : List Part) × (path.parents ≡ before ++ p ∷ after) × (p.tli ≡ tli)
    × (p.switch ≡ end)

-- where a timeline ends, or none where it is no parent
abbrev pub IsEndOf : Path → ℕ → Option ℕ → Type 0
IsEndOf path tli (Some end) = EndsAt path tli end
IsEndOf path tli None = (end : ℕ) → ¬ EndsAt path tli end

-- the timeline that holds a position, as a function: the first parent that ends after it, or the own one
abbrev pub holder : ℕ → List Part → ℕ → ℕ
holder own [] at = own
holder own (p ∷ ps) at = if nat_lt at p.switch then p.tli else holder own ps at

abbrev pub timeline_at : Path → ℕ → ℕ
timeline_at path at = holder path.own path.parents at

-- ---- a timeline among those of a path

-- so many parents stand before this one
abbrev pub StandsPast : Path → ℕ → ℕ → Type 0
StandsPast path tli count =
    (before : List Part) × (p : Part) × (after : List Part) × (path.parents ≡ before ++ p ∷ after) × (p.tli ≡ tli) × (length before ≡ count)

-- the own timeline, or one that was left
abbrev pub HasTimeline : Path → ℕ → Type 0
HasTimeline path tli = (tli ≡ path.own) ⊎ ((end : ℕ) × EndsAt path tli end)

-- the history of one of these: the path up to it
pub record IsUpTo (path : Path) (tli : ℕ) (history : Path) : Type 0 where
  pub own : history.own ≡ tli
  pub begins : (history ≡ path) ⊎ ((p : Part) × (after : List Part) × (path.parents ≡ history.parents ++ p ∷ after) × (p.tli ≡ tli))

-- the first of these, or the own one where there is none
abbrev pub first_of : ℕ → List Part → ℕ
first_of own [] = own
first_of own (p ∷ ps) = p.tli

-- the timeline after one that was left
abbrev pub IsNext : Path → ℕ → ℕ → Type 0
IsNext path tli next =
    (before : List Part) × (p : Part) × (after : List Part) × (path.parents ≡ before ++ p ∷ after) × (p.tli ≡ tli)
    × (next ≡ first_of path.own after)

abbrev pub IsNextOf : Path → ℕ → Option ℕ → Type 0
IsNextOf path tli (Some next) = IsNext path tli next
IsNextOf path tli None = (next : ℕ) → ¬ IsNext path tli next

-- ---- relations

-- a parent without its reason
pub record Step : Type 0 where
  pub tli : ℕ
  pub switch : ℕ

abbrev pub step : Part → Step
step p = record { tli = p.tli; switch = p.switch }

abbrev pub steps : Path → List Step
steps path = map step path.parents

abbrev pub IsSame : Path → Path → Type 0
IsSame a b = (a.own ≡ b.own) × (steps a ≡ steps b)

-- the second path goes on from the first, which it left at this position
abbrev pub IsChild : Path → Path → ℕ → Type 0
IsChild a b switch = (more : List Step) × (steps b ≡ steps a ++ record { tli = a.own; switch = switch } ∷ more)

-- the first index at which the parents, or the own numbers after them, differ
pub record DifferAt (a b : Path) (at : ℕ) : Type 0 where
  pub within : (at ≤ length (steps a)) × (at ≤ length (steps b))
  pub same : take at (steps a) ≡ take at (steps b)
  pub differ : (s : Step) (rest more : List Step) → drop at (steps a) ≡ s ∷ rest → drop at (steps b) ≡ s ∷ more → ⊥

abbrev pub IsRelation : Path → Path → Relation → Type 0
IsRelation a b relation.Same = IsSame a b
IsRelation a b (relation.Child switch) = IsChild a b switch
IsRelation a b (relation.Parent switch) = IsChild b a switch
IsRelation a b (relation.Apart at) = DifferAt a b at × ¬ IsSame a b × ((switch : ℕ) → ¬ IsChild a b switch)
    × ((switch : ℕ) → ¬ IsChild b a switch)
