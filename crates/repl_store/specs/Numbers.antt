-- The numbers of timelines in a list of names.
use Rattle.std.specs.Prelude.{◌≡◌, ℕ, ◌^◌, ◌<◌, ◌≤◌, ◌⊎◌, List, Contains}
use Rattle.repl_lsn.specs.Segment.{history_name}

-- the greatest of this number and of those whose history has one of the names
pub record IsGreatest (own : ℕ) (names : List (List ℕ)) (known : ℕ) : Type 0 where
  pub above : own ≤ known
  pub is : (known ≡ own) ⊎ ((known < 2 ^ 32) × Contains names (history_name known))
  pub all : (tli : ℕ) → 0 < tli → tli < 2 ^ 32 → Contains names (history_name tli) → tli ≤ known
