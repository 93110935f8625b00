-- A language is a set of lists: of bytes for a format, of words for a command line. What a reader says of
-- a list that is not in the language is where it went wrong.
use Rattle.std.specs.Prelude.{ℕ, ◌+◌, ◌<◌, ◌≤◌, List, ◌++◌, length, take}

-- some list of the language begins so
abbrev pub Begins : {A : Type 0} → (List A → Type 0) → List A → Type 0
Begins {A} L front = (more : List A) × L (front ++ more)

-- The list is not in the language, and place is that of the first element with which none goes on, or the
-- list's length where one goes on with all of it. There is one such place at most.
pub record StopsAt {A : Type 0} (L : List A → Type 0) (list : List A) (place : ℕ) : Type 0 where
  pub within : place ≤ length list
  pub refused : ¬ L list
  pub goes_on : Begins L (take place list)
  pub stops : place < length list → ¬ Begins L (take (place + 1) list)
