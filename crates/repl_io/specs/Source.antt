-- What a source tells, and what a read does to it.
use Rattle.std.specs.Prelude.{◌≡◌, ℕ, ◌<◌, ◌≤◌, List, [], length, take, Bool, true, false}
use Rattle.repl_effects.specs.Counts.{RoseExactly, RoseOnceExactly}
use Rattle.repl_effects.specs.Told.{Told, IfTold, Gained, Lost, Kept}
use Rattle.repl_io.specs.declared.source.Got.{Got}
use Rattle.repl_io.specs.declared.source.Got.TheVariants.{Bytes, Quiet, End, Failed}

-- the bytes that were given so far and those that are left, where the source tells them, and how many reads
-- answered `Failed`, `Quiet` and `End`
pub record SourceState : Type 0 where
  pub given : Told
  pub left : Told
  pub faults : ℕ
  pub quiets : ℕ
  pub ends : ℕ

-- n bytes at the front of the room are the next of the source
pub record ReadsBytes (n : ℕ) (room : List ℕ) (given given' left left' : Told) : Type 0 where
  pub some : 0 < n
  pub fits : n ≤ length room
  pub gained : Gained given given' (take n room)
  pub lost : Lost left left' (take n room)

-- nothing was read
pub record ReadsNothing (given given' left left' : Told) : Type 0 where
  pub given_stays : Kept given given'
  pub left_stays : Kept left left'

-- the room, the bytes given and the bytes left, before and after a read; the end is answered only where
-- nothing is left
abbrev pub ReadMoves : Got → List ℕ → Told → Told → Told → Told → Type 0
ReadMoves (Bytes n) room given given' left left' = ReadsBytes n room given given' left left'
ReadMoves Quiet room given given' left left' = ReadsNothing given given' left left'
ReadMoves End room given given' left left' = ReadsNothing given given' left left' × IfTold left (λ bytes. bytes ≡ [])
ReadMoves Failed room given given' left left' = ReadsNothing given given' left left'

abbrev pub is_quiet : Got → Bool
is_quiet Quiet = true
is_quiet End = false
is_quiet Failed = false
is_quiet (Bytes n) = false

abbrev pub is_end : Got → Bool
is_end End = true
is_end Quiet = false
is_end Failed = false
is_end (Bytes n) = false

abbrev pub is_failed : Got → Bool
is_failed Failed = true
is_failed Quiet = false
is_failed End = false
is_failed (Bytes n) = false

-- what a read with this answer leaves in the room, and of the source
pub record Reads (answer : Got) (room : List ℕ) (old new : SourceState) : Type 0 where
  pub moved : ReadMoves answer room old.given new.given old.left new.left
  pub faults : RoseExactly (is_failed answer) old.faults new.faults
  pub quiets : RoseExactly (is_quiet answer) old.quiets new.quiets
  pub ends : RoseExactly (is_end answer) old.ends new.ends

-- each answer was counted once
pub record CountsRead (answer : Got) (old new : SourceState) : Type 0 where
  pub faults : RoseOnceExactly (is_failed answer) old.faults new.faults
  pub quiets : RoseOnceExactly (is_quiet answer) old.quiets new.quiets
  pub ends : RoseOnceExactly (is_end answer) old.ends new.ends
