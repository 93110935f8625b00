-- What a sink tells, and what a write does to it.
use Rattle.std.specs.Prelude.{◌≡◌, ℕ, ◌<◌, ◌≤◌, ⊤, List, length, take, Bool, true, false}
use Rattle.repl_effects.specs.Counts.{RoseExactly, RoseOnceExactly}
use Rattle.repl_effects.specs.Told.{Told, Gained, Kept}
use Rattle.repl_io.specs.declared.sink.Put.{Put}
use Rattle.repl_io.specs.declared.sink.Put.TheVariants as put
use Rattle.repl_io.specs.declared.sink.Sent.{Sent}
use Rattle.repl_io.specs.declared.sink.Sent.TheVariants as sent

-- the bytes that were written so far, where the sink tells them, and how many writes answered `Failed` and `Memory`
pub record SinkState : Type 0 where
  pub written : Told
  pub faults : ℕ
  pub wants : ℕ

-- n bytes at the front of the piece were written
pub record WritesBytes (n : ℕ) (piece : List ℕ) (written written' : Told) : Type 0 where
  pub some : 0 < n
  pub fits : n ≤ length piece
  pub gained : Gained written written' (take n piece)

-- the piece, and the bytes written before and after a write
abbrev pub WriteMoves : Put → List ℕ → Told → Told → Type 0
WriteMoves (put.Wrote n) piece written written' = WritesBytes n piece written written'
WriteMoves put.Failed piece written written' = Kept written written'
WriteMoves put.Memory piece written written' = Kept written written'

-- a write that succeeds writes the whole piece, as a link in memory does
abbrev pub WritesWhole : Put → List ℕ → Type 0
WritesWhole (put.Wrote n) piece = n ≡ length piece
WritesWhole put.Failed piece = ⊤
WritesWhole put.Memory piece = ⊤

abbrev pub is_failed : Put → Bool
is_failed put.Failed = true
is_failed put.Memory = false
is_failed (put.Wrote n) = false

abbrev pub is_memory : Put → Bool
is_memory put.Memory = true
is_memory put.Failed = false
is_memory (put.Wrote n) = false

-- what a write of this piece with this answer leaves of the sink
pub record Writes (answer : Put) (piece : List ℕ) (old new : SinkState) : Type 0 where
  pub moved : WriteMoves answer piece old.written new.written
  pub faults : RoseExactly (is_failed answer) old.faults new.faults
  pub wants : RoseExactly (is_memory answer) old.wants new.wants

-- each answer was counted once
pub record CountsWrite (answer : Put) (old new : SinkState) : Type 0 where
  pub faults : RoseOnceExactly (is_failed answer) old.faults new.faults
  pub wants : RoseOnceExactly (is_memory answer) old.wants new.wants

-- ---- the writing of many bytes

-- a front of the bytes, less than all, was written
pub record WritesFront (bytes : List ℕ) (written written' : Told) : Type 0 where
  pub front : ℕ
  pub short : front < length bytes
  pub gained : Gained written written' (take front bytes)

-- the bytes, and the bytes written before and after the writing of all of them
abbrev pub SendMoves : Sent → List ℕ → Told → Told → Type 0
SendMoves sent.All bytes written written' = Gained written written' bytes
SendMoves sent.Failed bytes written written' = WritesFront bytes written written'
SendMoves sent.Memory bytes written written' = WritesFront bytes written written'

abbrev pub has_failed : Sent → Bool
has_failed sent.Failed = true
has_failed sent.All = false
has_failed sent.Memory = false

abbrev pub wants_memory : Sent → Bool
wants_memory sent.Memory = true
wants_memory sent.All = false
wants_memory sent.Failed = false

-- what the writing of all these bytes leaves of the sink
pub record Sends (answer : Sent) (bytes : List ℕ) (old new : SinkState) : Type 0 where
  pub moved : SendMoves answer bytes old.written new.written
  pub faults : RoseExactly (has_failed answer) old.faults new.faults
  pub wants : RoseExactly (wants_memory answer) old.wants new.wants
