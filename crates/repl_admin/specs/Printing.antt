-- How the writing of lines ends.
use Rattle.std.specs.Prelude.{◌≡◌, ℕ, ◌⊎◌, List}
use Rattle.repl_io.specs.Sink.{SinkState, Sends}
use Rattle.repl_io.specs.declared.sink.Sent.{Sent}
use Rattle.repl_admin.specs.declared.tended.Tended.{Tended}
use Rattle.repl_admin.specs.declared.tended.Tended.TheVariants as tended
use Rattle.repl_admin.specs.Tending.{sent_end}

-- the text was written, as far as the sink went along, or there was no memory to make it
abbrev pub IsPrinted : List ℕ → Tended → SinkState → SinkState → Type 0
IsPrinted text end w w' = ((sent : Sent) × (end ≡ sent_end sent) × Sends sent text w w') ⊎ ((end ≡ tended.Memory) × (w' ≡ w))
