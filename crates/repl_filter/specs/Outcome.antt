-- What a program reads and writes, by what its source and its sink tell and count: `r` and `r'` are the source before and
-- after it, `w` and `w'` the sink.
use Rattle.std.specs.Prelude.{◌≡◌, ℕ, ◌≤◌, List, [], length, take}
use Rattle.repl_effects.specs.Told.{IfTold, Gained, Lost, Kept}
use Rattle.repl_io.specs.Source.{SourceState}
use Rattle.repl_io.specs.Sink.{SinkState, WritesFront}

-- ---- reading

-- the source has nothing left
abbrev pub IsReadOut : SourceState → Type 0
IsReadOut r = IfTold r.left (λ bytes. bytes ≡ [])

-- nothing was read
abbrev pub ReadNothing : SourceState → SourceState → Type 0
ReadNothing r r' = Kept r.left r'.left

-- the whole input was read, or its front of this length where there is more, and nothing else
abbrev pub ReadUpTo : ℕ → SourceState → SourceState → Type 0
ReadUpTo limit r r' = IfTold r.left (λ bytes. Lost r.left r'.left (take limit bytes))

-- ---- writing

-- these bytes were written, and nothing else
abbrev pub Wrote : List ℕ → SinkState → SinkState → Type 0
Wrote bytes w w' = Gained w.written w'.written bytes

abbrev pub WroteNothing : SinkState → SinkState → Type 0
WroteNothing w w' = Kept w.written w'.written

-- a front of the bytes, less than all, was written, and nothing else
abbrev pub WroteFront : List ℕ → SinkState → SinkState → Type 0
WroteFront bytes w w' = WritesFront bytes w.written w'.written

-- a front of the bytes, or all of them, was written, and nothing else
pub record WroteSome (bytes : List ℕ) (w w' : SinkState) : Type 0 where
  pub front : ℕ
  pub within : front ≤ length bytes
  pub gained : Wrote (take front bytes) w w'
