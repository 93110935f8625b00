-- What the adapters of std's readers and writers do to the bytes that those tell.
use Rattle.std.specs.Prelude.{◌≡◌, ℕ, List, take, None}
use Rattle.std.specs.Io.KnownBytes.{Appends, Consumes, IsAtEnd, Keeps}
use Rattle.repl_effects.specs.Told.{Told}
use Rattle.repl_io.specs.declared.source.Got.{Got}
use Rattle.repl_io.specs.declared.source.Got.TheVariants as got
use Rattle.repl_io.specs.declared.sink.Put.{Put}
use Rattle.repl_io.specs.declared.sink.Put.TheVariants as put
use Rattle.repl_io.specs.Source.{SourceState}
use Rattle.repl_io.specs.Sink.{SinkState}
use Rattle.repl_io.specs.declared.std_stream.StdSource.{StdSource}
use Rattle.repl_io.specs.declared.std_stream.StdSink.{StdSink}

-- a source of std tells no bytes, and counts
abbrev pub source_of : {R : Type 0} → StdSource R → SourceState
source_of source = record { given = None; left = None; faults = source.faults; quiets = source.quiets; ends = source.ends }

-- a sink of std tells no bytes, and counts
abbrev pub sink_of : {W : Type 0} → StdSink W → SinkState
sink_of sink = record { written = None; faults = sink.faults; wants = sink.wants }

-- the bytes that the reader has left, where it tells them
abbrev pub reader_left : {R : Type 0} → (R → Told) → StdSource R → Told
reader_left remaining source = remaining source.reader

-- the bytes that the writer holds, where it tells them
abbrev pub writer_holds : {W : Type 0} → (W → Told) → StdSink W → Told
writer_holds contents sink = contents sink.writer

-- what a read does to the reader's bytes, where it told them: it takes those that it gives off the front,
-- and answers the end only where none is left
abbrev pub TakesTold : Got → List ℕ → Told → Told → Type 0
TakesTold (got.Bytes n) room before now = Consumes before now (take n room)
TakesTold got.Quiet room before now = Keeps before now
TakesTold got.End room before now = Keeps before now × IsAtEnd before
TakesTold got.Failed room before now = Keeps before now

-- what a write does to the writer's bytes, where it told them: it adds those that it took at the end
abbrev pub AddsTold : Put → List ℕ → Told → Told → Type 0
AddsTold (put.Wrote n) piece before now = Appends before now (take n piece)
AddsTold put.Failed piece before now = Keeps before now
AddsTold put.Memory piece before now = Keeps before now

-- a source over this reader, from which nothing was read yet
pub record IsUnread {R : Type 0} (reader : R) (source : StdSource R) : Type 0 where
  pub reader_is : source.reader ≡ reader
  pub faults : source.faults ≡ 0
  pub quiets : source.quiets ≡ 0
  pub ends : source.ends ≡ 0

-- a sink over this writer, to which nothing was written yet
pub record IsUnwritten {W : Type 0} (writer : W) (sink : StdSink W) : Type 0 where
  pub writer_is : sink.writer ≡ writer
  pub faults : sink.faults ≡ 0
  pub wants : sink.wants ≡ 0
