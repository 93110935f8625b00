-- Reading the log (PostgreSQL 17 manual, section "Streaming Replication Protocol", START_REPLICATION): the bytes of a timeline
-- of the path and of those before it, up to where that timeline was left, or to the flushed end of the own one.
use Rattle.std.specs.Prelude.{◌≡◌, ℕ, ◌+◌, ◌-◌, ◌<◌, ◌≤◌, ◌⊎◌, true, List, length, take, drop, Option, Some, None, nat_le, nat_lt, if◌then◌else◌, Result}
use Rattle.repl_lsn.specs.History.{Path}
use Rattle.repl_lsn.specs.Path.{EndsAt, HasTimeline, IsNext}
use Rattle.repl_page.specs.Page.{page_start}
use Rattle.repl_store.specs.Backing.{log}
use Rattle.repl_wal.specs.State.{LogState, floor_of, flushed_end, path_of}
use Rattle.repl_wal.specs.Steps.{Only, Step}
use Rattle.repl_wal.specs.declared.fault.NodeFault.{NodeFault}
use Rattle.repl_wal.specs.declared.fault.NodeFault.TheVariants as fault
use Rattle.repl_wal.specs.declared.read.ReadOut.{ReadOut}
use Rattle.repl_wal.specs.declared.read.ReadOut.TheVariants as out
use Rattle.repl_wal.specs.declared.read.Range.{Range}
use Rattle.repl_wal.specs.declared.read.Range.TheVariants as range

-- what can be read of the timeline ends here
abbrev pub ReadsTo : LogState → ℕ → ℕ → Type 0
ReadsTo n tli end = ((tli ≡ (path_of n).own) × (end ≡ flushed_end n)) ⊎ EndsAt (path_of n) tli end

abbrev pub IsReadRefusal : LogState → ℕ → ℕ → NodeFault → Type 0
IsReadRefusal n tli at (fault.NotInHistory other) = (other ≡ tli) × ¬ HasTimeline (path_of n) tli
IsReadRefusal n tli at (fault.AfterSwitch next switch) = EndsAt (path_of n) tli switch × IsNext (path_of n) tli next × (switch < at)
IsReadRefusal n tli at (fault.Ahead flushed) = (tli ≡ (path_of n).own) × (flushed ≡ flushed_end n) × (flushed < at)
IsReadRefusal n tli at (fault.Removed floor) = ((end : ℕ) × ReadsTo n tli end × (at ≤ end)) × (floor ≡ floor_of n) × (at < floor)
IsReadRefusal n tli at e = ⊥

abbrev pub CanRead : LogState → ℕ → ℕ → Type 0
CanRead n tli at = ((end : ℕ) × ReadsTo n tli end × (at ≤ end)) × (floor_of n ≤ at)

-- How many bytes are read from a position on into so much room, where they end there: all, or those up to the last page's
-- start in the room, or as many as there is room for where no page starts in it.
abbrev pub read_count : ℕ → ℕ → ℕ → ℕ
read_count at end room = if nat_le end (at + room) then end - at else (if nat_lt at (page_start (at + room)) then page_start (at + room) - at
    else room)

abbrev pub IsRead : LogState → ℕ → ℕ → List ℕ → List ℕ → ReadOut → Type 0
IsRead n tli at before after (out.Bytes count) = ((end : ℕ) × ReadsTo n tli end × (at < end) × (count ≡ read_count at end (length before)))
    × (n.told ≡ true → take count after ≡ take count (drop (at - floor_of n) (log n.kept)))
IsRead n tli at before after out.AtEnd = (tli ≡ (path_of n).own) × (at ≡ flushed_end n)
IsRead n tli at before after (out.Ended next switch) = EndsAt (path_of n) tli switch × IsNext (path_of n) tli next × (at ≡ switch)

abbrev pub Reads : LogState → ℕ → ℕ → List ℕ → List ℕ → Result ReadOut NodeFault → LogState → Type 0
Reads n tli at before after result m = Step (IsReadRefusal n tli at) (CanRead n tli at) (λ read m. IsRead n tli at before after read × (m ≡ n))
    (Only n) n result m

-- what can be read of the timeline ends here, and it was left for that one, or it is the own one. Private clauses cite this.
abbrev pub IsEnd : Path → ℕ → ℕ → ℕ → Option ℕ → Type 0
IsEnd path flushed tli end (Some next) = EndsAt path tli end × IsNext path tli next
IsEnd path flushed tli end None = (tli ≡ path.own) × (end ≡ flushed)

-- what there is to read, before it is read. Private clauses cite this.
abbrev pub IsRange : LogState → ℕ → ℕ → Range → Type 0
IsRange n tli at (range.UpTo end) = ReadsTo n tli end × (at < end) × (floor_of n ≤ at)
IsRange n tli at (range.Nothing (out.Bytes count)) = ⊥
IsRange n tli at (range.Nothing out.AtEnd) = (tli ≡ (path_of n).own) × (at ≡ flushed_end n)
IsRange n tli at (range.Nothing (out.Ended next switch)) = EndsAt (path_of n) tli switch × IsNext (path_of n) tli next × (at ≡ switch)
