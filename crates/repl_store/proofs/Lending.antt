-- A store whose disk is lent out goes on with its files where the borrower changes only those that are none of its, for
-- whoever lends it.
use Rattle.std.proofs.Common.{◌≡◌, ℕ, ◌+◌, ◌-◌, ◌/◌, List, Some, ap, refl, take}
use Rattle.repl_disk.specs.Crash.{LeavesOnly}
use Rattle.repl_disk.specs.Folder.{Folder, content}
use Rattle.repl_disk.specs.Moments.{weakened}
use Rattle.repl_disk.specs.Runs.{told_so}
use Rattle.repl_disk.specs.State.{DiskState}
use Rattle.repl_lsn.specs.History.{Path}
use Rattle.repl_lsn.specs.Segment.{history_name}
use Rattle.repl_store.specs.Apart.{IsOneButApart, OnlyApart, SameButApart}
use Rattle.repl_store.specs.Backing.{Backs, Before, Keeps, LeavesOne, State, log}
use Rattle.repl_store.specs.Durable.{Carries, Durable, StandsFor, control_name, segment_file, segment_timeline}
use Rattle.repl_store.specs.Head.{Head}
use Rattle.repl_store.proofs.Apart.{control_is_own, history_is_own, segment_is_own}
use Rattle.repl_store.proofs.Carrying.{carries_again}
use Rattle.repl_store.proofs.Standing.{stands_by}

-- files carry what they carried
carries_apart : (size : ℕ) (path : Path) (floor : ℕ) (bytes : List ℕ) (old new : Folder) → SameButApart old new
    → Carries size old path floor bytes → Carries size new path floor bytes
carries_apart size path floor bytes old new same carries =
    carries_again size path path floor bytes old new carries (λ i lt.
    ap content (same (segment_file size path ((floor + i) / size)) (segment_is_own size (segment_timeline size path ((floor + i) / size)) ((floor + i) / size))))

-- the folder stands for what it stood for
pub stands_apart : (size : ℕ) (old new : Folder) (d : Durable) → SameButApart old new → StandsFor size old d → StandsFor size new d
stands_apart size old new d same stands =
    stands_by size d old new stands (same control_name control_is_own)
    (λ tli some small. same (history_name tli) (history_is_own tli))
    (carries_apart size d.path d.control.floor d.bytes old new same stands.carries)

module _ (old new : DiskState) (head : Head) (s : State) (only : OnlyApart old new) (backs : Backs old head s) where
  keeps_apart : (before image : Folder) → SameButApart before image → Keeps head s before → Keeps head s image
  keeps_apart before image same keeps = record {
    stands = stands_apart head.size before image s.durable same keeps.stands;
    synced = carries_apart head.size head.path head.control.floor (take (head.synced - head.control.floor) (log s)) before image same
        keeps.synced;
  }

  -- a store goes on with its files
  pub backs_on_apart : Backs new head s
  backs_on_apart =
      let after = told_so old.files backs.folder (λ folder. (after : Folder) × (new.files ≡ Some after) × SameButApart folder after)
      backs.told only.files in
      let now = told_so old.files backs.folder (λ folder. (image : Folder) → new.may_leave image → IsOneButApart old.may_leave image)
      backs.told only.now in
      record {
        folder = after.0;
        told = after.1;
        control = backs.control;
        path = backs.path;
        counted = backs.counted;
        written = backs.written;
        reads = carries_apart head.size head.path head.control.floor (log s) backs.folder after.0 after.2 backs.reads;
        images = λ image left. let one = now image left in keeps_apart one.0 image one.2 (backs.images one.0 one.1);
      }

  -- and a crash at any moment leaves what it kept
  pub moments_apart : LeavesOne old new head.size (Before s)
  moments_apart =
      weakened old new (IsOneButApart old.may_leave) (λ image. (d : Durable) × Before s d × StandsFor head.size image d)
      (told_so old.files backs.folder (λ folder. LeavesOnly old new (IsOneButApart old.may_leave)) backs.told only.moments)
      (λ image one. (s.durable, refl, (keeps_apart one.0 image one.2 (backs.images one.0 one.1)).stands))
