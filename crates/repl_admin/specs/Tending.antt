-- What the commands on a store do, by what the disk and the sink tell and count: `old` and `new` are the disk before and
-- after it, `w` and `w'` the sink.
use Rattle.std.specs.Prelude.{◌≡◌, ℕ, ◌%◌, ◌/◌, ◌⊎◌, List, [], Bool, true, false, Some, None, IsSome}
use Rattle.repl_control.specs.declared.control.Role.{Role}
use Rattle.repl_control.specs.declared.control.TheConstants.{VERSION_1_SIZE}
use Rattle.repl_effects.specs.Counts.{Rose, RoseExactly, Stood}
use Rattle.repl_disk.specs.Crash.{LeavesOnly}
use Rattle.repl_disk.specs.Folder.{Folder, IfTold}
use Rattle.repl_disk.specs.State.{DiskState}
use Rattle.repl_io.specs.Sink.{SinkState, WritesFront}
use Rattle.repl_io.specs.declared.sink.Sent.{Sent}
use Rattle.repl_io.specs.declared.sink.Sent.TheVariants as sent
use Rattle.repl_effects.specs.Told.{Gained, Kept}
use Rattle.repl_lsn.specs.declared.fault.HistoryFault.{HistoryFault}
use Rattle.repl_lsn.specs.declared.fault.HistoryFault.TheVariants as history
use Rattle.repl_lsn.specs.Segment.{history_name}
use Rattle.repl_node.specs.Making.{IsBeforeSlots, IsBegun, SlotsAgree}
use Rattle.repl_page.specs.declared.ident.Ident.{Ident}
use Rattle.repl_slots.specs.Stored.{Stores, slots_name}
use Rattle.repl_exit.specs.declared.damage.DamageReason.{DamageReason}
use Rattle.repl_exit.specs.declared.damage.DamageReason.TheVariants as damage
use Rattle.repl_store.specs.declared.fault.StoreFault.{StoreFault}
use Rattle.repl_store.specs.declared.fault.StoreFault.TheVariants as fault
use Rattle.repl_store.specs.declared.store.StoreStatus.{StoreStatus}
use Rattle.repl_store.specs.Backing.{OnlyReads}
use Rattle.repl_store.specs.Creating.{fresh}
use Rattle.repl_store.specs.Durable.{Durable, IsKnown, StandsFor, control_name, segment_file}
use Rattle.repl_store.specs.Refusal.{IsRefusal}
use Rattle.repl_admin.specs.declared.tended.Tended.{Tended}
use Rattle.repl_admin.specs.declared.tended.Tended.TheVariants as tended
use Rattle.repl_admin.specs.Files.{AreSettled, HasSlots, HasWrongSlots, TailFits}
use Rattle.repl_admin.specs.Lines.{ok_line, status_line}
use Rattle.repl_wal.specs.Making.{IsWrongTail}
use Rattle.repl_wal.specs.State.{identity_in}
use Rattle.repl_wal.specs.declared.fault.NodeFault.{NodeFault}
use Rattle.repl_wal.specs.declared.fault.NodeFault.TheVariants as node

-- ---- what is told of a store

-- what a store is that was just mounted
abbrev pub status_of : Durable → StoreStatus
status_of d = record {
  sysid = d.control.sysid;
  role = d.control.role;
  tli = d.control.tli;
  floor = d.control.floor;
  whole = d.control.whole;
  flushed = d.control.flushed;
  written = d.control.flushed;
  ident = record { sysid = d.control.sysid; magic = d.control.magic; size = VERSION_1_SIZE };
  prev = d.control.prev;
}

-- ---- damage: the name of a file, a place in it, and a reason

abbrev pub Damage : Type 1
Damage = List ℕ → ℕ → DamageReason → Type 0

-- the line of a fault, which is 0 where a text is too long
abbrev pub line_of : HistoryFault → ℕ
line_of (history.TooLong have) = 0
line_of (history.NotNumber line) = line
line_of (history.NotSwitch line) = line
line_of (history.NotIncreasing line) = line
line_of (history.NotBelowOwn line) = line
line_of (history.SwitchFalls line) = line
line_of history.Memory = 0

-- what is told where the files stand for no store, for this reason; that a call failed is no damage
abbrev pub IsDamageOf : StoreFault → Damage
IsDamageOf fault.Broken name place why = ⊥
IsDamageOf fault.Exists name place why = ⊥
IsDamageOf (fault.Missing file) name place why = (name ≡ file) × (place ≡ 0) × (why ≡ damage.Missing)
IsDamageOf (fault.BadControl at) name place why = (name ≡ control_name) × (place ≡ at) × (why ≡ damage.Control)
IsDamageOf (fault.BadHistory tli wrong) name place why = (name ≡ history_name tli) × (place ≡ line_of wrong) × (why ≡ damage.History wrong)
IsDamageOf (fault.ShortFile file have wanted) name place why = (name ≡ file) × (place ≡ have) × (why ≡ damage.Short)
IsDamageOf fault.DiskFault name place why = ⊥
IsDamageOf fault.Memory name place why = ⊥

-- The files stand for no store, or for one whose slots are wrong, and this is the first that is wrong, in the order control,
-- slots, history, segments.
abbrev pub IsDamaged : Folder → Damage
IsDamaged folder name place why = (HasWrongSlots folder place × (name ≡ slots_name) × (why ≡ damage.Slots))
    ⊎ ((e : StoreFault) × (IsBeforeSlots e ⊎ HasSlots folder) × IsRefusal VERSION_1_SIZE folder e × IsDamageOf e name place why)

-- what is told where this is wrong past the whole end: that end in the control, or the record or page
abbrev pub IsDamagePast : Durable → NodeFault → Damage
IsDamagePast d (node.BadControl at) name place why = (name ≡ control_name) × (place ≡ at) × (why ≡ damage.Control)
IsDamagePast d (node.Damaged at reason) name place why = (name ≡ segment_file VERSION_1_SIZE d.path (at / VERSION_1_SIZE))
    × (place ≡ at % VERSION_1_SIZE) × (why ≡ damage.Bad reason)
IsDamagePast d e name place why = ⊥

abbrev pub HasWrongTail : Durable → Damage
HasWrongTail d name place why = (e : NodeFault) × IsWrongTail VERSION_1_SIZE d e × IsDamagePast d e name place why

-- That; or they stand for a store and for slots, and what is flushed past the whole end is wrong. What stands there is known
-- where a crash would leave what the disk has.
abbrev pub IsDamagedNode : DiskState → Folder → Damage
IsDamagedNode disk folder name place why = IsDamaged folder name place why
    ⊎ ((d : Durable) × StandsFor VERSION_1_SIZE folder d × HasSlots folder × (AreSettled disk folder → HasWrongTail d name place why))

-- ---- writing

abbrev pub Wrote : List ℕ → SinkState → SinkState → Type 0
Wrote text w w' = Gained w.written w'.written text

abbrev pub WroteFront : List ℕ → SinkState → SinkState → Type 0
WroteFront text w w' = WritesFront text w.written w'.written

abbrev pub WroteNothing : SinkState → SinkState → Type 0
WroteNothing w w' = Kept w.written w'.written

-- how a command ends where the writing of its lines ended so
abbrev pub sent_end : Sent → Tended
sent_end sent.All = tended.Done
sent_end sent.Failed = tended.WriteFault
sent_end sent.Memory = tended.Memory

abbrev pub is_write_fault : Tended → Bool
is_write_fault tended.WriteFault = true
is_write_fault tended.Done = false
is_write_fault (tended.Damaged name place why) = false
is_write_fault tended.Exists = false
is_write_fault tended.DiskFault = false
is_write_fault tended.Memory = false

-- How a command ends that writes the text `text x` for some x that `Is`. Where it is damaged, where the disk `Failed`, or where
-- memory runs out before the writing, nothing is written.
abbrev pub Ends : {X : Type 0} → (X → Type 0) → (X → List ℕ) → Type 0 → Damage → Type 0 → Tended → SinkState → SinkState → Type 0
Ends {X} Is text IsThere Bad Failed tended.Done w w' = (x : X) × Is x × Wrote (text x) w w'
Ends {X} Is text IsThere Bad Failed (tended.Damaged name place why) w w' = Bad name place why × WroteNothing w w'
Ends {X} Is text IsThere Bad Failed tended.Exists w w' = IsThere × WroteNothing w w'
Ends {X} Is text IsThere Bad Failed tended.DiskFault w w' = Failed × WroteNothing w w'
Ends {X} Is text IsThere Bad Failed tended.WriteFault w w' = Rose w.faults w'.faults × ((x : X) × Is x × WroteFront (text x) w w')
Ends {X} Is text IsThere Bad Failed tended.Memory w w' = WroteNothing w w' ⊎ (Rose w.wants w'.wants × ((x : X) × Is x × WroteFront (text x) w w'))

-- What holds over every disk: faults are told where an object counted one. A disk that does not tell its files may count a lack
-- in place of a fault.
pub record TellsFaults (end : Tended) (old new : DiskState) (w w' : SinkState) : Type 0 where
  pub disk : end ≡ tended.DiskFault → Rose old.faults new.faults ⊎ Rose old.lacks new.lacks
  pub calm : (end ≡ tended.DiskFault) ⊎ Stood old.faults new.faults
  pub sink : RoseExactly (is_write_fault end) w.faults w'.faults

-- no object was faulty
abbrev pub IsCalm : DiskState → DiskState → SinkState → SinkState → Type 0
IsCalm old new w w' = ¬ Rose old.faults new.faults × ¬ Rose w.faults w'.faults

abbrev pub IsDone : Tended → Type 0
IsDone end = (end ≡ tended.Done) ⊎ (end ≡ tended.Memory)

-- ---- the commands

-- The files stand for this store and for slots, and what is flushed past the whole end is right, which is known where a crash
-- would leave what the disk has.
pub record IsNode (disk : DiskState) (folder : Folder) (d : Durable) : Type 0 where
  pub stands : StandsFor VERSION_1_SIZE folder d
  pub slots : HasSlots folder
  pub tail : AreSettled disk folder → TailFits d

abbrev pub node_line : Durable → List ℕ
node_line d = status_line (identity_in (status_of d))

-- What `status` does: it prints the line of the node that the files stand for, or tells the first that is wrong. That a failure
-- of the disk was counted is known where a crash would leave what the disk has.
pub record Stated (end : Tended) (old new : DiskState) (w w' : SinkState) : Type 0 where
  pub ends : IfTold old.files (λ folder. Ends (IsNode old folder) node_line ⊥ (IsDamagedNode old folder)
      (AreSettled old folder → Rose old.faults new.faults) end w w')
  pub only : OnlyReads old new
  pub faults : TellsFaults end old new w w'
  -- Unless an object is faulty or memory runs out, a node is told,
  pub complete : (folder : Folder) (d : Durable) → old.files ≡ Some folder → AreSettled old folder → IsNode old folder d → IsCalm old new w w'
      → IsDone end
  -- and so are wrong slots.
  pub slots : (folder : Folder) (place : ℕ) → old.files ≡ Some folder → HasWrongSlots folder place → IsCalm old new w w'
      → (end ≡ tended.Damaged slots_name place damage.Slots) ⊎ (end ≡ tended.Memory)

-- There was no store, and every image is the new one. It has no slots: so does every image, where the disk read as if it had
-- none and a crash left none, and where each image from before has heard of the same timelines.
pub record IsNew (role : Role) (ident : Ident) (folder : Folder) (old new : DiskState) (u : Unit {0}) : Type 0 where
  pub none : folder control_name ≡ None
  pub images : (image : Folder) → new.may_leave image → (known : ℕ) × StandsFor VERSION_1_SIZE image (fresh role ident known)
  pub slots : (known : ℕ) → SlotsAgree old → ((image : Folder) → old.may_leave image → IsKnown image 1 known)
      → (image : Folder) → new.may_leave image → Stores [] image

-- What `init` does: it makes a node, unless a store is there.
pub record Initiated (role : Role) (ident : Ident) (end : Tended) (old new : DiskState) (w w' : SinkState) : Type 0 where
  pub ends : IfTold old.files (λ folder. Ends (IsNew role ident folder old new) (λ _. ok_line) (IsSome (folder control_name)) (λ name place why. ⊥)
      (Rose old.faults new.faults) end w w')
  -- A crash leaves what one before might have left, but for its slots, or the new store.
  pub moments : IfTold old.files (λ folder. LeavesOnly old new (IsBegun old.may_leave role ident))
  pub faults : TellsFaults end old new w w'
  -- Unless an object is faulty or memory runs out, a store is made where none is, and else that is told.
  pub complete : (folder : Folder) → old.files ≡ Some folder → folder control_name ≡ None → IsCalm old new w w' → IsDone end
  pub there : (folder : Folder) → old.files ≡ Some folder → IsSome (folder control_name) → IsCalm old new w w'
      → (end ≡ tended.Exists) ⊎ (end ≡ tended.Memory)
