-- What is flushed past the whole end: where the log is one, it is right, and then no damage of it can be told.
use Rattle.std.proofs.Common.{◌≡◌, ◌-◌, ℕ, List, take, drop, ◌∙◌, ap, subst, arith}
use Rattle.std.proofs.lemmas.List.{append-nil, length-drop, take_all}
use Rattle.repl_control.specs.declared.control.TheConstants.{VERSION_1_SIZE}
use Rattle.repl_disk.specs.Folder.{Folder}
use Rattle.repl_walk.proofs.Faults.{fault_refutes}
use Rattle.repl_lsn.specs.Path.{timeline_at}
use Rattle.repl_lsn.specs.Segment.{IsSegSize}
use Rattle.repl_record.specs.Log.{IsPrefixOfRecords, IsWholeEnd}
use Rattle.repl_store.specs.Durable.{Durable, StandsFor}
use Rattle.repl_admin.specs.Files.{TailFits}
use Rattle.repl_wal.specs.Making.{IsWrongTail, flushed_tail, ident_in, mounted_log}
use Rattle.repl_wal.specs.State.{IsLog, tail_of}
use Rattle.repl_wal.specs.declared.fault.NodeFault.{NodeFault}
use Rattle.repl_wal.specs.declared.fault.NodeFault.TheVariants as node

size_is : IsSegSize VERSION_1_SIZE
size_is = record { exponent = 24; power = omega arith; least = omega arith; most = omega arith }

-- a log that was mounted has just what is flushed
tail_same : (d : Durable) → tail_of (mounted_log VERSION_1_SIZE d) ≡ flushed_tail d
tail_same d = ap (drop (d.control.whole - d.control.floor)) (append-nil d.bytes)

pub tail_fits : (d : Durable) → IsLog (mounted_log VERSION_1_SIZE d) → TailFits d
tail_fits d log =
    let Ends : List ℕ → Type 0 = λ tail. IsWholeEnd (ident_in VERSION_1_SIZE d) (timeline_at d.path) d.control.whole d.control.prev tail
    d.control.whole d.control.prev in
    let Begins : List ℕ → Type 0 = λ tail. IsPrefixOfRecords (ident_in VERSION_1_SIZE d) (timeline_at d.path) d.control.whole d.control.prev
    tail in
    let all = take_all (d.control.flushed - d.control.whole) (flushed_tail d)
    (omega (arith, log.counted, length-drop (d.control.whole - d.control.floor) d.bytes)) in
    record {
      none = subst Ends (ap (take (d.control.flushed - d.control.whole)) (tail_same d) ∙ all) log.unended;
      begins = subst Begins (tail_same d) log.records;
    }

pub tail_right : (folder : Folder) (d : Durable) → StandsFor VERSION_1_SIZE folder d → TailFits d → (e : NodeFault)
    → IsWrongTail VERSION_1_SIZE d e → ⊥
tail_right folder d stands fits (node.BadControl place) wrong = omega (arith, fits.none.greatest wrong.1.0 wrong.1.1 wrong.1.3, wrong.1.2)
tail_right folder d stands fits (node.Damaged at why) wrong =
    fault_refutes (ident_in VERSION_1_SIZE d) (timeline_at d.path) d.control.whole d.control.prev (flushed_tail d) d.control.whole
    d.control.prev at why size_is stands.right.whole.0 wrong fits.begins
tail_right folder d stands fits e wrong = wrong
