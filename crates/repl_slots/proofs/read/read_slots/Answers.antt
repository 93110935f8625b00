-- One slot more is read, or the file goes wrong there.
use Rattle.std.proofs.Common.{◌+◌, ◌++◌, ◌∷◌, [], ◌≤◌, List, sym, subst, ◌∙◌, ap, arith}
use Rattle.std.proofs.lemmas.Result.{err_from_is_err_and}
use Rattle.repl_slots.specs.SlotFile.{EntryStops, FileStops, IsAt}
use Rattle.repl_slots.specs.Slot.{IsNew, names_of}
use Rattle.repl_slots.specs.declared.slot.Slot.{Slot}
use Rattle.repl_slots.specs.declared.slot.TheConstants.{SLOT_LIMIT}
use Rattle.repl_slots.proofs.Reading.{SoFar, at_weaker, more, stops_past, stops_in_slot}
use Rattle.repl_slots.proofs.read.read_slots.Goals as goal

pub returns-in_err-slot-clause-refused : goal.returns-in_err-slot-clause-refused
returns-in_err-slot-clause-refused c =
    let p = err_from_is_err_and c.from_residual-in_err-slot.result c.from_residual-in_err-slot.ensures.1 in
    let file = c.args.file.now in
    let at = c.loop.at in
    let few : c.in_ok-count.count ≤ SLOT_LIMIT = omega (arith, c.in_ok-count.ensures.read.0) in
    let stops = subst (λ (l : List Slot). IsAt (EntryStops (names_of l) at file) c.in_err-slot.field-0.0) c.deref.ensures.value
    c.in_err-slot.ensures.refused in
    rw (p.1, p.2) (at_weaker (EntryStops (names_of c.loop.slots.items) at file) (FileStops file) (λ place here.
    stops_in_slot file c.in_ok-count.count c.loop.slots.items at c.loop.counter c.loop.invariant few place (omega arith) here)
    c.in_err-slot.field-0.0 stops)

pub loop-preserved : goal.loop-preserved
loop-preserved c =
    let file = c.args.file.now in
    let count = c.in_ok-count.count in
    let slots = c.loop.slots.items in
    let slot = c.in_ok-slot.slot in
    let end = c.in_ok-slot.end in
    let few : count ≤ SLOT_LIMIT = omega (arith, c.in_ok-count.ensures.read.0) in
    let read = c.in_ok-slot.ensures in
    let new = subst (λ (l : List Slot). IsNew (names_of l) slot.name) c.deref.ensures.value read.right.1 in
    let pushed = c.push_reserved.ensures.items ∙ ap (λ (l : List Slot). l ++ slot ∷ []) c.in_ok-reserve.ensures.items in
    subst (λ (l : List Slot). SoFar file count l end (c.loop.counter + 1)) (sym pushed)
    (more file count slots c.loop.at c.loop.counter c.loop.invariant slot end read.mounted read.right.0 new read.spelled read.end.0
    read.end.1 (omega arith) few)

pub returns-then-at-file-clause-refused : goal.returns-then-at-file-clause-refused
returns-then-at-file-clause-refused c = stops_past c.args.file.now c.in_ok-count.count c.loop.slots.items c.loop.at c.loop.counter
    c.loop.invariant (omega arith) (omega arith) (omega arith)
