-- The slots are judged, and then the log is opened.
use Rattle.std.proofs.Common.{◌≡◌, ℕ, All, List, Some, None, Result, Err, inl, inr, ⊎_elim, refl, sym, ap, ◌∙◌, subst}
use Rattle.repl_control.specs.declared.control.TheConstants.{VERSION_1_SIZE}
use Rattle.repl_effects.specs.Counts.{Rose}
use Rattle.repl_disk.specs.Folder.{Folder, IfTold, ToldFiles}
use Rattle.repl_disk.specs.Runs.{told_so, where_told}
use Rattle.repl_slots.specs.SlotFile.{Entry, IsMounted as IsMountedSlot, entries_of}
use Rattle.repl_slots.specs.Stored.{Stores}
use Rattle.repl_store.proofs.Asking.{reads_then}
use Rattle.repl_store.specs.Durable.{Durable, StandsFor}
use Rattle.repl_wal.specs.Making.{IsMountRefusal}
use Rattle.repl_wal.specs.declared.fault.OpenFault.{OpenFault}
use Rattle.repl_node.specs.Making.{IsFirstRefusal, IsNodeRefusal}
use Rattle.repl_node.specs.declared.node.Node.{Node}
use Rattle.repl_node.proofs.Opening.{only_opens, same_failure}
use Rattle.repl_node.proofs.node.Node.mount.Goals as goal

-- ---- it only reads

pub returns-in-Ok-mount-clause-reads : goal.returns-in-Ok-mount-clause-reads
returns-in-Ok-mount-clause-reads g c =
    let state = g.D.Disk.state in
    reads_then (state c.args.disk) (state c.in-Ok.disk) (state c.in-Ok-mount.wal.disk) c.in-Ok.ensures.only c.in-Ok-mount.ensures.reads

pub returns-in-Err-mount-clause-reads : goal.returns-in-Err-mount-clause-reads
returns-in-Err-mount-clause-reads g c =
    let state = g.D.Disk.state in
    reads_then (state c.args.disk) (state c.in-Ok.disk) (state c.in-Err-mount.refused.1) c.in-Ok.ensures.only c.in-Err-mount.ensures.reads

-- ---- what is mounted

pub returns-in-Ok-mount-clause-holds : goal.returns-in-Ok-mount-clause-holds
returns-in-Ok-mount-clause-holds g c folder d tells stands all =
    let only = c.in-Ok.ensures.only in
    record {
      log = c.in-Ok-mount.ensures.holds folder d (only.stayed ∙ tells) stands (λ image left. (all image (only.none_new image left)).0);
      slots = refl;
      sound = λ is. c.in-Ok.ensures.slots.0;
      stored = λ yes sound image left. (all image ((returns-in-Ok-mount-clause-reads g c).none_new image left)).1;
    }

pub returns-in-Ok-mount-clause-stands : goal.returns-in-Ok-mount-clause-stands
returns-in-Ok-mount-clause-stands g c =
    let log = c.in-Ok-mount.ensures.stands in
    let slots = c.in-Ok.slots.slots in
    (record { log = log.0; slots = slots; saved = entries_of slots }, record { log = log.1; slots = refl; sound = λ is. c.in-Ok.ensures.slots.0 })

-- ---- what is refused

-- what is wrong after right slots
past : (size : ℕ) (folder : Folder) (old mid : Folder → Type 0) (e : OpenFault) → ((image : Folder) → mid image → old image)
    → IsMountRefusal size folder mid e → IsMountRefusal size folder old e
past size folder old mid e none (inl refused) = inl refused
past size folder old mid e none (inr (d, stands, wrong)) = inr (d, stands, λ all. wrong (λ image left. all image (none image left)))

pub returns-in-Err-mount-clause-refused : goal.returns-in-Err-mount-clause-refused
returns-in-Err-mount-clause-refused g c =
    let old = g.D.Disk.state c.args.disk in
    let mid = g.D.Disk.state c.in-Ok.disk in
    let slots = c.in-Ok.slots in
    let e = c.in-Err-mount.refused.0 in
    where_told old.files (λ folder. IsNodeRefusal VERSION_1_SIZE folder old.may_leave e) (λ folder tells.
    let found = told_so old.files folder (λ f. All IsMountedSlot slots.slots × Stores (entries_of slots.slots) f) tells c.in-Ok.ensures.slots.1 in
    let refused = told_so mid.files folder (λ f. IsMountRefusal VERSION_1_SIZE f mid.may_leave e) (c.in-Ok.ensures.only.stayed ∙ tells)
    c.in-Err-mount.ensures.refused in
    inr (entries_of slots.slots, found.1, past VERSION_1_SIZE folder old.may_leave mid.may_leave e c.in-Ok.ensures.only.none_new refused))

pub returns-in-Err-clause-refused : goal.returns-in-Err-clause-refused
returns-in-Err-clause-refused g c =
    let old = g.D.Disk.state c.args.disk in
    let e = c.in-Err.refused.0 in
    where_told old.files (λ folder. IsNodeRefusal VERSION_1_SIZE folder old.may_leave e) (λ folder tells.
    inl (told_so old.files folder (λ f. IsFirstRefusal VERSION_1_SIZE f e) tells c.in-Err.ensures.refused))

-- ---- a failure of the disk

abbrev IsNode : Folder → Type 0
IsNode folder = (d : Durable) × (saved : List Entry) × StandsFor VERSION_1_SIZE folder d × Stores saved folder

pub returns-in-Err-clause-lost : goal.returns-in-Err-clause-lost
returns-in-Err-clause-lost g c is =
    let Fails : OpenFault → Result (Unit {0}) OpenFault = λ x. Err x in
    ⊎_elim inl (λ lack. inr (subst (λ (f : ToldFiles). IfTold f IsNode) (sym lack.0) tt)) (c.in-Err.ensures.caused.failed (ap Fails is))

pub returns-in-Err-mount-clause-lost : goal.returns-in-Err-mount-clause-lost
returns-in-Err-mount-clause-lost g c is =
    let old = g.D.Disk.state c.args.disk in
    let mid = g.D.Disk.state c.in-Ok.disk in
    let new = g.D.Disk.state c.in-Err-mount.refused.1 in
    let slots = c.in-Ok.slots in
    ⊎_elim (λ rose. inl (subst (λ (k : ℕ). Rose k new.faults) c.in-Ok.ensures.caused.ok.0 rose))
    (λ store. inr (where_told old.files IsNode (λ folder tells.
    let log = told_so mid.files folder (λ f. (d : Durable) × StandsFor VERSION_1_SIZE f d) (c.in-Ok.ensures.only.stayed ∙ tells) store in
    let found = told_so old.files folder (λ f. All IsMountedSlot slots.slots × Stores (entries_of slots.slots) f) tells c.in-Ok.ensures.slots.1 in
    (log.0, entries_of slots.slots, log.1, found.1)))) (c.in-Err-mount.ensures.lost is)

-- ---- where a crash leaves nothing else

pub returns-in-Ok-mount-clause-only : goal.returns-in-Ok-mount-clause-only
returns-in-Ok-mount-clause-only g c folder d saved tells stands all =
    let state = g.D.Disk.state in
    only_opens _ (state c.args.disk) (state c.in-Ok-mount.wal.disk) VERSION_1_SIZE d saved all (returns-in-Ok-mount-clause-reads g c)
    (λ k. absurd cc)

pub returns-in-Err-mount-clause-only : goal.returns-in-Err-mount-clause-only
returns-in-Err-mount-clause-only g c folder d saved tells stands all =
    let state = g.D.Disk.state in
    let e = c.in-Err-mount.refused in
    let is = c.in-Ok.ensures in
    let opens = c.in-Err-mount.ensures.only folder d (is.only.stayed ∙ tells) stands (λ image left. (all image (is.only.none_new image left)).0) in
    only_opens {A = Node g.row.D.Denot} (Err e.0) (state c.args.disk) (state e.1) VERSION_1_SIZE d saved all (returns-in-Err-mount-clause-reads g c)
    (λ k. subst (λ (n : ℕ). Rose n (state e.1).faults) is.caused.ok.0 (opens.failed (same_failure e.0 k)))

pub returns-in-Err-clause-only : goal.returns-in-Err-clause-only
returns-in-Err-clause-only g c folder d saved tells stands all =
    let state = g.D.Disk.state in
    let e = c.in-Err.refused in
    only_opens {A = Node g.row.D.Denot} (Err e.0) (state c.args.disk) (state e.1) VERSION_1_SIZE d saved all c.in-Err.ensures.only
    (λ k. elim (c.in-Err.ensures.caused.failed (same_failure e.0 k)) [
      | inl rose ↦ rose
      | inr lack ↦ let clash : ◌≡◌ {A = ToldFiles} None (Some folder) = sym lack.0 ∙ tells in absurd cc
    ])
