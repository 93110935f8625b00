-- The file is none of the store's path.
use Rattle.std.proofs.Common.{◌≡◌, ◌/◌, ℕ, List, Some, subst}
use Rattle.repl_disk.specs.Crash.{LeavesOnly}
use Rattle.repl_disk.specs.Folder.{Folder, IfTold}
use Rattle.repl_disk.specs.Replacing.{IsAside}
use Rattle.repl_lsn.specs.History.{last_switch}
use Rattle.repl_store.proofs.Apart.{file_is_own}
use Rattle.repl_store.proofs.Switching.{beside_done, beside_refused, beside_said}
use Rattle.repl_store.proofs.switch.put_first.Goals as goal

pub returns-in-Ok-clause-said : goal.returns-in-Ok-clause-said
returns-in-Ok-clause-said g c = λ s backs said.
    let old = g.D.Disk.state c.args.disk.now in
    let new = g.D.Disk.state c.write_and_sync.new.disk in
    let head = c.args.head.now in
    let child = c.args.child.now in
    let M : List ℕ → Type 0 = λ n. IfTold old.files (λ folder. LeavesOnly old new (IsAside old.may_leave n)) in
    let N : List ℕ → Type 0 = λ n. IfTold old.files (λ folder. (image : Folder) → new.may_leave image → IsAside old.may_leave n image) in
    let F : List ℕ → Type 0 = λ n. IfTold old.files (λ folder. (after : Folder) × (new.files ≡ Some after)
    × IsAside (λ f. f ≡ folder) n after) in
    let moments = subst M c.requires.named c.write_and_sync.ensures.moments in
    let now = subst N c.requires.named c.write_and_sync.ensures.now in
    let files = subst F c.requires.named c.write_and_sync.ensures.files in
    beside_said head c.requires.held child c.requires.path c.requires.below.0 c.requires.below.1 c.requires.flushed old s backs new moments
    now files said

pub returns-in-Ok-clause-comes : goal.returns-in-Ok-clause-comes
returns-in-Ok-clause-comes g c = λ s backs.
    let old = g.D.Disk.state c.args.disk.now in
    let new = g.D.Disk.state c.write_and_sync.new.disk in
    let head = c.args.head.now in
    let child = c.args.child.now in
    let M : List ℕ → Type 0 = λ n. IfTold old.files (λ folder. LeavesOnly old new (IsAside old.may_leave n)) in
    let N : List ℕ → Type 0 = λ n. IfTold old.files (λ folder. (image : Folder) → new.may_leave image → IsAside old.may_leave n image) in
    let F : List ℕ → Type 0 = λ n. IfTold old.files (λ folder. (after : Folder) × (new.files ≡ Some after)
    × IsAside (λ f. f ≡ folder) n after) in
    let moments = subst M c.requires.named c.write_and_sync.ensures.moments in
    let now = subst N c.requires.named c.write_and_sync.ensures.now in
    let files = subst F c.requires.named c.write_and_sync.ensures.files in
    beside_done head c.requires.held child c.requires.path c.requires.below.0 c.requires.below.1 c.requires.flushed old s backs new moments
    now files

pub returns-in-Err-clause-comes : goal.returns-in-Err-clause-comes
returns-in-Err-clause-comes g c = λ s backs.
    let old = g.D.Disk.state c.args.disk.now in
    let new = g.D.Disk.state c.write_and_sync.new.disk in
    let head = c.args.head.now in
    let child = c.args.child.now in
    let M : List ℕ → Type 0 = λ n. IfTold old.files (λ folder. LeavesOnly old new (IsAside old.may_leave n)) in
    let N : List ℕ → Type 0 = λ n. IfTold old.files (λ folder. (image : Folder) → new.may_leave image → IsAside old.may_leave n image) in
    let F : List ℕ → Type 0 = λ n. IfTold old.files (λ folder. (after : Folder) × (new.files ≡ Some after)
    × IsAside (λ f. f ≡ folder) n after) in
    let moments = subst M c.requires.named c.write_and_sync.ensures.moments in
    let now = subst N c.requires.named c.write_and_sync.ensures.now in
    let files = subst F c.requires.named c.write_and_sync.ensures.files in
    beside_refused head c.requires.held child c.requires.path c.requires.below.0 c.requires.below.1 c.requires.flushed old s backs new
    moments now files c.in-Err.error c.fault_of.result c.fault_of.ensures
    c.in-Err.ensures.there c.in-Err.ensures.caused.faults

pub returns-in-Ok-clause-apart : goal.returns-in-Ok-clause-apart
returns-in-Ok-clause-apart g c =
    let head = c.args.head.now in
    let child = c.args.child.now in
    c.write_and_sync.ensures.apart
    (file_is_own c.args.name.now head.size child (last_switch child.parents / head.size) c.requires.named)

pub returns-in-Err-clause-apart : goal.returns-in-Err-clause-apart
returns-in-Err-clause-apart g c =
    let head = c.args.head.now in
    let child = c.args.child.now in
    c.write_and_sync.ensures.apart
    (file_is_own c.args.name.now head.size child (last_switch child.parents / head.size) c.requires.named)
