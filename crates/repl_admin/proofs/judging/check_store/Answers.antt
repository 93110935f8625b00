-- The store is refused, or its log is judged and that is told.
use Rattle.std.proofs.Common.{◌≡◌, Err, sym, ap, subst, ◌∙◌}
use Rattle.std.proofs.lemmas.Bool.{false≢true}
use Rattle.repl_check.specs.declared.check.CheckFault.TheVariants as check
use Rattle.repl_disk.specs.State.{DiskState}
use Rattle.repl_check.specs.Found.{read_of}
use Rattle.repl_store.specs.Backing.{Backs, Before, Comes, State}
use Rattle.repl_store.specs.Head.{Head}
use Rattle.repl_admin.proofs.Judged.{IsTold, judged_checked, refused_checked}
use Rattle.repl_admin.specs.Checking.{Checked}
use Rattle.repl_admin.proofs.judging.check_store.Goals as goal

pub returns-in-Err-clause-checked : goal.returns-in-Err-clause-checked
returns-in-Err-clause-checked g c slots =
    refused_checked c.in-Err.fault c.end_of_store.result (g.D.Disk.state c.args.disk) (g.D.Disk.state c.in-Err.disk) (g.K.Sink.sink c.args.out.now)
    slots c.in-Err.ensures.refused c.in-Err.ensures.answers c.end_of_store.ensures c.in-Err.ensures.asks

pub returns-in-Ok-clause-checked : goal.returns-in-Ok-clause-checked
returns-in-Ok-clause-checked g c slots =
    let state = g.D.Disk.state in
    let sink = g.K.Sink.sink in
    let store = c.in-Ok.store in
    let old = state c.args.disk in
    let w = sink c.args.out.now in
    let w' = sink c.tell-end.new.out in
    let ensures = c.check_log-checked.ensures in
    let same : c.check_log-checked.new.store.head ≡ store.head = ensures.head in
    let told : IsTold store.head c.check_log-checked.result c.tell-end.result w w' =
    subst (λ (h : Head). IsTold h c.check_log-checked.result c.tell-end.result w w') same c.tell-end.ensures in
    let unbroken : c.check_log-checked.result ≡ Err check.Broken → ⊥ =
    λ is. false≢true (sym c.in-Ok.ensures.mounted.0 ∙ ensures.broken.0 is) in
    let mid = state store.disk in
    let new = state c.check_log-checked.new.store.disk in
    let Column : Head → Type 0 = λ h. (s : State) → Backs mid store.head s
    → Comes {A = Unit {0}} (read_of c.check_log-checked.result) mid new h (Before s) s (λ t. t ≡ s) in
    let comes : Column store.head = subst Column same ensures.comes in
    let checked = judged_checked store store.head c.tell-end.result old mid new w w'
    slots c.in-Ok.ensures.mounted.1 c.in-Ok.ensures.backs c.in-Ok.ensures.asks c.check_log-checked.result ensures.exact ensures.flaw unbroken
    ensures.caused comes told in
    let P : DiskState → Type 0 = λ d. Checked c.tell-end.result old d w w' in
    let disk : state c.into_disk.result ≡ state c.check_log-checked.new.store.disk = ap state c.into_disk.ensures in
    subst P (sym disk) checked
