-- What was read stands for a store.
use Rattle.std.proofs.Common.{◌≡◌, ◌<◌, ℕ, Err, IfErr, Result, None, inl, refl, rules, sym, ap, ◌∙◌, subst, arith}
use Rattle.repl_disk.specs.Folder.{Folder, IfTold}
use Rattle.repl_control.specs.declared.control.Control.{Control}
use Rattle.repl_control.specs.declared.control.TheConstants.{VERSION_1_SIZE}
use Rattle.repl_lsn.specs.History.{IsPath, Path}
use Rattle.repl_store.specs.Durable.{Durable, HasPath, StandsFor}
use Rattle.repl_store.specs.Head.{Head, IsMounted}
use Rattle.repl_store.specs.Refusal.{HasControl, IsEnough, IsHeld, IsLackOf, IsRefusal}
use Rattle.repl_store.specs.declared.fault.MountFault.{MountFault}
use Rattle.repl_store.proofs.Mounting.{lack_refuses, stands_of, told_along, told_three}
use Rattle.repl_store.proofs.mount.read_head.Goals as goal

abbrev HasControl' : ℕ → Control → Folder → Type 0
HasControl' size control folder = HasControl size folder control

abbrev HasPath' : ℕ → Control → Path → Folder → Type 0
HasPath' size control path folder = HasPath size folder control path

pub returns-in_err-check_segments-clause-refused : goal.returns-in_err-check_segments-clause-refused
returns-in_err-check_segments-clause-refused g c =
    let state = g.D.Disk.state in
    let files = (state c.args.disk.now).files in
    let size = c.version_1_size-size.result in
    let control = c.in_ok-control.control in
    let path = c.in_ok-history.history in
    let e = c.in_err-check_segments.field-0.0 in
    let first = c.in_ok-control.ensures.asks.only.stayed in
    let second = c.in_ok-history.ensures.asks.only.stayed in
    let has_path = told_along files (state c.read_control_file.new.disk).files _ first c.in_ok-history.ensures.read in
    let lack = told_along files (state c.read_own_history.new.disk).files _ (second ∙ first) c.in_err-check_segments.ensures.refused in
    let both = told_three files (HasControl' size control) (HasPath' size control path) (λ folder. IsLackOf size folder control path e)
    (λ folder. IsRefusal size folder e) (λ folder has path_is lack_is. lack_refuses size folder control path e has path_is lack_is)
    c.in_ok-control.ensures.read has_path lack in
    let is : c.from_residual-in_err-check_segments.result ≡ Err e = search rules in
    let P : Result Head MountFault → Type 0 = λ r. IfErr r (λ e. IfTold files (λ folder. IsRefusal VERSION_1_SIZE folder e)) in
    let Q : ℕ → Type 0 = λ n. IfTold files (λ folder. IsRefusal n folder e) in
    subst P (sym is) (subst Q c.version_1_size-size.ensures.value both)

pub invariant_of-result : goal.invariant_of-result
invariant_of-result g c =
    let right = c.in_ok-control.ensures.right in
    record {
      size = c.version_1_size-size.ensures.size;
      right = right.1;
      fits = right.0;
      is_path = subst IsPath c.history.view_is c.history.invariant;
      own = c.in_ok-history.ensures.right.0;
      between = c.in_ok-history.ensures.right.1;
      flushed = omega arith;
      synced = omega arith;
      written = right.1.flushed.1;
      tail = inl refl;
    }

pub returns-clause-read : goal.returns-clause-read
returns-clause-read g c =
    let state = g.D.Disk.state in
    let files = (state c.args.disk.now).files in
    let size = c.version_1_size-size.result in
    let control = c.in_ok-control.control in
    let path = c.in_ok-history.history in
    let first = c.in_ok-control.ensures.asks.only.stayed in
    let second = c.in_ok-history.ensures.asks.only.stayed in
    let has_path = told_along files (state c.read_control_file.new.disk).files _ first c.in_ok-history.ensures.read in
    let enough = told_along files (state c.read_own_history.new.disk).files _ (second ∙ first) c.in_ok-check_segments.ensures.enough in
    let some : 0 < size = omega (arith, c.version_1_size-size.ensures.size.least) in
    let head : Head = record { size = size; control = control; path = path; written = control.flushed; synced = control.flushed; unsynced = None } in
    let Q : ℕ → Type 0 = λ n. IfTold files (λ folder. (x : Durable) × StandsFor n folder x × IsMounted head n x) in
    subst Q c.version_1_size-size.ensures.value (told_three files (HasControl' size control) (HasPath' size control path)
    (λ folder. (segment : ℕ) → IsHeld size control segment → IsEnough size folder control path segment)
    (λ folder. (x : Durable) × StandsFor size folder x × IsMounted head size x)
    (λ folder has path_is all. let found = stands_of size folder control path some all has path_is in (
      found.0,
      found.1,
      record {
        same_size = refl;
        same_control = sym found.2;
        same_path = sym found.3;
        flushed = (ap (λ c. c.flushed) (sym found.2), ap (λ c. c.flushed) (sym found.2));
      },
    )) c.in_ok-control.ensures.read has_path enough)
