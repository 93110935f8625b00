-- A new store, from its control.
use Rattle.std.proofs.Common.{◌≡◌, ℕ, Some, ◌∙◌, ap, subst, rules}
use Rattle.repl_control.specs.Control.{FitsFields, IsControl, fresh_control, control_bytes}
use Rattle.repl_control.specs.declared.control.Control.{Control}
use Rattle.repl_control.specs.declared.control.TheConstants.{VERSION_1_SIZE}
use Rattle.repl_disk.specs.Crash.{LeavesOnly}
use Rattle.repl_disk.specs.Replacing.{IsBeforeOrAfter}
use Rattle.repl_store.specs.Creating.{IsMade}
use Rattle.repl_store.specs.Durable.{control_aside, control_name}
use Rattle.repl_store.proofs.Making.{fresh_stands, made_backs, making}
use Rattle.repl_store.proofs.Mounting.{told_map}
use Rattle.repl_store.proofs.store.Store.create.Goals as goal

pub returns-in-Ok-clause-made : goal.returns-in-Ok-clause-made
returns-in-Ok-clause-made g c =
    let state = g.D.Disk.state in
    let files = (state c.args.disk).files in
    let control : c.fresh-control.result ≡ fresh_control c.args.role c.args.ident.sysid c.args.ident.magic VERSION_1_SIZE = search rules in
    let fits : FitsFields (fresh_control c.args.role c.args.ident.sysid c.args.ident.magic VERSION_1_SIZE) = subst FitsFields control c.fresh-control.ensures.fits in
    let right : IsControl VERSION_1_SIZE (fresh_control c.args.role c.args.ident.sysid c.args.ident.magic VERSION_1_SIZE) = subst (IsControl VERSION_1_SIZE) control (let P : ℕ → Type 0 = λ n. IsControl n c.fresh-control.result in subst P c.requires c.fresh-control.ensures.right) in
    told_map files (λ folder. IsMade (state c.args.disk) (state c.make.new.disk) folder (control_bytes c.fresh-control.result)) _
    (λ folder made. (made.none, λ image now. fresh_stands c.args.role c.args.ident fits right image ((made.images image now).file ∙ ap (λ k. Some (control_bytes k)) control)))
    c.in-Ok.ensures.made

pub returns-in-Ok-clause-backs : goal.returns-in-Ok-clause-backs
returns-in-Ok-clause-backs g c known some heard =
    let state = g.D.Disk.state in
    let control : c.fresh-control.result ≡ fresh_control c.args.role c.args.ident.sysid c.args.ident.magic VERSION_1_SIZE = search rules in
    let fits = subst FitsFields control c.fresh-control.ensures.fits in
    let right = subst (IsControl VERSION_1_SIZE) control (let P : ℕ → Type 0 = λ n. IsControl n c.fresh-control.result in
    subst P c.requires c.fresh-control.ensures.right) in
    let made = told_map (state c.args.disk).files _ (λ folder. IsMade (state c.args.disk) (state c.make.new.disk) folder
    (control_bytes (fresh_control c.args.role c.args.ident.sysid c.args.ident.magic VERSION_1_SIZE)))
    (λ folder made. let P : Control → Type 0 = λ k. IsMade (state c.args.disk) (state c.make.new.disk) folder (control_bytes k) in subst P control made)
    c.in-Ok.ensures.made in
    made_backs (state c.args.disk) (state c.make.new.disk) _ c.args.role c.args.ident known fits right (record {
      same_size = c.requires;
      same_control = control;
      same_path = c.first.ensures;
      flushed = (ap (λ k. k.flushed) control, ap (λ k. k.flushed) control);
    }) some made heard

pub returns-in-Ok-clause-moments : goal.returns-in-Ok-clause-moments
returns-in-Ok-clause-moments g c =
    let state = g.D.Disk.state in
    let control : c.fresh-control.result ≡ fresh_control c.args.role c.args.ident.sysid c.args.ident.magic VERSION_1_SIZE = search rules in
    let fits = subst FitsFields control c.fresh-control.ensures.fits in
    let right = subst (IsControl VERSION_1_SIZE) control (let P : ℕ → Type 0 = λ n. IsControl n c.fresh-control.result in
    subst P c.requires c.fresh-control.ensures.right) in
    told_map (state c.args.disk).files _ _ (λ folder moments. making c.args.role c.args.ident fits right (state c.args.disk) (state c.make.new.disk)
    (let P : Control → Type 0 = λ k. LeavesOnly (state c.args.disk) (state c.make.new.disk) (IsBeforeOrAfter (state c.args.disk).may_leave control_name
    control_aside (control_bytes k)) in subst P control moments)) c.in-Ok.ensures.moments

pub returns-in-Err-clause-moments : goal.returns-in-Err-clause-moments
returns-in-Err-clause-moments g c =
    let state = g.D.Disk.state in
    let control : c.fresh-control.result ≡ fresh_control c.args.role c.args.ident.sysid c.args.ident.magic VERSION_1_SIZE = search rules in
    let fits = subst FitsFields control c.fresh-control.ensures.fits in
    let right = subst (IsControl VERSION_1_SIZE) control (let P : ℕ → Type 0 = λ n. IsControl n c.fresh-control.result in
    subst P c.requires c.fresh-control.ensures.right) in
    told_map (state c.args.disk).files _ _ (λ folder moments. making c.args.role c.args.ident fits right (state c.args.disk) (state c.make.new.disk)
    (let P : Control → Type 0 = λ k. LeavesOnly (state c.args.disk) (state c.make.new.disk) (IsBeforeOrAfter (state c.args.disk).may_leave control_name
    control_aside (control_bytes k)) in subst P control moments)) c.in-Err.ensures.moments
