-- A flush keeps the role.
use Rattle.std.proofs.Common.{◌≡◌, ◌∙◌, ap, subst}
use Rattle.repl_control.specs.declared.control.Role.{Role}
use Rattle.repl_store.specs.Backing.{Comes, Either, flushed}
use Rattle.repl_store.specs.Head.{Held}
use Rattle.repl_store.specs.declared.store.Store.TheInside.{Inside}
use Rattle.repl_store.proofs.store.Store.flush.Goals as goal

pub returns-clause-comes : goal.returns-clause-comes
returns-clause-comes g c = λ s backs.
    let state = g.D.Disk.state in
    let role = ap (λ (i : Inside g.row.D.Denot). i.head.control.role) c.self-inside.view_is
    ∙ ap (λ (h : Held g.row.D.Denot). h.head.control.role) c.self.view_is in
    subst
    (λ (r : Role). Comes c.set_role.result (state c.args.self.now.disk) (state c.set_role.new.self.disk) c.set_role.new.self.head
    (Either s.durable (flushed s r c.args.whole c.args.prev).durable) (flushed s r c.args.whole c.args.prev) (λ t. t ≡ s)) role
    (c.set_role.ensures.comes s backs)
