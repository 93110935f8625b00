-- The own timeline keeps the order after the others.
use Rattle.std.proofs.Common.{◌≡◌, ◌++◌, ◌∷◌, [], refl, sym, subst, rules}
use Rattle.repl_lsn.specs.declared.history.Part.{Part}
use Rattle.repl_lsn.specs.History.{InOrder}
use Rattle.repl_lsn.proofs.Timelines.{order_push}
use Rattle.repl_lsn.proofs.history.History.child.Goals as goal

pub of-requires : goal.of-requires
of-requires c =
    let path = c.args.self.now in
    let left : Part = record { tli = path.own; switch = c.args.switch; reason = c.in_ok-copied.field-0 } in
    let parents : c.new.result ≡ path.parents ++ left ∷ [] = search (rules, c.in_ok-push.ensures.items) in
    subst (InOrder c.args.tli) (sym parents) (order_push path.own c.args.tli path.parents left c.parents.ensures.path refl c.requires.above
    c.requires.past)
