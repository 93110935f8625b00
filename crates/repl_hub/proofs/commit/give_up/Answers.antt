-- The ticket is cancelled, where there is one.
use Rattle.std.proofs.Common.{refl, sym, subst}
use Rattle.repl_hub.specs.Commit.{AreBack}
use Rattle.repl_hub.specs.Pass.{MakesSome}
use Rattle.repl_hub.proofs.Calling.{by_none, by_one}
use Rattle.repl_hub.proofs.commit.give_up.Goals as goal
use Rattle.repl_hub.proofs.commit.give_up.Goals.{in-Some, in_default}

pub returns-clause-gives_up : goal.returns-clause-gives_up
returns-clause-gives_up g c = elim c.match-waiter.branch [
  | in-Some w ↦ subst (λ q. MakesSome g.H.Hub.opened g.H.Hub.known c.args.pass.now (AreBack c.args.waiter) q) (sym w.pass-is)
      (subst (λ v. MakesSome g.H.Hub.opened g.H.Hub.known c.args.pass.now (AreBack v) w.cancel.new.pass) (sym w.in-Some.is)
      (by_one g.H.Hub.opened g.H.Hub.known _ _ _ _ _ w.cancel.ensures.asked (_, refl)))
  | in_default w ↦ subst (λ q. MakesSome g.H.Hub.opened g.H.Hub.known c.args.pass.now (AreBack c.args.waiter) q) (sym w.pass-is)
      (subst (λ v. MakesSome g.H.Hub.opened g.H.Hub.known c.args.pass.now (AreBack v) c.args.pass.now) (sym w.in_default.is)
      (by_none g.H.Hub.opened g.H.Hub.known _ _ refl))
]
