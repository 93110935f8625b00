-- An append, and what follows it.
use Rattle.repl_hub.proofs.Calling.{and_then, by_one}
use Rattle.repl_hub.proofs.Completing.{not_added, only_added, then_flushes}
use Rattle.repl_hub.proofs.commit.add.Goals as goal

pub returns-then-flushes-clause-adds : goal.returns-then-flushes-clause-adds
returns-then-flushes-clause-adds g c = and_then g.H.Hub.opened g.H.Hub.known _ _ _ _ _ _ _ c.append.ensures.opened c.append.ensures.asked
    (λ calls rest. then_flushes _ _ _ _ _ _ c.in-Ok.is c.if-flushes.true calls (rest c.args.item)) c.flush_up_to.ensures.added

pub returns-else-flushes-clause-adds : goal.returns-else-flushes-clause-adds
returns-else-flushes-clause-adds g c = by_one g.H.Hub.opened g.H.Hub.known _ _ _ _ _ c.append.ensures.asked
    (only_added _ _ _ _ _ c.in-Ok.is c.if-flushes.false)

pub returns-in-Err-clause-adds : goal.returns-in-Err-clause-adds
returns-in-Err-clause-adds g c = and_then g.H.Hub.opened g.H.Hub.known _ _ _ _ _ _ _ c.append.ensures.opened c.append.ensures.asked
    (not_added _ _ _ _ _ _ c.in-Err.is c.give_up.ensures.answer) c.give_up.ensures.gives_up
