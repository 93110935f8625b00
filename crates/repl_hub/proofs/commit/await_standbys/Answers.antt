-- A wait, and the looks that follow it.
use Rattle.repl_hub.proofs.Calling.{and_then, by_one}
use Rattle.repl_hub.proofs.Completing.{not_waited, waited, waited_past}
use Rattle.repl_hub.proofs.commit.await_standbys.Goals as goal

pub returns-in-Err-Unknown-clause-waits : goal.returns-in-Err-Unknown-clause-waits
returns-in-Err-Unknown-clause-waits g c = by_one g.H.Hub.opened g.H.Hub.known _ _ _ _ _ c.wait.ensures.asked
    (not_waited _ _ _ _ c.in-Err-Unknown.is c.in-Err-Unknown.field-0-is)

pub returns-in-Ok-clause-waits : goal.returns-in-Ok-clause-waits
returns-in-Ok-clause-waits g c = and_then g.H.Hub.opened g.H.Hub.known _ _ _ _ _ _ _ c.wait.ensures.opened c.wait.ensures.asked
    (waited _ _ _ _ _ c.looked.ensures _ c.in-Ok.is) c.look_on.ensures.looks

pub returns-in-Err-NotFlushed-clause-waits : goal.returns-in-Err-NotFlushed-clause-waits
returns-in-Err-NotFlushed-clause-waits g c = and_then g.H.Hub.opened g.H.Hub.known _ _ _ _ _ _ _ c.wait.ensures.opened c.wait.ensures.asked
    (waited_past _ _ _ _ _ c.looked-in-Err-NotFlushed.ensures _ _ c.in-Err-NotFlushed.is c.in-Err-NotFlushed.field-0-is)
    c.look_on-in-Err-NotFlushed.ensures.looks
