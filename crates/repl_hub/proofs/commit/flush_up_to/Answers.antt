-- A flush, and what follows it.
use Rattle.repl_hub.proofs.Calling.{and_then, by_one}
use Rattle.repl_hub.proofs.Completing.{not_flushed, only_flushed, then_waits}
use Rattle.repl_hub.proofs.commit.flush_up_to.Goals as goal

pub returns-in-None-clause-added : goal.returns-in-None-clause-added
returns-in-None-clause-added g c = by_one g.H.Hub.opened g.H.Hub.known _ _ _ _ _ c.flush.ensures.asked
    (λ item. only_flushed _ item _ _ _ c.in-Ok.is c.in-None.is)

pub returns-in-Some-clause-added : goal.returns-in-Some-clause-added
returns-in-Some-clause-added g c = and_then g.H.Hub.opened g.H.Hub.known _ _ _ _ _ _ _ c.flush.ensures.opened c.flush.ensures.asked
    (λ calls rest item. then_waits _ item _ _ _ _ _ c.in-Ok.is c.in-Some.is calls (rest item _)) c.await_standbys.ensures.waits

pub returns-in-Err-clause-added : goal.returns-in-Err-clause-added
returns-in-Err-clause-added g c = and_then g.H.Hub.opened g.H.Hub.known _ _ _ _ _ _ _ c.flush.ensures.opened c.flush.ensures.asked
    (λ calls back item. not_flushed _ item _ _ _ _ c.in-Err.is c.give_up.ensures.answer calls back) c.give_up.ensures.gives_up
