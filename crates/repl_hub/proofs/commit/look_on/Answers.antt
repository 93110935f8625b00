-- Looks that are not answered yet, and then one that is.
use Rattle.repl_hub.proofs.Calling.{looks_again, looks_last, no_look}
use Rattle.repl_hub.proofs.commit.look_on.Goals as goal

pub loop-init : goal.loop-init
loop-init g c = (c.requires, λ h o. o, no_look g.H.Hub.opened g.H.Hub.known _ c.args.ticket)

pub look-requires : goal.look-requires
look-requires g c = c.loop.invariant.0

pub loop-preserved : goal.loop-preserved
loop-preserved g c = (
  c.wait_for_change.ensures.of,
  λ h o. c.wait_for_change.ensures.opened h (c.look.ensures.opened h (c.loop.invariant.1 h o)),
  looks_again g.H.Hub.opened g.H.Hub.known _ _ _ _ _ _ c.in-NotYet.is c.loop.invariant.1 c.look.ensures.opened c.loop.invariant.2
      c.look.ensures.asked c.wait_for_change.ensures.watches,
)

pub returns-in-Released-clause-opened : goal.returns-in-Released-clause-opened
returns-in-Released-clause-opened g c = λ h o. c.look.ensures.opened h (c.loop.invariant.1 h o)

pub returns-in-Released-clause-looks : goal.returns-in-Released-clause-looks
returns-in-Released-clause-looks g c = looks_last g.H.Hub.opened g.H.Hub.known _ _ _ _ _ _ c.in-Released.is (λ e. absurd (cc e))
    c.loop.invariant.1 c.loop.invariant.2 c.look.ensures.asked

pub returns-in-Cancelled-clause-opened : goal.returns-in-Cancelled-clause-opened
returns-in-Cancelled-clause-opened g c = λ h o. c.look.ensures.opened h (c.loop.invariant.1 h o)

pub returns-in-Cancelled-clause-looks : goal.returns-in-Cancelled-clause-looks
returns-in-Cancelled-clause-looks g c = looks_last g.H.Hub.opened g.H.Hub.known _ _ _ _ _ _ c.in-Cancelled.is (λ e. absurd (cc e))
    c.loop.invariant.1 c.loop.invariant.2 c.look.ensures.asked

pub returns-in-Unknown-clause-opened : goal.returns-in-Unknown-clause-opened
returns-in-Unknown-clause-opened g c = λ h o. c.look.ensures.opened h (c.loop.invariant.1 h o)

pub returns-in-Unknown-clause-looks : goal.returns-in-Unknown-clause-looks
returns-in-Unknown-clause-looks g c = looks_last g.H.Hub.opened g.H.Hub.known _ _ _ _ _ _ c.in-Unknown.is (λ e. absurd (cc e))
    c.loop.invariant.1 c.loop.invariant.2 c.look.ensures.asked
