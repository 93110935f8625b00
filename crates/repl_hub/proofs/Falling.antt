-- The flushed end falls by a switch alone, and never below the end of whole records.
use Rattle.std.proofs.Common.{◌≤◌, inl, inr, sym, subst, arith}
use Rattle.repl_hub.proofs.Coming.{Comes, lasts, tells, switches, ends}
use Rattle.repl_hub.proofs.Events.{comes}
use Rattle.repl_hub.specs.Certain.{FallsOnlyBySwitch}
use Rattle.repl_hub.specs.State.{HubView}
use Rattle.repl_hub.specs.Step.{HubStep}
use Rattle.repl_hub.specs.declared.event.HubEvent.{HubEvent}
use Rattle.repl_hub.specs.declared.reply.HubReply.{HubReply}
use Rattle.repl_wal.specs.State.{IsLog, LogState, flushed_end}

-- where it does not fall, it stays past the whole end
rises_only_so : (n m : LogState) (event : HubEvent) → IsLog n → flushed_end n ≤ flushed_end m → FallsOnlyBySwitch n m event
rises_only_so n m event is rises = let whole = is.right.whole.2 in record { falls = inl rises; whole = omega (arith, whole, rises) }

falls_past : (h : HubView) (event : HubEvent) (m : HubView) → IsLog h.node.log → Comes h event m
    → FallsOnlyBySwitch h.node.log m.node.log event
falls_past h event m right (lasts is) = rises_only_so h.node.log m.node.log event right is.log.end
falls_past h event m right (tells is) = rises_only_so h.node.log m.node.log event right
    (subst (λ (k : LogState). flushed_end h.node.log ≤ flushed_end k) (sym is.log) (omega arith))
falls_past h event m right (switches is) = record { falls = inr is.switch; whole = is.log.whole }
falls_past h event m right (ends is) = rises_only_so h.node.log m.node.log event right is.rises

pub falls_by_switch : (h m : HubView) (event : HubEvent) (reply : HubReply) → IsLog h.node.log → HubStep h event reply m
    → FallsOnlyBySwitch h.node.log m.node.log event
falls_by_switch h m event reply right step = falls_past h event m right (comes h event reply m step)
