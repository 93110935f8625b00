-- What `release_one` needs and ensures.
use Rattle.std.proofs.Common.{refl, subst}
use Rattle.repl_sync.specs.Inside.{IsDueBy}
use Rattle.repl_sync.proofs.Releasing.{blank_names, one_left, one_released}
use Rattle.repl_sync.proofs.release.release_one.Goals as goal

pub fill-requires-clause-blank : goal.fill-requires-clause-blank
fill-requires-clause-blank c = blank_names c.args.list.now c.args.entries.now c.args.reach.now c.args.holding.now
    (c.in-Some.end, c.in-Some.mode) c.requires.room (subst (IsDueBy c.args.reach.now c.args.holding.now.progress) c.in-Some.is
    c.due.ensures)

pub returns-in-Some : goal.returns-in-Some
returns-in-Some c = one_released c.args.list.now c.args.entries.now c.args.order.now c.args.reach.now c.args.holding.now _
    (c.in-Some.end, c.in-Some.mode) c.args.holding.now.progress c.requires.listing c.requires.order c.requires.reach c.requires.room refl
    (subst (IsDueBy c.args.reach.now c.args.holding.now.progress) c.in-Some.is c.due.ensures) refl refl refl c.fill.ensures

pub returns-in_default : goal.returns-in_default
returns-in_default c = one_left c.args.list.now c.args.entries.now c.args.order.now c.args.reach.now c.args.holding.now
    c.args.holding.now.progress c.requires.order c.requires.reach c.requires.room refl
    (subst (IsDueBy c.args.reach.now c.args.holding.now.progress) c.in_default.is c.due.ensures)
