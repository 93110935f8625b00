-- Both events stand in what the joined pass has seen.
use Rattle.std.proofs.Common.{Some, ap, ◌∙◌}
use Rattle.repl_turn.specs.History.{entry, number}
use Rattle.repl_turn.proofs.Histories.{prefix_get}
use Rattle.test_system.proofs.turns.ask_both.Goals as goal

pub returns-clause-first : goal.returns-clause-first
returns-clause-first g c =
    prefix_get _ _ _ _ c.join.ensures.first c.join-left.ensures.first.1
    ∙ ap (λ n. Some (entry n c.args.first c.join-left.result.0.1.reply)) (ap number c.split-one.ensures.first)

pub returns-clause-second : goal.returns-clause-second
returns-clause-second g c =
    let new = c.split-one.ensures.second in
    (number c.split-one.result.1, λ e. new.other e, prefix_get _ _ _ _ c.join.ensures.second c.join-left.ensures.second.1)
