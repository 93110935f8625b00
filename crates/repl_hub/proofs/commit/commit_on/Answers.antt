-- A ticket, and what follows it.
use Rattle.std.proofs.Common.{◌≡◌, [], sym, ap, ◌∙◌}
use Rattle.std.specs.Prelude.{not, None}
use Rattle.repl_hub.specs.Commit.{Commit, Completes, is_flushed_at}
use Rattle.repl_hub.proofs.Calling.{and_then, by_one, so_called}
use Rattle.repl_hub.proofs.Completing.{flushed_but_off, prepared, unprepared}
use Rattle.repl_hub.proofs.commit.commit_on.Goals as goal
use Rattle.repl_hub.proofs.commit.commit_on.Goals.{in-Off, in_default}

pub returns-in-None-clause-commits : goal.returns-in-None-clause-commits
returns-in-None-clause-commits g c =
    let flushes : is_flushed_at c.args.setting ≡ not c.match-matches.matches = elim c.match-matches.branch [
      | in-Off w ↦ ap is_flushed_at w.in-Off.is ∙ sym (ap not w.matches-is)
      | in_default w ↦ flushed_but_off c.args.setting w.in_default.not-Off ∙ sym (ap not w.matches-is)
    ] in
    so_called g.H.Hub.opened g.H.Hub.known c.args.pass.now c.add.new.pass
    (Completes None (not c.match-matches.matches) c.args.item [] c.add.result) (λ calls. Commit c.args.item c.args.setting calls c.add.result)
    (λ calls rest. rest c.args.setting (sym c.mode.ensures ∙ c.in-None.is) flushes) c.add.ensures.adds

pub returns-in-Ok-clause-commits : goal.returns-in-Ok-clause-commits
returns-in-Ok-clause-commits g c = and_then g.H.Hub.opened g.H.Hub.known _ _ _ _ _ _ _ c.prepare.ensures.opened c.prepare.ensures.asked
    (prepared _ _ _ _ _ _ (sym c.mode.ensures ∙ c.in-Some.is) c.in-Ok.is) c.add-in-Ok.ensures.adds

pub returns-in-Err-clause-commits : goal.returns-in-Err-clause-commits
returns-in-Err-clause-commits g c = by_one g.H.Hub.opened g.H.Hub.known _ _ _ _ _ c.prepare.ensures.asked
    (unprepared _ _ _ _ _ _ (sym c.mode.ensures ∙ c.in-Some.is) c.in-Err.is c.of_prepare.ensures)
