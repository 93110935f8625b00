-- The call that `give` adds to the history: this event, with this reply.
use Rattle.std.specs.Prelude.{Some}
use Rattle.repl_turn.proofs.turn.Turn.act.Given as goal

abbrev pub ghosts-give : goal.ghosts-give
ghosts-give g a = record { call = Some (a.asked.value, a.reply.now) }
