-- What each turn of the loop in `name_of` keeps: the name is that among the sessions that are left.
use Rattle.std.proofs.Common.{◌≡◌, drop}
use Rattle.repl_sync.specs.State.{name_of}
use Rattle.repl_sync.specs.Inside.{sessions_of}
use Rattle.repl_sync.proofs.filling.name_of.Given as goal

abbrev pub invariant-loop-entry : goal.invariant-loop-entry
invariant-loop-entry l = name_of (sessions_of (drop l.entry-index l.entries)) l.session ≡ name_of (sessions_of l.entries) l.session
