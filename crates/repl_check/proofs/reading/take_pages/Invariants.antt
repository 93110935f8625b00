-- The check has taken the first bytes, and fewer are left.
use Rattle.std.proofs.Common.{◌-◌, length}
use Rattle.repl_lsn.specs.Path.{timeline_at}
use Rattle.repl_check.proofs.Pieces.{Given}
use Rattle.repl_check.proofs.reading.take_pages.Given as goal

abbrev pub invariant-pages : goal.invariant-pages
invariant-pages l = Given l.initial.check l.check (timeline_at l.path) l.bytes l.used

abbrev pub decreases-pages : goal.decreases-pages
decreases-pages l = length l.bytes - l.used
