-- The greatest of the names so far.
use Rattle.std.proofs.Common.{map, string_bytes, take}
use Rattle.repl_store.specs.Numbers.{IsGreatest}
use Rattle.repl_store.proofs.known.greatest.Given as goal

abbrev pub invariant-loop-name : goal.invariant-loop-name
invariant-loop-name l = IsGreatest l.fn.own (take l.name-index (map string_bytes l.fn.names)) l.known
