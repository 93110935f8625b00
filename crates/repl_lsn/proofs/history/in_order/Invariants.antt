-- The parts so far are in order, and the last of them.
use Rattle.std.proofs.Common.{◌≡◌, take}
use Rattle.repl_lsn.specs.History.{InOrder, last_number, last_switch}
use Rattle.repl_lsn.proofs.history.in_order.Given as goal

abbrev pub invariant-loop-part : goal.invariant-loop-part
invariant-loop-part l = record {
  in_order : InOrder l.own (take l.part-index l.parts);
  number : l.number ≡ last_number (take l.part-index l.parts);
  switch : l.switch ≡ last_switch (take l.part-index l.parts);
}
