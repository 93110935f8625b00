-- The canonical text as far as it is printed, and its length.
use Rattle.std.proofs.Common.{◌≡◌, ◌-◌, ◌^◌, ◌≤◌, length, min, take, flat_map, All}
use Rattle.repl_lsn.specs.declared.history.TheConstants.{HISTORY_LIMIT}
use Rattle.repl_lsn.specs.History.{line_text}
use Rattle.repl_lsn.proofs.Printed.{IsPrinted}
use Rattle.repl_lsn.proofs.history_lines.history_text.Given as goal

abbrev pub invariant-loop-part : goal.invariant-loop-part
invariant-loop-part l = record {
  size : l.have ≡ min (length (flat_map line_text (take l.part-index l.part-items))) (2 ^ 64 - 1);
  text : l.have ≤ HISTORY_LIMIT → l.text.items ≡ flat_map line_text (take l.part-index l.part-items);
  printed : All IsPrinted (take l.part-index l.part-items);
}
