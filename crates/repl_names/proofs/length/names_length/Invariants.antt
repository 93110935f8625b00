-- What each turn of the loop in `names_length` keeps, and that it ends.
use Rattle.std.proofs.Common.{◌≡◌, ◌+◌, ◌-◌, ◌^◌, length, min, sum_by, take, All}
use Rattle.repl_text.specs.Text.{IsText}
use Rattle.repl_names.specs.StandbyList.{name_spelling}
use Rattle.repl_names.proofs.length.names_length.Given as goal

abbrev pub invariant-loop-name : goal.invariant-loop-name
invariant-loop-name l = record {
  exact : l.total ≡ min (sum_by (λ n. length (name_spelling n) + 2) (take l.name-index l.names)) (2 ^ 64 - 1);
  texts : All IsText (take l.name-index l.names);
}
