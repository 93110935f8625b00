-- The text is that of none of the sizes so far.
use Rattle.std.proofs.Common.{◌<◌, ℕ}
use Rattle.repl_lsn.specs.Segment.{IsSettingOf}
use Rattle.repl_lsn.proofs.segment.SegSize.from_setting.Given as goal

abbrev pub invariant-loop-log2 : goal.invariant-loop-log2
invariant-loop-log2 l = (k : ℕ) → k < l.log2 → ¬ IsSettingOf l.text k
