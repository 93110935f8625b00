-- A word of the kind is read.
use Rattle.std.proofs.Common.{ℕ, List, sym, subst}
use Rattle.repl_lsn.specs.Position.{Spells}
use Rattle.repl_top.proofs.task.position_at.Goals as goal

pub unreachable-requires : goal.unreachable-requires
unreachable-requires c =
    c.in-None.ensures.none c.requires.0 (subst (λ (w : List ℕ). Spells w c.requires.0) (sym c.word_at.ensures) c.requires.1)
