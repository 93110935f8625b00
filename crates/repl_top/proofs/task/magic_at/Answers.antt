-- A word of the kind is read.
use Rattle.std.proofs.Common.{ℕ, List, sym, subst}
use Rattle.repl_top.specs.Words.{IsMagic}
use Rattle.repl_top.proofs.task.magic_at.Goals as goal

pub unreachable-requires : goal.unreachable-requires
unreachable-requires c =
    c.in-None.ensures.none c.requires.0 (subst (λ (w : List ℕ). IsMagic w c.requires.0) (sym c.word_at.ensures) c.requires.1)
