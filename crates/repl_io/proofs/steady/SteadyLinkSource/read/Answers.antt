-- What is copied into the room is the next of the input.
use Rattle.std.proofs.Common.{arith, refl}
use Rattle.std.proofs.lemmas.Grind.{common_steps}
use Rattle.repl_io.proofs.Moves.{reads-next}
use Rattle.repl_io.proofs.steady.SteadyLinkSource.read.Goals as goal

pub returns-clause-reads : goal.returns-clause-reads
returns-clause-reads c =
    record {
      moved = reads-next _ _ _ _ (grind (arith, common_steps)) (grind (arith, common_steps)) (grind (arith, common_steps));
      faults = refl;
      quiets = refl;
      ends = refl;
    }
