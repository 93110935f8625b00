-- A word of each kind: the law of the kinds.
use Rattle.std.proofs.Common.{◌≡◌, ℕ, List, codes, refl, arith}
use Rattle.repl_control.specs.declared.control.Role.TheVariants as role
use Rattle.repl_lsn.specs.Position.{Spells}
use Rattle.repl_message.specs.declared.message.Side.TheVariants as side
use Rattle.repl_top.specs.declared.kinds.Word.{Word}
use Rattle.repl_top.specs.declared.kinds.Word.TheVariants as kind
use Rattle.repl_top.specs.Words.{IsMagic, IsSystem, IsTimeline, IsWordOf}

zero_system : IsSystem (codes "0") 0
zero_system = (record { some = omega arith; digits = (omega arith, tt); value = refl }, omega arith)

one_timeline : IsTimeline (codes "1") 1
one_timeline = (record { some = omega arith; digits = (omega arith, tt); value = refl }, omega arith, omega arith)

zero_magic : IsMagic (codes "0") 0
zero_magic = (record { some = omega arith; digits = (omega arith, tt); value = refl }, omega arith)

zero_position : Spells (codes "0/0") 0
zero_position = record {
  high = codes "0";
  low = codes "0";
  high_is = record { some = omega arith; few = omega arith; hexadecimal = (omega arith, tt) };
  low_is = record { some = omega arith; few = omega arith; hexadecimal = (omega arith, tt) };
  parts = refl;
  value = refl;
}

pub some_word : (k : Word) → (word : List ℕ) × IsWordOf k word
some_word kind.Text = (codes "", tt)
some_word kind.System = (codes "0", (0, zero_system))
some_word kind.Timeline = (codes "1", (1, one_timeline))
some_word kind.Position = (codes "0/0", (0, zero_position))
some_word kind.Side = (codes "back", (side.Back, refl))
some_word kind.Role = (codes "primary", (role.Primary, refl))
some_word kind.Magic = (codes "0", (0, zero_magic))
