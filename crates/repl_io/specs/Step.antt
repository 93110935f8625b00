-- The steps of a scripted link.
use Rattle.std.specs.Prelude.{ℕ, List, [], get_or}
use Rattle.repl_io.specs.declared.script.LinkStep.{LinkStep}
use Rattle.repl_io.specs.declared.script.LinkStep.TheVariants.{Give, Quiet, Fail}

-- the bytes that a step gives
abbrev pub bytes_of : LinkStep → List ℕ
bytes_of (Give bytes) = bytes.items
bytes_of Quiet = []
bytes_of Fail = []

-- the step with this number, from 0; past the last one it gives nothing
abbrev pub step_at : List LinkStep → ℕ → LinkStep
step_at steps n = get_or steps n Quiet
