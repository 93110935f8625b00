-- The example's table, and what each of its lines asks for.
use Rattle.std.specs.Prelude.{◌≡◌, ◌⊎◌, ℕ, List, [], ◌∷◌, ◌++◌, codes, Some, IfSome, IfNone, refl}
use Rattle.std.proofs.Common.{inr}
use Rattle.repl_args.specs.declared.example.Word.{Word}
use Rattle.repl_args.specs.declared.example.Word.TheVariants as kind
use Rattle.repl_args.specs.declared.example.Command.{Command}
use Rattle.repl_args.specs.declared.example.Command.TheVariants as command
use Rattle.repl_args.specs.declared.example.Task.{Task}
use Rattle.repl_args.specs.declared.example.Task.TheVariants as task
use Rattle.repl_args.specs.Forms.{PlainOption, no_tail, tail_maybe, tail_options, PlainForm, PlainTable}
use Rattle.repl_args.specs.Options.{HasValue, HasName}
use Rattle.repl_args.specs.Lines.{IsLineOf}

abbrev pub IsBit : List ℕ → Type 0
IsBit word = (word ≡ codes "0") ⊎ (word ≡ codes "1")

abbrev pub IsWordOf : Word → List ℕ → Type 0
IsWordOf kind.Any word = Unit {0}
IsWordOf kind.Bit word = IsBit word

-- a word of each kind
pub one_is_word : (kind : Word) → (word : List ℕ) × IsWordOf kind word
one_is_word kind.Any = (codes "1", tt)
one_is_word kind.Bit = (codes "1", inr refl)

abbrev pub names_form : PlainForm Word Command
names_form = record { command = command.Names; name = codes "names"; arguments = kind.Any ∷ []; tail = no_tail }

abbrev pub bit_form : PlainForm Word Command
bit_form = record { command = command.Bit; name = codes "bit"; arguments = kind.Bit ∷ []; tail = tail_maybe kind.Any }

abbrev pub run_options : List (PlainOption Word)
run_options = record { name = codes "--first"; kind = kind.Bit } ∷ record { name = codes "--then"; kind = kind.Any } ∷ []

abbrev pub run_form : PlainForm Word Command
run_form = record { command = command.Run; name = codes "run"; arguments = []; tail = tail_options run_options }

-- the form of each command
abbrev pub form_of : Command → PlainForm Word Command
form_of command.Names = names_form
form_of command.Bit = bit_form
form_of command.Run = run_form

abbrev pub the_table : PlainTable Word Command
the_table = record { lead = Some (record { name = codes "-D"; kind = kind.Any }); forms = names_form ∷ bit_form ∷ run_form ∷ [] }

-- the words are the line that asks for this
abbrev pub IsTask : List (List ℕ) → Task → Type 0
IsTask words (task.Names text) = (lead : List (List ℕ)) × (words ≡ lead ++ codes "names" ∷ text.now ∷ [])
IsTask words (task.Bit bit) = (line : IsLineOf IsWordOf the_table bit_form words) × (line.arguments ≡ bit.now ∷ []) × IsBit bit.now
IsTask words (task.Run first) =
    (line : IsLineOf IsWordOf the_table run_form words) × IfSome first (λ value. HasValue line.rest (codes "--first") value.now × IsBit value.now)
    × IfNone first (¬ HasName line.rest (codes "--first"))
