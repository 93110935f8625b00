-- What is known of a line whose command is known.
use Rattle.std.proofs.Common.{◌≡◌, ℕ, ◌+◌, List, [], ◌∷◌, get_or, drop, All, Contains, refl, sym, ap, subst, ◌∙◌, arith}
use Rattle.std.proofs.lemmas.List.Elements.{All-from_recursion}
use Rattle.repl_control.specs.declared.control.Role.{Role}
use Rattle.repl_identify.specs.declared.identity.SystemIdentity.{SystemIdentity}
use Rattle.repl_lsn.specs.Position.{Spells}
use Rattle.repl_message.specs.declared.message.Side.{Side}
use Rattle.repl_args.specs.declared.line.Line.{Line}
use Rattle.repl_args.specs.Forms.{PlainForm, tail_maybe}
use Rattle.repl_args.specs.Lines.{IsLine, IsLineOf, IsRead, IsReadOf, IsTail}
use Rattle.repl_args.proofs.LinesRead.{form_of_command, place_of_argument, rest_that_was_read}
use Rattle.repl_top.specs.declared.kinds.Word.{Word}
use Rattle.repl_top.specs.declared.kinds.Word.TheVariants as kind
use Rattle.repl_top.specs.declared.table.Command.{Command}
use Rattle.repl_top.specs.declared.table.Command.TheVariants as command
use Rattle.repl_top.specs.declared.task.Task.{Task}
use Rattle.repl_top.specs.declared.task.Task.TheVariants as task
use Rattle.repl_top.specs.Words.{IsRole, IsSide, IsSystem, IsTask, IsTimeline, IsWordOf, SaysMagic, check_form, form_of, frames_form, history_form, identify_form, init_form, names_form, role_word, side_word, status_form, the_table}

each_form : All (λ (f : PlainForm Word Command). f ≡ form_of f.command) the_table.forms
each_form = All-from_recursion (λ (f : PlainForm Word Command). f ≡ form_of f.command) the_table.forms
    (refl, (refl, (refl, (refl, (refl, (refl, (refl, tt)))))))

-- the line is one of the form of its command
pub of_command : (words : List (List ℕ)) (line : Line Command) (c : Command) → line.command ≡ c → IsRead IsWordOf the_table words line
    → IsReadOf IsWordOf the_table (form_of c) words line
of_command words line c e read =
    subst (λ d. IsReadOf IsWordOf the_table (form_of d) words line) e (form_of_command IsWordOf the_table form_of words line each_form read)

-- the word at this place, where the arguments are these
word_is : (form : PlainForm Word Command) (words : List (List ℕ)) (line : Line Command) (read : IsReadOf IsWordOf the_table form words line)
    (list : List (List ℕ)) → read.is_line.arguments ≡ list → (i place : ℕ) → get_or words place [] ≡ get_or read.is_line.arguments i []
    → get_or words place [] ≡ get_or list i []
word_is form words line read list shape i place there = there ∙ ap (λ w. get_or w i []) shape

pub identify_line : (words : List (List ℕ)) (line : Line Command) (identity : SystemIdentity)
    → IsReadOf IsWordOf the_table identify_form words line → IsSystem (get_or words (line.first + 1) []) identity.system
    → IsTimeline (get_or words (line.first + 2) []) identity.timeline → Spells (get_or words (line.first + 3) []) identity.flushed
    → IsTask words (task.Identify identity)
identify_line words line identity read system timeline flushed =
    let l = read.is_line in
    let a = l.arguments_are in
    let b = a.4 in
    let c = b.4 in
    let shape : l.arguments ≡ a.0 ∷ b.0 ∷ c.0 ∷ [] = a.2 ∙ ap (λ r. a.0 ∷ r) (b.2 ∙ ap (λ r. b.0 ∷ r) (c.2 ∙ ap (λ r. c.0 ∷ r) c.4)) in
    let first = word_is identify_form words line read _ shape 0 (line.first + 1)
    (place_of_argument IsWordOf the_table identify_form words line read 0 (line.first + 1) (omega arith) (omega arith)) in
    let second = word_is identify_form words line read _ shape 1 (line.first + 2)
    (place_of_argument IsWordOf the_table identify_form words line read 1 (line.first + 2) (omega arith) (omega arith)) in
    let third = word_is identify_form words line read _ shape 2 (line.first + 3)
    (place_of_argument IsWordOf the_table identify_form words line read 2 (line.first + 3) (omega arith) (omega arith)) in (
      l,
      a.0,
      b.0,
      c.0,
      shape,
      subst (λ w. IsSystem w identity.system) first system,
      subst (λ w. IsTimeline w identity.timeline) second timeline,
      subst (λ w. Spells w identity.flushed) third flushed,
    )

-- the one argument of a form that has one
one_argument : (form : PlainForm Word Command) (k : Word) (words : List (List ℕ)) (line : Line Command) → form.arguments ≡ k ∷ []
    → (read : IsReadOf IsWordOf the_table form words line) → read.is_line.arguments ≡ get_or words (line.first + 1) [] ∷ []
one_argument form k words line one read =
    let l = read.is_line in
    let a = rw one at l.arguments_are in
    let shape : l.arguments ≡ a.0 ∷ [] = a.2 ∙ ap (λ r. a.0 ∷ r) a.4 in
    let first = word_is form words line read _ shape 0 (line.first + 1)
    (place_of_argument IsWordOf the_table form words line read 0 (line.first + 1) (omega arith) (rw one (omega arith))) in
    shape ∙ ap (λ w. w ∷ []) (sym first)

pub frames_line : (words : List (List ℕ)) (line : Line Command) (side : Side) → IsReadOf IsWordOf the_table frames_form words line
    → IsSide (get_or words (line.first + 1) []) side → IsTask words (task.Frames side)
frames_line words line side read is =
    (read.is_line, one_argument frames_form kind.Side words line refl read ∙ ap (λ w. w ∷ []) is)

pub names_line : (words : List (List ℕ)) (line : Line Command) (text : List ℕ) → IsReadOf IsWordOf the_table names_form words line
    → text ≡ get_or words (line.first + 1) [] → (l : IsLineOf IsWordOf the_table names_form words) × (l.arguments ≡ text ∷ [])
names_line words line text read is =
    (read.is_line, one_argument names_form kind.Text words line refl read ∙ ap (λ w. w ∷ []) (sym is))

pub history_line : (words : List (List ℕ)) (line : Line Command) (own : ℕ) → IsReadOf IsWordOf the_table history_form words line
    → IsTimeline (get_or words (line.first + 1) []) own → IsTask words (task.History own)
history_line words line own read is =
    (read.is_line, get_or words (line.first + 1) [], one_argument history_form kind.Timeline words line refl read, is)

-- the tail of `init`
pub init_tail : (words : List (List ℕ)) (line : Line Command) → IsReadOf IsWordOf the_table init_form words line
    → IsTail IsWordOf (tail_maybe kind.Magic) (drop line.past words)
init_tail words line read =
    subst (λ w. IsTail IsWordOf (tail_maybe kind.Magic) w) (sym (rest_that_was_read IsWordOf the_table init_form words line read))
    read.is_line.rest_is

pub init_line : (words : List (List ℕ)) (line : Line Command) (role : Role) (sysid magic : ℕ)
    → IsReadOf IsWordOf the_table init_form words line → IsRole (get_or words (line.first + 1) []) role
    → IsSystem (get_or words (line.first + 2) []) sysid → SaysMagic (drop line.past words) magic
    → IsTask words (task.Init role sysid magic)
init_line words line role sysid magic read role_is system magic_is =
    let l = read.is_line in
    let a = l.arguments_are in
    let b = a.4 in
    let shape : l.arguments ≡ a.0 ∷ b.0 ∷ [] = a.2 ∙ ap (λ r. a.0 ∷ r) (b.2 ∙ ap (λ r. b.0 ∷ r) b.4) in
    let first = word_is init_form words line read _ shape 0 (line.first + 1)
    (place_of_argument IsWordOf the_table init_form words line read 0 (line.first + 1) (omega arith) (omega arith)) in
    let second = word_is init_form words line read _ shape 1 (line.first + 2)
    (place_of_argument IsWordOf the_table init_form words line read 1 (line.first + 2) (omega arith) (omega arith)) in (
      l,
      b.0,
      shape ∙ ap (λ w. w ∷ b.0 ∷ []) (sym first ∙ role_is),
      subst (λ w. IsSystem w sysid) second system,
      subst (λ w. SaysMagic w magic) (rest_that_was_read IsWordOf the_table init_form words line read) magic_is,
    )

-- the words of a task are a line
contains_form : (c : Command) → Contains the_table.forms (form_of c)
contains_form command.Identify = (0, omega arith, refl)
contains_form command.Frames = (1, omega arith, refl)
contains_form command.Names = (2, omega arith, refl)
contains_form command.History = (3, omega arith, refl)
contains_form command.Init = (4, omega arith, refl)
contains_form command.Status = (5, omega arith, refl)
contains_form command.Check = (6, omega arith, refl)

pub task_is_line : (words : List (List ℕ)) (t : Task) → IsTask words t → IsLine IsWordOf the_table words
task_is_line words (task.Identify identity) is = (identify_form, contains_form command.Identify, is.0)
task_is_line words (task.Frames side) is = (frames_form, contains_form command.Frames, is.0)
task_is_line words (task.Names text) is = (names_form, contains_form command.Names, is.0)
task_is_line words (task.History own) is = (history_form, contains_form command.History, is.0)
task_is_line words (task.Init role sysid magic) is = (init_form, contains_form command.Init, is.0)
task_is_line words task.Status is = (status_form, contains_form command.Status, is)
task_is_line words task.Check is = (check_form, contains_form command.Check, is)
