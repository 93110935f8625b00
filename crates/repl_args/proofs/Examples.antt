-- What the example's caller knows of a line whose command it has.
use Rattle.std.proofs.Common.{◌≡◌, ℕ, ◌+◌, List, [], ◌∷◌, ◌++◌, get_or, drop, All, codes, Option, Some, None, IfSome, refl, sym, ap, subst, ◌∙◌, arith}
use Rattle.std.proofs.lemmas.List.Elements.{All-from_recursion}
use Rattle.repl_args.specs.declared.line.Line.{Line}
use Rattle.repl_args.specs.declared.example.Word.{Word}
use Rattle.repl_args.specs.declared.example.Word.TheVariants as kind
use Rattle.repl_args.specs.declared.example.Command.{Command}
use Rattle.repl_args.specs.Forms.{PlainForm}
use Rattle.repl_args.specs.Options.{HasValue}
use Rattle.repl_args.specs.Lines.{IsLineOf, IsReadOf, IsRead}
use Rattle.repl_args.specs.Example.{IsBit, IsWordOf, form_of, names_form, bit_form, run_form, run_options, the_table}
use Rattle.repl_args.proofs.LinesRead.{form_of_command, line_without_tail, place_of_argument, rest_that_was_read, value_of_kind}

each_form : All (λ (f : PlainForm Word Command). f ≡ form_of f.command) the_table.forms
each_form = All-from_recursion (λ (f : PlainForm Word Command). f ≡ form_of f.command) the_table.forms (refl, (refl, (refl, tt)))

-- the line is one of the form of its command
pub of_command : (words : List (List ℕ)) (line : Line Command) (c : Command) → line.command ≡ c → IsRead IsWordOf the_table words line
    → IsReadOf IsWordOf the_table (form_of c) words line
of_command words line c e read =
    subst (λ d. IsReadOf IsWordOf the_table (form_of d) words line) e (form_of_command IsWordOf the_table form_of words line each_form read)

pub names_line : (words : List (List ℕ)) (line : Line Command) (text : List ℕ) → text ≡ get_or words (line.first + 1) []
    → IsReadOf IsWordOf the_table names_form words line → (lead : List (List ℕ)) × (words ≡ lead ++ codes "names" ∷ text ∷ [])
names_line words line text e read =
    let l = read.is_line in
    let a = l.arguments_are in
    let one : l.arguments ≡ a.0 ∷ [] = a.2 ∙ ap (λ r. a.0 ∷ r) a.4 in
    let word = e ∙ place_of_argument IsWordOf the_table names_form words line read 0 (line.first + 1) (omega arith) (omega arith)
    ∙ ap (λ w. get_or w 0 []) one in (
      l.lead,
      line_without_tail IsWordOf the_table names_form words l l.rest_is
          ∙ ap (λ a. l.lead ++ codes "names" ∷ a) (one ∙ ap (λ w. w ∷ []) (sym word)),
    )

pub bit_line : (words : List (List ℕ)) (line : Line Command) (bit : List ℕ) → bit ≡ get_or words (line.first + 1) []
    → IsReadOf IsWordOf the_table bit_form words line
    → (l : IsLineOf IsWordOf the_table bit_form words) × (l.arguments ≡ bit ∷ []) × IsBit bit
bit_line words line bit e read =
    let l = read.is_line in
    let a = l.arguments_are in
    let one : l.arguments ≡ a.0 ∷ [] = a.2 ∙ ap (λ r. a.0 ∷ r) a.4 in
    let word = e ∙ place_of_argument IsWordOf the_table bit_form words line read 0 (line.first + 1) (omega arith) (omega arith)
    ∙ ap (λ w. get_or w 0 []) one in
    (l, one ∙ ap (λ w. w ∷ []) (sym word), subst IsBit (sym word) a.3)

-- the value of an option, and its kind
pub first_value : (words : List (List ℕ)) (line : Line Command) (value : List ℕ) (read : IsReadOf IsWordOf the_table run_form words line)
    → HasValue (drop line.past words) (codes "--first") value → HasValue read.is_line.rest (codes "--first") value × IsBit value
first_value words line value read h =
    let here = subst (λ w. HasValue w (codes "--first") value) (rest_that_was_read IsWordOf the_table run_form words line read) h in (
      here,
      value_of_kind IsWordOf run_options read.is_line.rest 0 (record { name = codes "--first"; kind = kind.Bit }) value refl read.is_line.rest_is
          refl here,
    )

pub if_some_more : {A : Type 0} {P : A → Type 0} (o : Option A) (Q : A → Type 0) → ((x : A) → P x → Q x) → IfSome o P → IfSome o Q
if_some_more None Q more h = tt
if_some_more (Some x) Q more h = more x h
