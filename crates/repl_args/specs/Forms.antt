-- A table of forms, as plain data: what a program's table says, with no reference in it, so that a contract may name it.
use Rattle.std.specs.Prelude.{ℕ, Bool, true, ◌&&◌, not, nat_lt, List, [], ◌∷◌, ◌++◌, length, map, Option, Some, None}
use Rattle.std.specs.List.{list_any, list_all}
use Rattle.std.specs.Str.{bytes_eq}
use Rattle.repl_args.specs.declared.table.OptionForm.{OptionForm}
use Rattle.repl_args.specs.declared.table.Tail.{Tail}
use Rattle.repl_args.specs.declared.table.Tail.TheVariants as tail
use Rattle.repl_args.specs.declared.table.Form.{Form}
use Rattle.repl_args.specs.declared.table.Table.{Table}

-- an option's name, and the kind of its value
pub record PlainOption (K : Type 0) : Type 0 where
  pub name : List ℕ
  pub kind : K

-- what stands after the arguments: nothing, at most one word of this kind, or some of these options
pub data PlainTail (K : Type 0) : Type 0 where
  no_tail : PlainTail K
  tail_maybe : K → PlainTail K
  tail_options : List (PlainOption K) → PlainTail K

-- a command, its name, and the kinds of its arguments
pub record PlainForm (K C : Type 0) : Type 0 where
  pub command : C
  pub name : List ℕ
  pub arguments : List K
  pub tail : PlainTail K

-- the option that may stand before the command, and the forms
pub record PlainTable (K C : Type 0) : Type 0 where
  pub lead : Option (PlainOption K)
  pub forms : List (PlainForm K C)

-- ---- what a table in the program says

abbrev pub plain_option : {K : Type 0} → OptionForm K → PlainOption K
plain_option option = record { name = option.name.now; kind = option.kind }

abbrev pub plain_lead : {K : Type 0} → Option (OptionForm K) → Option (PlainOption K)
plain_lead None = None
plain_lead (Some lead) = Some (plain_option lead)

abbrev pub plain_tail : {K : Type 0} → Tail K → PlainTail K
plain_tail tail.Nothing = no_tail
plain_tail (tail.Maybe kind) = tail_maybe kind
plain_tail (tail.Options options) = tail_options (map plain_option options.now)

abbrev pub plain_form : {K C : Type 0} → Form K C → PlainForm K C
plain_form form = record {
  command = form.command;
  name = form.name.now;
  arguments = form.arguments.now;
  tail = plain_tail form.tail;
}

abbrev pub plain : {K C : Type 0} → Table K C → PlainTable K C
plain table = record { lead = plain_lead table.lead; forms = map plain_form table.forms.now }

-- ---- names that tell forms and options apart, as a test, which computes at a table that is written out

abbrev pub are_distinct : List (List ℕ) → Bool
are_distinct [] = true
are_distinct (name ∷ names) = not (list_any (bytes_eq name) names) && are_distinct names

abbrev pub option_name : {K : Type 0} → PlainOption K → List ℕ
option_name option = option.name

abbrev pub form_name : {K C : Type 0} → PlainForm K C → List ℕ
form_name form = form.name

abbrev pub lead_names : {K : Type 0} → Option (PlainOption K) → List (List ℕ)
lead_names None = []
lead_names (Some lead) = lead.name ∷ []

abbrev pub are_options_distinct : {K : Type 0} → PlainTail K → Bool
are_options_distinct no_tail = true
are_options_distinct (tail_maybe kind) = true
are_options_distinct (tail_options options) = are_distinct (map option_name options)

-- there is a form, no two forms have one name, nor has the lead that of a form, and no two options of a form have one name
abbrev pub is_table : {K C : Type 0} → PlainTable K C → Bool
is_table table =
    (nat_lt 0 (length table.forms) && are_distinct (lead_names table.lead ++ map form_name table.forms))
    && list_all (λ form. are_options_distinct form.tail) table.forms
