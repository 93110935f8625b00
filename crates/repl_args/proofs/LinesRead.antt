-- What lines of a table have in common, whatever the table.
use Rattle.std.proofs.Common.{◌≡◌, ℕ, suc, zero, ◌+◌, ◌<◌, true, List, [], ◌∷◌, ◌++◌, length, map, get_or, drop, ⊎_elim, Option, Some, None, slice_get, refl, sym, ap, subst, ◌∙◌, arith, All, Contains, append_assoc, length-append}
use Rattle.std.proofs.lemmas.List.{append-nil, get_or-append-add, get_or_append_left, drop_at}
use Rattle.std.proofs.lemmas.List.Elements.{All-contains}
use Rattle.repl_text.proofs.Stops.{one_place, stops_not}
use Rattle.repl_args.specs.declared.line.Line.{Line}
use Rattle.repl_args.specs.Words.{AreOf}
use Rattle.repl_args.specs.Forms.{PlainOption, PlainForm, PlainTable, are_distinct, option_name}
use Rattle.repl_args.specs.Options.{HasValue, AreOptions}
use Rattle.repl_args.specs.Lines.{IsLineOf, IsLine, IsReadOf, IsRead, IsUsage}
use Rattle.repl_args.specs.Rests.{IsCommandOf}
use Rattle.repl_args.proofs.Names.{AreApart, contains_at_place, one_of_name}
use Rattle.repl_args.proofs.Lines.{IsLed, line_cases}
use Rattle.repl_args.proofs.OptionWords.{value_of_option}

-- ---- one form and one usage

command_name : {K C : Type 0} (is : K → List ℕ → Type 0) (form : PlainForm K C) (words : List (List ℕ)) → IsCommandOf is form words
    → form.name ≡ get_or words 0 []
command_name is form [] c = absurd c
command_name is form (word ∷ words) c = c.0

led_name_and_rest : {K : Type 0} (is : K → List ℕ → Type 0) (lead : Option (PlainOption K)) (T : List (List ℕ) → Type 0)
    (words : List (List ℕ)) → IsLed is lead T words → (o : PlainOption K) × (lead ≡ Some o) × (o.name ≡ get_or words 0 []) × T (drop 2 words)
led_name_and_rest is None T words h = absurd h
led_name_and_rest is (Some o) T [] h = absurd h
led_name_and_rest is (Some o) T (n ∷ []) h = absurd h
led_name_and_rest is (Some o) T (n ∷ v ∷ words) h = (o, refl, h.0, h.2)

-- a command and a lead do not begin alike
not_both : {K C : Type 0} (is : K → List ℕ → Type 0) (table : PlainTable K C) (words : List (List ℕ)) (f g : PlainForm K C) → AreApart table
    → Contains table.forms f → IsCommandOf is f words → IsLed is table.lead (IsCommandOf is g) words → ⊥
not_both is table words f g a one c h =
    let led = led_name_and_rest is table.lead (IsCommandOf is g) words h in
    a.lead led.0 f led.1 one (led.2 ∙ sym (command_name is f words c))

pub one_form_of_words : {K C : Type 0} (is : K → List ℕ → Type 0) (table : PlainTable K C) (words : List (List ℕ)) (f g : PlainForm K C)
    → AreApart table → Contains table.forms f → Contains table.forms g → IsLineOf is table f words → IsLineOf is table g words → f ≡ g
one_form_of_words is table words f g a one other p q = ⊎_elim
    (λ c. ⊎_elim (λ d. a.forms f g one other (command_name is f words c ∙ sym (command_name is g words d)))
    (λ h. absurd (not_both is table words f g a one c h)) (line_cases is table g words q))
    (λ h. ⊎_elim (λ d. absurd (not_both is table words g f a other d h))
    (λ k.
    let first = led_name_and_rest is table.lead (IsCommandOf is f) words h in
    let second = led_name_and_rest is table.lead (IsCommandOf is g) words k in
    a.forms f g one other (command_name is f (drop 2 words) first.3 ∙ sym (command_name is g (drop 2 words) second.3)))
    (line_cases is table g words q))
    (line_cases is table f words p)

pub one_usage_of_words : {K C : Type 0} (is : K → List ℕ → Type 0) (table : PlainTable K C) (words : List (List ℕ)) (j k : ℕ)
    → IsUsage is table words j → IsUsage is table words k → j ≡ k
one_usage_of_words is table words j k p q =
    p.number ∙ ap (λ place. place + 1) (one_place (IsLine is table) words p.place q.place p.stops q.stops) ∙ sym q.number

pub no_usage_of_line : {K C : Type 0} (is : K → List ℕ → Type 0) (table : PlainTable K C) (words : List (List ℕ)) (k : ℕ)
    → IsLine is table words → IsUsage is table words k → ⊥
no_usage_of_line is table words k l u = stops_not (IsLine is table) words u.place l u.stops

-- ---- what stands where

whole_line : {K C : Type 0} (is : K → List ℕ → Type 0) (table : PlainTable K C) (form : PlainForm K C) (words : List (List ℕ))
    (l : IsLineOf is table form words) → words ≡ l.lead ++ form.name ∷ (l.arguments ++ l.rest)
whole_line is table form words l = l.parts ∙ append_assoc l.lead (form.name ∷ l.arguments) l.rest

of_kind : {K : Type 0} (is : K → List ℕ → Type 0) (kinds : List K) (arguments rest : List (List ℕ)) (i : ℕ) (kind : K)
    → AreOf is kinds arguments → slice_get kinds i ≡ Some kind → is kind (get_or (arguments ++ rest) i [])
of_kind is [] arguments rest i kind a e = absurd (cc)
of_kind is (k ∷ kinds) arguments rest zero kind a e =
    let same : k ≡ kind = cc in
    subst (λ l. is kind (get_or (l ++ rest) 0 [])) (sym a.2) (subst (λ k. is k a.0) same a.3)
of_kind is (k ∷ kinds) arguments rest (suc i) kind a e =
    subst (λ l. is kind (get_or (l ++ rest) (suc i) [])) (sym a.2) (of_kind is kinds a.1 rest i kind a.4 e)

-- an argument stands after the lead and the name
pub argument_at : {K C : Type 0} (is : K → List ℕ → Type 0) (table : PlainTable K C) (form : PlainForm K C) (words : List (List ℕ))
    (l : IsLineOf is table form words) (i : ℕ) → get_or words (length l.lead + 1 + i) [] ≡ get_or (l.arguments ++ l.rest) i []
argument_at is table form words l i =
    let there = get_or-append-add l.lead (form.name ∷ (l.arguments ++ l.rest)) (suc i) [] in
    let place : length l.lead + suc i ≡ length l.lead + 1 + i = omega arith in
    ap (λ w. get_or w (length l.lead + 1 + i) []) (whole_line is table form words l)
    ∙ ap (λ n. get_or (l.lead ++ form.name ∷ (l.arguments ++ l.rest)) n []) (sym place) ∙ there

-- and is of its kind
pub argument_of_kind : {K C : Type 0} (is : K → List ℕ → Type 0) (table : PlainTable K C) (form : PlainForm K C) (words : List (List ℕ))
    (l : IsLineOf is table form words) (i : ℕ) (kind : K) → slice_get form.arguments i ≡ Some kind
    → is kind (get_or words (length l.lead + 1 + i) [])
argument_of_kind is table form words l i kind e =
    subst (λ w. is kind w) (sym (argument_at is table form words l i))
    (of_kind is form.arguments l.arguments l.rest i kind l.arguments_are e)

as_many : {K : Type 0} (is : K → List ℕ → Type 0) (kinds : List K) (arguments : List (List ℕ)) → AreOf is kinds arguments
    → length arguments ≡ length kinds
as_many is [] arguments a = ap length a
as_many is (k ∷ kinds) arguments a = ap length a.2 ∙ ap suc (as_many is kinds a.1 a.4)

-- after the arguments stands the tail
pub rest_at : {K C : Type 0} (is : K → List ℕ → Type 0) (table : PlainTable K C) (form : PlainForm K C) (words : List (List ℕ))
    (l : IsLineOf is table form words) → drop (length l.lead + 1 + length form.arguments) words ≡ l.rest
rest_at is table form words l =
    let front = l.lead ++ form.name ∷ l.arguments in
    let long : length front ≡ length l.lead + 1 + length form.arguments =
    omega (arith, length-append l.lead (form.name ∷ l.arguments), as_many is form.arguments l.arguments l.arguments_are) in
    ap (λ w. drop (length l.lead + 1 + length form.arguments) w) l.parts
    ∙ drop_at front l.rest (length l.lead + 1 + length form.arguments) long

-- where there is none, the line ends with its arguments
pub line_without_tail : {K C : Type 0} (is : K → List ℕ → Type 0) (table : PlainTable K C) (form : PlainForm K C) (words : List (List ℕ))
    (l : IsLineOf is table form words) → l.rest ≡ [] → words ≡ l.lead ++ form.name ∷ l.arguments
line_without_tail is table form words l none =
    l.parts ∙ ap (λ r. (l.lead ++ form.name ∷ l.arguments) ++ r) none ∙ append-nil (l.lead ++ form.name ∷ l.arguments)

-- ---- values of options

-- the value after an option's name is of its kind
pub value_of_kind : {K : Type 0} (is : K → List ℕ → Type 0) (options : List (PlainOption K)) (words : List (List ℕ)) (i : ℕ)
    (o : PlainOption K) (value : List ℕ) → are_distinct (map option_name options) ≡ true → AreOptions is options words
    → slice_get options i ≡ Some o → HasValue words o.name value → is o.kind value
value_of_kind is options words i o value distinct a e h =
    let v = value_of_option is options [] words o.name value a h in
    let same = one_of_name option_name options v.option o distinct v.one (contains_at_place options i o e) v.named in
    subst (λ p. is p.kind value) same v.valued

-- ---- of a line that was read

-- where a function tells each form of the table by its command, it tells the line's
pub form_of_command : {K C : Type 0} (is : K → List ℕ → Type 0) (table : PlainTable K C) (form_of : C → PlainForm K C)
    (words : List (List ℕ)) (line : Line C) → All (λ f. f ≡ form_of f.command) table.forms → IsRead is table words line
    → IsReadOf is table (form_of line.command) words line
form_of_command is table form_of words line all r =
    let same = All-contains (λ f. f ≡ form_of f.command) table.forms r.form all r.one ∙ ap form_of r.command in
    subst (λ f. IsReadOf is table f words line) same r.read

pub argument_that_was_read : {K C : Type 0} (is : K → List ℕ → Type 0) (table : PlainTable K C) (form : PlainForm K C)
    (words : List (List ℕ)) (line : Line C) (read : IsReadOf is table form words line) (i place : ℕ) (kind : K) → place ≡ line.first + 1 + i
    → slice_get form.arguments i ≡ Some kind → is kind (get_or words place [])
argument_that_was_read is table form words line read i place kind at e =
    let there : length read.is_line.lead + 1 + i ≡ place = omega (arith, read.first, at) in
    subst (λ n. is kind (get_or words n [])) there (argument_of_kind is table form words read.is_line i kind e)

pub place_of_argument : {K C : Type 0} (is : K → List ℕ → Type 0) (table : PlainTable K C) (form : PlainForm K C) (words : List (List ℕ))
    (line : Line C) (read : IsReadOf is table form words line) (i place : ℕ) → place ≡ line.first + 1 + i → i < length form.arguments
    → get_or words place [] ≡ get_or read.is_line.arguments i []
place_of_argument is table form words line read i place at within =
    let l = read.is_line in
    let many = as_many is form.arguments l.arguments l.arguments_are in
    let there : place ≡ length l.lead + 1 + i = omega (arith, read.first, at) in
    ap (λ n. get_or words n []) there ∙ argument_at is table form words l i
    ∙ get_or_append_left l.arguments l.rest [] i (omega (arith, within, many))

pub rest_that_was_read : {K C : Type 0} (is : K → List ℕ → Type 0) (table : PlainTable K C) (form : PlainForm K C) (words : List (List ℕ))
    (line : Line C) (read : IsReadOf is table form words line) → drop line.past words ≡ read.is_line.rest
rest_that_was_read is table form words line read =
    let e : line.past ≡ length read.is_line.lead + 1 + length form.arguments = omega (arith, read.first, read.past) in
    ap (λ n. drop n words) e ∙ rest_at is table form words read.is_line
