-- Lines of a table, read word by word.
use Rattle.std.proofs.Common.{◌≡◌, ℕ, ◌+◌, ◌<◌, ◌≤◌, List, [], ◌∷◌, ◌++◌, length, get_or, take, drop, ◌⊎◌, inl, inr, ⊎_elim, Option, Some, None, refl, sym, ap, subst, ◌∙◌, arith, Contains, All, ◌≢◌, append_assoc}
use Rattle.std.proofs.lemmas.List.{drop_more, drop_all, take-append-drop, length-take-le}
use Rattle.std.proofs.lemmas.List.Elements.{All-contains}
use Rattle.repl_text.specs.Language.{StopsAt}
use Rattle.repl_args.specs.declared.line.Line.{Line}
use Rattle.repl_args.specs.Words.{AreOf}
use Rattle.repl_args.specs.Forms.{PlainOption, PlainTail, no_tail, tail_maybe, tail_options, PlainForm, PlainTable}
use Rattle.repl_args.specs.Lines.{IsLead, IsTail, IsLineOf, IsLine, IsRead}
use Rattle.repl_args.specs.Rests.{GoesOn, Past, IsPastName, IsCommandOf, IsCommand}
use Rattle.repl_args.proofs.Stops.{stops_within, stops_within_nothing, goes_on_none, goes_on_at, stops_there, stops_at_place}
use Rattle.repl_args.proofs.Names.{AreApart, some_in}

-- ---- each part of a form goes on from anywhere

pub some_tail : {K : Type 0} (is : K → List ℕ → Type 0) (t : PlainTail K) → (words : List (List ℕ)) × IsTail is t words
some_tail is no_tail = ([], refl)
some_tail is (tail_maybe kind) = ([], inl refl)
some_tail is (tail_options options) = ([], tt)

pub some_past : {K : Type 0} (is : K → List ℕ → Type 0) → ((kind : K) → (word : List ℕ) × is kind word) → (kinds : List K)
    (T : List (List ℕ) → Type 0) (words : List (List ℕ)) → T words → (more : List (List ℕ)) × Past is kinds T more
some_past is some [] T words t = (words, t)
some_past is some (kind ∷ kinds) T words t =
    let rest = some_past is some kinds T words t in
    let word = some kind in
    (word.0 ∷ rest.0, (word.1, rest.1))

pub some_command_of : {K C : Type 0} (is : K → List ℕ → Type 0) → ((kind : K) → (word : List ℕ) × is kind word) → (form : PlainForm K C)
    → (words : List (List ℕ)) × IsCommandOf is form words
some_command_of is some form =
    let t = some_tail is form.tail in
    let rest = some_past is some form.arguments (IsTail is form.tail) t.0 t.1 in
    (form.name ∷ rest.0, (refl, rest.1))

pub some_command : {K C : Type 0} (is : K → List ℕ → Type 0) → ((kind : K) → (word : List ℕ) × is kind word) → (forms : List (PlainForm K C))
    → 0 < length forms → (words : List (List ℕ)) × IsCommand is forms words
some_command is some forms within =
    let form = some_in forms within in
    let words = some_command_of is some form.0 in
    (words.0, (form.0, form.1, words.1))

-- ---- words of kinds

pub parts_of : {K : Type 0} (is : K → List ℕ → Type 0) (kinds : List K) (T : List (List ℕ) → Type 0) (words : List (List ℕ))
    → Past is kinds T words
    → (arguments : List (List ℕ)) × (rest : List (List ℕ)) × (words ≡ arguments ++ rest) × AreOf is kinds arguments × T rest
parts_of is [] T words b = ([], words, refl, refl, b)
parts_of is (kind ∷ kinds) T [] b = absurd b
parts_of is (kind ∷ kinds) T (word ∷ words) b =
    let p = parts_of is kinds T words b.1 in
    (word ∷ p.0, p.1, ap (λ l. word ∷ l) p.2, (word, p.0, refl, b.0, p.3), p.4)

pub past_parts : {K : Type 0} (is : K → List ℕ → Type 0) (kinds : List K) (T : List (List ℕ) → Type 0) (arguments rest : List (List ℕ))
    → AreOf is kinds arguments → T rest → Past is kinds T (arguments ++ rest)
past_parts is [] T arguments rest a t = subst (λ l. T (l ++ rest)) (sym a) t
past_parts is (kind ∷ kinds) T arguments rest a t = subst (λ l. Past is (kind ∷ kinds) T (l ++ rest)) (sym a.2)
    (a.3, past_parts is kinds T a.1 rest a.4 t)

-- ---- leads

-- the lead's name and value, and then what `T` says
abbrev pub IsLed : {K : Type 0} → (K → List ℕ → Type 0) → Option (PlainOption K) → (List (List ℕ) → Type 0) → List (List ℕ) → Type 0
IsLed is None T words = ⊥
IsLed is (Some lead) T [] = ⊥
IsLed is (Some lead) T (_ ∷ []) = ⊥
IsLed is (Some lead) T (name ∷ value ∷ words) = (lead.name ≡ name) × is lead.kind value × T words

pub no_lead : {K : Type 0} (is : K → List ℕ → Type 0) (lead : Option (PlainOption K)) → IsLead is lead []
no_lead is None = refl
no_lead is (Some o) = inl refl

pub with_lead : {K : Type 0} (is : K → List ℕ → Type 0) (lead : Option (PlainOption K)) (T : List (List ℕ) → Type 0)
    (front rest : List (List ℕ)) → IsLead is lead front → T rest → T (front ++ rest) ⊎ IsLed is lead T (front ++ rest)
with_lead is None T front rest i t = inl (subst (λ f. T (f ++ rest)) (sym i) t)
with_lead is (Some o) T front rest i t = ⊎_elim (λ e. inl (subst (λ f. T (f ++ rest)) (sym e) t))
    (λ v. inr (subst (λ f. IsLed is (Some o) T (f ++ rest)) (sym v.1) (refl, v.2, t))) i

pub led_front : {K : Type 0} (is : K → List ℕ → Type 0) (lead : Option (PlainOption K)) (T : List (List ℕ) → Type 0) (words : List (List ℕ))
    → IsLed is lead T words → (front : List (List ℕ)) × (rest : List (List ℕ)) × (words ≡ front ++ rest) × IsLead is lead front × T rest
led_front is None T words h = absurd h
led_front is (Some o) T [] h = absurd h
led_front is (Some o) T (n ∷ []) h = absurd h
led_front is (Some o) T (n ∷ v ∷ rest) h = (n ∷ v ∷ [], rest, refl, inr (v, ap (λ x. x ∷ v ∷ []) (sym h.0), h.1), h.2)

led_more : {K : Type 0} (is : K → List ℕ → Type 0) (lead : Option (PlainOption K)) (T U : List (List ℕ) → Type 0) (words : List (List ℕ))
    → ((rest : List (List ℕ)) → T rest → U rest) → IsLed is lead T words → IsLed is lead U words
led_more is None T U words more h = h
led_more is (Some o) T U [] more h = h
led_more is (Some o) T U (n ∷ []) more h = h
led_more is (Some o) T U (n ∷ v ∷ rest) more h = (h.0, h.1, more rest h.2)

-- no word at all, one, and what is after two
led_nothing : {K : Type 0} (is : K → List ℕ → Type 0) (lead : Option (PlainOption K)) (T : List (List ℕ) → Type 0) → IsLed is lead T [] → ⊥
led_nothing is None T h = h
led_nothing is (Some o) T h = h

led_one : {K : Type 0} (is : K → List ℕ → Type 0) (lead : Option (PlainOption K)) (T : List (List ℕ) → Type 0) (n : List ℕ)
    → IsLed is lead T (n ∷ []) → ⊥
led_one is None T n h = h
led_one is (Some o) T n h = h

led_name : {K : Type 0} (is : K → List ℕ → Type 0) (lead : Option (PlainOption K)) (T : List (List ℕ) → Type 0) (n : List ℕ)
    (more : List (List ℕ)) → IsLed is lead T (n ∷ more) → (o : PlainOption K) × (lead ≡ Some o) × (o.name ≡ n)
led_name is None T n more h = absurd h
led_name is (Some o) T n [] h = absurd h
led_name is (Some o) T n (v ∷ more) h = (o, refl, h.0)

led_parts : {K : Type 0} (is : K → List ℕ → Type 0) (lead : Option (PlainOption K)) (o : PlainOption K) (T : List (List ℕ) → Type 0)
    (n v : List ℕ) (more : List (List ℕ)) → lead ≡ Some o → IsLed is lead T (n ∷ v ∷ more) → is o.kind v × T more
led_parts is lead o T n v more e h = let parts = subst (λ l. IsLed is l T (n ∷ v ∷ more)) e h in (parts.1, parts.2)

led_from : {K : Type 0} (is : K → List ℕ → Type 0) (lead : Option (PlainOption K)) (o : PlainOption K) (T : List (List ℕ) → Type 0)
    (n v : List ℕ) (more : List (List ℕ)) → lead ≡ Some o → o.name ≡ n → is o.kind v → T more → IsLed is lead T (n ∷ v ∷ more)
led_from is lead o T n v more e named valued t = subst (λ l. IsLed is l T (n ∷ v ∷ more)) (sym e) (named, valued, t)

-- ---- lines

-- a lead, a command's name and what stands after it are a line
abbrev pub line_at : {K C : Type 0} (is : K → List ℕ → Type 0) (table : PlainTable K C) (form : PlainForm K C) (words front : List (List ℕ))
    (name : List ℕ) (rest : List (List ℕ)) → words ≡ front ++ name ∷ rest → IsLead is table.lead front → form.name ≡ name
    → IsPastName is form rest → IsLineOf is table form words
line_at is table form words front name rest e i named b =
    let p = parts_of is form.arguments (IsTail is form.tail) rest b in
    record {
      lead = front;
      arguments = p.0;
      rest = p.1;
      parts = e ∙ ap (λ r. front ++ name ∷ r) p.2 ∙ ap (λ n. front ++ n ∷ (p.0 ++ p.1)) (sym named)
          ∙ sym (append_assoc front (form.name ∷ p.0) p.1);
      lead_is = i;
      arguments_are = p.3;
      rest_is = p.4;
    }

pub line_from : {K C : Type 0} (is : K → List ℕ → Type 0) (table : PlainTable K C) (form : PlainForm K C) (front rest : List (List ℕ))
    → IsLead is table.lead front → IsCommandOf is form rest → IsLineOf is table form (front ++ rest)
line_from is table form front [] i c = absurd c
line_from is table form front (name ∷ rest) i c = line_at is table form (front ++ name ∷ rest) front name rest refl i c.0 c.1

-- what is answered of it
pub reads : {K C : Type 0} (is : K → List ℕ → Type 0) (table : PlainTable K C) (form : PlainForm K C) (words : List (List ℕ)) (line : Line C)
    → Contains table.forms form → form.command ≡ line.command → line.first < length words
    → line.past ≡ line.first + 1 + length form.arguments → IsLead is table.lead (take line.first words)
    → form.name ≡ get_or words line.first [] → IsPastName is form (drop (line.first + 1) words) → IsRead is table words line
reads is table form words line one command within past i named b =
    let front = take line.first words in
    let parts = sym (take-append-drop line.first words) ∙ ap (λ r. front ++ r) (drop_more words line.first [] within) in
    record {
      form = form;
      one = one;
      command = command;
      read = record {
        is_line = line_at is table form words front (get_or words line.first []) (drop (line.first + 1) words) parts i named b;
        first = sym (length-take-le line.first words (omega (arith, within)));
        past = past;
      };
    }

-- a line is a command, or a lead and one
pub line_cases : {K C : Type 0} (is : K → List ℕ → Type 0) (table : PlainTable K C) (form : PlainForm K C) (words : List (List ℕ))
    → IsLineOf is table form words → IsCommandOf is form words ⊎ IsLed is table.lead (IsCommandOf is form) words
line_cases is table form words l =
    let whole : words ≡ l.lead ++ form.name ∷ (l.arguments ++ l.rest) =
    l.parts ∙ append_assoc l.lead (form.name ∷ l.arguments) l.rest in
    let past = past_parts is form.arguments (IsTail is form.tail) l.arguments l.rest l.arguments_are l.rest_is in
    subst (λ w. IsCommandOf is form w ⊎ IsLed is table.lead (IsCommandOf is form) w) (sym whole)
    (with_lead is table.lead (IsCommandOf is form) l.lead (form.name ∷ (l.arguments ++ l.rest)) l.lead_is (refl, past))

pub command_is_line : {K C : Type 0} (is : K → List ℕ → Type 0) (table : PlainTable K C) (words : List (List ℕ))
    → IsCommand is table.forms words → IsLine is table words
command_is_line is table words c = (c.0, c.1, line_from is table c.0 [] words (no_lead is table.lead) c.2)

led_is_line : {K C : Type 0} (is : K → List ℕ → Type 0) (table : PlainTable K C) (words : List (List ℕ))
    → IsLed is table.lead (IsCommand is table.forms) words → IsLine is table words
led_is_line is table words h =
    let p = led_front is table.lead (IsCommand is table.forms) words h in
    let c = p.4 in
    (c.0, c.1, subst (λ w. IsLineOf is table c.0 w) (sym p.2) (line_from is table c.0 p.0 p.1 p.3 c.2))

pub line_is : {K C : Type 0} (is : K → List ℕ → Type 0) (table : PlainTable K C) (words : List (List ℕ)) → IsLine is table words
    → IsCommand is table.forms words ⊎ IsLed is table.lead (IsCommand is table.forms) words
line_is is table words l = ⊎_elim (λ c. inl (l.0, l.1, c))
    (λ h. inr (led_more is table.lead (IsCommandOf is l.0) (IsCommand is table.forms) words (λ rest c. (l.0, l.1, c)) h))
    (line_cases is table l.0 words l.2)

-- ---- the lead

-- where the words begin with no lead, they are a command's
unled_at : {K C : Type 0} (is : K → List ℕ → Type 0) (table : PlainTable K C) (words : List (List ℕ)) (place : ℕ)
    → ((o : PlainOption K) → table.lead ≡ Some o → 0 < length words → o.name ≡ get_or words 0 [] → ⊥)
    → StopsAt (IsCommand is table.forms) words place → StopsAt (IsLine is table) words place
unled_at is table [] place none s = stops_within_nothing (IsLine is table) (IsCommand is table.forms) place (command_is_line is table)
    (λ l. ⊎_elim (λ c. c) (λ h. absurd (led_nothing is table.lead (IsCommand is table.forms) h)) (line_is is table [] l)) s
unled_at is table (word ∷ rest) place none s = stops_within (IsLine is table) (IsCommand is table.forms) word rest place
    (command_is_line is table)
    (λ more l. ⊎_elim (λ c. c)
    (λ h. let named = led_name is table.lead (IsCommand is table.forms) word more h in absurd (none named.0 named.1 (omega arith) named.2))
    (line_is is table (word ∷ more) l)) s

pub unled : {K C : Type 0} (is : K → List ℕ → Type 0) (table : PlainTable K C) (words : List (List ℕ))
    → ((o : PlainOption K) → table.lead ≡ Some o → 0 < length words → o.name ≡ get_or words 0 [] → ⊥)
    → GoesOn (IsLine is table) words (IsCommand is table.forms) 0
unled is table words none = record {
  stops = λ p s. let e : p ≡ 0 + p = omega arith in subst (λ n. StopsAt (IsLine is table) words n) e (unled_at is table words p none s);
  is = command_is_line is table words;
}

-- after a lead's name and value stands a command
led_goes_there : {K C : Type 0} (is : K → List ℕ → Type 0) (table : PlainTable K C) (o : PlainOption K) (n v : List ℕ) (more : List (List ℕ))
    → AreApart table → table.lead ≡ Some o → o.name ≡ n → IsLine is table (n ∷ v ∷ more) → is o.kind v × IsCommand is table.forms more
led_goes_there is table o n v more a e named l = ⊎_elim (λ c. absurd (a.lead o c.0 e c.1 (named ∙ sym c.2.0)))
    (λ h. led_parts is table.lead o (IsCommand is table.forms) n v more e h) (line_is is table (n ∷ v ∷ more) l)

led_goes_back : {K C : Type 0} (is : K → List ℕ → Type 0) (table : PlainTable K C) (o : PlainOption K) (n v : List ℕ) (more : List (List ℕ))
    → table.lead ≡ Some o → o.name ≡ n → is o.kind v → IsCommand is table.forms more → IsLine is table (n ∷ v ∷ more)
led_goes_back is table o n v more e named valued c =
    led_is_line is table (n ∷ v ∷ more) (led_from is table.lead o (IsCommand is table.forms) n v more e named valued c)

pub led : {K C : Type 0} (is : K → List ℕ → Type 0) (table : PlainTable K C) (o : PlainOption K) (words : List (List ℕ)) → AreApart table
    → table.lead ≡ Some o → 1 < length words → o.name ≡ get_or words 0 [] → is o.kind (get_or words 1 [])
    → GoesOn (IsLine is table) words (IsCommand is table.forms) 2
led is table o words a e within named valued =
    let n = get_or words 0 [] in
    let v = get_or words 1 [] in
    let L = IsLine is table in
    let one : GoesOn L words (λ more. L (n ∷ more)) 1 =
    goes_on_at L words L (λ more. L (n ∷ more)) 0 [] (omega arith) (λ more l. l) (λ more l. l) (goes_on_none L words) in
    goes_on_at L words (λ more. L (n ∷ more)) (IsCommand is table.forms) 1 [] within
    (λ more l. (led_goes_there is table o n v more a e named l).1) (λ more c. led_goes_back is table o n v more e named valued c) one

pub lead_taken : {K : Type 0} (is : K → List ℕ → Type 0) (o : PlainOption K) (words : List (List ℕ)) → 1 < length words
    → o.name ≡ get_or words 0 [] → is o.kind (get_or words 1 []) → IsLead is (Some o) (take 2 words)
lead_taken is o [] within named valued = absurd (omega (arith, within))
lead_taken is o (n ∷ []) within named valued = absurd (omega (arith, within))
lead_taken is o (n ∷ v ∷ rest) within named valued = inr (v, ap (λ x. x ∷ v ∷ []) (sym named), valued)

-- a lead whose value is missing, or none
pub stops_at_lead : {K C : Type 0} (is : K → List ℕ → Type 0) → ((kind : K) → (word : List ℕ) × is kind word) → (table : PlainTable K C)
    (o : PlainOption K) (words : List (List ℕ)) → AreApart table → table.lead ≡ Some o → 0 < length words → o.name ≡ get_or words 0 []
    → (1 < length words → ¬ is o.kind (get_or words 1 [])) → StopsAt (IsLine is table) words 1
stops_at_lead is some table o words a e within named none =
    let L = IsLine is table in
    let n = get_or words 0 [] in
    let command = some_command is some table.forms a.some in
    let value = some o.kind in
    let one : GoesOn L words (λ more. L (n ∷ more)) 1 =
    goes_on_at L words L (λ more. L (n ∷ more)) 0 [] within (λ more l. l) (λ more l. l) (goes_on_none L words) in
    stops_there L words (λ more. L (n ∷ more)) 1 [] one
    (λ l. ⊎_elim (λ c. a.lead o c.0 e c.1 (named ∙ sym c.2.0)) (λ h. led_one is table.lead (IsCommand is table.forms) n h)
    (line_is is table (n ∷ []) l))
    (λ there more l. none there (led_goes_there is table o n (get_or words 1 []) more a e named l).0)
    (value.0 ∷ command.0) (led_goes_back is table o n value.0 command.0 e named value.1 command.1)

-- ---- the command's name

-- no word, or one of no form
pub stops_at_command : {K C : Type 0} (is : K → List ℕ → Type 0) → ((kind : K) → (word : List ℕ) × is kind word) → (table : PlainTable K C)
    (words : List (List ℕ)) (first : ℕ) → AreApart table
    → (first < length words → All (λ (form : PlainForm K C). form.name ≢ get_or words first []) table.forms)
    → GoesOn (IsLine is table) words (IsCommand is table.forms) first → StopsAt (IsLine is table) words first
stops_at_command {K} {C} is some table words first a none g =
    let command = some_command is some table.forms a.some in
    stops_there (IsLine is table) words (IsCommand is table.forms) first [] g (λ c. c.2)
    (λ there more c. All-contains (λ (form : PlainForm K C). form.name ≢ get_or words first []) table.forms c.0 (none there) c.1 c.2.0)
    command.0 command.1

pub named : {K C : Type 0} (is : K → List ℕ → Type 0) (table : PlainTable K C) (form : PlainForm K C) (words : List (List ℕ)) (first : ℕ)
    → AreApart table → Contains table.forms form → first < length words → form.name ≡ get_or words first []
    → GoesOn (IsLine is table) words (IsCommand is table.forms) first
    → GoesOn (IsLine is table) words (IsPastName is form) (first + 1)
named is table form words first a one within is_named g =
    goes_on_at (IsLine is table) words (IsCommand is table.forms) (IsPastName is form) first [] within
    (λ more c. let same = a.forms c.0 form c.1 one (c.2.0 ∙ sym is_named) in subst (λ f. IsPastName is f more) same c.2.1)
    (λ more b. (form, one, (is_named, b))) g

-- ---- the arguments

one_argument : {K : Type 0} (is : K → List ℕ → Type 0) (kinds : List K) (T : List (List ℕ) → Type 0) (place : ℕ) (kind : K)
    (L : List (List ℕ) → Type 0) (words : List (List ℕ)) → drop place kinds ≡ kind ∷ drop (place + 1) kinds → place < length words
    → is kind (get_or words place [])
    → GoesOn L words (Past is (drop place kinds) T) place → GoesOn L words (Past is (drop (place + 1) kinds) T) (place + 1)
one_argument is kinds T place kind L words e within valued g =
    goes_on_at L words (Past is (drop place kinds) T) (Past is (drop (place + 1) kinds) T) place [] within
    (λ more b. (subst (λ ks. Past is ks T (get_or words place [] ∷ more)) e b).1)
    (λ more b. subst (λ ks. Past is ks T (get_or words place [] ∷ more)) (sym e) (valued, b)) g

pub argument : {K : Type 0} (is : K → List ℕ → Type 0) (kinds : List K) (T : List (List ℕ) → Type 0) (place : ℕ) (d : K)
    (L : List (List ℕ) → Type 0) (words : List (List ℕ)) → place < length kinds → place < length words
    → is (get_or kinds place d) (get_or words place [])
    → GoesOn L words (Past is (drop place kinds) T) place → GoesOn L words (Past is (drop (place + 1) kinds) T) (place + 1)
argument is kinds T place d L words there within valued g =
    one_argument is kinds T place (get_or kinds place d) L words (drop_more kinds place d there) within valued g

-- an argument that is missing, or none of its kind
pub stops_at_argument : {K : Type 0} (is : K → List ℕ → Type 0) → ((kind : K) → (word : List ℕ) × is kind word) → (kinds : List K)
    (t : PlainTail K) (place : ℕ) (d : K) (L : List (List ℕ) → Type 0) (words : List (List ℕ)) → place < length kinds
    → (place < length words → ¬ is (get_or kinds place d) (get_or words place []))
    → GoesOn L words (Past is (drop place kinds) (IsTail is t)) place → StopsAt L words place
stops_at_argument is some kinds t place d L words there none g =
    let kind = get_or kinds place d in
    let more_kinds = drop (place + 1) kinds in
    let end = some_tail is t in
    let line = some_past is some (kind ∷ more_kinds) (IsTail is t) end.0 end.1 in
    let now = subst (λ ks. GoesOn L words (Past is ks (IsTail is t)) place) (drop_more kinds place d there) g in
    stops_there L words (Past is (kind ∷ more_kinds) (IsTail is t)) place [] now (λ b. b) (λ within more b. none within b.0) line.0 line.1

-- after the last stands the tail
pub past_arguments : {K : Type 0} (is : K → List ℕ → Type 0) (kinds : List K) (T : List (List ℕ) → Type 0) (place : ℕ)
    (L : List (List ℕ) → Type 0) (words : List (List ℕ)) → length kinds ≤ place
    → GoesOn L words (Past is (drop place kinds) T) place → GoesOn L words T place
past_arguments is kinds T place L words all g = subst (λ ks. GoesOn L words (Past is ks T) place) (drop_all place kinds all) g

-- ---- tails

pub stops_at_nothing : {K : Type 0} (is : K → List ℕ → Type 0) (words : List (List ℕ)) → 0 < length words
    → StopsAt (IsTail is no_tail) words 0
stops_at_nothing is words within =
    let L = IsTail is no_tail in
    stops_at_place L words L 0 [] (goes_on_none L words) within (λ more e. cc) [] refl

pub stops_at_maybe : {K : Type 0} (is : K → List ℕ → Type 0) (kind : K) (words : List (List ℕ)) → 0 < length words
    → ¬ is kind (get_or words 0 []) → StopsAt (IsTail is (tail_maybe kind)) words 0
stops_at_maybe is kind words within none =
    let L = IsTail is (tail_maybe kind) in
    stops_at_place L words L 0 [] (goes_on_none L words) within
    (λ more t. ⊎_elim (λ e. cc) (λ v. none (subst (λ w. is kind w) (sym (ap (λ l. get_or l 0 []) v.1)) v.2)) t) [] (inl refl)

pub stops_past_maybe : {K : Type 0} (is : K → List ℕ → Type 0) (kind : K) (words : List (List ℕ)) → 1 < length words
    → is kind (get_or words 0 []) → StopsAt (IsTail is (tail_maybe kind)) words 1
stops_past_maybe is kind words within valued =
    let L = IsTail is (tail_maybe kind) in
    let word = get_or words 0 [] in
    let one : GoesOn L words (λ more. L (word ∷ more)) 1 =
    goes_on_at L words L (λ more. L (word ∷ more)) 0 [] (omega arith) (λ more l. l) (λ more l. l) (goes_on_none L words) in
    stops_at_place L words (λ more. L (word ∷ more)) 1 [] one within
    (λ more t. ⊎_elim (λ e. cc) (λ v. absurd (omega (arith, ap length v.1))) t) [] (inr (word, refl, valued))

pub one_maybe : {K : Type 0} (is : K → List ℕ → Type 0) (kind : K) (words : List (List ℕ)) → 0 < length words → length words ≤ 1
    → is kind (get_or words 0 []) → IsTail is (tail_maybe kind) words
one_maybe is kind [] some few valued = absurd (omega (arith, some))
one_maybe is kind (word ∷ []) some few valued = inr (word, refl, valued)
one_maybe is kind (word ∷ next ∷ words) some few valued = absurd (omega (arith, few))
