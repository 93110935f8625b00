-- The first line of a history whose switch point lies outside a log: there is one at most, and none where all lie within.
use Rattle.std.proofs.Common.{
  ◌≡◌,
  ℕ,
  ◌+◌,
  ◌≤◌,
  ◌⊎◌,
  List,
  [],
  ◌∷◌,
  ◌++◌,
  length,
  Option,
  Some,
  None,
  MatchOption,
  refl,
  sym,
  ap,
  subst,
  ◌∙◌,
  inl,
  inr,
  arith,
}
use Rattle.std.proofs.lemmas.List.Elements.{All-nil, All-cons, All-append, All-head, All-tail}
use Rattle.repl_lsn.specs.declared.history.Part.{Part}
use Rattle.repl_lsn.specs.History.{Path, SaysPart, AreLines, SayParts, SaysHistory}
use Rattle.repl_lsn.specs.Between.{IsBetween, AreBetween, LiesOutside}
use Rattle.repl_lsn.proofs.Lines.{Splits, lines_of, lines_are, are_lines}
use Rattle.repl_lsn.proofs.Said.{one_part}
use Rattle.repl_lsn.proofs.Sayings.{ignored_no_part, say_split}
use Rattle.repl_lsn.proofs.Reading.{Reads}

-- ---- as the lines are read

-- of the lines so far none lies outside, or first this one
abbrev pub Known : List ℕ → ℕ → ℕ → List Part → Option ℕ → Type 0
Known text least most parts outside = MatchOption outside (AreBetween least most parts) (λ at. LiesOutside text least most at)

pub outside_here : (own least most : ℕ) (text rest : List ℕ) (place : ℕ) (parts : List Part) (line past : List ℕ) (p : Part)
    → Reads own text rest place parts → Splits rest line past → AreBetween least most parts → SaysPart line p → ¬ IsBetween least most p
    → LiesOutside text least most (place + 1)
outside_here own least most text rest place parts line past p r cut between says outside = record {
  before = r.before;
  line = line;
  after = lines_of past;
  parts = parts;
  part = p;
  are = subst (AreLines text) (r.lines ∙ ap (λ lines. r.before ++ lines) cut.first) (are_lines text);
  say = r.say;
  between = between;
  says = says;
  outside = outside;
  place = ap (λ n. n + 1) r.count;
}

pub known_more : (own least most : ℕ) (text rest : List ℕ) (place : ℕ) (parts : List Part) (line past : List ℕ) (p : Part)
    (before after : Option ℕ) → Reads own text rest place parts → Splits rest line past → Known text least most parts before
    → SaysPart line p
    → MatchOption after ((before ≡ None) × (least ≤ p.switch) × (p.switch ≤ most)) (λ at. (before ≡ Some at)
    ⊎ ((before ≡ None) × (at ≡ place + 1) × ¬ ((least ≤ p.switch) × (p.switch ≤ most))))
    → Known text least most (parts ++ p ∷ []) after
known_more own least most text rest place parts line past p before None r cut known says h =
    let between : AreBetween least most parts = subst (Known text least most parts) h.0 known in
    All-append (IsBetween least most) parts (p ∷ []) between (All-cons (IsBetween least most) p [] (h.1, h.2)
    (All-nil (IsBetween least most)))
known_more own least most text rest place parts line past p before (Some at) r cut known says (inl e) =
    subst (Known text least most parts) e known
known_more own least most text rest place parts line past p before (Some at) r cut known says (inr h) =
    let between : AreBetween least most parts = subst (Known text least most parts) h.0 known in
    subst (LiesOutside text least most) (sym h.1) (outside_here own least most text rest place parts line past p r cut between says h.2)

-- ---- one such line

-- what the lines after the first say lies within too
rest_within : (least most : ℕ) (line : List ℕ) (lines : List (List ℕ)) (parts : List Part) → SayParts (line ∷ lines) parts
    → AreBetween least most parts → (others : List Part) × SayParts lines others × AreBetween least most others
rest_within least most line lines parts (inl h) between = (parts, h.1, between)
rest_within least most line lines parts (inr h) between =
    (h.1, h.4, All-tail (IsBetween least most) h.0 h.1 (subst (AreBetween least most) h.2 between))

-- a line that says a part outside is none of lines that say parts within
not_first : (least most : ℕ) (line : List ℕ) (lines : List (List ℕ)) (parts : List Part) (p : Part) → SayParts (line ∷ lines) parts
    → AreBetween least most parts → SaysPart line p → ¬ IsBetween least most p → ⊥
not_first least most line lines parts p (inl h) between says outside = ignored_no_part line p h.0 says
not_first least most line lines parts p (inr h) between says outside =
    let within = All-head (IsBetween least most) h.0 h.1 (subst (AreBetween least most) h.2 between) in
    outside (subst (IsBetween least most) (one_part line h.0 p h.3 says) within)

same_head : {A : Type 0} (a b : A) (more rest : List A) → a ∷ more ≡ b ∷ rest → a ≡ b
same_head a b more rest e = cc

same_tail : {A : Type 0} (a b : A) (more rest : List A) → a ∷ more ≡ b ∷ rest → more ≡ rest
same_tail a b more rest e = cc

-- lines that say parts within, and after them one that says a part outside
record Leads (least most : ℕ) (before : List (List ℕ)) (line : List ℕ) : Type 0 where
  parts : List Part
  part : Part
  say : SayParts before parts
  between : AreBetween least most parts
  says : SaysPart line part
  outside : ¬ IsBetween least most part

leads_on : (least most : ℕ) (first : List ℕ) (before : List (List ℕ)) (line : List ℕ) → Leads least most (first ∷ before) line
    → Leads least most before line
leads_on least most first before line l =
    let rest = rest_within least most first before l.parts l.say l.between in
    record { parts = rest.0; part = l.part; say = rest.1; between = rest.2; says = l.says; outside = l.outside }

same_length : (least most : ℕ) (a b : List (List ℕ)) (line other : List ℕ) (after rest : List (List ℕ))
    → a ++ line ∷ after ≡ b ++ other ∷ rest → Leads least most a line → Leads least most b other → length a ≡ length b
same_length least most [] [] line other after rest e l m = refl
same_length least most [] (first ∷ b) line other after rest e l m =
    let says = subst (λ x. SaysPart x l.part) (same_head line first after (b ++ other ∷ rest) e) l.says in
    absurd (not_first least most first b m.parts l.part m.say m.between says l.outside)
same_length least most (first ∷ a) [] line other after rest e l m =
    let says = subst (λ x. SaysPart x m.part) (sym (same_head first other (a ++ line ∷ after) rest e)) m.says in
    absurd (not_first least most first a l.parts m.part l.say l.between says m.outside)
same_length least most (first ∷ a) (second ∷ b) line other after rest e l m =
    let tail = same_tail first second (a ++ line ∷ after) (b ++ other ∷ rest) e in
    let same = same_length least most a b line other after rest tail (leads_on least most first a line l)
    (leads_on least most second b other m) in
    omega arith

leads_there : (text : List ℕ) (least most at : ℕ) (o : LiesOutside text least most at) → Leads least most o.before o.line
leads_there text least most at o =
    record { parts = o.parts; part = o.part; say = o.say; between = o.between; says = o.says; outside = o.outside }

pub one_outside : (text : List ℕ) (least most a b : ℕ) → LiesOutside text least most a → LiesOutside text least most b → a ≡ b
one_outside text least most a b o p =
    let lines = lines_are text (o.before ++ o.line ∷ o.after) o.are ∙ sym (lines_are text (p.before ++ p.line ∷ p.after) p.are) in
    o.place
    ∙ ap (λ n. n + 1) (same_length least most o.before p.before o.line p.line o.after p.after lines (leads_there text least most a o)
    (leads_there text least most b p)) ∙ sym p.place

-- ---- none where all lie within

pub none_outside : (text : List ℕ) (path : Path) (least most at : ℕ) → SaysHistory text path → AreBetween least most path.parents
    → LiesOutside text least most at → ⊥
none_outside text path least most at r between o =
    let lines = lines_are text r.says.lines r.says.are ∙ sym (lines_are text (o.before ++ o.line ∷ o.after) o.are) in
    let s = say_split o.before (o.line ∷ o.after) path.parents (subst (λ x. SayParts x path.parents) lines r.says.say) in
    not_first least most o.line o.after s.1 o.part s.4 (past_within least most s.0 s.1 (subst (AreBetween least most) s.2 between)) o.says
    o.outside
  where
    past_within : (least most : ℕ) (a b : List Part) → AreBetween least most (a ++ b) → AreBetween least most b
    past_within least most [] b h = h
    past_within least most (p ∷ a) b h = past_within least most a b (All-tail (IsBetween least most) p (a ++ b) h)
