-- Reading a history line by line, and that a text says one.
use Rattle.std.proofs.Common.{◌≡◌, ℕ, ◌+◌, ◌≤◌, List, [], ◌∷◌, ◌++◌, length, refl, sym, ap, subst, ◌∙◌, ⊎_elim, append-nil, append_assoc, length-append, arith}
use Rattle.repl_lsn.specs.declared.history.Part.{Part}
use Rattle.repl_lsn.specs.declared.history.TheConstants.{HISTORY_LIMIT}
use Rattle.repl_lsn.specs.declared.fault.HistoryFault.{HistoryFault}
use Rattle.repl_lsn.specs.declared.fault.HistoryFault.TheVariants as fault
use Rattle.repl_lsn.specs.History.{Path, InOrder, IsIgnored, SaysPart, AreLines, SayParts, SaysHistory, IsLineFault, BreaksAt, IsHistoryFault}
use Rattle.repl_lsn.proofs.Lines.{Splits, lines_of, lines_are, are_lines}
use Rattle.repl_lsn.proofs.Order.{in_order_at}
use Rattle.repl_lsn.proofs.Sayings.{one_saying, say_ignored, say_part, say_split, fault_not_ignored, fault_not_said}

-- the lines up to `rest`, of which there are `place`, say these parts, in order
pub record Reads (own : ℕ) (text rest : List ℕ) (place : ℕ) (parts : List Part) : Type 0 where
  pub before : List (List ℕ)
  pub lines : lines_of text ≡ before ++ lines_of rest
  pub count : place ≡ length before
  pub room : place + length rest ≤ length text
  pub say : SayParts before parts
  pub in_order : InOrder own parts

pub reads_none : (own : ℕ) (text : List ℕ) → Reads own text text 0 []
reads_none own text = record { before = []; lines = refl; count = refl; room = omega arith; say = refl; in_order = tt }

before_more : (text rest line past : List ℕ) (before : List (List ℕ)) → lines_of text ≡ before ++ lines_of rest
    → lines_of rest ≡ line ∷ lines_of past → lines_of text ≡ (before ++ line ∷ []) ++ lines_of past
before_more text rest line past before e first = e ∙ ap (λ lines. before ++ lines) first
    ∙ sym (append_assoc before (line ∷ []) (lines_of past))

pub reads_ignored : (own : ℕ) (text rest : List ℕ) (place : ℕ) (parts : List Part) (line past : List ℕ) → Reads own text rest place parts
    → Splits rest line past
    → IsIgnored line → Reads own text past (place + 1) parts
reads_ignored own text rest place parts line past r cut ignored = record {
  before = r.before ++ line ∷ [];
  lines = before_more text rest line past r.before r.lines cut.first;
  count = omega (arith, r.count, length-append r.before (line ∷ []));
  room = omega (arith, r.room, cut.shorter);
  say = say_ignored r.before line parts r.say ignored;
  in_order = r.in_order;
}

pub reads_part : (own : ℕ) (text rest : List ℕ) (place : ℕ) (parts : List Part) (line past : List ℕ) (p : Part)
    → Reads own text rest place parts → Splits rest line past
    → SaysPart line p → InOrder own (parts ++ p ∷ []) → Reads own text past (place + 1) (parts ++ p ∷ [])
reads_part own text rest place parts line past p r cut says in_order = record {
  before = r.before ++ line ∷ [];
  lines = before_more text rest line past r.before r.lines cut.first;
  count = omega (arith, r.count, length-append r.before (line ∷ []));
  room = omega (arith, r.room, cut.shorter);
  say = say_part r.before line parts p r.say says;
  in_order = in_order;
}

pub reads_all : (own : ℕ) (text : List ℕ) (place : ℕ) (parts : List Part) → length text ≤ HISTORY_LIMIT → Reads own text [] place parts
    → SaysHistory text (record { own = own; parents = parts })
reads_all own text place parts short r = record {
  short = short;
  says = record {
    lines = r.before;
    are = subst (AreLines text) (r.lines ∙ append-nil r.before) (are_lines text);
    say = r.say;
  };
  is_path = r.in_order;
}

pub reads_wrong : (own : ℕ) (text rest : List ℕ) (place : ℕ) (parts : List Part) (line past : List ℕ) (f : HistoryFault)
    → length text ≤ HISTORY_LIMIT → Reads own text rest place parts → Splits rest line past
    → IsLineFault own parts line (place + 1) f → BreaksAt own text f
reads_wrong own text rest place parts line past f short r cut wrong = record {
  before = r.before;
  line = line;
  after = lines_of past;
  parts = parts;
  short = short;
  are = subst (AreLines text) (r.lines ∙ ap (λ lines. r.before ++ lines) cut.first) (are_lines text);
  say = r.say;
  in_order = r.in_order;
  cause = subst (λ n. IsLineFault own parts line (n + 1) f) r.count wrong;
}

-- ---- one history, or a refusal

not_broken : (own : ℕ) (text : List ℕ) (f : HistoryFault) (path : Path) → path.own ≡ own → SaysHistory text path → BreaksAt own text f → ⊥
not_broken own text f path same r b =
    let lines = lines_are text r.says.lines r.says.are ∙ sym (lines_are text (b.before ++ b.line ∷ b.after) b.are) in
    let s = say_split b.before (b.line ∷ b.after) path.parents (subst (λ x. SayParts x path.parents) lines r.says.say) in
    let parts = one_saying b.before s.0 b.parts s.3 b.say in
    ⊎_elim
    (λ h. fault_not_ignored own b.parts b.line (length b.before + 1) f b.cause h.0)
    (λ h.
    let whole : path.parents ≡ b.parts ++ h.0 ∷ h.1 = s.2 ∙ ap (λ x. x ++ s.1) parts ∙ ap (λ x. b.parts ++ x) h.2 in
    let order = in_order_at own b.parts h.0 h.1 (h.3).number.in_range.0
    (subst (λ x. InOrder own x) whole (subst (λ n. InOrder n path.parents) same r.is_path)) in
    fault_not_said own b.parts b.line (length b.before + 1) f h.0 b.cause h.3 order.0 order.1 order.2)
    s.4

-- what is read is not refused
pub read_only : (own : ℕ) (text : List ℕ) (f : HistoryFault) (path : Path) → path.own ≡ own → SaysHistory text path
    → IsHistoryFault own text f → f ≡ fault.Memory
read_only own text (fault.TooLong have) path same r h = let short = r.short in absurd (omega arith)
read_only own text (fault.NotNumber place) path same r h = absurd (not_broken own text (fault.NotNumber place) path same r h)
read_only own text (fault.NotSwitch place) path same r h = absurd (not_broken own text (fault.NotSwitch place) path same r h)
read_only own text (fault.NotIncreasing place) path same r h = absurd (not_broken own text (fault.NotIncreasing place) path same r h)
read_only own text (fault.NotBelowOwn place) path same r h = absurd (not_broken own text (fault.NotBelowOwn place) path same r h)
read_only own text (fault.SwitchFalls place) path same r h = absurd (not_broken own text (fault.SwitchFalls place) path same r h)
read_only own text fault.Memory path same r h = refl

pub refused_broken : (own : ℕ) (text : List ℕ) (f : HistoryFault) → BreaksAt own text f → IsHistoryFault own text f
refused_broken own text (fault.TooLong have) b = absurd b.cause
refused_broken own text (fault.NotNumber place) b = b
refused_broken own text (fault.NotSwitch place) b = b
refused_broken own text (fault.NotIncreasing place) b = b
refused_broken own text (fault.NotBelowOwn place) b = b
refused_broken own text (fault.SwitchFalls place) b = b
refused_broken own text fault.Memory b = tt

abbrev path_of : ℕ → List Part → Path
path_of own parents = record { own = own; parents = parents }

pub one_reading : (text : List ℕ) (a b : Path) → SaysHistory text a → SaysHistory text b → a.own ≡ b.own → a ≡ b
one_reading text a b p q same =
    let lines = lines_are text p.says.lines p.says.are ∙ sym (lines_are text q.says.lines q.says.are) in
    let parents = one_saying q.says.lines a.parents b.parents (subst (λ x. SayParts x a.parents) lines p.says.say) q.says.say in
    ap (λ own. path_of own a.parents) same ∙ ap (path_of b.own) parents
