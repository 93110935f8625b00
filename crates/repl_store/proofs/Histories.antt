-- One thing at most is wrong with the text of a history.
use Rattle.std.proofs.Common.{◌≡◌, ◌≢◌, ℕ, ◌+◌, ◌<◌, ◌≤◌, ◌⊎◌, List, [], ◌∷◌, ◌++◌, length, refl, sym, ◌∙◌, ap, subst, ⊎_elim, inl, inr, arith}
use Rattle.repl_lsn.proofs.Lines.{lines_are}
use Rattle.repl_lsn.proofs.Order.{in_order_at}
use Rattle.repl_lsn.proofs.Outside.{none_outside, one_outside}
use Rattle.repl_lsn.proofs.Reading.{read_only}
use Rattle.repl_lsn.proofs.Said.{one_part}
use Rattle.repl_lsn.proofs.Sayings.{fault_not_ignored, fault_not_said, one_saying, say_split}
use Rattle.repl_lsn.specs.Between.{AreBetween, IsFaultBetween, IsOutsideFault}
use Rattle.repl_lsn.specs.History.{BreaksAt, InOrder, IsHistoryFault, IsLineFault, Path, SaysHistory, SaysPart, SayParts, last_number}
use Rattle.repl_lsn.specs.declared.fault.HistoryFault.{HistoryFault}
use Rattle.repl_lsn.specs.declared.fault.HistoryFault.TheVariants as fault
use Rattle.repl_lsn.specs.declared.history.Part.{Part}
use Rattle.repl_lsn.specs.declared.history.TheConstants.{HISTORY_LIMIT}

-- ---- of one line

module _ (own : ℕ) (before : List Part) (line : List ℕ) (at : ℕ) where
  -- where one fault says that a part's number rises, and another that it does not
  not_rises : (p q : Part) → SaysPart line p → SaysPart line q → p.tli ≤ last_number before → last_number before < q.tli → ⊥
  not_rises p q first second falls rises =
      let same = ap (λ (r : Part). r.tli) (one_part line p q first second) in omega (arith, same, falls, rises)

  not_below : (p q : Part) → SaysPart line p → SaysPart line q → own ≤ p.tli → q.tli < own → ⊥
  not_below p q first second above below =
      let same = ap (λ (r : Part). r.tli) (one_part line p q first second) in omega (arith, same, above, below)

  -- after lines that say some parts one thing is wrong with a line
  line_fault_one : (f g : HistoryFault) → IsLineFault own before line at f → IsLineFault own before line at g → f ≡ g
  line_fault_one (fault.TooLong have) g h k = absurd h
  line_fault_one fault.Memory g h k = absurd h
  line_fault_one (fault.NotNumber a) (fault.TooLong have) h k = absurd k
  line_fault_one (fault.NotNumber a) fault.Memory h k = absurd k
  line_fault_one (fault.NotNumber a) (fault.NotNumber b) h k = ap (λ n. fault.NotNumber n) (h.0 ∙ sym k.0)
  line_fault_one (fault.NotNumber a) (fault.NotSwitch b) h k = absurd (h.2 k.1.0 k.1.1 k.1.2)
  line_fault_one (fault.NotNumber a) (fault.NotIncreasing b) h k = absurd (h.2 (k.1.0).tli (k.1.1).past (k.1.1).number)
  line_fault_one (fault.NotNumber a) (fault.NotBelowOwn b) h k = absurd (h.2 (k.1.0).tli (k.1.1).past (k.1.1).number)
  line_fault_one (fault.NotNumber a) (fault.SwitchFalls b) h k = absurd (h.2 (k.1.0).tli (k.1.1).past (k.1.1).number)
  line_fault_one (fault.NotSwitch a) (fault.TooLong have) h k = absurd k
  line_fault_one (fault.NotSwitch a) fault.Memory h k = absurd k
  line_fault_one (fault.NotSwitch a) (fault.NotNumber b) h k = absurd (k.2 h.1.0 h.1.1 h.1.2)
  line_fault_one (fault.NotSwitch a) (fault.NotSwitch b) h k = ap (λ n. fault.NotSwitch n) (h.0 ∙ sym k.0)
  line_fault_one (fault.NotSwitch a) (fault.NotIncreasing b) h k = absurd (h.2 k.1.0 k.1.1)
  line_fault_one (fault.NotSwitch a) (fault.NotBelowOwn b) h k = absurd (h.2 k.1.0 k.1.1)
  line_fault_one (fault.NotSwitch a) (fault.SwitchFalls b) h k = absurd (h.2 k.1.0 k.1.1)
  line_fault_one (fault.NotIncreasing a) (fault.TooLong have) h k = absurd k
  line_fault_one (fault.NotIncreasing a) fault.Memory h k = absurd k
  line_fault_one (fault.NotIncreasing a) (fault.NotNumber b) h k = absurd (k.2 (h.1.0).tli (h.1.1).past (h.1.1).number)
  line_fault_one (fault.NotIncreasing a) (fault.NotSwitch b) h k = absurd (k.2 h.1.0 h.1.1)
  line_fault_one (fault.NotIncreasing a) (fault.NotIncreasing b) h k = ap (λ n. fault.NotIncreasing n) (h.0 ∙ sym k.0)
  line_fault_one (fault.NotIncreasing a) (fault.NotBelowOwn b) h k = absurd (not_rises h.1.0 k.1.0 h.1.1 k.1.1 h.1.2 k.1.2)
  line_fault_one (fault.NotIncreasing a) (fault.SwitchFalls b) h k = absurd (not_rises h.1.0 k.1.0 h.1.1 k.1.1 h.1.2 k.1.2)
  line_fault_one (fault.NotBelowOwn a) (fault.TooLong have) h k = absurd k
  line_fault_one (fault.NotBelowOwn a) fault.Memory h k = absurd k
  line_fault_one (fault.NotBelowOwn a) (fault.NotNumber b) h k = absurd (k.2 (h.1.0).tli (h.1.1).past (h.1.1).number)
  line_fault_one (fault.NotBelowOwn a) (fault.NotSwitch b) h k = absurd (k.2 h.1.0 h.1.1)
  line_fault_one (fault.NotBelowOwn a) (fault.NotIncreasing b) h k = absurd (not_rises k.1.0 h.1.0 k.1.1 h.1.1 k.1.2 h.1.2)
  line_fault_one (fault.NotBelowOwn a) (fault.NotBelowOwn b) h k = ap (λ n. fault.NotBelowOwn n) (h.0 ∙ sym k.0)
  line_fault_one (fault.NotBelowOwn a) (fault.SwitchFalls b) h k = absurd (not_below h.1.0 k.1.0 h.1.1 k.1.1 h.1.3 k.1.3)
  line_fault_one (fault.SwitchFalls a) (fault.TooLong have) h k = absurd k
  line_fault_one (fault.SwitchFalls a) fault.Memory h k = absurd k
  line_fault_one (fault.SwitchFalls a) (fault.NotNumber b) h k = absurd (k.2 (h.1.0).tli (h.1.1).past (h.1.1).number)
  line_fault_one (fault.SwitchFalls a) (fault.NotSwitch b) h k = absurd (k.2 h.1.0 h.1.1)
  line_fault_one (fault.SwitchFalls a) (fault.NotIncreasing b) h k = absurd (not_rises k.1.0 h.1.0 k.1.1 h.1.1 k.1.2 h.1.2)
  line_fault_one (fault.SwitchFalls a) (fault.NotBelowOwn b) h k = absurd (not_below k.1.0 h.1.0 k.1.1 h.1.1 k.1.3 h.1.3)
  line_fault_one (fault.SwitchFalls a) (fault.SwitchFalls b) h k = ap (λ n. fault.SwitchFalls n) (h.0 ∙ sym k.0)

-- ---- of the lines

same_head : {A : Type 0} (a b : A) (more rest : List A) → a ∷ more ≡ b ∷ rest → a ≡ b
same_head a b more rest e = cc

same_tail : {A : Type 0} (a b : A) (more rest : List A) → a ∷ more ≡ b ∷ rest → more ≡ rest
same_tail a b more rest e = cc

-- one list ends within another, before this element
abbrev Within : List (List ℕ) → List ℕ → List (List ℕ) → Type 0
Within a x b = (between : List (List ℕ)) × (b ≡ a ++ x ∷ between)

-- two elements of a list are one, or one stands before the other
two_places : (a b : List (List ℕ)) (x y : List ℕ) (more rest : List (List ℕ)) → a ++ x ∷ more ≡ b ++ y ∷ rest
    → ((a ≡ b) × (x ≡ y)) ⊎ Within a x b ⊎ Within b y a
two_places [] [] x y more rest e = inl (refl, same_head x y more rest e)
two_places [] (z ∷ b) x y more rest e = inr (inl (b, ap (λ h. h ∷ b) (sym (same_head x z more (b ++ y ∷ rest) e))))
two_places (z ∷ a) [] x y more rest e = inr (inr (a, ap (λ h. h ∷ a) (same_head z y (a ++ x ∷ more) rest e)))
two_places (z ∷ a) (w ∷ b) x y more rest e = ⊎_elim
    (λ (same : (a ≡ b) × (x ≡ y)). inl (ap (λ h. h ∷ a) first ∙ ap (λ t. w ∷ t) same.0, same.1))
    (λ (apart : Within a x b ⊎ Within b y a). ⊎_elim
    (λ (h : Within a x b). inr (inl (h.0, ap (λ t. w ∷ t) h.1 ∙ ap (λ z. z ∷ a ++ x ∷ h.0) (sym first))))
    (λ (h : Within b y a). inr (inr (h.0, ap (λ t. z ∷ t) h.1 ∙ ap (λ z. z ∷ b ++ y ∷ h.0) first)))
    apart)
    (two_places a b x y more rest (same_tail z w (a ++ x ∷ more) (b ++ y ∷ rest) e))
  where
    first : z ≡ w
    first = same_head z w (a ++ x ∷ more) (b ++ y ∷ rest) e

-- a line that is wrong is none of lines that say the beginning of a history
not_within : (own : ℕ) (before : List (List ℕ)) (line : List ℕ) (lines : List (List ℕ)) (parts all : List Part) (at : ℕ) (f : HistoryFault)
    → SayParts before parts → IsLineFault own parts line at f → Within before line lines → SayParts lines all → InOrder own all → ⊥
not_within own before line lines parts all at f say wrong inside say_all order =
    let s = say_split before (line ∷ inside.0) all (subst (λ x. SayParts x all) inside.1 say_all) in
    let same = one_saying before s.0 parts s.3 say in
    ⊎_elim
    (λ h. fault_not_ignored own parts line at f wrong h.0)
    (λ h.
    let whole : all ≡ parts ++ h.0 ∷ h.1 = s.2 ∙ ap (λ x. x ++ s.1) same ∙ ap (λ x. parts ++ x) h.2 in
    let placed = in_order_at own parts h.0 h.1 (h.3).number.in_range.0 (subst (λ x. InOrder own x) whole order) in
    fault_not_said own parts line at f h.0 wrong h.3 placed.0 placed.1 placed.2)
    s.4

breaks_one : (own : ℕ) (text : List ℕ) (f g : HistoryFault) → BreaksAt own text f → BreaksAt own text g → f ≡ g
breaks_one own text f g a b = ⊎_elim
    (λ (same : (a.before ≡ b.before) × (a.line ≡ b.line)). at_one same.0 same.1)
    (λ (apart : Within a.before a.line b.before ⊎ Within b.before b.line a.before). ⊎_elim
    (λ (inside : Within a.before a.line b.before).
    absurd (not_within own a.before a.line b.before a.parts b.parts (length a.before + 1) f a.say a.cause inside b.say b.in_order))
    (λ (inside : Within b.before b.line a.before).
    absurd (not_within own b.before b.line a.before b.parts a.parts (length b.before + 1) g b.say b.cause inside a.say a.in_order))
    apart)
    (two_places a.before b.before a.line b.line a.after b.after (lines_are text (a.before ++ a.line ∷ a.after) a.are
    ∙ sym (lines_are text (b.before ++ b.line ∷ b.after) b.are)))
  where
    at_one : a.before ≡ b.before → a.line ≡ b.line → f ≡ g
    at_one before line =
        let P : List (List ℕ) → Type 0 = λ x. SayParts x a.parts in
        let parts : a.parts ≡ b.parts = one_saying b.before a.parts b.parts (subst P before a.say) b.say in
        let Q : List Part → Type 0 = λ x. IsLineFault own x a.line (length a.before + 1) f in
        let R : List ℕ → Type 0 = λ x. IsLineFault own b.parts x (length a.before + 1) f in
        let S : List (List ℕ) → Type 0 = λ x. IsLineFault own b.parts b.line (length x + 1) f in
        line_fault_one own b.parts b.line (length b.before + 1) f g (subst S before (subst R line (subst Q parts a.cause))) b.cause

-- ---- of the text

-- a text that is wrong is too long, or breaks at a line
abbrev IsTooLong : List ℕ → HistoryFault → Type 0
IsTooLong text f = (HISTORY_LIMIT < length text) × (f ≡ fault.TooLong (length text))

two_ways : (own : ℕ) (text : List ℕ) (f : HistoryFault) → f ≢ fault.Memory → IsHistoryFault own text f → IsTooLong text f ⊎ BreaksAt own text f
two_ways own text (fault.TooLong have) other is = inl (is.0, ap (λ n. fault.TooLong n) is.1)
two_ways own text (fault.NotNumber line) other is = inr is
two_ways own text (fault.NotSwitch line) other is = inr is
two_ways own text (fault.NotIncreasing line) other is = inr is
two_ways own text (fault.NotBelowOwn line) other is = inr is
two_ways own text (fault.SwitchFalls line) other is = inr is
two_ways own text fault.Memory other is = absurd (other refl)

history_fault_one : (own : ℕ) (text : List ℕ) (f g : HistoryFault) → f ≢ fault.Memory → g ≢ fault.Memory → IsHistoryFault own text f
    → IsHistoryFault own text g → f ≡ g
history_fault_one own text f g other_f other_g is_f is_g = one (two_ways own text f other_f is_f) (two_ways own text g other_g is_g)
  where
    one : IsTooLong text f ⊎ BreaksAt own text f → IsTooLong text g ⊎ BreaksAt own text g → f ≡ g
    one (inl a) (inl b) = a.1 ∙ sym b.1
    one (inl a) (inr b) = absurd (omega (arith, a.0, b.short))
    one (inr a) (inl b) = absurd (omega (arith, b.0, a.short))
    one (inr a) (inr b) = breaks_one own text f g a b

-- nothing is wrong with a text that says a history within the log
pub within_only : (own : ℕ) (text : List ℕ) (least most : ℕ) (path : Path) (wrong : HistoryFault) → path.own ≡ own → SaysHistory text path
    → AreBetween least most path.parents → IsFaultBetween own text least most wrong → wrong ≡ fault.Memory
within_only own text least most path wrong same says between is = ⊎_elim
    (λ (broken : IsHistoryFault own text wrong). read_only own text wrong path same says broken)
    (λ (outside : IsOutsideFault own text least most wrong).
    absurd (none_outside text path least most outside.1 says between outside.4))
    is

-- and one thing with any other
pub between_one : (own : ℕ) (text : List ℕ) (least most : ℕ) (f g : HistoryFault) → f ≢ fault.Memory → g ≢ fault.Memory
    → IsFaultBetween own text least most f → IsFaultBetween own text least most g → f ≡ g
between_one own text least most f g other_f other_g (inl a) (inl b) = history_fault_one own text f g other_f other_g a b
between_one own text least most f g other_f other_g (inl a) (inr b) = absurd (other_f (read_only own text f b.0 b.2 b.3 a))
between_one own text least most f g other_f other_g (inr a) (inl b) = absurd (other_g (read_only own text g a.0 a.2 a.3 b))
between_one own text least most f g other_f other_g (inr a) (inr b) =
    a.5 ∙ ap (λ n. fault.NotSwitch n) (one_outside text least most a.1 b.1 a.4 b.4) ∙ sym b.5
