-- What lines say, one after another.
use Rattle.std.proofs.Common.{◌≡◌, ℕ, ◌<◌, ◌≤◌, List, [], ◌∷◌, ◌++◌, refl, sym, ap, subst, ◌∙◌, inl, inr, arith}
use Rattle.repl_lsn.specs.declared.history.Part.{Part}
use Rattle.repl_lsn.specs.declared.fault.HistoryFault.{HistoryFault}
use Rattle.repl_lsn.specs.declared.fault.HistoryFault.TheVariants as fault
use Rattle.repl_lsn.specs.History.{IsIgnored, SaysPart, SayParts, IsLineFault, last_number, last_switch}
use Rattle.repl_lsn.proofs.Said.{ignored_no_number, one_part}

pub ignored_no_part : (line : List ℕ) (p : Part) → IsIgnored line → SaysPart line p → ⊥
ignored_no_part line p ignored s = ignored_no_number line p.tli s.past ignored s.number

pub one_saying : (lines : List (List ℕ)) (a b : List Part) → SayParts lines a → SayParts lines b → a ≡ b
one_saying [] a b p q = p ∙ sym q
one_saying (line ∷ lines) a b (inl p) (inl q) = one_saying lines a b p.1 q.1
one_saying (line ∷ lines) a b (inl p) (inr q) = absurd (ignored_no_part line q.0 p.0 q.3)
one_saying (line ∷ lines) a b (inr p) (inl q) = absurd (ignored_no_part line p.0 q.0 p.3)
one_saying (line ∷ lines) a b (inr p) (inr q) =
    p.2 ∙ ap (λ x. x ∷ p.1) (one_part line p.0 q.0 p.3 q.3) ∙ ap (λ xs. q.0 ∷ xs) (one_saying lines p.1 q.1 p.4 q.4) ∙ sym q.2

-- one line more

pub say_ignored : (before : List (List ℕ)) (line : List ℕ) (parts : List Part) → SayParts before parts → IsIgnored line
    → SayParts (before ++ line ∷ []) parts
say_ignored [] line parts h ignored = inl (ignored, h)
say_ignored (first ∷ before) line parts (inl h) ignored = inl (h.0, say_ignored before line parts h.1 ignored)
say_ignored (first ∷ before) line parts (inr h) ignored = inr (h.0, h.1, h.2, h.3, say_ignored before line h.1 h.4 ignored)

pub say_part : (before : List (List ℕ)) (line : List ℕ) (parts : List Part) (p : Part) → SayParts before parts → SaysPart line p
    → SayParts (before ++ line ∷ []) (parts ++ p ∷ [])
say_part [] line parts p h says = inr (p, [], ap (λ xs. xs ++ p ∷ []) h, says, refl)
say_part (first ∷ before) line parts p (inl h) says = inl (h.0, say_part before line parts p h.1 says)
say_part (first ∷ before) line parts p (inr h) says =
    inr (h.0, h.1 ++ p ∷ [], ap (λ xs. xs ++ p ∷ []) h.2, h.3, say_part before line h.1 p h.4 says)

-- lines in the middle

pub say_split : (before lines : List (List ℕ)) (parts : List Part) → SayParts (before ++ lines) parts → (a : List Part) × (b : List Part)
    × (parts ≡ a ++ b) × SayParts before a × SayParts lines b
say_split [] lines parts h = ([], parts, refl, refl, h)
say_split (first ∷ before) lines parts (inl h) =
    let r = say_split before lines parts h.1 in
    (r.0, r.1, r.2, inl (h.0, r.3), r.4)
say_split (first ∷ before) lines parts (inr h) =
    let r = say_split before lines h.1 h.4 in
    (h.0 ∷ r.0, r.1, h.2 ∙ ap (λ xs. h.0 ∷ xs) r.2, inr (h.0, r.0, refl, h.3, r.3), r.4)

-- a line that is wrong

pub fault_not_ignored : (own : ℕ) (before : List Part) (line : List ℕ) (at : ℕ) (f : HistoryFault) → IsLineFault own before line at f
    → IsIgnored line → ⊥
fault_not_ignored own before line at (fault.TooLong have) h ignored = h
fault_not_ignored own before line at (fault.NotNumber place) h ignored = h.1 ignored
fault_not_ignored own before line at (fault.NotSwitch place) h ignored = ignored_no_number line h.1.0 h.1.1 ignored h.1.2
fault_not_ignored own before line at (fault.NotIncreasing place) h ignored = ignored_no_part line h.1.0 ignored h.1.1
fault_not_ignored own before line at (fault.NotBelowOwn place) h ignored = ignored_no_part line h.1.0 ignored h.1.1
fault_not_ignored own before line at (fault.SwitchFalls place) h ignored = ignored_no_part line h.1.0 ignored h.1.1
fault_not_ignored own before line at fault.Memory h ignored = h

other_order : (m n : ℕ) → m ≤ n → n < m → ⊥
other_order m n a b = omega arith

pub fault_not_said : (own : ℕ) (before : List Part) (line : List ℕ) (at : ℕ) (f : HistoryFault) (p : Part)
    → IsLineFault own before line at f → SaysPart line p → last_number before < p.tli → p.tli < own → last_switch before ≤ p.switch → ⊥
fault_not_said own before line at (fault.TooLong have) p h says rises below falls = h
fault_not_said own before line at (fault.NotNumber place) p h says rises below falls = h.2 p.tli says.past says.number
fault_not_said own before line at (fault.NotSwitch place) p h says rises below falls = h.2 p says
fault_not_said own before line at (fault.NotIncreasing place) p h says rises below falls =
    let same = ap (λ q. q.tli) (one_part line h.1.0 p h.1.1 says) in
    other_order p.tli (last_number before) (subst (λ n. n ≤ last_number before) same h.1.2) rises
fault_not_said own before line at (fault.NotBelowOwn place) p h says rises below falls =
    let same = ap (λ q. q.tli) (one_part line h.1.0 p h.1.1 says) in
    other_order own p.tli (subst (λ n. own ≤ n) same h.1.3) below
fault_not_said own before line at (fault.SwitchFalls place) p h says rises below falls =
    let same = ap (λ q. q.switch) (one_part line h.1.0 p h.1.1 says) in
    other_order (last_switch before) p.switch falls (subst (λ n. n < last_switch before) same h.1.4)
fault_not_said own before line at fault.Memory p h says rises below falls = h
