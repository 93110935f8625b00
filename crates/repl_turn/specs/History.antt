-- Histories of events, and what a pass knows of one.
use Rattle.std.specs.Prelude.{◌≡◌, ◌≢◌, ◌⊎◌, ℕ, ◌+◌, ◌<◌, Bool, true, false, ◌||◌, ◌==◌, Option, Some, List, [], ◌∷◌, ◌++◌, length, filter, slice_index, slice_get}
use mathlib.Core.List.{IsPrefix}
use Rattle.atomic_table.specs.Seated.{TableId}
use Rattle.repl_turn.specs.declared.machine.Entry.{Entry}

-- which turn it is, and the state in which its machine was when it was made
pub record TurnId (S : Type 0) : Type 0 where
  pub table : TableId
  pub opening : Option S

-- what a pass knows: its turn, a beginning of the turn's history, and the numbers that it stands for. Its own number comes first, and then
-- those of the passes that were joined into it
pub record Known (S E R : Type 0) : Type 0 where
  pub turn : TurnId S
  pub seen : List (Entry E R)
  pub numbers : List ℕ

abbrev pub has : ℕ → List ℕ → Bool
has n [] = false
has n (m ∷ ms) = (n == m) || has n ms

-- no number is in both lists
abbrev pub Disjoint : List ℕ → List ℕ → Type 0
Disjoint ms ns = (n : ℕ) → has n ms ≡ true → has n ns ≡ false

module _ {E R : Type 0} where
  abbrev pub entry : ℕ → E → R → Entry E R
  entry by event reply = record { by = by; event = event; reply = reply }

  -- the entries that these numbers made
  abbrev pub calls_by : List ℕ → List (Entry E R) → List (Entry E R)
  calls_by ns h = filter (λ (e : Entry E R). has e.by ns) h

module _ {S E R : Type 0} where
  -- the number under which a pass makes its events
  abbrev pub number : Known S E R → ℕ
  number p = slice_index p.numbers 0

  -- the pass's own calls, and those of the passes that were joined into it
  abbrev pub mine : Known S E R → List (Entry E R)
  mine p = calls_by p.numbers p.seen

  module _ (steps : S → E → R → S → Type 0) where
    -- from x these events, with these replies, lead to y
    abbrev pub Replays : S → List (Entry E R) → S → Type 0
    Replays x [] y = x ≡ y
    Replays x (e ∷ es) y = (z : S) × steps x e.event e.reply z × Replays z es y

    -- each event of the history has a reply that the machine's relation gives there
    abbrev pub Legal : TurnId S → List (Entry E R) → Type 0
    Legal turn h = (x : S) × (turn.opening ≡ Some x) × (y : S) × Replays x h y

    -- From x these events lead to y, and this entry, at this place, is a step on the way: the earlier events lead to the state `before`,
    -- where the relation gives the entry's reply and the state `after`, from which the later ones go on
    pub record StepAt (x : S) (h : List (Entry E R)) (y : S) (at : ℕ) (e : Entry E R) : Type 0 where
      pub earlier : List (Entry E R)
      pub later : List (Entry E R)
      pub before : S
      pub after : S
      pub whole : h ≡ earlier ++ e ∷ later
      pub place : length earlier ≡ at
      pub leads : Replays x earlier before
      pub made : steps before e.event e.reply after
      pub goes_on : Replays after later y

    -- The pass made one event. The history that it now knows begins with all that it had seen and ends with the event, and what stands in
    -- between is of other passes
    pub record Acts (p : Known S E R) (event : E) (reply : R) (at : ℕ) (q : Known S E R) : Type 0 where
      pub between : List (Entry E R)
      pub seen : q.seen ≡ (p.seen ++ between) ++ entry (number p) event reply ∷ []
      pub place : slice_get q.seen at ≡ Some (entry (number p) event reply)
      pub last : length q.seen ≡ at + 1
      pub legal : Legal q.turn q.seen
      pub others : calls_by p.numbers between ≡ []
      pub calls : mine q ≡ mine p ++ entry (number p) event reply ∷ []
      pub turn : q.turn ≡ p.turn
      pub numbers : q.numbers ≡ p.numbers

    -- The pass has seen at least one event more, and all of them are of other passes
    pub record Watches (p q : Known S E R) : Type 0 where
      pub more : List (Entry E R)
      pub seen : q.seen ≡ p.seen ++ more
      pub longer : 0 < length more
      pub legal : Legal q.turn q.seen
      pub others : calls_by p.numbers more ≡ []
      pub calls : mine q ≡ mine p
      pub turn : q.turn ≡ p.turn
      pub numbers : q.numbers ≡ p.numbers

    -- What the pass has seen, and what other passes made after it, led from the opening state to this one
    pub record Ends (p : Known S E R) (y : S) : Type 0 where
      pub opening : S
      pub opened : p.turn.opening ≡ Some opening
      pub more : List (Entry E R)
      pub others : calls_by p.numbers more ≡ []
      pub leads : Replays opening (p.seen ++ more) y

    -- The pass takes in the other: it keeps its number and has seen the longer of what both had seen, with the calls of each
    pub record Joins (p o q : Known S E R) : Type 0 where
      pub one : (q.seen ≡ p.seen) ⊎ (q.seen ≡ o.seen)
      pub first : IsPrefix p.seen q.seen
      pub second : IsPrefix o.seen q.seen
      pub legal : Legal q.turn q.seen
      pub first_calls : calls_by p.numbers q.seen ≡ mine p
      pub second_calls : calls_by o.numbers q.seen ≡ mine o
      pub apart : Disjoint p.numbers o.numbers
      pub turn : q.turn ≡ p.turn
      pub numbers : q.numbers ≡ p.numbers ++ o.numbers

  -- a new pass, which has seen as much as the other and made nothing
  pub record Splits (p q : Known S E R) : Type 0 where
    pub numbers : q.numbers ≡ number q ∷ []
    pub other : number q ≢ number p
    pub new : has (number q) p.numbers ≡ false
    pub calls : mine q ≡ []
    pub seen : q.seen ≡ p.seen
    pub turn : q.turn ≡ p.turn
