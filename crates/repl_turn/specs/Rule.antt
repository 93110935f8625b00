-- The rule of the table under a turn, and what each step tells.
-- Word 0 is the number of tickets drawn, and word 16 the length of the history, which is the ticket that is served. The slot has the
-- machine.
use Rattle.std.specs.Prelude.{◌≡◌, ◌≢◌, ◌⊎◌, ℕ, ◌<◌, ◌≤◌, ◌^◌, true, false, Option, Some, None, List, [], ◌∷◌, ◌++◌, length, slice_index}
use mathlib.Core.List.{IsPrefix}
use mathlib.Core.Option.{some}
use lib.ListN.{get_elem?}
use Rattle.atomic_table.specs.Table.{State, Me, Step}
use Rattle.atomic_table.specs.declared.shared.Seat.{Seat}
use Rattle.repl_turn.specs.declared.machine.Entry.{Entry}
use Rattle.repl_turn.specs.declared.rule.Stage.{Stage}
use Rattle.repl_turn.specs.declared.rule.View.{View}
use Rattle.repl_turn.specs.declared.rule.Stage.TheVariants.{Idle, Waiting, Holding, Unborn, Joining}
use Rattle.repl_turn.specs.History.{has, Disjoint, entry, calls_by, Replays}

-- what a seat knows and holds
abbrev pub Sits : Type 0 → Type 0 → Type 0 → Type 0
Sits S E R = Me S (View S E R)

module _ {E R : Type 0} where
  -- the log begins with what was seen, and what follows is of other numbers
  pub record Begins (ns : List ℕ) (seen log : List (Entry E R)) : Type 0 where
    pub rest : List (Entry E R)
    pub whole : seen ++ rest ≡ log
    pub others : calls_by ns rest ≡ []

module _ {S E R : Type 0} where
  -- the view of a pass that is in no call
  abbrev pub resting : Option S → List (Entry E R) → List ℕ → View S E R
  resting opening seen numbers = record { opening = opening; seen = seen; numbers = numbers; stage = Idle }

  abbrev pub newcomer : S → View S E R
  newcomer x = resting (Some x) [] (0 ∷ [])

  -- the view of a pass that was joined into another
  abbrev pub nobody : View S E R
  nobody = resting None [] []

  abbrev pub at_stage : View S E R → Stage S E R → View S E R
  at_stage v stage = record { opening = v.opening; seen = v.seen; numbers = v.numbers; stage = stage }

  -- the second half of a split, which has no number yet
  abbrev pub unborn : View S E R → View S E R
  unborn v = record { opening = v.opening; seen = v.seen; numbers = []; stage = Unborn v.numbers }

  abbrev pub joining : View S E R → View S E R → View S E R
  joining v w = at_stage v (Joining w.numbers w.seen)

  -- the ticket that is waited with or served
  abbrev pub ticket : Stage S E R → Option ℕ
  ticket (Waiting k) = Some k
  ticket (Holding k x) = Some k
  ticket _ = None

  abbrev pub taken_in : Stage S E R → List ℕ
  taken_in (Joining ns h) = ns
  taken_in _ = []

  -- the numbers that the view stands for
  abbrev pub owned : View S E R → List ℕ
  owned v = v.numbers ++ taken_in v.stage

  -- two views have different tickets, and no number in common
  pub record Apart (v w : View S E R) : Type 0 where
    pub tickets : (k : ℕ) → ticket v.stage ≡ Some k → ticket w.stage ≢ Some k
    pub numbers : Disjoint (owned v) (owned w)

  module _ (log : List (Entry E R)) (top : ℕ) (state : S) (drawn served : ℕ) where
    abbrev pub StageFits : List ℕ → Stage S E R → Type 0
    StageFits ns Idle = Unit {0}
    StageFits ns (Waiting k) = (served ≤ k) × (k < drawn)
    StageFits ns (Holding k x) = (k ≡ served) × (k < drawn) × (x ≡ state)
    StageFits ns (Unborn ms) = (n : ℕ) → has n ms ≡ true → n < top
    StageFits ns (Joining ms h) = Begins ms h log × Disjoint ns ms

    pub record Fits (opening : S) (v : View S E R) : Type 0 where
      pub opened : (x : S) → v.opening ≡ Some x → x ≡ opening
      pub begins : Begins v.numbers v.seen log
      pub below : (n : ℕ) → has n (owned v) ≡ true → n < top
      pub stage : StageFits v.numbers v.stage

  -- the machine is in the slot, in this state, or a seat has it out
  abbrev pub HasPlace : S → State S (View S E R) → Type 0
  HasPlace state s = (get_elem? s.homes 0 ≡ some (some state)) ⊎
      ((j : ℕ) × (u : View S E R) × (k : ℕ) × (x : S) × (get_elem? s.views j ≡ some u) × (u.stage ≡ Holding k x))

  module _ (steps : S → E → R → S → Type 0) where
    -- There is one legal history, which leads to this state. Each view fits it, and numbers from `top` on were given to nobody
    pub record Kept (opening : S) (s : State S (View S E R)) : Type 0 where
      pub log : List (Entry E R)
      pub top : ℕ
      pub state : S
      pub wide : length s.words ≡ 17
      pub counted : slice_index s.words 16 ≡ length log
      pub ordered : length log ≤ slice_index s.words 0
      pub low : slice_index s.words 0 ≤ 2 ^ 63
      pub legal : Replays steps opening log state
      pub unused : (n : ℕ) → top ≤ n → calls_by (n ∷ []) log ≡ []
      pub each_view : (j : ℕ) (v : View S E R) → get_elem? s.views j ≡ some v
          → Fits log top state (slice_index s.words 0) (length log) opening v
      pub apart : (i j : ℕ) (v w : View S E R) → get_elem? s.views i ≡ some v → get_elem? s.views j ≡ some w → i ≢ j → Apart v w
      pub place : HasPlace state s

    -- these events lead somewhere from the opening state
    abbrev pub Leads : Option S → List (Entry E R) → Type 0
    Leads opening h = (x : S) → opening ≡ Some x → (y : S) × Replays steps x h y

  -- the ticket was drawn, or nothing changed
  pub record Drawn (st : Step S) (m : Sits S E R) (found : ℕ) (n : Sits S E R) : Type 0 where
    pub hit : found ≡ st.first → n ≡ (at_stage m.0 (Waiting found), m.1)
    pub miss : found ≢ st.first → n ≡ m

  -- the turn has come, with the machine in some state, or nothing changed
  pub record Looked (st : Step S) (m : Sits S E R) (found : ℕ) (n : Sits S E R) : Type 0 where
    pub hit : m.0.stage ≡ Waiting found → (x : S) × (n ≡ (at_stage m.0 (Holding found x), (0, x) ∷ m.1))
    pub miss : m.0.stage ≢ Waiting found → n ≡ m

  -- the second half of a split has a number
  abbrev pub Christened : Step S → Sits S E R → ℕ → Sits S E R → Type 0
  Christened st m found n =
      (ns : List ℕ) → m.0.stage ≡ Unborn ns
      → (k : ℕ) × (n ≡ (resting m.0.opening m.0.seen (k ∷ []), m.1)) × (has k ns ≡ false) × (calls_by (k ∷ []) m.0.seen ≡ [])

  module _ (steps : S → E → R → S → Type 0) where
    -- the turn was given on, and the entry of this event stands at the end of the history
    pub record Gave (call : Option (E × R)) (st : Step S) (m : Sits S E R) (found : ℕ) (n : Sits S E R) : Type 0 where
      pub between : List (Entry E R)
      pub view : (e : E) (r : R) → call ≡ Some (e, r) → n ≡ (
        resting m.0.opening
            ((m.0.seen ++ between) ++ entry (slice_index m.0.numbers 0) e r ∷ []) m.0.numbers,
        [],
      )
      pub place : length (m.0.seen ++ between) ≡ found
      pub low : found < 2 ^ 63
      pub others : calls_by m.0.numbers between ≡ []
      pub legal : Leads steps n.0.opening n.0.seen

    -- the history so far was seen
    pub record Watched (m : Sits S E R) (found : ℕ) (n : Sits S E R) : Type 0 where
      pub more : List (Entry E R)
      pub view : n ≡ (resting m.0.opening (m.0.seen ++ more) m.0.numbers, m.1)
      pub place : length (m.0.seen ++ more) ≡ found
      pub others : calls_by m.0.numbers more ≡ []
      pub legal : Leads steps m.0.opening (m.0.seen ++ more)

    -- what was taken in is the pass's own
    pub record TakesIn (ns : List ℕ) (h : List (Entry E R)) (m n : Sits S E R) : Type 0 where
      pub seen : List (Entry E R)
      pub view : n ≡ (resting m.0.opening seen (m.0.numbers ++ ns), m.1)
      pub one : (seen ≡ m.0.seen) ⊎ (seen ≡ h)
      pub first : IsPrefix m.0.seen seen
      pub second : IsPrefix h seen
      pub first_calls : calls_by m.0.numbers seen ≡ calls_by m.0.numbers m.0.seen
      pub second_calls : calls_by ns seen ≡ calls_by ns h
      pub apart : Disjoint m.0.numbers ns
      pub legal : Leads steps m.0.opening seen

    abbrev pub Merged : Step S → Sits S E R → ℕ → Sits S E R → Type 0
    Merged st m found n = (ns : List ℕ) (h : List (Entry E R)) → m.0.stage ≡ Joining ns h → TakesIn ns h m n

  -- a seat at this table, in no call
  abbrev pub IsSameSeat : Seat S (View S E R) → Seat S (View S E R) → Type 0
  IsSameSeat p q = (q.table_id ≡ p.table_id) × (q.id ≡ p.id)

  module _ (steps : S → E → R → S → Type 0) where
    -- the seat has the machine, which made this event and gave this reply
    pub record IsHeld (event : E) (reply : R) (m : Sits S E R) : Type 0 where
      pub ticket : ℕ
      pub before : S
      pub after : S
      pub stage : m.0.stage ≡ Holding ticket before
      pub carried : m.1 ≡ (0, after) ∷ []
      pub made : steps before event reply after
      pub numbered : 0 < length m.0.numbers

    -- the history ends with this event, at this place
    pub record Gives (event : E) (reply : R) (v : View S E R) (at : ℕ) (n : Sits S E R) : Type 0 where
      pub between : List (Entry E R)
      pub view : n ≡ (resting v.opening ((v.seen ++ between) ++ entry (slice_index v.numbers 0) event reply ∷ []) v.numbers, [])
      pub place : length (v.seen ++ between) ≡ at
      pub low : at < 2 ^ 63
      pub others : calls_by v.numbers between ≡ []
      pub legal : Leads steps n.0.opening n.0.seen
