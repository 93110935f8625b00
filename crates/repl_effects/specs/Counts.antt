-- Counts of events, which never fall, and stop at 2 ^ 64 - 1.
use Rattle.std.specs.Prelude.{◌≡◌, ℕ, ◌+◌, ◌-◌, ◌^◌, ◌≤◌, min, Bool, true, false}

-- at least n events came, as far as the count can tell
abbrev pub RoseBy : ℕ → ℕ → ℕ → Type 0
RoseBy n before now = min (before + n) (2 ^ 64 - 1) ≤ now

-- an event came
abbrev pub Rose : ℕ → ℕ → Type 0
Rose before now = RoseBy 1 before now

-- one event came
abbrev pub RoseOnce : ℕ → ℕ → Type 0
RoseOnce before now = now ≡ min (before + 1) (2 ^ 64 - 1)

-- no event came
abbrev pub Stood : ℕ → ℕ → Type 0
Stood before now = now ≡ before

-- an event came exactly where the test holds
abbrev pub RoseExactly : Bool → ℕ → ℕ → Type 0
RoseExactly true before now = Rose before now
RoseExactly false before now = Stood before now

-- one event came exactly where the test holds, and no other
abbrev pub RoseOnceExactly : Bool → ℕ → ℕ → Type 0
RoseOnceExactly true before now = RoseOnce before now
RoseOnceExactly false before now = Stood before now

-- the count did not fall
abbrev pub DidNotFall : ℕ → ℕ → Type 0
DidNotFall before now = before ≤ now
