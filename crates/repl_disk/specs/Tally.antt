-- How many calls of a disk went wrong, and how.
use Rattle.std.specs.Prelude.{ℕ, ◌+◌, ◌-◌, ◌^◌, min, max, Bool, true, false}
use Rattle.std.proofs.Common.{arith}
use Rattle.repl_effects.specs.Counts.{DidNotFall}

-- the calls that answered Failed; Memory; and Missing, or read fewer bytes than they had room for
pub record Tallied : Type 0 where
  pub faults : ℕ
  pub wants : ℕ
  pub lacks : ℕ

-- counted once more, where the test holds
abbrev pub raised : Bool → ℕ → ℕ
raised true events = max events (min (events + 1) (2 ^ 64 - 1))
raised false events = events

-- with an event of each kind counted where its test holds
abbrev pub tallied : Tallied → Bool → Bool → Bool → Tallied
tallied tally failed wanted lacked = record {
  faults = raised failed tally.faults;
  wants = raised wanted tally.wants;
  lacks = raised lacked tally.lacks;
}

-- no count fell
pub record NoneFell (old new : Tallied) : Type 0 where
  pub faults : DidNotFall old.faults new.faults
  pub wants : DidNotFall old.wants new.wants
  pub lacks : DidNotFall old.lacks new.lacks

pub none_fell_itself : (tally : Tallied) → NoneFell tally tally
none_fell_itself tally = record { faults = omega arith; wants = omega arith; lacks = omega arith }

pub none_fell_on : (first second third : Tallied) → NoneFell first second → NoneFell second third → NoneFell first third
none_fell_on first second third a b = record {
  faults = omega (arith, a.faults, b.faults);
  wants = omega (arith, a.wants, b.wants);
  lacks = omega (arith, a.lacks, b.lacks);
}
