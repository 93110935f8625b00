-- What the parameters of a connection for replication say.
use Rattle.std.proofs.Common.{◌≡◌, ℕ, ◌↔◌, List, Bool, true, IsTrue, codes}
use Rattle.repl_message.specs.declared.startup.Pair.{Pair}
use Rattle.repl_message.specs.Lists.{HasNoPair, IsLast}
use Rattle.repl_message.proofs.Finding.{last_one, last_some}
use Rattle.repl_identify.specs.Session.{IsOption, IsPhysical, IsTrueValue, HasUser, HasNoOption, IsReplication}

-- the value that counts asks for it, or none counts
pub physical_value : (pairs : List Pair) (value : List ℕ) (asked : Bool) → IsLast (codes "replication") pairs value
    → (IsTrue asked ↔ IsTrueValue value) → IsTrue asked ↔ IsPhysical pairs
physical_value pairs value asked last test = (
  λ e. record { value = value; counts = last; asks = test.0 e },
  λ h.
      let same = last_one (codes "replication") pairs h.value value h.counts last in
      test.1 (rw same at h.asks),
)

pub physical_none : (pairs : List Pair) → HasNoPair (codes "replication") pairs → ¬ IsPhysical pairs
physical_none pairs none h = last_some (codes "replication") pairs h.value h.counts none

-- a parameter that is no option, and one that is not so
abbrev pub IsPlain : Pair → Type 0
IsPlain p = IsOption p.name → ⊥

abbrev pub IsNotPlain : Pair → Type 0
IsNotPlain p = IsPlain p → ⊥

pub replicates : (pairs : List Pair) (user physical plain : Bool) → (IsTrue user ↔ HasUser pairs) → user ≡ true
    → (IsTrue physical ↔ IsPhysical pairs) → physical ≡ true → (IsTrue plain ↔ HasNoOption pairs) → IsTrue plain ↔ IsReplication pairs
replicates pairs user physical plain has_user is_user is_physical physical_is has_no_option = (
  λ e. record { user = has_user.0 is_user; physical = is_physical.0 physical_is; plain = has_no_option.0 e },
  λ h. has_no_option.1 h.plain,
)
