-- Names of replication slots (PostgreSQL 17 manual, section "Replication Slots").
use Rattle.std.specs.Prelude.{◌≡◌, ℕ, ◌<◌, ◌≤◌, Bool, true, ◌||◌, ◌==◌, List, length, All}
use Rattle.std.specs.Char.{is_ascii_lowercase, is_ascii_digit}
use Rattle.repl_text.specs.declared.slot_name.TheConstants.{SLOT_NAME_LIMIT}

-- a lower-case letter, a digit or an underscore
abbrev pub is_slot_byte : ℕ → Bool
is_slot_byte c = is_ascii_lowercase c || is_ascii_digit c || c == 95

-- one to 63 of these
pub record IsSlotName (name : List ℕ) : Type 0 where
  pub some : 0 < length name
  pub short : length name ≤ SLOT_NAME_LIMIT
  pub bytes : All (λ c. is_slot_byte c ≡ true) name
