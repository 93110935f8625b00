-- The control file of a store: which controls are right, the bytes of each, and what is wrong with other bytes. The
-- file is this project's own, for what `pg_control` keeps of a server (PostgreSQL 17 manual, section "Database File
-- Layout", and `pg_controldata`).
use Rattle.std.specs.Prelude.{◌≡◌, ◌≢◌, ℕ, ◌*◌, ◌/◌, ◌%◌, ◌^◌, ◌<◌, ◌≤◌, ◌⊎◌, min, List, [], ◌∷◌, ◌++◌, length, drop, All}
use Rattle.byteorder.specs.Endian.{big_bytes, big_number}
use Rattle.repl_control.specs.declared.control.Role.{Role}
use Rattle.repl_control.specs.declared.control.Role.TheVariants.{Primary, Standby}
use Rattle.repl_control.specs.declared.control.Control.{Control}
use Rattle.repl_control.specs.declared.control.TheConstants.{CONTROL_SIZE}
use Rattle.repl_control.specs.declared.fields.Fields.{Fields}
use Rattle.repl_control.specs.declared.fields.TheConstants.{MARK, VERSION}

-- ---- positions, where segments have this size: the log begins with segment 1, at the position `size`

-- the start of the segment in which the position is
abbrev pub segment_start : ℕ → ℕ → ℕ
segment_start size position = position / size * size

-- where the bytes end that are on disk
abbrev pub IsFlushed : ℕ → ℕ → Type 0
IsFlushed size flushed = (size ≤ flushed) × (flushed ≤ 2 ^ 63)

-- where the whole records end: records end at multiples of 8
abbrev pub IsWhole : ℕ → ℕ → ℕ → Type 0
IsWhole size flushed whole = (whole % 8 ≡ 0) × (size ≤ whole) × (whole ≤ flushed)

-- where the bytes begin that are kept: with a segment, and not after the one in which whole records end
abbrev pub IsFloor : ℕ → ℕ → ℕ → Type 0
IsFloor size whole floor = (floor % size ≡ 0) × (size ≤ floor) × (floor ≤ segment_start size whole)

-- where the last whole record starts, or 0
abbrev pub IsPrev : ℕ → ℕ → Type 0
IsPrev whole prev = prev < whole

-- ---- a control

-- not wrong, where segments have this size
pub record IsControl (size : ℕ) (control : Control) : Type 0 where
  pub flushed : IsFlushed size control.flushed
  pub whole : IsWhole size control.flushed control.whole
  pub floor : IsFloor size control.whole control.floor
  pub prev : IsPrev control.whole control.prev
  -- a primary flushes whole records
  pub primary : control.role ≡ Primary → control.flushed ≡ control.whole

-- its other numbers fit their fields, as those of each value of the type do
pub record FitsFields (control : Control) : Type 0 where
  pub system : control.sysid < 2 ^ 64
  pub timeline : (0 < control.tli) × (control.tli < 2 ^ 32)
  pub magic : control.magic < 2 ^ 16

-- that of a new store: on timeline 1, and without a record
abbrev pub fresh_control : Role → ℕ → ℕ → ℕ → Control
fresh_control role system magic size = record {
  role = role;
  sysid = system;
  tli = 1;
  magic = magic;
  flushed = size;
  whole = size;
  floor = size;
  prev = 0;
}

-- ---- spelling

abbrev pub role_number : Role → ℕ
role_number Primary = 1
role_number Standby = 2

-- the numbers of a control in the order of its bytes
abbrev pub fields_of : Control → Fields
fields_of control = record {
  mark = MARK;
  version = VERSION;
  role = role_number control.role;
  zero = 0;
  sysid = control.sysid;
  tli = control.tli;
  magic = control.magic;
  padding = 0;
  flushed = control.flushed;
  whole = control.whole;
  floor = control.floor;
  prev = control.prev;
}

-- the bytes of these numbers, the highest byte of each first
unfoldable pub bytes_of : Fields → List ℕ
bytes_of fields =
    big_bytes 4 fields.mark ++ big_bytes 2 fields.version ++ big_bytes 1 fields.role ++ big_bytes 1 fields.zero
    ++ big_bytes 8 fields.sysid ++ big_bytes 4 fields.tli ++ big_bytes 2 fields.magic ++ big_bytes 2 fields.padding
    ++ big_bytes 8 fields.flushed ++ big_bytes 8 fields.whole ++ big_bytes 8 fields.floor ++ big_bytes 8 fields.prev

-- the one spelling of a control
abbrev pub control_bytes : Control → List ℕ
control_bytes control = bytes_of (fields_of control)

-- the bytes spell the control, where segments have this size
pub record SpellsControl (size : ℕ) (bytes : List ℕ) (control : Control) : Type 0 where
  pub fits : FitsFields control
  pub right : IsControl size control
  pub spelled : bytes ≡ control_bytes control

-- ---- what is wrong with bytes

-- the number of n bytes at this place, the highest byte first
abbrev pub number_at : ℕ → ℕ → List ℕ → ℕ
number_at place n bytes = big_number n (drop place bytes)

-- the numbers that stand in the bytes
unfoldable pub fields_in : List ℕ → Fields
fields_in bytes = record {
  mark = number_at 0 4 bytes;
  version = number_at 4 2 bytes;
  role = number_at 6 1 bytes;
  zero = number_at 7 1 bytes;
  sysid = number_at 8 8 bytes;
  tli = number_at 16 4 bytes;
  magic = number_at 20 2 bytes;
  padding = number_at 22 2 bytes;
  flushed = number_at 24 8 bytes;
  whole = number_at 32 8 bytes;
  floor = number_at 40 8 bytes;
  prev = number_at 48 8 bytes;
}

-- a field that can be wrong
pub data Field : Type 0 where
  mark : Field
  version : Field
  role : Field
  zero : Field
  timeline : Field
  padding : Field
  flushed : Field
  whole : Field
  floor : Field
  prev : Field

-- these fields in the order of the bytes
abbrev pub layout : List Field
layout = mark ∷ version ∷ role ∷ zero ∷ timeline ∷ padding ∷ flushed ∷ whole ∷ floor ∷ prev ∷ []

-- where it begins
abbrev pub place_of : Field → ℕ
place_of mark = 0
place_of version = 4
place_of role = 6
place_of zero = 7
place_of timeline = 16
place_of padding = 22
place_of flushed = 24
place_of whole = 32
place_of floor = 40
place_of prev = 48

-- what stands in it is not wrong; a primary, whose number is 1, has flushed whole records
abbrev pub IsRight : ℕ → Fields → Field → Type 0
IsRight size numbers mark = numbers.mark ≡ MARK
IsRight size numbers version = numbers.version ≡ VERSION
IsRight size numbers role = (numbers.role ≡ 1) ⊎ (numbers.role ≡ 2)
IsRight size numbers zero = numbers.zero ≡ 0
IsRight size numbers timeline = 0 < numbers.tli
IsRight size numbers padding = numbers.padding ≡ 0
IsRight size numbers flushed = IsFlushed size numbers.flushed × (numbers.role ≡ 1 → numbers.flushed ≡ numbers.whole)
IsRight size numbers whole = IsWhole size numbers.flushed numbers.whole
IsRight size numbers floor = IsFloor size numbers.whole numbers.floor
IsRight size numbers prev = IsPrev numbers.whole numbers.prev

-- the first field that is wrong begins at this place
pub record IsFirstWrong (size : ℕ) (numbers : Fields) (place : ℕ) : Type 0 where
  pub before : List Field
  pub field : Field
  pub past : List Field
  pub parts : layout ≡ before ++ field ∷ past
  pub right : All (IsRight size numbers) before
  pub wrong : ¬ IsRight size numbers field
  pub begins : place ≡ place_of field

-- what is wrong with bytes: their length, and else the first field that is
abbrev pub IsControlFault : ℕ → List ℕ → ℕ → Type 0
IsControlFault size bytes place =
    ((length bytes ≢ CONTROL_SIZE) × (place ≡ min (length bytes) CONTROL_SIZE))
    ⊎ ((length bytes ≡ CONTROL_SIZE) × IsFirstWrong size (fields_in bytes) place)
