-- Where a fault stands: the first field with which no message goes on.
use Rattle.std.specs.Prelude.{◌≡◌, ◌≢◌, ℕ, ◌+◌, ◌^◌, ◌<◌, ◌≤◌, ◌⊎◌, List, [], ◌∷◌, ◌++◌, map, flat_map, length, take, drop, Option, Some, None}
use Rattle.std.specs.List.{concat, AllByRecursion}
use Rattle.repl_text.specs.Language.{Begins}
use Rattle.repl_message.specs.declared.startup.Pair.{Pair}
use Rattle.repl_message.specs.declared.startup.Startup.{Startup}
use Rattle.repl_message.specs.declared.startup.Startup.TheVariants as startup
use Rattle.repl_message.specs.declared.front.Front.{Front}
use Rattle.repl_message.specs.declared.front.Front.TheVariants as front
use Rattle.repl_message.specs.declared.back.Field.{Field}
use Rattle.repl_message.specs.declared.back.ErrorField.{ErrorField}
use Rattle.repl_message.specs.declared.back.Back.{Back}
use Rattle.repl_message.specs.declared.back.Back.TheVariants as back
use Rattle.repl_message.specs.declared.message.Phase.{Phase}
use Rattle.repl_message.specs.declared.message.Phase.TheVariants as phase
use Rattle.repl_message.specs.declared.message.Message.{Message}
use Rattle.repl_message.specs.declared.message.TheConstants.{STARTUP_LEAST, STARTUP_LIMIT}
use Rattle.repl_message.specs.declared.startup.TheConstants.{CANCEL_REQUEST}
use Rattle.repl_message.specs.Message.{int16, int32, signed16, signed32, string, status_byte, startup_code, front_kind, back_kind, FitsStartup, FitsFront, FitsBack, Spells}
use Rattle.repl_message.specs.Decoding.{number}
use Rattle.repl_wire.specs.declared.fault.WireFault.{WireFault}
use Rattle.repl_wire.specs.declared.fault.WireFault.TheVariants as fault

-- ---- the fields of a body, in order

abbrev pub pair_fields : Pair → List (List ℕ)
pair_fields p = string p.name ∷ string p.value ∷ []

-- those after a startup packet's code
abbrev pub startup_fields : Startup → List (List ℕ)
startup_fields (startup.Params pairs) = flat_map pair_fields pairs ++ (0 ∷ []) ∷ []
startup_fields startup.Ssl = []
startup_fields startup.Gss = []
startup_fields (startup.Cancel pid key) = int32 pid ∷ int32 key ∷ []

abbrev pub front_fields : Front → List (List ℕ)
front_fields (front.Query text) = string text ∷ []
front_fields (front.CopyData bytes) = bytes ∷ []
front_fields front.CopyDone = []
front_fields (front.CopyFail text) = string text ∷ []
front_fields front.Terminate = []

abbrev pub description_fields : Field → List (List ℕ)
description_fields f = string f.name ∷ int32 f.table ∷ signed16 f.attribute ∷ int32 f.type_oid ∷ signed16 f.size ∷ signed32 f.modifier ∷
    int16 f.format ∷ []

abbrev pub coded_fields : ErrorField → List (List ℕ)
coded_fields f = (f.code ∷ []) ∷ string f.text ∷ []

-- a value of DataRow: its length, and then its bytes, or the length of a null
abbrev pub column_fields : Option (List ℕ) → List (List ℕ)
column_fields None = int32 0xffff_ffff ∷ []
column_fields (Some bytes) = int32 (length bytes) ∷ bytes ∷ []

abbrev pub back_fields : Back → List (List ℕ)
back_fields back.AuthenticationOk = int32 0 ∷ []
back_fields (back.ParameterStatus name value) = string name ∷ string value ∷ []
back_fields (back.BackendKeyData pid key) = int32 pid ∷ int32 key ∷ []
back_fields (back.ReadyForQuery status) = (status_byte status ∷ []) ∷ []
back_fields (back.RowDescription fields) = int16 (length fields) ∷ flat_map description_fields fields
back_fields (back.DataRow columns) = int16 (length columns) ∷ flat_map column_fields columns
back_fields (back.CommandComplete tag) = string tag ∷ []
back_fields (back.ErrorResponse fields) = flat_map coded_fields fields ++ (0 ∷ []) ∷ []
back_fields (back.NoticeResponse fields) = flat_map coded_fields fields ++ (0 ∷ []) ∷ []
back_fields (back.CopyData bytes) = bytes ∷ []
back_fields back.CopyDone = []
back_fields (back.CopyBoth format formats) = (format ∷ []) ∷ int16 (length formats) ∷ map int16 formats

-- ---- where a body is left

-- Whole fields stand before the place, where so many bytes are left. Some message goes on with them, none with a
-- field that stands after them, and none ends there unless the body does.
pub record LeavesAt {M : Type 0} (Fits : M → Type 0) (fields : M → List (List ℕ)) (body : List ℕ) (left : ℕ) : Type 0 where
  pub before : List (List ℕ)
  pub rest : List ℕ
  pub parts : body ≡ concat before ++ rest
  pub size : length rest ≡ left
  pub goes_on : (m : M) × Fits m × ((more : List (List ℕ)) × (fields m ≡ before ++ more))
  pub stops : (m : M) (field : List ℕ) (more : List (List ℕ)) (past : List ℕ) → Fits m → fields m ≡ before ++ field ∷ more
      → rest ≢ field ++ past
  pub goes_further : (m : M) → Fits m → fields m ≡ before → rest ≢ []

-- the messages of one code, and of one type byte
pub record IsOfCode (code : ℕ) (m : Startup) : Type 0 where
  pub fits : FitsStartup m
  pub code_is : startup_code m ≡ code

pub record IsOfFrontKind (kind : ℕ) (m : Front) : Type 0 where
  pub fits : FitsFront m
  pub kind_is : front_kind m ≡ kind

-- a value's length is a signed number of 32 bits, and not below 0
abbrev pub IsSized : Option (List ℕ) → Type 0
IsSized None = Unit {0}
IsSized (Some bytes) = length bytes < 2 ^ 31

abbrev pub AreSized : Back → Type 0
AreSized (back.DataRow columns) = AllByRecursion IsSized columns
AreSized _ = Unit {0}

pub record IsOfBackKind (kind : ℕ) (m : Back) : Type 0 where
  pub fits : FitsBack m
  pub sized : AreSized m
  pub kind_is : back_kind m ≡ kind

-- A request to cancel has one length, and another is refused at the first byte after the code.
abbrev pub LeavesPacket : ℕ → List ℕ → ℕ → Type 0
LeavesPacket code fields left = ((code ≡ CANCEL_REQUEST) × (length fields ≢ 8) × (left ≡ length fields))
    ⊎ ((code ≢ CANCEL_REQUEST) × LeavesAt (IsOfCode code) startup_fields fields left)

-- the body of a message of this kind is left, where so many bytes are left; a startup packet has no type byte,
-- and its body begins with a code
abbrev pub LeavesBody : Phase → ℕ → List ℕ → ℕ → Type 0
LeavesBody phase.Startup kind body left = LeavesPacket (number body) (drop 4 body) left
LeavesBody phase.Front kind body left = LeavesAt (IsOfFrontKind kind) front_fields body left
LeavesBody phase.Back kind body left = LeavesAt (IsOfBackKind kind) back_fields body left
LeavesBody phase.Ended kind body left = ⊥

-- ---- faults

-- where a fault stands
abbrev pub place_of : WireFault → ℕ
place_of (fault.Kind place) = place
place_of (fault.Length place said) = place
place_of (fault.Code place said) = place
place_of (fault.Body place) = place

-- the bytes spell a message that may be sent in this phase
abbrev pub IsSpelled : Phase → List ℕ → Type 0
IsSpelled p bytes = (m : Message) × Spells p m bytes

-- how many bytes stand before the length field
abbrev pub head : Phase → ℕ
head phase.Startup = 0
head _ = 1

abbrev pub kind_of : List ℕ → ℕ
kind_of [] = 0
kind_of (kind ∷ _) = kind

-- A whole frame, whose body is left there. No message begins with these bytes.
pub record IsBodyFault (p : Phase) (bytes : List ℕ) (place : ℕ) : Type 0 where
  pub kind : List ℕ
  pub said : ℕ
  pub body : List ℕ
  pub past : List ℕ
  pub left : ℕ
  pub kinds : length kind ≡ head p
  pub parts : bytes ≡ kind ++ int32 said ++ body ++ past
  pub counts : said ≡ length body + 4
  pub at : place + left ≡ length kind + said
  pub leaves : LeavesBody p (kind_of kind) body left
  pub stops : ¬ Begins (IsSpelled p) (take (length kind + said) bytes)

-- What the first fault of these bytes means. A type byte, a length field and a code are named by their first bytes.
abbrev pub IsFault : Phase → List ℕ → WireFault → Type 0
IsFault p bytes (fault.Kind place) = (place ≡ 0) × (0 < length bytes) × ¬ Begins (IsSpelled p) (take 1 bytes)
IsFault p bytes (fault.Length place said) = (place ≡ head p) × (place + 4 ≤ length bytes) × (said ≡ number (drop place bytes))
    × Begins (IsSpelled p) (take place bytes) × ¬ Begins (IsSpelled p) (take (place + 4) bytes)
IsFault p bytes (fault.Code place said) = (place ≡ 4) × (8 ≤ length bytes) × (said ≡ number (drop 4 bytes)) × (STARTUP_LEAST ≤ number bytes)
    × (number bytes ≤ STARTUP_LIMIT) × ¬ Begins (IsSpelled p) (take 8 bytes)
IsFault p bytes (fault.Body place) = IsBodyFault p bytes place
