-- Messages and their one spelling (PostgreSQL 17 manual, section "Message Formats").
use Rattle.std.specs.Prelude.{◌≡◌, ℕ, ◌+◌, ◌^◌, ◌<◌, ◌≤◌, ℤ, List, [], ◌∷◌, ◌++◌, length, Option, Some, None, FitsSigned}
use Rattle.std.specs.Int.{w16, w32, to_be_bytes, cast_unsigned}
use Rattle.std.specs.List.{flat_map, AllByRecursion}
use Rattle.repl_text.specs.Text.{IsText}
use Rattle.repl_message.specs.declared.startup.Pair.{Pair}
use Rattle.repl_message.specs.declared.startup.Startup.{Startup}
use Rattle.repl_message.specs.declared.startup.Startup.TheVariants as startup
use Rattle.repl_message.specs.declared.front.Front.{Front}
use Rattle.repl_message.specs.declared.front.Front.TheVariants as front
use Rattle.repl_message.specs.declared.back.TransactionStatus.{TransactionStatus}
use Rattle.repl_message.specs.declared.back.TransactionStatus.TheVariants.{Idle, Open, Failed}
use Rattle.repl_message.specs.declared.back.Field.{Field}
use Rattle.repl_message.specs.declared.back.ErrorField.{ErrorField}
use Rattle.repl_message.specs.declared.back.Back.{Back}
use Rattle.repl_message.specs.declared.back.Back.TheVariants as back
use Rattle.repl_message.specs.declared.message.Phase.{Phase}
use Rattle.repl_message.specs.declared.message.Phase.TheVariants as phase
use Rattle.repl_message.specs.declared.message.Message.{Message}
use Rattle.repl_message.specs.declared.message.Message.TheVariants as message
use Rattle.repl_message.specs.declared.message.TheConstants.{STARTUP_LIMIT, MESSAGE_LIMIT, COPY_DATA_LIMIT}
use Rattle.repl_message.specs.declared.back.TheConstants.{LIST_LIMIT}

-- ---- fields

abbrev pub int16 : ℕ → List ℕ
int16 n = to_be_bytes w16 n

abbrev pub int32 : ℕ → List ℕ
int32 n = to_be_bytes w32 n

abbrev pub signed16 : ℤ → List ℕ
signed16 z = int16 (cast_unsigned w16 z)

abbrev pub signed32 : ℤ → List ℕ
signed32 z = int32 (cast_unsigned w32 z)

-- a zero byte ends a string
abbrev pub string : List ℕ → List ℕ
string text = text ++ 0 ∷ []

abbrev pub pair : Pair → List ℕ
pair p = string p.name ++ string p.value

-- a column of RowDescription
abbrev pub field : Field → List ℕ
field f = string f.name ++ (int32 f.table ++ signed16 f.attribute ++ int32 f.type_oid ++ signed16 f.size ++ signed32 f.modifier
    ++ int16 f.format)

-- a value of DataRow: its length and its bytes, or -1 for a null
abbrev pub column : Option (List ℕ) → List ℕ
column None = int32 0xffff_ffff
column (Some bytes) = int32 (length bytes) ++ bytes

abbrev pub error_field : ErrorField → List ℕ
error_field f = f.code ∷ string f.text

-- a list that its length in two bytes counts
abbrev pub counted : {A : Type 0} → (A → List ℕ) → List A → List ℕ
counted entry entries = int16 (length entries) ++ flat_map entry entries

-- a list that a zero byte ends
abbrev pub ended : {A : Type 0} → (A → List ℕ) → List A → List ℕ
ended entry entries = flat_map entry entries ++ 0 ∷ []

-- ---- bodies

-- the code that says what a startup packet is
abbrev pub startup_code : Startup → ℕ
startup_code (startup.Params pairs) = 196_608
startup_code startup.Ssl = 80_877_103
startup_code startup.Gss = 80_877_104
startup_code (startup.Cancel pid key) = 80_877_102

abbrev pub startup_body : Startup → List ℕ
startup_body (startup.Params pairs) = int32 196_608 ++ ended pair pairs
startup_body startup.Ssl = int32 80_877_103
startup_body startup.Gss = int32 80_877_104
startup_body (startup.Cancel pid key) = int32 80_877_102 ++ int32 pid ++ int32 key

abbrev pub front_kind : Front → ℕ
front_kind (front.Query text) = 81
front_kind (front.CopyData bytes) = 100
front_kind front.CopyDone = 99
front_kind (front.CopyFail text) = 102
front_kind front.Terminate = 88

abbrev pub front_body : Front → List ℕ
front_body (front.Query text) = string text
front_body (front.CopyData bytes) = bytes
front_body front.CopyDone = []
front_body (front.CopyFail text) = string text
front_body front.Terminate = []

abbrev pub status_byte : TransactionStatus → ℕ
status_byte Idle = 73
status_byte Open = 84
status_byte Failed = 69

abbrev pub back_kind : Back → ℕ
back_kind back.AuthenticationOk = 82
back_kind (back.ParameterStatus name value) = 83
back_kind (back.BackendKeyData pid key) = 75
back_kind (back.ReadyForQuery status) = 90
back_kind (back.RowDescription fields) = 84
back_kind (back.DataRow columns) = 68
back_kind (back.CommandComplete tag) = 67
back_kind (back.ErrorResponse fields) = 69
back_kind (back.NoticeResponse fields) = 78
back_kind (back.CopyData bytes) = 100
back_kind back.CopyDone = 99
back_kind (back.CopyBoth format formats) = 87

abbrev pub back_body : Back → List ℕ
back_body back.AuthenticationOk = int32 0
back_body (back.ParameterStatus name value) = string name ++ string value
back_body (back.BackendKeyData pid key) = int32 pid ++ int32 key
back_body (back.ReadyForQuery status) = status_byte status ∷ []
back_body (back.RowDescription fields) = counted field fields
back_body (back.DataRow columns) = counted column columns
back_body (back.CommandComplete tag) = string tag
back_body (back.ErrorResponse fields) = ended error_field fields
back_body (back.NoticeResponse fields) = ended error_field fields
back_body (back.CopyData bytes) = bytes
back_body back.CopyDone = []
back_body (back.CopyBoth format formats) = format ∷ counted int16 formats

-- ---- frames

-- the length counts itself and the body
abbrev pub framed : List ℕ → List ℕ
framed body = int32 (length body + 4) ++ body

-- the one spelling of a startup packet, a client's message, a server's message, and any message
abbrev pub startup_spelling : Startup → List ℕ
startup_spelling m = framed (startup_body m)

abbrev pub front_spelling : Front → List ℕ
front_spelling m = front_kind m ∷ framed (front_body m)

abbrev pub back_spelling : Back → List ℕ
back_spelling m = back_kind m ∷ framed (back_body m)

-- a CopyData of these bytes, which is the same from either side
abbrev pub data_spelling : List ℕ → List ℕ
data_spelling bytes = 100 ∷ framed bytes

abbrev pub spelling : Message → List ℕ
spelling (message.Startup m) = startup_spelling m
spelling (message.Front m) = front_spelling m
spelling (message.Back m) = back_spelling m

-- the value of a message's length field
abbrev pub length_field : Message → ℕ
length_field (message.Startup m) = length (startup_body m) + 4
length_field (message.Front m) = length (front_body m) + 4
length_field (message.Back m) = length (back_body m) + 4

-- ---- what has a spelling

abbrev pub AreBytes : List ℕ → Type 0
AreBytes bytes = AllByRecursion (λ b. b < 256) bytes

pub record FitsPair (p : Pair) : Type 0 where
  pub named : 0 < length p.name
  pub name : IsText p.name
  pub value : IsText p.value

pub record FitsField (f : Field) : Type 0 where
  pub name : IsText f.name
  pub table : f.table < 2 ^ 32
  pub attribute : FitsSigned w16 f.attribute
  pub type_oid : f.type_oid < 2 ^ 32
  pub size : FitsSigned w16 f.size
  pub modifier : FitsSigned w32 f.modifier
  pub format : f.format < 2 ^ 16

abbrev pub FitsColumn : Option (List ℕ) → Type 0
FitsColumn None = Unit {0}
FitsColumn (Some bytes) = AreBytes bytes

pub record FitsErrorField (f : ErrorField) : Type 0 where
  pub coded : 0 < f.code
  pub code : f.code < 256
  pub text : IsText f.text

abbrev pub FitsStartup : Startup → Type 0
FitsStartup (startup.Params pairs) = AllByRecursion FitsPair pairs
FitsStartup startup.Ssl = Unit {0}
FitsStartup startup.Gss = Unit {0}
FitsStartup (startup.Cancel pid key) = (pid < 2 ^ 32) × (key < 2 ^ 32)

abbrev pub FitsFront : Front → Type 0
FitsFront (front.Query text) = IsText text
FitsFront (front.CopyData bytes) = AreBytes bytes
FitsFront front.CopyDone = Unit {0}
FitsFront (front.CopyFail text) = IsText text
FitsFront front.Terminate = Unit {0}

abbrev pub FitsBack : Back → Type 0
FitsBack back.AuthenticationOk = Unit {0}
FitsBack (back.ParameterStatus name value) = IsText name × IsText value
FitsBack (back.BackendKeyData pid key) = (pid < 2 ^ 32) × (key < 2 ^ 32)
FitsBack (back.ReadyForQuery status) = Unit {0}
FitsBack (back.RowDescription fields) = (length fields ≤ LIST_LIMIT) × AllByRecursion FitsField fields
FitsBack (back.DataRow columns) = (length columns ≤ LIST_LIMIT) × AllByRecursion FitsColumn columns
FitsBack (back.CommandComplete tag) = IsText tag
FitsBack (back.ErrorResponse fields) = AllByRecursion FitsErrorField fields
FitsBack (back.NoticeResponse fields) = AllByRecursion FitsErrorField fields
FitsBack (back.CopyData bytes) = AreBytes bytes
FitsBack back.CopyDone = Unit {0}
FitsBack (back.CopyBoth format formats) = (format < 256) × (length formats ≤ LIST_LIMIT) × AllByRecursion (λ f. f < 2 ^ 16) formats

-- the greatest length field
abbrev pub front_limit : Front → ℕ
front_limit (front.CopyData bytes) = COPY_DATA_LIMIT
front_limit (front.Query text) = MESSAGE_LIMIT
front_limit front.CopyDone = MESSAGE_LIMIT
front_limit (front.CopyFail text) = MESSAGE_LIMIT
front_limit front.Terminate = MESSAGE_LIMIT

abbrev pub back_limit : Back → ℕ
back_limit (back.CopyData bytes) = COPY_DATA_LIMIT
back_limit _ = MESSAGE_LIMIT

-- the message's values have their types, and its length is within the limit
pub record IsBack (m : Back) : Type 0 where
  pub fits : FitsBack m
  pub within : length (back_body m) + 4 ≤ back_limit m

pub record IsFront (m : Front) : Type 0 where
  pub fits : FitsFront m
  pub within : length (front_body m) + 4 ≤ front_limit m

pub record IsStartup (m : Startup) : Type 0 where
  pub fits : FitsStartup m
  pub within : length (startup_body m) + 4 ≤ STARTUP_LIMIT

-- what may be sent in a phase
abbrev pub Belongs : Phase → Message → Type 0
Belongs phase.Startup (message.Startup m) = IsStartup m
Belongs phase.Startup (message.Front m) = ⊥
Belongs phase.Startup (message.Back m) = ⊥
Belongs phase.Front (message.Startup m) = ⊥
Belongs phase.Front (message.Front m) = IsFront m
Belongs phase.Front (message.Back m) = ⊥
Belongs phase.Back (message.Startup m) = ⊥
Belongs phase.Back (message.Front m) = ⊥
Belongs phase.Back (message.Back m) = IsBack m
Belongs phase.Ended m = ⊥

-- What is read after a message: after the parameters of a startup packet the client's messages, after another
-- request a packet again, and after a request to cancel nothing.
abbrev pub after_packet : Startup → Phase
after_packet (startup.Params pairs) = phase.Front
after_packet startup.Ssl = phase.Startup
after_packet startup.Gss = phase.Startup
after_packet (startup.Cancel pid key) = phase.Ended

abbrev pub after : Phase → Message → Phase
after p (message.Startup m) = after_packet m
after p (message.Front m) = p
after p (message.Back m) = p

-- the bytes are the spelling of a message that may be sent in the phase
pub record Spells (phase : Phase) (m : Message) (bytes : List ℕ) : Type 0 where
  pub belongs : Belongs phase m
  pub spelled : bytes ≡ spelling m

-- ---- streams of a server

-- the server's messages, one after another, and nothing else
pub record AreMessages (bytes : List ℕ) (messages : List Back) : Type 0 where
  pub each : AllByRecursion IsBack messages
  pub spelled : bytes ≡ flat_map back_spelling messages
