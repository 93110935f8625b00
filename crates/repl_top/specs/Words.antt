-- The words of a command line of `pgnode`.
use Rattle.std.specs.Prelude.{◌≡◌, ◌⊎◌, ℕ, ◌+◌, ◌^◌, ◌<◌, ◌≤◌, List, [], ◌∷◌, ◌++◌, length, get_or, codes, Some}
use Rattle.std.specs.Str.Parse.{AllDigits, digits_value}
use Rattle.repl_control.specs.declared.control.Role.{Role}
use Rattle.repl_control.specs.declared.control.Role.TheVariants as role
use Rattle.repl_identify.specs.declared.identity.SystemIdentity.{SystemIdentity}
use Rattle.repl_lsn.specs.Position.{Spells}
use Rattle.repl_message.specs.declared.message.Side.{Side}
use Rattle.repl_message.specs.declared.message.Side.TheVariants as side
use Rattle.repl_args.specs.Forms.{PlainForm, PlainTable, no_tail, tail_maybe}
use Rattle.repl_args.specs.Lines.{IsLine, IsLineOf}
use Rattle.repl_top.specs.declared.kinds.Word.{Word}
use Rattle.repl_top.specs.declared.kinds.Word.TheVariants as kind
use Rattle.repl_top.specs.declared.table.Command.{Command}
use Rattle.repl_top.specs.declared.table.Command.TheVariants as command
use Rattle.repl_top.specs.declared.folder.DiskUse.{DiskUse}
use Rattle.repl_top.specs.declared.folder.DiskUse.TheVariants as uses
use Rattle.repl_top.specs.declared.task.Task.{Task}
use Rattle.repl_top.specs.declared.task.Task.TheVariants as task
use Rattle.repl_top.specs.declared.task.TheConstants.{MAGIC}

-- ---- kinds of words

-- one or more digits to this base, which may begin with zeros, and their value
pub record IsNumber (base : ℕ) (word : List ℕ) (n : ℕ) : Type 0 where
  pub some : 0 < length word
  pub digits : AllDigits base word
  pub value : n ≡ digits_value base word

-- a system identifier
abbrev pub IsSystem : List ℕ → ℕ → Type 0
IsSystem word n = IsNumber 10 word n × (n < 2 ^ 64)

-- a timeline's number
abbrev pub IsTimeline : List ℕ → ℕ → Type 0
IsTimeline word n = IsNumber 10 word n × (0 < n) × (n < 2 ^ 32)

abbrev pub side_word : Side → List ℕ
side_word side.Front = codes "front"
side_word side.Back = codes "back"

abbrev pub IsSide : List ℕ → Side → Type 0
IsSide word s = word ≡ side_word s

abbrev pub role_word : Role → List ℕ
role_word role.Primary = codes "primary"
role_word role.Standby = codes "standby"

abbrev pub IsRole : List ℕ → Role → Type 0
IsRole word r = word ≡ role_word r

-- one to four hexadecimal digits of either case, and their value
abbrev pub IsMagic : List ℕ → ℕ → Type 0
IsMagic word n = IsNumber 16 word n × (length word ≤ 4)

abbrev pub IsWordOf : Word → List ℕ → Type 0
IsWordOf kind.Text word = Unit {0}
IsWordOf kind.System word = (n : ℕ) × IsSystem word n
IsWordOf kind.Timeline word = (n : ℕ) × IsTimeline word n
IsWordOf kind.Position word = (n : ℕ) × Spells word n
IsWordOf kind.Side word = (s : Side) × IsSide word s
IsWordOf kind.Role word = (r : Role) × IsRole word r
IsWordOf kind.Magic word = (n : ℕ) × IsMagic word n

-- ---- the table

abbrev pub identify_form : PlainForm Word Command
identify_form = record { command = command.Identify; name = codes "identify"; arguments = kind.System ∷ kind.Timeline ∷ kind.Position ∷ []; tail = no_tail }

abbrev pub frames_form : PlainForm Word Command
frames_form = record { command = command.Frames; name = codes "frames"; arguments = kind.Side ∷ []; tail = no_tail }

abbrev pub names_form : PlainForm Word Command
names_form = record { command = command.Names; name = codes "names"; arguments = kind.Text ∷ []; tail = no_tail }

abbrev pub history_form : PlainForm Word Command
history_form = record { command = command.History; name = codes "history"; arguments = kind.Timeline ∷ []; tail = no_tail }

abbrev pub init_form : PlainForm Word Command
init_form = record { command = command.Init; name = codes "init"; arguments = kind.Role ∷ kind.System ∷ []; tail = tail_maybe kind.Magic }

abbrev pub status_form : PlainForm Word Command
status_form = record { command = command.Status; name = codes "status"; arguments = []; tail = no_tail }

abbrev pub check_form : PlainForm Word Command
check_form = record { command = command.Check; name = codes "check"; arguments = []; tail = no_tail }

-- the form of each command
abbrev pub form_of : Command → PlainForm Word Command
form_of command.Identify = identify_form
form_of command.Frames = frames_form
form_of command.Names = names_form
form_of command.History = history_form
form_of command.Init = init_form
form_of command.Status = status_form
form_of command.Check = check_form

abbrev pub the_table : PlainTable Word Command
the_table = record {
  lead = Some (record { name = codes "-D"; kind = kind.Text });
  forms = identify_form ∷ frames_form ∷ names_form ∷ history_form ∷ init_form ∷ status_form ∷ check_form ∷ [];
}

-- ---- what lines ask for

-- a line of this command
abbrev pub LineOf : Command → List (List ℕ) → Type 0
LineOf c words = IsLineOf IsWordOf the_table (form_of c) words

-- the magic number that stands after the arguments, or else that of PostgreSQL 17
abbrev pub SaysMagic : List (List ℕ) → ℕ → Type 0
SaysMagic rest magic = ((rest ≡ []) × (magic ≡ MAGIC)) ⊎ ((word : List ℕ) × (rest ≡ word ∷ []) × IsMagic word magic)

-- the words are a command line that asks for this
abbrev pub IsTask : List (List ℕ) → Task → Type 0
IsTask words (task.Identify identity) = (line : LineOf command.Identify words) × (s : List ℕ) × (t : List ℕ) × (p : List ℕ)
    × (line.arguments ≡ s ∷ t ∷ p ∷ []) × IsSystem s identity.system × IsTimeline t identity.timeline × Spells p identity.flushed
IsTask words (task.Frames side) = (line : LineOf command.Frames words) × (line.arguments ≡ side_word side ∷ [])
IsTask words (task.Names text) = (line : LineOf command.Names words) × (line.arguments ≡ text.now ∷ [])
IsTask words (task.History own) = (line : LineOf command.History words) × (t : List ℕ) × (line.arguments ≡ t ∷ []) × IsTimeline t own
IsTask words (task.Init role sysid magic) = (line : LineOf command.Init words) × (s : List ℕ) × (line.arguments ≡ role_word role ∷ s ∷ [])
    × IsSystem s sysid × SaysMagic line.rest magic
IsTask words task.Status = LineOf command.Status words
IsTask words task.Check = LineOf command.Check words

-- what it asks of the folder
abbrev pub disk_use : Task → DiskUse
disk_use (task.Identify identity) = uses.Nothing
disk_use (task.Frames side) = uses.Nothing
disk_use (task.Names text) = uses.Nothing
disk_use (task.History own) = uses.Nothing
disk_use (task.Init role sysid magic) = uses.New
disk_use task.Status = uses.Old
disk_use task.Check = uses.Old

-- that is what the words ask of it, or they are no command line, and it is nothing
abbrev pub UsesDisk : List (List ℕ) → DiskUse → Type 0
UsesDisk words asked = ((t : Task) × IsTask words t × (asked ≡ disk_use t)) ⊎ ((¬ IsLine IsWordOf the_table words) × (asked ≡ uses.Nothing))

-- ---- the folder

-- a word stands after a first word `-D`
abbrev pub IsLed : List (List ℕ) → Type 0
IsLed words = (1 < length words) × (get_or words 0 [] ≡ codes "-D")

-- that word, or `.` where there is none
abbrev pub IsFolder : List (List ℕ) → List ℕ → Type 0
IsFolder words folder = (IsLed words × (folder ≡ get_or words 1 [])) ⊎ ((¬ IsLed words) × (folder ≡ codes "."))
