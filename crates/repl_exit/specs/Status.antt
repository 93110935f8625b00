-- How a program's end is told to its caller: by a number, and by a line.
use Rattle.std.specs.Prelude.{ℕ, List, [], ◌∷◌, ◌++◌, codes}
use Rattle.std.specs.Fmt.{decimal}
use Rattle.repl_lsn.specs.Position.{position_text}
use Rattle.repl_lsn.specs.declared.fault.HistoryFault.{HistoryFault}
use Rattle.repl_lsn.specs.declared.fault.HistoryFault.TheVariants as history
use Rattle.repl_page.specs.declared.fault.PageFault.{PageFault}
use Rattle.repl_page.specs.declared.fault.PageFault.TheVariants as page
use Rattle.repl_record.specs.declared.answer.WalkReason.{WalkReason}
use Rattle.repl_record.specs.declared.answer.WalkReason.TheVariants as walk
use Rattle.repl_exit.specs.declared.damage.DamageReason.{DamageReason}
use Rattle.repl_exit.specs.declared.damage.DamageReason.TheVariants as damage
use Rattle.repl_exit.specs.declared.status.Status.{Status}
use Rattle.repl_exit.specs.declared.status.Status.TheVariants as status

-- ---- reasons: a name, and its values, each after a space

-- a name and one number
abbrev pub one_number : List ℕ → ℕ → List ℕ
one_number name n = name ++ 32 ∷ decimal n

-- a name and two numbers
abbrev pub two_numbers : List ℕ → ℕ → ℕ → List ℕ
two_numbers name n m = name ++ 32 ∷ decimal n ++ 32 ∷ decimal m

-- a name and two positions of the log
abbrev pub two_positions : List ℕ → ℕ → ℕ → List ℕ
two_positions name n m = name ++ 32 ∷ position_text n ++ 32 ∷ position_text m

abbrev pub history_words : HistoryFault → List ℕ
history_words (history.TooLong have) = one_number (codes "TooLong") have
history_words (history.NotNumber line) = one_number (codes "NotNumber") line
history_words (history.NotSwitch line) = one_number (codes "NotSwitch") line
history_words (history.NotIncreasing line) = one_number (codes "NotIncreasing") line
history_words (history.NotBelowOwn line) = one_number (codes "NotBelowOwn") line
history_words (history.SwitchFalls line) = one_number (codes "SwitchFalls") line
history_words history.Memory = codes "Memory"

-- of its values an address is a position of the log
abbrev pub page_words : PageFault → List ℕ
page_words (page.Magic found expected) = two_numbers (codes "Magic") found expected
page_words (page.Info found expected) = two_numbers (codes "Info") found expected
page_words (page.Timeline found expected) = two_numbers (codes "Timeline") found expected
page_words (page.Address found expected) = two_positions (codes "Address") found expected
page_words (page.RemLen found expected) = two_numbers (codes "RemLen") found expected
page_words (page.SysId found expected) = two_numbers (codes "SysId") found expected
page_words (page.SegSize found expected) = two_numbers (codes "SegSize") found expected
page_words (page.BlockSize found expected) = two_numbers (codes "BlockSize") found expected

abbrev pub walk_words : WalkReason → List ℕ
walk_words (walk.Page fault) = codes "Page " ++ page_words fault
walk_words (walk.Length found) = one_number (codes "Length") found
walk_words (walk.Prev found expected) = two_positions (codes "Prev") found expected
walk_words walk.Reserved = codes "Reserved"
walk_words (walk.Checksum found computed) = two_numbers (codes "Checksum") found computed
walk_words walk.Padding = codes "Padding"

abbrev pub damage_words : DamageReason → List ℕ
damage_words damage.Missing = codes "Missing"
damage_words damage.Short = codes "Short"
damage_words damage.Control = codes "Control"
damage_words damage.Slots = codes "Slots"
damage_words (damage.History fault) = codes "History " ++ history_words fault
damage_words (damage.Bad reason) = codes "Bad " ++ walk_words reason

-- ---- statuses

abbrev pub number_of : Status → ℕ
number_of status.Ok = 0
number_of (status.Usage word) = 2
number_of (status.BadInput place) = 3
number_of status.ReadFault = 5
number_of status.WriteFault = 6
number_of status.DiskFault = 7
number_of (status.Damaged name place why) = 8
number_of status.TurnsSpent = 19
number_of status.Memory = 20
number_of status.Exists = 21

-- a line ends with a line feed
abbrev pub line_of : Status → List ℕ
line_of status.Ok = codes "Ok" ++ 10 ∷ []
line_of (status.Usage word) = one_number (codes "Usage") word ++ 10 ∷ []
line_of (status.BadInput place) = one_number (codes "BadInput") place ++ 10 ∷ []
line_of status.ReadFault = codes "ReadFault" ++ 10 ∷ []
line_of status.WriteFault = codes "WriteFault" ++ 10 ∷ []
line_of status.DiskFault = codes "DiskFault" ++ 10 ∷ []
line_of (status.Damaged name place why) =
    codes "Damaged " ++ name ++ 32 ∷ decimal place ++ 32 ∷ damage_words why ++ 10 ∷ []
line_of status.TurnsSpent = codes "TurnsSpent" ++ 10 ∷ []
line_of status.Memory = codes "Memory" ++ 10 ∷ []
line_of status.Exists = codes "Exists" ++ 10 ∷ []
