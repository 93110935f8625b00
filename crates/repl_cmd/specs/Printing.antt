-- The one printed spelling of a command.
use Rattle.std.specs.Prelude.{ℕ, Bool, true, false, List, [], ◌++◌, Option, Some, None, codes, decimal}
use Rattle.hex.specs.Hex.{encode_lower}
use Rattle.repl_lsn.specs.Position.{position_text}
use Rattle.repl_names.specs.StandbyList as names
use Rattle.repl_cmd.specs.declared.command.Command.{Command}
use Rattle.repl_cmd.specs.declared.command.Command.TheVariants as command
use Rattle.repl_token.specs.Token.{quoted}
use Rattle.repl_names.specs.Setting.{setting_word}

-- a word that may stand after a command
abbrev pub word_if : Bool → List ℕ → List ℕ
word_if true word = word
word_if false word = []

abbrev pub slot_words : Option (List ℕ) → List ℕ
slot_words None = []
slot_words (Some name) = codes "SLOT " ++ quoted 34 name ++ codes " "

abbrev pub timeline_words : Option ℕ → List ℕ
timeline_words None = []
timeline_words (Some n) = codes " TIMELINE " ++ decimal n

abbrev pub number_word : Option ℕ → List ℕ
number_word None = []
number_word (Some n) = codes " " ++ decimal n

abbrev pub spelling : Command → List ℕ
spelling command.IdentifySystem = codes "IDENTIFY_SYSTEM"
spelling (command.Show name) = codes "SHOW " ++ quoted 34 name
spelling (command.TimelineHistory n) = codes "TIMELINE_HISTORY " ++ decimal n
spelling (command.CreateSlot name temporary reserve) = codes "CREATE_REPLICATION_SLOT " ++ quoted 34 name
    ++ word_if temporary (codes " TEMPORARY") ++ codes " PHYSICAL" ++ word_if reserve (codes " RESERVE_WAL")
spelling (command.DropSlot name wait) = codes "DROP_REPLICATION_SLOT " ++ quoted 34 name ++ word_if wait (codes " WAIT")
spelling (command.ReadSlot name) = codes "READ_REPLICATION_SLOT " ++ quoted 34 name
spelling (command.StartReplication slot at timeline) = codes "START_REPLICATION " ++ slot_words slot ++ codes "PHYSICAL "
    ++ position_text at ++ timeline_words timeline
spelling (command.Append xid body) = codes "APPEND " ++ decimal xid ++ codes " " ++ quoted 39 (encode_lower body)
spelling (command.SetCommit v) = codes "SET synchronous_commit = " ++ setting_word v
spelling (command.SetNames list) = codes "ALTER SYSTEM SET synchronous_standby_names = " ++ quoted 39 (names.list_spelling list)
spelling (command.Promote n) = codes "PROMOTE" ++ number_word n
spelling command.Demote = codes "DEMOTE"
spelling command.Trim = codes "TRIM"
spelling command.Status = codes "STATUS"
spelling command.Stop = codes "STOP"
