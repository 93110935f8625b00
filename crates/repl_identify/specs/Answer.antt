-- What `identify` answers, message by message (PostgreSQL 17 manual, sections "Start-up" and "Streaming
-- Replication Protocol").
use Rattle.std.specs.Prelude.{ℕ, ◌+◌, ◌≤◌, length, List, [], ◌∷◌, ◌++◌, Option, Some, None, codes, pos, negsuc, replicate}
use Rattle.std.specs.Fmt.{decimal}
use Rattle.std.specs.List.{flat_map, repeat}
use Rattle.repl_message.specs.declared.back.TransactionStatus.TheVariants.{Idle}
use Rattle.repl_message.specs.declared.back.Field.{Field}
use Rattle.repl_message.specs.declared.back.Back.{Back}
use Rattle.repl_message.specs.declared.back.Back.TheVariants as back
use Rattle.repl_message.specs.Message.{back_spelling, back_body, back_limit}
use Rattle.repl_lsn.specs.Position.{position_text}
use Rattle.repl_identify.specs.declared.identity.SystemIdentity.{SystemIdentity}

-- what every client is told first, in the session with this number
abbrev pub greeting : ℕ → List Back
greeting session =
    back.AuthenticationOk
    ∷ back.ParameterStatus (codes "server_version") (codes "17.0")
    ∷ back.ParameterStatus (codes "client_encoding") (codes "UTF8")
    ∷ back.ParameterStatus (codes "integer_datetimes") (codes "on")
    ∷ back.ParameterStatus (codes "standard_conforming_strings") (codes "on")
    ∷ back.BackendKeyData session 0
    ∷ back.ReadyForQuery Idle
    ∷ []

-- a column of text: type 25, whose size varies
abbrev pub text_field : List ℕ → Field
text_field name = record { name = name; table = 0; attribute = pos 0; type_oid = 25; size = negsuc 0; modifier = negsuc 0; format = 0 }

-- a column of int8: type 20, of eight bytes
abbrev pub int8_field : List ℕ → Field
int8_field name = record { name = name; table = 0; attribute = pos 0; type_oid = 20; size = pos 8; modifier = negsuc 0; format = 0 }

-- the four columns of the answer to IDENTIFY_SYSTEM
abbrev pub answer_fields : List Field
answer_fields = text_field (codes "systemid") ∷ int8_field (codes "timeline") ∷ text_field (codes "xlogpos") ∷ text_field (codes "dbname")
    ∷ []

-- its row: the system, the timeline, the flushed end, and no database
abbrev pub answer_row : SystemIdentity → List (Option (List ℕ))
answer_row identity = Some (decimal identity.system) ∷ Some (decimal identity.timeline) ∷ Some (position_text identity.flushed) ∷ None ∷ []

-- the answer to IDENTIFY_SYSTEM
abbrev pub identification : SystemIdentity → List Back
identification identity =
    back.RowDescription answer_fields
    ∷ back.DataRow (answer_row identity)
    ∷ back.CommandComplete (codes "IDENTIFY_SYSTEM")
    ∷ back.ReadyForQuery Idle
    ∷ []

-- the messages of a session, which is the first one, that asks so often
abbrev pub answer : SystemIdentity → ℕ → List Back
answer identity questions = greeting 1 ++ repeat questions (identification identity)

-- each request for encryption is answered by `N`, with no message round it
abbrev pub refused_requests : ℕ → List ℕ
refused_requests requests = replicate requests 78

-- the bytes that answer so many requests and questions
abbrev pub answer_bytes : SystemIdentity → ℕ → ℕ → List ℕ
answer_bytes identity requests questions = refused_requests requests ++ flat_map back_spelling (answer identity questions)

-- the message's length is within its limit
abbrev pub IsWithin : Back → Type 0
IsWithin m = length (back_body m) + 4 ≤ back_limit m
