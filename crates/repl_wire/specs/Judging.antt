-- Reading a message from the front of a buffer: the message and how many bytes it takes, or that more
-- bytes are needed, or the first fault. The type byte is judged at once, the length field when its four
-- bytes are there, and the body when the whole frame is there.
use Rattle.std.specs.Prelude.{◌≡◌, ℕ, zero, suc, ◌+◌, ◌-◌, ◌||◌, List, [], ◌∷◌, length, take, drop, Option, Some, None, Result, Ok, Err, nat_lt, ◌==◌, if◌then◌else◌}
use Rattle.std.specs.Int.{w16, w32, from_be_bytes, cast_signed}
use Rattle.std.specs.Option.{option_map}
use Rattle.repl_message.specs.declared.startup.Pair.{Pair}
use Rattle.repl_message.specs.declared.startup.Startup.{Startup}
use Rattle.repl_message.specs.declared.startup.Startup.TheVariants as startup
use Rattle.repl_message.specs.Decoding.{◌>>=◌, string_at, whole, number}
use Rattle.repl_message.specs.declared.back.TransactionStatus.TheVariants.{Idle, Open, Failed}
use Rattle.repl_message.specs.declared.back.Field.{Field}
use Rattle.repl_message.specs.declared.back.ErrorField.{ErrorField}
use Rattle.repl_message.specs.declared.back.Back.{Back}
use Rattle.repl_message.specs.declared.back.Back.TheVariants as back
use Rattle.repl_message.specs.declared.front.Front.{Front}
use Rattle.repl_message.specs.declared.front.Front.TheVariants as front
use Rattle.repl_wire.specs.declared.fault.WireFault.{WireFault}
use Rattle.repl_wire.specs.declared.fault.WireFault.TheVariants as fault
use Rattle.repl_message.specs.declared.message.Side.{Side}
use Rattle.repl_message.specs.declared.message.Side.TheVariants as side
use Rattle.repl_message.specs.declared.message.Phase.{Phase}
use Rattle.repl_message.specs.declared.message.Phase.TheVariants as phase
use Rattle.repl_message.specs.declared.message.Message.{Message}
use Rattle.repl_message.specs.declared.message.Message.TheVariants as message
use Rattle.repl_message.specs.declared.message.TheConstants.{STARTUP_LEAST, STARTUP_LIMIT, MESSAGE_LIMIT, COPY_DATA_LIMIT}
use Rattle.repl_wire.specs.declared.taking.Taken.{Taken}
use Rattle.repl_wire.specs.declared.taking.Taken.TheVariants as taken
use Rattle.repl_wire.specs.declared.fields.FieldFault.{FieldFault}
use Rattle.repl_wire.specs.declared.fields.FieldFault.TheVariants as field_fault

-- ---- fields: a value and the bytes after it, or a fault, as the number of bytes left in the body there

-- pairs of strings up to a zero byte where a name would stand, in so many turns at most
unfoldable pub pairs_at : ℕ → List ℕ → Result (List Pair × List ℕ) ℕ
pairs_at zero bytes = Err (length bytes)
pairs_at (suc turns) [] = Err 0
pairs_at (suc turns) (zero ∷ rest) = Ok ([], rest)
pairs_at (suc turns) (suc b ∷ rest) = do
  name ← string_at (suc b ∷ rest)
  value ← string_at name.1
  others ← pairs_at turns value.1
  Ok (record { name = name.0; value = value.0 } ∷ others.0, others.1)

-- what was read is made into another value
abbrev pub made : {A B : Type 0} → (A → B) → Result A ℕ → Result B ℕ
made make (Ok x) = Ok (make x)
made make (Err left) = Err left

-- ---- bodies

unfoldable pub parameters_of : List ℕ → Result (List Pair) ℕ
parameters_of body = pairs_at (length body) body >>= whole

unfoldable pub text_of : List ℕ → Result (List ℕ) ℕ
text_of body = string_at body >>= whole

unfoldable pub nothing_of : List ℕ → Result (Unit {0}) ℕ
nothing_of body = whole (tt, body)

-- bytes as they are
unfoldable pub bytes_of : List ℕ → Result (List ℕ) ℕ
bytes_of body = Ok body

-- two numbers, judged by their length alone
unfoldable pub two_numbers_of : List ℕ → Result (ℕ × ℕ) ℕ
two_numbers_of body = if length body == 8 then Ok (number body, number (drop 4 body)) else Err (length body)

-- ---- the fields and bodies of the server's messages

abbrev pub byte_at : List ℕ → Result (ℕ × List ℕ) ℕ
byte_at [] = Err 0
byte_at (b ∷ rest) = Ok (b, rest)

unfoldable pub int16_at : List ℕ → Result (ℕ × List ℕ) ℕ
int16_at bytes = if nat_lt (length bytes) 2 then Err (length bytes) else Ok (from_be_bytes w16 (take 2 bytes), drop 2 bytes)

unfoldable pub int32_at : List ℕ → Result (ℕ × List ℕ) ℕ
int32_at bytes = if nat_lt (length bytes) 4 then Err (length bytes) else Ok (number bytes, drop 4 bytes)

-- so many entries, one after another
unfoldable pub entries_at : {A : Type 0} → (List ℕ → Result (A × List ℕ) ℕ) → ℕ → List ℕ → Result (List A × List ℕ) ℕ
entries_at entry zero bytes = Ok ([], bytes)
entries_at entry (suc count) bytes = do
  first ← entry bytes
  others ← entries_at entry count first.1
  Ok (first.0 ∷ others.0, others.1)

-- a list that its length in two bytes counts
abbrev pub counted_at : {A : Type 0} → (List ℕ → Result (A × List ℕ) ℕ) → List ℕ → Result (List A × List ℕ) ℕ
counted_at entry bytes = do
  count ← int16_at bytes
  entries_at entry count.0 count.1

-- a column of RowDescription
unfoldable pub field_at : List ℕ → Result (Field × List ℕ) ℕ
field_at bytes = do
  name ← string_at bytes
  table ← int32_at name.1
  attribute ← int16_at table.1
  type_oid ← int32_at attribute.1
  size ← int16_at type_oid.1
  modifier ← int32_at size.1
  format ← int16_at modifier.1
  Ok (
    record {
      name = name.0;
      table = table.0;
      attribute = cast_signed w16 attribute.0;
      type_oid = type_oid.0;
      size = cast_signed w16 size.0;
      modifier = cast_signed w32 modifier.0;
      format = format.0;
    },
    format.1,
  )

-- A value of DataRow: its length, which is that of a null or at most that of the longest value, and its bytes.
unfoldable pub column_at : List ℕ → Result (Option (List ℕ) × List ℕ) ℕ
column_at bytes = do
  size ← int32_at bytes
  if size.0 == 0xffff_ffff then Ok (None, size.1)
      else if nat_lt 0x7fff_ffff size.0 then Err (length bytes)
      else if nat_lt (length size.1) size.0 then Err (length size.1)
      else Ok (Some (take size.0 size.1), drop size.0 size.1)

-- codes that are not 0, each with a string, up to a zero byte where a code would stand, in so many turns at most
unfoldable pub coded_at : ℕ → List ℕ → Result (List ErrorField × List ℕ) ℕ
coded_at zero bytes = Err (length bytes)
coded_at (suc turns) [] = Err 0
coded_at (suc turns) (zero ∷ rest) = Ok ([], rest)
coded_at (suc turns) (suc code ∷ rest) = do
  text ← string_at rest
  others ← coded_at turns text.1
  Ok (record { code = suc code; text = text.0 } ∷ others.0, others.1)

unfoldable pub authentication_of : List ℕ → Result Back ℕ
authentication_of body = do
  code ← int32_at body
  if code.0 == 0 then whole (back.AuthenticationOk, code.1) else Err (length body)

unfoldable pub setting_of : List ℕ → Result Back ℕ
setting_of body = do
  name ← string_at body
  value ← string_at name.1
  whole (back.ParameterStatus name.0 value.0, value.1)

unfoldable pub key_of : List ℕ → Result Back ℕ
key_of body = do
  pid ← int32_at body
  key ← int32_at pid.1
  whole (back.BackendKeyData pid.0 key.0, key.1)

unfoldable pub status_of : List ℕ → Result Back ℕ
status_of body = do
  status ← byte_at body
  if status.0 == 73 then whole (back.ReadyForQuery Idle, status.1)
      else if status.0 == 84 then whole (back.ReadyForQuery Open, status.1)
      else if status.0 == 69 then whole (back.ReadyForQuery Failed, status.1)
      else Err (length body)

unfoldable pub description_of : List ℕ → Result Back ℕ
description_of body = do
  fields ← counted_at field_at body
  whole (back.RowDescription fields.0, fields.1)

unfoldable pub data_row_of : List ℕ → Result Back ℕ
data_row_of body = do
  columns ← counted_at column_at body
  whole (back.DataRow columns.0, columns.1)

unfoldable pub tag_of : List ℕ → Result Back ℕ
tag_of body = made (λ text. back.CommandComplete text) (text_of body)

unfoldable pub error_of : List ℕ → Result Back ℕ
error_of body = do
  fields ← coded_at (length body) body
  whole (back.ErrorResponse fields.0, fields.1)

unfoldable pub notice_of : List ℕ → Result Back ℕ
notice_of body = do
  fields ← coded_at (length body) body
  whole (back.NoticeResponse fields.0, fields.1)

unfoldable pub copy_done_of : List ℕ → Result Back ℕ
copy_done_of body = made (λ _. back.CopyDone) (nothing_of body)

unfoldable pub copy_both_of : List ℕ → Result Back ℕ
copy_both_of body = do
  format ← byte_at body
  formats ← counted_at int16_at format.1
  whole (back.CopyBoth format.0 formats.0, formats.1)

-- ---- frames

-- The body after a length field, where the whole frame is there, or nothing yet, or the field's fault at
-- this place. The length is at least that of the shortest body, and at most the limit.
unfoldable pub frame_of : ℕ → ℕ → ℕ → List ℕ → Result (Option (List ℕ)) WireFault
frame_of place least limit bytes =
    if nat_lt (length bytes) 4 then Ok None
    else if nat_lt (number bytes) least || nat_lt limit (number bytes) then Err (fault.Length place (number bytes))
    else if nat_lt (length bytes) (number bytes) then Ok None
    else Ok (Some (drop 4 (take (number bytes) bytes)))

-- what is answered where a frame ends at this place, and its body is read as this message
abbrev pub ended_at : ℕ → Result Message ℕ → Taken
ended_at end (Ok m) = taken.Whole m end
ended_at end (Err left) = taken.Wrong (fault.Body (end - left))

-- the same where its body is read as the value of which the message is made
abbrev pub read_as : {A : Type 0} → (A → Message) → ℕ → Result A ℕ → Taken
read_as make end r = ended_at end (made make r)

-- a startup packet's body, after the length field: a code, and fields that are read so
abbrev pub read_packet : {A : Type 0} → (A → Startup) → (List ℕ → Result A ℕ) → List ℕ → Taken
read_packet make read body = read_as (λ x. message.Startup (make x)) (length body + 4) (read (drop 4 body))

unfoldable pub judge_packet : List ℕ → Taken
judge_packet body =
    if number body == 196_608 then read_packet (λ pairs. startup.Params pairs) parameters_of body
    else if number body == 80_877_102 then read_packet (λ (ids : ℕ × ℕ). startup.Cancel ids.0 ids.1) two_numbers_of body
    else if number body == 80_877_103 then read_packet (λ _. startup.Ssl) nothing_of body
    else if number body == 80_877_104 then read_packet (λ _. startup.Gss) nothing_of body
    else taken.Wrong (fault.Code 4 (number body))

abbrev pub on_frame : Result (Option (List ℕ)) WireFault → (List ℕ → Taken) → Taken
on_frame (Ok None) read = taken.Short
on_frame (Ok (Some body)) read = read body
on_frame (Err f) read = taken.Wrong f

unfoldable pub judge_startup : List ℕ → Taken
judge_startup bytes = on_frame (frame_of 0 STARTUP_LEAST STARTUP_LIMIT bytes) judge_packet

-- A message of this kind, after its type byte: its body has so many bytes at least, its length field is
-- at most the limit, and the body is read so.
abbrev pub judge_message : {A : Type 0} → (A → Front) → ℕ → ℕ → (List ℕ → Result A ℕ) → List ℕ → Taken
judge_message make least limit read bytes =
    on_frame (frame_of 1 (least + 4) limit bytes) (λ body. read_as (λ x. message.Front (make x)) (length body + 5) (read body))

unfoldable pub judge_front : List ℕ → Taken
judge_front [] = taken.Short
judge_front (kind ∷ bytes) =
    if kind == 81 then judge_message (λ text. front.Query text) 1 MESSAGE_LIMIT text_of bytes
    else if kind == 100 then judge_message (λ piece. front.CopyData piece) 0 COPY_DATA_LIMIT bytes_of bytes
    else if kind == 99 then judge_message (λ _. front.CopyDone) 0 MESSAGE_LIMIT nothing_of bytes
    else if kind == 102 then judge_message (λ text. front.CopyFail text) 1 MESSAGE_LIMIT text_of bytes
    else if kind == 88 then judge_message (λ _. front.Terminate) 0 MESSAGE_LIMIT nothing_of bytes
    else taken.Wrong (fault.Kind 0)

-- ---- the server's messages

-- How the body of a message is read, the fewest bytes that it has, and the greatest length field.
pub record Row : Type 0 where
  pub least : ℕ
  pub limit : ℕ
  pub read : List ℕ → Result Back ℕ

-- the greatest length field is that of most messages
abbrev pub usual : ℕ → (List ℕ → Result Back ℕ) → Option Row
usual least read = Some (record { least = least; limit = MESSAGE_LIMIT; read = read })

-- the messages of the server by their type bytes
abbrev pub back_row : ℕ → Option Row
back_row kind =
    if kind == 82 then usual 4 authentication_of
    else if kind == 83 then usual 2 setting_of
    else if kind == 75 then usual 8 key_of
    else if kind == 90 then usual 1 status_of
    else if kind == 84 then usual 2 description_of
    else if kind == 68 then usual 2 data_row_of
    else if kind == 67 then usual 1 tag_of
    else if kind == 69 then usual 1 error_of
    else if kind == 78 then usual 1 notice_of
    else if kind == 100 then Some (record { least = 0; limit = COPY_DATA_LIMIT; read = λ body. Ok (back.CopyData body) })
    else if kind == 99 then usual 0 copy_done_of
    else if kind == 87 then usual 3 copy_both_of
    else None

abbrev pub judge_row : Option Row → List ℕ → Taken
judge_row None bytes = taken.Wrong (fault.Kind 0)
judge_row (Some r) bytes = on_frame (frame_of 1 (r.least + 4) r.limit bytes)
    (λ body. read_as (λ m. message.Back m) (length body + 5) (r.read body))

unfoldable pub judge_back : List ℕ → Taken
judge_back [] = taken.Short
judge_back (kind ∷ bytes) = judge_row (back_row kind) bytes

-- ---- both sides by the type byte

-- a message that is sent after the startup
abbrev pub judge_sent : Side → List ℕ → Taken
judge_sent side.Front bytes = judge_front bytes
judge_sent side.Back bytes = judge_back bytes

-- the least and the greatest length field of a message of the client
abbrev pub front_lengths : ℕ → Option (ℕ × ℕ)
front_lengths kind =
    if kind == 81 then Some (5, MESSAGE_LIMIT)
    else if kind == 100 then Some (4, COPY_DATA_LIMIT)
    else if kind == 99 then Some (4, MESSAGE_LIMIT)
    else if kind == 102 then Some (5, MESSAGE_LIMIT)
    else if kind == 88 then Some (4, MESSAGE_LIMIT)
    else None

abbrev pub lengths_of : Side → ℕ → Option (ℕ × ℕ)
lengths_of side.Front kind = front_lengths kind
lengths_of side.Back kind = option_map (λ (r : Row). (r.least + 4, r.limit)) (back_row kind)

-- the message of the client that a body spells
abbrev pub front_of : ℕ → List ℕ → Result Message ℕ
front_of kind body =
    if kind == 81 then made (λ text. message.Front (front.Query text)) (text_of body)
    else if kind == 100 then made (λ piece. message.Front (front.CopyData piece)) (bytes_of body)
    else if kind == 99 then made (λ _. message.Front front.CopyDone) (nothing_of body)
    else if kind == 102 then made (λ text. message.Front (front.CopyFail text)) (text_of body)
    else if kind == 88 then made (λ _. message.Front front.Terminate) (nothing_of body)
    else Err (length body)

abbrev pub row_of : Option Row → List ℕ → Result Message ℕ
row_of None body = Err (length body)
row_of (Some r) body = made (λ m. message.Back m) (r.read body)

abbrev pub message_of : Side → ℕ → List ℕ → Result Message ℕ
message_of side.Front kind body = front_of kind body
message_of side.Back kind body = row_of (back_row kind) body

-- where the session is over, any byte is one too many
abbrev pub judge_ended : List ℕ → Taken
judge_ended [] = taken.Short
judge_ended (kind ∷ bytes) = taken.Wrong (fault.Kind 0)

abbrev pub judge : Phase → List ℕ → Taken
judge phase.Startup bytes = judge_startup bytes
judge phase.Front bytes = judge_front bytes
judge phase.Back bytes = judge_back bytes
judge phase.Ended bytes = judge_ended bytes

-- ---- what the code gives

-- a reader of fields gives what reading the list gives, unless memory ran out
abbrev pub Fails : {Y : Type 0} → FieldFault → Result Y ℕ → Type 0
Fails field_fault.Memory read = Unit {0}
Fails (field_fault.Left left) read = read ≡ Err left

abbrev pub Gives : {X Y : Type 0} → (X → Y) → Result X FieldFault → Result Y ℕ → Type 0
Gives view (Ok x) read = read ≡ Ok (view x)
Gives view (Err e) read = Fails e read

-- an answer is what judging gives, unless memory ran out
abbrev pub IsJudged : Taken → Taken → Type 0
IsJudged taken.Memory judged = Unit {0}
IsJudged (taken.Whole m used) judged = judged ≡ taken.Whole m used
IsJudged taken.Short judged = judged ≡ taken.Short
IsJudged (taken.Wrong f) judged = judged ≡ taken.Wrong f
