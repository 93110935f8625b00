-- Payloads of CopyData and their one spelling (PostgreSQL 17 manual, section "Streaming Replication Protocol").
use Rattle.std.specs.Prelude.{◌≡◌, ◌≢◌, ℕ, ◌^◌, ◌<◌, ◌≤◌, ◌⊎◌, Bool, true, false, List, [], ◌∷◌, ◌++◌, length}
use Rattle.std.specs.Int.{w32, w64, to_be_bytes}
use Rattle.repl_copy.specs.declared.payload.Stream.{Stream}
use Rattle.repl_copy.specs.declared.payload.Stream.TheVariants as stream
use Rattle.repl_copy.specs.declared.payload.Reply.{Reply}
use Rattle.repl_copy.specs.declared.payload.Reply.TheVariants as reply
use Rattle.repl_copy.specs.declared.payload.TheConstants.{WAL_LIMIT}
use Rattle.repl_copy.specs.declared.fault.CopyFault.{CopyFault}
use Rattle.repl_copy.specs.declared.fault.CopyFault.TheVariants as fault

-- ---- fields

abbrev pub int32 : ℕ → List ℕ
int32 n = to_be_bytes w32 n

abbrev pub int64 : ℕ → List ℕ
int64 n = to_be_bytes w64 n

-- whether a reply is asked for
abbrev pub flag : Bool → List ℕ
flag true = 1 ∷ []
flag false = 0 ∷ []

-- ---- spellings

-- what a server sends: a piece of the log, `w`, or a keepalive, `k`
abbrev pub stream_spelling : Stream → List ℕ
stream_spelling (stream.Wal start end clock bytes) = 119 ∷ int64 start ++ int64 end ++ int64 clock ++ bytes
stream_spelling (stream.Keepalive end clock asks) = 107 ∷ int64 end ++ int64 clock ++ flag asks

-- what a standby sends: its positions, `r`, or feedback, `h`
abbrev pub reply_spelling : Reply → List ℕ
reply_spelling (reply.Status written flushed applied clock asks) = 114 ∷ int64 written ++ int64 flushed ++ int64 applied ++ int64 clock
    ++ flag asks
reply_spelling (reply.Feedback clock xmin epoch catalog_xmin catalog_epoch) = 104 ∷ int64 clock ++ int32 xmin ++ int32 epoch
    ++ int32 catalog_xmin ++ int32 catalog_epoch

-- ---- values

-- its numbers fit their fields
abbrev pub IsStream : Stream → Type 0
IsStream (stream.Wal start end clock bytes) = (start < 2 ^ 64) × (end < 2 ^ 64) × (clock < 2 ^ 64)
IsStream (stream.Keepalive end clock asks) = (end < 2 ^ 64) × (clock < 2 ^ 64)

abbrev pub IsReply : Reply → Type 0
IsReply (reply.Status written flushed applied clock asks) = (written < 2 ^ 64) × (flushed < 2 ^ 64) × (applied < 2 ^ 64) × (clock < 2 ^ 64)
IsReply (reply.Feedback clock xmin epoch catalog_xmin catalog_epoch) = (clock < 2 ^ 64) × (xmin < 2 ^ 32) × (epoch < 2 ^ 32)
    × (catalog_xmin < 2 ^ 32) × (catalog_epoch < 2 ^ 32)

-- a server of this project sends no more of its log in one message
abbrev pub IsSent : Stream → Type 0
IsSent (stream.Wal start end clock bytes) = length bytes ≤ WAL_LIMIT
IsSent (stream.Keepalive end clock asks) = Unit {0}

-- ---- refusals

-- the payload begins with this byte
abbrev pub IsOfKind : ℕ → List ℕ → Type 0
IsOfKind kind payload = (rest : List ℕ) × (payload ≡ kind ∷ rest)

-- the payload ends with this byte, which is no flag
abbrev pub IsFlagged : ℕ → List ℕ → Type 0
IsFlagged said payload = ((front : List ℕ) × (payload ≡ front ++ said ∷ [])) × (said ≢ 0) × (said ≢ 1)

-- what is wrong with a server's payload
abbrev pub IsStreamFault : List ℕ → CopyFault → Type 0
IsStreamFault payload fault.Empty = payload ≡ []
IsStreamFault payload (fault.Kind kind) = IsOfKind kind payload × (kind ≢ 119) × (kind ≢ 107)
IsStreamFault payload (fault.Length have) = (have ≡ length payload)
    × ((IsOfKind 119 payload × (have < 25)) ⊎ (IsOfKind 107 payload × (have ≢ 18)))
IsStreamFault payload (fault.Flag said) = IsOfKind 107 payload × (length payload ≡ 18) × IsFlagged said payload

-- what is wrong with a standby's payload
abbrev pub IsReplyFault : List ℕ → CopyFault → Type 0
IsReplyFault payload fault.Empty = payload ≡ []
IsReplyFault payload (fault.Kind kind) = IsOfKind kind payload × (kind ≢ 114) × (kind ≢ 104)
IsReplyFault payload (fault.Length have) = (have ≡ length payload)
    × ((IsOfKind 114 payload × (have ≢ 34)) ⊎ (IsOfKind 104 payload × (have ≢ 25)))
IsReplyFault payload (fault.Flag said) = IsOfKind 114 payload × (length payload ≡ 34) × IsFlagged said payload
