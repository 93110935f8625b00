-- A commit: which events it makes, and what it answers (PostgreSQL 17 manual, `synchronous_commit`).
use Rattle.std.specs.Prelude.{◌≡◌, ◌≢◌, ◌⊎◌, ℕ, Bool, true, false, List, [], ◌∷◌, ◌++◌, replicate, Option, Some, None, Result, Ok, Err}
use Rattle.repl_hub.specs.Pass.{Call, call}
use Rattle.repl_hub.specs.declared.commit.Acked.{Acked}
use Rattle.repl_hub.specs.declared.commit.CommitFault.{CommitFault}
use Rattle.repl_hub.specs.declared.commit.CommitFault.TheVariants as commit
use Rattle.repl_hub.specs.declared.commit.Waiter.{Waiter}
use Rattle.repl_hub.specs.declared.event.HubEvent.TheVariants as event
use Rattle.repl_hub.specs.declared.reply.HubReply.TheVariants as reply
use Rattle.repl_hub.specs.declared.reply.WaitFault.{WaitFault}
use Rattle.repl_hub.specs.declared.reply.WaitFault.TheVariants as wait
use Rattle.repl_names.specs.Setting.{setting_mode}
use Rattle.repl_names.specs.declared.quorum.Mode.{Mode}
use Rattle.repl_names.specs.declared.setting.Setting.{Setting}
use Rattle.repl_names.specs.declared.setting.Setting.TheVariants as setting
use Rattle.repl_record.specs.declared.record.RecordIn.{RecordIn}
use Rattle.repl_sync.specs.declared.certificate.Certificate.{Certificate}
use Rattle.repl_sync.specs.declared.certificate.Look.{Look}
use Rattle.repl_sync.specs.declared.certificate.Look.TheVariants as look
use Rattle.repl_sync.specs.declared.fault.SyncFault.{SyncFault}
use Rattle.repl_sync.specs.declared.fault.SyncFault.TheVariants as sync
use Rattle.repl_wal.specs.declared.fault.NodeFault.{NodeFault}
use Rattle.repl_wal.specs.declared.fault.NodeFault.TheVariants as node

abbrev pub Answer : Type 0
Answer = Result Acked CommitFault

abbrev pub acked : ℕ → Option Certificate → Answer
acked end proof = Ok (record { end = end; proof = proof })

-- ---- faults

-- what the fault of an append or a flush is to a commit; those that come last here are of other calls
abbrev pub of_node : NodeFault → CommitFault
of_node node.Broken = commit.Broken
of_node node.NotPrimary = commit.NotPrimary
of_node (node.TooLong len) = commit.TooLong len
of_node node.LogFull = commit.LogFull
of_node node.Memory = commit.Memory
of_node other = commit.DiskFault

abbrev pub of_prepare : SyncFault → CommitFault
of_prepare sync.Memory = commit.Memory
of_prepare sync.NoTicketLeft = commit.NoTicketLeft
of_prepare sync.Known = commit.NoTicketLeft
of_prepare sync.Unknown = commit.NoTicketLeft

-- ---- calls, each with its reply

abbrev pub prepare_call : Result ℕ SyncFault → Call
prepare_call result = call event.Prepare (reply.Prepare result)

abbrev pub append_call : RecordIn → Result ℕ NodeFault → Call
append_call item result = call (event.Append item) (reply.Append result)

abbrev pub flush_call : Result ℕ NodeFault → Call
flush_call result = call event.Flush (reply.Flush result)

abbrev pub wait_call : Waiter → ℕ → Result (Unit {0}) WaitFault → Call
wait_call w end result = call (event.Wait w.ticket end w.mode) (reply.Wait result)

abbrev pub look_call : ℕ → Look → Call
look_call ticket answer = call (event.Look ticket) (reply.Look answer)

abbrev pub cancel_call : ℕ → Result (Unit {0}) SyncFault → Call
cancel_call ticket result = call (event.Cancel ticket) (reply.Cancel result)

-- so many looks that are not answered yet, and one that is answered so
abbrev pub looks : ℕ → ℕ → Look → List Call
looks ticket times answer = replicate times (look_call ticket look.NotYet) ++ look_call ticket answer ∷ []

-- a ticket is given, where there is one
abbrev pub ticket_calls : Option Waiter → List Call
ticket_calls None = []
ticket_calls (Some w) = prepare_call (Ok w.ticket) ∷ []

-- and it is handed back
abbrev pub AreBack : Option Waiter → List Call → Type 0
AreBack None calls = calls ≡ []
AreBack (Some w) calls = (result : Result (Unit {0}) SyncFault) × (calls ≡ cancel_call w.ticket result ∷ [])

-- ---- what is asked for

-- everything is flushed but at `off`
abbrev pub is_flushed_at : Setting → Bool
is_flushed_at setting.RemoteApply = true
is_flushed_at setting.On = true
is_flushed_at setting.RemoteWrite = true
is_flushed_at setting.Local = true
is_flushed_at setting.Off = false

abbrev pub mode_of : Option Waiter → Option Mode
mode_of None = None
mode_of (Some w) = Some w.mode

-- ---- acknowledged

-- the record is flushed, where that is asked for
abbrev pub AreFlush : Bool → List Call → Type 0
AreFlush true calls = (flushed : ℕ) × (calls ≡ flush_call (Ok flushed) ∷ [])
AreFlush false calls = calls ≡ []

-- Nobody is waited for: the record is added, and flushed but at `off`.
pub record IsAckedAlone (item : RecordIn) (at : Setting) (calls : List Call) (end : ℕ) : Type 0 where
  pub nobody : setting_mode at ≡ None
  pub flush : List Call
  pub flushes : AreFlush (is_flushed_at at) flush
  pub made : calls ≡ append_call item (Ok end) ∷ flush

-- Standbys are waited for: a ticket is given, the record is added and flushed, its wait begins, and the last look gives the certificate.
pub record IsAckedBy (item : RecordIn) (at : Setting) (calls : List Call) (end : ℕ) (proof : Certificate) : Type 0 where
  pub waiter : Waiter
  pub somebody : setting_mode at ≡ Some waiter.mode
  pub flushed : ℕ
  pub waits : Result (Unit {0}) WaitFault
  pub known : waits ≢ Err wait.Unknown
  pub times : ℕ
  pub made : calls ≡ prepare_call (Ok waiter.ticket) ∷ append_call item (Ok end) ∷ flush_call (Ok flushed) ∷ wait_call waiter end waits
      ∷ looks waiter.ticket times (look.Released proof)

abbrev pub IsAcknowledged : RecordIn → Setting → List Call → ℕ → Option Certificate → Type 0
IsAcknowledged item at calls end None = IsAckedAlone item at calls end
IsAcknowledged item at calls end (Some proof) = IsAckedBy item at calls end proof

-- ---- cancelled

-- the ticket is none that may wait, or the last look gives no certificate
abbrev pub AreVain : ℕ → Result (Unit {0}) WaitFault → List Call → Type 0
AreVain ticket (Err wait.Unknown) calls = calls ≡ []
AreVain ticket other calls = (times : ℕ) × (last : Look) × ((last ≡ look.Cancelled) ⊎ (last ≡ look.Unknown)) × (calls ≡ looks ticket times last)

-- Standbys are waited for in vain: the record is flushed here, and not known to be elsewhere.
pub record IsCancelled (item : RecordIn) (at : Setting) (calls : List Call) (end : ℕ) : Type 0 where
  pub waiter : Waiter
  pub somebody : setting_mode at ≡ Some waiter.mode
  pub flushed : ℕ
  pub waits : Result (Unit {0}) WaitFault
  pub rest : List Call
  pub vain : AreVain waiter.ticket waits rest
  pub made : calls ≡ prepare_call (Ok waiter.ticket) ∷ append_call item (Ok end) ∷ flush_call (Ok flushed) ∷ wait_call waiter end waits ∷ rest

-- ---- refused

-- no ticket is given, and nothing else is asked
pub record IsUnprepared (at : Setting) (calls : List Call) (e : CommitFault) : Type 0 where
  pub mode : Mode
  pub somebody : setting_mode at ≡ Some mode
  pub fault : SyncFault
  pub made : calls ≡ prepare_call (Err fault) ∷ []
  pub is : e ≡ of_prepare fault

-- the record is not added, or it is added and not flushed
abbrev pub AreRefused : RecordIn → Bool → NodeFault → List Call → Type 0
AreRefused item flushes fault calls = (calls ≡ append_call item (Err fault) ∷ [])
    ⊎ ((flushes ≡ true) × ((end : ℕ) × (calls ≡ append_call item (Ok end) ∷ flush_call (Err fault) ∷ [])))

-- The log refuses the record, and the ticket is handed back, where one was given.
pub record IsUnwritten (item : RecordIn) (at : Setting) (calls : List Call) (e : CommitFault) : Type 0 where
  pub waiter : Option Waiter
  pub who : setting_mode at ≡ mode_of waiter
  pub fault : NodeFault
  pub tried : List Call
  pub refused : AreRefused item (is_flushed_at at) fault tried
  pub back : List Call
  pub handed : AreBack waiter back
  pub made : calls ≡ ticket_calls waiter ++ (tried ++ back)
  pub is : e ≡ of_node fault

abbrev pub IsRefused : RecordIn → Setting → List Call → CommitFault → Type 0
IsRefused item at calls e = IsUnprepared at calls e ⊎ IsUnwritten item at calls e

-- ---- the whole

-- A commit of this record at this setting makes these calls, and answers so.
abbrev pub Commit : RecordIn → Setting → List Call → Answer → Type 0
Commit item at calls (Ok acked) = IsAcknowledged item at calls acked.end acked.proof
Commit item at calls (Err (commit.Cancelled end)) = IsCancelled item at calls end
Commit item at calls (Err fault) = IsRefused item at calls fault

-- ---- its parts. Private clauses cite this.

-- where a ticket was given for this waiter, and these calls were made after it, those that follow make a commit
abbrev pub Completes : Option Waiter → Bool → RecordIn → List Call → Answer → List Call → Type 0
Completes waiter flushes item before answer calls = (at : Setting) → setting_mode at ≡ mode_of waiter → is_flushed_at at ≡ flushes →
    Commit item at (ticket_calls waiter ++ (before ++ calls)) answer

-- the looks that end with this one
abbrev pub AreLooks : ℕ → Look → List Call → Type 0
AreLooks ticket answer calls = (answer ≢ look.NotYet) × ((times : ℕ) × (calls ≡ looks ticket times answer))

-- what the last look is to the commit
abbrev pub looked : ℕ → Look → Answer
looked end (look.Released proof) = acked end (Some proof)
looked end look.Cancelled = Err (commit.Cancelled end)
looked end look.Unknown = Err (commit.Cancelled end)
looked end look.NotYet = Err (commit.Cancelled end)
