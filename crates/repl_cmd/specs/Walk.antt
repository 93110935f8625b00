-- How tokens go through the rows of commands, one after another.
use Rattle.std.specs.Prelude.{◌≡◌, ◌≢◌, ℕ, ◌⊎◌, Bool, true, false, List, [], ◌∷◌, map, Option, Some, None, bytes_eq, if◌then◌else◌, codes}
use Rattle.std.specs.Char.{to_ascii_lowercase}
use Rattle.repl_names.specs.declared.setting.Setting.{Setting}
use Rattle.repl_names.specs.declared.fault.NamesFault.TheVariants as names_fault
use Rattle.repl_names.specs.StandbyList.{Listing}
use Rattle.repl_names.specs.Grammar as names
use Rattle.repl_cmd.specs.declared.command.Command.{Command}
use Rattle.repl_cmd.specs.declared.command.Command.TheVariants as command
use Rattle.repl_cmd.specs.declared.fault.CmdFault.{CmdFault}
use Rattle.repl_cmd.specs.declared.fault.CmdFault.TheVariants as fault
use Rattle.repl_cmd.specs.declared.fault.Unsupported.{Unsupported}
use Rattle.repl_cmd.specs.declared.fault.Unsupported.TheVariants as unsupported
use Rattle.repl_cmd.specs.declared.state.State.{State}
use Rattle.repl_cmd.specs.declared.state.State.TheVariants as state
use Rattle.repl_cmd.specs.declared.token.Kind.TheVariants as kind
use Rattle.repl_cmd.specs.Token.{Lexeme}
use Rattle.repl_cmd.specs.Command.{IsKeyword, IsNaming, IsJudged, IsSlot, IsParameter, IsPosition, IsNumber, IsFlag, IsSetting, IsBody, IsList}

-- the state after a first word, in small letters
abbrev pub first_state : List ℕ → Option State
first_state word =
    if bytes_eq word (codes "identify_system") then Some (state.Done command.IdentifySystem)
    else if bytes_eq word (codes "show") then Some state.Show
    else if bytes_eq word (codes "timeline_history") then Some state.History
    else if bytes_eq word (codes "create_replication_slot") then Some state.Create
    else if bytes_eq word (codes "drop_replication_slot") then Some state.DropSlot
    else if bytes_eq word (codes "read_replication_slot") then Some state.ReadSlot
    else if bytes_eq word (codes "start_replication") then Some state.Stream
    else if bytes_eq word (codes "append") then Some state.Append
    else if bytes_eq word (codes "set") then Some state.Set
    else if bytes_eq word (codes "alter") then Some state.Alter
    else if bytes_eq word (codes "promote") then Some state.Promote
    else if bytes_eq word (codes "demote") then Some (state.Done command.Demote)
    else if bytes_eq word (codes "trim") then Some (state.Done command.Trim)
    else if bytes_eq word (codes "status") then Some (state.Done command.Status)
    else if bytes_eq word (codes "stop") then Some (state.Done command.Stop)
    else None

-- the command that may end here
abbrev pub finish : State → Option Command
finish (state.Created name temporary) = Some (command.CreateSlot name temporary false)
finish (state.Dropped name) = Some (command.DropSlot name false)
finish (state.Streamed slot at) = Some (command.StartReplication slot at None)
finish state.Promote = Some (command.Promote None)
finish (state.Done c) = Some c
finish (state.Ended c) = Some c
finish _ = None

-- a token that goes on with a row leads from the state to the other
abbrev pub Moves : State → Lexeme → State → Type 0
Moves state.Start t s = (t.kind ≡ kind.Word) × (first_state (map to_ascii_lowercase t.text) ≡ Some s)
Moves state.Show t s = (name : List ℕ) × IsParameter name t × (s ≡ state.Done (command.Show name))
Moves state.History t s = (n : ℕ) × IsNumber 1 n t × (s ≡ state.Done (command.TimelineHistory n))
Moves state.Create t s = (name : List ℕ) × IsSlot name t × (s ≡ state.CreateNamed name)
Moves (state.CreateNamed name) t s =
    (IsKeyword (codes "temporary") t × (s ≡ state.CreateTemporary name)) ⊎ (IsKeyword (codes "physical") t × (s ≡ state.Created name false))
Moves (state.CreateTemporary name) t s = IsKeyword (codes "physical") t × (s ≡ state.Created name true)
Moves (state.Created name temporary) t s =
    (IsKeyword (codes "reserve_wal") t × (s ≡ state.Done (command.CreateSlot name temporary true)))
    ⊎ ((t.kind ≡ kind.Opening) × (s ≡ state.CreateOpened name temporary))
Moves (state.CreateOpened name temporary) t s = IsKeyword (codes "reserve_wal") t × (s ≡ state.CreateOption name temporary)
Moves (state.CreateOption name temporary) t s =
    ((t.kind ≡ kind.Closing) × (s ≡ state.Done (command.CreateSlot name temporary true)))
    ⊎ ((reserve : Bool) × IsFlag reserve t × (s ≡ state.CreateValued name temporary reserve))
Moves (state.CreateValued name temporary reserve) t s = (t.kind ≡ kind.Closing)
    × (s ≡ state.Done (command.CreateSlot name temporary reserve))
Moves state.DropSlot t s = (name : List ℕ) × IsSlot name t × (s ≡ state.Dropped name)
Moves (state.Dropped name) t s = IsKeyword (codes "wait") t × (s ≡ state.Done (command.DropSlot name true))
Moves state.ReadSlot t s = (name : List ℕ) × IsSlot name t × (s ≡ state.Done (command.ReadSlot name))
Moves state.Stream t s =
    (IsKeyword (codes "slot") t × (s ≡ state.StreamSlot)) ⊎ (IsKeyword (codes "physical") t × (s ≡ state.StreamPhysical None))
    ⊎ ((at : ℕ) × IsPosition at t × (s ≡ state.Streamed None at))
Moves state.StreamSlot t s = (name : List ℕ) × IsSlot name t × (s ≡ state.StreamNamed name)
Moves (state.StreamNamed name) t s =
    (IsKeyword (codes "physical") t × (s ≡ state.StreamPhysical (Some name)))
    ⊎ ((at : ℕ) × IsPosition at t × (s ≡ state.Streamed (Some name) at))
Moves (state.StreamPhysical slot) t s = (at : ℕ) × IsPosition at t × (s ≡ state.Streamed slot at)
Moves (state.Streamed slot at) t s = IsKeyword (codes "timeline") t × (s ≡ state.StreamTimeline slot at)
Moves (state.StreamTimeline slot at) t s = (n : ℕ) × IsNumber 1 n t × (s ≡ state.Done (command.StartReplication slot at (Some n)))
Moves state.Append t s = (n : ℕ) × IsNumber 0 n t × (s ≡ state.AppendBody n)
Moves (state.AppendBody n) t s = (bytes : List ℕ) × IsBody bytes t × (s ≡ state.Done (command.Append n bytes))
Moves state.Set t s = IsKeyword (codes "synchronous_commit") t × (s ≡ state.SetCommit)
Moves state.SetCommit t s = ((t.kind ≡ kind.Equals) ⊎ IsKeyword (codes "to") t) × (s ≡ state.SetValue)
Moves state.SetValue t s = (v : Setting) × IsSetting v t × (s ≡ state.Done (command.SetCommit v))
Moves state.Alter t s = IsKeyword (codes "system") t × (s ≡ state.AlterSystem)
Moves state.AlterSystem t s = IsKeyword (codes "set") t × (s ≡ state.AlterSet)
Moves state.AlterSet t s = IsKeyword (codes "synchronous_standby_names") t × (s ≡ state.AlterNames)
Moves state.AlterNames t s = (t.kind ≡ kind.Equals) × (s ≡ state.AlterText)
Moves state.AlterText t s = (list : Listing) × IsList list t × (s ≡ state.Done (command.SetNames list))
Moves state.Promote t s = (n : ℕ) × IsNumber 1 n t × (s ≡ state.Done (command.Promote (Some n)))
Moves (state.Done c) t s = ⊥
Moves (state.Ended c) t s = ⊥

-- a semicolon may stand after a command, but not after another
abbrev pub Closes : State → Lexeme → State → Type 0
Closes (state.Ended c) t s = ⊥
Closes from t s = (t.kind ≡ kind.Semicolon) × ((c : Command) × (finish from ≡ Some c) × (s ≡ state.Ended c))

-- the token leads from the state to the other
abbrev pub Steps : State → Lexeme → State → Type 0
Steps from t s = Moves from t s ⊎ Closes from t s

-- the tokens lead from the state to the other
abbrev pub Runs : State → List Lexeme → State → Type 0
Runs from [] s = s ≡ from
Runs from (t ∷ ts) s = (next : State) × Steps from t next × Runs next ts s

-- the token leads nowhere
abbrev pub IsStuck : State → Lexeme → Type 0
IsStuck from t = (s : State) → ¬ Steps from t s

-- ---- what is wanted in a state

abbrev pub wants_physical : State → Bool
wants_physical (state.CreateNamed name) = true
wants_physical (state.CreateTemporary name) = true
wants_physical state.Stream = true
wants_physical (state.StreamNamed name) = true
wants_physical _ = false

abbrev pub wants_slot : State → Bool
wants_slot state.Create = true
wants_slot state.DropSlot = true
wants_slot state.ReadSlot = true
wants_slot state.StreamSlot = true
wants_slot _ = false

abbrev pub wants_position : State → Bool
wants_position state.Stream = true
wants_position (state.StreamNamed name) = true
wants_position (state.StreamPhysical slot) = true
wants_position _ = false

abbrev pub wants_number : State → Bool
wants_number state.History = true
wants_number (state.StreamTimeline slot at) = true
wants_number state.Append = true
wants_number state.Promote = true
wants_number _ = false

abbrev pub is_start : State → Bool
is_start state.Start = true
is_start _ = false

abbrev pub wants_names : State → Bool
wants_names state.AlterText = true
wants_names _ = false

-- ---- faults in a state

-- the token names what is left out
abbrev pub LeavesOut : State → Lexeme → Unsupported → Type 0
LeavesOut from t unsupported.Logical = (wants_physical from ≡ true) × IsKeyword (codes "logical") t
LeavesOut from t unsupported.BaseBackup = (is_start from ≡ true) × IsKeyword (codes "base_backup") t
LeavesOut from t unsupported.UploadManifest = (is_start from ≡ true) × IsKeyword (codes "upload_manifest") t
LeavesOut from t unsupported.AlterSlot = (is_start from ≡ true) × IsKeyword (codes "alter_replication_slot") t

-- the token has a fault of its own
abbrev pub IsOwnFault : State → Lexeme → CmdFault → Type 0
IsOwnFault from t (fault.Syntax place) = ⊥
IsOwnFault from t (fault.Unsupported what) = LeavesOut from t what
IsOwnFault from t (fault.BadSlotName place) = (place ≡ t.place) × (wants_slot from ≡ true) × IsNaming t
IsOwnFault from t (fault.BadLsn place) = (place ≡ t.place) × (wants_position from ≡ true) × IsJudged t
    × ¬ ((wants_physical from ≡ true) × IsKeyword (codes "logical") t)
IsOwnFault from t (fault.BadNumber place) = (place ≡ t.place) × (wants_number from ≡ true) × IsJudged t
IsOwnFault from t (fault.BadNames found) = (wants_names from ≡ true) × (t.kind ≡ kind.Text) × names.IsListFault t.text found
    × (found ≢ names_fault.Memory)
IsOwnFault from t fault.Memory = ⊥

-- the token has this fault, which is of the syntax where it has no other
abbrev pub IsStepFault : State → Lexeme → CmdFault → Type 0
IsStepFault from t (fault.Syntax place) = (place ≡ t.place) × ¬ ((f : CmdFault) × IsOwnFault from t f)
IsStepFault from t f = IsOwnFault from t f

-- the token leads nowhere, by this fault
pub record IsStop (from : State) (t : Lexeme) (f : CmdFault) : Type 0 where
  pub stuck : IsStuck from t
  pub cause : IsStepFault from t f
