-- A quiet event moves nothing that others wait for.
use Rattle.std.proofs.Common.{◌≡◌, ◌≢◌, true, false, List, filter, Result, refl, ap, ◌∙◌}
use Rattle.repl_hub.proofs.Logs.{past}
use Rattle.repl_hub.proofs.Settling.{gives_quietly, looks_quietly, tells_quietly}
use Rattle.repl_hub.specs.Log.{IsLogRead, OfNode, ReadsLog, TellsHistory}
use Rattle.repl_hub.specs.Quiet.{awaited, is_quiet, is_waiting}
use Rattle.repl_hub.specs.Sessions.{OfSync}
use Rattle.repl_hub.specs.State.{HubView, with_node}
use Rattle.repl_hub.specs.Step.{HubStep}
use Rattle.repl_hub.specs.declared.event.HubEvent.{HubEvent}
use Rattle.repl_hub.specs.declared.event.HubEvent.TheVariants as event
use Rattle.repl_hub.specs.declared.reply.HubReply.{HubReply}
use Rattle.repl_node.specs.Steps.{OfLog}
use Rattle.repl_sync.specs.State.{IsState, State, Ticket}
use Rattle.repl_sync.specs.Sync as sync
use Rattle.repl_wal.specs.Reading.{CanRead, IsReadRefusal}
use Rattle.repl_wal.specs.State.{LogState, identity_in, path_of, status_of_log}
use Rattle.repl_wal.specs.Steps.{Only, Step}
use Rattle.repl_wal.specs.Telling.{IsHistoryOf, IsHistoryRefusal}
use Rattle.repl_wal.specs.declared.fault.NodeFault.{NodeFault}
use Rattle.repl_wal.specs.declared.wal.Identity.{Identity}

-- ---- reading

-- what the log tells of itself
abbrev told_by : LogState → Identity
told_by n = identity_in (status_of_log n)

abbrev TellsTheSame : LogState → LogState → Type 0
TellsTheSame n m = told_by m ≡ told_by n

same_told : {A : Type 0} (Refuses : NodeFault → Type 0) (Passes : Type 0) (Answers : A → Type 0) (n m : LogState) (result : Result A NodeFault)
    → Step Refuses Passes (λ a k. Answers a × (k ≡ n)) (Only n) n result m → TellsTheSame n m
same_told {A} Refuses Passes Answers n m result step =
    let Done : A → LogState → Type 0 = λ a k. Answers a × (k ≡ n) in
    past Refuses Passes Done (Only n) n m (TellsTheSame n) refl refl (λ is. ap told_by is) result (λ a done. ap told_by done.1) step

of_reading : (h m : HubView) (Next : LogState → Type 0) → ((log : LogState) → Next log → TellsTheSame h.node.log log)
    → OfNode h (OfLog h.node Next) m → awaited m ≡ awaited h
of_reading h m Next tells is =
    ap awaited (is.2 ∙ ap (with_node h) is.1.2)
    ∙ ap (λ (i : Identity). record { identity = i; waiting = (awaited h).waiting; stopped = h.stopped }) (tells is.1.0 is.1.1)

-- ---- sessions and tickets

-- the tickets that wait
abbrev waiting_in : State → List Ticket
waiting_in s = filter (λ (t : Ticket). is_waiting t.fate) s.tickets

of_telling : (h m : HubView) (event : sync.Event) (answer : sync.Reply)
    → ((told : State) → sync.SyncStep h.sync event answer told → waiting_in told ≡ waiting_in h.sync)
    → OfSync h event answer m → awaited m ≡ awaited h
of_telling h m event answer stays is =
    ap awaited is.2
    ∙ ap (λ (ts : List Ticket). record { identity = told_by h.node.log; waiting = ts; stopped = h.stopped }) (stays is.0 is.1)

-- ---- one case an event

pub moves_nothing : (h m : HubView) (event : HubEvent) (reply : HubReply) → is_quiet event ≡ true → IsState h.sync → HubStep h event reply m
    → awaited m ≡ awaited h
moves_nothing h m event.Identify reply quiet is step = ap awaited step.1
moves_nothing h m (event.History tli) reply quiet is step =
    of_reading h m (TellsHistory h.node.log tli step.0)
    (λ log. same_told (IsHistoryRefusal (path_of h.node.log) tli) (tli ≢ 1) (IsHistoryOf (path_of h.node.log) tli) h.node.log log step.0) step.2
moves_nothing h m (event.Read tli at most) reply quiet is step =
    of_reading h m (ReadsLog h.node.log tli at most step.0)
    (λ log. same_told (IsReadRefusal h.node.log tli at) (CanRead h.node.log tli at) (IsLogRead h.node.log tli at most) h.node.log log step.0) step.2
moves_nothing h m event.Status reply quiet is step = ap awaited step.1
moves_nothing h m (event.SlotRead name) reply quiet is step = ap awaited step.1
moves_nothing h m (event.Feedback session value) reply quiet is step =
    of_telling h m (sync.Feedback session value) (sync.done step.0)
    (λ told made. ap (filter (λ (t : Ticket). is_waiting t.fate)) (tells_quietly h.sync told session value step.0 is made)) step.2
moves_nothing h m event.Prepare reply quiet is step =
    of_telling h m sync.Prepare (sync.given step.0) (λ told made. gives_quietly is_waiting h.sync told step.0 refl is made) step.2
moves_nothing h m (event.Look ticket) reply quiet is step =
    of_telling h m (sync.ToLook ticket) (sync.Looked step.0)
    (λ told made. looks_quietly is_waiting h.sync told ticket step.0 refl refl (λ c. refl) is made) step.2
moves_nothing h m event.Names reply quiet is step = ap awaited step.2.1
moves_nothing h m event reply quiet is step = let other : false ≡ true = quiet in absurd (cc other)
