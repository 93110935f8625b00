-- What each event makes of the sessions and tickets, what it replies, and which waits it releases.
use Rattle.std.specs.Prelude.{Contains, ◌≤◌, ◌≡◌, ◌≢◌, ℕ, ◌+◌, ◌-◌, ◌<◌, ◌^◌, true, false, List, [], ◌∷◌, ◌++◌, map, filter, not, Option, Some, None, Result, Ok, Err}
use Rattle.std.specs.declared.alloc.AllocError.{AllocError}
use Rattle.std.specs.List.{AllZip}
use Rattle.repl_names.specs.StandbyList.{Listing}
use Rattle.repl_names.specs.declared.quorum.Mode.{Mode}
use Rattle.repl_names.specs.declared.quorum.Candidate.{Candidate}
use Rattle.repl_names.specs.Quorum as quorum
use Rattle.repl_sync.specs.declared.fault.SyncFault.{SyncFault}
use Rattle.repl_sync.specs.declared.fault.SyncFault.TheVariants.{Known, Unknown, NoTicketLeft, Memory}
use Rattle.repl_sync.specs.declared.session.FeedbackValue.{FeedbackValue}
use Rattle.repl_sync.specs.declared.certificate.Counted.{Counted}
use Rattle.repl_sync.specs.declared.certificate.Certificate.{Certificate}
use Rattle.repl_sync.specs.declared.certificate.Look.{Look}
use Rattle.repl_sync.specs.declared.certificate.Look.TheVariants as look
use Rattle.repl_sync.specs.State.{Session, Fate, Ticket, State, knows, changed, connected, starts, stops, reports, tells, is_numbered, name_of, standbys, fate_of, with_fate, without, cancels, Prepared, Waiting, Released, Cancelled}

-- what is asked of the state
pub data Event : Type 0 where
  Connect : ℕ → List ℕ → Event
  Streaming : ℕ → Event
  StopStreaming : ℕ → Event
  Disconnect : ℕ → Event
  -- the session, and how far its standby has written, flushed and applied
  Report : ℕ → ℕ → ℕ → ℕ → Event
  Feedback : ℕ → FeedbackValue → Event
  SetNames : Listing → Event
  NewTimeline : Event
  Prepare : Event
  -- the ticket, the commit's end, and what of the reports counts
  Wait : ℕ → ℕ → Mode → Event
  -- a wait that is cancelled as it begins
  WaitCancelled : ℕ → Event
  ToLook : ℕ → Event
  Cancel : ℕ → Event
  CancelAll : Event

-- what is replied
pub data Reply : Type 0 where
  Done : Reply
  Given : ℕ → Reply
  Looked : Look → Reply
  Refused : SyncFault → Reply

-- ---- refusals

-- the event is refused for this reason; want of memory is free where an event may take some
abbrev pub IsRefusal : State → Event → SyncFault → Type 0
IsRefusal s (Connect n name) Known = knows s.sessions n ≡ true
IsRefusal s (Connect n name) Memory = Unit {0}
IsRefusal s (Streaming n) Unknown = knows s.sessions n ≡ false
IsRefusal s (StopStreaming n) Unknown = knows s.sessions n ≡ false
IsRefusal s (Disconnect n) Unknown = knows s.sessions n ≡ false
IsRefusal s (Report n written flushed applied) Unknown = knows s.sessions n ≡ false
IsRefusal s (Feedback n value) Unknown = knows s.sessions n ≡ false
IsRefusal s (SetNames list) Memory = Unit {0}
IsRefusal s Prepare NoTicketLeft = s.last ≡ 2 ^ 64 - 1
IsRefusal s Prepare Memory = Unit {0}
IsRefusal s (Wait t end m) Unknown = fate_of s.tickets t ≢ Some Prepared
IsRefusal s (WaitCancelled t) Unknown = fate_of s.tickets t ≢ Some Prepared
IsRefusal s (Cancel t) Unknown = fate_of s.tickets t ≡ None
IsRefusal s event fault = ⊥

-- ---- what an event changes, before waits are released

-- the ticket waits
abbrev pub IsWaiting : Option Fate → Type 0
IsWaiting (Some (Waiting end m)) = Unit {0}
IsWaiting fate = ⊥

-- the ticket is not there, or does not wait yet
abbrev pub HasNoAnswer : Option Fate → Type 0
HasNoAnswer None = Unit {0}
HasNoAnswer (Some Prepared) = Unit {0}
HasNoAnswer fate = ⊥

-- a look: who is told that the wait is over hands the ticket back
abbrev pub Looks : State → ℕ → Look → State → Type 0
Looks old t look.NotYet new = IsWaiting (fate_of old.tickets t) × (new ≡ old)
Looks old t (look.Released c) new = (fate_of old.tickets t ≡ Some (Released c)) × (new ≡ record old { tickets = without t old.tickets })
Looks old t look.Cancelled new = (fate_of old.tickets t ≡ Some Cancelled) × (new ≡ record old { tickets = without t old.tickets })
Looks old t look.Unknown new = HasNoAnswer (fate_of old.tickets t) × (new ≡ old)

-- the tickets after a cancel of one with this fate: one that does not wait yet is handed back, and one that is
-- released or cancelled already stays so
abbrev pub cancelled_of : ℕ → Fate → List Ticket → List Ticket
cancelled_of t Prepared tickets = without t tickets
cancelled_of t fate tickets = with_fate t (cancels fate) tickets

abbrev pub cancels_ticket : Ticket → Ticket
cancels_ticket t = record t { fate = cancels t.fate }

abbrev pub Changes : State → Event → Reply → State → Type 0
Changes old (Connect n name) Done new = (knows old.sessions n ≡ false) × (new ≡ record old {
  sessions = old.sessions ++ connected n name
      ∷ [];
})
Changes old (Streaming n) Done new = (knows old.sessions n ≡ true) × (new ≡ record old { sessions = changed n starts old.sessions })
Changes old (StopStreaming n) Done new = (knows old.sessions n ≡ true) × (new ≡ record old { sessions = changed n stops old.sessions })
Changes old (Disconnect n) Done new = (knows old.sessions n ≡ true)
    × (new ≡ record old { sessions = filter (λ s. not (is_numbered n s)) old.sessions })
Changes old (Report n written flushed applied) Done new = (knows old.sessions n ≡ true)
    × (new ≡ record old { sessions = changed n (reports written flushed applied) old.sessions })
Changes old (Feedback n value) Done new = (knows old.sessions n ≡ true)
    × (new ≡ record old { sessions = changed n (tells value) old.sessions })
Changes old (SetNames list) Done new = new ≡ record old { list = list }
Changes old NewTimeline Done new = new ≡ record old { sessions = map stops old.sessions }
Changes old Prepare (Given t) new = (old.last < 2 ^ 64 - 1) × (t ≡ old.last + 1)
    × (new ≡ record old { tickets = old.tickets ++ record { number = t; fate = Prepared } ∷ []; last = t })
Changes old (Wait t end m) Done new = (fate_of old.tickets t ≡ Some Prepared)
    × (new ≡ record old { tickets = with_fate t (Waiting end m) old.tickets })
Changes old (WaitCancelled t) Done new = (fate_of old.tickets t ≡ Some Prepared)
    × (new ≡ record old { tickets = with_fate t Cancelled old.tickets })
Changes old (ToLook t) (Looked answer) new = Looks old t answer new
Changes old (Cancel t) Done new = (fate : Fate) × (fate_of old.tickets t ≡ Some fate)
    × (new ≡ record old { tickets = cancelled_of t fate old.tickets })
Changes old CancelAll Done new = new ≡ record old { tickets = map cancels_ticket old.tickets }
Changes old event reply new = ⊥

-- ---- which waits are released

-- what a certificate says of a session that counts
abbrev pub counted_as : List Session → Mode → Candidate → Counted
counted_as sessions m c = record { session = c.session; name = name_of sessions c.session; position = quorum.position m c }

-- it tells by whom the list is met at the end
pub record IsCertificate (list : Listing) (sessions : List Session) (m : Mode) (end : ℕ) (c : Certificate) : Type 0 where
  pub by_mode : c.mode ≡ m
  pub at : c.end ≡ end
  pub in_force : c.list ≡ list
  pub counted : (cs : List Candidate) × quorum.Counted list (standbys list sessions) m end cs
      × (c.counted ≡ map (counted_as sessions m) cs)

-- what a certificate tells of a session: it is that of a candidate with its name, which has the position
pub record IsSound (list : Listing) (sessions : List Session) (m : Mode) (end : ℕ) (k : Counted) : Type 0 where
  pub of : (c : Candidate) × Contains (quorum.candidates (standbys list sessions)) c × (k ≡ counted_as sessions m c)
  pub reaches : end ≤ k.position

-- A wait is released where the list in force is met at its end, and else goes on. Nothing else becomes of a ticket.
abbrev pub Becomes : Listing → List Session → Fate → Fate → Type 0
Becomes list sessions (Waiting end m) (Waiting later mode) = (later ≡ end) × (mode ≡ m) × ¬ quorum.Met list (standbys list sessions) m end
Becomes list sessions (Waiting end m) (Released c) = quorum.Met list (standbys list sessions) m end × IsCertificate list sessions m end c
Becomes list sessions (Waiting end m) fate = ⊥
Becomes list sessions old new = new ≡ old

pub record Settles (list : Listing) (sessions : List Session) (old new : Ticket) : Type 0 where
  pub number : new.number ≡ old.number
  pub fate : Becomes list sessions old.fate new.fate

-- every wait for which the list is met is released, and no other
pub record Releases (old new : State) : Type 0 where
  pub sessions : new.sessions ≡ old.sessions
  pub list : new.list ≡ old.list
  pub tickets : AllZip (Settles old.list old.sessions) old.tickets new.tickets
  pub last : new.last ≡ old.last

-- ---- a step

-- An event that is refused changes nothing. Any other makes its change, and then waits are released.
abbrev pub SyncStep : State → Event → Reply → State → Type 0
SyncStep old event (Refused fault) new = IsRefusal old event fault × (new ≡ old)
SyncStep old event reply new = (mid : State) × Changes old event reply mid × Releases mid new

-- ---- replies, as the calls give them

abbrev pub done : Result Unit SyncFault → Reply
done (Ok nothing) = Done
done (Err fault) = Refused fault

abbrev pub given : Result ℕ SyncFault → Reply
given (Ok ticket) = Given ticket
given (Err fault) = Refused fault

-- where want of memory is the only refusal
abbrev pub stored : Result Unit AllocError → Reply
stored (Ok nothing) = Done
stored (Err error) = Refused Memory
