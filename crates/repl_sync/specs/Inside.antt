-- What the code keeps, and what that stands for.
use Rattle.std.specs.Prelude.{◌≡◌, ◌≢◌, ℕ, ◌+◌, ◌-◌, ◌<◌, ◌≤◌, ◌^◌, min, List, [], ◌∷◌, ◌++◌, Result, Ok, Err, map, length, All, AllPairs, vec_len, vec_capacity, Bool, filter, IsPermutation, ◌↔◌, ◌⊎◌, if◌then◌else◌, not, Option, Some, None, MatchOption, take, slice_index_or, true, false}
use Rattle.repl_names.specs.StandbyList.{Listing, IsListing, priority_of}
use Rattle.repl_names.specs.declared.quorum.Candidate.{Candidate}
use Rattle.repl_names.specs.Quorum.{Differ, InOrder, Met, candidates, reaches}
use Rattle.repl_names.specs.declared.list.Method.{Method}
use Rattle.repl_names.specs.declared.list.Method.TheVariants as method
use Rattle.std.proofs.Common.{Vec, Global}
use Rattle.repl_names.specs.declared.quorum.Mode.{Mode}
use Rattle.repl_names.specs.declared.quorum.Mode.TheVariants as mode
use Rattle.std.specs.declared.alloc.AllocError.{AllocError}
use Rattle.repl_sync.specs.declared.fault.SyncFault.{SyncFault}
use Rattle.repl_sync.specs.declared.fault.SyncFault.TheVariants as fault
use Rattle.repl_sync.specs.declared.session.Change.{Change}
use Rattle.repl_sync.specs.declared.session.Change.TheVariants as change
use Rattle.repl_sync.specs.declared.session.Entry.{Entry}
use Rattle.repl_sync.specs.declared.certificate.Certificate.{Certificate}
use Rattle.repl_sync.specs.declared.holding.Progress.{Progress}
use Rattle.repl_sync.specs.declared.holding.Progress.TheVariants as progress
use Rattle.repl_sync.specs.declared.holding.Holding.{Holding}
use Rattle.repl_sync.specs.declared.reach.Reach.{Reach}
use Rattle.repl_sync.specs.declared.parts.Parts.{Parts}
use Rattle.repl_sync.specs.Sync.{Releases, Settles, cancelled_of}
use Rattle.repl_sync.specs.State.{Session, Fate, Ticket, State, Rests, IsDue, changed, connected, fate_of, is_numbered, knows, name_of, reports, standbys, starts, stops, tells, with_fate, Prepared, Waiting, Released, Cancelled}

abbrev pub session_of : Entry → Session
session_of e = record {
  number = e.candidate.session;
  name = e.name;
  streaming = e.streaming;
  written = e.candidate.written;
  flushed = e.candidate.flushed;
  applied = e.candidate.applied;
  feedback = e.feedback;
}

abbrev pub candidate_of : Entry → Candidate
candidate_of e = e.candidate

-- those of one list that pass a test are those of the other, in some order
abbrev pub SameByTests : List Candidate → List Candidate → Type 0
SameByTests cs ds = (p : Candidate → Bool) → IsPermutation (filter p cs) (filter p ds)

-- the list is met exactly up to there
abbrev pub IsReach : Listing → List Candidate → Mode → Option ℕ → Type 0
IsReach list cs m reach = (end : ℕ) → end < 2 ^ 64 → (Met list cs m end ↔ MatchOption reach ⊥ (λ greatest. end ≤ greatest))

abbrev pub reach_in : Reach → Mode → Option ℕ
reach_in r mode.Write = r.write
reach_in r mode.Flush = r.flush
reach_in r mode.Apply = r.apply

-- the list takes the candidate where it has the position, and by FIRST wherever it is
abbrev pub is_taken : Method → Mode → ℕ → Candidate → Bool
is_taken method.Any m end c = reaches m end c
is_taken method.First m end c = true

-- those that the list takes, of candidates in order
abbrev pub taken : Listing → List Candidate → Mode → ℕ → List Candidate
taken list order m end = take list.number (filter (is_taken list.method m end) order)

abbrev pub Bytes : Type 0
Bytes = Vec ℕ Global

abbrev pub IsBlank : Bytes → Type 0
IsBlank b = b.items ≡ []

-- the name of each session fits into the room
abbrev pub FitsNames : List Session → Bytes → Type 0
FitsNames sessions b = (n : ℕ) → length (name_of sessions n) ≤ vec_capacity b

abbrev pub effect : Change → Session → Session
effect change.Start = starts
effect change.Stop = stops
effect (change.Report w f a) = reports w f a
effect (change.Tell value) = tells value

-- the same connection, which still has no positions where it does not stream
pub record Alike (old new : Entry) : Type 0 where
  pub session : new.candidate.session ≡ old.candidate.session
  pub priority : new.candidate.priority ≡ old.candidate.priority
  pub name : new.name ≡ old.name
  pub rests : Rests (session_of new)

abbrev pub certificate_of : Holding → ℕ → Mode → Certificate
certificate_of h end m = record { mode = m; end = end; list = h.list; counted = h.counted.items }

abbrev pub fate_in : Progress → Holding → Fate
fate_in progress.Prepared h = Prepared
fate_in (progress.Waiting end m) h = Waiting end m
fate_in (progress.Released end m) h = Released (certificate_of h end m)
fate_in progress.Cancelled h = Cancelled

abbrev pub ticket_of : Holding → Ticket
ticket_of h = record { number = h.ticket; fate = fate_in h.progress h }

abbrev pub sessions_of : List Entry → List Session
sessions_of entries = map session_of entries

abbrev pub state_of : Parts → State
state_of p = record {
  sessions = sessions_of p.entries.items;
  list = p.list;
  tickets = map ticket_of p.holdings.items;
  last = p.last;
}

-- a ticket that is neither released nor cancelled
abbrev pub IsLive : Progress → Type 0
IsLive progress.Prepared = Unit {0}
IsLive (progress.Waiting end m) = Unit {0}
IsLive p = ⊥

-- the name of each session fits into it
abbrev pub FitsEach : List Entry → Bytes → Type 0
FitsEach entries b = All (λ e. length e.name ≤ vec_capacity b) entries

-- as many as can count: no more than the list demands, nor than there are
abbrev pub countable : Listing → List Entry → ℕ
countable list entries = min list.number (length entries)

-- room for a certificate by the list in force, of as many sessions as can count
pub record HasRoomFor (list : Listing) (entries : List Entry) (h : Holding) : Type 0 where
  pub in_force : h.list ≡ list
  pub empty : h.counted.items ≡ []
  pub counted : countable list entries ≤ vec_capacity h.counted
  pub names : countable list entries ≤ vec_len h.names
  pub each : All (λ b. IsBlank b × FitsEach entries b) h.names.items

-- a ticket that may be released yet has it
abbrev pub HasRoom : Listing → List Entry → Holding → Type 0
HasRoom list entries h = IsLive h.progress → HasRoomFor list entries h

-- what holds but while waits are not released yet
pub record IsReady (p : Parts) : Type 0 where
  pub differ : Differ (map candidate_of p.entries.items)
  pub ranked : All (λ e. e.candidate.priority ≡ priority_of p.list.names e.name) p.entries.items
  pub resting : All (λ e. Rests (session_of e)) p.entries.items
  pub listing : IsListing p.list
  pub room : length p.entries.items ≤ vec_capacity p.order
  pub in_turn : AllPairs (λ h i. h.ticket < i.ticket) p.holdings.items
  pub given : All (λ h. h.ticket ≤ p.last) p.holdings.items
  pub last : p.last < 2 ^ 64
  pub rooms : All (HasRoom p.list p.entries.items) p.holdings.items

-- the candidates among the sessions, in order
pub record IsOrder (list : Listing) (entries : List Entry) (order : List Candidate) : Type 0 where
  pub same : SameByTests (candidates (standbys list (sessions_of entries))) order
  pub ordered : InOrder order
  pub few : length order ≤ length entries

-- the wait, if the list is met up to its end
abbrev pub IsDueBy : Reach → Progress → Option (ℕ × Mode) → Type 0
IsDueBy r (progress.Waiting end m) (Some w) = (w.0 ≡ end) × (w.1 ≡ m) × (end < 2 ^ 64)
    × MatchOption (reach_in r m) ⊥ (λ greatest. end ≤ greatest)
IsDueBy r (progress.Waiting end m) None = (end < 2 ^ 64) × ¬ MatchOption (reach_in r m) ⊥ (λ greatest. end ≤ greatest)
IsDueBy r p (Some w) = ⊥
IsDueBy r p None = Unit {0}

-- what becomes of a ticket where waits are released
pub record ReleasesOne (list : Listing) (entries : List Entry) (old new : Holding) : Type 0 where
  pub ticket : new.ticket ≡ old.ticket
  pub settles : Settles list (sessions_of entries) (ticket_of old) (ticket_of new)
  pub waits : ¬ IsDue list (sessions_of entries) (ticket_of new).fate
  pub room : HasRoom list entries new

abbrev pub Waits : Parts → Type 0
Waits p = All (λ h. ¬ IsDue p.list (sessions_of p.entries.items) (ticket_of h).fate) p.holdings.items

pub record IsKept (p : Parts) : Type 0 where
  pub ready : IsReady p
  pub waits : Waits p

-- ---- what is done to sessions

-- with other sessions
abbrev pub with_sessions : Parts → List Session → State
with_sessions p sessions = record (state_of p) { sessions = sessions }

-- one session is changed, where it is there
abbrev pub ChangesOne : Parts → ℕ → (Session → Session) → Bool → Parts → Type 0
ChangesOne old n change true new = (knows (sessions_of old.entries.items) n ≡ true)
    × Releases (with_sessions old (changed n change (sessions_of old.entries.items))) (state_of new)
ChangesOne old n change false new = (knows (sessions_of old.entries.items) n ≡ false) × (new ≡ old)

-- one session is gone, where it was there
abbrev pub Disconnects : Parts → ℕ → Bool → Parts → Type 0
Disconnects old n true new = (knows (sessions_of old.entries.items) n ≡ true)
    × Releases (with_sessions old (filter (λ s. not (is_numbered n s)) (sessions_of old.entries.items))) (state_of new)
Disconnects old n false new = (knows (sessions_of old.entries.items) n ≡ false) × (new ≡ old)

-- each session stops
pub record Stopped (old new : Entry) : Type 0 where
  pub changed : session_of new ≡ stops (session_of old)
  pub alike : Alike old new

abbrev pub AllStopped : List Entry → List Entry → Type 0
AllStopped olds news = (k : ℕ) (d : Entry) → k < length olds → Stopped (slice_index_or olds k d) (slice_index_or news k d)

-- ---- what is done to tickets

-- with other tickets
abbrev pub with_tickets : Parts → List Ticket → State
with_tickets p tickets = record (state_of p) { tickets = tickets }

abbrev pub tickets_of : List Holding → List Ticket
tickets_of holdings = map ticket_of holdings

-- what a ticket begins that waits for this, or is cancelled
abbrev pub begun : Option (ℕ × Mode) → Fate
begun (Some w) = Waiting w.0 w.1
begun None = Cancelled

abbrev pub progress_of : Option (ℕ × Mode) → Progress
progress_of (Some w) = progress.Waiting w.0 w.1
progress_of None = progress.Cancelled

-- a ticket that is prepared gets this fate
abbrev pub Begins : Parts → ℕ → Fate → Bool → Parts → Type 0
Begins old t fate true new = (fate_of (tickets_of old.holdings.items) t ≡ Some Prepared)
    × Releases (with_tickets old (with_fate t fate (tickets_of old.holdings.items))) (state_of new)
Begins old t fate false new = (fate_of (tickets_of old.holdings.items) t ≢ Some Prepared) × (new ≡ old)

abbrev pub Cancels : Parts → ℕ → Bool → Parts → Type 0
Cancels old t true new = (fate : Fate) × (fate_of (tickets_of old.holdings.items) t ≡ Some fate)
    × (state_of new ≡ with_tickets old (cancelled_of t fate (tickets_of old.holdings.items)))
Cancels old t false new = (fate_of (tickets_of old.holdings.items) t ≡ None) × (new ≡ old)

abbrev pub cancelled_progress : Progress → Progress
cancelled_progress (progress.Waiting end m) = progress.Cancelled
cancelled_progress p = p

-- a wait is cancelled, and any other ticket stays as it was
abbrev pub CancelledOne : Holding → Holding → Type 0
CancelledOne old new = new ≡ record old { progress = cancelled_progress old.progress }

-- ---- what is done to rooms

abbrev pub is_live : Progress → Bool
is_live progress.Prepared = true
is_live (progress.Waiting end m) = true
is_live p = false

-- places for so many sessions, with names of so many bytes
pub record PlacesFor (count longest : ℕ) (h : Holding) : Type 0 where
  pub empty : h.counted.items ≡ []
  pub counted : count ≤ vec_capacity h.counted
  pub names : count ≤ vec_len h.names
  pub each : All (λ b. IsBlank b × (longest ≤ vec_capacity b)) h.names.items

abbrev pub HasPlaces : ℕ → ℕ → Holding → Type 0
HasPlaces count longest h = IsLive h.progress → PlacesFor count longest h

-- the ticket is as it was, or has these places
pub record Refitted (count longest : ℕ) (old new : Holding) : Type 0 where
  pub ticket : ticket_of new ≡ ticket_of old
  pub number : new.ticket ≡ old.ticket
  pub progress : new.progress ≡ old.progress
  pub in_force : new.list ≡ old.list
  pub places : (new ≡ old) ⊎ HasPlaces count longest new

-- ---- events that take memory

-- it stands for the same, with the same sessions
pub record SameState (old new : Parts) : Type 0 where
  pub entries : new.entries ≡ old.entries
  pub list : new.list ≡ old.list
  pub last : new.last ≡ old.last
  pub tickets : tickets_of new.holdings.items ≡ tickets_of old.holdings.items

-- a session that was connected just now
abbrev pub entry_of : ℕ → List ℕ → Listing → Entry
entry_of n name list = record {
  candidate = record { session = n; priority = priority_of list.names name; written = 0; flushed = 0; applied = 0 };
  name = name;
  streaming = false;
  feedback = None;
}

abbrev pub Prepares : Parts → Result ℕ SyncFault → Parts → Type 0
Prepares old (Ok t) new = (old.last < 2 ^ 64 - 1) × (t ≡ old.last + 1)
    × (state_of new ≡ record (state_of old) {
      tickets = tickets_of old.holdings.items ++ record { number = t; fate = Prepared }
          ∷ [];
      last = t;
    })
Prepares old (Err fault.NoTicketLeft) new = (old.last ≡ 2 ^ 64 - 1) × (state_of new ≡ state_of old)
Prepares old (Err fault.Memory) new = state_of new ≡ state_of old
Prepares old (Err f) new = ⊥

abbrev pub ConnectsOne : Parts → ℕ → List ℕ → Result Unit SyncFault → Parts → Type 0
ConnectsOne old n name (Ok done) new = (knows (sessions_of old.entries.items) n ≡ false)
    × Releases (with_sessions old (sessions_of old.entries.items ++ connected n name ∷ [])) (state_of new)
ConnectsOne old n name (Err fault.Known) new = (knows (sessions_of old.entries.items) n ≡ true) × (state_of new ≡ state_of old)
ConnectsOne old n name (Err fault.Memory) new = state_of new ≡ state_of old
ConnectsOne old n name (Err f) new = ⊥

-- with another list in force
abbrev pub with_list : Parts → Listing → State
with_list p list = record (state_of p) { list = list }

abbrev pub RenamesTo : Parts → Listing → Result Unit AllocError → Parts → Type 0
RenamesTo old list (Ok done) new = Releases (with_list old list) (state_of new)
RenamesTo old list (Err error) new = state_of new ≡ state_of old

-- with its priority on the list
pub record RankedOne (list : Listing) (old new : Entry) : Type 0 where
  pub session : session_of new ≡ session_of old
  pub priority : new.candidate.priority ≡ priority_of list.names new.name

-- a ticket that may be released yet has this list
abbrev pub RelistedOne : Listing → Holding → Holding → Type 0
RelistedOne list old new = new ≡ (if is_live old.progress then record old { list = list } else old)
