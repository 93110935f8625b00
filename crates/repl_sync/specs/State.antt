-- Who is waited for (PostgreSQL 17 manual, section "Synchronous Replication"): the sessions of standbys, the list in
-- force, and the tickets of commits. All of it is plain data.
use Rattle.std.specs.Prelude.{◌≡◌, ℕ, ◌<◌, ◌≤◌, ◌^◌, max, Bool, true, false, not, ◌==◌, if◌then◌else◌, List, [], ◌∷◌, map, filter, All, AllPairs, Option, Some, None}
use Rattle.std.specs.List.{list_any}
use Rattle.repl_names.specs.StandbyList.{Listing, IsListing, priority_of}
use Rattle.repl_names.specs.declared.quorum.Mode.{Mode}
use Rattle.repl_names.specs.declared.quorum.Candidate.{Candidate}
use Rattle.repl_names.specs.Quorum.{Met, Differ}
use Rattle.repl_sync.specs.declared.session.FeedbackValue.{FeedbackValue}
use Rattle.repl_sync.specs.declared.certificate.Certificate.{Certificate}

-- a connection, and what its standby has reported
pub record Session : Type 0 where
  pub number : ℕ
  pub name : List ℕ
  pub streaming : Bool
  pub written : ℕ
  pub flushed : ℕ
  pub applied : ℕ
  pub feedback : Option FeedbackValue

-- what has become of a ticket that was given and is not answered or handed back yet
pub data Fate : Type 0 where
  Prepared : Fate
  Waiting : ℕ → Mode → Fate
  Released : Certificate → Fate
  Cancelled : Fate

pub record Ticket : Type 0 where
  pub number : ℕ
  pub fate : Fate

pub record State : Type 0 where
  pub sessions : List Session
  -- the list in force
  pub list : Listing
  pub tickets : List Ticket
  -- the last ticket given, or 0
  pub last : ℕ

-- ---- sessions

abbrev pub is_numbered : ℕ → Session → Bool
is_numbered n s = s.number == n

-- a session with this number is connected
abbrev pub knows : List Session → ℕ → Bool
knows sessions n = list_any (is_numbered n) sessions

-- the sessions, with this one changed
abbrev pub changed : ℕ → (Session → Session) → List Session → List Session
changed n change sessions = map (λ s. if is_numbered n s then change s else s) sessions

-- a session that was connected just now
abbrev pub connected : ℕ → List ℕ → Session
connected n name = record { number = n; name = name; streaming = false; written = 0; flushed = 0; applied = 0; feedback = None }

abbrev pub starts : Session → Session
starts s = record s { streaming = true }

-- it streams no more, and what it has reported is forgotten
abbrev pub stops : Session → Session
stops s = record s { streaming = false; written = 0; flushed = 0; applied = 0 }

-- a report raises positions, and counts for nothing where the session does not stream
abbrev pub reports : ℕ → ℕ → ℕ → Session → Session
reports w f a s = if s.streaming then record s { written = max s.written w; flushed = max s.flushed f; applied = max s.applied a } else s

abbrev pub tells : FeedbackValue → Session → Session
tells value s = record s { feedback = Some value }

-- a session that does not stream has no positions
pub record HasNone (s : Session) : Type 0 where
  pub written : s.written ≡ 0
  pub flushed : s.flushed ≡ 0
  pub applied : s.applied ≡ 0

abbrev pub Rests : Session → Type 0
Rests s = s.streaming ≡ false → HasNone s

-- the name of the session with this number
abbrev pub name_of : List Session → ℕ → List ℕ
name_of [] n = []
name_of (s ∷ ss) n = if is_numbered n s then s.name else name_of ss n

-- a session as one that may count, with its priority on the list
abbrev pub standing : Listing → Session → Candidate
standing list s = record {
  session = s.number;
  priority = priority_of list.names s.name;
  written = s.written;
  flushed = s.flushed;
  applied = s.applied;
}

-- those that stream; the candidates among them have a priority and a flushed position above 0
abbrev pub standbys : Listing → List Session → List Candidate
standbys list sessions = map (standing list) (filter (λ s. s.streaming) sessions)

-- ---- tickets

abbrev pub is_ticket : ℕ → Ticket → Bool
is_ticket n t = t.number == n

-- what has become of the ticket, where it is there
abbrev pub fate_of : List Ticket → ℕ → Option Fate
fate_of [] n = None
fate_of (t ∷ ts) n = if is_ticket n t then Some t.fate else fate_of ts n

-- the tickets, with another fate of this one
abbrev pub with_fate : ℕ → Fate → List Ticket → List Ticket
with_fate n fate tickets = map (λ t. if is_ticket n t then record t { fate = fate } else t) tickets

-- the tickets but for this one
abbrev pub without : ℕ → List Ticket → List Ticket
without n tickets = filter (λ t. not (is_ticket n t)) tickets

-- a cancel ends a wait
abbrev pub cancels : Fate → Fate
cancels (Waiting end m) = Cancelled
cancels fate = fate

-- the list is met at the end of the wait
abbrev pub IsDue : Listing → List Session → Fate → Type 0
IsDue list sessions (Waiting end m) = Met list (standbys list sessions) m end
IsDue list sessions fate = ⊥

-- ---- what holds of every state

pub record IsState (s : State) : Type 0 where
  -- no two sessions have one number
  pub differ : Differ (map (standing s.list) s.sessions)
  pub resting : All Rests s.sessions
  pub listing : IsListing s.list
  -- tickets stand in the order in which they were given, and none is above the last
  pub in_turn : AllPairs (λ t u. t.number < u.number) s.tickets
  pub given : All (λ t. t.number ≤ s.last) s.tickets
  pub last : s.last < 2 ^ 64
  -- who waits, waits for a list that is not met
  pub waits : All (λ t. ¬ IsDue s.list s.sessions t.fate) s.tickets
