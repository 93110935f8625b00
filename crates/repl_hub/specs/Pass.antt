-- What a session knows of a hub that others use too: a beginning of the hub's one history, and its own events in it.
use Rattle.std.specs.Prelude.{◌≡◌, ℕ, ◌<◌, List, [], ◌∷◌, ◌++◌, length, map, slice_index}
use Rattle.repl_hub.specs.State.{HubView}
use Rattle.repl_hub.specs.Step.{HubStep}
use Rattle.repl_hub.specs.declared.event.HubEvent.{HubEvent}
use Rattle.repl_hub.specs.declared.reply.HubReply.{HubReply}
use Rattle.repl_turn.specs.History.{Replays, calls_by, entry}
use Rattle.repl_turn.specs.declared.machine.Entry.{Entry}

-- an event as it stands in the history, under the number of the pass that made it, with its reply
abbrev pub Made : Type 0
Made = Entry HubEvent HubReply

pub record Passed : Type 0 where
  -- the history, as far as it was seen
  pub seen : List Made
  -- the pass's own number, and then those of the passes that were joined into it
  pub numbers : List ℕ

-- a pass that tells nothing
abbrev pub nothing : Passed
nothing = record { seen = []; numbers = [] }

abbrev pub number : Passed → ℕ
number p = slice_index p.numbers 0

-- its own events, and those of the passes that were joined into it
abbrev pub mine : Passed → List Made
mine p = calls_by p.numbers p.seen

-- from this state each event has a reply that its step gives there
abbrev pub IsLegal : HubView → List Made → Type 0
IsLegal opening seen = (h : HubView) × Replays HubStep opening seen h

-- The pass made one event. What it has seen begins with all that it had seen and ends with the event, and what stands in between
-- is of others.
pub record Acts (opening : HubView) (p : Passed) (event : HubEvent) (reply : HubReply) (q : Passed) : Type 0 where
  pub between : List Made
  pub seen : q.seen ≡ (p.seen ++ between) ++ entry (number p) event reply ∷ []
  pub legal : IsLegal opening q.seen
  pub others : calls_by p.numbers between ≡ []
  pub calls : mine q ≡ mine p ++ entry (number p) event reply ∷ []
  pub numbers : q.numbers ≡ p.numbers

-- The pass has seen at least one event more, and all of them are of others.
pub record Watches (opening : HubView) (p q : Passed) : Type 0 where
  pub more : List Made
  pub seen : q.seen ≡ p.seen ++ more
  pub longer : 0 < length more
  pub legal : IsLegal opening q.seen
  pub others : calls_by p.numbers more ≡ []
  pub calls : mine q ≡ mine p
  pub numbers : q.numbers ≡ p.numbers

-- the event may have this reply
abbrev pub CanReply : HubEvent → HubReply → Type 0
CanReply event reply = (h : HubView) × (m : HubView) × HubStep h event reply m

-- ---- several events of one pass

-- an event, and its reply
pub record Call : Type 0 where
  pub event : HubEvent
  pub reply : HubReply

abbrev pub call : HubEvent → HubReply → Call
call event reply = record { event = event; reply = reply }

-- as they stand in a history, under a number
abbrev pub made_by : ℕ → List Call → List Made
made_by by calls = map (λ (c : Call). entry by c.event c.reply) calls

-- The pass made these, in this order, and no other.
pub record Makes (opening : HubView) (p : Passed) (calls : List Call) (q : Passed) : Type 0 where
  pub more : List Made
  pub seen : q.seen ≡ p.seen ++ more
  pub made : mine q ≡ mine p ++ made_by (number p) calls
  pub numbers : q.numbers ≡ p.numbers
  pub legal : IsLegal opening p.seen → IsLegal opening q.seen

-- ---- what a pass tells, where its hub tells in which state it began

module _ {P : Type 0} (opened : P → HubView → Type 0) where
  -- the hub of both passes began in the same state
  abbrev pub Stays : P → P → Type 0
  Stays p q = (h : HubView) → opened p h → opened q h

module _ {P : Type 0} (opened : P → HubView → Type 0) (known : P → Passed) where
  -- the pass makes one event
  abbrev pub Asks : P → HubEvent → HubReply → P → Type 0
  Asks p event reply q = (h : HubView) → opened p h → Acts h (known p) event reply (known q)

  -- the pass sees events of others
  abbrev pub Sees : P → P → Type 0
  Sees p q = (h : HubView) → opened p h → Watches h (known p) (known q)

  -- the pass makes these events
  abbrev pub MakesThese : P → List Call → P → Type 0
  MakesThese p calls q = (h : HubView) → opened p h → Makes h (known p) calls (known q)

  -- it makes events of which this holds, and no other
  abbrev pub MakesSome : P → (List Call → Type 0) → P → Type 0
  MakesSome p Are q = (calls : List Call) × Are calls × MakesThese p calls q
