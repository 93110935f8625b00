-- How far the messages of a session have come, and which message leads on.
use Rattle.std.specs.Prelude.{◌≡◌, ◌≢◌, ℕ, ◌+◌, ◌≤◌, ◌⊎◌, List, [], ◌∷◌, ◌++◌, length}
use Rattle.repl_message.specs.declared.startup.Pair.{Pair}
use Rattle.repl_message.specs.declared.startup.Startup.TheVariants as startup
use Rattle.repl_message.specs.declared.front.Front.TheVariants as front
use Rattle.repl_message.specs.declared.message.Message.{Message}
use Rattle.repl_message.specs.declared.message.Message.TheVariants as message
use Rattle.repl_message.specs.declared.message.Phase.{Phase}
use Rattle.repl_message.specs.Message.{Belongs, spelling}
use Rattle.repl_wire.specs.Reader.{Reading, AreRead}
use Rattle.repl_identify.specs.declared.stage.Stage.{Stage}
use Rattle.repl_identify.specs.declared.stage.Stage.TheVariants as stage
use Rattle.repl_identify.specs.Session.{IsReplication, IsRequest, IsQuestion}

-- how many requests and questions there were
abbrev pub asks : Stage → ℕ
asks (stage.Starting requests) = requests
asks (stage.Asking session) = session.requests + session.questions
asks (stage.Over session) = session.requests + session.questions

-- a startup packet for physical replication
abbrev pub IsStart : Message → Type 0
IsStart m = (pairs : List Pair) × (m ≡ message.Startup (startup.Params pairs)) × IsReplication pairs

-- the end
abbrev pub IsEnd : Message → Type 0
IsEnd m = m ≡ message.Front front.Terminate

-- the message leads from a stage to the next
abbrev pub Goes : Stage → Message → Stage → Type 0
Goes (stage.Starting requests) m next =
    (IsRequest m × (next ≡ stage.Starting (requests + 1)))
    ⊎ (IsStart m × (next ≡ stage.Asking (record { requests = requests; questions = 0 })))
Goes (stage.Asking session) m next =
    (IsQuestion m × (next ≡ stage.Asking (record { requests = session.requests; questions = session.questions + 1 })))
    ⊎ (IsEnd m × (next ≡ stage.Over session))
Goes (stage.Over session) m next = ⊥

-- the messages lead from a stage to a later one
abbrev pub Lead : Stage → List Message → Stage → Type 0
Lead from [] to = to ≡ from
Lead from (m ∷ ms) to = (next : Stage) × Goes from m next × Lead next ms to

-- ---- a reader of a session

-- no message at the front of the bytes leads on
abbrev pub Halts : Phase → List ℕ → Stage → Type 0
Halts p bytes from = (m : Message) (past : List ℕ) (next : Stage) → Belongs p m → bytes ≡ spelling m ++ past → ¬ Goes from m next

-- a reader gave messages, which lead from a stage to a later one
pub record Walked (old : Reading) (from : Stage) (new : Reading) (to : Stage) : Type 0 where
  pub messages : List Message
  pub read : AreRead old.phase old.rest messages new.phase new.rest
  pub place : new.place + length new.rest ≡ old.place + length old.rest
  pub lead : Lead from messages to
  pub few : asks to ≤ new.place

-- a reader gave messages up to this place, and none that may stand there leads on, whatever follows
pub record Stuck (old : Reading) (from : Stage) (place : ℕ) : Type 0 where
  pub new : Reading
  pub to : Stage
  pub walked : Walked old from new to
  pub at : place ≡ new.place
  pub some : new.rest ≢ []
  pub halts : (more : List ℕ) → Halts new.phase (new.rest ++ more) to
