-- The input of `identify`: one session of a client that asks a server who it is.
use Rattle.std.specs.Prelude.{◌≡◌, ℕ, ◌+◌, ◌⊎◌, List, [], ◌∷◌, ◌++◌, length, codes}
use Rattle.std.specs.List.{All, Any}
use Rattle.repl_message.specs.declared.startup.Pair.{Pair}
use Rattle.repl_message.specs.declared.startup.Startup.TheVariants as startup
use Rattle.repl_message.specs.declared.front.Front.TheVariants as front
use Rattle.repl_message.specs.declared.message.Phase.{Phase}
use Rattle.repl_message.specs.declared.message.Phase.TheVariants as phase
use Rattle.repl_message.specs.declared.message.Message.{Message}
use Rattle.repl_message.specs.declared.message.Message.TheVariants as message
use Rattle.repl_message.specs.declared.message.Side.TheVariants as side
use Rattle.repl_message.specs.Lists.{IsLast}
use Rattle.repl_message.specs.Message.{Spells}
use Rattle.repl_wire.specs.Reader.{AreRead, AreAll}
use Rattle.repl_cmd.specs.declared.command.Command.TheVariants as command
use Rattle.repl_cmd.specs.Command as commands
use Rattle.repl_text.specs.Language.{Begins}

-- the values of `replication` that ask for physical replication
abbrev pub IsTrueValue : List ℕ → Type 0
IsTrueValue value = (value ≡ codes "true") ⊎ (value ≡ codes "on") ⊎ (value ≡ codes "yes") ⊎ (value ≡ codes "1")

-- parameters of protocol options begin so, and no session takes them
abbrev pub IsOption : List ℕ → Type 0
IsOption name = (rest : List ℕ) × (name ≡ codes "_pq_." ++ rest)

-- a user is named
abbrev pub HasUser : List Pair → Type 0
HasUser pairs = Any (λ (p : Pair). p.name ≡ codes "user") pairs

-- the value of `replication` that counts asks for physical replication
pub record IsPhysical (pairs : List Pair) : Type 0 where
  pub value : List ℕ
  pub counts : IsLast (codes "replication") pairs value
  pub asks : IsTrueValue value

-- no option of the protocol is asked for
abbrev pub HasNoOption : List Pair → Type 0
HasNoOption pairs = All (λ (p : Pair). ¬ IsOption p.name) pairs

-- the parameters of a connection for physical replication
pub record IsReplication (pairs : List Pair) : Type 0 where
  pub user : HasUser pairs
  pub physical : IsPhysical pairs
  pub plain : HasNoOption pairs

-- a request for encryption, by TLS or by GSSAPI
abbrev pub IsRequest : Message → Type 0
IsRequest m = (m ≡ message.Startup startup.Ssl) ⊎ (m ≡ message.Startup startup.Gss)

-- a query that says IDENTIFY_SYSTEM
abbrev pub IsQuestion : Message → Type 0
IsQuestion m = (text : List ℕ) × (m ≡ message.Front (front.Query text)) × commands.SaysCommand text command.IdentifySystem

-- The messages are a session with so many requests for encryption, a startup packet for physical replication, so
-- many questions, and the end.
pub record AreSession (messages : List Message) (requests questions : ℕ) : Type 0 where
  pub asked : List Message
  pub pairs : List Pair
  pub questioned : List Message
  pub parts : messages ≡ asked ++ message.Startup (startup.Params pairs) ∷ questioned ++ message.Front front.Terminate ∷ []
  pub are_requests : All IsRequest asked
  pub starts : IsReplication pairs
  pub are_questions : All IsQuestion questioned
  pub requests_are : requests ≡ length asked
  pub questions_are : questions ≡ length questioned

-- the messages are a session
abbrev pub AreSomeSession : List Message → Type 0
AreSomeSession messages = (requests : ℕ) × (questions : ℕ) × AreSession messages requests questions

-- the bytes are a session with so many requests and questions
pub record IsSession (input : List ℕ) (requests questions : ℕ) : Type 0 where
  pub messages : List Message
  pub are_all : AreAll side.Front input messages
  pub are_session : AreSession messages requests questions

-- The input is no session. Up to this place it is messages that begin one, and none goes on with a message that
-- stands there, or the input ends there too early.
pub record IsNoSessionAt (input : List ℕ) (place : ℕ) : Type 0 where
  pub messages : List Message
  pub last : Phase
  pub rest : List ℕ
  pub read : AreRead phase.Startup input messages last rest
  pub at : place + length rest ≡ length input
  pub goes_on : Begins AreSomeSession messages
  pub stops : (m : Message) (text past : List ℕ) → rest ≡ text ++ past → Spells last m text
      → ¬ Begins AreSomeSession (messages ++ m ∷ [])
  pub unended : rest ≡ [] → ¬ AreSomeSession messages
