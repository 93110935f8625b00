-- The head of a frame: its type byte, which a startup packet has not, and its length field. It says how many bytes the
-- frame has, or that it is refused, whatever the body is.
use Rattle.std.specs.Prelude.{◌≡◌, ℕ, ◌+◌, ◌<◌, ◌≤◌, ◌||◌, List, [], ◌∷◌, ◌++◌, length, take, Option, Some, None, nat_lt, if◌then◌else◌}
use Rattle.repl_message.specs.declared.message.Phase.{Phase}
use Rattle.repl_message.specs.declared.message.Phase.TheVariants as phase
use Rattle.repl_message.specs.declared.message.Side.{Side}
use Rattle.repl_message.specs.declared.message.Side.TheVariants as side
use Rattle.repl_message.specs.declared.message.Message.{Message}
use Rattle.repl_message.specs.declared.message.Message.TheVariants as message
use Rattle.repl_message.specs.declared.message.TheConstants.{STARTUP_LEAST, STARTUP_LIMIT}
use Rattle.repl_message.specs.Message.{int32, front_limit, back_limit, length_field, spelling, Belongs}
use Rattle.repl_message.specs.Decoding.{number}
use Rattle.repl_wire.specs.declared.fault.WireFault.TheVariants as fault
use Rattle.repl_wire.specs.declared.head.Head.{Head}
use Rattle.repl_wire.specs.declared.head.Head.TheVariants as says
use Rattle.repl_wire.specs.declared.taking.Taken.{Taken}
use Rattle.repl_wire.specs.declared.taking.Taken.TheVariants as taken
use Rattle.repl_wire.specs.Judging.{lengths_of}
use Rattle.repl_wire.specs.Places.{head}

-- the length field that stands at this place, in front of these bytes
unfoldable pub length_at : ℕ → ℕ → ℕ → List ℕ → Head
length_at place least limit bytes =
    if nat_lt (length bytes) 4 then says.Short
    else if nat_lt (number bytes) least || nat_lt limit (number bytes) then says.Wrong (fault.Length place (number bytes))
    else says.Frame (place + number bytes)

abbrev pub by_lengths : Option (ℕ × ℕ) → List ℕ → Head
by_lengths None bytes = says.Wrong (fault.Kind 0)
by_lengths (Some lengths) bytes = length_at 1 lengths.0 lengths.1 bytes

-- of a message that is sent after the startup
abbrev pub sent_head : Side → List ℕ → Head
sent_head s [] = says.Short
sent_head s (kind ∷ bytes) = by_lengths (lengths_of s kind) bytes

-- where the session is over there is no head
abbrev pub ended_head : List ℕ → Head
ended_head [] = says.Short
ended_head (kind ∷ bytes) = says.Wrong (fault.Kind 0)

abbrev pub head_of : Phase → List ℕ → Head
head_of phase.Startup bytes = length_at 0 STARTUP_LEAST STARTUP_LIMIT bytes
head_of phase.Front bytes = sent_head side.Front bytes
head_of phase.Back bytes = sent_head side.Back bytes
head_of phase.Ended bytes = ended_head bytes

-- ---- the frames that there may be

-- the greatest length field of a message
abbrev pub limit_of : Message → ℕ
limit_of (message.Startup m) = STARTUP_LIMIT
limit_of (message.Front m) = front_limit m
limit_of (message.Back m) = back_limit m

-- A length field that is no less than that of some message of the type, and within the limit. A startup packet has no
-- type.
pub record IsInRange (p : Phase) (kind : List ℕ) (said : ℕ) : Type 0 where
  pub shortest : Message
  pub belongs : Belongs p shortest
  pub typed : take (head p) (spelling shortest) ≡ kind
  pub low : length_field shortest ≤ said
  pub high : said ≤ limit_of shortest

-- a type byte and a length field in range, and how many bytes a frame with them has
pub record IsFrameHead (p : Phase) (bytes : List ℕ) (size : ℕ) : Type 0 where
  pub kind : List ℕ
  pub said : ℕ
  pub past : List ℕ
  pub kinds : length kind ≡ head p
  pub parts : bytes ≡ kind ++ (int32 said ++ past)
  pub range : IsInRange p kind said
  pub size_is : size ≡ head p + said

-- all of a frame stands in front of the bytes
pub record HoldsFrame (p : Phase) (bytes : List ℕ) : Type 0 where
  pub size : ℕ
  pub head_is : head_of p bytes ≡ says.Frame size
  pub there : size ≤ length bytes

-- a whole frame of so many bytes is a message, or it is refused at a field of its body
abbrev pub EndsAt : ℕ → Taken → Type 0
EndsAt size (taken.Whole m used) = used ≡ size
EndsAt size (taken.Wrong (fault.Code place said)) = place < size
EndsAt size (taken.Wrong (fault.Body place)) = place ≤ size
EndsAt size _ = ⊥
