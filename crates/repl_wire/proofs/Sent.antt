-- Messages after the startup: the type byte says which lengths they may have and how their bodies are read, on either side.
use Rattle.std.proofs.Common.{◌≡◌, ℕ, ◌+◌, Bool, true, false, cond, eqb, List, [], ◌∷◌, length, Option, Some, None, Result, Err, refl, arith}
use Rattle.std.specs.Option.{option_map}
use Rattle.repl_message.specs.declared.front.Front.TheVariants as front
use Rattle.repl_message.specs.declared.message.Side.{Side}
use Rattle.repl_message.specs.declared.message.Side.TheVariants as side
use Rattle.repl_message.specs.declared.message.Message.{Message}
use Rattle.repl_message.specs.declared.message.Message.TheVariants as message
use Rattle.repl_message.specs.declared.message.TheConstants.{MESSAGE_LIMIT, COPY_DATA_LIMIT}
use Rattle.repl_wire.specs.declared.fault.WireFault.TheVariants as fault
use Rattle.repl_wire.specs.declared.taking.Taken.{Taken}
use Rattle.repl_wire.specs.declared.taking.Taken.TheVariants as taken
use Rattle.repl_wire.specs.Judging.{Row, back_row, judge_row, row_of, judge_message, judge_front, judge_back, judge_sent, lengths_of, message_of, made, ended_at, on_frame, frame_of, text_of, bytes_of, nothing_of}

-- what is judged by these lengths and this reading of a body
abbrev by : ℕ × ℕ → (List ℕ → Result Message ℕ) → List ℕ → Taken
by lengths read bytes = on_frame (frame_of 1 lengths.0 lengths.1 bytes) (λ body. ended_at (length body + 5) (read body))

-- ---- a message that there is

front_some : (q d c f x : Bool) (lengths : ℕ × ℕ) (bytes : List ℕ)
    → cond {A = Option (ℕ × ℕ)} q (Some (5, MESSAGE_LIMIT)) (cond d (Some (4, COPY_DATA_LIMIT))
    (cond c (Some (4, MESSAGE_LIMIT)) (cond f (Some (5, MESSAGE_LIMIT)) (cond x (Some (4, MESSAGE_LIMIT)) None)))) ≡ Some lengths
    → cond q (judge_message (λ (text : List ℕ). front.Query text) 1 MESSAGE_LIMIT text_of bytes)
    (cond d (judge_message (λ (piece : List ℕ). front.CopyData piece) 0 COPY_DATA_LIMIT bytes_of bytes)
    (cond c (judge_message (λ (u : Unit {0}). front.CopyDone) 0 MESSAGE_LIMIT nothing_of bytes)
    (cond f (judge_message (λ (text : List ℕ). front.CopyFail text) 1 MESSAGE_LIMIT text_of bytes)
    (cond x (judge_message (λ (u : Unit {0}). front.Terminate) 0 MESSAGE_LIMIT nothing_of bytes) (taken.Wrong (fault.Kind 0))))))
    ≡ by lengths (λ body. cond q (made (λ (text : List ℕ). message.Front (front.Query text)) (text_of body))
    (cond d (made (λ (piece : List ℕ). message.Front (front.CopyData piece)) (bytes_of body))
    (cond c (made (λ (u : Unit {0}). message.Front front.CopyDone) (nothing_of body))
    (cond f (made (λ (text : List ℕ). message.Front (front.CopyFail text)) (text_of body))
    (cond x (made (λ (u : Unit {0}). message.Front front.Terminate) (nothing_of body)) (Err (length body))))))) bytes
front_some true d c f x lengths bytes e = let is : (5, MESSAGE_LIMIT) ≡ lengths = cc in rw (← is) refl
front_some false true c f x lengths bytes e = let is : (4, COPY_DATA_LIMIT) ≡ lengths = cc in rw (← is) refl
front_some false false true f x lengths bytes e = let is : (4, MESSAGE_LIMIT) ≡ lengths = cc in rw (← is) refl
front_some false false false true x lengths bytes e = let is : (5, MESSAGE_LIMIT) ≡ lengths = cc in rw (← is) refl
front_some false false false false true lengths bytes e = let is : (4, MESSAGE_LIMIT) ≡ lengths = cc in rw (← is) refl
front_some false false false false false lengths bytes e = absurd cc

back_some : (r : Option Row) (lengths : ℕ × ℕ) (bytes : List ℕ) → option_map {U = ℕ × ℕ} (λ (x : Row). (x.least + 4, x.limit)) r
    ≡ Some lengths → judge_row r bytes ≡ by lengths (row_of r) bytes
back_some None lengths bytes e = absurd cc
back_some (Some r) lengths bytes e = let is : (r.least + 4, r.limit) ≡ lengths = cc in rw (← is) refl

pub sent_some : (s : Side) (kind : ℕ) (bytes : List ℕ) (lengths : ℕ × ℕ) → lengths_of s kind ≡ Some lengths
    → judge_sent s (kind ∷ bytes) ≡ on_frame (frame_of 1 lengths.0 lengths.1 bytes)
    (λ body. ended_at (length body + 5) (message_of s kind body))
unfolding judge_front judge_back
sent_some side.Front kind bytes lengths e = front_some (eqb kind 81) (eqb kind 100) (eqb kind 99) (eqb kind 102) (eqb kind 88) lengths bytes
    e
sent_some side.Back kind bytes lengths e = back_some (back_row kind) lengths bytes e

-- ---- a type byte that is none

front_none : (q d c f x : Bool) (a b g h i none : Taken)
    → cond {A = Option (ℕ × ℕ)} q (Some (5, MESSAGE_LIMIT)) (cond d (Some (4, COPY_DATA_LIMIT))
    (cond c (Some (4, MESSAGE_LIMIT)) (cond f (Some (5, MESSAGE_LIMIT)) (cond x (Some (4, MESSAGE_LIMIT)) None)))) ≡ None
    → cond q a (cond d b (cond c g (cond f h (cond x i none)))) ≡ none
front_none true d c f x a b g h i none e = absurd cc
front_none false true c f x a b g h i none e = absurd cc
front_none false false true f x a b g h i none e = absurd cc
front_none false false false true x a b g h i none e = absurd cc
front_none false false false false true a b g h i none e = absurd cc
front_none false false false false false a b g h i none e = refl

back_none : (r : Option Row) (bytes : List ℕ) → option_map {U = ℕ × ℕ} (λ (x : Row). (x.least + 4, x.limit)) r ≡ None → judge_row r bytes
    ≡ taken.Wrong (fault.Kind 0)
back_none None bytes e = refl
back_none (Some r) bytes e = absurd cc

pub sent_none : (s : Side) (kind : ℕ) (bytes : List ℕ) → lengths_of s kind ≡ None → judge_sent s (kind ∷ bytes) ≡ taken.Wrong (fault.Kind 0)
unfolding judge_front judge_back
sent_none side.Front kind bytes e = front_none (eqb kind 81) (eqb kind 100) (eqb kind 99) (eqb kind 102) (eqb kind 88) _ _ _ _ _ _ e
sent_none side.Back kind bytes e = back_none (back_row kind) bytes e

-- ---- where nothing is there

pub sent_empty : (s : Side) (bytes : List ℕ) → length bytes ≡ 0 → judge_sent s bytes ≡ taken.Short
unfolding judge_front judge_back
sent_empty side.Front [] e = refl
sent_empty side.Back [] e = refl
sent_empty s (kind ∷ bytes) e = absurd (omega (arith, e))
