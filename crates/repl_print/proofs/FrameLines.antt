-- The lines of messages, and a reader that gives messages whose lines are made.
use Rattle.std.proofs.Common.{◌≡◌, ℕ, suc, ◌+◌, ◌-◌, ◌^◌, ◌<◌, ◌≤◌, List, [], ◌∷◌, ◌++◌, length, take, Some, None, refl, sym, ap, subst, ◌∙◌, append_assoc, length-append, arith}
use Rattle.std.proofs.lemmas.List.{append-nil}
use Rattle.repl_effects.specs.Told.{Told, Gained}
use Rattle.repl_message.specs.declared.message.Message.{Message}
use Rattle.repl_message.specs.declared.message.Message.TheVariants as message
use Rattle.repl_message.specs.declared.message.Phase.{Phase}
use Rattle.repl_message.specs.declared.message.Phase.TheVariants as phase
use Rattle.repl_message.specs.declared.message.TheConstants.{MESSAGE_LIMIT}
use Rattle.repl_message.specs.declared.back.Back.{Back}
use Rattle.repl_message.specs.declared.back.Back.TheVariants as back
use Rattle.repl_message.specs.declared.front.Front.{Front}
use Rattle.repl_message.specs.declared.front.Front.TheVariants as front
use Rattle.repl_message.specs.Message.{Belongs, after, spelling, length_field, back_limit, front_limit}
use Rattle.repl_message.specs.Encoding.{capped}
use Rattle.repl_io.specs.Sink.{WritesFront}
use Rattle.repl_wire.specs.Reader.{Reading, AreRead}
use Rattle.repl_print.specs.Frames.{line, lines}
use Rattle.repl_print.specs.Printing.{GivesLines}
use Rattle.repl_wire.proofs.Streams.{read_then, read_within, read_one}

-- ---- lines

-- the lines of messages, and then those of what was left, whose place is so far on
pub lines_then : (p q : Phase) (bytes rest : List ℕ) (ms ns : List Message) (place at : ℕ) → AreRead p bytes ms q rest → place ≡ capped at
    → lines place (ms ++ ns) ≡ lines place ms ++ lines (capped (at + (length bytes - length rest))) ns
lines_then p q bytes rest [] ns place at read is =
    let same : place ≡ capped (at + (length bytes - length rest)) = omega (arith, is, ap length read.1) in
    ap (λ (k : ℕ). lines k ns) same
lines_then p q bytes rest (m ∷ ms) ns place at read is =
    let past : List ℕ = read.1.0 in
    let next : capped (place + length (spelling m)) ≡ capped (at + length (spelling m)) = omega (arith, is) in
    let within = read_within (after p m) q past rest ms read.1.2 in
    let so_far : capped (at + length (spelling m) + (length past - length rest)) ≡ capped (at + (length bytes - length rest)) =
    ap capped (omega (arith, within, ap length read.1.1, length-append (spelling m) past)) in
    let others = lines_then (after p m) q past rest ms ns (capped (place + length (spelling m))) (at + length (spelling m)) read.1.2 next
    in
    ap (λ (s : List ℕ). line place m ++ s) (others ∙ ap (λ (k : ℕ). lines (capped (place + length (spelling m))) ms ++ lines k ns) so_far)
    ∙ sym (append_assoc (line place m) (lines (capped (place + length (spelling m))) ms)
    (lines (capped (at + (length bytes - length rest))) ns))

-- ---- what is written

pub Gained-none : (now : Told) → Gained now now []
Gained-none None = refl
Gained-none (Some old) = ap (λ (b : List ℕ). Some b) (sym (append-nil old))

pub Gained-then : (before middle now : Told) (first second : List ℕ) → Gained before middle first → Gained middle now second
    → Gained before now (first ++ second)
Gained-then None middle now first second a b = rw a at b
Gained-then (Some old) middle now first second a b = (rw a at b) ∙ ap (λ (s : List ℕ). Some s) (append_assoc old first second)

take-beyond : (first second : List ℕ) (n : ℕ) → take (length first + n) (first ++ second) ≡ first ++ take n second
take-beyond [] second n =
    let same : 0 + n ≡ n = omega arith in
    ap (λ (k : ℕ). take k second) same
take-beyond (b ∷ first) second n =
    let same : length (b ∷ first) + n ≡ suc (length first + n) = omega arith in
    ap (λ (k : ℕ). take k (b ∷ (first ++ second))) same ∙ ap (λ (s : List ℕ). b ∷ s) (take-beyond first second n)

pub front_then : (before middle now : Told) (first second : List ℕ) → Gained before middle first → WritesFront second middle now
    → WritesFront (first ++ second) before now
front_then before middle now first second a w = record {
  front = length first + w.front;
  short = omega (arith, w.short, length-append first second);
  gained = subst (λ (s : List ℕ). Gained before now s) (sym (take-beyond first second w.front))
      (Gained-then before middle now first (take w.front second) a w.gained);
}

-- ---- messages

front_least : (m : Front) → front_limit m ≤ MESSAGE_LIMIT
front_least (front.Query text) = omega arith
front_least (front.CopyData bytes) = omega arith
front_least front.CopyDone = omega arith
front_least (front.CopyFail text) = omega arith
front_least front.Terminate = omega arith

back_least : (m : Back) → back_limit m ≤ MESSAGE_LIMIT
back_least back.AuthenticationOk = omega arith
back_least (back.ParameterStatus name value) = omega arith
back_least (back.BackendKeyData pid key) = omega arith
back_least (back.ReadyForQuery status) = omega arith
back_least (back.RowDescription fields) = omega arith
back_least (back.DataRow columns) = omega arith
back_least (back.CommandComplete tag) = omega arith
back_least (back.ErrorResponse fields) = omega arith
back_least (back.NoticeResponse fields) = omega arith
back_least (back.CopyData bytes) = omega arith
back_least back.CopyDone = omega arith
back_least (back.CopyBoth format formats) = omega arith

-- a message that is read is short
pub belongs_short : (p : Phase) (m : Message) → Belongs p m → length_field m ≤ MESSAGE_LIMIT
belongs_short phase.Startup (message.Startup m) b = omega (arith, b.within)
belongs_short phase.Startup (message.Front m) b = absurd b
belongs_short phase.Startup (message.Back m) b = absurd b
belongs_short phase.Front (message.Startup m) b = absurd b
belongs_short phase.Front (message.Front m) b = omega (arith, b.within, front_least m)
belongs_short phase.Front (message.Back m) b = absurd b
belongs_short phase.Back (message.Startup m) b = absurd b
belongs_short phase.Back (message.Front m) b = absurd b
belongs_short phase.Back (message.Back m) b = omega (arith, b.within, back_least m)
belongs_short phase.Ended m b = absurd b

-- ---- a reader that is emptied

-- it gave nothing yet
pub printed_none : (r : Reading) (text : List ℕ) → text ≡ [] → r.place < 2 ^ 64 → GivesLines r r (λ made. text ≡ made)
printed_none r text none fits = record {
  messages = [];
  read = (refl, refl);
  place = omega (arith, fits);
  wrote = none;
}

-- it gives one message more
pub printed_more : (old now new : Reading) (text after_line : List ℕ) (place : ℕ) (m : Message) (past : List ℕ)
    → GivesLines old now (λ made. text ≡ made) → old.place < 2 ^ 64 → place ≡ now.place
    → Belongs now.phase m → now.rest ≡ spelling m ++ past → new ≡ record {
      phase = after now.phase m;
      place =
          capped (now.place + length (spelling m));
      rest = past;
    }
    → after_line ≡ text ++ line place m → GivesLines old new (λ made. after_line ≡ made)
printed_more old now new text after_line place m past printed fits at belongs parts next added =
    let used : length now.rest ≡ length (spelling m) + length past = ap length parts ∙ length-append (spelling m) past in
    let within = read_within old.phase now.phase old.rest now.rest printed.messages printed.read in
    let one = lines_then old.phase now.phase old.rest now.rest printed.messages (m ∷ []) old.place old.place printed.read
    (omega (arith, fits)) in
    let this : line place m ≡ lines (capped (old.place + (length old.rest - length now.rest))) (m ∷ []) =
    sym (append-nil (line place m)) ∙ ap (λ (k : ℕ). lines k (m ∷ [])) (at ∙ printed.place) in
    rw next (record {
      messages = printed.messages ++ m ∷ [];
      read = read_then old.phase now.phase (after now.phase m) old.rest now.rest past printed.messages (m ∷ []) printed.read
          (read_one now.phase now.rest past m belongs parts);
      place = omega (arith, printed.place, used, within);
      wrote = added ∙ ap (λ (s : List ℕ). text ++ s) this ∙ ap (λ (s : List ℕ).
          s ++ lines (capped (old.place + (length old.rest - length now.rest))) (m ∷ [])) printed.wrote ∙ sym one;
    })
