-- An input of `frames` that is read piece by piece: what has been read and printed before a turn, and at the end.
use Rattle.std.proofs.Common.{◌≡◌, ℕ, ◌+◌, ◌-◌, ◌<◌, ◌≤◌, inl, inr, List, [], ◌++◌, length, refl, sym, ap, subst, ◌∙◌, length-append, arith}
use Rattle.std.proofs.lemmas.List.{take_all}
use Rattle.repl_effects.specs.Counts.{Rose, RoseBy}
use Rattle.repl_effects.specs.Told.{Told, Gained, Lost}
use Rattle.repl_io.specs.Source.{SourceState}
use Rattle.repl_io.specs.Sink.{SinkState}
use Rattle.repl_message.specs.declared.message.Message.{Message}
use Rattle.repl_message.specs.declared.message.Side.{Side}
use Rattle.repl_message.specs.Encoding.{capped}
use Rattle.repl_wire.specs.Reader.{Reading, Waits, AreRead, first_phase, fed}
use Rattle.repl_filter.specs.declared.conversion.Converted.{Converted}
use Rattle.repl_filter.specs.declared.conversion.Converted.TheVariants as converted
use Rattle.repl_print.specs.Frames.{lines, FramesEnd, Printed}
use Rattle.repl_filter.specs.Outcome.{ReadNothing, Wrote, WroteFront, WroteNothing, WroteSome}
use Rattle.repl_print.specs.Printing.{GivesLines, PieceEnds}
use Rattle.repl_filter.proofs.Moves.{Lost-none, Lost-then}
use Rattle.repl_wire.proofs.Streams.{read_then, read_more, read_within, judge_empty}
use Rattle.repl_print.proofs.FrameLines.{lines_then, Gained-none, Gained-then, front_then}

-- what has been read and printed before a turn
pub record Progress (s : Side) (reader : Reading) (turns : ℕ) (r r' : SourceState) (w w' : SinkState) : Type 0 where
  pub bytes : List ℕ
  pub messages : List Message
  pub quiet : ℕ
  pub lost : Lost r.left r'.left bytes
  pub read : AreRead (first_phase s) bytes messages reader.phase reader.rest
  pub place : reader.place ≡ capped (length bytes - length reader.rest)
  pub waits : Waits reader
  pub quiet_turns : RoseBy quiet r.quiets r'.quiets
  pub spent : turns ≤ length bytes + quiet
  pub gained : Wrote (lines 0 messages) w w'

pub progress_none : (s : Side) (reader : Reading) (r : SourceState) (w : SinkState)
    → reader ≡ record { phase = first_phase s; place = 0; rest = [] } → Progress s reader 0 r r w w
progress_none s reader r w new = rw new (record {
  bytes = [];
  messages = [];
  quiet = 0;
  lost = Lost-none r.left;
  read = (refl, refl);
  place = refl;
  waits = judge_empty (first_phase s);
  quiet_turns = omega arith;
  spent = omega arith;
  gained = Gained-none w.written;
})

pub progress_quiet : (s : Side) (reader : Reading) (turns : ℕ) (r r' r'' : SourceState) (w w' : SinkState)
    → Progress s reader turns r r' w w' → ReadNothing r' r'' → Rose r'.quiets r''.quiets → Progress s reader (turns + 1) r r'' w w'
progress_quiet s reader turns r r' r'' w w' p still rose = record {
  bytes = p.bytes;
  messages = p.messages;
  quiet = p.quiet + 1;
  lost = subst (λ (t : Told). Lost r.left t p.bytes) (sym still) p.lost;
  read = p.read;
  place = p.place;
  waits = p.waits;
  quiet_turns = omega (arith, p.quiet_turns, rose);
  spent = omega (arith, p.spent);
  gained = p.gained;
}

-- ---- a piece more

-- the messages so far and those that a piece makes whole
record Longer (s : Side) (reader : Reading) (so_far : List Message) (old_bytes piece : List ℕ) (How : List ℕ → Type 0) : Type 0 where
  more : List Message
  read : AreRead (first_phase s) (old_bytes ++ piece) (so_far ++ more) reader.phase reader.rest
  place : reader.place ≡ capped (length (old_bytes ++ piece) - length reader.rest)
  text_is : (text : List ℕ) × (lines 0 (so_far ++ more) ≡ lines 0 so_far ++ text) × How text

longer : (s : Side) (reader new : Reading) (so_far : List Message) (bytes piece : List ℕ) (How : List ℕ → Type 0)
    → AreRead (first_phase s) bytes so_far reader.phase reader.rest → reader.place ≡ capped (length bytes - length reader.rest)
    → GivesLines (fed reader piece) new How → Longer s new so_far bytes piece How
longer s reader new so_far bytes piece How read place printed =
    let whole = read_more (first_phase s) reader.phase bytes reader.rest piece so_far read in
    let within = read_within (first_phase s) reader.phase bytes reader.rest so_far read in
    let left = read_within reader.phase new.phase (reader.rest ++ piece) new.rest printed.messages printed.read in
    let parts = lines_then (first_phase s) reader.phase bytes reader.rest so_far printed.messages 0 0 read refl in
    let at : capped (0 + (length bytes - length reader.rest)) ≡ reader.place = omega (arith, place) in
    record {
      more = printed.messages;
      read = read_then (first_phase s) reader.phase new.phase (bytes ++ piece) (reader.rest ++ piece) new.rest so_far printed.messages whole
          printed.read;
      place = omega (arith, printed.place, place, within, left, length-append bytes piece, length-append reader.rest piece);
      text_is = (lines reader.place printed.messages, parts ∙ ap (λ (k : ℕ). lines 0 so_far ++ lines k printed.messages) at, printed.wrote);
    }

pub progress_piece : (s : Side) (reader new : Reading) (turns : ℕ) (r r' r'' : SourceState) (w w' w'' : SinkState) (piece : List ℕ)
    → Progress s reader turns r r' w w' → Lost r'.left r''.left piece → 0 < length piece → r''.quiets ≡ r'.quiets → Waits new
    → GivesLines (fed reader piece) new (λ text. Wrote text w' w'') → Progress s new (turns + 1) r r'' w w''
progress_piece s reader new turns r r' r'' w w' w'' piece p lost some still waits printed =
    let all = longer s reader new p.messages p.bytes piece (λ text. Wrote text w' w'') p.read p.place printed in
    record {
      bytes = p.bytes ++ piece;
      messages = p.messages ++ all.more;
      quiet = p.quiet;
      lost = Lost-then r.left r'.left r''.left p.bytes piece p.lost lost;
      read = all.read;
      place = all.place;
      waits = waits;
      quiet_turns = omega (arith, p.quiet_turns, still);
      spent = omega (arith, p.spent, some, length-append p.bytes piece);
      gained = subst (λ (t : List ℕ). Wrote t w w'') (sym all.text_is.1)
          (Gained-then w.written w'.written w''.written (lines 0 p.messages) all.text_is.0 p.gained all.text_is.2);
    }

-- ---- the end

-- all that was to be written was written
wrote_all : (text : List ℕ) (w w' : SinkState) → Wrote text w w' → WroteSome text w w'
wrote_all text w w' gained = record {
  front = length text;
  within = omega arith;
  gained = subst (λ (t : List ℕ). Wrote t w w') (sym (take_all (length text) text (omega arith))) gained;
}

wrote_front : (text : List ℕ) (w w' : SinkState) → WroteFront text w w' → WroteSome text w w'
wrote_front text w w' wrote = record { front = wrote.front; within = omega (arith, wrote.short); gained = wrote.gained }

-- the end at a piece, where what was read before it was written
ended_longer : (s : Side) (end : Converted) (reader new : Reading) (turns : ℕ) (r r' r'' : SourceState) (w w' w'' : SinkState)
    (piece : List ℕ) (How : List ℕ → Type 0) → Progress s reader turns r r' w w' → Lost r'.left r''.left piece
    → GivesLines (fed reader piece) new How
    → ((count : ℕ) (first text : List ℕ) → Wrote first w w' → How text
    → FramesEnd end count new.phase new.rest new.place (first ++ text) r r'' w w'') → Printed s end r r'' w w''
ended_longer s end reader new turns r r' r'' w w' w'' piece How p lost printed ends =
    let all = longer s reader new p.messages p.bytes piece How p.read p.place printed in
    let text : List ℕ = all.text_is.0 in
    let count : ℕ = length (p.bytes ++ piece) in
    record {
      bytes = p.bytes ++ piece;
      messages = p.messages ++ all.more;
      last = new.phase;
      rest = new.rest;
      lost = Lost-then r.left r'.left r''.left p.bytes piece p.lost lost;
      read = all.read;
      ends = subst (λ (k : ℕ). FramesEnd end count new.phase new.rest k (lines 0 (p.messages ++ all.more)) r r'' w w'') all.place
          (subst (λ (t : List ℕ). FramesEnd end count new.phase new.rest new.place t r r'' w w'') (sym all.text_is.1)
          (ends count (lines 0 p.messages) text p.gained all.text_is.2));
    }

-- the fault of a writing is counted from its beginning
risen : (before middle now : ℕ) → middle ≡ before → Rose middle now → Rose before now
risen before middle now stood rose = omega (arith, stood, rose)

pub ended_at : (s : Side) (end : Converted) (reader new : Reading) (turns : ℕ) (r r' r'' : SourceState) (w w' w'' : SinkState)
    (piece : List ℕ) → Progress s reader turns r r' w w' → Lost r'.left r''.left piece → w'.faults ≡ w.faults
    → PieceEnds end (fed reader piece) new w' w'' → Printed s end r r'' w w''
ended_at s (converted.Refused place) reader new turns r r' r'' w w' w'' piece p lost stood ends =
    ended_longer s (converted.Refused place) reader new turns r r' r'' w w' w'' piece (λ text. Wrote text w' w'') p lost ends.1
    (λ count first text a b. (inl ends.0, Gained-then w.written w'.written w''.written first text a b))
ended_at s converted.WriteFault reader new turns r r' r'' w w' w'' piece p lost stood ends =
    ended_longer s converted.WriteFault reader new turns r r' r'' w w' w'' piece (λ text. WroteFront text w' w'') p lost ends.1
    (λ count first text a b. (risen w.faults w'.faults w''.faults stood ends.0, front_then w.written w'.written w''.written first text a b))
ended_at s converted.Memory reader new turns r r' r'' w w' w'' piece p lost stood (inl kept) =
    record {
      bytes = p.bytes ++ piece;
      messages = p.messages;
      last = reader.phase;
      rest = reader.rest ++ piece;
      lost = Lost-then r.left r'.left r''.left p.bytes piece p.lost lost;
      read = read_more (first_phase s) reader.phase p.bytes reader.rest piece p.messages p.read;
      ends = wrote_all (lines 0 p.messages) w w'' (subst (λ (t : Told). Gained w.written t (lines 0 p.messages)) (sym kept) p.gained);
    }
ended_at s converted.Memory reader new turns r r' r'' w w' w'' piece p lost stood (inr printed) =
    ended_longer s converted.Memory reader new turns r r' r'' w w' w'' piece (λ text. WroteFront text w' w'') p lost printed
    (λ count first text a b. wrote_front (first ++ text) w w'' (front_then w.written w'.written w''.written first text a b))
ended_at s converted.Done reader new turns r r' r'' w w' w'' piece p lost stood ends = absurd ends
ended_at s converted.ReadFault reader new turns r r' r'' w w' w'' piece p lost stood ends = absurd ends
ended_at s converted.TurnsSpent reader new turns r r' r'' w w' w'' piece p lost stood ends = absurd ends

-- nothing was read, and nothing written
pub ended_none : (s : Side) (r r' : SourceState) (w w' : SinkState) → ReadNothing r r' → WroteNothing w w'
    → Printed s converted.Memory r r' w w'
ended_none s r r' w w' unread unwritten = record {
  bytes = [];
  messages = [];
  last = first_phase s;
  rest = [];
  lost = subst (λ (t : Told). Lost r.left t []) (sym unread) (Lost-none r.left);
  read = (refl, refl);
  ends = wrote_all [] w w' (subst (λ (t : Told). Gained w.written t []) (sym unwritten) (Gained-none w.written));
}
