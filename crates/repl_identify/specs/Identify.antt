-- What `identify` reads and leaves written.
use Rattle.std.specs.Prelude.{◌≡◌, ℕ, List}
use Rattle.std.specs.List.{flat_map}
use Rattle.repl_io.specs.Source.{SourceState}
use Rattle.repl_io.specs.Sink.{SinkState}
use Rattle.repl_message.specs.declared.back.Back.{Back}
use Rattle.repl_message.specs.Message.{AreMessages, back_spelling}
use Rattle.repl_filter.specs.declared.conversion.Converted.{Converted}
use Rattle.repl_filter.specs.Converting.{Conversion}
use Rattle.repl_identify.specs.declared.answering.TheConstants.{INPUT_LIMIT}
use Rattle.repl_identify.specs.declared.identity.SystemIdentity.{SystemIdentity}
use Rattle.repl_identify.specs.declared.stage.Session.{Session}
use Rattle.repl_identify.specs.Answer.{answer, answer_bytes}
use Rattle.repl_identify.specs.Session.{IsSession, IsNoSessionAt}

-- the input is a session that asks so often
abbrev pub Asks : List ℕ → Session → Type 0
Asks input session = IsSession input session.requests session.questions

-- what answers it
abbrev pub session_answer : SystemIdentity → Session → List ℕ
session_answer identity session = answer_bytes identity session.requests session.questions

-- What `identify` does: it reads its input, and writes the whole answer where that is a session; another input is refused.
-- But for the bytes that refuse encryption the answer reads back as its messages, and in no other way.
pub record Identified (identity : SystemIdentity) (end : Converted) (r r' : SourceState) (w w' : SinkState) : Type 0 where
  pub conversion : Conversion INPUT_LIMIT Asks (session_answer identity) IsNoSessionAt end r r' w w'
  pub messages : (questions : ℕ) → AreMessages (flat_map back_spelling (answer identity questions)) (answer identity questions)
  pub no_others : (questions : ℕ) (others : List Back) → AreMessages (flat_map back_spelling (answer identity questions)) others
      → others ≡ answer identity questions
