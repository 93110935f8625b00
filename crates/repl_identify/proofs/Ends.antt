-- What a conversion of sessions did is what `identify` does.
use Rattle.std.proofs.Common.{ℕ}
use Rattle.std.specs.List.{flat_map}
use Rattle.repl_io.specs.Source.{SourceState}
use Rattle.repl_io.specs.Sink.{SinkState}
use Rattle.repl_message.specs.Message.{back_spelling}
use Rattle.repl_message.proofs.OneSpelling.{reading_one}
use Rattle.repl_filter.specs.declared.conversion.Converted.{Converted}
use Rattle.repl_filter.specs.Converting.{Conversion}
use Rattle.repl_identify.specs.declared.answering.TheConstants.{INPUT_LIMIT}
use Rattle.repl_identify.specs.declared.identity.SystemIdentity.{SystemIdentity}
use Rattle.repl_identify.specs.Answer.{answer}
use Rattle.repl_identify.specs.Session.{IsNoSessionAt}
use Rattle.repl_identify.specs.Identify.{Asks, Identified, session_answer}
use Rattle.repl_identify.proofs.Messages.{IsInRange, answer_messages}

-- the answer reads back in one way
pub identified : (identity : SystemIdentity) (end : Converted) (r r' : SourceState) (w w' : SinkState) → IsInRange identity
    → Conversion INPUT_LIMIT Asks (session_answer identity) IsNoSessionAt end r r' w w' → Identified identity end r r' w w'
identified identity end r r' w w' range conversion =
    let messages = λ (questions : ℕ). answer_messages identity questions range in
    record {
      conversion = conversion;
      messages = messages;
      no_others = λ questions others reads.
          reading_one (flat_map back_spelling (answer identity questions)) others (answer identity questions) reads (messages questions);
    }
