-- The name of a history is a text.
use Rattle.std.proofs.Common.{◌^◌, refl, lit≤}
use Rattle.repl_lsn.specs.Segment.{LogFile, history_name}
use Rattle.repl_store.proofs.Texts.{named_text}
use Rattle.repl_store.proofs.segments.history_file.Goals as goal

pub returns-clause-text : goal.returns-clause-text
returns-clause-text c =
    named_text c.history_name.result (history_name c.tli.inside.0)
    (c.no_other_file.ensures.form (2 ^ 20) (LogFile.history c.tli.inside.0)
    (record { exponent = 20; power = refl; least = lit≤ tt; most = lit≤ tt })
    (c.tli.invariant.0, c.tli.invariant.1)) c.history_name.ensures
