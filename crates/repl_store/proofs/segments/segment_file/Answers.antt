-- The name of a segment's file is a text.
use Rattle.std.proofs.Common.{arith}
use Rattle.repl_lsn.specs.Segment.{LogFile, segment_name}
use Rattle.repl_store.proofs.Texts.{named_text}
use Rattle.repl_store.proofs.segments.segment_file.Goals as goal

pub returns-clause-text : goal.returns-clause-text
returns-clause-text c =
    let size = c.bytes.ensures.size in
    named_text c.seg_name.result (segment_name c.args.size c.timeline.inside.0 c.args.segment)
    (c.no_other_file.ensures.form c.args.size (LogFile.segment c.timeline.inside.0 c.args.segment) size
    (c.timeline.invariant.0, c.timeline.invariant.1, omega (arith, c.requires, size.least))) c.seg_name.ensures
