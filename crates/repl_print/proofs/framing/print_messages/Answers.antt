-- Each turn reads a piece and prints its lines, or reads nothing.
use Rattle.std.proofs.Common.{ℕ, List, take, refl, ◌∙◌, arith}
use Rattle.std.proofs.lemmas.List.{length-take}
use Rattle.repl_print.proofs.FrameProgress.{progress_none, progress_quiet, progress_piece, ended_none, ended_at}
use Rattle.repl_print.proofs.framing.print_messages.Goals as goal
use Rattle.repl_print.proofs.framing.print_messages.Goals.{in-Bytes+in_default-printed, in-Quiet}

pub returns-in_default-clause-ends : goal.returns-in_default-clause-ends
returns-in_default-clause-ends g c =
    let r = g.S.Source.source c.args.input.now in
    let w = g.K.Sink.sink c.args.out.now in
    ended_none c.args.side r r w w refl refl

pub loop-init : goal.loop-init
loop-init g c = record {
  progress = progress_none c.args.side c.in-Ok.reader (g.S.Source.source c.args.input.now) (g.K.Sink.sink c.args.out.now) c.in-Ok.ensures;
  read_faults = refl;
  write_faults = refl;
}

pub returns-in-Err-clause-ends : goal.returns-in-Err-clause-ends
returns-in-Err-clause-ends g c =
    let r = g.S.Source.source c.args.input.now in
    let w = g.K.Sink.sink c.args.out.now in
    ended_at c.args.side c.in-Err.end c.loop.reader c.print_piece-printed.new.reader c.loop.counter
    r (g.S.Source.source c.loop.input) (g.S.Source.source c.read.new.self)
    w (g.K.Sink.sink c.loop.out) (g.K.Sink.sink c.print_piece-printed.new.out) (take c.in-Bytes.count c.read.new.room)
    c.loop.invariant.progress c.in-Bytes.ensures.reads.moved.lost c.loop.invariant.write_faults c.in-Err.ensures.err

pub loop-preserved : goal.loop-preserved
loop-preserved g c =
    let r = g.S.Source.source c.args.input.now in
    let r' = g.S.Source.source c.loop.input in
    let r'' = g.S.Source.source c.read.new.self in
    let w = g.K.Sink.sink c.args.out.now in
    let w' = g.K.Sink.sink c.loop.out in
    elim c.match-read.branch [
      | in-Bytes+in_default-printed b ↦
          let reads = b.in-Bytes.ensures.reads in
          let printed = b.in_default-printed.ensures.ok in
          let piece : List ℕ = take b.in-Bytes.count c.read.new.room in
          rw b.reader-is (rw b.out-is (record {
            progress = progress_piece c.args.side c.loop.reader b.print_piece-printed.new.reader c.loop.counter
                r r' r'' w w' (g.K.Sink.sink b.print_piece-printed.new.out) piece c.loop.invariant.progress reads.moved.lost
                (omega (arith, length-take b.in-Bytes.count c.read.new.room, reads.moved.some, reads.moved.fits)) reads.quiets printed.0
                printed.1;
            read_faults = reads.faults ∙ c.loop.invariant.read_faults;
            write_faults = printed.2 ∙ c.loop.invariant.write_faults;
          }))
      | in-Quiet b ↦
          let reads = b.in-Quiet.ensures.reads in
          rw b.reader-is (rw b.out-is (record {
            progress = progress_quiet c.args.side c.loop.reader c.loop.counter r r' r'' w w' c.loop.invariant.progress
                reads.moved.left_stays reads.quiets;
            read_faults = reads.faults ∙ c.loop.invariant.read_faults;
            write_faults = c.loop.invariant.write_faults;
          }))
    ]
