-- A frame has its head.
use Rattle.repl_message.specs.declared.message.Side.TheVariants as side
use Rattle.repl_wire.proofs.Heads.{packet_frame, sent_frame}
use Rattle.repl_wire.proofs.taking.take_frame.Goals as goal

pub take_startup-requires-clause-long : goal.take_startup-requires-clause-long
take_startup-requires-clause-long c =
    (packet_frame c.args.bytes.now c.args.size (rw c.in-Startup.is at c.requires.head) c.requires.there).long

pub take_sent-requires-clause-long : goal.take_sent-requires-clause-long
take_sent-requires-clause-long c =
    (sent_frame side.Front c.args.bytes.now c.args.size (rw c.in-Front.is at c.requires.head) c.requires.there).long

pub take_sent-requires-in-Back-clause-long : goal.take_sent-requires-in-Back-clause-long
take_sent-requires-in-Back-clause-long c =
    (sent_frame side.Back c.args.bytes.now c.args.size (rw c.in-Back.is at c.requires.head) c.requires.there).long
