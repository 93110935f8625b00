-- The body of a packet is read as its code says.
use Rattle.std.proofs.Common.{◌-◌, arith, drop}
use Rattle.std.proofs.lemmas.List.{length-take, length-drop}
use Rattle.repl_wire.proofs.Heads.{packet_frame}
use Rattle.repl_wire.proofs.taking.take_startup.Goals as goal

pub take_packet-requires : goal.take_packet-requires
take_packet-requires c = omega (
  arith,
  length-take (c.args.size - 4) (drop 4 c.args.bytes.now),
  length-drop 4 c.args.bytes.now,
  c.requires.long,
  c.requires.there,
)

pub returns : goal.returns
returns c =
    let f = packet_frame c.args.bytes.now c.args.size c.requires.head c.requires.there in
    rw f.judged c.take_packet.ensures
