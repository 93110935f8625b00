-- What the conversion did is what `identify` does, since the identity's numbers have their types.
use Rattle.std.proofs.Common.{subst, arith}
use Rattle.repl_identify.specs.declared.identity.SystemIdentity.{SystemIdentity}
use Rattle.repl_identify.specs.Identify.{Identified}
use Rattle.repl_identify.proofs.Messages.{IsInRange}
use Rattle.repl_identify.proofs.Ends.{identified}
use Rattle.repl_identify.proofs.identification.identify.Goals as goal

pub returns : goal.returns
returns g c =
    let r = g.S.Source.source c.args.input.now in
    let r' = g.S.Source.source c.convert.new.input in
    let w = g.K.Sink.sink c.args.out.now in
    let w' = g.K.Sink.sink c.convert.new.out in
    let made = c.new-answering.result.identity in
    let range : IsInRange made = record {
      system = omega (arith, c.new-answering.type_inv);
      timeline = omega (arith, c.new-answering.type_inv);
      flushed = omega (arith, c.new-answering.type_inv);
    } in
    subst (λ (i : SystemIdentity). Identified i c.convert.result r r' w w') c.new-answering.ensures
    (identified made c.convert.result r r' w w' range c.convert.ensures)
