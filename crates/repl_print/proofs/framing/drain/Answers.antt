-- Each message that the reader gives adds its line.
use Rattle.std.proofs.Common.{◌≡◌, false, Result, Ok, Err, sym, arith}
use Rattle.std.specs.Result.{is_err, OnOk}
use Rattle.std.specs.declared.alloc.AllocError.{AllocError}
use Rattle.repl_print.proofs.FrameLines.{printed_none, printed_more, belongs_short}
use Rattle.repl_wire.proofs.Streams.{rest_less}
use Rattle.repl_print.proofs.framing.drain.Goals as goal

-- what is said of a success holds where there is no error
when_ok : (r : Result (Unit {0}) AllocError) (P : Type 0) → is_err r ≡ false → OnOk r P → P
when_ok (Ok x) P fine p = p
when_ok (Err e) P fine p = absurd cc

pub loop-message-init : goal.loop-message-init
loop-message-init c = record {
  printed = printed_none c.args.reader.now c.clear.new.self.items c.clear.ensures.items
      (omega (arith, c.place-place.type_inv, c.place-place.ensures));
  place_is = c.place-place.ensures;
  fits = omega (arith, c.place-place.type_inv, c.place-place.ensures);
}

pub put_line-requires : goal.put_line-requires
put_line-requires c = belongs_short c.loop-message.reader.phase c.in-Message.message
    (c.next.ensures.found c.in-Message.message c.in-Message.is).0

pub loop-message-smaller : goal.loop-message-smaller
loop-message-smaller c =
    let found = c.next.ensures.found c.in-Message.message c.in-Message.is in
    rest_less c.loop-message.reader c.next.new.self c.in-Message.message found.1.0 found.1.1 found.1.2

pub loop-message-preserved : goal.loop-message-preserved
loop-message-preserved c =
    let found = c.next.ensures.found c.in-Message.message c.in-Message.is in
    record {
      printed = printed_more c.args.reader.now c.loop-message.reader c.next.new.self c.loop-message.lines.items c.put_line.new.lines.items
          c.loop-message.place c.in-Message.message found.1.0 c.loop-message.invariant.printed c.loop-message.invariant.fits
          c.loop-message.invariant.place_is found.0 found.1.1 found.1.2
          (when_ok c.put_line.result _ (sym c.if-is_err.ensures.value) c.put_line.ensures);
      place_is = c.place-place-in-Message.ensures;
      fits = c.loop-message.invariant.fits;
    }
