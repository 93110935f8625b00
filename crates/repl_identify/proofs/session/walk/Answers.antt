-- Each message that the reader gives leads on, or the walk is stuck at its place.
use Rattle.std.proofs.Common.{◌≡◌, Err, sym, ◌∙◌, arith}
use Rattle.std.proofs.lemmas.Result.{err_from_is_err_and}
use Rattle.repl_filter.specs.declared.converter.Refused.TheVariants.{At}
use Rattle.repl_wire.proofs.Streams.{rest_less}
use Rattle.repl_identify.proofs.Sessions.{walked_none, walked_more, counted_less, stuck_refused, stuck_message}
use Rattle.repl_identify.proofs.session.walk.Goals as goal

pub loop-message-init : goal.loop-message-init
loop-message-init c = walked_none c.args.reader.now c.args.from c.requires.few

pub advance-requires : goal.advance-requires
advance-requires c =
    let found = c.next.ensures.found c.in-Message.message c.in-Message.is in
    counted_less c.args.reader.now c.loop-message.reader c.args.from c.loop-message.stage c.in-Message.message found.1.0
    c.loop-message.invariant (omega (arith, c.requires.fits)) found.1.1

pub returns-in_err-stage-in-Message-clause-stuck : goal.returns-in_err-stage-in-Message-clause-stuck
returns-in_err-stage-in-Message-clause-stuck c = λ place e.
    let found = c.next.ensures.found c.in-Message.message c.in-Message.is in
    let p = err_from_is_err_and c.from_residual.result c.from_residual.ensures.1 in
    let same : c.advance.result ≡ Err (At place) = cc in
    let refused = c.advance.ensures.refuses place same in
    stuck_message c.args.reader.now c.loop-message.reader c.args.from c.loop-message.stage place c.in-Message.message found.1.0
    c.loop-message.invariant (refused.0 ∙ c.place-place.ensures) found.0 found.1.1 refused.1

pub loop-message-smaller : goal.loop-message-smaller
loop-message-smaller c =
    let found = c.next.ensures.found c.in-Message.message c.in-Message.is in
    rest_less c.loop-message.reader c.next.new.self c.in-Message.message found.1.0 found.1.1 found.1.2

pub loop-message-preserved : goal.loop-message-preserved
loop-message-preserved c =
    let found = c.next.ensures.found c.in-Message.message c.in-Message.is in
    walked_more c.args.reader.now c.loop-message.reader c.next.new.self c.args.from c.loop-message.stage c.in_ok-stage-in-Message.stage
    c.in-Message.message found.1.0 c.loop-message.invariant (omega (arith, c.requires.fits)) found.0 found.1.1 found.1.2
    c.in_ok-stage-in-Message.ensures.leads

pub returns-in-Refused-clause-stuck : goal.returns-in-Refused-clause-stuck
returns-in-Refused-clause-stuck c = λ place e.
    let exact = c.in-Refused.ensures.exact in
    let at : c.place-place.result ≡ place = cc in
    stuck_refused c.args.reader.now c.loop-message.reader c.args.from c.loop-message.stage place exact.0 c.loop-message.invariant
    (sym at ∙ c.place-place.ensures) exact.1
