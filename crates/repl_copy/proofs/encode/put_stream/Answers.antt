-- The numbers are added one after another, and then the bytes of the log or the flag.
use Rattle.std.proofs.Common.{◌≡◌, ◌∷◌, ◌++◌, ap, ◌∙◌}
use Rattle.repl_copy.specs.declared.payload.Stream.TheVariants as stream
use Rattle.repl_copy.specs.Payload.{int64, flag, stream_spelling}
use Rattle.repl_copy.proofs.Appending.{then_added, last_added}
use Rattle.repl_copy.proofs.encode.put_stream.Goals as goal

pub returns-in_ok-put_number-in-Wal-2-clause-ok : goal.returns-in_ok-put_number-in-Wal-2-clause-ok
returns-in_ok-put_number-in-Wal-2-clause-ok c =
    let old = c.args.out.now.items in
    let start = c.start.inside.0 in
    let end = c.end.inside.0 in
    let clock = c.in-Wal.clock in
    let bytes = c.as_slice.result.now in
    let start_is : start ≡ c.in-Wal.start = c.start.view_is in
    let end_is : end ≡ c.in-Wal.end = c.end.view_is in
    let value_is : stream.Wal start end clock bytes ≡ c.args.value.now = cc (c.in-Wal.is, c.as_slice.ensures) in
    let head = 119 ∷ int64 start in
    let head_added = c.in_ok-put_head-in-Wal.ensures.ok ∙ ap (λ t. t ++ head) c.reserve.ensures.items in
    let end_added = then_added old head (int64 end) _ _ head_added c.in_ok-put_number-in-Wal.ensures.ok in
    let clock_added = then_added old (head ++ int64 end) (int64 clock) _ _ end_added c.in_ok-put_number-in-Wal-2.ensures.ok in
    last_added _ old (head ++ int64 end ++ int64 clock) bytes _ _ _ clock_added (ap stream_spelling value_is) c.put_bytes.ensures.ok

pub returns-in_ok-put_number-in-Keepalive-clause-ok : goal.returns-in_ok-put_number-in-Keepalive-clause-ok
returns-in_ok-put_number-in-Keepalive-clause-ok c =
    let old = c.args.out.now.items in
    let end = c.end-in-Keepalive.inside.0 in
    let clock = c.in-Keepalive.clock in
    let asks = c.in-Keepalive.reply in
    let end_is : end ≡ c.in-Keepalive.end = c.end-in-Keepalive.view_is in
    let value_is : stream.Keepalive end clock asks ≡ c.args.value.now = cc c.in-Keepalive.is in
    let head = 107 ∷ int64 end in
    let head_added = c.in_ok-put_head-in-Keepalive.ensures.ok ∙ ap (λ t. t ++ head) c.reserve-in-Keepalive.ensures.items in
    let clock_added = then_added old head (int64 clock) _ _ head_added c.in_ok-put_number-in-Keepalive.ensures.ok in
    last_added _ old (head ++ int64 clock) (flag asks) _ _ _ clock_added (ap stream_spelling value_is) c.put_flag.ensures.ok
