-- The numbers are added one after another, and then the flag.
use Rattle.std.proofs.Common.{◌≡◌, ◌∷◌, ◌++◌, sym, ap, ◌∙◌}
use Rattle.repl_copy.specs.declared.payload.Reply.TheVariants as reply
use Rattle.repl_copy.specs.Payload.{int32, int64, flag, reply_spelling}
use Rattle.repl_copy.proofs.Appending.{then_added, last_added}
use Rattle.repl_copy.proofs.encode.put_reply.Goals as goal

pub returns-in_ok-put_number-in-Status-3-clause-ok : goal.returns-in_ok-put_number-in-Status-3-clause-ok
returns-in_ok-put_number-in-Status-3-clause-ok c =
    let old = c.args.out.now.items in
    let written = c.written.inside.0 in
    let flushed = c.flushed.inside.0 in
    let applied = c.applied.inside.0 in
    let clock = c.in-Status.clock in
    let asks = c.in-Status.reply in
    let written_is : written ≡ c.in-Status.written = c.written.view_is in
    let flushed_is : flushed ≡ c.in-Status.flushed = c.flushed.view_is in
    let applied_is : applied ≡ c.in-Status.applied = c.applied.view_is in
    let value_is : reply.Status written flushed applied clock asks ≡ c.args.value.now = cc c.in-Status.is in
    let head = 114 ∷ int64 written in
    let head_added = c.in_ok-put_head-in-Status.ensures.ok ∙ ap (λ t. t ++ head) c.reserve.ensures.items in
    let flushed_added = then_added old head (int64 flushed) _ _ head_added c.in_ok-put_number-in-Status.ensures.ok in
    let positions = head ++ int64 flushed ++ int64 applied in
    let positions_added = then_added old (head ++ int64 flushed) (int64 applied) _ _ flushed_added c.in_ok-put_number-in-Status-2.ensures.ok
    in
    let clock_added = then_added old positions (int64 clock) _ _ positions_added c.in_ok-put_number-in-Status-3.ensures.ok in
    last_added _ old (positions ++ int64 clock) (flag asks) _ _ _ clock_added (ap reply_spelling value_is) c.put_flag.ensures.ok

pub returns-in_ok-put_short-in-Feedback-3-clause-ok : goal.returns-in_ok-put_short-in-Feedback-3-clause-ok
returns-in_ok-put_short-in-Feedback-3-clause-ok c =
    let old = c.args.out.now.items in
    let said = c.in-Feedback in
    let head = 104 ∷ int64 said.clock in
    let head_added = c.in_ok-put_head-in-Feedback.ensures.ok ∙ ap (λ t. t ++ head) c.reserve-in-Feedback.ensures.items in
    let xmin_added = then_added old head (int32 said.xmin) _ _ head_added c.in_ok-put_short-in-Feedback.ensures.ok in
    let first = head ++ int32 said.xmin ++ int32 said.epoch in
    let first_added = then_added old (head ++ int32 said.xmin) (int32 said.epoch) _ _ xmin_added c.in_ok-put_short-in-Feedback-2.ensures.ok
    in
    let catalog_added = then_added old first (int32 said.catalog_xmin) _ _ first_added c.in_ok-put_short-in-Feedback-3.ensures.ok in
    last_added _ old (first ++ int32 said.catalog_xmin) (int32 said.catalog_epoch) _ _ _ catalog_added (ap reply_spelling (sym said.is))
    c.put_short-in-Feedback-3.ensures.ok
