-- A turn takes what is left of a page, or of the record.
use Rattle.std.proofs.Common.{◌≡◌, ap, ◌∙◌, arith}
use Rattle.std.specs.Int.{next_multiple_of}
use Rattle.repl_record.proofs.ImageLength.{nothing_left, turn_kept}
use Rattle.repl_record.proofs.length.image_end.Goals as goal

pub loop-left-preserved : goal.loop-left-preserved
loop-left-preserved c =
    turn_kept c.args.size c.loop-left.position c.loop-left.left c.start.inside.0 c.left_on_page.result c.min-count.result _ _
    c.start_past-start.ensures.size (omega (arith, c.start.view_is, c.start_past-start.ensures.value))
    c.loop-left-test.true (omega (arith, c.start.view_is, c.left_on_page.ensures))
    (omega (arith, c.min-count.ensures)) c.loop-left.invariant

pub returns : goal.returns
returns c =
    let end = nothing_left c.args.size c.loop-left.position c.loop-left.left _ (omega (arith, c.loop-left-test.false)) c.loop-left.invariant.0 in
    let here : c.position.inside.0 ≡ c.loop-left.position = omega (arith, c.position.view_is) in
    c.next_multiple_of.ensures.value ∙ ap (λ p. next_multiple_of p 8) (here ∙ end)
