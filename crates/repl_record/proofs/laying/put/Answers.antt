-- Each block goes on.
use Rattle.std.proofs.Common.{◌≡◌, ℕ, ◌+◌, ◌<◌, List, ◌++◌, length, take, sym, ap, ◌∙◌, arith}
use Rattle.std.proofs.lemmas.Bool.{eqb-false}
use Rattle.repl_record.specs.Laying.{due_header}
use Rattle.repl_record.proofs.LayingBlocks.{IsGoing-with_block}
use Rattle.repl_record.proofs.laying.put.Goals as goal

pub loop-rest-preserved : goal.loop-rest-preserved
loop-rest-preserved c =
    let log = c.loop-rest.out.items in
    let rest = c.loop-rest.rest.now in
    let header : c.put_header.new.out.items ≡ log ++ due_header c.args.place.now c.loop-rest.laid log = c.in_ok-put_header.ensures in
    let grown : c.extend_from_slice.new.self.items ≡ c.put_header.new.out.items ++ take c.min-count.result rest =
    c.in_ok-extend_from_slice.ensures.items in
    let place = ap (λ (t : List ℕ). c.args.place.now.at + length t) header in
    let room = c.room_on_page.ensures in
    let count = c.min-count.ensures in
    let full : length rest ≡ 0 → ⊥ = eqb-false (length rest) 0 (sym c.is_empty.ensures ∙ c.loop-rest-test.true) in
    let some : 0 < c.min-count.result = omega arith in
    IsGoing-with_block c.args.place.now c.args.out.now.items c.args.piece.now log rest _ c.loop-rest.laid c.min-count.result
    c.requires.size c.loop-rest.invariant some (omega arith) (omega arith) (grown
    ∙ ap (λ (t : List ℕ). t ++ take c.min-count.result rest) header)
