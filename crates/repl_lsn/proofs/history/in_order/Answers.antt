-- One more part in order, and the first that is not.
use Rattle.std.proofs.Common.{◌<◌, ◌≤◌, take, sym, rules, arith}
use Rattle.std.proofs.lemmas.Grind.{common_steps}
use Rattle.repl_lsn.specs.History.{InOrder, last_number, last_switch}
use Rattle.repl_lsn.proofs.Order.{in_order_more, in_order_item, last_number_more, last_switch_more}
use Rattle.repl_lsn.proofs.history.in_order.Goals as goal
use Rattle.repl_lsn.proofs.history.in_order.Goals.{then-tli-number-via-then-tli-number, then-tli-number-via-else-tli-number+then-le, then-tli-number-via-else-tli-number+else-le+then-lt}

pub loop-part-preserved : goal.loop-part-preserved
loop-part-preserved c =
    let parts = c.args.parts.now in
    let i = c.loop-part.part-index in
    let p = c.part-item.result in
    let l = c.loop-part-test.true in
    let below : p.tli < c.args.own = search rules in
    let falls : c.loop-part.switch ≤ p.switch = search rules in
    record {
      in_order = in_order_more c.args.own parts i p l c.part-item.is c.loop-part.invariant.in_order (omega arith) below (omega (
        arith,
        falls,
        c.loop-part.invariant.switch,
      ));
      number = omega (arith, last_number_more parts i p l c.part-item.is);
      switch = sym (last_switch_more parts i p l c.part-item.is);
    }

pub returns-then-tli-number : goal.returns-then-tli-number
returns-then-tli-number c =
    let parts = c.args.parts.now in
    let i = c.loop-part.part-index in
    let p = c.part-item.result in
    let some : 0 < p.tli = omega arith in
    let item = λ (h : InOrder c.args.own parts). in_order_item c.args.own parts i p c.loop-part-test.true c.part-item.is some h in (
      λ e. absurd (cc),
      λ h.
          let r : (last_number (take i parts) < p.tli) × (p.tli < c.args.own) × (last_switch (take i parts) ≤ p.switch) = item h in
          elim c.then-tli-number.branch [
            | then-tli-number-via-then-tli-number w ↦ absurd (grind (arith, common_steps))
            | then-tli-number-via-else-tli-number+then-le w ↦ absurd (grind (arith, common_steps))
            | then-tli-number-via-else-tli-number+else-le+then-lt w ↦ absurd (grind (arith, common_steps))
          ],
    )
