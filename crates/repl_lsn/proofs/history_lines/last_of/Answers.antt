-- The last part stands after all others.
use Rattle.std.proofs.Common.{◌<◌, length, ap, sym, ◌∙◌}
use Rattle.repl_lsn.proofs.Order.{last_is}
use Rattle.repl_lsn.proofs.history_lines.last_of.Goals as goal

pub returns-in-Some-clause-number : goal.returns-in-Some-clause-number
returns-in-Some-clause-number c =
    let item = c.in-Some.ensures.item in
    let some : 0 < length c.args.parts.now = item.3.0 in
    c.number.ensures ∙ ap (λ p. p.tli) item.1 ∙ sym (last_is c.args.parts.now c.in-Some.last.now some).0

pub returns-in-Some-clause-switch : goal.returns-in-Some-clause-switch
returns-in-Some-clause-switch c =
    let item = c.in-Some.ensures.item in
    let some : 0 < length c.args.parts.now = item.3.0 in
    ap (λ p. p.switch) item.1 ∙ sym (last_is c.args.parts.now c.in-Some.last.now some).1
