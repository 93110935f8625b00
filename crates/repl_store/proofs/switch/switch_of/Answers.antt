-- The last part stands after all others.
use Rattle.std.proofs.Common.{◌<◌, length, ap, sym, ◌∙◌}
use Rattle.repl_lsn.proofs.Order.{last_is}
use Rattle.repl_lsn.specs.History.{last_switch}
use Rattle.repl_store.proofs.switch.switch_of.Goals as goal

pub returns-in-Some-clause-value : goal.returns-in-Some-clause-value
returns-in-Some-clause-value c =
    let item = c.in-Some.ensures.item in
    let parts = c.as_slice.result.now in
    let some : 0 < length parts = item.3.0 in
    ap (λ p. p.switch) item.1 ∙ sym (last_is parts c.in-Some.last.now some).1 ∙ ap last_switch (c.as_slice.ensures
    ∙ c.parents.ensures.value)
