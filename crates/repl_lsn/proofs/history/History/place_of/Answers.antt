-- The timeline that is found stands after those before it.
use Rattle.std.proofs.Common.{◌≡◌, ◌<◌, length, get_or, sym, ◌∙◌, rules}
use Rattle.std.proofs.lemmas.Bool.{eqb-true}
use Rattle.repl_lsn.proofs.Timelines.{item_stands}
use Rattle.repl_lsn.proofs.history.History.place_of.Goals as goal

pub returns-then-eq : goal.returns-then-eq
returns-then-eq c =
    let path = c.args.self.now in
    let x = c.part-item.result in
    let i = c.loop-place.place in
    let within : i < length path.parents = search rules in
    let at : x ≡ get_or path.parents i x = cc in
    let number : x.tli ≡ c.args.tli = eqb-true x.tli c.args.tli (sym c.eq.ensures ∙ c.if-eq.true) in
    (item_stands path i c.args.tli x within at number, within)
