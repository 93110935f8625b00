-- The rule holds of the table as it is made.
use Rattle.std.proofs.Common.{replicate, rules, ◌≡◌, List, [], ◌∷◌, sym, subst}
use Rattle.atomic_table.specs.Table.{opening}
use Rattle.repl_turn.specs.Rule.{Kept, newcomer}
use Rattle.repl_turn.proofs.Opens.{opens}
use Rattle.repl_turn.proofs.turn.Turn.new.Goals as goal

pub new-requires : goal.new-requires
new-requires g c =
    let x = c.of-opening.result.value in
    let items : c.push.new.self.items ≡ x ∷ [] = grind (
      c.push.ensures.items,
      c.in_default.ensures,
      c.of-opening.ensures,
      c.new-slots.ensures,
      rules,
    ) in
    subst (λ (xs : List g.row.M.Denot). Kept g.M.Machine.steps x (opening (replicate 17 0) xs (newcomer x))) (sym items)
    (opens g.M.Machine.steps x)
