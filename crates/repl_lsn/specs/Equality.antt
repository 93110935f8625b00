-- When parts and lists of them are equal, as tests.
use Rattle.std.specs.Prelude.{Bool, ◌==◌}
use Rattle.std.proofs.Common.{rules}
use Rattle.std.specs.Cmp.{IsEquivalence, and_equiv, on_equiv}
use Rattle.std.specs.Cmp.Lexicographic.{pointwise, lists_equiv}
use Rattle.std.specs.Cmp.Rules.{comparing}
use Rattle.std.specs.Ordering.{eq_of_both, on}
use Rattle.repl_lsn.specs.declared.history.Part.{Part}
use Rattle.repl_lsn.specs.History.{Path}

abbrev pub part_eq : Part → Part → Bool
part_eq = eq_of_both (on (λ p. p.tli) ◌==◌) (eq_of_both (on (λ p. p.switch) ◌==◌) (on (λ p. p.reason) (pointwise ◌==◌)))

abbrev pub path_eq : Path → Path → Bool
path_eq = eq_of_both (on (λ p. p.own) ◌==◌) (on (λ p. p.parents) (pointwise part_eq))

-- both are equivalences
pub part_eq_is : IsEquivalence part_eq
part_eq_is = search (comparing, rules)

pub parts_eq_is : IsEquivalence (pointwise part_eq)
parts_eq_is = lists_equiv part_eq_is

pub path_eq_is : IsEquivalence path_eq
path_eq_is = and_equiv (search (comparing, rules)) (on_equiv (λ p. p.parents) parts_eq_is)
