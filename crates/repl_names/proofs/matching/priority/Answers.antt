-- What `priority` needs and ensures.
use Rattle.std.proofs.Common.{◌≡◌, position, Some, None, ap, ◌∙◌, sym, arith}
use Rattle.repl_names.specs.StandbyList.{matches}
use Rattle.repl_names.proofs.Priorities.{priority_some, priority_none, place_fits}
use Rattle.repl_names.proofs.matching.priority.Goals as goal

some : (c : goal.In-Some) → position (matches c.args.name.now) c.args.list.now.names ≡ Some c.in-Some.place
some c = ap (position (matches c.args.name.now)) (sym (c.as_slice.ensures ∙ c.names.ensures.value)) ∙ sym c.first_match.ensures
    ∙ c.in-Some.is

none : (c : goal.In-None) → position (matches c.args.name.now) c.args.list.now.names ≡ None
none c = ap (position (matches c.args.name.now)) (sym (c.as_slice.ensures ∙ c.names.ensures.value)) ∙ sym c.first_match.ensures
    ∙ c.in-None.is

pub overflow_cast-result : goal.overflow_cast-result
overflow_cast-result c = omega (arith, place_fits _ c.in-Some.place c.names.ensures.listing (priority_some _ _ c.in-Some.place (some c)).0)

pub overflow_add-result : goal.overflow_add-result
overflow_add-result c = omega (arith, place_fits _ c.in-Some.place c.names.ensures.listing (priority_some _ _ c.in-Some.place (some c)).0)

pub returns-in-Some : goal.returns-in-Some
returns-in-Some c = let h = priority_some _ _ c.in-Some.place (some c) in record { value = h.1; first = h.2 }

pub returns-in-None : goal.returns-in-None
returns-in-None c = let h = priority_none _ _ (none c) in record { value = h.0; first = h.1 }
