-- The search from the back stops at the last parameter of the name.
use Rattle.std.proofs.Common.{◌≡◌, ◌≢◌, Some, rules, tests}
use Rattle.std.proofs.lemmas.Iterator.{first_from_find}
use Rattle.std.proofs.lemmas.Iterator.Adapters.{YieldsList-from_rev_slice}
use Rattle.repl_message.specs.declared.startup.Pair.{Pair}
use Rattle.repl_message.proofs.Finding.{last_found}
use Rattle.repl_message.proofs.startup.Pairs.value_of.Goals as goal

pub returns-in-Some : goal.returns-in-Some
returns-in-Some c =
    let found = first_from_find c.find.new.self _ (Some c.in-Some.pair) (λ (p : Pair). p.name ≡ c.args.name.now) (λ (p : Pair). p.name ≢ c.args.name.now)
    c.in-Some.ensures.ran (YieldsList-from_rev_slice c.args.self.now cc) (λ x q k. search (rules, tests)) (λ x q k. search (rules, tests))
    in
    last_found c.args.name.now c.args.self.now found.1 c.in-Some.pair.now found.2 found.3 found.4 found.0
