-- The log begins with the rest of a record, or with a record.
use Rattle.std.proofs.Common.{ℕ, ◌∙◌, [], sym, subst, arith}
use Rattle.repl_check.specs.Machine.{InRest, check_floor, check_identity}
use Rattle.repl_check.proofs.Stages.{fresh_records, fresh_rest}
use Rattle.repl_check.proofs.log_check.LogCheck.first_stage.Goals as goal

pub returns-then-rest-gt0-clause-stage : goal.returns-then-rest-gt0-clause-stage
returns-then-rest-gt0-clause-stage c timeline =
    let ident = check_identity c.args.self.now in
    let floor = check_floor c.args.self.now in
    subst (λ (n : ℕ). InRest ident timeline n floor [] c.new.result) c.rest-rest.ensures
    (fresh_rest ident timeline c.rest-rest.result floor c.new.result (omega (arith, c.if-rest-gt0.true)) c.new.ensures.ident
    (c.new.ensures.passed timeline))

pub returns-else-rest-gt0-clause-stage : goal.returns-else-rest-gt0-clause-stage
returns-else-rest-gt0-clause-stage c timeline =
    let walker = c.new-else-rest-gt0 in
    fresh_records (check_identity c.args.self.now) timeline _ (check_floor c.args.self.now) walker.result c.requires.page
    (sym c.rest-rest.ensures ∙ omega (arith, c.if-rest-gt0.false)) walker.ensures.ident (walker.ensures.stands timeline)

pub returns-else-rest-gt0-clause-placed : goal.returns-else-rest-gt0-clause-placed
returns-else-rest-gt0-clause-placed c = omega (arith, (c.new-else-rest-gt0.ensures.stands (λ page. page)).keeps.past)
