-- The search stops at the first field with the code.
use Rattle.std.proofs.Common.{◌≡◌, ◌≢◌, Some, rules, tests}
use Rattle.std.proofs.lemmas.Iterator.{first_from_find, YieldsList-from_slice}
use Rattle.repl_message.specs.declared.back.ErrorField.{ErrorField}
use Rattle.repl_message.proofs.Finding.{first_found}
use Rattle.repl_message.proofs.back.ErrorFields.text_of.Goals as goal

pub returns-in-Some : goal.returns-in-Some
returns-in-Some c =
    let found = first_from_find c.find.new.self _ (Some c.in-Some.field) (λ (f : ErrorField). f.code ≡ c.args.code) (λ (f : ErrorField). f.code ≢ c.args.code)
    c.in-Some.ensures.ran (YieldsList-from_slice c.args.self.now cc) (λ x q k. search (rules, tests)) (λ x q k. search (rules, tests)) in
    first_found c.args.code c.args.self.now found.1 c.in-Some.field.now found.2 found.3 found.4 found.0
