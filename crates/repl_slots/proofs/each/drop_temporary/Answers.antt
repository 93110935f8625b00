-- What is kept are the slots that pass the test.
use Rattle.std.proofs.Common.{not, rules, tests}
use Rattle.std.proofs.lemmas.Fn.{filter_same}
use Rattle.repl_slots.specs.Slot.{is_session}
use Rattle.repl_slots.proofs.each.drop_temporary.Goals as goal

pub returns : goal.returns
returns c =
    filter_same _ (λ slot. not (is_session c.args.session slot.temporary))
    _ (λ x b f called. search (rules, tests)) c.args.slots.now.items c.retain.new.self.items c.retain.ensures.filtered
