-- What is kept are the others.
use Rattle.std.proofs.Common.{not, rules, tests}
use Rattle.std.proofs.lemmas.Fn.{filter_same}
use Rattle.repl_hub.specs.State.{is_link}
use Rattle.repl_hub.proofs.sessions.unlink.Goals as goal

pub returns : goal.returns
returns c =
    filter_same _ (λ link. not (is_link c.args.number link))
    _ (λ x b f called. search (rules, tests)) c.args.links.now.items c.retain.new.self.items c.retain.ensures.filtered
