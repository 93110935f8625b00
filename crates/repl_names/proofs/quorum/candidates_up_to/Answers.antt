-- What `candidates_up_to` needs and ensures.
use Rattle.std.proofs.Common.{◌≡◌, ◌&&◌, count_by, rules, sym, ◌∙◌}
use Rattle.repl_names.proofs.Quorums.{count_filter}
use Rattle.repl_names.specs.declared.quorum.Candidate.{Candidate}
use Rattle.repl_names.specs.Quorum.{counts}
use Rattle.repl_names.specs.Order.{is_up_to}
use Rattle.repl_names.proofs.quorum.candidates_up_to.Goals as goal

pub returns : goal.returns
returns c =
    let counted : c.count.result ≡ count_by (λ (x : Candidate). counts x && is_up_to c.args.priority x) c.args.sessions.now =
    search rules in
    counted ∙ sym (count_filter (is_up_to c.args.priority) counts c.args.sessions.now)
