-- What `candidates_within` needs and ensures.
use Rattle.std.proofs.Common.{◌≡◌, ◌&&◌, count_by, rules, sym, ◌∙◌}
use Rattle.repl_names.proofs.Quorums.{count_filter}
use Rattle.repl_names.specs.declared.quorum.Candidate.{Candidate}
use Rattle.repl_names.specs.Quorum.{counts}
use Rattle.repl_names.specs.Order.{is_within}
use Rattle.repl_names.proofs.quorum.candidates_within.Goals as goal

pub returns : goal.returns
returns c =
    let counted : c.count.result ≡ count_by
    (λ (x : Candidate). counts x && is_within c.args.priority c.args.session x) c.args.sessions.now = search rules in
    counted ∙ sym (count_filter (is_within c.args.priority c.args.session) counts c.args.sessions.now)
