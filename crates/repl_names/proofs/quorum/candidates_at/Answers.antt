-- What `candidates_at` needs and ensures.
use Rattle.std.proofs.Common.{◌≡◌, ◌&&◌, count_by, rules, sym, ◌∙◌}
use Rattle.repl_names.proofs.Quorums.{count_filter}
use Rattle.repl_names.specs.declared.quorum.Candidate.{Candidate}
use Rattle.repl_names.specs.Quorum.{counts, reaches}
use Rattle.repl_names.proofs.quorum.candidates_at.Goals as goal

pub returns : goal.returns
returns c =
    let counted : c.count.result ≡ count_by (λ (x : Candidate). counts x && reaches c.args.mode c.args.end x) c.args.sessions.now =
    search rules in
    counted ∙ sym (count_filter (reaches c.args.mode c.args.end) counts c.args.sessions.now)
