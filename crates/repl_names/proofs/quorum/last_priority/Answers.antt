-- What `last_priority` needs and ensures.
use Rattle.std.proofs.Common.{◌+◌, ◌-◌, ◌≤◌, ◌/◌, arith}
use Rattle.std.proofs.lemmas.List.Elements.{All-filter}
use Rattle.repl_names.proofs.Ranks.{up_to_all, up_to_rises}
use Rattle.repl_names.specs.declared.quorum.Candidate.{Candidate}
use Rattle.repl_names.specs.Quorum.{candidates, counts}
use Rattle.repl_names.proofs.quorum.last_priority.Goals as goal

pub loop-low-init : goal.loop-low-init
loop-low-init c =
    let greatest = c.greatest_priority-high.result in
    let bounded = All-filter counts (λ (d : Candidate). d.priority ≤ greatest) c.args.sessions.now c.greatest_priority-high.ensures in
    let all = up_to_all greatest (candidates c.args.sessions.now) bounded in
    record {
      ordered = omega arith;
      enough = omega arith;
      fewer = λ earlier h. omega arith;
    }

pub loop-low-preserved : goal.loop-low-preserved
loop-low-preserved c = record {
  ordered = omega arith;
  enough = c.loop-low.invariant.enough;
  fewer = λ earlier h.
      let rises = up_to_rises earlier (c.loop-low.low + (c.loop-low.high - c.loop-low.low) / 2) (candidates c.args.sessions.now)
      (omega arith) in
      omega (arith, c.candidates_up_to.ensures);
}
