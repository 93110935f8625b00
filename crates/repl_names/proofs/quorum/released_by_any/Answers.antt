-- What `released_by_any` needs and ensures.
use Rattle.std.proofs.Common.{◌-◌, ◌<◌, ◌/◌, arith}
use Rattle.std.proofs.lemmas.List.Elements.{All-filter}
use Rattle.repl_names.proofs.Quorums.{reach_falls, reach_zero, reach_none}
use Rattle.repl_names.specs.declared.quorum.Candidate.{Candidate}
use Rattle.repl_names.specs.Quorum.{candidates, counts, position}
use Rattle.repl_names.proofs.quorum.released_by_any.Goals as goal

pub loop-low-init : goal.loop-low-init
loop-low-init c =
    let all = reach_zero c.args.mode (candidates c.args.sessions.now) in
    record {
      ordered = omega arith;
      met = omega arith;
      missed = λ later h.
          let below = All-filter counts (λ (c' : Candidate). position c.args.mode c' < later) c.args.sessions.now
          (λ k d l. let p = c.greatest_position-high.ensures k d l in omega arith) in
          let none = reach_none c.args.mode later (candidates c.args.sessions.now) below in
          omega arith;
    }

pub loop-low-preserved : goal.loop-low-preserved
loop-low-preserved c = record {
  ordered = omega arith;
  met = c.loop-low.invariant.met;
  missed = λ later h.
      let falls = reach_falls c.args.mode (c.loop-low.high - (c.loop-low.high - c.loop-low.low) / 2) later (candidates c.args.sessions.now)
      (omega arith) in
      omega (arith, c.candidates_at.ensures);
}
