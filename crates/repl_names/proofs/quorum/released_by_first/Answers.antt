-- What `released_by_first` needs and ensures.
use Rattle.std.proofs.Common.{◌≡◌, ◌<◌, ◌&&◌, length, filter, map, min, unwrap_or, arith, sym, ap, subst, ◌∙◌}
use Rattle.std.specs.List.{reduce}
use Rattle.std.proofs.lemmas.List.Sums.{length-filter}
use Rattle.repl_names.proofs.Quorums.{filter_filter}
use Rattle.repl_names.proofs.Ranks.{IsLast, IsLeast, least_of, first_met, first_missed}
use Rattle.repl_names.specs.declared.quorum.Candidate.{Candidate}
use Rattle.repl_names.specs.Order.{is_within}
use Rattle.repl_names.specs.Quorum.{candidates, counts, position}
use Rattle.repl_names.proofs.quorum.released_by_first.Goals as goal

last : (c : goal.After-unwrap_or) → IsLast c.args.number c.last_priority-priority.result c.last_session-session.result
    (candidates c.args.sessions.now)
last c = record {
  enough = c.last_session-session.ensures.enough;
  no_better = c.last_priority-priority.ensures.least;
  no_older = c.last_session-session.ensures.least;
}

least : (c : goal.After-unwrap_or) → IsLeast (position c.args.mode) (filter
    (is_within c.last_priority-priority.result c.last_session-session.result) (candidates c.args.sessions.now)) c.unwrap_or.result
least c =
    let test = is_within c.last_priority-priority.result c.last_session-session.result in
    let m = c.args.mode in
    let kept = filter test (candidates c.args.sessions.now) in
    let together : kept ≡ filter (λ (d : Candidate). counts d && test d) c.args.sessions.now =
    filter_filter test counts c.args.sessions.now in
    let some : 0 < length kept =
    omega (arith, length-filter test (candidates c.args.sessions.now), c.last_session-session.ensures.enough) in
    let is : c.unwrap_or.result ≡ unwrap_or (reduce min (map (position m) kept)) 0 =
    c.unwrap_or.ensures ∙ ap (λ o. unwrap_or o 0) (c.least_position.ensures ∙ ap (λ cs. reduce min (map (position m) cs)) (sym together)) in
    subst (λ n. IsLeast (position m) kept n) (sym is) (least_of (position m) kept some)

pub returns-clause-met : goal.returns-clause-met
returns-clause-met c =
    first_met (candidates c.args.sessions.now) c.args.mode c.args.number c.last_priority-priority.result c.last_session-session.result
    c.unwrap_or.result (last c) (least c)

pub returns-clause-greatest : goal.returns-clause-greatest
returns-clause-greatest c = λ later h.
    first_missed (candidates c.args.sessions.now) c.args.mode c.args.number c.last_priority-priority.result c.last_session-session.result
    c.unwrap_or.result later (last c) c.requires.some (least c) h
