-- The relation from what both paths share.
use Rattle.std.proofs.Common.{◌≡◌, length, sym, ◌∙◌, rules}
use Rattle.std.proofs.lemmas.List.{length-map}
use Rattle.repl_lsn.specs.Path.{step, IsSame}
use Rattle.repl_lsn.proofs.Relations.{same_shares_all}
use Rattle.repl_lsn.proofs.history.History.relation_to.Goals as goal
use Rattle.repl_lsn.proofs.history.History.relation_to.Goals.{else-eq-via-then-eq+else-eq-2, else-eq-via-else-eq}

pub returns-else-eq : goal.returns-else-eq
returns-else-eq c =
    let a = c.args.self.now in
    let b = c.args.other.now in
    let n = c.shared_parents-shared.result in
    let differ = c.shared_parents-shared.ensures in
    let apart = λ (same : IsSame a b).
    let all = same_shares_all a b n differ same.1 in
    let ours : length a.parents ≡ n = sym (length-map a.parents step) ∙ all.0 in
    let theirs : length b.parents ≡ n = sym (length-map b.parents step) ∙ all.1 in
    let own : a.own ≡ b.own = same.0 in
    elim c.else-eq.branch as (λ _. ⊥) [ else-eq-via-then-eq+else-eq-2 w ↦ search rules | else-eq-via-else-eq w ↦ search rules ] in
    (differ, apart, c.in_default.ensures, c.in_default-left_for.ensures)
