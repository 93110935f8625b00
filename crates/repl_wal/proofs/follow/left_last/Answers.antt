-- The last parent stands after as many as the path has.
use Rattle.std.proofs.Common.{rules, ◌≡◌, ◌+◌, ◌-◌, ℕ, List, length, get_or, sym, ap, ◌∙◌, arith}
use Rattle.repl_lsn.proofs.Order.{last_is}
use Rattle.repl_lsn.specs.History.{last_switch}
use Rattle.repl_lsn.specs.declared.history.Part.{Part}
use Rattle.repl_wal.proofs.Children.{one_more_by}
use Rattle.repl_wal.proofs.follow.left_last.Goals as goal

pub returns-in-Some : goal.returns-in-Some
returns-in-Some c =
    let path = c.args.path.now in
    let child = c.args.child.now in
    let parts = c.as_slice-parents.result.now in
    let last = c.in-Some.last.now in
    let item = c.in-Some.ensures.item in
    let its : parts ≡ child.parents = c.as_slice-parents.ensures ∙ c.parents.ensures.value in
    let ours : c.as_slice.result.now ≡ path.parents = c.as_slice.ensures ∙ c.parents-2.ensures.value in
    let counted : length parts ≡ length c.as_slice.result.now + 1 = omega arith in
    let long : length child.parents ≡ length path.parents + 1 = omega (arith, counted, ap length its, ap length ours) in
    let count : length parts - 1 ≡ length path.parents = omega (arith, counted, ap length ours) in
    let place : last ≡ get_or child.parents (length path.parents) last = item.1
    ∙ ap (λ (ps : List Part). get_or ps (length parts - 1) last) its
    ∙ ap (λ (k : ℕ). get_or child.parents k last) count in
    let own : last.tli ≡ path.own = search rules in (
      one_more_by path child last long place own,
      ap (λ (p : Part). p.switch) item.1 ∙ sym (last_is parts last (omega (arith, counted))).1 ∙ ap last_switch its,
    )
