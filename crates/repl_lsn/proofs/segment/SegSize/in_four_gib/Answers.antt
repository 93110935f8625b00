-- Sizes divide 2 ^ 32.
use Rattle.std.proofs.Common.{◌≡◌, ◌*◌, ◌/◌, ◌^◌, ◌≤◌, subst, sym, ◌∙◌}
use Rattle.repl_lsn.specs.Segment.{IsSegSize}
use Rattle.repl_lsn.proofs.Sizes.{four_gib_whole, four_gib_few}
use Rattle.repl_lsn.proofs.segment.SegSize.in_four_gib.Goals as goal

pub returns-clause-whole : goal.returns-clause-whole
returns-clause-whole c =
    let size = subst IsSegSize c.self.view_is c.self.invariant in
    subst (λ n. 2 ^ 32 / n * c.args.self ≡ 2 ^ 32) (sym (c.from.ensures ∙ c.self.view_is)) (four_gib_whole c.args.self size)

pub returns-clause-few : goal.returns-clause-few
returns-clause-few c = subst (λ n. 2 ^ 32 / n ≤ 4096) (sym c.from.ensures) (four_gib_few c.self.inside.0 c.self.invariant)
