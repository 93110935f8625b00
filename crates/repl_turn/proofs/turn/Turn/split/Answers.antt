-- The rule allows a split, and the new half gets a number that nobody had.
use Rattle.std.proofs.Common.{arith, sym, ap, ◌∙◌, subst}
use Rattle.repl_turn.specs.History.{Known, Splits}
use Rattle.repl_turn.proofs.Knowing.{known, splits_known}
use Rattle.repl_turn.proofs.Halves.{halves, christens}
use Rattle.repl_turn.proofs.turn.Turn.split.Goals as goal

pub split_seat-other-requires : goal.split_seat-other-requires
split_seat-other-requires g c =
    let sized = c.self.invariant in (
      ap (λ p. p.turn.table) c.pass.view_is ∙ (ap (λ t. t.table) c.requires ∙ ap (λ t. t.table) (sym c.self.view_is)),
      omega (arith, sized.0),
      halves _ _ _ _,
    )

pub load-requires : goal.load-requires
load-requires g c =
    let sized = c.self.invariant in
    let cut = c.split_seat-other.ensures in (
      cut.3 ∙ (ap (λ p. p.turn.table) c.pass.view_is ∙ (ap (λ t. t.table) c.requires ∙ ap (λ t. t.table) (sym c.self.view_is))),
      omega (arith, sized.0),
      christens _ _ _ _ _ c.pass.inside.token.me.0.numbers (ap (λ m. m.0.stage) cut.4),
    )

pub returns-clause-second : goal.returns-clause-second
returns-clause-second g c =
    let v = c.pass.inside.token.me.0 in
    let cut = c.split_seat-other.ensures in
    let named = c.load.ensures.2 v.numbers (ap (λ m. m.0.stage) cut.4) in
    subst (λ (p : Known g.row.M.Denot g.row.M-Event.Denot g.row.M-Reply.Denot). Splits p
    (known c.load.new.seat.table_id c.load.new.seat.me.0)) c.pass.view_is
    (splits_known c.pass.inside.token.table_id _ v _ _ named.0 (c.load.ensures.0 ∙ cut.3) cut.4 c.pass.invariant.3 named.1 named.2 named.3)
