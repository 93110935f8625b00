-- The rule allows two passes to become one, which knows what both knew.
use Rattle.std.proofs.Common.{arith, sym, ap, ◌∙◌, subst}
use Rattle.repl_turn.specs.History.{Known, Joins}
use Rattle.repl_turn.specs.Rule.{joining}
use Rattle.repl_turn.proofs.Unions.{unites, merges}
use Rattle.repl_turn.proofs.Knowing.{known, joins_known, joined_pass}
use Rattle.repl_turn.proofs.turn.Turn.join.Goals as goal

pub join_seat-requires : goal.join_seat-requires
join_seat-requires g c =
    let sized = c.self.invariant in
    let turn = ap (λ t. t.table) (sym c.self.view_is) in (
      ap (λ p. p.turn.table) c.pass.view_is ∙ (ap (λ t. t.table) c.requires.first ∙ turn),
      ap (λ p. p.turn.table) c.other.view_is ∙ (ap (λ t. t.table) c.requires.second ∙ turn),
      c.other.invariant.2,
      omega (arith, sized.0),
      unites _ _ _ _ _ _ c.pass.invariant.1 c.other.invariant.1,
    )

pub load-requires : goal.load-requires
load-requires g c =
    let sized = c.self.invariant in
    let turn = ap (λ t. t.table) (sym c.self.view_is) in
    let j = c.join_seat.ensures in (
      j.0 ∙ (ap (λ p. p.turn.table) c.pass.view_is ∙ (ap (λ t. t.table) c.requires.first ∙ turn)),
      omega (arith, sized.0),
      merges _ _ _ _ _ _ _ (ap (λ m. m.0.stage) j.2),
    )

pub invariant_of-result : goal.invariant_of-result
invariant_of-result g c =
    let v = c.pass.inside.token.me.0 in
    let w = c.other.inside.token.me.0 in
    let j = c.join_seat.ensures.2 ∙ ap (λ l. (joining v w, l)) c.pass.invariant.2 in
    let taken = c.load.ensures.2 w.numbers w.seen (ap (λ m. m.0.stage) j) in
    let after = joined_pass g.M.Machine.steps v w _ _ _ _ j taken c.pass.invariant.0 c.other.invariant.0 c.pass.invariant.3 in
    (c.max.ensures ∙ after.0, after.1, after.2, after.3)

pub returns : goal.returns
returns g c =
    let v = c.pass.inside.token.me.0 in
    let w = c.other.inside.token.me.0 in
    let j = c.join_seat.ensures.2 ∙ ap (λ l. (joining v w, l)) c.pass.invariant.2 in
    let taken = c.load.ensures.2 w.numbers w.seen (ap (λ m. m.0.stage) j) in
    let opened = ap (λ p. p.turn.opening) c.pass.view_is ∙ (ap (λ t. t.opening) c.requires.first
    ∙ ap (λ t. t.opening) (sym c.self.view_is)) in
    subst (λ (z : Known g.row.M.Denot g.row.M-Event.Denot g.row.M-Reply.Denot
    × Known g.row.M.Denot g.row.M-Event.Denot g.row.M-Reply.Denot).
    Joins g.M.Machine.steps z.0 z.1 (known c.load.new.seat.table_id c.load.new.seat.me.0)) (λ i. (c.pass.view_is i, c.other.view_is i))
    (joins_known g.M.Machine.steps _ _ _ v w _ _ _ (c.load.ensures.0 ∙ c.join_seat.ensures.0) opened j taken)
