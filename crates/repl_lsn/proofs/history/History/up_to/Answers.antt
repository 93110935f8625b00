-- The parts before the one with the number are a path, and the path up to it.
use Rattle.std.proofs.Common.{◌≡◌, take, sym, subst, ap, ◌∙◌, ⊎_elim, Bool, true, false}
use Rattle.std.proofs.lemmas.Bool.{eq-eqb}
use Rattle.repl_lsn.specs.History.{InOrder, Path}
use Rattle.repl_lsn.proofs.Holders.{stands_in_order, stands_up_to}
use Rattle.repl_lsn.proofs.history.History.up_to.Goals as goal

true_false : (b : Bool) → b ≡ true → b ≡ false → ⊥
true_false b p q = cc

pub returns-in_default : goal.returns-in_default
returns-in_default c =
    λ h. ⊎_elim
    (λ own. let same = eq-eqb c.args.tli c.own.result (own ∙ sym c.own.ensures) in absurd (true_false c.eq.result (c.eq.ensures
    ∙ same) c.if-eq.false))
    (λ ends. c.in_default.ensures ends.0 ends.1)
    h

pub of-requires : goal.of-requires
of-requires c =
    let path = c.args.self.now in
    let before : c.new.result ≡ take c.in-Some.place path.parents = c.new.ensures ∙ c.in_ok-before.ensures
    ∙ ap (take c.in-Some.place) (c.as_slice.ensures ∙ c.parents.ensures.value) in
    subst (InOrder c.args.tli) (sym before) (stands_in_order path c.args.tli c.in-Some.place c.parents.ensures.path c.in-Some.ensures.0)

pub returns : goal.returns
returns c =
    let path = c.args.self.now in
    let before : c.new.result ≡ take c.in-Some.place path.parents = c.new.ensures ∙ c.in_ok-before.ensures
    ∙ ap (take c.in-Some.place) (c.as_slice.ensures ∙ c.parents.ensures.value) in
    stands_up_to path c.of.result c.args.tli c.in-Some.place c.in-Some.ensures.0 (ap (λ (h : Path). h.own) c.of.ensures)
    (ap (λ (h : Path). h.parents) c.of.ensures ∙ before)
