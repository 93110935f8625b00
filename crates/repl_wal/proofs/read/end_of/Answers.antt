-- A timeline that was left was left for one, and what is no parent and not the own one is not on the path.
use Rattle.std.proofs.Common.{refl, subst, inl, inr}
use Rattle.repl_lsn.specs.Path.{IsEndOf, first_of}
use Rattle.repl_store.proofs.Backed.{apart_by}
use Rattle.repl_wal.proofs.read.end_of.Goals as goal

pub unreachable-requires : goal.unreachable-requires
unreachable-requires c =
    let e = c.in-Some-None.ensures in
    c.in-Some-None.ensures' (first_of c.args.path.now.own e.2) (e.0, e.1, e.2, e.3, e.4, refl)

pub returns-else-eq-clause-none : goal.returns-else-eq-clause-none
returns-else-eq-clause-none c =
    let none = subst (IsEndOf c.args.path.now c.args.tli) c.in-None-default.is-0 c.end_of.ensures in (
      refl,
      λ has. elim has [
        | inl own ↦ apart_by c.args.tli c.own.result c.args.tli c.args.path.now.own refl c.own.ensures c.if-eq.ensures own
        | inr left ↦ none left.0 left.1
      ],
    )
