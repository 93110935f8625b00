-- What `forget` needs and ensures.
use Rattle.std.proofs.Common.{List, refl, sym, ap, subst, ◌∙◌, arith}
use Rattle.repl_sync.specs.State.{Session}
use Rattle.repl_sync.specs.Sync.{Releases}
use Rattle.repl_sync.specs.Inside.{sessions_of, state_of, with_sessions}
use Rattle.repl_sync.proofs.Sessions.{filter_at, known_at, known_not, ready_gone}
use Rattle.repl_sync.proofs.Places.{Placed, at_place, no_place}
use Rattle.repl_sync.proofs.change.forget.Goals as goal

pub returns-in_default-clause-forgotten : goal.returns-in_default-clause-forgotten
returns-in_default-clause-forgotten c = (
  known_not c.args.parts.now.entries.items c.args.session
      (no_place c.args.session c.place_of.result c.deref.result.now c.args.parts.now.entries.items c.in_default.is c.deref.ensures.value
      c.place_of.ensures),
  refl,
)

pub release-requires : goal.release-requires
release-requires c = ready_gone c.args.parts.now c.remove-gone.new.self c.in-Some.place c.requires.ready c.remove-gone.ensures.items
    (omega (arith, c.remove-gone.ensures.len))

pub returns-clause-forgotten : goal.returns-clause-forgotten
returns-clause-forgotten c =
    let p = c.args.parts.now in
    let es = p.entries.items in
    let n = c.args.session in
    let placed : Placed n c.in-Some.place es =
    at_place n c.place_of.result c.in-Some.place c.deref.result.now es c.in-Some.is c.deref.ensures.value c.place_of.ensures in (
      known_at es c.in-Some.place n placed.0 placed.1,
      subst (λ (ss : List Session). Releases (with_sessions p ss) (state_of c.release.new.parts))
          (ap sessions_of c.remove-gone.ensures.items ∙ sym (filter_at es c.in-Some.place n c.requires.ready.differ placed.0 placed.1))
          c.release.ensures.released,
    )
