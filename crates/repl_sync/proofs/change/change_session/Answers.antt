-- What `change_session` needs and ensures.
use Rattle.std.proofs.Common.{◌≡◌, List, refl, sym, ap, subst, ◌∙◌}
use Rattle.repl_sync.specs.declared.session.Entry.{Entry}
use Rattle.repl_sync.specs.State.{Session}
use Rattle.repl_sync.specs.Sync.{Releases}
use Rattle.repl_sync.specs.Inside.{effect, state_of, with_sessions}
use Rattle.repl_sync.proofs.Sessions.{alike_set, changed_at, known_at, known_not, ready_alike}
use Rattle.repl_sync.proofs.Places.{Placed, at_place, no_place}
use Rattle.repl_sync.proofs.change.change_session.Goals as goal

pub returns-in_default-clause-changed : goal.returns-in_default-clause-changed
returns-in_default-clause-changed c = (
  known_not c.args.parts.now.entries.items c.args.session
      (no_place c.args.session c.place_of.result c.deref.result.now c.args.parts.now.entries.items c.in_default.is c.deref.ensures.value
      c.place_of.ensures),
  refl,
)

pub release-requires : goal.release-requires
release-requires c = ready_alike c.args.parts.now _ c.requires.ready
    (alike_set c.args.parts.now.entries.items c.in-Some.place c.index_mut.result.now c.change.new.self c.requires.ready.resting
    c.index_mut.ensures.value c.change.ensures.alike)

pub returns-clause-changed : goal.returns-clause-changed
returns-clause-changed c =
    let p = c.args.parts.now in
    let es = p.entries.items in
    let n = c.args.session in
    let e = c.index_mut.result.now in
    let placed : Placed n c.in-Some.place es =
    at_place n c.place_of.result c.in-Some.place c.deref.result.now es c.in-Some.is c.deref.ensures.value c.place_of.ensures in
    let same : e.candidate.session ≡ n = ap (λ (x : Entry). x.candidate.session) c.index_mut.ensures.value ∙ placed.1 e in (
      known_at es c.in-Some.place n placed.0 placed.1,
      subst (λ (ss : List Session). Releases (with_sessions p ss) (state_of c.release.new.parts))
          (sym (changed_at es c.in-Some.place e c.change.new.self n (effect c.args.change) c.requires.ready.differ placed.0
          c.index_mut.ensures.value
          same c.change.ensures.changed)) c.release.ensures.released,
    )
