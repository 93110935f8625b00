-- What `stop_all` needs and ensures.
use Rattle.std.proofs.Common.{◌≡◌, List, length, sym, ap, subst, ◌∙◌, arith}
use Rattle.std.specs.List.{AllZip}
use Rattle.std.proofs.lemmas.List.{with_items_is}
use Rattle.repl_sync.specs.declared.session.Entry.{Entry}
use Rattle.repl_sync.specs.State.{Session}
use Rattle.repl_sync.specs.Sync.{Releases}
use Rattle.repl_sync.specs.Inside.{Alike, AllStopped, sessions_of, state_of, with_sessions}
use Rattle.repl_sync.proofs.Sessions.{ready_alike, sessions_stopped, zip_stopped}
use Rattle.repl_sync.proofs.change.stop_all.Goals as goal

pub release-requires : goal.release-requires
release-requires c =
    let es = c.args.parts.now.entries in
    let news = c.stop_each.new.entries in
    let size : length news ≡ es.len = omega arith in
    let all : AllStopped es.items news = subst (λ (xs : List Entry). AllStopped xs news) c.deref_mut.ensures.value c.stop_each.ensures in
    ready_alike c.args.parts.now _ c.requires.ready
    (subst (λ (xs : List Entry). AllZip Alike es.items xs) (sym (with_items_is es news size)) (zip_stopped es.items news (omega arith) all))

pub returns-clause-stopped : goal.returns-clause-stopped
returns-clause-stopped c =
    let p = c.args.parts.now in
    let es = p.entries in
    let news = c.stop_each.new.entries in
    let size : length news ≡ es.len = omega arith in
    let all : AllStopped es.items news = subst (λ (xs : List Entry). AllStopped xs news) c.deref_mut.ensures.value c.stop_each.ensures in
    subst (λ (ss : List Session). Releases (with_sessions p ss) (state_of c.release.new.parts))
    (ap sessions_of (with_items_is es news size) ∙ sym (sessions_stopped es.items news (omega arith) all)) c.release.ensures.released
