-- The names are those of the files that are there.
use Rattle.std.proofs.Common.{◌≡◌, List, String, Global, map, string_bytes, vec_items, subst, rules}
use Rattle.repl_store.specs.Durable.{IsKnown}
use Rattle.repl_store.specs.Numbers.{IsGreatest}
use Rattle.repl_store.proofs.Hearing.{known_of_names}
use Rattle.repl_store.proofs.Mounting.{told_map}
use Rattle.repl_store.proofs.known.listed.Goals as goal

pub returns-in-Ok-clause-known : goal.returns-in-Ok-clause-known
returns-in-Ok-clause-known g c =
    let same : c.deref.result.now ≡ vec_items c.in-Ok.names = search rules in
    let P : List (String Global) → Type 0 = λ l. IsGreatest c.args.own (map string_bytes l) c.greatest.result in
    let is = subst P same c.greatest.ensures in
    told_map (g.D.Disk.state c.args.disk.now).files _ (λ folder. IsKnown folder c.args.own c.greatest.result)
    (λ folder are. known_of_names folder c.args.own c.greatest.result _ are is) c.in-Ok.ensures.names
