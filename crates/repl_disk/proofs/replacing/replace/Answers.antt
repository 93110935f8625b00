-- The temporary name is not the name itself.
use Rattle.std.proofs.Common.{◌≡◌, ◌∙◌, rules}
use Rattle.repl_disk.specs.Replacing.{temporary}
use Rattle.repl_disk.proofs.Aside.{temporary_differs}
use Rattle.repl_disk.proofs.replacing.replace.Goals as goal

pub replace_by-requires : goal.replace_by-requires
replace_by-requires g c =
    let named : c.deref.result.now ≡ temporary c.args.name.now = search rules in
    λ same. temporary_differs c.args.name.now (same ∙ named)
