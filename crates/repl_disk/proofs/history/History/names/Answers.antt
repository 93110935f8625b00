-- The names are those of the files that are there, in order.
use Rattle.std.proofs.Common.{◌≡◌, map, string_bytes, rules, subst}
use Rattle.repl_disk.proofs.history.History.names.Goals as goal
use Rattle.repl_disk.proofs.Listing.{are_names, names_of}
use Rattle.repl_disk.specs.Files.{folder_of}
use Rattle.repl_disk.specs.Folder.{AreNames}
use Rattle.repl_disk.specs.Memory.{Held}

pub returns : goal.returns
returns c =
    let listed : map string_bytes c.in_ok-names.field-0.items ≡ names_of c.self.inside.files.items = search rules in
    subst (λ (h : Held). AreNames (folder_of h.files) (map string_bytes c.in_ok-names.field-0.items)) c.self.view_is
    (are_names c.self.inside.files.items (map string_bytes c.in_ok-names.field-0.items) c.self.invariant.0 listed)
