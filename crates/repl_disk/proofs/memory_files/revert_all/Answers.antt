-- With all writes taken back, the files are those that are certain.
use Rattle.std.proofs.Common.{◌≡◌, ◌∙◌, ap, map, filter, List, rules}
use Rattle.std.proofs.lemmas.Fn.{filter_same}
use Rattle.repl_disk.specs.Stored.{Stored, reverted, is_kept}
use Rattle.repl_disk.proofs.memory_files.revert_all.Goals as goal

pub returns : goal.returns
returns c =
    let kept : c.retain.new.self.items ≡ filter is_kept c.args.files.now.items = filter_same _ is_kept _
    (λ x b f called. search rules) c.args.files.now.items c.retain.new.self.items c.retain.ensures.filtered in
    c.revert_each.ensures ∙ ap (λ (l : List Stored). map reverted l) kept
