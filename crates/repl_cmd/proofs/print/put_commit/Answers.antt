-- What `put_commit` needs and ensures.
use Rattle.std.proofs.Common.{◌++◌, codes, cond, is_ok, ap, ◌∙◌}
use Rattle.repl_names.specs.Setting.{setting_word}
use Rattle.repl_cmd.proofs.Appending.{and_last, slice_last}
use Rattle.repl_cmd.proofs.print.put_commit.Goals as goal

pub returns-clause-exact : goal.returns-clause-exact
returns-clause-exact c =
    let r = c.extend_from_slice-2.result in
    let middle = c.extend_from_slice.new.self.items in
    let word = setting_word c.args.setting in
    let put = slice_last r middle word _ (c.extend_from_slice-2.ensures.items
    ∙ ap (λ bytes. cond (is_ok r) (middle ++ bytes) middle) c.word.ensures) in
    and_last r c.args.out.now.items (codes "SET synchronous_commit = ") middle word _ c.in_ok-extend_from_slice.ensures.items put
