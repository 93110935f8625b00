-- Of nothing nothing was found.
use Rattle.std.proofs.Common.{◌∙◌, sym, subst}
use Rattle.repl_lsn.specs.Segment.{IsSegSize}
use Rattle.repl_page.specs.declared.ident.Ident.{Ident}
use Rattle.repl_check.proofs.Stages.{judged_new}
use Rattle.repl_check.proofs.log_check.LogCheck.new.Goals as goal

pub returns-clause-judged : goal.returns-clause-judged
returns-clause-judged c timeline =
    let found = c.ident-2 in
    judged_new found.result timeline c.args.floor c.new-walker.result (subst (λ (i : Ident). IsSegSize i.size) (c.ident.ensures
    ∙ sym found.ensures) c.bytes-size.ensures.size) c.requires.page (sym found.ensures) (c.new-walker.ensures.stands timeline)
