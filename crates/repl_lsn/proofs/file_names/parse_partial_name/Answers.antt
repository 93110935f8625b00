-- What is read is named, and the first thing that is wrong.
use Rattle.std.proofs.Common.{ℕ, List, codes, sym, subst, ◌∙◌, inl}
use Rattle.std.proofs.lemmas.Result.{err_from_is_err_and}
use Rattle.repl_lsn.specs.Segment.{Names, IsNameFault}
use Rattle.repl_lsn.proofs.FileNames.{front_names, past_is, partial_read, past_tested}
use Rattle.repl_lsn.proofs.file_names.parse_partial_name.Goals as goal

pub returns-in_err-named-clause-only : goal.returns-in_err-named-clause-only
returns-in_err-named-clause-only c = λ tli seg n.
    let named : Names c.args.size c.split_name.result.0.now tli seg =
    subst (λ (front : List ℕ). Names c.args.size front tli seg) (sym c.split_name.ensures.front)
    (front_names c.args.size c.args.text.now tli seg c.parse_seg_name.ensures.size n) in
    let no = c.in_err-named.ensures.only tli seg named in
    absurd cc

pub returns-in_err-named-clause-refused : goal.returns-in_err-named-clause-refused
returns-in_err-named-clause-refused c =
    let exit = err_from_is_err_and c.from_residual.result c.from_residual.ensures.1 in
    rw (exit.1, exit.2) (inl (subst (λ (front : List ℕ). IsNameFault c.args.size front c.in_err-named.field-0.0.place)
    c.split_name.ensures.front c.in_err-named.ensures.refused))

pub returns-then-ne-clause-only : goal.returns-then-ne-clause-only
returns-then-ne-clause-only c = λ tli seg n.
    let differ = (past_tested c.split_name.result.1.now (codes ".partial") c.ne.result c.ne.ensures).0 c.if-ne.true in
    absurd (differ (c.split_name.ensures.past ∙ past_is c.args.size c.args.text.now tli seg c.parse_seg_name.ensures.size n))

pub returns-clause-read : goal.returns-clause-read
returns-clause-read c =
    let named = c.in_ok-named.named in
    let same = (past_tested c.split_name.result.1.now (codes ".partial") c.ne.result c.ne.ensures).1 c.if-ne.false in
    partial_read c.args.size c.args.text.now named.0 named.1 (subst (λ (front : List ℕ). Names c.args.size front named.0 named.1)
    c.split_name.ensures.front c.in_ok-named.ensures.read) (sym c.split_name.ensures.past ∙ same)

pub returns-clause-only : goal.returns-clause-only
returns-clause-only c = λ tli seg n.
    let named : Names c.args.size c.split_name.result.0.now tli seg =
    subst (λ (front : List ℕ). Names c.args.size front tli seg) (sym c.split_name.ensures.front)
    (front_names c.args.size c.args.text.now tli seg c.parse_seg_name.ensures.size n) in
    c.in_ok-named.ensures.only tli seg named
