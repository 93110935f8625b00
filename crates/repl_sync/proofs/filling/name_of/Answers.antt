-- What `name_of` ensures.
use Rattle.std.proofs.Common.{true, false, sym, ◌∙◌, eq-eqb}
use Rattle.std.proofs.lemmas.Bool.{ne_eqb}
use Rattle.repl_sync.proofs.Names.{name_step}
use Rattle.repl_sync.proofs.filling.name_of.Goals as goal

pub loop-entry-preserved : goal.loop-entry-preserved
loop-entry-preserved c =
    let e = c.entry-item.result in
    sym (name_step c.args.entries.now c.loop-entry.entry-index e c.args.session false c.loop-entry-test.true c.entry-item.is
    (ne_eqb e.candidate.session c.args.session c.if-entry-session.false)) ∙ c.loop-entry.invariant

pub returns-then-entry-session-clause-value : goal.returns-then-entry-session-clause-value
returns-then-entry-session-clause-value c =
    let e = c.entry-item.result in
    c.as_slice.ensures.value
    ∙ sym (name_step c.args.entries.now c.loop-entry.entry-index e c.args.session true c.loop-entry-test.true c.entry-item.is
    (eq-eqb e.candidate.session c.args.session c.if-entry-session.true)) ∙ c.loop-entry.invariant
