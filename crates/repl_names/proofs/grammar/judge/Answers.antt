-- What `judge` needs and ensures.
use Rattle.std.proofs.Common.{sym, ◌∙◌}
use Rattle.repl_names.proofs.GrammarWalk.{goes_more, stops_at, stops_at_end, said_at_end, at_end}
use Rattle.repl_names.proofs.grammar.judge.Goals as goal

pub returns-in_default-clause-refused : goal.returns-in_default-clause-refused
returns-in_default-clause-refused c =
    stops_at c.args.tokens.now c.loop-index.index c.index-tokens-index.result c.loop-index.state c.loop-index.invariant
    c.loop-index-test.true (sym c.index-tokens-index.is) (sym c.next.ensures ∙ c.in_default.is)

pub loop-index-preserved : goal.loop-index-preserved
loop-index-preserved c =
    goes_more c.args.tokens.now c.loop-index.index c.index-tokens-index.result c.loop-index.state c.loop-index.invariant
    c.loop-index-test.true (sym c.index-tokens-index.is) ∙ sym c.next.ensures ∙ c.in-Some.is

pub returns-then-may_end-clause-said : goal.returns-then-may_end-clause-said
returns-then-may_end-clause-said c =
    said_at_end c.args.tokens.now c.loop-index.state
    (at_end c.args.tokens.now c.loop-index.index c.loop-index.state c.loop-index.invariant c.loop-index-test.false)
    (sym c.may_end.ensures ∙ c.if-may_end.true)

pub returns-else-may_end-clause-refused : goal.returns-else-may_end-clause-refused
returns-else-may_end-clause-refused c =
    stops_at_end c.args.tokens.now c.loop-index.state
    (at_end c.args.tokens.now c.loop-index.index c.loop-index.state c.loop-index.invariant c.loop-index-test.false)
    (sym c.may_end.ensures ∙ c.if-may_end.false)
