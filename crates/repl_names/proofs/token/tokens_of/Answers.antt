-- What `tokens_of` needs and ensures.
use Rattle.std.proofs.Common.{◌≤◌, List, [], ◌∷◌, ◌++◌, length, drop, sym, ap, subst, ◌∙◌, rules}
use Rattle.repl_token.specs.Token.{Reads, IsNext}
use Rattle.repl_token.proofs.Leading.{Leads, leads_none, leads_more, leads_all}
use Rattle.repl_names.specs.declared.token.Token.{Token}
use Rattle.repl_names.specs.Token.{list_class, list_token}
use Rattle.repl_names.proofs.token.tokens_of.Goals as goal

pub loop-tokens-init : goal.loop-tokens-init
loop-tokens-init c = subst (λ (tokens : List Token). Leads list_class list_token c.args.text.now tokens 0) (sym c.new-tokens.ensures.items)
    (leads_none list_class list_token c.args.text.now)

pub loop-tokens-preserved : goal.loop-tokens-preserved
loop-tokens-preserved c =
    let text = c.args.text.now in
    let end = c.in-Some.end in
    let next : IsNext list_class c.loop-tokens.at (drop c.loop-tokens.at text) c.in-Some.token (drop end text) =
    rw c.in-Some.is at c.in_ok-token.ensures.read in
    let within : end ≤ length text = search rules in
    subst (λ (tokens : List Token). Leads list_class list_token text tokens end)
    (sym (c.in_ok-push.ensures.items ∙ ap (λ (own : Token). c.loop-tokens.tokens.items ++ own ∷ []) c.in_ok-list_token.ensures))
    (leads_more list_class list_token text c.loop-tokens.tokens.items c.loop-tokens.at c.in-Some.token end c.loop-tokens.invariant next
    within)

pub returns : goal.returns
returns c =
    let reads : Reads list_class c.loop-tokens.at (drop c.loop-tokens.at c.args.text.now) [] =
    rw c.in_default.is at c.in_ok-token.ensures.read in
    leads_all list_class list_token c.args.text.now c.loop-tokens.tokens.items c.loop-tokens.at c.loop-tokens.invariant reads
