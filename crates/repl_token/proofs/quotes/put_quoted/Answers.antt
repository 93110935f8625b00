-- What `put_quoted` needs and ensures.
use Rattle.std.proofs.Common.{◌≡◌, ◌+◌, ◌++◌, ◌∷◌, [], take, sym, ◌∙◌, rules, arith}
use Rattle.std.proofs.lemmas.List.{length-drop, take_rest}
use Rattle.repl_token.proofs.Quoting.{before_quote}
use Rattle.repl_token.proofs.Printing.{quote_step, quote_end}
use Rattle.repl_token.proofs.quotes.put_quoted.Goals as goal

pub overflow_add-place : goal.overflow_add-place
overflow_add-place c =
    let within = (before_quote c.args.quote c.loop-place.rest.now c.in-Some.place (sym c.in-Some.ensures)).0 in
    search (rules, within)

pub loop-place-preserved : goal.loop-place-preserved
loop-place-preserved c =
    let rest = c.loop-place.rest.now in
    let n = c.in-Some.place in
    let next : c.push-in-Some.new.self.items ≡ c.loop-place.out.items ++ take (n + 1) rest ++ c.args.quote ∷ [] = search rules in
    rw (take_rest rest (n + 1)) (record {
      within = omega (arith, length-drop (n + 1) rest, c.loop-place.invariant.within);
      spelled = quote_step c.args.quote _ c.loop-place.out.items _ rest n (sym c.in-Some.ensures) c.loop-place.invariant.spelled next;
    })

pub returns : goal.returns
returns c =
    let rest = c.loop-place.rest.now in
    let end : c.push-2.new.self.items ≡ c.loop-place.out.items ++ rest ++ c.args.quote ∷ [] = search rules in
    end ∙ quote_end c.args.quote c.args.out.now.items c.args.text.now c.loop-place.out.items rest
    (sym c.in_default.ensures) c.loop-place.invariant.spelled
