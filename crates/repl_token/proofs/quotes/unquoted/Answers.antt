-- What `unquoted` needs and ensures.
use Rattle.std.proofs.Common.{◌≡◌, ◌≢◌, ℕ, ◌+◌, ◌<◌, List, ◌∷◌, [], ◌++◌, length, get_or, take, drop, position, eqb, sym, subst, ap, ◌∙◌, rules}
use Rattle.std.proofs.lemmas.List.{take_rest}
use Rattle.repl_token.specs.Token.{IsQuoted}
use Rattle.repl_token.proofs.Quoting.{ReadsQuoted, reads_opening, reads_to_quote, reads_closing, reads_pair, reads_unclosed, no_quote}
use Rattle.repl_token.proofs.quotes.unquoted.Goals as goal

pub loop-size-init : goal.loop-size-init
loop-size-init c =
    subst (ReadsQuoted c.args.quote c.args.rest.now 1) (sym c.new-text.ensures.items)
    (reads_opening c.args.quote c.args.rest.now c.requires.some c.requires.begins)

pub returns-then-ne-clause-is : goal.returns-then-ne-clause-is
returns-then-ne-clause-is c =
    let quote = c.args.quote in
    let bytes = c.args.rest.now in
    let from = c.loop-size.from in
    let n = c.in-Some.size in
    let h = reads_to_quote quote bytes from c.loop-size.text.items n c.loop-size.invariant
    (ap (position (λ x. eqb x quote)) (sym (take_rest bytes from)) ∙ sym c.in-Some.ensures) in
    let ends : from + n + 1 < length bytes → get_or bytes (from + n + 1) 0 ≢ quote = search rules in
    subst (λ (text : List ℕ). IsQuoted quote text (take (from + n + 1) bytes) (drop (from + n + 1) bytes))
    (sym c.in_ok-extend_from_slice.ensures.items)
    (reads_closing quote bytes (from + n) _ h.0 h.1 h.2 ends)

pub loop-size-preserved : goal.loop-size-preserved
loop-size-preserved c =
    let quote = c.args.quote in
    let bytes = c.args.rest.now in
    let from = c.loop-size.from in
    let n = c.in-Some.size in
    let h = reads_to_quote quote bytes from c.loop-size.text.items n c.loop-size.invariant
    (ap (position (λ x. eqb x quote)) (sym (take_rest bytes from)) ∙ sym c.in-Some.ensures) in
    let within : from + n + 1 < length bytes = search rules in
    let second : get_or bytes (from + n + 1) 0 ≡ quote = search rules in
    subst (ReadsQuoted quote bytes (from + n + 2)) (sym (c.in_ok-push.ensures.items
    ∙ ap (λ (text : List ℕ). text ++ quote ∷ []) c.in_ok-extend_from_slice.ensures.items))
    (reads_pair quote bytes (from + n) _ h.0 within h.2 second)

pub returns-clause-is : goal.returns-clause-is
returns-clause-is c =
    let quote = c.args.quote in
    let bytes = c.args.rest.now in
    let from = c.loop-size.from in
    reads_unclosed quote bytes from _ c.loop-size.invariant (no_quote quote (drop from bytes)
    (ap (position (λ x. eqb x quote)) (sym (take_rest bytes from)) ∙ sym c.in_default.ensures))
