-- What `next_token` needs and ensures.
use Rattle.std.proofs.Common.{ℕ, Bool, ◌+◌, ◌<◌, ◌≤◌, length, ap, ◌∙◌, rules}
use Rattle.std.proofs.lemmas.List.{take_rest}
use Rattle.std.specs.List.{prefix_len}
use Rattle.repl_token.specs.Class.{is_blank}
use Rattle.repl_token.proofs.Steps.{all_blank, no_blank, next_from}
use Rattle.repl_token.proofs.token.next_token.Goals as goal

pub returns-then-is_empty-clause-read : goal.returns-then-is_empty-clause-read
returns-then-is_empty-clause-read g c =
    let test : ℕ → Bool = λ b. is_blank (g.L.Lexicon.class_of b) in
    let e = ap (λ n. c.args.at + n) c.blanks.ensures.count
    ∙ ap (λ rest. c.args.at + prefix_len test rest) (take_rest c.args.text.now c.args.at) in
    let t = c.if-is_empty.ensures in
    let past : length c.args.text.now ≤ c.args.at + c.blanks.result = search rules in
    all_blank g.L.Lexicon.class_of c.args.text.now c.args.at (c.args.at + c.blanks.result) c.requires e past

pub token_at-requires-clause-no_blank : goal.token_at-requires-clause-no_blank
token_at-requires-clause-no_blank g c =
    let test : ℕ → Bool = λ b. is_blank (g.L.Lexicon.class_of b) in
    let e = ap (λ n. c.args.at + n) c.blanks.ensures.count
    ∙ ap (λ rest. c.args.at + prefix_len test rest) (take_rest c.args.text.now c.args.at) in
    let inside : c.args.at + c.blanks.result < length c.args.text.now = search rules in
    no_blank g.L.Lexicon.class_of c.args.text.now c.args.at (c.args.at + c.blanks.result) c.requires e inside

pub returns-clause-read : goal.returns-clause-read
returns-clause-read g c =
    let test : ℕ → Bool = λ b. is_blank (g.L.Lexicon.class_of b) in
    let e = ap (λ n. c.args.at + n) c.blanks.ensures.count
    ∙ ap (λ rest. c.args.at + prefix_len test rest) (take_rest c.args.text.now c.args.at) in
    let found = c.in_ok-token.ensures in
    next_from g.L.Lexicon.class_of c.args.text.now c.args.at c.in_ok-token.token
    (c.args.at + c.blanks.result) c.in_ok-token.size e found.place found.is
