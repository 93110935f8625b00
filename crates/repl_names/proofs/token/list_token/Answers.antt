-- What `list_token` needs and ensures.
use Rattle.std.proofs.Common.{◌≡◌, ◌≢◌, sym, rules}
use Rattle.repl_text.specs.Text.{IsText}
use Rattle.repl_names.specs.declared.token.Kind.TheVariants as kind
use Rattle.repl_names.proofs.TokenKinds.{text_token, wrong_token}
use Rattle.repl_names.proofs.token.list_token.Goals as goal

pub returns-in-Some : goal.returns-in-Some
returns-in-Some c =
    let items = c.token.inside.text.items in
    let other : c.kind_of.result ≢ kind.Star = search rules in
    let texts : IsText items = search rules in
    let same : c.in-Some.text ≡ items = search rules in
    text_token c.args.token c.token.inside.kind c.token.inside.place items c.deref.result.now c.in-Some.text c.kind_of.result
    (sym c.token.view_is) c.deref.ensures.value c.kind_of.ensures other same texts

pub returns-in_ok-copied-in-None : goal.returns-in_ok-copied-in-None
returns-in_ok-copied-in-None c =
    let items = c.token.inside.text.items in
    let other : c.kind_of.result ≢ kind.Star = search rules in
    let none : ¬ IsText items = search rules in
    wrong_token c.args.token c.token.inside.kind c.token.inside.place items c.deref.result.now c.in_ok-copied-in-None.field-0
    c.kind_of.result (sym c.token.view_is) c.deref.ensures.value c.kind_of.ensures other c.in_ok-copied-in-None.ensures none
