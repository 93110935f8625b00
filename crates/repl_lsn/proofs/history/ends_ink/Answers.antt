-- The last byte decides.
use Rattle.std.proofs.Common.{◌≡◌, ◌<◌, ◌-◌, not, length, get_or, ap, sym, ◌∙◌}
use Rattle.std.proofs.lemmas.Bool.{not-true}
use Rattle.repl_lsn.specs.Line.{is_blank}
use Rattle.repl_lsn.proofs.Inks.{ends_from_last, last_from_ends}
use Rattle.repl_lsn.proofs.history.ends_ink.Goals as goal

pub returns-in-Some : goal.returns-in-Some
returns-in-Some c =
    let bytes = c.args.bytes.now in
    let item = c.in-Some.ensures.item in
    let some : 0 < length bytes = item.3.0 in
    let last : c.is_blank.result ≡ is_blank (get_or bytes (length bytes - 1) 0) = c.is_blank.ensures ∙ ap is_blank (item.3.1 0) in
    (λ e. ends_from_last bytes (λ l. sym last ∙ not-true c.is_blank.result e), λ h. ap not (last ∙ last_from_ends bytes h some))
