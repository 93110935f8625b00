-- What is printed is the canonical text.
use Rattle.std.proofs.Common.{◌≡◌, ◌^◌, ◌<◌, IfOk, string_bytes, subst, sym, arith}
use Rattle.std.proofs.lemmas.Grind.{common_steps}
use Rattle.std.proofs.lemmas.Result.{IfOk-weaker}
use Rattle.repl_lsn.specs.Position.{IsCanonical, position_text}
use Rattle.repl_lsn.proofs.Canonical.{position_text_canonical}
use Rattle.repl_lsn.proofs.position.Lsn.text.Goals as goal

pub returns-clause-canonical : goal.returns-clause-canonical
returns-clause-canonical c =
    let fits : c.args.self < 2 ^ 64 = omega arith in
    let exact : IfOk c.format.result (λ text. string_bytes text ≡ position_text c.args.self) = grind (arith, common_steps) in
    IfOk-weaker c.format.result (λ text. string_bytes text ≡ position_text c.args.self) (λ text.
    IsCanonical (string_bytes text) c.args.self)
    (λ text e. subst (λ bytes. IsCanonical bytes c.args.self) (sym e) (position_text_canonical c.args.self fits)) exact
