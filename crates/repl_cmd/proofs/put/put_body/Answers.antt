-- What `put_body` needs and ensures.
use Rattle.std.proofs.Common.{◌≡◌, ◌<◌, ◌++◌, ◌∷◌, [], ap, sym, ◌∙◌, rules, arith}
use Rattle.std.specs.List.{All}
use Rattle.std.proofs.lemmas.List.{append_assoc}
use Rattle.std.proofs.lemmas.List.Elements.{All-from_get_or}
use Rattle.hex.specs.Hex.{encode_lower}
use Rattle.repl_cmd.proofs.Quoting.{quoted_hex}
use Rattle.repl_cmd.proofs.put.put_body.Goals as goal

pub returns-clause-exact : goal.returns-clause-exact
returns-clause-exact c =
    let body = c.args.body.now in
    let small : All (λ b. b < 256) body = All-from_get_or (λ b. b < 256) body 0 (λ i within. omega (arith, c.type_inv.body i)) in
    let end : c.push-2.new.self.items ≡ c.args.out.now.items ++ 39 ∷ [] ++ encode_lower body ++ 39 ∷ [] = search rules in
    end
    ∙ append_assoc (c.args.out.now.items ++ 39 ∷ []) (encode_lower body) (39 ∷ [])
    ∙ append_assoc c.args.out.now.items (39 ∷ []) (encode_lower body ++ 39 ∷ [])
    ∙ ap (λ text. c.args.out.now.items ++ text) (sym (quoted_hex body small))
