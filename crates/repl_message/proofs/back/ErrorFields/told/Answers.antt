-- None of the four codes is 0.
use Rattle.std.proofs.Common.{◌≡◌, sym, subst, arith, rules}
use Rattle.std.proofs.lemmas.Grind.{common_steps}
use Rattle.repl_message.specs.Lists.{AreCoded, told}
use Rattle.repl_message.proofs.Told.{told_coded}
use Rattle.repl_message.proofs.back.ErrorFields.told.Goals as goal

pub unreachable-requires : goal.unreachable-requires
unreachable-requires c =
    let is : c.push-4.new.self.items ≡ told c.args.severity c.args.code c.args.text = first_of (search rules, grind (arith, common_steps))
    in
    let coded = subst AreCoded (sym is) (told_coded c.args.severity c.args.code c.args.text) in
    absurd (let e = c.in-None.ensures.taken.1 coded in cc)
