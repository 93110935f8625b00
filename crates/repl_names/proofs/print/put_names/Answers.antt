-- What `put_names` needs and ensures.
use Rattle.std.proofs.Common.{◌≡◌, ◌++◌, codes, get_or, take, ap, ◌∙◌, arith}
use Rattle.repl_names.specs.StandbyList.{name_spelling, names_spelling}
use Rattle.repl_names.proofs.Printing.{first_name, next_name}
use Rattle.repl_names.proofs.print.put_names.Goals as goal
use Rattle.repl_names.proofs.print.put_names.Goals.{then-i-gt0+in_ok-extend_from_slice, else-i-gt0}

pub loop-i-preserved : goal.loop-i-preserved
loop-i-preserved c =
    let names = c.args.names.now in
    let i = c.loop-i.i in
    let name = c.as_slice.result.now in
    let start = c.args.out.now.items in
    let is : name ≡ get_or names i name = cc in
    elim c.if-i-gt0.branch [
      | then-i-gt0+in_ok-extend_from_slice w ↦
          let comma : c.if-i-gt0.out.items ≡ start ++ names_spelling (take i names) ++ codes ", " = ap (λ o. o.items) w.out-is
          ∙ w.in_ok-extend_from_slice.ensures.items ∙ ap (λ x. x ++ codes ", ") c.loop-i.invariant in
          c.in_ok-put_name.ensures ∙ ap (λ x. x ++ name_spelling name) comma ∙ next_name names i name start (omega arith) (omega arith) is
      | else-i-gt0 w ↦
          let front : c.if-i-gt0.out.items ≡ start ++ names_spelling (take i names) = ap (λ o. o.items) w.out-is ∙ c.loop-i.invariant in
          c.in_ok-put_name.ensures ∙ ap (λ x. x ++ name_spelling name) front ∙ first_name names i name start (omega arith) (omega arith) is
    ]
