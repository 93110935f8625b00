-- What `print_command` needs and ensures.
use Rattle.std.proofs.Common.{◌≡◌, List, ℕ, sym, subst, rules}
use Rattle.repl_cmd.specs.Command.{SaysCommand}
use Rattle.repl_cmd.specs.Printing.{spelling}
use Rattle.repl_cmd.proofs.SpellingRead.{spelling_read}
use Rattle.repl_cmd.proofs.print.print_command.Goals as goal

pub returns-clause-read_back : goal.returns-clause-read_back
returns-clause-read_back c =
    let command = c.args.command.now in
    let exact : c.put_command.new.out.items ≡ spelling command = search rules in
    subst (λ (text : List ℕ). SaysCommand text command) (sym exact) (spelling_read command c.in_ok-put_command.ensures.is)
