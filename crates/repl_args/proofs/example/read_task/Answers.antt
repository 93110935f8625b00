-- The line is one of the form of its command.
use Rattle.std.proofs.Common.{codes, subst, IfNone}
use Rattle.repl_args.specs.declared.example.Command.TheVariants as command
use Rattle.repl_args.specs.Words.{texts}
use Rattle.repl_args.specs.Options.{HasValue, HasName}
use Rattle.repl_args.specs.Example.{IsBit, IsWordOf, run_form, the_table}
use Rattle.repl_args.proofs.LinesRead.{rest_that_was_read}
use Rattle.repl_args.proofs.Examples.{of_command, names_line, bit_line, first_value, if_some_more}
use Rattle.repl_args.proofs.example.read_task.Goals as goal

pub returns-in-Names-clause-read : goal.returns-in-Names-clause-read
returns-in-Names-clause-read c =
    let words = texts c.args.words.now in
    names_line words c.in-Ok.line c.word_at.result.now c.word_at.ensures
    (of_command words c.in-Ok.line command.Names c.in-Names.is c.in-Ok.ensures.read)

pub returns-in-Bit-clause-read : goal.returns-in-Bit-clause-read
returns-in-Bit-clause-read c =
    let words = texts c.args.words.now in
    bit_line words c.in-Ok.line c.word_at-in-Bit.result.now c.word_at-in-Bit.ensures
    (of_command words c.in-Ok.line command.Bit c.in-Bit.is c.in-Ok.ensures.read)

pub returns-in-Run-clause-read : goal.returns-in-Run-clause-read
returns-in-Run-clause-read c =
    let words = texts c.args.words.now in
    let read = of_command words c.in-Ok.line command.Run c.in-Run.is c.in-Ok.ensures.read in
    let rest = read.is_line.rest in (
      read.is_line,
      if_some_more c.option_value.result (λ v. HasValue rest (codes "--first") v.now × IsBit v.now)
          (λ v h. first_value words c.in-Ok.line v.now read h) c.option_value.ensures.some,
      subst (λ w. IfNone c.option_value.result (¬ HasName w (codes "--first")))
          (rest_that_was_read IsWordOf the_table run_form words c.in-Ok.line read) c.option_value.ensures.none,
    )
