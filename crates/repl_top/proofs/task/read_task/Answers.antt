-- The line is one of the form of its command.
use Rattle.std.proofs.Common.{◌≡◌, ◌+◌, ℕ, List, refl, arith, ap, ◌∙◌, ◌∷◌, []}
use Rattle.repl_args.specs.Words.{texts}
use Rattle.repl_args.proofs.LinesRead.{argument_that_was_read}
use Rattle.repl_top.specs.declared.table.Command.TheVariants as command
use Rattle.repl_top.specs.declared.kinds.Word.TheVariants as kind
use Rattle.repl_top.specs.Words.{IsWordOf, identify_form, the_table}
use Rattle.repl_top.proofs.Lines.{frames_line, history_line, identify_line, init_line, init_tail, names_line, of_command}
use Rattle.repl_top.proofs.task.read_task.Goals as goal

pub position_at-requires : goal.position_at-requires
position_at-requires c =
    let words = texts c.args.words.now in
    let line = c.in-Ok.line in
    let read = of_command words line command.Identify c.in-Identify.is c.in-Ok.ensures.read in
    argument_that_was_read IsWordOf the_table identify_form words line read 2 (line.first + 3) kind.Position (omega arith) refl

pub returns-in-Identify-clause-read : goal.returns-in-Identify-clause-read
returns-in-Identify-clause-read c =
    let words = texts c.args.words.now in
    let read = of_command words c.in-Ok.line command.Identify c.in-Identify.is c.in-Ok.ensures.read in
    identify_line words c.in-Ok.line (record { system = c.system_at.result; timeline = c.timeline_at.result; flushed = c.position_at.result }) read
    c.system_at.ensures c.timeline_at.ensures c.position_at.ensures

pub returns-in-Frames-clause-read : goal.returns-in-Frames-clause-read
returns-in-Frames-clause-read c =
    let words = texts c.args.words.now in
    let read = of_command words c.in-Ok.line command.Frames c.in-Frames.is c.in-Ok.ensures.read in
    frames_line words c.in-Ok.line c.side_at.result read c.side_at.ensures

pub returns-in-Names-clause-read : goal.returns-in-Names-clause-read
returns-in-Names-clause-read c =
    let words = texts c.args.words.now in
    let read = of_command words c.in-Ok.line command.Names c.in-Names.is c.in-Ok.ensures.read in
    names_line words c.in-Ok.line c.word_at.result.now read c.word_at.ensures

pub returns-in-History-clause-read : goal.returns-in-History-clause-read
returns-in-History-clause-read c =
    let words = texts c.args.words.now in
    let read = of_command words c.in-Ok.line command.History c.in-History.is c.in-Ok.ensures.read in
    history_line words c.in-Ok.line c.timeline_at-in-History.result read c.timeline_at-in-History.ensures

pub returns-in-Init-clause-read : goal.returns-in-Init-clause-read
returns-in-Init-clause-read c =
    let words = texts c.args.words.now in
    let read = of_command words c.in-Ok.line command.Init c.in-Init.is c.in-Ok.ensures.read in
    init_line words c.in-Ok.line c.role_at.result c.system_at-in-Init.result c.magic_past.result read c.role_at.ensures c.system_at-in-Init.ensures
    c.magic_past.ensures
