-- The words and their bytes.
use Rattle.repl_top.proofs.Folders.{led_folder}
use Rattle.repl_top.proofs.folder.folder_of.Goals as goal

pub returns-then-eq : goal.returns-then-eq
returns-then-eq c =
    led_folder c.args.words.now c.word_at.result.now c.word_at-then-eq.result.now c.if-words-gt1.true c.word_at.ensures c.if-eq.ensures
    c.word_at-then-eq.ensures
