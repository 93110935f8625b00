-- Words are refused where they ask for nothing.
use Rattle.std.proofs.Common.{◌≡◌, ℕ, ap, subst}
use Rattle.repl_exit.specs.declared.status.Status.TheVariants as status
use Rattle.repl_args.specs.Words.{texts}
use Rattle.repl_args.specs.Lines.{IsUsage}
use Rattle.repl_args.proofs.LinesRead.{no_usage_of_line, one_usage_of_words}
use Rattle.repl_top.specs.Words.{IsWordOf, the_table}
use Rattle.repl_top.proofs.Lines.{task_is_line}
use Rattle.repl_top.proofs.tool.run_tool.Goals as goal

pub returns-in-Ok-clause-usage : goal.returns-in-Ok-clause-usage
returns-in-Ok-clause-usage g c = λ word. (
  λ is. absurd (c.done.ensures.other word is),
  λ usage. absurd (no_usage_of_line IsWordOf the_table (texts c.args.words.now) word
      (task_is_line (texts c.args.words.now) c.in-Ok.task c.in-Ok.ensures.read) usage),
)

pub returns-in-Err-clause-usage : goal.returns-in-Err-clause-usage
returns-in-Err-clause-usage g c = λ word. (
  λ e.
      let same : c.in-Err.word ≡ word = cc in
      subst (λ (k : ℕ). IsUsage IsWordOf the_table (texts c.args.words.now) k) same c.in-Err.ensures.wrong,
  λ usage.
      ap (λ (k : ℕ). status.Usage k) (one_usage_of_words IsWordOf the_table (texts c.args.words.now) c.in-Err.word word c.in-Err.ensures.wrong usage),
)

pub returns-in-Ok-clause-ends : goal.returns-in-Ok-clause-ends
returns-in-Ok-clause-ends g c = λ _. (c.in-Ok.task, c.in-Ok.ensures.read, c.done.ensures.ends)

pub returns-in-Err-clause-ends : goal.returns-in-Err-clause-ends
returns-in-Err-clause-ends g c = λ line.
    absurd (no_usage_of_line IsWordOf the_table (texts c.args.words.now) c.in-Err.word line c.in-Err.ensures.wrong)
