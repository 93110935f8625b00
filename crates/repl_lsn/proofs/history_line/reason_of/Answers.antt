-- What is left without its blanks is a reason.
use Rattle.std.proofs.Common.{◌≡◌, sym, ap, subst, ◌∙◌, take}
use Rattle.std.proofs.lemmas.Result.{IfOk-weaker}
use Rattle.repl_lsn.specs.Line.{IsLine}
use Rattle.repl_lsn.specs.History.{IsReason}
use Rattle.repl_lsn.proofs.Inks.{ink_of, ink_end, ink_is_line, ink_is_reason}
use Rattle.repl_lsn.proofs.history_line.reason_of.Goals as goal

pub copied-requires : goal.copied-requires
copied-requires c =
    let e : c.before_blanks.result.now ≡ ink_of c.args.bytes.now = c.before_blanks.ensures
    ∙ ap (λ rest. take (ink_end rest) rest) c.after_blanks.ensures in
    subst IsLine (sym e) (ink_is_line c.args.bytes.now c.requires)

pub returns : goal.returns
returns c =
    let e : c.before_blanks.result.now ≡ ink_of c.args.bytes.now = c.before_blanks.ensures
    ∙ ap (λ rest. take (ink_end rest) rest) c.after_blanks.ensures in
    IfOk-weaker c.copied.result (λ line. line ≡ c.before_blanks.result.now) (λ reason. IsReason c.args.bytes.now reason)
    (λ line is. subst (IsReason c.args.bytes.now) (sym (is ∙ e)) (ink_is_reason c.args.bytes.now c.requires)) c.copied.ensures
