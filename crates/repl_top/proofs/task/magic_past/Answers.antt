-- One word stands there, or none.
use Rattle.std.proofs.Common.{ℕ, ◌<◌, length, sym, subst}
use Rattle.std.proofs.lemmas.List.{length-map}
use Rattle.std.specs.Prelude.{string_bytes}
use Rattle.repl_args.specs.Words.{texts}
use Rattle.repl_top.proofs.Tails.{one_word}
use Rattle.repl_top.proofs.task.magic_past.Goals as goal

pub magic_at-requires : goal.magic_at-requires
magic_at-requires c =
    one_word (texts c.args.words.now) c.args.place
    (subst (λ (n : ℕ). c.args.place < n) (sym (length-map c.args.words.now string_bytes)) c.if-place-words.true) c.requires
