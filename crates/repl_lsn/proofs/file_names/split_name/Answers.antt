-- The first 24 bytes, and those after them.
use Rattle.std.proofs.Common.{ap, ◌∙◌, take, drop}
use Rattle.repl_lsn.proofs.FileNames.{front_of, past_of}
use Rattle.repl_lsn.proofs.file_names.split_name.Goals as goal

pub returns : goal.returns
returns c = record {
  front = c.split_at.ensures.front ∙ ap (λ n. take n c.args.text.now) c.min.ensures ∙ front_of c.args.text.now;
  past = c.split_at.ensures.back ∙ ap (λ n. drop n c.args.text.now) c.min.ensures ∙ past_of c.args.text.now;
}
