-- Of nothing nothing was passed over.
use Rattle.std.proofs.Common.{refl, ap, length, arith}
use Rattle.repl_record.proofs.Content.{content-nil}
use Rattle.repl_record.proofs.Pages.{header_is}
use Rattle.repl_walk.proofs.rest.Rest.new.Goals as goal

pub returns-clause-passed : goal.returns-clause-passed
returns-clause-passed c timeline = record {
  begins = refl;
  from_page = c.requires.page;
  past = omega arith;
  on_page = c.requires.page;
  left = omega (arith, ap length (content-nil c.args.ident.size c.args.from));
  some = c.requires.some;
  headers = λ page is_page above whole. absurd (omega (arith, header_is c.args.ident.size page));
}
