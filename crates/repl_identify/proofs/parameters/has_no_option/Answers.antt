-- All names are tested.
use Rattle.std.proofs.Common.{rules, tests}
use Rattle.std.proofs.lemmas.Bool.Decides.{when_true}
use Rattle.std.proofs.lemmas.Iterator.{cases_from_all, YieldsList-from_slice}
use Rattle.std.proofs.lemmas.Iterator.Search.{true_from_All}
use Rattle.std.proofs.lemmas.List.Elements.{All-from_all_within}
use Rattle.repl_identify.proofs.Replication.{IsPlain, IsNotPlain}
use Rattle.repl_identify.proofs.parameters.has_no_option.Goals as goal

pub returns : goal.returns
returns c =
    let pairs = c.args.pairs.now in
    let cases = cases_from_all _ _ _ IsPlain IsNotPlain c.all.ensures.ran (YieldsList-from_slice pairs cc) (λ x q k. search (rules, tests))
    (λ x q k. search (rules, tests)) in (
      λ e. All-from_all_within IsPlain pairs (when_true _ _ e cases),
      λ all. true_from_All IsPlain IsNotPlain c.all.result pairs (λ p plain not. not plain) cases all,
    )
