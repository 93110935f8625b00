-- The fields of every header first, and then those of a long one.
use Rattle.std.proofs.Common.{List, ℕ, drop, Option, refl, sym, subst}
use Rattle.std.proofs.lemmas.List.{take_rest}
use Rattle.repl_page.specs.declared.header.LongPart.{LongPart}
use Rattle.repl_page.specs.Header.{AgreesLong, AgreesPast}
use Rattle.repl_page.proofs.check.check_header.Goals as goal

pub returns-in-Some-clause-agrees : goal.returns-in-Some-clause-agrees
returns-in-Some-clause-agrees c =
    let bytes = c.args.bytes.now in
    let Past : Option LongPart → Type 0 = λ long. AgreesPast long (drop 24 bytes) in
    let Long : List ℕ → Type 0 = λ rest. AgreesLong c.in-Some.long rest in (
      λ ok. record {
        short = c.in_ok-check_short.ensures.agrees.0 refl;
        long = subst Past (sym c.in-Some.is) (subst Long (take_rest bytes 24) (c.check_long.ensures.agrees.0 ok));
      },
      λ agrees. c.check_long.ensures.agrees.1 (subst Long (sym (take_rest bytes 24)) (subst Past c.in-Some.is agrees.long)),
    )
