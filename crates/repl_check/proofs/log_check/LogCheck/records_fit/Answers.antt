-- The last whole record ends elsewhere, or starts elsewhere.
use Rattle.std.proofs.Common.{rules, ◌≡◌, ◌≢◌, ℕ, false, refl, sym, subst, inl, inr}
use Rattle.std.proofs.lemmas.Bool.{both_ways}
use Rattle.repl_check.specs.declared.flaw.Flaw.TheVariants as flaw
use Rattle.repl_check.specs.Fits.{HasRecords, IsStoredRight, rest_of}
use Rattle.repl_check.specs.Machine.{check_floor, check_identity}
use Rattle.repl_check.proofs.Verdicts.{fits_no_flaw}
use Rattle.repl_check.proofs.log_check.LogCheck.records_fit.Goals as goal

pub returns-then-ne-clause-exact : goal.returns-then-ne-clause-exact
returns-then-ne-clause-exact c timeline log size_is on_page records =
    let elsewhere : c.args.end ≢ c.args.whole = search rules in (
      λ told. absurd (both_ways _ refl told),
      λ fits. absurd (fits_no_flaw (check_identity c.args.self.now) timeline (check_floor c.args.self.now) log c.args.whole c.args.stored
          flaw.Whole size_is on_page fits (inr (inl (record {
            start = c.args.start;
            end = c.args.end;
            last = c.args.last;
            records = records;
            elsewhere = elsewhere;
          })))),
    )

pub returns-else-is_stored_right-clause-flaw : goal.returns-else-is_stored_right-clause-flaw
returns-else-is_stored_right-clause-flaw c timeline log records =
    let ident = check_identity c.args.self.now in
    let floor = check_floor c.args.self.now in
    let same : c.args.end ≡ c.args.whole = search rules in
    let not_right : c.is_stored_right.result ≡ false = search rules in
    record {
      start = c.args.start;
      last = c.args.last;
      ends = inl (subst (λ (e : ℕ). HasRecords ident timeline (rest_of ident floor log) floor log c.args.start e c.args.last) same records);
      wrong = λ right. absurd (both_ways c.is_stored_right.result not_right (c.is_stored_right.ensures.1
          (subst (λ (e : ℕ). IsStoredRight ident floor c.args.start e c.args.last c.args.stored) (sym same) right)));
    }

pub returns-else-is_stored_right-clause-exact : goal.returns-else-is_stored_right-clause-exact
returns-else-is_stored_right-clause-exact c timeline log size_is on_page records = (
  λ told. absurd (both_ways _ refl told),
  λ fits. absurd (fits_no_flaw (check_identity c.args.self.now) timeline (check_floor c.args.self.now) log c.args.whole c.args.stored
      flaw.Last size_is on_page fits (returns-else-is_stored_right-clause-flaw c timeline log records)),
)
