-- What each stage says is told.
use Rattle.std.proofs.Common.{ℕ, refl, sym, subst, inl}
use Rattle.std.proofs.lemmas.Bool.{both_ways}
use Rattle.std.proofs.lemmas.Result.{IfErr-weaker}
use Rattle.repl_page.specs.Page.{IsPage}
use Rattle.repl_check.specs.declared.flaw.Flaw.TheVariants as flaw
use Rattle.repl_check.specs.Fits.{Fits, HasBadRecord, HasRecords, rest_of}
use Rattle.repl_check.specs.Flaws.{IsFlaw}
use Rattle.repl_check.specs.Machine.{IsAtStage, check_identity}
use Rattle.repl_check.proofs.Stages.{records_found}
use Rattle.repl_check.proofs.Verdicts.{fits_no_flaw}
use Rattle.repl_check.proofs.log_check.LogCheck.fits.Goals as goal

-- ---- the rest goes on, or is wrong

pub returns-in-InRest-clause-exact : goal.returns-in-InRest-clause-exact
returns-in-InRest-clause-exact c timeline floor log judged =
    let ident = check_identity c.args.self.now in
    let is = subst (IsAtStage ident timeline (rest_of ident floor log) floor log) c.in-InRest.is judged.at_stage in (
      λ told. absurd (both_ways _ refl told),
      λ fits. absurd (fits_no_flaw ident timeline floor log c.args.whole c.args.stored flaw.Whole judged.size judged.on_page fits
          (inl (is.some, is.begun))),
    )

pub returns-in-BadRest-clause-exact : goal.returns-in-BadRest-clause-exact
returns-in-BadRest-clause-exact c timeline floor log judged =
    let ident = check_identity c.args.self.now in
    let fault = c.in-BadRest.fault in
    let is = subst (IsAtStage ident timeline (rest_of ident floor log) floor log) c.in-BadRest.is judged.at_stage in (
      λ told. absurd (both_ways _ refl told),
      λ fits. absurd (fits_no_flaw ident timeline floor log c.args.whole c.args.stored (flaw.Bad fault.at fault.why) judged.size judged.on_page
          fits (inl is)),
    )

-- ---- records

pub returns-in-InRecords-clause-exact : goal.returns-in-InRecords-clause-exact
returns-in-InRecords-clause-exact c timeline floor log judged =
    let check = c.args.self.now in
    let ident = check_identity check in
    let is = subst (IsAtStage ident timeline (rest_of ident floor log) floor log) c.in-InRecords.is judged.at_stage in
    let found = records_found ident timeline (rest_of ident floor log) floor c.in-InRecords.start c.last_end-end.result
    c.last_start-last.result log c.in-InRecords.walker judged.size c.last_end-end.ensures c.last_start-last.ensures is in
    let here = subst (λ (f : ℕ). HasRecords ident timeline (rest_of ident f log) f log c.in-InRecords.start c.last_end-end.result
    c.last_start-last.result) (sym judged.begins) found in
    let told = c.records_fit.ensures.exact timeline log judged.size (subst IsPage (sym judged.begins) judged.on_page) here in (
      λ ok. subst (λ (f : ℕ). Fits ident timeline f log c.args.whole c.args.stored) judged.begins (told.0 ok),
      λ fits. told.1 (subst (λ (f : ℕ). Fits ident timeline f log c.args.whole c.args.stored) (sym judged.begins) fits),
    )

pub returns-in-InRecords-clause-flaw : goal.returns-in-InRecords-clause-flaw
returns-in-InRecords-clause-flaw c = IfErr-weaker c.records_fit.result _ _ (λ wrong told timeline floor log judged.
    let ident = check_identity c.args.self.now in
    let is = subst (IsAtStage ident timeline (rest_of ident floor log) floor log) c.in-InRecords.is judged.at_stage in
    let found = records_found ident timeline (rest_of ident floor log) floor c.in-InRecords.start c.last_end-end.result
    c.last_start-last.result log c.in-InRecords.walker judged.size c.last_end-end.ensures c.last_start-last.ensures is in
    let here = subst (λ (f : ℕ). HasRecords ident timeline (rest_of ident f log) f log c.in-InRecords.start c.last_end-end.result
    c.last_start-last.result) (sym judged.begins) found in
    subst (λ (f : ℕ). IsFlaw ident timeline f log c.args.whole c.args.stored wrong) judged.begins (told timeline log here))
    c.records_fit.ensures.flaw

-- ---- what is no record

pub returns-in-BadRecord-clause-flaw : goal.returns-in-BadRecord-clause-flaw
returns-in-BadRecord-clause-flaw c timeline floor log judged =
    let ident = check_identity c.args.self.now in
    let bad = c.in-BadRecord in
    let is = subst (IsAtStage ident timeline (rest_of ident floor log) floor log) bad.is judged.at_stage in
    let here = subst (λ (f : ℕ). HasBadRecord ident timeline (rest_of ident f log) f log bad.start bad.end bad.last bad.fault.at bad.fault.why)
    (sym judged.begins) is in
    subst (λ (f : ℕ). IsFlaw ident timeline f log c.args.whole c.args.stored c.flaw_at.result) judged.begins
    (c.flaw_at.ensures timeline log here)

pub returns-in-BadRecord-clause-exact : goal.returns-in-BadRecord-clause-exact
returns-in-BadRecord-clause-exact c timeline floor log judged = (
  λ told. absurd (both_ways _ refl told),
  λ fits. absurd (fits_no_flaw (check_identity c.args.self.now) timeline floor log c.args.whole c.args.stored c.flaw_at.result judged.size
      judged.on_page fits (returns-in-BadRecord-clause-flaw c timeline floor log judged)),
)
