-- The last whole record starts elsewhere.
use Rattle.std.proofs.Common.{rules, ◌≡◌, ℕ, false, sym, subst, inr}
use Rattle.std.proofs.lemmas.Bool.{both_ways}
use Rattle.repl_check.specs.Fits.{HasBadRecord, IsStoredRight, rest_of}
use Rattle.repl_check.specs.Machine.{check_floor, check_identity}
use Rattle.repl_check.proofs.log_check.LogCheck.flaw_at.Goals as goal

pub returns-then-not-is_stored_right : goal.returns-then-not-is_stored_right
returns-then-not-is_stored_right c timeline log bad =
    let ident = check_identity c.args.self.now in
    let floor = check_floor c.args.self.now in
    let at = c.args.fault.now.at in
    let reason = c.args.fault.now.why in
    let same : c.args.end ≡ c.args.whole = search rules in
    let not_right : c.is_stored_right.result ≡ false = search rules in
    record {
      start = c.args.start;
      last = c.args.last;
      ends = inr (
        at,
        reason,
        subst (λ (e : ℕ). HasBadRecord ident timeline (rest_of ident floor log) floor log c.args.start e c.args.last at
            reason) same bad,
      );
      wrong = λ right. absurd (both_ways c.is_stored_right.result not_right (c.is_stored_right.ensures.1
          (subst (λ (e : ℕ). IsStoredRight ident floor c.args.start e c.args.last c.args.stored) (sym same) right)));
    }
