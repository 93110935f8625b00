-- Above the origin the walk is after some record.
use Rattle.std.proofs.lemmas.Bool.{both_ways}
use Rattle.std.proofs.lemmas.Result.{IfErr-weaker, on_ok_weaker}
use Rattle.repl_check.proofs.log_check.LogCheck.walk_on.Goals as goal

pub returns-else-is_at_origin-clause-goes_on : goal.returns-else-is_at_origin-clause-goes_on
returns-else-is_at_origin-clause-goes_on c = on_ok_weaker c.walk_past_any.result (λ goes timeline prev log before walked on.
    let now = goes timeline log (record { prev = prev; walked = walked }) on in
    record {
      prev = now.prev;
      before = λ origin. absurd (both_ways _ c.if-is_at_origin.false (c.is_at_origin.ensures.value.1 origin));
      walked = now.walked;
    }) c.walk_past_any.ensures.goes_on

pub returns-else-is_at_origin-clause-refuses : goal.returns-else-is_at_origin-clause-refuses
returns-else-is_at_origin-clause-refuses c = IfErr-weaker c.walk_past_any.result _ _ (λ fault refuses timeline prev log before walked on.
    let now = refuses timeline log (record { prev = prev; walked = walked }) on in
    record {
      prev = now.prev;
      before = λ origin. absurd (both_ways _ c.if-is_at_origin.false (c.is_at_origin.ensures.value.1 origin));
      refused = now.refused;
      unlike = λ above. now.unlike;
    }) c.walk_past_any.ensures.refuses
