-- A string ends at the first zero byte.
use Rattle.std.proofs.Common.{◌≡◌, ◌<◌, refl, rules, tests}
use Rattle.std.proofs.lemmas.Iterator.{IsFirst-from_position, YieldsList-from_slice}
use Rattle.std.proofs.lemmas.List.{take_rest}
use Rattle.repl_message.proofs.FieldLaws.{string_at_none, string_at_first}
use Rattle.repl_wire.proofs.fields.string_of.Goals as goal

pub returns-in-None : goal.returns-in-None
returns-in-None c =
    let bytes = c.args.bytes.now in
    string_at_none bytes (IsFirst-from_position _ _ _ (λ b. b ≡ 0) (λ b. 0 < b) c.in-None.ensures.ran (YieldsList-from_slice bytes cc)
    (λ x q k. search (rules, tests)) (λ x q k. search (rules, tests)))

pub returns-in_ok-text-in-Some : goal.returns-in_ok-text-in-Some
returns-in_ok-text-in-Some c =
    let bytes = c.args.bytes.now in
    let i = c.in-Some.end in
    let first = IsFirst-from_position _ _ _ (λ b. b ≡ 0) (λ b. 0 < b) c.in-Some.ensures.ran (YieldsList-from_slice bytes cc)
    (λ x q k. search (rules, tests)) (λ x q k. search (rules, tests)) in
    let read = string_at_first i bytes first.0 (first.1 0) first.2 in
    rw (read, take_rest, c.in_ok-text-in-Some.ensures) refl
