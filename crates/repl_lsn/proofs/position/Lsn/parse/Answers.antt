-- What is read is spelled, and where a text stops.
use Rattle.std.proofs.Common.{rules, ◌≡◌, ◌<◌, ◌+◌, ◌*◌, ◌%◌, ◌^◌, length, get_or, subst, sym, arith}
use Rattle.std.proofs.lemmas.Grind.{common_steps}
use Rattle.repl_text.specs.Language.{StopsAt}
use Rattle.repl_lsn.specs.Position.{Spells, IsPosition}
use Rattle.repl_lsn.proofs.Halves.{half_fits}
use Rattle.repl_lsn.proofs.Faults.{stops_at_high, stops_at_slash, stops_at_low, stops_after, read_position}
use Rattle.repl_lsn.proofs.position.Lsn.parse.Goals as goal

pub returns-in_err-high-clause-refused : goal.returns-in_err-high-clause-refused
returns-in_err-high-clause-refused c =
    let fault = c.in_err-high.ensures.refused in
    let stops = subst (λ place. StopsAt IsPosition c.args.text.now place) (sym fault.0) (stops_at_high c.args.text.now fault.1) in
    search rules

pub returns-then-ne-clause-refused : goal.returns-then-ne-clause-refused
returns-then-ne-clause-refused c =
    stops_at_slash c.args.text.now c.in_ok-high.high c.in_ok-high.slash c.in_ok-high.ensures.read (grind (arith, common_steps))

pub returns-in_err-low-clause-refused : goal.returns-in_err-low-clause-refused
returns-in_err-low-clause-refused c =
    let inside : c.in_ok-high.slash < length c.args.text.now = search rules in
    let is : get_or c.args.text.now c.in_ok-high.slash 0 ≡ 47 = search rules in
    let fault = c.in_err-low.ensures.refused in
    let stops = subst (λ place. StopsAt IsPosition c.args.text.now place) (sym fault.0) (stops_at_low c.args.text.now c.in_ok-high.high
    c.in_ok-high.slash c.in_ok-high.ensures.read inside is fault.1) in
    search rules

pub returns-then-end-text-clause-refused : goal.returns-then-end-text-clause-refused
returns-then-end-text-clause-refused c =
    let inside : c.in_ok-high.slash < length c.args.text.now = search rules in
    let is : get_or c.args.text.now c.in_ok-high.slash 0 ≡ 47 = search rules in
    stops_after c.args.text.now c.in_ok-high.high c.in_ok-high.slash c.in_ok-low.low c.in_ok-low.end c.in_ok-high.ensures.read inside is
    c.in_ok-low.ensures.read c.if-end-text.true

pub returns-clause-read : goal.returns-clause-read
returns-clause-read c =
    let inside : c.in_ok-high.slash < length c.args.text.now = search rules in
    let is : get_or c.args.text.now c.in_ok-high.slash 0 ≡ 47 = search rules in
    let h = c.in_ok-high.ensures.read in
    let high : c.in_ok-high.high < 2 ^ 32 = omega (arith, h.value_is, half_fits _ h.is_half.hexadecimal h.is_half.few) in
    let value : c.in_ok-high.high * 2 ^ 32 + c.in_ok-low.low ≡ c.from.result * 4294967296 % 18446744073709551616 + c.from-2.result =
    search rules in
    subst (λ position. Spells c.args.text.now position) value
    (read_position c.args.text.now c.in_ok-high.high c.in_ok-high.slash c.in_ok-low.low c.in_ok-low.end h inside is c.in_ok-low.ensures.read
    c.if-end-text.false)
