-- One more size, and the one that is found.
use Rattle.std.proofs.Common.{◌≡◌, [], get_or, ◌-◌, sym, ◌∙◌, rules, arith}
use Rattle.std.proofs.lemmas.Slice.Eq.{bytes_eq-Decides}
use Rattle.repl_lsn.specs.Segment.{settings}
use Rattle.repl_lsn.proofs.SizeTexts.{found, none_more}
use Rattle.repl_lsn.proofs.segment.SegSize.from_setting.Goals as goal

pub loop-log2-init : goal.loop-log2-init
loop-log2-init c = λ k h s. omega (arith, s.0)

pub loop-log2-preserved : goal.loop-log2-preserved
loop-log2-preserved c = none_more c.args.text.now c.setting_of.result.now c.loop-log2.log2 c.eq.result c.eq.ensures c.setting_of.ensures
    c.if-eq.false c.loop-log2.invariant

pub returns-then-eq : goal.returns-then-eq
returns-then-eq c =
    let text_is : c.args.text.now ≡ get_or settings (c.loop-log2.log2 - 20) [] =
    (bytes_eq-Decides c.args.text.now c.setting_of.result.now).0 (sym c.eq.ensures ∙ c.if-eq.true) ∙ c.setting_of.ensures in
    found c.args.text.now c.loop-log2.log2 c.from_log2.result c.from_log2.ensures (search rules) (search rules) text_is

pub returns : goal.returns
returns c = λ size s. c.loop-log2.invariant s.0 (omega (arith, (s.1).1)) s.1
