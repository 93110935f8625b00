-- A head is refused where the whole is.
use Rattle.std.proofs.Common.{◌∙◌, sym, arith}
use Rattle.repl_wire.proofs.FrameHeads.{frame_head, head_out}
use Rattle.repl_wire.proofs.Heads.{head_fault}
use Rattle.repl_wire.proofs.head.judge_head.Goals as goal

pub returns-in-Startup-clause-place : goal.returns-in-Startup-clause-place
returns-in-Startup-clause-place c f e = head_fault c.args.phase c.args.bytes.now c.judge_length.result f
    (λ i. omega (arith, c.type_inv.bytes i)) (rw c.in-Startup.is c.judge_length.ensures) e

pub returns-in-Front-clause-place : goal.returns-in-Front-clause-place
returns-in-Front-clause-place c f e = head_fault c.args.phase c.args.bytes.now c.head_of_sent.result f
    (λ i. omega (arith, c.type_inv.bytes i)) (rw c.in-Front.is c.head_of_sent.ensures) e

pub returns-in-Back-clause-place : goal.returns-in-Back-clause-place
returns-in-Back-clause-place c f e = head_fault c.args.phase c.args.bytes.now c.head_of_sent-in-Back.result f
    (λ i. omega (arith, c.type_inv.bytes i)) (rw c.in-Back.is c.head_of_sent-in-Back.ensures) e

pub returns-in-Startup-clause-frame : goal.returns-in-Startup-clause-frame
returns-in-Startup-clause-frame c size e = frame_head c.args.phase c.args.bytes.now size (λ i. omega (arith, c.type_inv.bytes i))
    (rw c.in-Startup.is (sym c.judge_length.ensures ∙ e))

pub returns-in-Startup-clause-range : goal.returns-in-Startup-clause-range
returns-in-Startup-clause-range c at said e = head_out c.args.phase c.args.bytes.now at said (rw c.in-Startup.is (sym
    c.judge_length.ensures ∙ e))

pub returns-in-Front-clause-frame : goal.returns-in-Front-clause-frame
returns-in-Front-clause-frame c size e = frame_head c.args.phase c.args.bytes.now size (λ i. omega (arith, c.type_inv.bytes i))
    (rw c.in-Front.is (sym c.head_of_sent.ensures ∙ e))

pub returns-in-Front-clause-range : goal.returns-in-Front-clause-range
returns-in-Front-clause-range c at said e = head_out c.args.phase c.args.bytes.now at said (rw c.in-Front.is (sym c.head_of_sent.ensures
    ∙ e))

pub returns-in-Back-clause-frame : goal.returns-in-Back-clause-frame
returns-in-Back-clause-frame c size e = frame_head c.args.phase c.args.bytes.now size (λ i. omega (arith, c.type_inv.bytes i))
    (rw c.in-Back.is (sym c.head_of_sent-in-Back.ensures ∙ e))

pub returns-in-Back-clause-range : goal.returns-in-Back-clause-range
returns-in-Back-clause-range c at said e = head_out c.args.phase c.args.bytes.now at said (rw c.in-Back.is (sym
    c.head_of_sent-in-Back.ensures ∙ e))
