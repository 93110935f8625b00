-- Each branch of a scripted read gives what its step says.
use Rattle.std.proofs.Common.{◌≡◌, ◌<◌, inl, inr, arith, refl, ap, ◌∙◌, length}
use Rattle.std.proofs.lemmas.Grind.{common_steps}
use Rattle.repl_io.specs.Step.{bytes_of}
use Rattle.repl_io.proofs.Steps.{gives, skips, step-is, gives-step}
use Rattle.repl_io.proofs.script.ScriptLinkSource.read.Goals as goal
use Rattle.repl_io.proofs.script.ScriptLinkSource.read.Goals.{then-self-len-2, else-self-len-2}

pub returns-in-Quiet-clause-reads : goal.returns-in-Quiet-clause-reads
returns-in-Quiet-clause-reads c =
    let s = c.args.self.now in
    record {
      moved = skips s.steps.items s.next s.taken c.index.result.now (omega arith) c.index.ensures (ap bytes_of c.in-Quiet.is) s.in_step;
      faults = refl;
      quiets = omega arith;
      ends = refl;
    }

pub returns-in-Fail-clause-reads : goal.returns-in-Fail-clause-reads
returns-in-Fail-clause-reads c =
    let s = c.args.self.now in
    record {
      moved = skips s.steps.items s.next s.taken c.index.result.now (omega arith) c.index.ensures (ap bytes_of c.in-Fail.is) s.in_step;
      faults = omega arith;
      quiets = refl;
      ends = refl;
    }

pub returns-then-count-eq0-clause-script : goal.returns-then-count-eq0-clause-script
returns-then-count-eq0-clause-script c =
    let s = c.args.self.now in
    let n = c.copy_front-count.result in
    let below : s.next < length s.steps.items = omega arith in
    let at = step-is s.steps.items s.next c.index.result.now below c.index.ensures ∙ c.in-Give.is in
    record {
      steps_stay = refl;
      at_end = (λ e. cc, λ h. absurd (omega arith));
      end_stays = λ h. absurd (omega arith);
      at_step = λ _. gives-step s _ c.in-Give.bytes _ (length c.args.room.now) n at c.requires (grind (arith, common_steps)) (λ _. refl)
          (λ h. absurd (omega (arith, h, c.if-count-eq0.true)))
          (elim c.if-self-len-2.branch [
            | then-self-len-2 w ↦ inr
                (ap (λ (t : _). t.1.1.0) w.self-is, ap (λ (t : _). t.1.1.1.0) w.self-is, grind arith)
            | else-self-len-2 w ↦ inl
                (ap (λ (t : _). t.1.1.0) w.self-is, ap (λ (t : _). t.1.1.1.0) w.self-is, λ e. grind arith)
          ]);
    }

pub returns-else-count-eq0-clause-script : goal.returns-else-count-eq0-clause-script
returns-else-count-eq0-clause-script c =
    let s = c.args.self.now in
    let n = c.copy_front-count.result in
    let below : s.next < length s.steps.items = omega arith in
    let at = step-is s.steps.items s.next c.index.result.now below c.index.ensures ∙ c.in-Give.is in
    record {
      steps_stay = refl;
      at_end = (λ e. cc, λ h. absurd (omega arith));
      end_stays = λ h. absurd (omega arith);
      at_step = λ _. gives-step s _ c.in-Give.bytes _ (length c.args.room.now) n at c.requires (grind (arith, common_steps)) (λ e.
          absurd (c.if-count-eq0.false e)) (λ _. refl)
          (elim c.if-self-len-2.branch [
            | then-self-len-2 w ↦ inr
                (ap (λ (t : _). t.1.1.0) w.self-is, ap (λ (t : _). t.1.1.1.0) w.self-is, grind arith)
            | else-self-len-2 w ↦ inl
                (ap (λ (t : _). t.1.1.0) w.self-is, ap (λ (t : _). t.1.1.1.0) w.self-is, λ e. grind arith)
          ]);
    }

pub returns-else-count-eq0-clause-reads : goal.returns-else-count-eq0-clause-reads
returns-else-count-eq0-clause-reads c =
    let s = c.args.self.now in
    let n = c.copy_front-count.result in
    let below : s.next < length s.steps.items = omega arith in
    let bytes : bytes_of c.index.result.now ≡ c.in-Give.bytes.items = ap bytes_of c.in-Give.is in
    record {
      moved = gives s.steps.items s.next s.taken n c.if-self-len-2.self.1.1.0 c.if-self-len-2.self.1.1.1.0 c.copy_front-count.new.room
          c.index.result.now below c.index.ensures (grind (arith, common_steps)) (grind (arith, common_steps)) (grind (arith, common_steps))
          (grind (arith, common_steps))
          (elim c.if-self-len-2.branch [
            | then-self-len-2 w ↦ inr
                (ap (λ (t : _). t.1.1.0) w.self-is, ap (λ (t : _). t.1.1.1.0) w.self-is, grind arith)
            | else-self-len-2 w ↦ inl
                (ap (λ (t : _). t.1.1.0) w.self-is, ap (λ (t : _). t.1.1.1.0) w.self-is)
          ]);
      faults = refl;
      quiets = refl;
      ends = refl;
    }
