-- What the call leaves, and that its errors are counted.
use Rattle.std.proofs.Common.{◌≡◌, ◌∙◌, ap, false, rules, None}
use Rattle.repl_disk.proofs.memory.MemoryDiskDisk.remove.Goals as goal
use Rattle.repl_disk.proofs.Images.{goes, held, tally_of, told_rose}
use Rattle.repl_disk.specs.Crash.{Removes}
use Rattle.repl_disk.specs.Folder.{put}
use Rattle.repl_disk.specs.Memory.{DidNot, begun}

pub returns-clause-crash : goal.returns-clause-crash
returns-clause-crash c =
    (goes c.args.self.now c.self.inside.history c.remove-answer.new.self (λ folder. put folder c.args.name.now None)
    (Removes c.args.name.now) (λ e. DidNot c.self.inside.history c.remove-answer.new.self c.args.name.now e) (λ e not. not.unchanged)
    c.remove-answer.result c.tell.result
    (ap held (c.self.view_is ∙ c.begin.ensures.counted)) c.tell.ensures.answer c.remove-answer.ensures.done).0

pub returns-clause-all : goal.returns-clause-all
returns-clause-all c =
    (goes c.args.self.now c.self.inside.history c.remove-answer.new.self (λ folder. put folder c.args.name.now None)
    (Removes c.args.name.now) (λ e. DidNot c.self.inside.history c.remove-answer.new.self c.args.name.now e) (λ e not. not.unchanged)
    c.remove-answer.result c.tell.result
    (ap held (c.self.view_is ∙ c.begin.ensures.counted)) c.tell.ensures.answer c.remove-answer.ensures.done).2

pub returns-clause-ends : goal.returns-clause-ends
returns-clause-ends c =
    let passed : c.begin.result ≡ false = search rules in
    let time = (goes c.args.self.now c.self.inside.history c.remove-answer.new.self (λ folder. put folder c.args.name.now None)
    (Removes c.args.name.now) (λ e. DidNot c.self.inside.history c.remove-answer.new.self c.args.name.now e) (λ e not. not.unchanged)
    c.remove-answer.result c.tell.result
    (ap held (c.self.view_is ∙ c.begin.ensures.counted)) c.tell.ensures.answer c.remove-answer.ensures.done).1 in
    let counts = told_rose c.remove-answer.result c.tell.result (tally_of c.args.self.now) c.self.inside.tally c.tell.new.self
    (ap tally_of (c.self.view_is ∙ c.begin.ensures.counted ∙ ap
    (begun c.args.self.now) passed)) c.tell.ensures.counted c.tell.ensures.answer in
    record {
      time = record { later = time.later; nothing_else = time.nothing_else; keeps = time.keeps };
      faults = counts.0;
      wants = counts.1;
      lacks = counts.2;
    }
