-- What the call leaves, and that its errors are counted.
use Rattle.std.proofs.Common.{◌≡◌, ◌∙◌, ap, false, rules, List, ℕ, Option, subst}
use Rattle.repl_disk.proofs.memory.MemoryDiskDisk.sync.Goals as goal
use Rattle.repl_disk.proofs.Images.{Images, goes, held, tally_of, told_rose}
use Rattle.repl_disk.specs.Crash.{Syncs}
use Rattle.repl_disk.specs.Memory.{DidNot, Memory, begun}
use Rattle.repl_disk.specs.Answers.{Leaves, LeavesAll}
use Rattle.repl_disk.specs.Files.{folder_of}

pub returns-clause-crash : goal.returns-clause-crash
returns-clause-crash c =
    subst (λ (file : Option (List ℕ)). Leaves c.tell.result (Syncs c.args.name.now file) (Images (held c.args.self.now))
    (Images c.sync-answer.new.self))
    (ap (λ (m : Memory). folder_of m.files c.args.name.now) (c.self.view_is ∙ c.begin.ensures.counted))
    (goes c.args.self.now c.self.inside.history c.sync-answer.new.self (λ folder. folder)
    (Syncs c.args.name.now (folder_of c.self.inside.history.files c.args.name.now))
    (λ e. DidNot c.self.inside.history c.sync-answer.new.self c.args.name.now e) (λ e not. not.unchanged)
    c.sync-answer.result c.tell.result
    (ap held (c.self.view_is ∙ c.begin.ensures.counted)) c.tell.ensures.answer c.sync-answer.ensures.done).0

pub returns-clause-all : goal.returns-clause-all
returns-clause-all c =
    subst (λ (file : Option (List ℕ)). LeavesAll c.tell.result (Syncs c.args.name.now file) (Images (held c.args.self.now))
    (Images c.sync-answer.new.self))
    (ap (λ (m : Memory). folder_of m.files c.args.name.now) (c.self.view_is ∙ c.begin.ensures.counted))
    (goes c.args.self.now c.self.inside.history c.sync-answer.new.self (λ folder. folder)
    (Syncs c.args.name.now (folder_of c.self.inside.history.files c.args.name.now))
    (λ e. DidNot c.self.inside.history c.sync-answer.new.self c.args.name.now e) (λ e not. not.unchanged)
    c.sync-answer.result c.tell.result
    (ap held (c.self.view_is ∙ c.begin.ensures.counted)) c.tell.ensures.answer c.sync-answer.ensures.done).2

pub returns-clause-ends : goal.returns-clause-ends
returns-clause-ends c =
    let passed : c.begin.result ≡ false = search rules in
    let time = (goes c.args.self.now c.self.inside.history c.sync-answer.new.self (λ folder. folder)
    (Syncs c.args.name.now (folder_of c.self.inside.history.files c.args.name.now))
    (λ e. DidNot c.self.inside.history c.sync-answer.new.self c.args.name.now e) (λ e not. not.unchanged)
    c.sync-answer.result c.tell.result
    (ap held (c.self.view_is ∙ c.begin.ensures.counted)) c.tell.ensures.answer c.sync-answer.ensures.done).1 in
    let counts = told_rose c.sync-answer.result c.tell.result (tally_of c.args.self.now) c.self.inside.tally c.tell.new.self
    (ap tally_of (c.self.view_is ∙ c.begin.ensures.counted ∙ ap
    (begun c.args.self.now) passed)) c.tell.ensures.counted c.tell.ensures.answer in
    record {
      time = record { later = time.later; nothing_else = time.nothing_else; keeps = time.keeps };
      faults = counts.0;
      wants = counts.1;
      lacks = counts.2;
    }
