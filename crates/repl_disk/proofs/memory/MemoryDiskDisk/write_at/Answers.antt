-- What the call leaves, and that its errors are counted.
use Rattle.std.proofs.Common.{◌≡◌, ◌∙◌, ap, false, rules, length}
use Rattle.repl_disk.proofs.memory.MemoryDiskDisk.write_at.Goals as goal
use Rattle.repl_disk.proofs.Images.{goes, held, tally_of, told_rose}
use Rattle.repl_disk.specs.declared.disk.DiskError.TheVariants as error
use Rattle.repl_disk.specs.Crash.{Tears}
use Rattle.repl_disk.specs.Folder.{written}
use Rattle.repl_disk.specs.Memory.{begun}

pub returns-clause-crash : goal.returns-clause-crash
returns-clause-crash c =
    (goes c.args.self.now c.self.inside.history c.write_at-answer.new.self
    (λ folder. written folder c.args.name.now c.args.at c.args.bytes.now)
    (Tears c.args.name.now c.args.at (length c.args.bytes.now))
    (λ e. (e ≡ error.Memory) × (c.write_at-answer.new.self ≡ c.self.inside.history)) (λ e not. not.1)
    c.write_at-answer.result c.tell-2.result
    (ap held (c.self.view_is ∙ c.begin.ensures.counted)) c.tell-2.ensures.answer c.write_at-answer.ensures).0

pub returns-clause-all : goal.returns-clause-all
returns-clause-all c =
    (goes c.args.self.now c.self.inside.history c.write_at-answer.new.self
    (λ folder. written folder c.args.name.now c.args.at c.args.bytes.now)
    (Tears c.args.name.now c.args.at (length c.args.bytes.now))
    (λ e. (e ≡ error.Memory) × (c.write_at-answer.new.self ≡ c.self.inside.history)) (λ e not. not.1)
    c.write_at-answer.result c.tell-2.result
    (ap held (c.self.view_is ∙ c.begin.ensures.counted)) c.tell-2.ensures.answer c.write_at-answer.ensures).2

pub returns-clause-ends : goal.returns-clause-ends
returns-clause-ends c =
    let passed : c.begin.result ≡ false = search rules in
    let time = (goes c.args.self.now c.self.inside.history c.write_at-answer.new.self
    (λ folder. written folder c.args.name.now c.args.at c.args.bytes.now)
    (Tears c.args.name.now c.args.at (length c.args.bytes.now))
    (λ e. (e ≡ error.Memory) × (c.write_at-answer.new.self ≡ c.self.inside.history)) (λ e not. not.1)
    c.write_at-answer.result c.tell-2.result
    (ap held (c.self.view_is ∙ c.begin.ensures.counted)) c.tell-2.ensures.answer c.write_at-answer.ensures).1 in
    let counts = told_rose c.write_at-answer.result c.tell-2.result (tally_of c.args.self.now) c.self.inside.tally c.tell-2.new.self
    (ap tally_of (c.self.view_is ∙ c.begin.ensures.counted ∙ ap
    (begun c.args.self.now) passed)) c.tell-2.ensures.counted c.tell-2.ensures.answer in
    record {
      time = record { later = time.later; nothing_else = time.nothing_else; keeps = time.keeps };
      faults = counts.0;
      wants = counts.1;
      lacks = counts.2;
    }
