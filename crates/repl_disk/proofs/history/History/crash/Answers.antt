-- What a crash leaves of the files: all that they read, or what is certain of them.
use Rattle.std.proofs.Common.{◌∙◌, List, ap, sym, map}
use Rattle.std.proofs.lemmas.Bool.{true≢false}
use Rattle.repl_disk.proofs.history.History.crash.Goals as goal
use Rattle.repl_disk.proofs.history.History.crash.Goals.{then-keep, else-keep}
use Rattle.repl_disk.proofs.Crashes.{left, settled_folder, settled_tied, settled_ordered, reverted_folder, reverted_tied, reverted_ordered, tied_now}
use Rattle.repl_disk.specs.Files.{folder_of}
use Rattle.repl_disk.specs.Memory.{Held, certain}
use Rattle.repl_disk.specs.Stored.{Stored, settled, is_kept}
use Rattle.std.proofs.Common.{filter}

pub invariant_of-result : goal.invariant_of-result
invariant_of-result c =
    elim c.if-keep.branch [
      | then-keep w ↦ tied_now c.if-keep.files.items (map settled c.self.inside.files.items) c.new.result.calls c.new.ensures
          (ap (λ v. v.items) w.files-is ∙ w.settle_all.ensures) (settled_ordered c.self.inside.files.items c.self.invariant.0)
          (settled_tied c.self.inside.files.items)
      | else-keep w ↦ tied_now c.if-keep.files.items (left c.self.inside.files.items) c.new.result.calls c.new.ensures
          (ap (λ v. v.items) w.files-is ∙ w.revert_all.ensures) (reverted_ordered c.self.inside.files.items c.self.invariant.0)
          (reverted_tied (filter is_kept c.self.inside.files.items))
    ]

pub returns-clause-kept : goal.returns-clause-kept
returns-clause-kept c =
    elim c.if-keep.branch [
      | then-keep w ↦ (λ keep. ap (λ v. folder_of v.items) w.files-is ∙ ap (λ (l : List Stored). folder_of l) w.settle_all.ensures
          ∙ settled_folder c.self.inside.files.items ∙ ap (λ (h : Held). folder_of h.files) c.self.view_is)
      | else-keep w ↦ (λ keep. absurd (true≢false (sym keep ∙ w.if-keep.false)))
    ]

pub returns-clause-lost : goal.returns-clause-lost
returns-clause-lost c =
    elim c.if-keep.branch [
      | then-keep w ↦ (λ lose. absurd (true≢false (sym w.if-keep.true ∙ lose)))
      | else-keep w ↦ (λ lose. ap (λ v. folder_of v.items) w.files-is ∙ ap (λ (l : List Stored). folder_of l) w.revert_all.ensures
          ∙ reverted_folder c.self.inside.files.items c.self.invariant.0 ∙ sym c.self.invariant.1 ∙ ap
          (λ (h : Held). certain h.calls (folder_of h.files)) c.self.view_is)
    ]
