-- What `init` does, from what the making of a node and the writing of the line did.
use Rattle.std.proofs.Common.{◌≡◌, ◌⊎◌, ℕ, List, [], Option, Some, None, IsSome, Err, refl, sym, ◌∙◌, ap, subst, inl, inr, ⊎_elim}
use Rattle.repl_control.specs.declared.control.Role.{Role}
use Rattle.repl_control.specs.declared.control.TheConstants.{VERSION_1_SIZE}
use Rattle.repl_effects.specs.Counts.{Rose, Stood}
use Rattle.repl_disk.specs.Crash.{LeavesOnly}
use Rattle.repl_disk.specs.Folder.{Folder, IfTold, ToldFiles}
use Rattle.repl_disk.specs.Runs.{told_so, where_told}
use Rattle.repl_disk.specs.State.{DiskState}
use Rattle.repl_io.specs.Sink.{SinkState, Sends}
use Rattle.repl_io.specs.declared.sink.Sent.{Sent}
use Rattle.repl_node.proofs.Begun.{is_some_as}
use Rattle.repl_node.specs.Holding.{HeldNode, Holds}
use Rattle.repl_node.specs.Making.{IsBegun, SlotsAgree, mounted_node}
use Rattle.repl_page.specs.declared.ident.Ident.{Ident}
use Rattle.repl_store.specs.Creating.{IsUnmade as IsNoStore, fresh}
use Rattle.repl_store.specs.Durable.{IsKnown, StandsFor, control_name}
use Rattle.repl_store.specs.declared.fault.StoreFault.{StoreFault}
use Rattle.repl_store.specs.declared.fault.StoreFault.TheVariants as fault
use Rattle.repl_admin.proofs.Ending.{disk_ends, done_of, failure_told, memory_ends, printed_ends, printed_faults, refusal_faults, refused_quiet, told_as}
use Rattle.repl_admin.specs.Damages.{IsToldOf, IsToldOfNode}
use Rattle.repl_admin.specs.Lines.{ok_line}
use Rattle.repl_admin.specs.Printing.{IsPrinted}
use Rattle.repl_admin.specs.Tending.{Damage, Ends, Initiated, IsCalm, IsNew, TellsFaults, sent_end}
use Rattle.repl_admin.specs.declared.tended.Tended.{Tended}
use Rattle.repl_admin.specs.declared.tended.Tended.TheVariants as tended
use Rattle.repl_wal.specs.Faults.{of_store}
use Rattle.repl_wal.specs.Making.{IsMadeOf, IsUnmade}
use Rattle.repl_wal.specs.declared.fault.NodeFault.{NodeFault}
use Rattle.repl_wal.specs.declared.fault.NodeFault.TheVariants as node

-- a file is not missing and there at once
not_there : (file : Option (List ℕ)) → file ≡ None → IsSome file → ⊥
not_there None none there = cc
not_there (Some bytes) none there = cc

-- no damage
abbrev none_wrong : Damage
none_wrong name place why = ⊥

module _ (role : Role) (ident : Ident) (old new : DiskState) where
  abbrev EndsAt : Tended → SinkState → SinkState → Folder → Type 0
  EndsAt end w w' folder = Ends (IsNew role ident folder old new) (λ _. ok_line) (IsSome (folder control_name)) none_wrong
      (Rose old.faults new.faults) end w w'

  -- which ends are left where a store is there, and nothing is faulty
  left_there : (folder : Folder) (end : Tended) (w w' : SinkState) → EndsAt end w w' folder → IsSome (folder control_name) → IsCalm old new w w'
      → (end ≡ tended.Exists) ⊎ (end ≡ tended.Memory)
  left_there folder tended.Done w w' ends there calm = absurd (not_there (folder control_name) (ends.1).none there)
  left_there folder (tended.Damaged name place why) w w' ends there calm = absurd ends.0
  left_there folder tended.Exists w w' ends there calm = inl refl
  left_there folder tended.DiskFault w w' ends there calm = absurd (calm.0 ends.0)
  left_there folder tended.WriteFault w w' ends there calm = absurd (calm.1 ends.0)
  left_there folder tended.Memory w w' ends there calm = inr refl

  initiated_of : (end : Tended) (w w' : SinkState) → IfTold old.files (EndsAt end w w')
      → IfTold old.files (λ folder. LeavesOnly old new (IsBegun old.may_leave role ident)) → TellsFaults end old new w w'
      → Initiated role ident end old new w w'
  initiated_of end w w' ends moments faults = record {
    ends = ends;
    moments = moments;
    faults = faults;
    complete = λ folder told none calm.
        done_of (IsNew role ident folder old new) (λ _. ok_line) (IsSome (folder control_name)) none_wrong (Rose old.faults new.faults) end w w'
        (told_so old.files folder (EndsAt end w w') told ends) calm.0 calm.1 (λ name place why bad. bad) (not_there (folder control_name) none);
    there = λ folder told there calm. left_there folder end w w' (told_so old.files folder (EndsAt end w w') told ends) there calm;
  }

  -- what a new node is
  pub new_node : {D : Type 0} (held : HeldNode D) → IfTold old.files (λ folder. (folder control_name ≡ None)
      × ((image : Folder) → new.may_leave image → (known : ℕ) × StandsFor VERSION_1_SIZE image (fresh role ident known)))
      → ((known : ℕ) → IsSome old.files → SlotsAgree old → ((image : Folder) → old.may_leave image → IsKnown image 1 known)
      → Holds new held (mounted_node VERSION_1_SIZE (fresh role ident known) [])) → IfTold old.files (λ folder. IsNew role ident folder old new tt)
  new_node held made holds =
      where_told old.files (λ folder. IsNew role ident folder old new tt) (λ folder told.
      let at = told_so old.files folder (λ f. (f control_name ≡ None)
      × ((image : Folder) → new.may_leave image → (known : ℕ) × StandsFor VERSION_1_SIZE image (fresh role ident known))) told made in
      record {
        none = at.0;
        images = at.1;
        slots = λ known agree all. (holds known (is_some_as old.files folder told) agree all).stored refl refl;
      })

  -- it is made, and its line is written
  pub made_initiated : (sent : Sent) (w w' : SinkState) → IfTold old.files (λ folder. IsNew role ident folder old new tt)
      → IfTold old.files (λ folder. LeavesOnly old new (IsBegun old.may_leave role ident)) → Stood old.faults new.faults
      → Sends sent ok_line w w' → Initiated role ident (sent_end sent) old new w w'
  made_initiated sent w w' made moments stood sends =
      let end = sent_end sent in
      let printed : IsPrinted ok_line (sent_end sent) w w' = inl (sent, refl, sends) in
      initiated_of end w w'
      (where_told old.files (EndsAt end w w') (λ folder told.
      printed_ends (IsNew role ident folder old new) (λ _. ok_line) (IsSome (folder control_name)) none_wrong (Rose old.faults new.faults) tt end w w'
      (told_so old.files folder (λ f. IsNew role ident f old new tt) told made) printed))
      moments (printed_faults ok_line end old new w w' printed stood)

  -- no store is made
  module _ (told : ToldFiles) where
    unmade_failed : (f : StoreFault) (end : Tended) → IsNoStore told f → IsToldOf f end → end ≡ tended.DiskFault → f ≡ fault.DiskFault
    unmade_failed fault.Broken end none is failed = absurd none
    unmade_failed fault.Exists end none is failed = absurd (let same : tended.Exists ≡ tended.DiskFault = sym is ∙ failed in cc)
    unmade_failed (fault.Missing name) end none is failed = absurd none
    unmade_failed (fault.BadControl place) end none is failed = absurd none
    unmade_failed (fault.BadHistory tli wrong) end none is failed = absurd none
    unmade_failed (fault.ShortFile name have wanted) end none is failed = absurd none
    unmade_failed fault.DiskFault end none is failed = refl
    unmade_failed fault.Memory end none is failed = absurd (let same : tended.Memory ≡ tended.DiskFault = sym is ∙ failed in cc)

  unmade_ends : (folder : Folder) (f : StoreFault) (end : Tended) (w : SinkState) → IsNoStore (Some folder) f → IsToldOf f end
      → (f ≡ fault.DiskFault → Rose old.faults new.faults) → EndsAt end w w folder
  unmade_ends folder fault.Broken end w none is rose = absurd none
  unmade_ends folder fault.Exists end w none is rose = rw is ((none, refl))
  unmade_ends folder (fault.Missing name) end w none is rose = absurd none
  unmade_ends folder (fault.BadControl place) end w none is rose = absurd none
  unmade_ends folder (fault.BadHistory tli wrong) end w none is rose = absurd none
  unmade_ends folder (fault.ShortFile name have wanted) end w none is rose = absurd none
  unmade_ends folder fault.DiskFault end w none is rose =
      disk_ends (IsNew role ident folder old new) (λ _. ok_line) (IsSome (folder control_name)) none_wrong (Rose old.faults new.faults) end w is (rose refl)
  unmade_ends folder fault.Memory end w none is rose =
      memory_ends (IsNew role ident folder old new) (λ _. ok_line) (IsSome (folder control_name)) none_wrong (Rose old.faults new.faults) end w is

  pub unmade_initiated : {A : Type 0} (e : NodeFault) (end : Tended) (w : SinkState) → IsUnmade old.files e → IsToldOfNode e end
      → IfTold old.files (λ folder. LeavesOnly old new (IsBegun old.may_leave role ident)) → IsMadeOf {A = A} (Err e) old new
      → (e ≡ node.DiskFault) ⊎ Stood old.faults new.faults → Initiated role ident end old new w w
  unmade_initiated {A} e end w unmade told moments caused others =
      let f = unmade.0 in
      let is : IsToldOf unmade.0 end = told_as unmade.0 end (subst (λ (x : NodeFault). IsToldOfNode x end) unmade.1 told) in
      let failed : unmade.0 ≡ fault.DiskFault → Rose old.faults new.faults ⊎ ((old.files ≡ None) × Rose old.lacks new.lacks) =
      λ same. caused.failed (ap (λ (x : NodeFault). Err x) (unmade.1 ∙ ap of_store same)) in
      initiated_of end w w
      (where_told old.files (EndsAt end w w) (λ folder files.
      unmade_ends folder f end w (subst (λ (t : ToldFiles). IsNoStore t unmade.0) files unmade.2) is
      (λ same. ⊎_elim (λ rose. rose) (λ lack. absurd (let both : Some folder ≡ None = sym files ∙ lack.0 in cc)) (failed same))))
      moments
      (refusal_faults end old new w (refused_quiet f end is)
      (λ ends. ⊎_elim inl (λ lack. inr lack.1) (failed (unmade_failed old.files f end unmade.2 is ends)))
      (⊎_elim (λ same. inl (failure_told f end is (failure_of f (sym unmade.1 ∙ same)))) inr others))
    where
      failure_of : (f : StoreFault) → of_store f ≡ node.DiskFault → f ≡ fault.DiskFault
      failure_of fault.DiskFault same = refl
      failure_of f same = absurd cc
