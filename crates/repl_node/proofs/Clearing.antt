-- Removing the slots of a disk that has no control.
use Rattle.std.proofs.Common.{◌≡◌, Result, Ok, Err, None, inl, inr, refl, sym, ap, ◌∙◌, subst}
use Rattle.std.specs.Option.{option_map}
use Rattle.repl_disk.specs.Answers.{Leaves, Removed}
use Rattle.repl_disk.specs.Crash.{Elapses, LeavesOnly, NoneNew, Removes}
use Rattle.repl_disk.specs.Folder.{Folder, IfTold, Stayed, put}
use Rattle.repl_disk.specs.Moments.{goes_on, started}
use Rattle.repl_disk.specs.Runs.{told_so, where_told}
use Rattle.repl_disk.specs.State.{DiskState}
use Rattle.repl_disk.specs.Steps.{put_at, put_other}
use Rattle.repl_disk.specs.declared.disk.DiskError.{DiskError}
use Rattle.repl_disk.specs.declared.disk.DiskError.TheVariants as error
use Rattle.repl_slots.specs.Stored.{slots_name}
use Rattle.repl_node.specs.Making.{HasNoSlots, IsClearing}

same_image : (images : Folder → Type 0) (image : Folder) → images image → IsClearing images image
same_image images image was = record { before = image; was = was; others = λ name differ. refl; slots = inl refl }

removed_image : (images : Folder → Type 0) (before image : Folder) → images before → image ≡ put before slots_name None → IsClearing images image
removed_image images before image was is = record {
  before = before;
  was = was;
  others = λ name differ. ap (λ (f : Folder). f name) is ∙ put_other before slots_name name None differ;
  slots = inr (ap (λ (f : Folder). f slots_name) is ∙ put_at before slots_name None);
}

-- what a removal of the slots leaves, whatever it answers
pub left_by : {A : Type 0} (result : Result A DiskError) (old new : Folder → Type 0) → Leaves result (Removes slots_name) old new
    → (image : Folder) → new image → IsClearing old image
left_by (Ok x) old new leaves image left = let one = leaves image left in removed_image old one.0 image one.1 one.2
left_by (Err error.Missing) old new leaves image left = same_image old image (leaves image left)
left_by (Err error.Failed) old new leaves image left =
    let one = leaves image left in
    elim one.2 [
      | inl same ↦ same_image old image (subst old (sym same) one.1)
      | inr is ↦ removed_image old one.0 image one.1 is
    ]
left_by (Err error.Memory) old new leaves image left = same_image old image (leaves image left)

-- an image of a disk that only looked whether there is a control
of_mid : (old mid : Folder → Type 0) → NoneNew old mid → (image : Folder) → IsClearing mid image → IsClearing old image
of_mid old mid none image is = record { before = is.before; was = none is.before is.was; others = is.others; slots = is.slots }

-- a crash at any moment of both
pub cleared_moments : (old mid new : DiskState) → ((image : Folder) → old.left_since old.moment image → old.may_leave image)
    → Stayed old.files mid.files → NoneNew old.may_leave mid.may_leave → Elapses old mid → Elapses mid new
    → IfTold mid.files (λ folder. (image : Folder) → new.may_leave image → IsClearing mid.may_leave image)
    → IfTold old.files (λ folder. LeavesOnly old new (IsClearing old.may_leave))
cleared_moments old mid new only stayed none first second leaves =
    where_told old.files (λ folder. LeavesOnly old new (IsClearing old.may_leave)) (λ folder told.
    let P = IsClearing old.may_leave in
    let all = told_so mid.files folder (λ f. (image : Folder) → new.may_leave image → IsClearing mid.may_leave image) (stayed ∙ told) leaves in
    goes_on old mid new P
    (goes_on old old mid P (started old P (λ image left. same_image old.may_leave image (only image left))) first
    (λ image left. same_image old.may_leave image (none image left))) second
    (λ image left. of_mid old.may_leave mid.may_leave none image (all image left)))

-- a removal of the slots
pub left_told : {A : Type 0} (result : Result A DiskError) (old new : DiskState)
    → IfTold old.files (λ folder. Leaves result (Removes slots_name) old.may_leave new.may_leave)
    → IfTold old.files (λ folder. (image : Folder) → new.may_leave image → IsClearing old.may_leave image)
left_told result old new leaves =
    where_told old.files (λ folder. (image : Folder) → new.may_leave image → IsClearing old.may_leave image) (λ folder told.
    left_by result old.may_leave new.may_leave (told_so old.files folder (λ f. Leaves result (Removes slots_name) old.may_leave new.may_leave) told leaves))

-- done, or nothing to do
pub none_left : (old new : DiskState) → Removed {A = Unit {0}} (Ok tt) old.files new.files slots_name
    → IfTold old.files (λ folder. Leaves {A = Unit {0}} (Ok tt) (Removes slots_name) old.may_leave new.may_leave)
    → IfTold old.files (λ folder. HasNoSlots old new folder)
none_left old new removed leaves =
    where_told old.files (λ folder. HasNoSlots old new folder) (λ folder told.
    let all = told_so old.files folder (λ f. Leaves {A = Unit {0}} (Ok tt) (Removes slots_name) old.may_leave new.may_leave) told leaves in
    record {
      after = put folder slots_name None;
      told = removed ∙ ap (option_map (λ (f : Folder). put f slots_name None)) told;
      others = λ name differ. put_other folder slots_name name None differ;
      none = put_at folder slots_name None;
      images = left_by {A = Unit {0}} (Ok tt) old.may_leave new.may_leave all;
      agrees = λ agree image left. let one = all image left in ap (λ (f : Folder). f slots_name) one.2 ∙ put_at one.0 slots_name None;
    })

pub none_there : (old new : DiskState) → Stayed old.files new.files → IfTold old.files (λ folder. folder slots_name ≡ None)
    → IfTold old.files (λ folder. NoneNew old.may_leave new.may_leave) → IfTold old.files (λ folder. HasNoSlots old new folder)
none_there old new stayed missing none =
    where_told old.files (λ folder. HasNoSlots old new folder) (λ folder told.
    let no = told_so old.files folder (λ f. f slots_name ≡ None) told missing in
    let all = told_so old.files folder (λ f. NoneNew old.may_leave new.may_leave) told none in
    record {
      after = folder;
      told = stayed ∙ told;
      others = λ name differ. refl;
      none = no;
      images = λ image left. same_image old.may_leave image (all image left);
      agrees = λ agree image left.
          told_so old.files folder (λ f. f slots_name ≡ None → (i : Folder) → old.may_leave i → i slots_name ≡ None) told agree no image (all image left);
    })
