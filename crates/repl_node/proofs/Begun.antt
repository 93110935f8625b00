-- A new node on a disk without a control, from which the slots were removed.
use Rattle.std.proofs.Common.{◌≡◌, ℕ, List, [], Option, Some, None, IsSome, ◌⊎◌, inl, inr, ⊎_elim, refl, sym, ◌∙◌, subst}
use Rattle.repl_control.specs.declared.control.Role.{Role}
use Rattle.repl_disk.specs.Crash.{LeavesOnly}
use Rattle.repl_disk.specs.Folder.{Folder, IfTold, ToldFiles}
use Rattle.repl_disk.specs.Moments.{joined, weakened}
use Rattle.repl_disk.specs.Runs.{told_so, where_told}
use Rattle.repl_disk.specs.State.{DiskState}
use Rattle.repl_lsn.specs.Segment.{history_name}
use Rattle.repl_page.specs.declared.ident.Ident.{Ident}
use Rattle.repl_slots.specs.Stored.{StoredIn, slots_name}
use Rattle.repl_store.proofs.Apart.{history_is_own}
use Rattle.repl_store.specs.Apart.{IsLikeOne, StaysApart}
use Rattle.repl_store.specs.Creating.{IsMaking}
use Rattle.repl_store.specs.Durable.{IsKnown}
use Rattle.repl_node.specs.Holding.{AllStore}
use Rattle.repl_node.specs.Making.{HasNoSlots, IsBegun, IsCleared, IsClearing, SlotsAgree}
use Rattle.repl_node.proofs.Passing.{both}

-- the slots of an image are those of one from before, or gone
slots_of : (old : Folder → Type 0) (b image : Folder) (cleared : IsClearing old b) → image slots_name ≡ b slots_name
    → (image slots_name ≡ cleared.before slots_name) ⊎ (image slots_name ≡ None)
slots_of old b image cleared same = ⊎_elim (λ was. inl (same ∙ was)) (λ gone. inr (same ∙ gone)) cleared.slots

-- an image that is left while the slots go
pub begun_cleared : (old : Folder → Type 0) (role : Role) (ident : Ident) (image : Folder) → IsClearing old image → IsBegun old role ident image
begun_cleared old role ident image cleared = record {
  before = cleared.before;
  was = cleared.was;
  is = inl (λ name aside slots. cleared.others name slots);
  slots = cleared.slots;
}

-- one that is left while the store is made
pub begun_made : (old mid : Folder → Type 0) (role : Role) (ident : Ident) → ((image : Folder) → mid image → IsClearing old image)
    → (image : Folder) → IsMaking mid role ident image × IsLikeOne mid image → IsBegun old role ident image
begun_made old mid role ident clear image (making, like) =
    elim making.is [
      | inl others ↦
          let cleared = clear making.before making.was in
          record {
            before = cleared.before;
            was = cleared.was;
            is = inl (λ name aside slots. others name aside ∙ cleared.others name slots);
            slots = slots_of old making.before image cleared (others slots_name (λ is. absurd cc));
          }
      | inr store ↦
          let cleared = clear like.0 like.1 in
          record {
            before = cleared.before;
            was = cleared.was;
            is = inr store;
            slots = slots_of old like.0 image cleared (like.2 slots_name (inl refl));
          }
    ]

-- a crash at any moment of both
pub begun_moments : (old mid new : DiskState) (role : Role) (ident : Ident) → IfTold old.files (λ folder. IsCleared old mid folder)
    → IfTold old.files (λ folder. LeavesOnly old mid (IsClearing old.may_leave))
    → IfTold mid.files (λ folder. LeavesOnly mid new (IsMaking mid.may_leave role ident)) → StaysApart mid new
    → IfTold old.files (λ folder. LeavesOnly old new (IsBegun old.may_leave role ident))
begun_moments old mid new role ident cleared first second apart =
    where_told old.files (λ folder. LeavesOnly old new (IsBegun old.may_leave role ident)) (λ folder told.
    let slots = (told_so old.files folder (λ f. IsCleared old mid f) told cleared).slots in
    let Q = IsBegun old.may_leave role ident in
    let at = told_so mid.files slots.after (λ f. LeavesOnly mid new (IsMaking mid.may_leave role ident)) slots.told second in
    let like = told_so mid.files slots.after (λ f. LeavesOnly mid new (IsLikeOne mid.may_leave)) slots.told apart.moments in
    joined old mid new Q
    (weakened old mid (IsClearing old.may_leave) Q (told_so old.files folder (λ f. LeavesOnly old mid (IsClearing old.may_leave)) told first)
    (begun_cleared old.may_leave role ident))
    (weakened mid new (λ image. IsMaking mid.may_leave role ident image × IsLikeOne mid.may_leave image) Q
    (both mid new (IsMaking mid.may_leave role ident) (IsLikeOne mid.may_leave) at like)
    (begun_made old.may_leave mid.may_leave role ident slots.images)))

-- the same where the slots alone went
pub cleared_begun : (old mid : DiskState) (role : Role) (ident : Ident) → IfTold old.files (λ folder. LeavesOnly old mid (IsClearing old.may_leave))
    → IfTold old.files (λ folder. LeavesOnly old mid (IsBegun old.may_leave role ident))
cleared_begun old mid role ident first =
    where_told old.files (λ folder. LeavesOnly old mid (IsBegun old.may_leave role ident)) (λ folder told.
    weakened old mid (IsClearing old.may_leave) (IsBegun old.may_leave role ident)
    (told_so old.files folder (λ f. LeavesOnly old mid (IsClearing old.may_leave)) told first) (begun_cleared old.may_leave role ident))

-- ---- what is known of it

-- a disk that tells its files tells some
pub some_folder : (told : ToldFiles) → IsSome told → (folder : Folder) × (told ≡ Some folder)
some_folder None is = absurd cc
some_folder (Some folder) is = (folder, refl)

pub is_some_as : (told : ToldFiles) (folder : Folder) → told ≡ Some folder → IsSome told
is_some_as told folder is = subst (λ (t : ToldFiles). IsSome t) (sym is) refl

some_at : (a b : Option (List ℕ)) → a ≡ b → IsSome b → IsSome a
some_at a b is = subst (λ o. IsSome o) (sym is)

-- it has heard of the same timelines
pub known_on : (old : Folder → Type 0) (image : Folder) (own known : ℕ) → ((before : Folder) → old before → IsKnown before own known)
    → IsClearing old image → IsKnown image own known
known_on old image own known all cleared =
    let was = all cleared.before cleared.was in
    let at = λ (tli : ℕ). cleared.others (history_name tli) (λ is. history_is_own tli (inl is)) in
    record {
      above = was.above;
      is = ⊎_elim inl (λ heard. inr (heard.0, some_at (image (history_name known)) (cleared.before (history_name known)) (at known) heard.1)) was.is;
      all = λ tli some small there. was.all tli some small (some_at (cleared.before (history_name tli)) (image (history_name tli)) (sym (at tli)) there);
    }

-- and no slots
pub without_slots : (old mid new : DiskState) (folder : Folder) → HasNoSlots old mid folder → SlotsAgree old → StaysApart mid new → AllStore new []
without_slots old mid new folder slots agree apart image left =
    let like = told_so mid.files slots.after (λ f. (i : Folder) → new.may_leave i → IsLikeOne mid.may_leave i) slots.told apart.now image left in
    subst (λ o. StoredIn [] o) (sym (like.2 slots_name (inl refl) ∙ slots.agrees agree like.0 like.1)) refl
