-- A control on a disk that had none is a new store.
use Rattle.std.proofs.Common.{◌≡◌, ◌≢◌, ◌⊎◌, ℕ, ◌+◌, ◌-◌, Bool, true, false, List, [], ◌++◌, Some, None, IsSome, refl, sym, ◌∙◌, ap, subst, inl, inr, ⊎_elim, arith}
use Rattle.std.proofs.lemmas.Slice.Eq.{bytes_eq-Decides}
use Rattle.std.specs.Prelude.{bytes_eq}
use Rattle.repl_control.specs.Control.{FitsFields, IsControl, control_bytes, fresh_control}
use Rattle.repl_control.specs.declared.control.Role.{Role}
use Rattle.repl_control.specs.declared.control.TheConstants.{VERSION_1_SIZE}
use Rattle.repl_disk.specs.Crash.{Elapses, LeavesOnly, NoneNew}
use Rattle.repl_disk.specs.Folder.{Folder, IfTold, ToldFiles}
use Rattle.repl_disk.specs.Moments.{goes_on, joined, started, weakened}
use Rattle.repl_disk.specs.Replacing.{IsAfter, IsBeforeOrAfter, replaced}
use Rattle.repl_disk.specs.Runs.{told_so}
use Rattle.repl_disk.specs.State.{DiskState}
use Rattle.repl_page.specs.declared.ident.Ident.{Ident}
use Rattle.repl_store.specs.Creating.{IsMade, IsMaking, fresh}
use Rattle.repl_store.specs.Backing.{Backs}
use Rattle.repl_store.specs.Head.{Head, IsMounted}
use Rattle.repl_store.specs.Durable.{Carries, IsKnown, StandsFor, control_aside, control_name}
use Rattle.repl_store.proofs.Carrying.{carries_take}
use Rattle.repl_store.proofs.Hearing.{known_exists}
use Rattle.repl_store.proofs.Names.{history_differs}
use Rattle.repl_store.proofs.Standing.{SameHistories, known_by}
use Rattle.repl_lsn.specs.History.{Path}
use Rattle.repl_lsn.specs.Segment.{history_name}

-- a replacement after a call that only read
pub replaced_later : (old mid new : DiskState) (folder : Folder) (name aside bytes : List ℕ)
    → ((image : Folder) → old.left_since old.moment image → old.may_leave image) → NoneNew old.may_leave mid.may_leave → Elapses old mid
    → mid.files ≡ Some folder → IfTold mid.files (λ f. LeavesOnly mid new (IsBeforeOrAfter mid.may_leave name aside bytes))
    → LeavesOnly old new (IsBeforeOrAfter old.may_leave name aside bytes)
replaced_later old mid new folder name aside bytes only_now none_new time told replaces =
    let P = IsBeforeOrAfter old.may_leave name aside bytes in
    let same : (image : Folder) → old.may_leave image → P image = λ image was. record {
      before = image;
      was = was;
      others = λ other not_name not_aside. refl;
      file = inl refl;
    } in
    let first = goes_on old old mid P (started old P (λ image left. same image (only_now image left))) time
    (λ image now. same image (none_new image now)) in
    joined old mid new P first (weakened mid new (IsBeforeOrAfter mid.may_leave name aside bytes) P
    (told_so mid.files folder (λ f. LeavesOnly mid new (IsBeforeOrAfter mid.may_leave name aside bytes)) told replaces)
    (λ image either. record {
      before = either.before;
      was = none_new either.before either.was;
      others = either.others;
      file = either.file;
    }))

-- two names are the same or not
same_or_not : (a b : List ℕ) → (a ≡ b) ⊎ (a ≢ b)
same_or_not a b = at (bytes_eq a b) refl
  where
    at : (test : Bool) → bytes_eq a b ≡ test → (a ≡ b) ⊎ (a ≢ b)
    at true is = inl ((bytes_eq-Decides a b).0 is)
    at false is = inr (λ same. let k : false ≡ true = sym is ∙ (bytes_eq-Decides a b).1 same in absurd cc)

-- nothing is carried
pub carries_none : (size : ℕ) (folder : Folder) (path : Path) (floor : ℕ) → Carries size folder path floor []
carries_none size folder path floor = record { there = λ i lt. absurd (omega (arith, lt)); same = λ i lt. absurd (omega (arith, lt)) }

module _ (role : Role) (ident : Ident) (fits : FitsFields (fresh_control role ident.sysid ident.magic VERSION_1_SIZE))
    (right : IsControl VERSION_1_SIZE (fresh_control role ident.sysid ident.magic VERSION_1_SIZE)) where
  -- the files stand for a new store that has heard of these timelines
  pub fresh_stands_at : (image : Folder) (known : ℕ)
      → image control_name ≡ Some (control_bytes (fresh_control role ident.sysid ident.magic VERSION_1_SIZE)) → IsKnown image 1 known
      → StandsFor VERSION_1_SIZE image (fresh role ident known)
  fresh_stands_at image known control heard = record {
    control = control;
    fits = fits;
    right = right;
    path = record { own = refl; history = inl (refl, refl); between = λ k d lt. absurd (omega (arith, lt)) };
    counted = refl;
    carries = carries_none VERSION_1_SIZE image (record { own = 1; parents = [] }) VERSION_1_SIZE;
    known = heard;
  }

  pub fresh_stands : (image : Folder)
      → image control_name ≡ Some (control_bytes (fresh_control role ident.sysid ident.magic VERSION_1_SIZE))
      → (known : ℕ) × StandsFor VERSION_1_SIZE image (fresh role ident known)
  fresh_stands image control = let heard = known_exists image 1 in (heard.0, fresh_stands_at image heard.0 control heard.1)

  -- at each moment
  pub making : (old new : DiskState)
      → LeavesOnly old new (IsBeforeOrAfter old.may_leave control_name control_aside
      (control_bytes (fresh_control role ident.sysid ident.magic VERSION_1_SIZE)))
      → LeavesOnly old new (IsMaking old.may_leave role ident)
  making old new moments = weakened old new _ (IsMaking old.may_leave role ident) moments each
    where
      each : (image : Folder) → IsBeforeOrAfter old.may_leave control_name control_aside
          (control_bytes (fresh_control role ident.sysid ident.magic VERSION_1_SIZE)) image → IsMaking old.may_leave role ident image
      each image either = record {
        before = either.before;
        was = either.was;
        is = ⊎_elim (λ (same : image control_name ≡ either.before control_name). inl (stayed same)) (λ made. inr (fresh_stands image made)) either.file;
      }
        where
          stayed : image control_name ≡ either.before control_name → (name : List ℕ) → (name ≡ control_aside → ⊥) → image name ≡ either.before name
          stayed same name not_aside = ⊎_elim (λ (is : name ≡ control_name). ap image is ∙ same ∙ ap either.before (sym is))
              (λ (no : name ≢ control_name). either.others name no not_aside) (same_or_not name control_name)

-- the histories are those from before
pub histories_after : (old : Folder → Type 0) (bytes : List ℕ) (image : Folder) (after : IsAfter old control_name control_aside bytes image)
    → SameHistories after.before image
histories_after old bytes image after tli some small = after.others (history_name tli)
    (λ same. history_differs tli control_name small (λ e. absurd (omega (arith, e))) (sym same))
    (λ same. history_differs tli control_aside small (λ e. absurd (omega (arith, e))) (sym same))

-- ---- the store that was made

-- it and its files hang together, where all images had heard of the same timelines
pub made_backs : (old new : DiskState) (head : Head) (role : Role) (ident : Ident) (known : ℕ)
    → FitsFields (fresh_control role ident.sysid ident.magic VERSION_1_SIZE)
    → IsControl VERSION_1_SIZE (fresh_control role ident.sysid ident.magic VERSION_1_SIZE) → IsMounted head VERSION_1_SIZE (fresh role ident 1)
    → IsSome old.files → IfTold old.files (λ folder. IsMade old new folder (control_bytes (fresh_control role ident.sysid ident.magic VERSION_1_SIZE)))
    → ((image : Folder) → old.may_leave image → IsKnown image 1 known)
    → Backs new head (record { durable = fresh role ident known; unflushed = [] })
made_backs old new head role ident known fits right is some made heard = at old.files refl some
  where
    carried : (folder : Folder) → Carries head.size folder head.path head.control.floor ([] ++ [])
    carried folder = carries_none head.size folder head.path head.control.floor

    at : (told : ToldFiles) → told ≡ old.files → IsSome told → Backs new head (record { durable = fresh role ident known; unflushed = [] })
    at None same there = absurd (let k = there in cc)
    at (Some folder) same there =
        let is_made = told_so old.files folder (λ f. IsMade old new f (control_bytes (fresh_control role ident.sysid ident.magic VERSION_1_SIZE)))
        (sym same) made in
        record {
          folder = replaced folder control_name control_aside (control_bytes (fresh_control role ident.sysid ident.magic VERSION_1_SIZE));
          told = is_made.reads;
          control = sym is.same_control;
          path = sym is.same_path;
          counted = ap (λ c. c.floor + 0) is.same_control ∙ ap (λ c. c.flushed) (sym is.same_control);
          written = ap (λ c. c.flushed + 0) is.same_control ∙ sym is.flushed.0;
          reads = carried (replaced folder control_name control_aside (control_bytes (fresh_control role ident.sysid ident.magic VERSION_1_SIZE)));
          images = λ image now.
              let after = is_made.images image now in
              let known_is = known_by 1 known after.before image (omega arith) (histories_after old.may_leave _ image after) (heard after.before after.was) in
              record {
                stands = let P : ℕ → Type 0 = λ n. StandsFor n image (fresh role ident known) in
                    subst P (sym is.same_size) (fresh_stands_at role ident fits right image known after.file known_is);
                synced = carries_take head.size head.path head.control.floor [] image (head.synced - head.control.floor) (carried image);
              };
        }
