-- A file that is written aside: each image is one from before, but for that file.
use Rattle.std.proofs.Common.{◌≡◌, ◌≢◌, ℕ, List, Option, Some, None, Ok, Err, Result, OnOk, IfErr, codes, length, refl, sym, ◌∙◌, ap, subst, inl, inr, ⊎_elim, arith}
use Rattle.std.proofs.lemmas.List.{length-append}
use Rattle.repl_disk.specs.Folder.{Folder, ToldFiles}
use Rattle.repl_disk.specs.Crash.{Syncs, Moves, Either, Follows}
use Rattle.repl_disk.specs.Answers.{Leaves}
use Rattle.repl_disk.specs.Replacing.{IsAside, HasAside, IsHalfAside, IsBeforeOrAfter, IsAfter, IsHalfDone, temporary}
use Rattle.repl_disk.specs.declared.disk.DiskError.{DiskError}
use Rattle.repl_disk.specs.declared.disk.DiskError.TheVariants as error
use Rattle.repl_disk.specs.Steps.{KeepsOthers, keeps_sync, moved_at, moves_other, put_at}

abbrev pub AllAside : (Folder → Type 0) → List ℕ → (Folder → Type 0) → Type 0
AllAside old name new = (image : Folder) → new image → IsAside old name image

pub at_first : (old : Folder → Type 0) (name : List ℕ) → AllAside old name old
at_first old name image was = record { before = image; was = was; others = λ other differ. refl }

pub follows_aside : (name : List ℕ) (step : Folder → Folder → Type 0) (old mid new : Folder → Type 0) → KeepsOthers name step
    → Follows step mid new → AllAside old name mid → AllAside old name new
follows_aside name step old mid new keeps follows all image now =
    let from = follows image now in
    let was = all from.0 from.1 in
    record { before = was.before; was = was.was; others = λ other differ. keeps from.0 image from.2 other differ ∙ was.others other differ }

-- so an image stays aside after a step
pub steps_aside : (old : Folder → Type 0) (name : List ℕ) (step : Folder → Folder → Type 0) → KeepsOthers name step
    → (before image : Folder) → IsAside old name before → step before image → IsAside old name image
steps_aside old name step keeps before image was done = record {
  before = was.before;
  was = was.was;
  others = λ other differ. keeps before image done other differ ∙ was.others other differ;
}

-- after a sync the file is as it reads
pub synced_aside : (name bytes : List ℕ) (file : Option (List ℕ)) (old mid new : Folder → Type 0) → file ≡ Some bytes
    → Follows (Syncs name file) mid new → AllAside old name mid → HasAside old new name bytes
synced_aside name bytes file old mid new is follows all image now =
    let from = follows image now in (
      follows_aside name (Syncs name file) old mid new (keeps_sync name file) follows all image now,
      ap (λ f. f name) from.2
          ∙ put_at from.0 name file ∙ is,
    )

-- ---- where a call is done

pub on_ok : {A E : Type 0} (result : Result A E) (P : Type 0) → ((x : A) → result ≡ Ok x → P) → OnOk result P
on_ok (Ok x) P h = h x refl
on_ok (Err e) P h = tt

pub leaves_ok : {A : Type 0} (result : Result A DiskError) (x : A) → result ≡ Ok x
    → (step : Folder → Folder → Type 0) (old new : Folder → Type 0) → Leaves result step old new → Follows step old new
leaves_ok {A = A} result x ok step old new leaves = let Q : Result A DiskError → Type 0 = λ r. Leaves r step old new in let k : Q
    (Ok x) = subst Q ok leaves in k

-- ---- the file that is replaced

-- the other name is not the name itself
pub temporary_differs : (name : List ℕ) → name ≢ temporary name
temporary_differs name same = absurd (omega (arith, ap length same, length-append name (codes ".tmp")))

module _ (name aside bytes : List ℕ) where
  -- aside is before
  pub aside_is_before : name ≢ aside → (old : Folder → Type 0) (image : Folder) → IsAside old aside image
      → IsBeforeOrAfter old name aside bytes image
  aside_is_before differs old image was = record {
    before = was.before;
    was = was.was;
    others = λ other _ differ. was.others other differ;
    file = inl (was.others name differs);
  }

  -- the bytes aside are moved over the name
  pub moved_is_after : (old mid new : Folder → Type 0) → HasAside old mid aside bytes → Follows (Moves aside name) mid new
      → (image : Folder) → new image → IsAfter old name aside bytes image
  moved_is_after old mid new has follows image now =
      let from = follows image now in
      let was = has from.0 from.1 in
      record {
        before = was.0.before;
        was = was.0.was;
        others = λ other not_name not_aside. moves_other aside name other from.0 image not_aside not_name from.2
            ∙ was.0.others other not_aside;
        file = ap (λ f. f name) from.2 ∙ moved_at from.0 aside name ∙ was.1;
      }

  pub after_is_either : (old : Folder → Type 0) (image : Folder) → IsAfter old name aside bytes image
      → IsBeforeOrAfter old name aside bytes image
  after_is_either old image after = record { before = after.before; was = after.was; others = after.others; file = inr after.file }

  abbrev pub AllEither : (Folder → Type 0) → (Folder → Type 0) → Type 0
  AllEither old new = (image : Folder) → new image → IsBeforeOrAfter old name aside bytes image

  -- a move that may not have been done
  follows_either : name ≢ aside → (old mid new : Folder → Type 0) → HasAside old mid aside bytes
      → Follows (Either (Moves aside name)) mid new → AllEither old new
  follows_either differs old mid new has follows image now =
      let from = follows image now in
      let stayed : image ≡ from.0 → IsBeforeOrAfter old name aside bytes image = λ same. aside_is_before differs old image
      (subst (IsAside old aside) (sym same) (has from.0 from.1).0) in
      let gone : Moves aside name from.0 image → IsBeforeOrAfter old name aside bytes image = λ done.
      after_is_either old image (moved_is_after old mid (λ f. f ≡ image) has (λ f same. (from.0, from.1, same ∙ done)) image refl) in
      ⊎_elim stayed gone from.2

  -- after the last call, however it ends
  pub leaves_either : {A : Type 0} (result : Result A DiskError) → name ≢ aside → (old mid new : Folder → Type 0)
      → HasAside old mid aside bytes → Leaves result (Moves aside name) mid new → AllEither old new
  leaves_either (Ok x) differs old mid new has leaves = λ image now. after_is_either old image
      (moved_is_after old mid new has leaves image now)
  leaves_either (Err error.Missing) differs old mid new has leaves = λ image now. aside_is_before differs old image
      (has image (leaves image now)).0
  leaves_either (Err error.Failed) differs old mid new has leaves = follows_either differs old mid new has leaves
  leaves_either (Err error.Memory) differs old mid new has leaves = λ image now. aside_is_before differs old image
      (has image (leaves image now)).0

  -- ---- the files as they read

  pub half_aside_is_half_done : name ≢ aside → (told now : ToldFiles) → IsHalfAside told now aside → IsHalfDone told now name aside bytes
  half_aside_is_half_done differs None now h = h
  half_aside_is_half_done differs (Some folder) now h = (h.0, h.1, aside_is_before differs (λ f. f ≡ folder) h.0 h.2)

pub on_err : {A E : Type 0} (result : Result A E) (P : Type 0) → P → IfErr result (λ e. P)
on_err (Ok x) P h = tt
on_err (Err e) P h = h
