-- A run of calls over a disk that tells its files, for whoever proves what a crash at any of its moments leaves: `begun`,
-- and then one of the other lemmas a call.
use Rattle.std.proofs.Common.{◌≡◌, ◌⊎◌, ℕ, List, Some, None, Result, Ok, Err, refl, sym, ◌∙◌, ap, subst, inl, inr, ⊎_elim}
use Rattle.std.specs.Option.{option_map}
use Rattle.repl_disk.specs.declared.disk.DiskError.{DiskError}
use Rattle.repl_disk.specs.declared.disk.DiskError.TheVariants as error
use Rattle.repl_disk.specs.Answers.{Does, Leaves}
use Rattle.repl_disk.specs.Crash.{Elapses, LeavesOnly, Follows, NoneNew, Either, Syncs}
use Rattle.repl_disk.specs.Folder.{Folder, ToldFiles, IfTold, Stayed, Became}
use Rattle.repl_disk.specs.Moments.{started, goes_on, joined, weakened}
use Rattle.repl_disk.specs.Replacing.{IsBeforeOrAfter, IsAfter, IsHalfDone, replaced}
use Rattle.repl_disk.specs.State.{DiskState}

-- A run so far: a crash at any of its moments leaves what has P, one now what has Q, and the files read so.
pub record Run (old new : DiskState) (P : Folder → Type 0) (folder : Folder) (Q : Folder → Type 0) : Type 0 where
  pub any_moment : LeavesOnly old new P
  pub now : (image : Folder) → new.may_leave image → Q image
  pub reads : new.files ≡ Some folder

-- After one call more, which makes this of the files, and R of Q, where it is done. Where it failed it may have done so.
abbrev pub Ran : {A : Type 0} → Result A DiskError → DiskState → DiskState → (Folder → Type 0) → Folder → (Folder → Folder)
    → (Folder → Type 0) → (Folder → Type 0) → Type 0
Ran (Ok x) old new P folder effect Q R = Run old new P (effect folder) R
Ran (Err e) old new P folder effect Q R = (now : Folder) × ((now ≡ folder) ⊎ (now ≡ effect folder)) × Run old new P now
    (λ image. Q image ⊎ R image)

-- before the first call; `only_now` of the disk says the second premise
pub begun : (old : DiskState) (folder : Folder) (P : Folder → Type 0) → old.files ≡ Some folder
    → ((image : Folder) → old.left_since old.moment image → old.may_leave image) → ((image : Folder) → old.may_leave image → P image)
    → Run old old P folder old.may_leave
begun old folder P told only_now within = record {
  any_moment = started old P (λ image left. within image (only_now image left));
  now = λ image now. now;
  reads = told;
}

-- the same of a set that every image stays in
pub begun_within : (old : DiskState) (folder : Folder) (P : Folder → Type 0) → old.files ≡ Some folder
    → ((image : Folder) → old.left_since old.moment image → old.may_leave image) → ((image : Folder) → old.may_leave image → P image)
    → Run old old P folder P
begun_within old folder P told only_now within = record {
  any_moment = started old P (λ image left. within image (only_now image left));
  now = within;
  reads = told;
}

-- what a fact on the files says where they are told
pub told_so : (told : ToldFiles) (folder : Folder) (P : Folder → Type 0) → told ≡ Some folder → IfTold told P → P folder
told_so told folder P e h = let Q : ToldFiles → Type 0 = λ t. IfTold t P in let k : Q (Some folder) = subst Q e h in k

-- and what shows it
pub where_told : (told : ToldFiles) (P : Folder → Type 0) → ((folder : Folder) → told ≡ Some folder → P folder) → IfTold told P
where_told None P h = tt
where_told (Some folder) P h = h folder refl

module _ (old mid new : DiskState) (P : Folder → Type 0) (folder : Folder) (Q R : Folder → Type 0) (effect : Folder → Folder)
    (step : Folder → Folder → Type 0) where
  -- each image is one from before, or what the step makes of one
  either : Run old mid P folder Q → Follows (Either step) mid.may_leave new.may_leave
      → ((before image : Folder) → Q before → step before image → R image) → (image : Folder) → new.may_leave image → Q image ⊎ R image
  either so_far follows makes image now =
      let from = follows image now in
      let before = so_far.now from.0 from.1 in
      let same : image ≡ from.0 → Q image ⊎ R image = λ is. inl (subst Q (sym is) before) in
      ⊎_elim same (λ done. inr (makes from.0 image before done)) from.2

  ends : (so_far : Run old mid P folder Q) (now : Folder) (S : Folder → Type 0) → new.files ≡ Some now → Elapses mid new
      → ((image : Folder) → new.may_leave image → S image) → ((image : Folder) → S image → P image) → Run old new P now S
  ends so_far now S reads time leaves within = record {
    any_moment = goes_on old mid new P so_far.any_moment time
        (λ image left. within image (leaves image left));
    now = leaves;
    reads = reads;
  }

  failed_run : Run old mid P folder Q → Stayed mid.files new.files ⊎ Became mid.files new.files effect
      → Follows (Either step) mid.may_leave new.may_leave → Elapses mid new
      → ((before image : Folder) → Q before → step before image → R image) → ((image : Folder) → Q image → P image)
      → ((image : Folder) → R image → P image)
      → (now : Folder) × ((now ≡ folder) ⊎ (now ≡ effect folder)) × Run old new P now (λ image. Q image ⊎ R image)
  failed_run so_far (inl same) follows time makes within within_then = (
    folder,
    inl refl,
    ends so_far folder (λ image. Q image ⊎ R image) (same ∙ so_far.reads) time (either so_far follows makes)
        (λ image. ⊎_elim (within image) (within_then image)),
  )
  failed_run so_far (inr became) follows time makes within within_then = (
    effect folder,
    inr refl,
    ends so_far (effect folder) (λ image. Q image ⊎ R image) (became ∙ ap (option_map effect) so_far.reads) time
        (either so_far follows makes) (λ image. ⊎_elim (within image) (within_then image)),
  )

-- one that did nothing, and so left nothing new
stood : (old mid new : DiskState) (P : Folder → Type 0) (folder : Folder) (Q R : Folder → Type 0) (effect : Folder → Folder)
    (step : Folder → Folder → Folder → Type 0) → Run old mid P folder Q → Stayed mid.files new.files
    → IfTold mid.files (λ f. NoneNew mid.may_leave new.may_leave) → Elapses mid new → ((image : Folder) → Q image → P image)
    → ((image : Folder) → R image → P image)
    → (now : Folder) × ((now ≡ folder) ⊎ (now ≡ effect folder)) × Run old new P now (λ image. Q image ⊎ R image)
stood old mid new P folder Q R effect step so_far stayed crash time within within_then =
    let none_new = told_so mid.files folder (λ f. NoneNew mid.may_leave new.may_leave) so_far.reads crash in (
      folder,
      inl refl,
      ends old mid new P folder Q R effect (step folder) so_far folder (λ image. Q image ⊎ R image)
          (stayed ∙ so_far.reads) time (λ image now. inl (so_far.now image (none_new image now)))
          (λ image. ⊎_elim (within image) (within_then image)),
    )

-- A call that changes files: `Wrote`, `Moved` and `Removed` say what it does, and `crash` what it leaves.
pub ran : {A : Type 0} (result : Result A DiskError) (old mid new : DiskState) (P : Folder → Type 0) (folder : Folder)
    (Q R : Folder → Type 0) (effect : Folder → Folder) (step : Folder → Folder → Folder → Type 0)
    → Run old mid P folder Q → Does result mid.files new.files effect
    → IfTold mid.files (λ f. Leaves result (step f) mid.may_leave new.may_leave) → Elapses mid new
    → ((before image : Folder) → Q before → step folder before image → R image) → ((image : Folder) → Q image → P image)
    → ((image : Folder) → R image → P image) → Ran result old new P folder effect Q R
ran (Ok x) old mid new P folder Q R effect step so_far does crash time makes within within_then =
    let follows = told_so mid.files folder (λ f. Leaves (Ok x) (step f) mid.may_leave new.may_leave) so_far.reads crash in
    let leaves : (image : Folder) → new.may_leave image → R image = λ image now. let from = follows image now in makes from.0 image
    (so_far.now from.0 from.1) from.2 in
    ends old mid new P folder Q R effect (step folder) so_far (effect folder) R
    (does ∙ ap (option_map effect) so_far.reads) time leaves within_then
ran (Err error.Missing) old mid new P folder Q R effect step so_far does crash time makes within within_then =
    stood old mid new P folder Q R effect step so_far does crash time within within_then
ran (Err error.Failed) old mid new P folder Q R effect step so_far does crash time makes within within_then =
    failed_run old mid new P folder Q R effect (step folder) so_far does
    (told_so mid.files folder (λ f. Follows
    (Either (step f)) mid.may_leave new.may_leave) so_far.reads crash) time makes within within_then
ran (Err error.Memory) old mid new P folder Q R effect step so_far does crash time makes within within_then =
    stood old mid new P folder Q R effect step so_far does crash time within within_then

-- a call that found no memory did nothing
pub ran_nothing : {A : Type 0} (result : Result A DiskError) (old mid new : DiskState) (P : Folder → Type 0) (folder : Folder)
    (Q : Folder → Type 0) (effect : Folder → Folder) (step : Folder → Folder → Folder → Type 0) → result ≡ Err error.Memory
    → Run old mid P folder Q → Does result mid.files new.files effect
    → IfTold mid.files (λ f. Leaves result (step f) mid.may_leave new.may_leave) → Elapses mid new
    → ((image : Folder) → Q image → P image) → Run old new P folder Q
ran_nothing {A = A} result old mid new P folder Q effect step is so_far does crash time within =
    let stayed = subst (λ (r : Result A DiskError). Does r mid.files new.files effect) is does in
    let left = subst (λ (r : Result A DiskError). IfTold mid.files (λ f. Leaves r (step f) mid.may_leave new.may_leave)) is crash in
    let none_new = told_so mid.files folder (λ f. NoneNew mid.may_leave new.may_leave) so_far.reads left in
    record {
      any_moment = goes_on old mid new P so_far.any_moment time (λ image now. within image (so_far.now image (none_new image now)));
      now = λ image now. so_far.now image (none_new image now);
      reads = stayed ∙ so_far.reads;
    }

-- a call that leaves every image in one set, however it ends
pub ran_within : {A : Type 0} (result : Result A DiskError) (old mid new : DiskState) (P : Folder → Type 0) (folder : Folder)
    (effect : Folder → Folder) (step : Folder → Folder → Folder → Type 0)
    → Run old mid P folder P → Does result mid.files new.files effect
    → IfTold mid.files (λ f. Leaves result (step f) mid.may_leave new.may_leave) → Elapses mid new
    → ((before image : Folder) → P before → step folder before image → P image) → (now : Folder) × Run old new P now P
ran_within {A = A} (Ok x) old mid new P folder effect step so_far does crash time makes =
    (effect folder, ran {A = A} (Ok x) old mid new P folder P P effect step so_far does crash time makes (λ image p. p) (λ image p. p))
ran_within {A = A} (Err e) old mid new P folder effect step so_far does crash time makes =
    let failed = ran {A = A} (Err e) old mid new P folder P P effect step so_far does crash time makes (λ image p. p) (λ image p. p) in (
      failed.0,
      record {
        any_moment = failed.2.any_moment;
        now = λ image now. ⊎_elim (λ p. p) (λ p. p) (failed.2.now image now);
        reads = failed.2.reads;
      },
    )

-- files that stayed were made what they were
pub stays : {A : Type 0} (result : Result A DiskError) (before now : ToldFiles) (folder : Folder) → before ≡ Some folder → Stayed before now
    → Does result before now (λ f. f)
stays (Ok x) before now folder told same = same ∙ told ∙ sym (ap (option_map (λ (f : Folder). f)) told)
stays (Err error.Missing) before now folder told same = same
stays (Err error.Failed) before now folder told same = inl same
stays (Err error.Memory) before now folder told same = same

-- a sync
pub ran_sync : {A : Type 0} (result : Result A DiskError) (name : List ℕ) (old mid new : DiskState) (P : Folder → Type 0) (folder : Folder)
    (Q R : Folder → Type 0)
    → Run old mid P folder Q → Stayed mid.files new.files
    → IfTold mid.files (λ f. Leaves result (Syncs name (f name)) mid.may_leave new.may_leave) → Elapses mid new
    → ((before image : Folder) → Q before → Syncs name (folder name) before image → R image) → ((image : Folder) → Q image → P image)
    → ((image : Folder) → R image → P image) → Ran result old new P folder (λ f. f) Q R
ran_sync result name old mid new P folder Q R so_far stayed crash time makes within within_then =
    ran result old mid new P folder Q R (λ f. f) (λ f. Syncs name (f name)) so_far
    (stays result mid.files new.files folder so_far.reads stayed) crash time makes within within_then

-- a call that only reads
pub ran_query : (old mid new : DiskState) (P : Folder → Type 0) (folder : Folder) (Q : Folder → Type 0) → Run old mid P folder Q
    → Stayed mid.files new.files → NoneNew mid.may_leave new.may_leave → Elapses mid new → ((image : Folder) → Q image → P image)
    → Run old new P folder Q
ran_query old mid new P folder Q so_far stayed none_new time within = record {
  any_moment = goes_on old mid new P so_far.any_moment time (λ image now. within image (so_far.now image (none_new image now)));
  now = λ image now. so_far.now image (none_new image now);
  reads = stayed ∙ so_far.reads;
}

-- a run of its own, after which the files read so and a crash leaves what has R
pub ran_run : (old mid new : DiskState) (P : Folder → Type 0) (folder after : Folder) (Q R : Folder → Type 0) → Run old mid P folder Q
    → LeavesOnly mid new P → ((image : Folder) → new.may_leave image → R image) → new.files ≡ Some after
    → Run old new P after R
ran_run old mid new P folder after Q R so_far more leaves reads = record {
  any_moment = joined old mid new P so_far.any_moment more;
  now = leaves;
  reads = reads;
}

-- ---- a replacement as a part of a run

module _ (name aside bytes : List ℕ) (from to : Folder → Type 0) (more : (image : Folder) → from image → to image) where
  either_of : (image : Folder) → IsBeforeOrAfter from name aside bytes image → IsBeforeOrAfter to name aside bytes image
  either_of image either = record {
    before = either.before;
    was = more either.before either.was;
    others = either.others;
    file = either.file;
  }

  after_of : (image : Folder) → IsAfter from name aside bytes image → IsAfter to name aside bytes image
  after_of image after = record { before = after.before; was = more after.before after.was; others = after.others; file = after.file }

module _ (name aside bytes : List ℕ) (old mid new : DiskState) (P : Folder → Type 0) (folder : Folder) (Q : Folder → Type 0) where
  moments : Run old mid P folder Q → IfTold mid.files (λ f. LeavesOnly mid new (IsBeforeOrAfter mid.may_leave name aside bytes))
      → ((image : Folder) → IsBeforeOrAfter Q name aside bytes image → P image) → LeavesOnly mid new P
  moments so_far any_moment within =
      weakened mid new (IsBeforeOrAfter mid.may_leave name aside bytes) P
      (told_so mid.files folder (λ f. LeavesOnly mid new (IsBeforeOrAfter mid.may_leave name aside bytes)) so_far.reads any_moment)
      (λ image either. within image (either_of name aside bytes mid.may_leave Q so_far.now image either))

  -- `replace_by` that is done
  pub ran_replace : Run old mid P folder Q → IfTold mid.files (λ f. LeavesOnly mid new (IsBeforeOrAfter mid.may_leave name aside bytes))
      → IfTold mid.files (λ f. (image : Folder) → new.may_leave image → IsAfter mid.may_leave name aside bytes image)
      → Became mid.files new.files (λ f. replaced f name aside bytes)
      → ((image : Folder) → IsBeforeOrAfter Q name aside bytes image → P image)
      → Run old new P (replaced folder name aside bytes) (IsAfter Q name aside bytes)
  ran_replace so_far any_moment durable files within =
      let after = told_so mid.files folder
      (λ f. (image : Folder) → new.may_leave image → IsAfter mid.may_leave name aside bytes image) so_far.reads durable in
      ran_run old mid new P folder (replaced folder name aside bytes) Q (IsAfter Q name aside bytes) so_far
      (moments so_far any_moment within)
      (λ image now. after_of name aside bytes mid.may_leave Q so_far.now image (after image now))
      (files ∙ ap (option_map (λ f. replaced f name aside bytes)) so_far.reads)

  -- one that failed; `counts_now` of the disk says the last premise
  pub failed_replace : Run old mid P folder Q → IfTold mid.files (λ f. LeavesOnly mid new (IsBeforeOrAfter mid.may_leave name aside bytes))
      → IsHalfDone mid.files new.files name aside bytes
      → ((image : Folder) → IsBeforeOrAfter Q name aside bytes image → P image)
      → ((image : Folder) → new.may_leave image → new.left_since mid.moment image)
      → (now : Folder) × IsBeforeOrAfter (λ f. f ≡ folder) name aside bytes now × Run old new P now (IsBeforeOrAfter Q name aside bytes)
  failed_replace so_far any_moment half within counts_now =
      let reads : IsHalfDone (Some folder) new.files name aside bytes = subst
      (λ (t : ToldFiles). IsHalfDone t new.files name aside bytes) so_far.reads half in
      let only = told_so mid.files folder
      (λ f. LeavesOnly mid new (IsBeforeOrAfter mid.may_leave name aside bytes)) so_far.reads any_moment in (
        reads.0,
        reads.2,
        ran_run old mid new P folder reads.0 Q (IsBeforeOrAfter Q name aside bytes) so_far
            (moments so_far any_moment within)
            (λ image now. either_of name aside bytes mid.may_leave Q so_far.now image (only.each image (counts_now image now))) reads.1,
      )
