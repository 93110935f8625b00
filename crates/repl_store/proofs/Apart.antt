-- The files that are none of a store's stay: over each call of the disk, since the store's own have other names, and over
-- runs of calls.
use Rattle.std.proofs.Common.{◌≡◌, ◌≢◌, ℕ, ◌-◌, ◌/◌, ◌%◌, ◌<◌, ◌≤◌, true, List, ◌++◌, length, replicate, codes, Some, None, Result, Ok, Err, IfErr, OnOk, refl, ap, ◌∙◌, subst, ⊎_elim, inl, inr, arith, length-append}
use Rattle.std.proofs.lemmas.List.{length-replicate}
use Rattle.std.specs.Fmt.{digits}
use Rattle.std.specs.Option.{option_map}
use Rattle.repl_disk.specs.declared.disk.DiskError.{DiskError}
use Rattle.repl_disk.specs.Answers.{Does, Leaves, Removed, Wrote}
use Rattle.repl_disk.specs.Crash.{Elapses, LeavesOnly, NoneNew, Removes, Syncs, Tears}
use Rattle.repl_disk.specs.Folder.{Became, Folder, IfTold, Stayed, ToldFiles, put, written}
use Rattle.repl_disk.specs.Moments.{joined, started, weakened}
use Rattle.repl_disk.specs.Replacing.{IsBeforeOrAfter, IsHalfDone, replaced}
use Rattle.repl_disk.specs.Runs.{Ran, Run, begun_within, ran, stays, told_so, where_told}
use Rattle.repl_disk.specs.State.{DiskState}
use Rattle.repl_disk.specs.Steps.{KeepsOthers, keeps_remove, keeps_sync, keeps_tear, put_other}
use Rattle.repl_lsn.specs.History.{Path}
use Rattle.repl_lsn.specs.Segment.{eight, history_name, in_four_gib, segment_name}
use Rattle.repl_store.specs.Apart.{IsApart, IsLikeOne, SameApart, StaysApart}
use Rattle.repl_store.specs.Backing.{OnlyReads}
use Rattle.repl_store.specs.Durable.{control_aside, control_name, segment_file, segment_timeline}
use Rattle.repl_store.specs.Raised.{NamesBelow}
use Rattle.repl_store.proofs.Reading.{only_old}
use Rattle.repl_store.proofs.Standing.{OnlyAt}

-- ---- names of the store's own

own_name : (name : List ℕ) → length name ≢ 5 → length name ≢ 9 → IsApart name → ⊥
own_name name five nine (inl is) = five (ap length is)
own_name name five nine (inr is) = nine (ap length is)

long_name : (name : List ℕ) → 9 < length name → IsApart name → ⊥
long_name name long = own_name name (λ e. omega (arith, long, e)) (λ e. omega (arith, long, e))

pub control_is_own : IsApart control_name → ⊥
control_is_own = own_name control_name (λ e. omega (arith, e)) (λ e. omega (arith, e))

pub control_aside_is_own : IsApart control_aside → ⊥
control_aside_is_own = own_name control_aside (λ e. omega (arith, e)) (λ e. omega (arith, e))

eight_long : (n : ℕ) → 7 < length (eight n)
eight_long n = omega (
  arith,
  length-append (replicate (8 - length (digits 16 true n)) 48) (digits 16 true n),
  length-replicate {A = ℕ} (8 - length (digits 16 true n)) 48,
)

pub history_is_own : (tli : ℕ) → IsApart (history_name tli) → ⊥
history_is_own tli = long_name (history_name tli) (omega (arith, length-append (eight tli) (codes ".history"), eight_long tli))

pub history_aside_is_own : (tli : ℕ) (aside : List ℕ) → aside ≡ history_name tli ++ codes ".tmp" → IsApart aside → ⊥
history_aside_is_own tli aside is = long_name aside (omega (
  arith,
  ap length is,
  length-append (history_name tli) (codes ".tmp"),
  length-append (eight tli) (codes ".history"),
  eight_long tli,
))

pub segment_is_own : (size tli segment : ℕ) → IsApart (segment_name size tli segment) → ⊥
segment_is_own size tli segment = long_name (segment_name size tli segment) (omega (
  arith,
  length-append (eight tli ++ eight (segment / in_four_gib size)) (eight (segment % in_four_gib size)),
  length-append (eight tli) (eight (segment / in_four_gib size)),
  eight_long tli,
  eight_long (segment / in_four_gib size),
))

pub file_is_own : (name : List ℕ) (size : ℕ) (path : Path) (segment : ℕ) → name ≡ segment_file size path segment → IsApart name → ⊥
file_is_own name size path segment named is =
    segment_is_own size (segment_timeline size path segment) segment (subst IsApart named is)

pub below_is_own : (size : ℕ) (name : List ℕ) (first : ℕ) → NamesBelow size name first → IsApart name → ⊥
below_is_own size name first below is = segment_is_own size below.0 below.1 (subst IsApart below.2.named is)

-- ---- runs of calls

-- where the files are told
abbrev SameFiles : DiskState → Folder → Type 0
SameFiles new folder = (after : Folder) × (new.files ≡ Some after) × SameApart folder after

abbrev SameImages : DiskState → DiskState → Folder → Type 0
SameImages old new folder = (image : Folder) → new.may_leave image → IsLikeOne old.may_leave image

abbrev SameMoments : DiskState → DiskState → Folder → Type 0
SameMoments old new folder = LeavesOnly old new (IsLikeOne old.may_leave)

where_so : (old new : DiskState)
    → ((folder : Folder) → old.files ≡ Some folder → SameFiles new folder × SameImages old new folder × SameMoments old new folder)
    → StaysApart old new
where_so old new so = record {
  files = where_told old.files (SameFiles new) (λ folder told. (so folder told).0);
  now = where_told old.files (SameImages old new) (λ folder told. (so folder told).1);
  moments = where_told old.files (SameMoments old new) (λ folder told. (so folder told).2);
}

itself : (images : Folder → Type 0) (image : Folder) → images image → IsLikeOne images image
itself images image was = (image, was, λ name is. refl)

-- without a call
pub apart_itself : (old : DiskState) → ((image : Folder) → old.left_since old.moment image → old.may_leave image) → StaysApart old old
apart_itself old only_now = where_so old old (λ folder told. (
  (folder, told, λ name is. refl),
  itself old.may_leave,
  started old (IsLikeOne old.may_leave) (λ image left. itself old.may_leave image (only_now image left)),
))

like_on : (first second : Folder → Type 0) → ((image : Folder) → second image → IsLikeOne first image) → (image : Folder)
    → IsLikeOne second image → IsLikeOne first image
like_on first second from image like =
    let one = from like.0 like.1 in
    (one.0, one.1, λ name is. like.2 name is ∙ one.2 name is)

-- some calls, and then others
pub apart_on : (old mid new : DiskState) → StaysApart old mid → StaysApart mid new → StaysApart old new
apart_on old mid new first second = where_so old new (λ folder told.
    let after = told_so old.files folder (SameFiles mid) told first.files in
    let from = told_so old.files folder (SameImages old mid) told first.now in
    let so_far = told_so old.files folder (SameMoments old mid) told first.moments in
    let last = told_so mid.files after.0 (SameFiles new) after.1 second.files in
    let now = told_so mid.files after.0 (SameImages mid new) after.1 second.now in
    let more = told_so mid.files after.0 (SameMoments mid new) after.1 second.moments in (
      (last.0, last.1, λ name is. last.2 name is ∙ after.2 name is),
      λ image left. like_on old.may_leave mid.may_leave from image (now image left),
      joined old mid new (IsLikeOne old.may_leave) so_far
          (weakened mid new (IsLikeOne mid.may_leave) (IsLikeOne old.may_leave) more (like_on old.may_leave mid.may_leave from)),
    ))

-- ---- calls that only read

pub apart_reads : (old new : DiskState) → OnlyReads old new → StaysApart old new
apart_reads old new only = where_so old new (λ folder told. (
  (folder, only.stayed ∙ told, λ name is. refl),
  λ image left. itself old.may_leave image (only.none_new image left),
  weakened old new old.may_leave (IsLikeOne old.may_leave) only.moments (itself old.may_leave),
))

-- one of the disk's
pub apart_query : (old new : DiskState) → ((image : Folder) → old.left_since old.moment image → old.may_leave image)
    → Stayed old.files new.files → NoneNew old.may_leave new.may_leave → Elapses old new → StaysApart old new
apart_query old new only_now stayed none_new time =
    apart_reads old new (record { stayed = stayed; none_new = none_new; moments = only_old old new only_now none_new time })

-- ---- a call that changes a file of the store's

module _ {A : Type 0} (result : Result A DiskError) (old new : DiskState)
    (only_now : (image : Folder) → old.left_since old.moment image → old.may_leave image) (time : Elapses old new) (name : List ℕ)
    (own : IsApart name → ⊥) where
  others_apart : (before image : Folder) → OnlyAt name before image → SameApart before image
  others_apart before image only other is = only other (λ same. own (subst IsApart same is))

  apart_one : (effect : Folder → Folder) (step : Folder → Folder → Folder → Type 0) → ((folder : Folder) → OnlyAt name folder (effect folder))
      → ((folder : Folder) → KeepsOthers name (step folder))
      → ((folder : Folder) → old.files ≡ Some folder → Does result old.files new.files effect)
      → IfTold old.files (λ f. Leaves result (step f) old.may_leave new.may_leave) → StaysApart old new
  apart_one effect step only keeps does crash = where_so old new (λ folder told.
      let run = ends result folder
      (ran result old old new P folder P P effect step (begun_within old folder P told only_now (itself old.may_leave)) (does folder told)
      crash time (next folder) (λ image p. p) (λ image p. p)) in
      ((run.0, run.2.reads, run.1), run.2.now, run.2.any_moment))
    where
      P : Folder → Type 0
      P = IsLikeOne old.may_leave

      next : (folder before image : Folder) → P before → step folder before image → P image
      next folder before image like done = (
        like.0,
        like.1,
        λ other is. others_apart before image (keeps folder before image done) other is ∙ like.2 other is,
      )

      ends : (r : Result A DiskError) (folder : Folder) → Ran r old new P folder effect P P
          → (now : Folder) × SameApart folder now × Run old new P now P
      ends (Ok x) folder run = (effect folder, others_apart folder (effect folder) (only folder), run)
      ends (Err e) folder run = (
        run.0,
        ⊎_elim (λ (same : run.0 ≡ folder) (other : List ℕ) (is : IsApart other). ap (λ (f : Folder). f other) same)
            (λ (done : run.0 ≡ effect folder) (other : List ℕ) (is : IsApart other). ap (λ (f : Folder). f other) done
            ∙ others_apart folder (effect folder) (only folder) other is) run.1,
        record {
          any_moment = run.2.any_moment;
          now = λ image left. ⊎_elim (λ p. p) (λ p. p) (run.2.now image left);
          reads = run.2.reads;
        },
      )

  pub apart_write : (at : ℕ) (bytes : List ℕ) → Wrote result old.files new.files name at bytes
      → IfTold old.files (λ f. Leaves result (Tears name at (length bytes)) old.may_leave new.may_leave) → StaysApart old new
  apart_write at bytes wrote crash = apart_one (λ f. written f name at bytes) (λ f. Tears name at (length bytes))
      (λ folder other differ. put_other folder name other _ differ) (λ folder. keeps_tear name at (length bytes))
      (λ folder told. wrote) crash

  pub apart_sync : Stayed old.files new.files
      → IfTold old.files (λ f. Leaves result (Syncs name (f name)) old.may_leave new.may_leave) → StaysApart old new
  apart_sync stayed crash = apart_one (λ f. f) (λ f. Syncs name (f name)) (λ folder other differ. refl)
      (λ folder. keeps_sync name (folder name)) (λ folder told. stays result old.files new.files folder told stayed) crash

  pub apart_remove : Removed result old.files new.files name
      → IfTold old.files (λ f. Leaves result (Removes name) old.may_leave new.may_leave) → StaysApart old new
  apart_remove removed crash = apart_one (λ f. put f name None) (λ f. Removes name)
      (λ folder other differ. put_other folder name other None differ) (λ folder. keeps_remove name) (λ folder told. removed) crash

-- ---- a replacement of a file of the store's

module _ {A : Type 0} (result : Result A DiskError) (old new : DiskState) (name aside bytes : List ℕ) (own : IsApart name → ⊥)
    (own_aside : IsApart aside → ⊥) where
  others_like : (images : Folder → Type 0) (image : Folder) → IsBeforeOrAfter images name aside bytes image → IsLikeOne images image
  others_like images image either = (
    either.before,
    either.was,
    λ other is. either.others other (λ same. own (subst IsApart same is)) (λ same. own_aside (subst IsApart same is)),
  )

  -- `counts_now` of the disk says the first premise
  pub apart_replaced : ((t : ℕ) (image : Folder) → t ≤ new.moment → new.may_leave image → new.left_since t image)
      → IfTold old.files (λ folder. LeavesOnly old new (IsBeforeOrAfter old.may_leave name aside bytes))
      → OnOk result (Became old.files new.files (λ f. replaced f name aside bytes))
      → IfErr result (λ e. IsHalfDone old.files new.files name aside bytes) → StaysApart old new
  apart_replaced counts_now moments done half = where_so old new (λ folder told.
      let only = told_so old.files folder (λ f. LeavesOnly old new (IsBeforeOrAfter old.may_leave name aside bytes)) told moments in (
        files result folder told done half,
        λ image left. others_like old.may_leave image (only.each image (counts_now old.moment image only.later left)),
        weakened old new (IsBeforeOrAfter old.may_leave name aside bytes) (IsLikeOne old.may_leave) only (others_like old.may_leave),
      ))
    where
      files : (r : Result A DiskError) (folder : Folder) → old.files ≡ Some folder
          → OnOk r (Became old.files new.files (λ f. replaced f name aside bytes))
          → IfErr r (λ e. IsHalfDone old.files new.files name aside bytes) → SameFiles new folder
      files (Ok x) folder told done half = (
        replaced folder name aside bytes,
        done ∙ ap (option_map (λ (f : Folder). replaced f name aside bytes)) told,
        λ other is. put_other (put folder aside None) name other (Some bytes) (λ same. own (subst IsApart same is))
            ∙ put_other folder aside other None (λ same. own_aside (subst IsApart same is)),
      )
      files (Err e) folder told done half =
          let reads : IsHalfDone (Some folder) new.files name aside bytes = subst
          (λ (t : ToldFiles). IsHalfDone t new.files name aside bytes) told half in
          let like = others_like (λ f. f ≡ folder) reads.0 reads.2 in
          (reads.0, reads.1, λ other is. like.2 other is ∙ ap (λ (f : Folder). f other) like.1)
