-- Runs that change only some files, one after the other.
use Rattle.std.proofs.Common.{◌≡◌, ◌≢◌, ◌⊎◌, ℕ, ◌≤◌, List, length, Some, None, Result, Ok, Err, refl, sym, ◌∙◌, ap, subst, inl, inr, ⊎_elim}
use Rattle.std.specs.Option.{option_map}
use Rattle.repl_clone.specs.Copying.{ChangesOnly, IsBeside}
use Rattle.repl_disk.specs.Answers.{Does, Leaves, Wrote}
use Rattle.repl_disk.specs.Crash.{Elapses, LeavesOnly, Syncs, Tears}
use Rattle.repl_disk.specs.Folder.{Became, Folder, IfTold, Stayed, ToldFiles, content, overwritten, put, written}
use Rattle.repl_disk.specs.Moments.{joined, started, weakened}
use Rattle.repl_disk.specs.Replacing.{IsBeforeOrAfter, IsHalfDone, replaced}
use Rattle.repl_disk.specs.Runs.{begun_within, ran, stays, told_so, where_told}
use Rattle.repl_disk.specs.State.{DiskState}
use Rattle.repl_disk.specs.Steps.{keeps_sync, keeps_tear, put_other}
use Rattle.repl_disk.specs.declared.disk.DiskError.{DiskError}
use Rattle.repl_store.specs.Apart.{IsApart, IsLikeOne, SameApart, StaysApart}

-- without a call
pub itself : (names : List ℕ → Type 0) (old : Folder → Type 0) (image : Folder) → old image → IsBeside names old image
itself names old image was = record { before = image; was = was; others = λ other none. refl }

unchanged : (names : List ℕ → Type 0) (old : DiskState) (folder : Folder) → old.files ≡ Some folder
    → ((image : Folder) → old.left_since old.moment image → old.may_leave image) → ChangesOnly names old old folder
unchanged names old folder told only_now = record {
  moments = started old (IsBeside names old.may_leave) (λ image left. itself names old.may_leave image (only_now image left));
  now = itself names old.may_leave;
  after = folder;
  told = told;
  others = λ other none. refl;
}

pub changes_none : (names : List ℕ → Type 0) (old : DiskState)
    → ((image : Folder) → old.left_since old.moment image → old.may_leave image) → IfTold old.files (λ folder. ChangesOnly names old old folder)
changes_none names old only_now = where_told old.files (λ folder. ChangesOnly names old old folder)
    (λ folder told. unchanged names old folder told only_now)

-- fewer files
pub changes_wider : (few all : List ℕ → Type 0) (old new : DiskState) → ((name : List ℕ) → few name → all name)
    → IfTold old.files (λ folder. ChangesOnly few old new folder) → IfTold old.files (λ folder. ChangesOnly all old new folder)
changes_wider few all old new wider changes = where_told old.files (λ folder. ChangesOnly all old new folder) (λ folder told.
    let a = told_so old.files folder (λ f. ChangesOnly few old new f) told changes in
    let wide : (image : Folder) → IsBeside few old.may_leave image → IsBeside all old.may_leave image = λ image b. record {
      before = b.before;
      was = b.was;
      others = λ other none. b.others other (λ one. none (wider other one));
    } in
    record {
      moments = weakened old new (IsBeside few old.may_leave) (IsBeside all old.may_leave) a.moments wide;
      now = λ image left. wide image (a.now image left);
      after = a.after;
      told = a.told;
      others = λ other none. a.others other (λ one. none (wider other one));
    })

-- ---- two runs

module _ (first second all : List ℕ → Type 0) (old mid new : DiskState) (wider : (name : List ℕ) → first name → all name)
    (wider_too : (name : List ℕ) → second name → all name) where
  pub beside_more : ((image : Folder) → mid.may_leave image → IsBeside first old.may_leave image) → (image : Folder)
      → IsBeside second mid.may_leave image → IsBeside all old.may_leave image
  beside_more now image b =
      let a = now b.before b.was in
      record {
        before = a.before;
        was = a.was;
        others = λ other none. b.others other (λ one. none (wider_too other one)) ∙ a.others other (λ one. none (wider other one));
      }

  beside_wider : (image : Folder) → IsBeside first old.may_leave image → IsBeside all old.may_leave image
  beside_wider image a = record { before = a.before; was = a.was; others = λ other none. a.others other (λ one. none (wider other one)) }

  changes_more : (folder : Folder) (a : ChangesOnly first old mid folder) → ChangesOnly second mid new a.after → ChangesOnly all old new folder
  changes_more folder a b = record {
    moments = joined old mid new (IsBeside all old.may_leave)
        (weakened old mid (IsBeside first old.may_leave) (IsBeside all old.may_leave) a.moments beside_wider)
        (weakened mid new (IsBeside second mid.may_leave) (IsBeside all old.may_leave) b.moments (beside_more a.now));
    now = λ image left. beside_more a.now image (b.now image left);
    after = b.after;
    told = b.told;
    others = λ other none. b.others other (λ one. none (wider_too other one)) ∙ a.others other (λ one. none (wider other one));
  }

  pub changes_then : IfTold old.files (λ folder. ChangesOnly first old mid folder)
      → IfTold mid.files (λ folder. ChangesOnly second mid new folder) → IfTold old.files (λ folder. ChangesOnly all old new folder)
  changes_then a b = where_told old.files (λ folder. ChangesOnly all old new folder) (λ folder told.
      let one = told_so old.files folder (λ f. ChangesOnly first old mid f) told a in
      changes_more folder one (told_so mid.files one.after (λ f. ChangesOnly second mid new f) one.told b))

-- files that are none of a store's stay, where none of these is one
pub apart_of : (names : List ℕ → Type 0) (old new : DiskState) → ((name : List ℕ) → IsApart name → names name → ⊥)
    → IfTold old.files (λ folder. ChangesOnly names old new folder) → StaysApart old new
apart_of names old new none changes = record {
  files = where_told old.files (λ folder. (after : Folder) × (new.files ≡ Some after) × SameApart folder after) (λ folder told.
      let a = told_so old.files folder (λ f. ChangesOnly names old new f) told changes in
      (a.after, a.told, λ name is. a.others name (none name is)));
  now = where_told old.files (λ folder. (image : Folder) → new.may_leave image → IsLikeOne old.may_leave image) (λ folder told image left.
      like image ((told_so old.files folder (λ f. ChangesOnly names old new f) told changes).now image left));
  moments = where_told old.files (λ folder. LeavesOnly old new (IsLikeOne old.may_leave)) (λ folder told.
      weakened old new (IsBeside names old.may_leave) (IsLikeOne old.may_leave)
      (told_so old.files folder (λ f. ChangesOnly names old new f) told changes).moments like);
}
  where
    like : (image : Folder) → IsBeside names old.may_leave image → IsLikeOne old.may_leave image
    like image b = (b.before, b.was, λ name is. b.others name (none name is))

-- ---- one call

module _ (names : List ℕ → Type 0) (old new : DiskState) (effect : Folder → Folder) (step : Folder → Folder → Folder → Type 0)
    (only_now : (image : Folder) → old.left_since old.moment image → old.may_leave image) (time : Elapses old new)
    (beside : (folder before image : Folder) → step folder before image → (other : List ℕ) → (names other → ⊥) → image other ≡ before other)
    (keeps : (folder : Folder) (other : List ℕ) → (names other → ⊥) → effect folder other ≡ folder other) where
  makes : (folder before image : Folder) → IsBeside names old.may_leave before → step folder before image → IsBeside names old.may_leave image
  makes folder before image b done = record {
    before = b.before;
    was = b.was;
    others = λ other none. beside folder before image done other none ∙ b.others other none;
  }

  changes_by : {A : Type 0} (result : Result A DiskError) (folder : Folder) → old.files ≡ Some folder → Does result old.files new.files effect
      → IfTold old.files (λ f. Leaves result (step f) old.may_leave new.may_leave) → ChangesOnly names old new folder
  changes_by {A = A} (Ok x) folder told does crash =
      let P = IsBeside names old.may_leave in
      let run = ran {A = A} (Ok x) old old new P folder P P effect step (begun_within old folder P told only_now (itself names old.may_leave)) does crash
      time (makes folder) (λ image p. p) (λ image p. p) in
      record { moments = run.any_moment; now = run.now; after = effect folder; told = run.reads; others = keeps folder }
  changes_by {A = A} (Err e) folder told does crash =
      let P = IsBeside names old.may_leave in
      let run = ran {A = A} (Err e) old old new P folder P P effect step (begun_within old folder P told only_now (itself names old.may_leave)) does crash
      time (makes folder) (λ image p. p) (λ image p. p) in
      record {
        moments = run.2.any_moment;
        now = λ image left. ⊎_elim (λ p. p) (λ p. p) (run.2.now image left);
        after = run.0;
        told = run.2.reads;
        others = λ other none. ⊎_elim (λ (same : run.0 ≡ folder). ap (λ (f : Folder). f other) same)
            (λ (done : run.0 ≡ effect folder). ap (λ (f : Folder). f other) done ∙ keeps folder other none) run.1;
      }

  pub called : {A : Type 0} (result : Result A DiskError) → Does result old.files new.files effect
      → IfTold old.files (λ f. Leaves result (step f) old.may_leave new.may_leave) → IfTold old.files (λ folder. ChangesOnly names old new folder)
  called result does crash = where_told old.files (λ folder. ChangesOnly names old new folder)
      (λ folder told. changes_by result folder told does crash)

-- a write
pub wrote : {A : Type 0} (result : Result A DiskError) (name : List ℕ) (at : ℕ) (bytes : List ℕ) (old new : DiskState)
    → ((image : Folder) → old.left_since old.moment image → old.may_leave image) → Elapses old new
    → Wrote result old.files new.files name at bytes
    → IfTold old.files (λ f. Leaves result (Tears name at (length bytes)) old.may_leave new.may_leave)
    → IfTold old.files (λ folder. ChangesOnly (λ other. other ≡ name) old new folder)
wrote result name at bytes old new only_now time does crash =
    called (λ other. other ≡ name) old new (λ f. written f name at bytes) (λ f. Tears name at (length bytes)) only_now time
    (λ folder before image done other none. keeps_tear name at (length bytes) before image done other none)
    (λ folder other none. put_other folder name other (Some (overwritten (content (folder name)) at bytes)) none) result does crash

-- a sync
pub synced : {A : Type 0} (result : Result A DiskError) (name : List ℕ) (old new : DiskState)
    → ((image : Folder) → old.left_since old.moment image → old.may_leave image) → Elapses old new → Stayed old.files new.files
    → IfTold old.files (λ f. Leaves result (Syncs name (f name)) old.may_leave new.may_leave)
    → IfTold old.files (λ folder. ChangesOnly (λ other. other ≡ name) old new folder)
synced result name old new only_now time stayed crash =
    where_told old.files (λ folder. ChangesOnly (λ other. other ≡ name) old new folder) (λ folder told.
    changes_by (λ other. other ≡ name) old new (λ f. f) (λ f. Syncs name (f name)) only_now time
    (λ f before image done other none. keeps_sync name (f name) before image done other none) (λ f other none. refl) result folder told
    (stays result old.files new.files folder told stayed) crash)

-- ---- a replacement

module _ (names : List ℕ → Type 0) (old new : DiskState) (name aside bytes : List ℕ) (is : names name) (is_aside : names aside)
    (counts_now : (t : ℕ) (image : Folder) → t ≤ new.moment → new.may_leave image → new.left_since t image)
    (any_moment : IfTold old.files (λ f. LeavesOnly old new (IsBeforeOrAfter old.may_leave name aside bytes))) where
  of_either : (was : Folder → Type 0) (image : Folder) → IsBeforeOrAfter was name aside bytes image → IsBeside names was image
  of_either was image either = record {
    before = either.before;
    was = either.was;
    others = λ other none. either.others other (λ same. none (subst names (sym same) is)) (λ same. none (subst names (sym same) is_aside));
  }

  replaces : (folder after : Folder) → old.files ≡ Some folder → new.files ≡ Some after
      → ((other : List ℕ) → (names other → ⊥) → after other ≡ folder other) → ChangesOnly names old new folder
  replaces folder after told reads others =
      let so = told_so old.files folder (λ f. LeavesOnly old new (IsBeforeOrAfter old.may_leave name aside bytes)) told any_moment in
      record {
        moments = weakened old new (IsBeforeOrAfter old.may_leave name aside bytes) (IsBeside names old.may_leave) so (of_either old.may_leave);
        now = λ image left. of_either old.may_leave image (so.each image (counts_now old.moment image so.later left));
        after = after;
        told = reads;
        others = others;
      }

  pub replaced_done : Became old.files new.files (λ f. replaced f name aside bytes) → IfTold old.files (λ folder. ChangesOnly names old new folder)
  replaced_done files = where_told old.files (λ folder. ChangesOnly names old new folder) (λ folder told.
      replaces folder (replaced folder name aside bytes) told (files ∙ ap (option_map (λ f. replaced f name aside bytes)) told)
      (λ other none. put_other (put folder aside None) name other (Some bytes) (λ same. none (subst names (sym same) is))
      ∙ put_other folder aside other None (λ same. none (subst names (sym same) is_aside))))

  pub replaced_half : IsHalfDone old.files new.files name aside bytes → IfTold old.files (λ folder. ChangesOnly names old new folder)
  replaced_half half = where_told old.files (λ folder. ChangesOnly names old new folder) (λ folder told.
      let h : IsHalfDone (Some folder) new.files name aside bytes = subst (λ (t : ToldFiles). IsHalfDone t new.files name aside bytes) told half in
      replaces folder h.0 told h.1 (λ other none. h.2.others other (λ same. none (subst names (sym same) is))
      (λ same. none (subst names (sym same) is_aside))
      ∙ ap (λ (f : Folder). f other) h.2.was))
