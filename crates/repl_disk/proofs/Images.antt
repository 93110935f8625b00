-- What a crash may leave, before and after a call.
use Rattle.std.proofs.Common.{◌≡◌, Bool, true, false, ◌⊎◌, inl, inr, ⊎_elim, ℕ, zero, suc, ◌+◌, ◌≤◌, List, [], ◌∷◌, length, take, drop, Option, Some, None, Result, Ok, Err, MatchResult, refl, sym, ap, subst, arith}
use Rattle.repl_disk.specs.Calls as done
use Rattle.repl_disk.specs.Calls.{Done}
use Rattle.repl_disk.specs.declared.disk.DiskError.{DiskError}
use Rattle.repl_disk.specs.declared.disk.DiskError.TheVariants as error
use Rattle.repl_effects.specs.Counts.{RoseExactly}
use Rattle.repl_disk.specs.Answers.{Leaves, LeavesAll, is_failed, is_memory, is_missing}
use Rattle.repl_disk.specs.Tally.{Tallied, raised, tallied}
use Rattle.repl_disk.specs.Crash.{Elapses, Follows, TornFile}
use Rattle.repl_disk.specs.Files.{folder_of}
use Rattle.repl_disk.specs.Folder.{Folder}
use Rattle.repl_disk.specs.Images.{reads_as_image}
use Rattle.repl_disk.specs.State.{DiskState}
use Rattle.repl_disk.specs.Memory.{Memory, Held, Did, IsImage, WasImage, Steps, before, before_all, certain}

-- ---- what is certain is one of the images

torn_same : (at count : ℕ) (file : Option (List ℕ)) → TornFile at count file file
torn_same at count None = tt
torn_same at count (Some bytes) = record { outside = λ i lt out. refl; no_shorter = omega arith; no_longer = omega arith }

pub certain_image : (calls : List Done) (now : Folder) → IsImage calls now (certain calls now)
certain_image [] now = refl
certain_image (done.Wrote name at count undo ∷ earlier) now =
    let was : Folder = before (done.Wrote name at count undo) now in
    inr (
      certain earlier was,
      certain_image earlier was,
      record {
        others = λ other differ. refl;
        file = torn_same at count
            (certain earlier was name);
      },
    )
certain_image (done.Synced name ∷ earlier) now = inr (certain earlier now, certain_image earlier now, refl)
certain_image (done.Renamed from to taken ∷ earlier) now =
    let was : Folder = before (done.Renamed from to taken) now in
    inr (certain earlier was, certain_image earlier was, refl)
certain_image (done.Removed name taken ∷ earlier) now =
    let was : Folder = before (done.Removed name taken) now in
    inr (certain earlier was, certain_image earlier was, refl)

-- ---- a call that was done

abbrev pub held : Memory → Held
held m = record { files = m.files; calls = m.calls }

abbrev pub Images : Held → Folder → Type 0
Images h image = IsImage h.calls (folder_of h.files) image

abbrev pub Since : Held → ℕ → Folder → Type 0
Since h moment image = WasImage h.calls (folder_of h.files) moment image

-- what a disk tells that keeps this
abbrev pub state_from : Held → DiskState
state_from h = record {
  files = None;
  may_leave = Images h;
  moment = length h.calls;
  left_since = Since h;
  faults = 0;
  wants = 0;
  lacks = 0;
}

abbrev pub Passing : Held → Held → Type 0
Passing old new = Elapses (state_from old) (state_from new)

module _ (old new : Held) (effect : Folder → Folder) (step : Folder → Folder → Type 0) (did : Did old new effect step) where
  -- an image after the call is the files as they read, or what it made of an earlier image
  did_image : (image : Folder) → Images new image → (image ≡ folder_of new.files) ⊎ ((past : Folder) × Images old past × step past image)
  did_image image is = split (subst (λ (l : List Done). IsImage l (folder_of new.files) image) did.kept is)
    where
      split : IsImage (did.call ∷ old.calls) (folder_of new.files) image
          → (image ≡ folder_of new.files) ⊎ ((past : Folder) × Images old past × step past image)
      split (inl now) = inl now
      split (inr past) = inr (
        past.0,
        subst (λ (f : Folder). IsImage old.calls f past.0) did.back past.1,
        did.each past.0 image
            (subst (λ (f : Folder). Steps did.call f past.0 image) did.back past.2),
      )

  did_follows : Follows step (Images old) (Images new)
  did_follows image is =
      ⊎_elim (λ now. (
        folder_of old.files,
        reads_as_image old.calls (folder_of old.files),
        subst
            (λ (f : Folder). step (folder_of old.files) f) (sym now) did.now,
      )) (λ past. past) (did_image image is)

  did_all : (past image : Folder) → Images old past → step past image → Images new image
  did_all past image was done = subst (λ (l : List Done). IsImage l (folder_of new.files) image) (sym did.kept)
      (inr (
        past,
        subst (λ (f : Folder). IsImage old.calls f past) (sym did.back) was,
        subst (λ (f : Folder). Steps did.call f past image)
            (sym did.back) (did.all past image done),
      ))

  did_elapses : Passing old new
  did_elapses = record {
    later = omega (arith, ap (λ (l : List Done). length l) did.kept);
    nothing_else = λ t image le was. was_before t image le
        (subst (λ (l : List Done). WasImage l (folder_of new.files) t image) did.kept was);
    keeps = λ t image le was. subst (λ (l : List Done). WasImage l (folder_of new.files) t image) (sym did.kept) (
      suc was.0,
      omega (arith, was.1),
      subst (λ (f : Folder). IsImage (drop was.0 old.calls) (before_all (take was.0 old.calls) f) image)
          (sym did.back) was.2,
    );
  }
    where
      at : (t : ℕ) (image : Folder) (later : ℕ) → t ≤ length old.calls → later + t ≤ length (did.call ∷ old.calls)
          → IsImage (drop later (did.call ∷ old.calls)) (before_all (take later (did.call ∷ old.calls)) (folder_of new.files)) image
          → Since old t image ⊎ Images new image
      at t image zero le within is = inr (subst (λ (l : List Done). IsImage l (folder_of new.files) image) (sym did.kept) is)
      at t image (suc later) le within is = inl (
        later,
        omega (arith, within),
        subst
            (λ (f : Folder). IsImage (drop later old.calls) (before_all (take later old.calls) f) image) did.back is,
      )

      was_before : (t : ℕ) (image : Folder) → t ≤ length old.calls → WasImage (did.call ∷ old.calls) (folder_of new.files) t image
          → Since old t image ⊎ Images new image
      was_before t image le was = at t image was.0 le was.1 was.2

same_elapses : (h : Held) → Passing h h
same_elapses h = record { later = omega arith; nothing_else = λ t image le was. inl was; keeps = λ t image le was. was }

-- ---- an answer

abbrev pub Goes : Result (Unit {0}) DiskError → (Folder → Folder → Type 0) → Held → Held → Type 0
Goes result step old new = Leaves result step (Images old) (Images new) × Passing old new × LeavesAll result step (Images old) (Images new)

failed_leaves : (old : Held) (step : Folder → Folder → Type 0) (e : DiskError) → Goes (Err e) step old old
failed_leaves old step error.Missing = (λ image is. is, same_elapses old, λ image is. is)
failed_leaves old step error.Failed = (λ image is. (image, is, inl refl), same_elapses old, λ image is. is)
failed_leaves old step error.Memory = (λ image is. is, same_elapses old, λ image is. is)

answer_leaves : (old new : Held) (effect : Folder → Folder) (step : Folder → Folder → Type 0) (P : DiskError → Type 0)
    → ((e : DiskError) → P e → new ≡ old) → (answer : Result (Unit {0}) DiskError) → MatchResult answer (λ _. Did old new effect step) P
    → Goes answer step old new
answer_leaves old new effect step P same (Ok x) did =
    (did_follows old new effect step did, did_elapses old new effect step did, did_all old new effect step did)
answer_leaves old new effect step P same (Err e) failed = subst (λ (h : Held). Goes (Err e) step old h) (sym (same e failed))
    (failed_leaves old step e)

-- the same of the disk round them
pub goes : (before : Memory) (old new : Held) (effect : Folder → Folder) (step : Folder → Folder → Type 0) (P : DiskError → Type 0)
    → ((e : DiskError) → P e → new ≡ old) → (answer result : Result (Unit {0}) DiskError)
    → old ≡ held before → result ≡ answer → MatchResult answer (λ _. Did old new effect step) P → Goes result step (held before) new
goes before old new effect step P same answer result is_old is did =
    subst (λ (r : Result (Unit {0}) DiskError). Goes r step (held before) new) (sym is)
    (subst (λ (h : Held). Goes answer step h new) is_old (answer_leaves old new effect step P same answer did))

-- ---- the counts

rose : (happened : Bool) (events : ℕ) → RoseExactly happened events (raised happened events)
rose true events = omega arith
rose false events = refl

abbrev pub Roses : {A : Type 0} → Result A DiskError → Tallied → Tallied → Type 0
Roses result old new = RoseExactly (is_failed result) old.faults new.faults × RoseExactly (is_memory result) old.wants new.wants
    × RoseExactly (is_missing result) old.lacks new.lacks

abbrev pub tally_of : Memory → Tallied
tally_of m = record { faults = m.faults; wants = m.wants; lacks = m.lacks }

-- each error is counted
pub told_rose : {A : Type 0} (answer result : Result A DiskError) (old tally new : Tallied) → tally ≡ old
    → new ≡ tallied tally (is_failed answer) (is_memory answer) (is_missing answer) → result ≡ answer → Roses result old new
told_rose {A = A} answer result old tally new is_old is_new is =
    subst (λ (r : Result A DiskError). Roses r old new) (sym is)
    (subst (λ (t : Tallied). Roses answer old t) (sym is_new)
    (subst (λ (t : Tallied). Roses answer t (tallied tally (is_failed answer) (is_memory answer) (is_missing answer))) is_old
    (rose (is_failed answer) tally.faults, rose (is_memory answer) tally.wants, rose (is_missing answer) tally.lacks)))
