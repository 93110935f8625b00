-- Files to which the history and the log were copied stand for the copy, once they have its control.
use Rattle.std.proofs.Common.{◌≡◌, ◌≢◌, ◌⊎◌, ℕ, ◌+◌, ◌^◌, ◌<◌, ◌≤◌, Bool, true, false, List, [], ◌++◌, length, codes, Option, Some, None, IsSome, is_some, Result, Ok, Err, OnOk, refl, sym, ap, ◌∙◌, subst, inl, inr, ⊎_elim, arith, length-append}
use Rattle.std.proofs.lemmas.Bool.{cases_eq}
use Rattle.repl_clone.specs.Copied.{IsCopy, IsCopying, copied, standby_control}
use Rattle.repl_clone.specs.Copying.{ChangesOnly, HasHistory, HasLog, IsBeside, IsCopyOf, OfControl, OfHistory, OfSegment}
use Rattle.repl_clone.specs.declared.fault.CopyFault.{CopyFault}
use Rattle.repl_clone.proofs.Changing.{changes_then, changes_wider}
use Rattle.repl_clone.proofs.Filling.{has_all}
use Rattle.repl_control.specs.Control.{FitsFields, IsControl, control_bytes}
use Rattle.repl_control.specs.declared.control.Control.{Control}
use Rattle.repl_disk.specs.Crash.{Elapses, LeavesOnly, NoneNew}
use Rattle.repl_disk.specs.Folder.{Folder, IfTold, Stayed, ToldFiles}
use Rattle.repl_disk.specs.Moments.{goes_on, joined, started, weakened}
use Rattle.repl_disk.specs.Replacing.{IsAfter, IsBeforeOrAfter}
use Rattle.repl_disk.specs.Runs.{told_so, where_told}
use Rattle.repl_disk.specs.State.{DiskState}
use Rattle.repl_lsn.specs.History.{Path, SaysHistory}
use Rattle.repl_lsn.specs.Segment.{Fits, history_name}
use Rattle.repl_store.specs.Apart.{IsApart}
use Rattle.repl_store.specs.Backing.{Backs, State}
use Rattle.repl_store.specs.Durable.{Carries, Durable, HasPath, IsKnown, StandsFor, control_aside, control_name, segment_file}
use Rattle.repl_store.specs.Head.{Head, IsHead}
use Rattle.repl_store.proofs.Apart.{control_aside_is_own, control_is_own}
use Rattle.repl_store.proofs.Carrying.{carries_elsewhere}
use Rattle.repl_store.proofs.Heard.{one_history}
use Rattle.repl_store.proofs.Hearing.{known_exists}
use Rattle.repl_store.proofs.Names.{HasNames, differ, file_differs, history_differs, length_file, length_history}
use Rattle.repl_store.proofs.Standing.{names_of_head}

-- the control is none of the files that are none of a store's
pub control_apart : (name : List ℕ) → IsApart name → OfControl name → ⊥
control_apart name is of = ⊎_elim (λ (same : name ≡ control_name). control_is_own (subst IsApart same is))
    (λ (same : name ≡ control_aside). control_aside_is_own (subst IsApart same is)) of

-- a copy has heard of some number
pub is_copy : (old : Folder → Type 0) (size : ℕ) (d : Durable) (image : Folder) → IsCopyOf old size d image → IsCopy size d image
is_copy old size d image copy = let heard = known_exists copy.before d.control.tli in (heard.0, copy.stands heard.0 heard.1)

module _ (head : Head) (is : IsHead head) where
  small : head.path.own < 2 ^ 32
  small = omega (arith, is.own, is.fits.timeline.1)

  named : HasNames head.size head.path
  named = names_of_head head is

  -- all files but the control's
  abbrev pub OfLog : List ℕ → Type 0
  OfLog name = OfHistory head.path.own name ⊎ OfSegment head.size head.path name

  -- none of these has a name of so many bytes
  pub other_length : (name : List ℕ) → length name ≢ 16 → length name ≢ 20 → length name ≢ 24 → OfLog name → ⊥
  other_length name no_history no_aside no_segment of = ⊎_elim
      (λ (h : OfHistory head.path.own name). ⊎_elim
      (λ (same : name ≡ history_name head.path.own). no_history (ap length same ∙ length_history head.path.own small))
      (λ (same : name ≡ history_name head.path.own ++ codes ".tmp"). no_aside (ap length same
      ∙ omega (arith, length-append (history_name head.path.own) (codes ".tmp"), length_history head.path.own small))) h)
      (λ (g : OfSegment head.size head.path name). no_segment (ap length g.2 ∙ length_file head.size head.path named g.0 g.1)) of

  no_control : OfLog control_name → ⊥
  no_control = other_length control_name (λ e. omega (arith, e)) (λ e. omega (arith, e)) (λ e. omega (arith, e))

  pub none_apart : (name : List ℕ) → IsApart name → OfLog name → ⊥
  none_apart name is of = ⊎_elim (λ (slots : name ≡ codes "slots"). shorter name (ap length slots) of)
      (λ (aside : name ≡ codes "slots.tmp"). longer name (ap length aside) of) is
    where
      shorter : (name : List ℕ) → length name ≡ 5 → OfLog name → ⊥
      shorter name long = other_length name (λ e. omega (arith, e, long)) (λ e. omega (arith, e, long)) (λ e. omega (arith, e, long))

      longer : (name : List ℕ) → length name ≡ 9 → OfLog name → ⊥
      longer name long = other_length name (λ e. omega (arith, e, long)) (λ e. omega (arith, e, long)) (λ e. omega (arith, e, long))

  -- the history of another timeline is none of them
  no_other_history : (n : ℕ) → n < 2 ^ 32 → n ≢ head.path.own → OfLog (history_name n) → ⊥
  no_other_history n few apart of = ⊎_elim
      (λ (h : OfHistory head.path.own (history_name n)). ⊎_elim
      (λ (same : history_name n ≡ history_name head.path.own). apart (one_history n head.path.own few small same))
      (λ (same : history_name n ≡ history_name head.path.own ++ codes ".tmp"). omega (
        arith,
        ap length same,
        length-append (history_name head.path.own) (codes ".tmp"),
        length_history head.path.own small,
        length_history n few,
      )) h)
      (λ (g : OfSegment head.size head.path (history_name n)).
      omega (arith, ap length g.2, length_file head.size head.path named g.0 g.1, length_history n few)) of

  -- ---- while the log is copied

  pub log_moments : (old new : DiskState) (d : Durable) → IfTold old.files (λ folder. ChangesOnly OfLog old new folder)
      → IfTold old.files (λ folder. LeavesOnly old new (IsCopying old.may_leave head.size d))
  log_moments old new d changes = where_told old.files (λ folder. LeavesOnly old new (IsCopying old.may_leave head.size d)) (λ folder told.
      weakened old new (IsBeside OfLog old.may_leave) (IsCopying old.may_leave head.size d)
      (told_so old.files folder (λ f. ChangesOnly OfLog old new f) told changes).moments
      (λ image b. inl (b.before, b.was, b.others control_name no_control)))

  pub quiet : (source old new : DiskState) → IfTold old.files (λ folder. ChangesOnly OfLog old new folder)
      → IfTold old.files (λ folder. (s : State) → Backs source head s → LeavesOnly old new (IsCopying old.may_leave head.size s.durable))
  quiet source old new changes = where_told old.files
      (λ folder. (s : State) → Backs source head s → LeavesOnly old new (IsCopying old.may_leave head.size s.durable)) (λ folder told s backs.
      told_so old.files folder (λ f. LeavesOnly old new (IsCopying old.may_leave head.size s.durable)) told (log_moments old new s.durable changes))

  -- ---- the control after it

  module _ (s : State) (of_control : s.durable.control ≡ head.control) (of_path : s.durable.path ≡ head.path)
      (counted : head.control.floor + length s.durable.bytes ≡ head.control.flushed) (folder : Folder)
      (path : HasPath head.size folder s.durable.control s.durable.path) where
    abbrev copy : ℕ → Durable
    copy known = record { control = standby_control head.control; path = head.path; bytes = s.durable.bytes; known = known }

    as_copied : (known : ℕ) → copy known ≡ copied s.durable known
    as_copied known = sym (λ i. record { control = standby_control (of_control i); path = of_path i; bytes = s.durable.bytes; known = known })

    -- an image that has the control, the history and the log, beside one from before
    pub stands : (before image : Folder) (known : ℕ) → image control_name ≡ Some (control_bytes (standby_control head.control))
        → HasHistory head.path image → Carries head.size image head.path head.control.floor s.durable.bytes
        → ((n : ℕ) → n < 2 ^ 32 → n ≢ head.path.own → image (history_name n) ≡ before (history_name n))
        → IsKnown before head.path.own known → StandsFor head.size image (copied s.durable known)
    stands before image known has_control says carries histories heard = subst (StandsFor head.size image) (as_copied known) record {
      control = has_control;
      fits = record { system = is.fits.system; timeline = is.fits.timeline; magic = is.fits.magic };
      right = record {
        flushed = is.right.flushed;
        whole = is.right.whole;
        floor = is.right.floor;
        prev = is.right.prev;
        primary = λ primary. absurd cc;
      };
      path = record {
        own = is.own;
        history = ⊎_elim
            (λ (first : (s.durable.control.tli ≡ 1) × (s.durable.path.parents ≡ [])).
            inl (ap (λ (c : Control). c.tli) (sym of_control) ∙ first.0, ap (λ (p : Path). p.parents) (sym of_path) ∙ first.1))
            (λ (later : (s.durable.control.tli ≢ 1) × ((text : List ℕ) × (folder (history_name s.durable.control.tli) ≡ Some text)
            × SaysHistory text s.durable.path)).
            let t = says (λ one. later.0 (ap (λ (c : Control). c.tli) of_control ∙ sym is.own ∙ one)) in
            inr (
              λ one. later.0 (ap (λ (c : Control). c.tli) of_control ∙ one),
              (t.0, ap (λ (n : ℕ). image (history_name n)) (sym is.own) ∙ t.1, t.2),
            )) path.history;
        between = is.between;
      };
      counted = counted;
      carries = carries;
      known = subst (λ (n : ℕ). IsKnown image n known) is.own (record {
        above = heard.above;
        is = ⊎_elim inl (λ (h : (known < 2 ^ 32) × IsSome (before (history_name known))). ⊎_elim (λ (own : known ≡ head.path.own). inl own)
            (λ (apart : known ≢ head.path.own). inr (
              h.0,
              subst (λ (f : Option (List ℕ)). IsSome f) (sym (histories known h.0 apart)) h.1,
            )) (cases_eq known head.path.own)) heard.is;
        all = λ n some few there. ⊎_elim (λ (own : n ≡ head.path.own). omega (arith, own, heard.above))
            (λ (apart : n ≢ head.path.own). heard.all n some few (subst (λ (f : Option (List ℕ)). IsSome f) (histories n few apart) there))
            (cases_eq n head.path.own);
      });
    }

    module _ (old mid ready : DiskState) (f0 : Folder) (first : ChangesOnly (OfHistory head.path.own) old mid f0)
        (says : (image : Folder) → mid.may_leave image → HasHistory head.path image)
        (second : ChangesOnly (OfSegment head.size head.path) mid ready first.after)
        (logged : (image : Folder) → ready.may_leave image → HasLog head.size head.path head.control.floor s head.control.flushed image) where
      abbrev bytes : List ℕ
      bytes = control_bytes (standby_control head.control)

      copies : (image : Folder) → IsAfter ready.may_leave control_name control_aside bytes image → IsCopyOf old.may_leave head.size s.durable image
      copies image after =
          let b = second.now after.before after.was in
          let a = first.now b.before b.was in
          let short : head.control.floor + length s.durable.bytes ≤ 2 ^ 64 = omega (arith, counted, is.right.flushed.1) in
          let beside : (name : List ℕ) → length name ≢ 7 → length name ≢ 11 → image name ≡ after.before name = λ name no_control no_aside.
          after.others name (differ name control_name no_control) (differ name control_aside no_aside) in
          let no_segment : (n : ℕ) → n < 2 ^ 32 → OfSegment head.size head.path (history_name n) → ⊥ = λ n few g.
          omega (arith, ap length g.2, length_file head.size head.path named g.0 g.1, length_history n few) in
          let history : (n : ℕ) → n < 2 ^ 32 → image (history_name n) ≡ b.before (history_name n) = λ n few.
          beside (history_name n) (λ e. omega (arith, e, length_history n few)) (λ e. omega (arith, e, length_history n few))
          ∙ b.others (history_name n) (no_segment n few) in
          let said : HasHistory head.path image = λ later.
          let t = says b.before b.was later in (t.0, history head.path.own small ∙ t.1, t.2) in
          let others : (n : ℕ) → n < 2 ^ 32 → n ≢ head.path.own → image (history_name n) ≡ a.before (history_name n) = λ n few apart.
          history n few ∙ a.others (history_name n) (λ of. no_other_history n few apart (inl of)) in
          let carries : Carries head.size image head.path head.control.floor s.durable.bytes =
          carries_elsewhere head.size head.path head.control.floor s.durable.bytes after.before image short (λ segment fits.
          beside (segment_file head.size head.path segment) (λ e. omega (arith, e, length_file head.size head.path named segment fits))
          (λ e. omega (arith, e, length_file head.size head.path named segment fits)))
          (has_all head.size head.path head.control.floor s head.control.flushed after.before counted (logged after.before after.was)) in
          record {
            before = a.before;
            was = a.was;
            stands = λ known heard. stands a.before image known after.file said carries others
                (subst (λ (n : ℕ). IsKnown a.before n known) (ap (λ (c : Control). c.tli) of_control ∙ sym is.own) heard);
          }

      pub all_copied : (new : DiskState)
          → IfTold ready.files (λ f. (image : Folder) → new.may_leave image → IsAfter ready.may_leave control_name control_aside bytes image)
          → (image : Folder) → new.may_leave image → IsCopyOf old.may_leave head.size s.durable image
      all_copied new durable image left = copies image (told_so ready.files second.after
          (λ f. (image : Folder) → new.may_leave image → IsAfter ready.may_leave control_name control_aside bytes image) second.told durable image left)

      pub all_moments : (new : DiskState)
          → IfTold ready.files (λ f. LeavesOnly ready new (IsBeforeOrAfter ready.may_leave control_name control_aside bytes))
          → LeavesOnly old ready (IsCopying old.may_leave head.size s.durable) → LeavesOnly old new (IsCopying old.may_leave head.size s.durable)
      all_moments new any_moment so_far = joined old ready new (IsCopying old.may_leave head.size s.durable) so_far
          (weakened ready new (IsBeforeOrAfter ready.may_leave control_name control_aside bytes) (IsCopying old.may_leave head.size s.durable)
          (told_so ready.files second.after (λ f. LeavesOnly ready new (IsBeforeOrAfter ready.may_leave control_name control_aside bytes)) second.told
          any_moment) each)
        where
          each : (image : Folder) → IsBeforeOrAfter ready.may_leave control_name control_aside bytes image
              → IsCopying old.may_leave head.size s.durable image
          each image either =
              let b = second.now either.before either.was in
              let a = first.now b.before b.was in
              ⊎_elim (λ (same : image control_name ≡ either.before control_name). inl (
                a.before,
                a.was,
                same ∙ b.others control_name (λ of. no_control (inr of)) ∙ a.others control_name (λ of. no_control (inl of)),
              ))
              (λ (made : image control_name ≡ Some bytes). inr (is_copy old.may_leave head.size s.durable image (copies image (record {
                before = either.before;
                was = either.was;
                others = either.others;
                file = made;
              })))) either.file

  -- ---- in the words of the calls

  module _ (source : DiskState) (s : State) (backs : Backs source head s)
      (reads : IfTold source.files (λ folder. source.may_leave folder)) (old mid ready new : DiskState)
      (first : IfTold old.files (λ folder. ChangesOnly (OfHistory head.path.own) old mid folder))
      (says : IfTold old.files (λ folder. (image : Folder) → mid.may_leave image → HasHistory head.path image))
      (second : IfTold mid.files (λ folder. ChangesOnly (OfSegment head.size head.path) mid ready folder))
      (logged : IfTold mid.files (λ folder. (image : Folder) → ready.may_leave image
      → HasLog head.size head.path head.control.floor s head.control.flushed image)) where
    stands_there : StandsFor head.size backs.folder s.durable
    stands_there = (backs.images backs.folder (told_so source.files backs.folder (λ folder. source.may_leave folder) backs.told reads)).stands

    abbrev control : List ℕ
    control = control_bytes (standby_control head.control)

    pub copied_files : IfTold ready.files (λ folder. (image : Folder) → new.may_leave image
        → IsAfter ready.may_leave control_name control_aside control image)
        → IfTold old.files (λ folder. (image : Folder) → new.may_leave image → IsCopyOf old.may_leave head.size s.durable image)
    copied_files durable = where_told old.files
        (λ folder. (image : Folder) → new.may_leave image → IsCopyOf old.may_leave head.size s.durable image) (λ folder told.
        let a = told_so old.files folder (λ f. ChangesOnly (OfHistory head.path.own) old mid f) told first in
        let b = told_so mid.files a.after (λ f. ChangesOnly (OfSegment head.size head.path) mid ready f) a.told second in
        all_copied s backs.control backs.path backs.counted backs.folder stands_there.path old mid ready folder a
        (told_so old.files folder (λ f. (image : Folder) → mid.may_leave image → HasHistory head.path image) told says) b
        (told_so mid.files a.after (λ f. (image : Folder) → ready.may_leave image
        → HasLog head.size head.path head.control.floor s head.control.flushed image) a.told logged) new durable)

    pub copied_moments : IfTold ready.files (λ folder. LeavesOnly ready new (IsBeforeOrAfter ready.may_leave control_name control_aside control))
        → IfTold old.files (λ folder. LeavesOnly old new (IsCopying old.may_leave head.size s.durable))
    copied_moments any_moment = where_told old.files (λ folder. LeavesOnly old new (IsCopying old.may_leave head.size s.durable)) (λ folder told.
        let a = told_so old.files folder (λ f. ChangesOnly (OfHistory head.path.own) old mid f) told first in
        let b = told_so mid.files a.after (λ f. ChangesOnly (OfSegment head.size head.path) mid ready f) a.told second in
        let so_far = log_moments old ready s.durable (changes_then (OfHistory head.path.own) (OfSegment head.size head.path) OfLog old mid ready
        (λ n of. inl of) (λ n of. inr of) first second) in
        all_moments s backs.control backs.path backs.counted backs.folder stands_there.path old mid ready folder a
        (told_so old.files folder (λ f. (image : Folder) → mid.may_leave image → HasHistory head.path image) told says) b
        (told_so mid.files a.after (λ f. (image : Folder) → ready.may_leave image
        → HasLog head.size head.path head.control.floor s head.control.flushed image) a.told logged) new any_moment
        (told_so old.files folder (λ f. LeavesOnly old ready (IsCopying old.may_leave head.size s.durable)) told so_far))

-- ---- after a look whether the control is there

-- a call that only reads
pub asked : (old new : DiskState) (size : ℕ) (d : Durable) → ((image : Folder) → old.left_since old.moment image → old.may_leave image)
    → NoneNew old.may_leave new.may_leave → Elapses old new → LeavesOnly old new (IsCopying old.may_leave size d)
asked old new size d only_now none_new time = weakened old new old.may_leave (IsCopying old.may_leave size d)
    (goes_on old old new old.may_leave (started old old.may_leave only_now) time none_new) (λ image was. inl (image, was, refl))

pub asked_quiet : (source : DiskState) (head : Head) (old new : DiskState)
    → ((image : Folder) → old.left_since old.moment image → old.may_leave image) → NoneNew old.may_leave new.may_leave → Elapses old new
    → IfTold old.files (λ folder. (s : State) → Backs source head s → LeavesOnly old new (IsCopying old.may_leave head.size s.durable))
asked_quiet source head old new only_now none_new time = where_told old.files
    (λ folder. (s : State) → Backs source head s → LeavesOnly old new (IsCopying old.may_leave head.size s.durable))
    (λ folder told s backs. asked old new head.size s.durable only_now none_new time)

-- the files were told before, where they are told now
told_before : (a b : ToldFiles) (now : Folder) → is_some b ≡ is_some a → b ≡ Some now → (f : Folder) × (a ≡ Some f)
told_before None b now same told = let clash : true ≡ false = ap is_some (sym told) ∙ same in absurd cc
told_before (Some f) b now same told = (f, refl)

module _ (source : DiskState) (head : Head) (old mid new : DiskState) (stayed : Stayed old.files mid.files)
    (none_new : NoneNew old.may_leave mid.may_leave) where
  -- the clauses of the call after the look
  abbrev pub Copied : Result (Unit {0}) CopyFault → Type 0
  Copied result = (s : State) → Backs source head s → OnOk result (IfTold mid.files (λ folder. (image : Folder) → new.may_leave image
      → IsCopyOf mid.may_leave head.size s.durable image))

  pub moments_past : ((image : Folder) → old.left_since old.moment image → old.may_leave image) → Elapses old mid
      → IfTold mid.files (λ folder. (s : State) → Backs source head s → LeavesOnly mid new (IsCopying mid.may_leave head.size s.durable))
      → IfTold old.files (λ folder. (s : State) → Backs source head s → LeavesOnly old new (IsCopying old.may_leave head.size s.durable))
  moments_past only_now time past = where_told old.files
      (λ folder. (s : State) → Backs source head s → LeavesOnly old new (IsCopying old.may_leave head.size s.durable)) (λ folder told s backs.
      let later = told_so mid.files folder (λ f. (s : State) → Backs source head s
      → LeavesOnly mid new (IsCopying mid.may_leave head.size s.durable)) (stayed ∙ told) past s backs in
      joined old mid new (IsCopying old.may_leave head.size s.durable) (asked old mid head.size s.durable only_now none_new time)
      (weakened mid new (IsCopying mid.may_leave head.size s.durable) (IsCopying old.may_leave head.size s.durable) later (λ image either.
      ⊎_elim (λ (b : (before : Folder) × mid.may_leave before × (image control_name ≡ before control_name)).
      inl (b.0, none_new b.0 b.1, b.2)) (λ (copy : IsCopy head.size s.durable image). inr copy) either)))

  pub done_past : (result : Result (Unit {0}) CopyFault) → IfTold old.files (λ folder. folder control_name ≡ None) → Copied result
      → OnOk result (IfTold old.files (λ folder. (folder control_name ≡ None) × ((s : State) → Backs source head s → (image : Folder)
      → new.may_leave image → IsCopy head.size s.durable image)))
  done_past (Ok x) free copies = where_told old.files (λ folder. (folder control_name ≡ None) × ((s : State) → Backs source head s
      → (image : Folder) → new.may_leave image → IsCopy head.size s.durable image)) (λ folder told. (
        told_so old.files folder (λ f. f control_name ≡ None) told free,
        λ s backs image left. is_copy mid.may_leave head.size s.durable image (told_so mid.files folder
            (λ f. (image : Folder) → new.may_leave image → IsCopyOf mid.may_leave head.size s.durable image) (stayed ∙ told) (copies s backs)
            image left),
      ))
  done_past (Err e) free copies = tt

  module _ (tells : is_some new.files ≡ is_some mid.files) (reads : IfTold new.files (λ folder. new.may_leave folder)) where
    of_image : (s : State) → IfTold mid.files (λ folder. (image : Folder) → new.may_leave image
        → IsCopyOf mid.may_leave head.size s.durable image) → (now : Folder) → new.files ≡ Some now → (image : Folder) → new.may_leave image
        → IsCopyOf mid.may_leave head.size s.durable image
    of_image s copies now told image left =
        let before = told_before mid.files new.files now tells told in
        told_so mid.files before.0 (λ f. (image : Folder) → new.may_leave image → IsCopyOf mid.may_leave head.size s.durable image) before.1
        copies image left

    pub reads_past : (result : Result (Unit {0}) CopyFault) → Copied result
        → OnOk result (IfTold new.files (λ folder. (s : State) → Backs source head s → IsCopy head.size s.durable folder))
    reads_past (Ok x) copies = where_told new.files (λ folder. (s : State) → Backs source head s → IsCopy head.size s.durable folder)
        (λ now told s backs. is_copy mid.may_leave head.size s.durable now (of_image s (copies s backs) now told now
        (told_so new.files now (λ folder. new.may_leave folder) told reads)))
    reads_past (Err e) copies = tt

    pub known_past : (result : Result (Unit {0}) CopyFault) (s : State) (known : ℕ) → Backs source head s
        → ((image : Folder) → old.may_leave image → IsKnown image head.control.tli known) → Copied result
        → OnOk result (IfTold new.files (λ folder. StandsFor head.size folder (copied s.durable known)
        × ((image : Folder) → new.may_leave image → StandsFor head.size image (copied s.durable known))))
    known_past (Ok x) s known backs heard copies = where_told new.files (λ folder. StandsFor head.size folder (copied s.durable known)
        × ((image : Folder) → new.may_leave image → StandsFor head.size image (copied s.durable known))) (λ now told.
        let each : (image : Folder) → new.may_leave image → StandsFor head.size image (copied s.durable known) = λ image left.
        let copy = of_image s (copies s backs) now told image left in
        copy.stands known (subst (λ (c : Control). IsKnown copy.before c.tli known) (sym backs.control)
        (heard copy.before (none_new copy.before copy.was))) in
        (each now (told_so new.files now (λ folder. new.may_leave folder) told reads), each))
    known_past (Err e) s known backs heard copies = tt
