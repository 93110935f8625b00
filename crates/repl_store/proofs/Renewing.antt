-- A new control on the store's path, after all bytes are synced: a crash leaves what was flushed, or all that was written.
use Rattle.std.proofs.Common.{
  ◌≡◌,
  ◌≢◌,
  ℕ,
  ◌+◌,
  ◌-◌,
  ◌^◌,
  ◌≤◌,
  List,
  [],
  ◌++◌,
  length,
  Option,
  Some,
  None,
  Ok,
  Err,
  refl,
  sym,
  ap,
  ◌∙◌,
  subst,
  inl,
  inr,
  ⊎_elim,
  arith,
  length-append,
}
use Rattle.std.proofs.lemmas.List.{append-nil, nil_from_length, take_all}
use Rattle.repl_control.specs.Control.{IsControl, FitsFields, control_bytes}
use Rattle.repl_control.specs.declared.control.Control.{Control}
use Rattle.repl_control.specs.declared.control.Role.{Role}
use Rattle.repl_effects.specs.Counts.{RoseExactly}
use Rattle.repl_disk.specs.declared.disk.DiskError.{DiskError}
use Rattle.repl_disk.specs.declared.disk.DiskError.TheVariants as error
use Rattle.repl_disk.specs.Answers.{NeverMissing, is_fault}
use Rattle.repl_disk.specs.Crash.{LeavesOnly}
use Rattle.repl_disk.specs.Folder.{Became, Folder, IfTold, ToldFiles, put}
use Rattle.std.specs.Option.{option_map}
use Rattle.repl_disk.specs.Moments.{weakened}
use Rattle.repl_disk.specs.Replacing.{IsAfter, IsBeforeOrAfter, IsHalfAside, IsUntouched, replaced}
use Rattle.repl_disk.specs.Runs.{told_so}
use Rattle.repl_disk.specs.State.{DiskState}
use Rattle.repl_disk.specs.Steps.{put_other}
use Rattle.repl_lsn.specs.Between.{AreBetween}
use Rattle.repl_lsn.specs.History.{Path}
use Rattle.repl_lsn.specs.Segment.{history_name}
use Rattle.repl_store.specs.Backing.{Backs, Comes, Either, Keeps, LeavesOne, State, fault_of, flushed, flushed_control, log}
use Rattle.repl_store.specs.Durable.{Carries, Durable, StandsFor, control_aside, control_name, segment_file}
use Rattle.repl_store.specs.Head.{Head, IsHead, Stands}
use Rattle.repl_store.specs.declared.fault.StoreFault.{StoreFault}
use Rattle.repl_store.proofs.Backed.{head_carries, log_end, own_carries}
use Rattle.repl_store.proofs.Carrying.{carries_elsewhere}
use Rattle.repl_store.proofs.Names.{HasNames, file_differs, history_differs}
use Rattle.repl_store.proofs.Standing.{OnlyAt, SameHistories, names_of_head, stands_by, stands_elsewhere, stands_renewed}
use Rattle.repl_store.proofs.Turns.{done_comes, never_missing, refused_comes}

-- only the control and the file in which it is written first changed
abbrev pub OnlyControl : Folder → Folder → Type 0
OnlyControl old new = (other : List ℕ) → other ≢ control_name → other ≢ control_aside → new other ≡ old other

histories_stay : (old new : Folder) → OnlyControl old new → SameHistories old new
histories_stay old new only tli some small = only (history_name tli)
    (λ same. history_differs tli control_name small (λ e. omega (arith, e)) (sym same))
    (λ same. history_differs tli control_aside small (λ e. omega (arith, e)) (sym same))

carries_on : (size : ℕ) (path : Path) (floor : ℕ) (bytes : List ℕ) (old new : Folder) → HasNames size path → floor + length bytes ≤ 2 ^ 64
    → OnlyControl old new → Carries size old path floor bytes → Carries size new path floor bytes
carries_on size path floor bytes old new named short only carries =
    carries_elsewhere size path floor bytes old new short (λ segment fits. only (segment_file size path segment)
    (file_differs size path named segment control_name fits (λ e. omega (arith, e)))
    (file_differs size path named segment control_aside fits (λ e. omega (arith, e)))) carries

module _ (disk : DiskState) (head : Head) (s : State) (is : IsHead head) (backs : Backs disk head s) (c : Control)
    (synced : head.synced ≡ head.written) (c_is : c ≡ flushed_control head.control c.role head.written c.whole c.prev)
    (right : IsControl head.size c) (between : AreBetween head.size c.whole head.path.parents) where
  abbrev done : State
  done = flushed s c.role c.whole c.prev

  abbrev renewed_head : Option (List ℕ) → Head
  renewed_head name = record {
    size = head.size;
    control = c;
    path = head.path;
    written = head.written;
    synced = head.written;
    unsynced = name;
  }

  names : HasNames head.size head.path
  names = names_of_head head is

  -- the control that the state says
  control_is : done.durable.control ≡ c
  control_is = ap (λ (k : Control). flushed_control k c.role (k.flushed + length s.unflushed) c.whole c.prev) backs.control
      ∙ ap (λ (w : ℕ). flushed_control head.control c.role w c.whole c.prev) backs.written ∙ sym c_is

  same_floor : c.floor ≡ head.control.floor
  same_floor = ap (λ (k : Control). k.floor) c_is

  same_flushed : c.flushed ≡ head.written
  same_flushed = ap (λ (k : Control). k.flushed) c_is

  short : head.control.floor + length (log s) ≤ 2 ^ 64
  short = omega (arith, log_end disk head s backs, is.written)

  all_synced : (image : Folder) → Keeps head s image → Carries head.size image head.path head.control.floor (log s)
  all_synced image keeps = subst (λ (bytes : List ℕ). Carries head.size image head.path head.control.floor bytes)
      (take_all (head.synced - head.control.floor) (log s) (omega (arith, log_end disk head s backs, synced))) keeps.synced

  -- ---- an image with the new control

  renewed_stands : (before image : Folder) → Keeps head s before → OnlyControl before image → image control_name ≡ Some (control_bytes c)
      → StandsFor head.size image done.durable
  renewed_stands before image keeps only control =
      subst
      (λ (k : Control). StandsFor head.size image (record { control = k; path = s.durable.path; bytes = log s; known = s.durable.known }))
      (sym control_is)
      (stands_renewed head.size s.durable c (log s) before image keeps.stands control (histories_stay before image only) fits right
      (ap (λ (k : Control). k.tli) c_is ∙ sym (ap (λ (k : Control). k.tli) backs.control))
      (subst (λ (p : Path). AreBetween head.size c.whole p.parents) (sym backs.path) between)
      (omega (arith, same_floor, same_flushed, log_end disk head s backs))
      (subst (λ (p : Path). Carries head.size image p c.floor (log s)) (sym backs.path)
      (subst (λ (n : ℕ). Carries head.size image head.path n (log s)) (sym same_floor)
      (carries_on head.size head.path head.control.floor (log s) before image names short only (all_synced before keeps)))))
    where
      fits : FitsFields c
      fits = subst FitsFields (sym c_is) record {
        system = is.fits.system;
        timeline = is.fits.timeline;
        magic = is.fits.magic;
      }

  renewed_carries : (folder : Folder) → Carries head.size folder head.path head.control.floor (log s)
      → Carries head.size folder head.path c.floor (log done)
  renewed_carries folder carries = subst (λ (n : ℕ). Carries head.size folder head.path n (log done)) (sym same_floor)
      (subst (λ (bytes : List ℕ). Carries head.size folder head.path head.control.floor bytes) (sym (append-nil (log s))) carries)

  renewed_keeps : (name : Option (List ℕ)) (before image : Folder) → Keeps head s before → OnlyControl before image
      → image control_name ≡ Some (control_bytes c) → Keeps (renewed_head name) done image
  renewed_keeps name before image keeps only control = record {
    stands = renewed_stands before image keeps only control;
    synced = subst (λ (bytes : List ℕ). Carries head.size image head.path c.floor bytes)
        (sym (take_all (head.written - c.floor) (log done) (omega (
          arith,
          same_floor,
          log_end disk head s backs,
          ap length (append-nil (log s)),
        ))))
        (renewed_carries image (carries_on head.size head.path head.control.floor (log s) before image names short only
        (all_synced before keeps)));
  }

  -- ---- an image with the old one

  old_stands : (before image : Folder) → Keeps head s before → OnlyControl before image → image control_name ≡ before control_name
      → StandsFor head.size image s.durable
  old_stands before image keeps only control =
      stands_by head.size s.durable before image keeps.stands control (histories_stay before image only)
      (own_carries disk head s backs image s.durable.bytes
      (carries_on head.size head.path head.control.floor s.durable.bytes before image names (omega (
        arith,
        short,
        length-append s.durable.bytes s.unflushed,
      )) only (head_carries disk head s backs before s.durable.bytes keeps.stands.carries)))

  abbrev Column : Durable → Type 0
  Column = Either s.durable done.durable

  abbrev OneOf : Folder → Type 0
  OneOf image = (d : Durable) × Column d × StandsFor head.size image d

  either_stands : (image : Folder) → IsBeforeOrAfter disk.may_leave control_name control_aside (control_bytes c) image → OneOf image
  either_stands image either =
      let keeps = backs.images either.before either.was in
      ⊎_elim
      (λ (old : image control_name ≡ either.before control_name).
      (s.durable, inl refl, old_stands either.before image keeps either.others old))
      (λ (new : image control_name ≡ Some (control_bytes c)).
      (done.durable, inr refl, renewed_stands either.before image keeps either.others new))
      either.file

  -- ---- the call

  module _ (new : DiskState)
      (any_moment : IfTold disk.files (λ f. LeavesOnly disk new
      (IsBeforeOrAfter disk.may_leave control_name control_aside (control_bytes c)))) where
    moments : LeavesOne disk new head.size Column
    moments = weakened disk new (IsBeforeOrAfter disk.may_leave control_name control_aside (control_bytes c)) OneOf
        (told_so disk.files backs.folder
        (λ f. LeavesOnly disk new (IsBeforeOrAfter disk.may_leave control_name control_aside (control_bytes c))) backs.told any_moment)
        either_stands

    renew_done : (name : Option (List ℕ))
        → IfTold disk.files (λ f. (image : Folder) → new.may_leave image → IsAfter disk.may_leave control_name control_aside
        (control_bytes c) image)
        → Became disk.files new.files (λ f. replaced f control_name control_aside (control_bytes c))
        → Comes {A = Unit {0}} (Ok tt) disk new (renewed_head name) Column done (λ t. t ≡ s)
    renew_done name durable files =
        let after = told_so disk.files backs.folder (λ f. (image : Folder) → new.may_leave image → IsAfter disk.may_leave control_name
        control_aside (control_bytes c) image) backs.told durable in
        let folder : Folder = replaced backs.folder control_name control_aside (control_bytes c) in
        done_comes tt disk new (renewed_head name) Column done (λ t. t ≡ s) moments record {
          folder = folder;
          told = files ∙ ap (option_map (λ f. replaced f control_name control_aside (control_bytes c))) backs.told;
          control = control_is;
          path = backs.path;
          counted = omega (arith, same_floor, same_flushed, log_end disk head s backs);
          written = omega (arith, same_flushed);
          reads = renewed_carries folder (carries_on head.size head.path head.control.floor (log s) backs.folder folder names short
              (others backs.folder) backs.reads);
          images = λ image left.
              let a = after image left in renewed_keeps name a.before image (backs.images a.before a.was) a.others a.file;
        }
      where
        others : (folder : Folder) → OnlyControl folder (replaced folder control_name control_aside (control_bytes c))
        others folder other no_control no_aside = put_other (put folder control_aside None) control_name other (Some (control_bytes c))
            no_control ∙ put_other folder control_aside other None no_aside

    -- the same in the words of the call
    pub renew_ok : (other : Head) → Stands other head.size c head.path head.written → other.synced ≡ head.written
        → IfTold disk.files (λ f. (image : Folder) → new.may_leave image → IsAfter disk.may_leave control_name control_aside
        (control_bytes c) image)
        → Became disk.files new.files (λ f. replaced f control_name control_aside (control_bytes c))
        → Comes {A = Unit {0}} (Ok tt) disk new other Column done (λ t. t ≡ s)
    renew_ok other at all durable files = subst (λ (h : Head). Comes {A = Unit {0}} (Ok tt) disk new h Column done (λ t. t ≡ s)) (sym same)
        (renew_done other.unsynced durable files)
      where
        same : other ≡ renewed_head other.unsynced
        same = λ i. record {
          size = at.same_size i;
          control = at.same_control i;
          path = at.same_path i;
          written = at.same_end i;
          synced = all i;
          unsynced = other.unsynced;
        }

    -- the disk found no memory
    aside_keeps : (before image : Folder) → Keeps head s before → OnlyAt control_aside before image → Keeps head s image
    aside_keeps before image keeps only = record {
      stands = stands_elsewhere head.size s.durable control_aside before image
          (subst (HasNames head.size) (sym backs.path) names) (λ e. omega (arith, e)) (λ e. omega (arith, e)) (λ e. omega (arith, e)) only
          keeps.stands;
      synced = subst (λ (bytes : List ℕ). Carries head.size image head.path head.control.floor bytes)
          (sym (take_all (head.synced - head.control.floor) (log s) (omega (arith, log_end disk head s backs, synced))))
          (carries_on head.size head.path head.control.floor (log s) before image names short
          (λ other no_control no_aside. only other no_aside) (all_synced before keeps));
    }

    untouched : IsUntouched disk new control_aside → Backs new head s
    untouched h =
        let half : IsHalfAside (Some backs.folder) new.files control_aside = subst
        (λ (t : ToldFiles). IsHalfAside t new.files control_aside) backs.told h.files in
        let only : OnlyAt control_aside backs.folder half.0 = λ other differ. half.2.others other differ
        ∙ ap (λ (f : Folder). f other) half.2.was in
        record {
          folder = half.0;
          told = half.1;
          control = backs.control;
          path = backs.path;
          counted = backs.counted;
          written = backs.written;
          reads = carries_on head.size head.path head.control.floor (log s) backs.folder half.0 names short
              (λ other no_control no_aside. only other no_aside) backs.reads;
          images = λ image left.
              let a = h.now image left in aside_keeps a.before image (backs.images a.before a.was) a.others;
        }

    pub renew_refused : (e : DiskError) (f : StoreFault) → f ≡ fault_of e
        → IfTold disk.files (λ folder. NeverMissing {A = Unit {0}} (Err e))
        → (e ≡ error.Memory → IfTold disk.files (λ folder. IsUntouched disk new control_aside))
        → RoseExactly (is_fault e) disk.faults new.faults → Comes {A = Unit {0}} (Err f) disk new head Column done (λ t. t ≡ s)
    renew_refused e f is_fault there memory rose =
        refused_comes e f disk new head Column done (λ t. t ≡ s) is_fault
        (never_missing (Unit {0}) e (told_so disk.files backs.folder (λ folder. NeverMissing {A = Unit {0}} (Err e)) backs.told there)) rose
        moments (λ same. (
          s,
          refl,
          untouched (told_so disk.files backs.folder (λ folder. IsUntouched disk new control_aside) backs.told (memory same)),
        ))

-- ---- where nothing is to be done

-- the control says already that all is flushed
pub certain_already : (disk : DiskState) (head : Head) (s : State) (role : Role) (whole prev : ℕ) → Backs disk head s
    → flushed_control head.control role head.written whole prev ≡ head.control → flushed s role whole prev ≡ s
certain_already disk head s role whole prev backs same = λ i. record {
  durable = record { control = control i; path = s.durable.path; bytes = bytes i; known = s.durable.known };
  unflushed = sym none i;
}
  where
    none : s.unflushed ≡ []
    none = nil_from_length s.unflushed (omega (arith, ap (λ (k : Control). k.flushed) same, backs.written))

    control : flushed_control s.durable.control role (s.durable.control.flushed + length s.unflushed) whole prev ≡ s.durable.control
    control = ap (λ (k : Control). flushed_control k role (k.flushed + length s.unflushed) whole prev) backs.control
        ∙ ap (λ (w : ℕ). flushed_control head.control role w whole prev) backs.written ∙ same ∙ sym backs.control

    bytes : s.durable.bytes ++ s.unflushed ≡ s.durable.bytes
    bytes = ap (λ (u : List ℕ). s.durable.bytes ++ u) none ∙ append-nil s.durable.bytes
