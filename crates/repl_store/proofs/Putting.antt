-- Another control in the place of the old one, whatever it says: a crash leaves the old state or the new one.
use Rattle.std.proofs.Common.{◌≡◌, ◌≢◌, ℕ, ◌+◌, ◌-◌, ◌^◌, ◌≤◌, List, length, take, Some, None, Ok, Err, refl, sym, ap, ◌∙◌, subst, inl, inr, ⊎_elim, arith, length-append}
use Rattle.std.proofs.lemmas.List.{length-take}
use Rattle.std.specs.Option.{option_map}
use Rattle.repl_effects.specs.Counts.{RoseExactly}
use Rattle.repl_disk.specs.declared.disk.DiskError.{DiskError}
use Rattle.repl_disk.specs.declared.disk.DiskError.TheVariants as error
use Rattle.repl_disk.specs.Answers.{NeverMissing, is_fault}
use Rattle.repl_disk.specs.Crash.{LeavesOnly}
use Rattle.repl_disk.specs.Folder.{Became, Folder, IfTold, ToldFiles, put}
use Rattle.repl_disk.specs.Moments.{weakened}
use Rattle.repl_disk.specs.Replacing.{IsAfter, IsBeforeOrAfter, IsHalfAside, IsUntouched, replaced}
use Rattle.repl_disk.specs.Runs.{told_so}
use Rattle.repl_disk.specs.State.{DiskState}
use Rattle.repl_disk.specs.Steps.{put_other}
use Rattle.repl_lsn.specs.History.{Path}
use Rattle.repl_lsn.specs.Segment.{history_name}
use Rattle.repl_store.specs.Backing.{Backs, Comes, Either, Keeps, LeavesOne, State, fault_of, log}
use Rattle.repl_store.specs.Durable.{Carries, Durable, StandsFor, control_aside, control_name, segment_file}
use Rattle.repl_store.specs.Head.{Head, IsHead}
use Rattle.repl_store.specs.declared.fault.StoreFault.{StoreFault}
use Rattle.repl_store.proofs.Backed.{head_carries, log_end, own_carries}
use Rattle.repl_store.proofs.Carrying.{carries_elsewhere}
use Rattle.repl_store.proofs.Names.{HasNames, file_differs, history_differs}
use Rattle.repl_store.proofs.Standing.{OnlyAt, SameHistories, names_of_head, stands_by}
use Rattle.repl_store.proofs.Turns.{done_comes, never_missing, refused_comes}

-- no file changed but the control and the one that it is written into first
abbrev pub ButControl : Folder → Folder → Type 0
ButControl old new = (other : List ℕ) → other ≢ control_name → other ≢ control_aside → new other ≡ old other

pub same_histories : (old new : Folder) → ButControl old new → SameHistories old new
same_histories old new only tli some small = only (history_name tli)
    (λ same. history_differs tli control_name small (λ e. omega (arith, e)) (sym same))
    (λ same. history_differs tli control_aside small (λ e. omega (arith, e)) (sym same))

pub carries_past : (size : ℕ) (path : Path) (floor : ℕ) (bytes : List ℕ) (old new : Folder) → HasNames size path
    → floor + length bytes ≤ 2 ^ 64 → ButControl old new → Carries size old path floor bytes → Carries size new path floor bytes
carries_past size path floor bytes old new named short only carries =
    carries_elsewhere size path floor bytes old new short (λ segment fits. only (segment_file size path segment)
    (file_differs size path named segment control_name fits (λ e. omega (arith, e)))
    (file_differs size path named segment control_aside fits (λ e. omega (arith, e)))) carries

module _ (disk : DiskState) (head : Head) (s : State) (is : IsHead head) (backs : Backs disk head s) where
  pub log_short : head.control.floor + length (log s) ≤ 2 ^ 64
  log_short = omega (arith, log_end disk head s backs, is.written)

  pub bytes_short : head.control.floor + length s.durable.bytes ≤ 2 ^ 64
  bytes_short = omega (arith, log_short, length-append s.durable.bytes s.unflushed)

  pub synced_short : head.control.floor + length (take (head.synced - head.control.floor) (log s)) ≤ 2 ^ 64
  synced_short = omega (arith, log_short, length-take (head.synced - head.control.floor) (log s))

  -- an image with the old control keeps what it kept
  pub keeps_past : (before image : Folder) → Keeps head s before → ButControl before image → image control_name ≡ before control_name
      → Keeps head s image
  keeps_past before image keeps only control = record {
    stands = stands_by head.size s.durable before image keeps.stands control (same_histories before image only)
        (own_carries disk head s backs image s.durable.bytes
        (carries_past head.size head.path head.control.floor s.durable.bytes before image (names_of_head head is) bytes_short only
        (head_carries disk head s backs before s.durable.bytes keeps.stands.carries)));
    synced = carries_past head.size head.path head.control.floor (take (head.synced - head.control.floor) (log s)) before image
        (names_of_head head is) synced_short only keeps.synced;
  }

  -- the disk found no memory
  pub untouched : (new : DiskState) → IsUntouched disk new control_aside → Backs new head s
  untouched new h =
      let half : IsHalfAside (Some backs.folder) new.files control_aside = subst
      (λ (t : ToldFiles). IsHalfAside t new.files control_aside) backs.told h.files in
      let only : OnlyAt control_aside backs.folder half.0 = λ other differ. half.2.others other differ
      ∙ ap (λ (f : Folder). f other) half.2.was in
      record {
        folder = half.0;
        told = half.1;
        control = backs.control;
        path = backs.path;
        counted = backs.counted;
        written = backs.written;
        reads = carries_past head.size head.path head.control.floor (log s) backs.folder half.0 (names_of_head head is) log_short
            (λ other no_control no_aside. only other no_aside) backs.reads;
        images = λ image left.
            let a = h.now image left in
            keeps_past a.before image (backs.images a.before a.was) (λ other no_control no_aside. a.others other no_aside)
            (a.others control_name (λ same. let clash : length control_name ≡ length control_aside = ap length same
            in omega (arith, clash)));
      }

  -- ---- another control, over images with Q

  module _ (bytes : List ℕ) (later : Head) (done : State) (some : State → Type 0) (Q : Folder → Type 0)
      (more : (image : Folder) → disk.may_leave image → Q image)
      (renewed : (before image : Folder) → Keeps head s before → Q before → ButControl before image → image control_name ≡ Some bytes
      → Keeps later done image) (same_size : later.size ≡ head.size) where
    abbrev OneOf : Folder → Type 0
    OneOf image = (d : Durable) × Either s.durable done.durable d × StandsFor head.size image d

    either_stands : (image : Folder) → IsBeforeOrAfter disk.may_leave control_name control_aside bytes image → OneOf image
    either_stands image either =
        let keeps = backs.images either.before either.was in
        ⊎_elim
        (λ (old : image control_name ≡ either.before control_name).
        (s.durable, inl refl, (keeps_past either.before image keeps either.others old).stands))
        (λ (new : image control_name ≡ Some bytes). (
          done.durable,
          inr refl,
          subst (λ (n : ℕ). StandsFor n image done.durable) same_size
              (renewed either.before image keeps (more either.before either.was) either.others new).stands,
        ))
        either.file

    module _ (new : DiskState)
        (any_moment : IfTold disk.files (λ f. LeavesOnly disk new (IsBeforeOrAfter disk.may_leave control_name control_aside bytes))) where
      pub control_moments : LeavesOne disk new head.size (Either s.durable done.durable)
      control_moments = weakened disk new (IsBeforeOrAfter disk.may_leave control_name control_aside bytes) OneOf
          (told_so disk.files backs.folder
          (λ f. LeavesOnly disk new (IsBeforeOrAfter disk.may_leave control_name control_aside bytes)) backs.told any_moment)
          either_stands

      pub control_put : IfTold disk.files (λ f. (image : Folder) → new.may_leave image → IsAfter disk.may_leave control_name control_aside
          bytes image)
          → Became disk.files new.files (λ f. replaced f control_name control_aside bytes)
          → done.durable.control ≡ later.control → done.durable.path ≡ later.path
          → later.control.floor + length done.durable.bytes ≡ later.control.flushed
          → later.control.flushed + length done.unflushed ≡ later.written
          → ((after : Folder) → ButControl backs.folder after → Carries later.size after later.path later.control.floor (log done))
          → Comes {A = Unit {0}} (Ok tt) disk new later (Either s.durable done.durable) done some
      control_put durable files control path counted written reads =
          let after = told_so disk.files backs.folder (λ f. (image : Folder) → new.may_leave image → IsAfter disk.may_leave control_name
          control_aside bytes image) backs.told durable in
          let folder : Folder = replaced backs.folder control_name control_aside bytes in
          done_comes tt disk new later (Either s.durable done.durable) done some
          (subst (λ (n : ℕ). LeavesOne disk new n (Either s.durable done.durable)) (sym same_size) control_moments) record {
            folder = folder;
            told = files ∙ ap (option_map (λ f. replaced f control_name control_aside bytes)) backs.told;
            control = control;
            path = path;
            counted = counted;
            written = written;
            reads = reads folder (λ other no_control no_aside.
                put_other (put backs.folder control_aside None) control_name other (Some bytes) no_control
                ∙ put_other backs.folder control_aside other None no_aside);
            images = λ image left.
                let a = after image left in
                renewed a.before image (backs.images a.before a.was) (more a.before a.was) a.others a.file;
          }

      pub control_refused : some s → (e : DiskError) (f : StoreFault) → f ≡ fault_of e
          → IfTold disk.files (λ folder. NeverMissing {A = Unit {0}} (Err e))
          → (e ≡ error.Memory → IfTold disk.files (λ folder. IsUntouched disk new control_aside))
          → RoseExactly (is_fault e) disk.faults new.faults
          → Comes {A = Unit {0}} (Err f) disk new head (Either s.durable done.durable) done some
      control_refused one e f same there memory rose =
          refused_comes e f disk new head (Either s.durable done.durable) done some same
          (never_missing (Unit {0}) e (told_so disk.files backs.folder (λ folder. NeverMissing {A = Unit {0}} (Err e)) backs.told there))
          rose control_moments (λ want. (
            s,
            one,
            untouched new (told_so disk.files backs.folder (λ folder. IsUntouched disk new control_aside) backs.told (memory want)),
          ))
