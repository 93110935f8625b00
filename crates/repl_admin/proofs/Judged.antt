-- What `check` does, from what a mount, the check of the log and the writing of the lines did.
use Rattle.std.proofs.Common.{◌≡◌, ◌↔◌, ◌⊎◌, ℕ, List, [], Some, None, Result, Ok, Err, OnOk, IsOk, MatchResult, refl, sym, ◌∙◌, ap, subst, inl, inr, ⊎_elim, arith}
use Rattle.repl_check.proofs.Verdicts.{fits_no_flaw}
use Rattle.repl_check.specs.Found as found
use Rattle.repl_check.specs.Found.{read_of, told}
use Rattle.repl_check.specs.declared.check.CheckFault.{CheckFault}
use Rattle.repl_check.specs.declared.check.CheckFault.TheVariants as check
use Rattle.repl_check.specs.declared.flaw.Flaw.{Flaw}
use Rattle.repl_check.specs.declared.flaw.Flaw.TheVariants as flaw
use Rattle.repl_control.specs.declared.control.TheConstants.{VERSION_1_SIZE}
use Rattle.repl_effects.specs.Counts.{DidNotFall, Rose, Stood}
use Rattle.repl_disk.specs.Folder.{Folder, IfTold}
use Rattle.repl_disk.specs.Runs.{told_so}
use Rattle.repl_disk.specs.State.{DiskState}
use Rattle.repl_io.specs.Sink.{SinkState}
use Rattle.repl_lsn.specs.Path.{timeline_at}
use Rattle.repl_lsn.specs.Segment.{IsSegSize}
use Rattle.repl_node.specs.Making.{IsFirstRefusal}
use Rattle.repl_page.specs.Page.{IsPage}
use Rattle.repl_slots.specs.Stored.{slots_name}
use Rattle.repl_exit.specs.declared.damage.DamageReason.{DamageReason}
use Rattle.repl_exit.specs.declared.damage.DamageReason.TheVariants as damage
use Rattle.repl_store.proofs.Mounting.{durable_one}
use Rattle.repl_store.specs.Backing.{Asks, Backs, Before, Comes, IsCaused, OnlyReads, State}
use Rattle.repl_store.specs.Durable.{Durable, StandsFor}
use Rattle.repl_store.specs.Head.{Head, IsMounted}
use Rattle.repl_store.specs.Head as head
use Rattle.repl_store.specs.Refusal.{IsOfMount, IsRefusal}
use Rattle.repl_store.specs.declared.fault.StoreFault.{StoreFault}
use Rattle.repl_admin.proofs.Ending.{calm_past, damaged_ends, damaged_faults, disk_ends, disk_faults, done_of, early_ends, early_failed, early_quiet, ends_past, faults_past, memory_ends, memory_faults, node_failure_told, printed_ends, printed_faults, refusal_faults, refused_ends, refused_faults}
use Rattle.repl_admin.proofs.Slotting.{early_slots, slots_apart}
use Rattle.repl_admin.proofs.Standing.{status_same, undamaged}
use Rattle.repl_admin.specs.Checking.{Checked, FitsWhole, IsDamageAt, IsFlawed, IsToldAt, LogFits, LogHas, identity_of, whole_lines}
use Rattle.repl_admin.specs.Damages.{IsDamagedOr, IsToldOf, IsToldOfSlots}
use Rattle.repl_admin.specs.Files.{HasSlots, HasWrongSlots, IsSettled}
use Rattle.repl_admin.specs.Lines.{check_lines}
use Rattle.repl_admin.specs.Printing.{IsPrinted}
use Rattle.repl_admin.specs.Tending.{Ends, IsCalm, TellsFaults}
use Rattle.repl_admin.specs.declared.tended.Tended.{Tended}
use Rattle.repl_admin.specs.declared.tended.Tended.TheVariants as tended
use Rattle.repl_wal.specs.State.{identity_in}
use Rattle.repl_wal.specs.declared.fault.NodeFault.{NodeFault}
use Rattle.repl_wal.specs.declared.fault.NodeFault.TheVariants as node

-- ---- the store of the files

-- the state of a store with this durable part that has written nothing
abbrev mounted_state : Durable → State
mounted_state d = record { durable = d; unflushed = [] }

size_is : IsSegSize VERSION_1_SIZE
size_is = record { exponent = 24; power = refl; least = omega arith; most = omega arith }

floor_on_page : (folder : Folder) (d : Durable) → StandsFor VERSION_1_SIZE folder d → IsPage d.control.floor
floor_on_page folder d stands = omega (arith, stands.right.floor.0)

-- what a check finds of the log of a store is said of what its files stand for
log_fits : (h : Head) (d : Durable) → IsMounted h VERSION_1_SIZE d → found.LogFits h (mounted_state d) → LogFits d
log_fits h d mounted fits = rw (mounted.same_size, mounted.same_control, mounted.same_path) at fits

log_has : (h : Head) (d : Durable) (wrong : Flaw) → IsMounted h VERSION_1_SIZE d → found.LogHas h (mounted_state d) wrong → LogHas d wrong
log_has h d wrong mounted has = rw (mounted.same_size, mounted.same_control, mounted.same_path) at has

-- no flaw can be told of a log that fits
unflawed : (folder : Folder) (d : Durable) → FitsWhole folder d → (name : List ℕ) (place : ℕ) (why : DamageReason) → IsFlawed folder name place why → ⊥
unflawed folder d whole name place why (inl bad) = undamaged folder d whole.stands whole.slots name place why bad
unflawed folder d whole name place why (inr (other, wrong, stands, slots, has, at)) =
    let same = durable_one VERSION_1_SIZE folder other d stands whole.stands in
    fits_no_flaw (identity_of d) (timeline_at d.path) d.control.floor d.bytes d.control.whole d.control.prev wrong size_is
    (floor_on_page folder d whole.stands) whole.fits (subst (λ (x : Durable). LogHas x wrong) same has)

module _ (end : Tended) (old new : DiskState) (w w' : SinkState) where
  abbrev EndsAt : Folder → Type 0
  EndsAt folder = Ends (FitsWhole folder) whole_lines ⊥ (IsFlawed folder) (Rose old.faults new.faults) end w w'

  -- wrong slots are told
  abbrev TellsSlots : Type 0
  TellsSlots = (folder : Folder) (place : ℕ) → old.files ≡ Some folder → HasWrongSlots folder place → IsCalm old new w w'
      → (end ≡ tended.Damaged slots_name place damage.Slots) ⊎ (end ≡ tended.Memory)

  checked_of : ((folder : Folder) → old.files ≡ Some folder → IsSettled old folder → EndsAt folder) → TellsFaults end old new w w'
      → TellsSlots → Checked end old new w w'
  checked_of ends faults slots = record {
    ends = ends;
    faults = faults;
    complete = λ folder d told settled whole calm.
        done_of (FitsWhole folder) whole_lines ⊥ (IsFlawed folder) (Rose old.faults new.faults) end w w' (ends folder told settled) calm.0 calm.1
        (unflawed folder d whole) (λ none. none);
    slots = slots;
  }

  -- none are wrong
  no_slots : IfTold old.files HasSlots → TellsSlots
  no_slots right folder place told wrong calm = absurd (slots_apart folder place (told_so old.files folder HasSlots told right) wrong)

-- ---- the control or the slots are refused

pub early_checked : (end : Tended) (old new : DiskState) (w : SinkState) → IsToldOfSlots end old new → Checked end old new w w
early_checked end old new w is =
    let e = is.fault in
    let first : (folder : Folder) → old.files ≡ Some folder → IsFirstRefusal VERSION_1_SIZE folder is.fault =
    λ folder told. told_so old.files folder (λ f. IsFirstRefusal VERSION_1_SIZE f is.fault) told is.refused in
    let failed : is.fault ≡ node.DiskFault → Rose old.faults new.faults ⊎ ((old.files ≡ None) × Rose old.lacks new.lacks) =
    λ same. is.caused.failed (ap (λ (x : NodeFault). Err x) same) in
    let rose : (folder : Folder) → old.files ≡ Some folder → is.fault ≡ node.DiskFault → Rose old.faults new.faults =
    λ folder told same. ⊎_elim (λ rose. rose) (λ lack. absurd (let both : Some folder ≡ None = sym told ∙ lack.0 in cc)) (failed same) in
    checked_of end old new w w
    (λ folder told settled. early_ends (FitsWhole folder) whole_lines ⊥ (IsFlawed folder) (Rose old.faults new.faults) folder e end w is.told (first folder told)
    (rose folder told) (λ name place why bad. inl bad))
    (refusal_faults end old new w (early_quiet e end is.answers is.told)
    (λ ends. ⊎_elim inl (λ lack. inr lack.1) (failed (early_failed e end is.answers is.told ends)))
    (⊎_elim (λ same. inl (node_failure_told e end is.told same)) inr is.caused.others))
    (λ folder place told wrong calm. early_slots folder place e end is.told (first folder told) wrong (λ same. calm.0 (rose folder told same)))

-- ---- the store is refused

pub refused_checked : {A : Type 0} (e : StoreFault) (end : Tended) (old new : DiskState) (w : SinkState) → IfTold old.files HasSlots
    → IfTold old.files (λ folder. IsRefusal VERSION_1_SIZE folder e) → IsOfMount e → IsToldOf e end → Asks {A = A} (Err e) old new
    → Checked end old new w w
refused_checked e end old new w slots refused answer is asks =
    checked_of end old new w w
    (λ folder told settled. refused_ends (FitsWhole folder) whole_lines ⊥ (IsFlawed folder) (Rose old.faults new.faults) folder e end w is
    (told_so old.files folder (λ f. IsRefusal VERSION_1_SIZE f e) told refused) (inr (told_so old.files folder HasSlots told slots))
    (λ same. ⊎_elim (λ rose. rose) (λ lack. absurd (let both : Some folder ≡ None = sym told ∙ lack.0 in cc)) (asks.failed (ap (λ f. Err f) same)))
    (λ name place why bad. inl bad))
    (refused_faults e end old new w answer is asks) (no_slots end old new w w slots)

-- ---- the log is judged

abbrev IsMountedOn : Head → Folder → Type 0
IsMountedOn h folder = (d : Durable) × StandsFor VERSION_1_SIZE folder d × IsMounted h VERSION_1_SIZE d

-- a store that was mounted from these files hangs together with them where a crash leaves nothing else
abbrev BacksMounted : DiskState → DiskState → Head → Type 0
BacksMounted old mid h = (folder : Folder) (d : Durable) → old.files ≡ Some folder → StandsFor VERSION_1_SIZE folder d
    → ((image : Folder) → old.may_leave image → StandsFor VERSION_1_SIZE image d) → Backs mid h (mounted_state d)

-- the lines of a store that was mounted
abbrev lines_of : Head → List ℕ
lines_of h = check_lines (identity_in (head.status_of h))

module _ {A : Type 0} (x : A) (h : Head) (end : Tended) (old mid new : DiskState) (w w' : SinkState) (slots : IfTold old.files HasSlots)
    (mounted : IfTold old.files (IsMountedOn h)) (backs : BacksMounted old mid h) (asks : Asks {A = A} (Ok x) old mid) where
  found_in : (folder : Folder) → old.files ≡ Some folder → IsMountedOn h folder
  found_in folder told = told_so old.files folder (IsMountedOn h) told mounted

  slots_in : (folder : Folder) → old.files ≡ Some folder → HasSlots folder
  slots_in folder told = told_so old.files folder HasSlots told slots

  backs_in : (folder : Folder) (told : old.files ≡ Some folder) → IsSettled old folder → Backs mid h (mounted_state (found_in folder told).0)
  backs_in folder told settled =
      let d = found_in folder told in
      backs folder d.0 told d.1 (λ image now. settled d.0 image d.1 now)

  -- the log fits, and that was printed
  pub printed_checked : ((s : State) → Backs mid h s → found.LogFits h s) → Stood mid.faults new.faults
      → IsPrinted (lines_of h) end w w' → Checked end old new w w'
  printed_checked fits stood printed =
      checked_of end old new w w'
      (λ folder told settled.
      let d = found_in folder told in
      let whole : FitsWhole folder d.0 = record {
        stands = d.1;
        slots = slots_in folder told;
        fits = log_fits h d.0 d.2 (fits (mounted_state d.0) (backs_in folder told settled));
      } in
      printed_ends (FitsWhole folder) whole_lines ⊥ (IsFlawed folder) (Rose old.faults new.faults) d.0 end w w' whole
      (subst (λ s. IsPrinted (check_lines (identity_in s)) end w w') (status_same h d.0 d.2) printed))
      (printed_faults (lines_of h) end old new w w' printed (stood ∙ asks.ok.0)) (no_slots end old new w w' slots)

  -- the log has a flaw, and that is told
  flawed_checked : (wrong : Flaw) (name : List ℕ) (place : ℕ) (why : DamageReason) → IsDamagedOr name place why end
      → ((d : Durable) → d.path ≡ h.path → IsDamageAt d wrong name place why) → ((s : State) → Backs mid h s → found.LogHas h s wrong)
      → Stood mid.faults new.faults → Checked end old new w w
  flawed_checked wrong name place why is at has stood =
      checked_of end old new w w
      (λ folder told settled.
      let d = found_in folder told in
      damaged_ends (FitsWhole folder) whole_lines ⊥ (IsFlawed folder) (Rose old.faults new.faults) name place why end w is
      (inr (
        d.0,
        wrong,
        d.1,
        slots_in folder told,
        log_has h d.0 wrong d.2 (has (mounted_state d.0) (backs_in folder told settled)),
        at d.0 (sym d.2.same_path),
      )))
      (damaged_faults name place why end old new w is (stood ∙ asks.ok.0)) (no_slots end old new w w slots)

  -- the log is not found to fit
  pub answered_checked : (e : CheckFault) → IsToldAt h.path e end → (e ≡ check.Broken → ⊥)
      → ((wrong : Flaw) → e ≡ told wrong → (s : State) → Backs mid h s → found.LogHas h s wrong)
      → IsCaused (read_of (Err e)) mid new
      → ((s : State) → Backs mid h s → Comes (read_of (Err e)) mid new h (Before s) s (λ t. t ≡ s)) → Checked end old new w w
  answered_checked check.Whole is unbroken has caused comes =
      flawed_checked flaw.Whole _ 32 damage.Control is (λ d same. (refl, refl, refl)) (has flaw.Whole refl) caused.ok.0
  answered_checked check.Last is unbroken has caused comes =
      flawed_checked flaw.Last _ 48 damage.Control is (λ d same. (refl, refl, refl)) (has flaw.Last refl) caused.ok.0
  answered_checked (check.Bad at reason) is unbroken has caused comes =
      flawed_checked (flaw.Bad at reason) _ _ (damage.Bad reason) is (λ d same. (rw same refl, refl, refl)) (has (flaw.Bad at reason) refl) caused.ok.0
  answered_checked check.Broken is unbroken has caused comes = absurd (unbroken refl)
  answered_checked check.DiskFault is unbroken has caused comes =
      checked_of end old new w w
      (λ folder told settled.
      let d = found_in folder told in
      let rose : Rose mid.faults new.faults = (comes (mounted_state d.0) (backs_in folder told settled)).failed refl in
      disk_ends (FitsWhole folder) whole_lines ⊥ (IsFlawed folder) (Rose old.faults new.faults) end w is (omega (arith, rose, asks.ok.0)))
      (disk_faults end old new w is (⊎_elim (λ rose. inl (omega (arith, rose, asks.ok.0))) (λ lack. inr (omega (arith, lack, asks.lacks))) (caused.failed refl)))
      (no_slots end old new w w slots)
  answered_checked check.Memory is unbroken has caused comes =
      checked_of end old new w w
      (λ folder told settled. memory_ends (FitsWhole folder) whole_lines ⊥ (IsFlawed folder) (Rose old.faults new.faults) end w is)
      (memory_faults end old new w is (caused.no_memory refl ∙ asks.ok.0)) (no_slots end old new w w slots)

-- what is told of a log that was judged
abbrev pub IsTold : Head → Result (Unit {0}) CheckFault → Tended → SinkState → SinkState → Type 0
IsTold h result end w w' = MatchResult result (λ _. IsPrinted (lines_of h) end w w') (λ e. IsToldAt h.path e end × (w' ≡ w))

module _ {A : Type 0} (x : A) (h : Head) (end : Tended) (old mid new : DiskState) (w w' : SinkState) (slots : IfTold old.files HasSlots)
    (mounted : IfTold old.files (IsMountedOn h)) (backs : BacksMounted old mid h) (asks : Asks {A = A} (Ok x) old mid) where
  pub judged_checked : (result : Result (Unit {0}) CheckFault)
      → OnOk (read_of result) ((s : State) → Backs mid h s → IsOk result ↔ found.LogFits h s)
      → ((wrong : Flaw) → result ≡ Err (told wrong) → (s : State) → Backs mid h s → found.LogHas h s wrong)
      → (result ≡ Err check.Broken → ⊥) → IsCaused (read_of result) mid new
      → ((s : State) → Backs mid h s → Comes (read_of result) mid new h (Before s) s (λ t. t ≡ s))
      → IsTold h result end w w' → Checked end old new w w'
  judged_checked (Ok u) exact flawed unbroken caused comes is =
      printed_checked x h end old mid new w w' slots mounted backs asks (λ s backed. (exact s backed).0 refl) caused.ok.0 is
  judged_checked (Err e) exact flawed unbroken caused comes is =
      let P : SinkState → Type 0 = λ v. Checked end old new w v in
      subst P (sym is.1) (answered_checked x h end old mid new w w slots mounted backs asks e is.0 (λ same. unbroken (ap Err same))
      (λ wrong same. flawed wrong (ap Err same)) caused comes)

-- ---- after a look at the slots

pub checked_past : (end : Tended) (old mid new : DiskState) (w w' : SinkState) → OnlyReads old mid → Stood old.faults mid.faults
    → DidNotFall old.lacks mid.lacks → Checked end mid new w w' → Checked end old new w w'
checked_past end old mid new w w' only stood lacks checked =
    let told_then : (folder : Folder) → old.files ≡ Some folder → mid.files ≡ Some folder = λ folder told. only.stayed ∙ told in
    checked_of end old new w w'
    (λ folder told settled. ends_past (FitsWhole folder) whole_lines ⊥ (IsFlawed folder) (Rose mid.faults new.faults) (Rose old.faults new.faults) end w w'
    (subst (λ n. Rose n new.faults) stood)
    (checked.ends folder (told_then folder told) (λ d image stands now. settled d image stands (only.none_new image now))))
    (faults_past end old mid new w w' stood lacks checked.faults)
    (λ folder place told wrong calm. checked.slots folder place (told_then folder told) wrong (calm_past old mid new w w' stood calm))
