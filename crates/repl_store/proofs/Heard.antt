-- The history of another timeline is put onto the disk: a crash leaves what the store kept, or that with the number heard.
use Rattle.std.proofs.Common.{◌≡◌, ◌≢◌, ◌⊎◌, ℕ, ◌+◌, ◌-◌, ◌^◌, ◌<◌, ◌≤◌, max, List, ◌++◌, codes, length, take, Option, Some, None, IsSome, Ok, Err, refl, sym, ap, ◌∙◌, subst, inl, inr, ⊎_elim, arith, length-append}
use Rattle.std.proofs.lemmas.Bool.{cases_eq, cases_lt}
use Rattle.std.proofs.lemmas.List.{take_at}
use Rattle.std.specs.Option.{option_map}
use Rattle.std.specs.Str.Parse.{digits_value}
use Rattle.repl_control.specs.declared.control.Control.{Control}
use Rattle.repl_effects.specs.Counts.{RoseExactly}
use Rattle.repl_disk.specs.declared.disk.DiskError.{DiskError}
use Rattle.repl_disk.specs.declared.disk.DiskError.TheVariants as error
use Rattle.repl_disk.specs.Answers.{NeverMissing, is_fault}
use Rattle.repl_disk.specs.Crash.{LeavesOnly}
use Rattle.repl_disk.specs.Folder.{Became, Folder, IfTold, ToldFiles, put}
use Rattle.repl_disk.specs.Moments.{weakened}
use Rattle.repl_disk.specs.Replacing.{IsAfter, IsBeforeOrAfter, IsHalfAside, IsUntouched, replaced}
use Rattle.repl_disk.specs.Runs.{told_so}
use Rattle.repl_disk.specs.State.{DiskState}
use Rattle.repl_disk.specs.Steps.{put_other}
use Rattle.repl_lsn.specs.History.{SaysHistory}
use Rattle.repl_lsn.specs.Segment.{eight, history_name}
use Rattle.repl_lsn.proofs.Numbers.{eight_value, length_eight}
use Rattle.repl_store.specs.Backing.{Backs, Comes, Either, Keeps, LeavesOne, State, fault_of, heard, log}
use Rattle.repl_store.specs.Durable.{Carries, Durable, IsKnown, StandsFor, control_name, segment_file}
use Rattle.repl_store.specs.Head.{Head, IsHead}
use Rattle.repl_store.specs.Leaving.{heard_state}
use Rattle.repl_store.specs.declared.fault.StoreFault.{StoreFault}
use Rattle.repl_store.proofs.Backed.{head_carries, own_carries}
use Rattle.repl_store.proofs.Carrying.{carries_elsewhere}
use Rattle.repl_store.proofs.Putting.{bytes_short, log_short, synced_short}
use Rattle.repl_store.proofs.Names.{differ, file_differs, history_differs, length_history}
use Rattle.repl_store.proofs.Standing.{OnlyAt, SameHistories, names_of_head, stands_by}
use Rattle.repl_store.proofs.Turns.{done_comes, never_missing, refused_comes}

-- a history's name says its number
pub one_history : (a b : ℕ) → a < 2 ^ 32 → b < 2 ^ 32 → history_name a ≡ history_name b → a ≡ b
one_history a b small_a small_b same =
    sym (eight_value a small_a)
    ∙ ap (digits_value 16) (sym (take_at (eight a) (codes ".history") 8 (length_eight a small_a)) ∙ ap (take 8) same
    ∙ take_at (eight b) (codes ".history") 8 (length_eight b small_b))
    ∙ eight_value b small_b

module _ (disk : DiskState) (head : Head) (s : State) (is : IsHead head) (backs : Backs disk head s) (tli : ℕ) (below : head.path.own < tli)
    (small : tli < 2 ^ 32) (aside text : List ℕ) (named : aside ≡ history_name tli ++ codes ".tmp") where
  abbrev name : List ℕ
  name = history_name tli

  aside_length : length aside ≡ 20
  aside_length = ap length named ∙ omega (arith, length-append (history_name tli) (codes ".tmp"), length_history tli small)

  abbrev Beside : Folder → Folder → Type 0
  Beside old new = (other : List ℕ) → other ≢ name → other ≢ aside → new other ≡ old other

  control_stays : (old new : Folder) → Beside old new → new control_name ≡ old control_name
  control_stays old new only = only control_name (history_differs tli control_name small (λ e. omega (arith, e)))
      (differ control_name aside (λ e. omega (arith, e, aside_length)))

  other_history : (old new : Folder) → Beside old new → (n : ℕ) → n < 2 ^ 32 → n ≢ tli → new (history_name n) ≡ old (history_name n)
  other_history old new only n few apart = only (history_name n) (λ same. apart (one_history n tli few small same))
      (differ (history_name n) aside (λ e. omega (arith, e, aside_length, length_history n few)))

  carried : (old new : Folder) (bytes : List ℕ) → head.control.floor + length bytes ≤ 2 ^ 64 → Beside old new
      → Carries head.size old head.path head.control.floor bytes → Carries head.size new head.path head.control.floor bytes
  carried old new bytes short only carries =
      carries_elsewhere head.size head.path head.control.floor bytes old new short (λ segment fits.
      only (segment_file head.size head.path segment)
      (file_differs head.size head.path (names_of_head head is) segment name fits (λ e. omega (arith, e, length_history tli small)))
      (file_differs head.size head.path (names_of_head head is) segment aside fits (λ e. omega (arith, e, aside_length)))) carries

  own_carried : (before image : Folder) → Keeps head s before → Beside before image
      → Carries head.size image s.durable.path s.durable.control.floor s.durable.bytes
  own_carried before image keeps only = own_carries disk head s backs image s.durable.bytes
      (carried before image s.durable.bytes (bytes_short disk head s is backs) only
      (head_carries disk head s backs before s.durable.bytes keeps.stands.carries))

  synced_carried : (before image : Folder) → Keeps head s before → Beside before image
      → Carries head.size image head.path head.control.floor (take (head.synced - head.control.floor) (log s))
  synced_carried before image keeps only =
      carried before image (take (head.synced - head.control.floor) (log s)) (synced_short disk head s is backs) only keeps.synced

  own_number : s.durable.control.tli < tli
  own_number = omega (arith, ap (λ (c : Control). c.tli) backs.control, is.own, below)

  -- ---- with the old history

  same_all : (old new : Folder) → Beside old new → new name ≡ old name → SameHistories old new
  same_all old new only same n some few =
      ⊎_elim (λ (one : n ≡ tli). ap (λ (k : ℕ). new (history_name k)) one ∙ same ∙ ap (λ (k : ℕ). old (history_name k)) (sym one))
      (λ (apart : n ≢ tli). other_history old new only n few apart) (cases_eq n tli)

  old_keeps : (before image : Folder) → Keeps head s before → Beside before image → image name ≡ before name → Keeps head s image
  old_keeps before image keeps only same = record {
    stands = stands_by head.size s.durable before image keeps.stands (control_stays before image only) (same_all before image only same)
        (own_carried before image keeps only);
    synced = synced_carried before image keeps only;
  }

  -- ---- with the new one

  there : (image : Folder) → image name ≡ Some text → IsSome (image name)
  there image has = subst (λ (f : Option (List ℕ)). IsSome f) (sym has) refl

  known_now : (before image : Folder) → Beside before image → image name ≡ Some text → IsKnown before s.durable.control.tli s.durable.known
      → IsKnown image s.durable.control.tli (max s.durable.known tli)
  known_now before image only has known = record {
    above = omega (arith, known.above);
    is = ⊎_elim
        (λ (lower : s.durable.known < tli). greatest (omega (arith, lower)) (there image has))
        (λ (higher : tli ≤ s.durable.known). ⊎_elim
        (λ (own : s.durable.known ≡ s.durable.control.tli). absurd (omega (arith, own, higher, own_number)))
        (λ (h : (s.durable.known < 2 ^ 32) × IsSome (before (history_name s.durable.known))).
        ⊎_elim (λ (one : s.durable.known ≡ tli). greatest (omega (arith, one)) (there image has))
        (λ (apart : s.durable.known ≢ tli). inr (
          omega (arith, h.0, small),
          subst (λ (k : ℕ). IsSome (image (history_name k))) (the_max s.durable.known higher)
              (subst (λ (f : Option (List ℕ)). IsSome f) (sym (other_history before image only s.durable.known h.0 apart)) h.1),
        )) (cases_eq s.durable.known tli))
        known.is)
        (cases_lt s.durable.known tli);
    all = λ n some few has_n. ⊎_elim (λ (one : n ≡ tli). omega (arith, one))
        (λ (apart : n ≢ tli). omega (
          arith,
          known.all n some few
              (subst (λ (f : Option (List ℕ)). IsSome f) (other_history before image only n few apart) has_n),
        ))
        (cases_eq n tli);
  }
    where
      the_max : (k : ℕ) → tli ≤ k → k ≡ max k tli
      the_max k le = omega (arith, le)

      greatest : max s.durable.known tli ≡ tli → IsSome (image (history_name tli))
          → (max s.durable.known tli ≡ s.durable.control.tli) ⊎ ((max s.durable.known tli < 2 ^ 32)
          × IsSome (image (history_name (max s.durable.known tli))))
      greatest e some = inr (omega (arith, e, small), subst (λ (k : ℕ). IsSome (image (history_name k))) (sym e) some)

  heard_keeps : (before image : Folder) → Keeps head s before → Beside before image → image name ≡ Some text
      → Keeps head (heard_state s tli) image
  heard_keeps before image keeps only has = record {
    stands = record {
      control = control_stays before image only ∙ keeps.stands.control;
      fits = keeps.stands.fits;
      right = keeps.stands.right;
      path = record {
        own = keeps.stands.path.own;
        history = ⊎_elim inl
            (λ (h : (s.durable.control.tli ≢ 1) × ((old : List ℕ) × (before (history_name s.durable.control.tli) ≡ Some old)
            × SaysHistory old s.durable.path)).
            inr (
              h.0,
              (
                h.1.0,
                other_history before image only s.durable.control.tli keeps.stands.fits.timeline.1
                    (λ e. omega (arith, e, own_number)) ∙ h.1.1,
                h.1.2,
              ),
            ))
            keeps.stands.path.history;
        between = keeps.stands.path.between;
      };
      counted = keeps.stands.counted;
      carries = own_carried before image keeps only;
      known = known_now before image only has keeps.stands.known;
    };
    synced = synced_carried before image keeps only;
  }

  -- ---- the call

  abbrev Column : Durable → Type 0
  Column = Either s.durable (heard s.durable tli)

  abbrev OneOf : Folder → Type 0
  OneOf image = (d : Durable) × Column d × StandsFor head.size image d

  either_stands : (image : Folder) → IsBeforeOrAfter disk.may_leave name aside text image → OneOf image
  either_stands image either =
      let keeps = backs.images either.before either.was in
      ⊎_elim
      (λ (old : image name ≡ either.before name). (s.durable, inl refl, (old_keeps either.before image keeps either.others old).stands))
      (λ (new : image name ≡ Some text).
      (heard s.durable tli, inr refl, (heard_keeps either.before image keeps either.others new).stands))
      either.file

  module _ (new : DiskState)
      (any_moment : IfTold disk.files (λ f. LeavesOnly disk new (IsBeforeOrAfter disk.may_leave name aside text))) where
    hear_moments : LeavesOne disk new head.size Column
    hear_moments = weakened disk new (IsBeforeOrAfter disk.may_leave name aside text) OneOf
        (told_so disk.files backs.folder (λ f. LeavesOnly disk new (IsBeforeOrAfter disk.may_leave name aside text)) backs.told any_moment)
        either_stands

    pub hear_done : IfTold disk.files (λ f. (image : Folder) → new.may_leave image → IsAfter disk.may_leave name aside text image)
        → Became disk.files new.files (λ f. replaced f name aside text)
        → Comes {A = Unit {0}} (Ok tt) disk new head Column (heard_state s tli) (λ t. t ≡ s)
    hear_done durable files =
        let after = told_so disk.files backs.folder (λ f. (image : Folder) → new.may_leave image → IsAfter disk.may_leave name aside text
        image) backs.told durable in
        let folder : Folder = replaced backs.folder name aside text in
        done_comes tt disk new head Column (heard_state s tli) (λ t. t ≡ s) hear_moments record {
          folder = folder;
          told = files ∙ ap (option_map (λ f. replaced f name aside text)) backs.told;
          control = backs.control;
          path = backs.path;
          counted = backs.counted;
          written = backs.written;
          reads = carried backs.folder folder (log s) (log_short disk head s is backs) (λ other no_name no_aside.
              put_other (put backs.folder aside None) name other (Some text) no_name ∙ put_other backs.folder aside other None no_aside)
              backs.reads;
          images = λ image left.
              let a = after image left in heard_keeps a.before image (backs.images a.before a.was) a.others a.file;
        }

    untouched_backs : IsUntouched disk new aside → Backs new head s
    untouched_backs h =
        let half : IsHalfAside (Some backs.folder) new.files aside = subst (λ (t : ToldFiles). IsHalfAside t new.files aside) backs.told
        h.files in
        let only : OnlyAt aside backs.folder half.0 = λ other apart. half.2.others other apart ∙ ap (λ (f : Folder). f other) half.2.was in
        record {
          folder = half.0;
          told = half.1;
          control = backs.control;
          path = backs.path;
          counted = backs.counted;
          written = backs.written;
          reads = carried backs.folder half.0 (log s) (log_short disk head s is backs) (λ other no_name no_aside. only other no_aside)
              backs.reads;
          images = λ image left.
              let a = h.now image left in
              old_keeps a.before image (backs.images a.before a.was) (λ other no_name no_aside. a.others other no_aside)
              (a.others name (differ name aside (λ e. omega (arith, e, aside_length, length_history tli small))));
        }

    pub hear_refused : (e : DiskError) (f : StoreFault) → f ≡ fault_of e
        → IfTold disk.files (λ folder. NeverMissing {A = Unit {0}} (Err e))
        → (e ≡ error.Memory → IfTold disk.files (λ folder. IsUntouched disk new aside))
        → RoseExactly (is_fault e) disk.faults new.faults
        → Comes {A = Unit {0}} (Err f) disk new head Column (heard_state s tli) (λ t. t ≡ s)
    hear_refused e f same there memory rose =
        refused_comes e f disk new head Column (heard_state s tli) (λ t. t ≡ s) same
        (never_missing (Unit {0}) e (told_so disk.files backs.folder (λ folder. NeverMissing {A = Unit {0}} (Err e)) backs.told there)) rose
        hear_moments (λ want. (
          s,
          refl,
          untouched_backs (told_so disk.files backs.folder (λ folder. IsUntouched disk new aside) backs.told (memory want)),
        ))
