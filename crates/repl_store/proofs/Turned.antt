-- The control of a child of the path: before the switch point both paths have the same bytes.
use Rattle.std.proofs.Common.{◌≡◌, ◌≢◌, ◌⊎◌, ℕ, ◌+◌, ◌-◌, ◌*◌, ◌/◌, ◌%◌, ◌^◌, ◌<◌, ◌≤◌, max, List, [], ◌++◌, length, take, drop, get_or, Some, Ok, Err, refl, sym, ap, ◌∙◌, subst, inl, inr, ⊎_elim, arith, length-append, length-drop}
use Rattle.std.proofs.lemmas.Bool.{cases_lt}
use Rattle.std.proofs.lemmas.List.{append-nil, get_or-drop, get_or-take, get_or_append_left, length-take, take_all}
use Rattle.std.proofs.lemmas.Nat.{div-add-mod', le-div}
use Rattle.std.proofs.Math.Nat.{div-mul-le_self, mul-le-mul_right}
use Rattle.repl_control.specs.Control.{control_bytes}
use Rattle.repl_control.specs.declared.control.Control.{Control}
use Rattle.repl_control.specs.declared.control.Role.{Role}
use Rattle.repl_effects.specs.Counts.{RoseExactly}
use Rattle.repl_disk.specs.declared.disk.DiskError.{DiskError}
use Rattle.repl_disk.specs.declared.disk.DiskError.TheVariants as error
use Rattle.repl_disk.specs.Answers.{NeverMissing, is_fault}
use Rattle.repl_disk.specs.Crash.{LeavesOnly}
use Rattle.repl_disk.specs.Folder.{Became, Folder, IfTold, content}
use Rattle.repl_disk.specs.Replacing.{IsAfter, IsBeforeOrAfter, IsUntouched, replaced}
use Rattle.repl_disk.specs.Runs.{told_so}
use Rattle.repl_disk.specs.State.{DiskState}
use Rattle.repl_lsn.specs.History.{IsPath, Path, SaysHistory, last_switch}
use Rattle.repl_lsn.specs.Path.{IsChild}
use Rattle.repl_lsn.specs.Segment.{history_name, segment_name}
use Rattle.repl_lsn.proofs.Holders.{child_holder}
use Rattle.repl_store.specs.Backing.{Backs, CanSwitch, Comes, Either, Keeps, State, fault_of, log, switched, switched_control}
use Rattle.repl_store.specs.Durable.{Carries, IsKnown, StandsFor, control_aside, control_name, file_at, segment_file}
use Rattle.repl_store.specs.Head.{Head, IsHead}
use Rattle.repl_store.specs.Leaving.{HasFront, HasStart, IsFront, SaysIn, first_bytes, first_file, switched_head, switched_state}
use Rattle.repl_store.specs.declared.fault.StoreFault.{StoreFault}
use Rattle.repl_store.proofs.Backed.{head_carries}
use Rattle.repl_store.proofs.Carrying.{carries_front}
use Rattle.repl_store.proofs.Putting.{ButControl, bytes_short, carries_past, control_put, control_refused, same_histories}
use Rattle.repl_store.proofs.Names.{file_differs}
use Rattle.repl_store.proofs.Standing.{known_by, names_of_head}
use Rattle.repl_store.proofs.Switching.{child_above, child_named, first_fits}

-- where the new timeline begins, as an image has it
abbrev pub StartsIn : Head → Path → State → Folder → Type 0
StartsIn head child s image = (last_switch child.parents % head.size ≡ 0)
    ⊎ HasFront (first_bytes head child s) (image (first_file head child))

abbrev pub SaysOf : Path → Folder → Type 0
SaysOf child image = (text : List ℕ) × (image (history_name child.own) ≡ Some text) × SaysHistory text child

-- the floor is no later than the segment of the switch point
pub start_low : (head : Head) → IsHead head → (child : Path) (role : Role) (whole prev : ℕ) → CanSwitch head child role whole prev
    → head.control.floor ≤ last_switch child.parents / head.size * head.size
start_low head is child role whole prev can = omega (arith, can.right.floor.2, rows)
  where
    rows : whole / head.size * head.size ≤ last_switch child.parents / head.size * head.size
    rows = mul-le-mul_right head.size (le-div (whole / head.size) (last_switch child.parents) head.size (omega (arith, is.size.least))
        (omega (arith, div-mul-le_self whole head.size, can.right.whole.2)))

module _ (disk : DiskState) (head : Head) (s : State) (is : IsHead head) (backs : Backs disk head s) (child : Path) (role : Role)
    (whole prev : ℕ) (can : CanSwitch head child role whole prev) (order : IsPath child) (small : child.own < 2 ^ 32) where
  abbrev switch : ℕ
  switch = last_switch child.parents

  abbrev floor : ℕ
  floor = head.control.floor

  abbrev size : ℕ
  size = head.size

  abbrev start : ℕ
  start = switch / size * size

  above : head.path.own < child.own
  above = child_above head.path child switch order can.parents

  is_child : IsChild head.path child switch
  is_child = ([], can.parents)

  some_size : 0 < size
  some_size = omega (arith, is.size.least)

  floor_low : floor ≤ start
  floor_low = start_low head is child role whole prev can

  low : floor ≤ switch
  low = omega (arith, floor_low, div-mul-le_self switch size)

  few : switch - floor ≤ length s.durable.bytes
  few = omega (arith, backs.counted, can.flushed)

  long : switch - floor ≤ length (log s)
  long = omega (arith, few, length-append s.durable.bytes s.unflushed)

  abbrev kept : List ℕ
  kept = take (switch - floor) s.durable.bytes

  length_kept : length kept ≡ switch - floor
  length_kept = omega (arith, length-take (switch - floor) s.durable.bytes, few)

  -- ---- bytes along the child

  -- segments before the one of the switch point are the same
  same_segment : (q : ℕ) → q * size + size ≤ switch → segment_file size child q ≡ segment_file size head.path q
  same_segment q le = ap (λ (tli : ℕ). segment_name size tli q)
      (sym (child_holder head.path child switch (q * size + (size - 1)) order is_child (omega (arith, le, some_size))))

  module _ (folder : Folder) (carries : Carries size folder head.path floor s.durable.bytes) (starts : StartsIn head child s folder) where
    abbrev Has : ℕ → Type 0
    Has i = ((floor + i) % size < length (file_at size folder child (floor + i)))
        × (get_or (file_at size folder child (floor + i)) ((floor + i) % size) 0 ≡ get_or kept i 0)

    has_before : (i : ℕ) → i < switch - floor → (floor + i) / size * size + size ≤ switch → Has i
    has_before i lt le =
        let same : file_at size folder child (floor + i) ≡ file_at size folder head.path (floor + i) =
        ap (λ (n : List ℕ). content (folder n)) (same_segment ((floor + i) / size) le) in (
          subst (λ (f : List ℕ). (floor + i) % size < length f) (sym same) (carries.there i (omega (arith, lt, few))),
          ap (λ (f : List ℕ). get_or f ((floor + i) % size) 0) same ∙ carries.same i (omega (arith, lt, few))
              ∙ sym (get_or-take (switch - floor) s.durable.bytes i 0 lt),
        )

    -- the segment of the switch point
    has_first : (i : ℕ) → i < switch - floor → (floor + i) / size ≡ switch / size → Has i
    has_first i lt one = ⊎_elim
        (λ (none : switch % size ≡ 0). absurd (omega (
          arith,
          none,
          lt,
          div-add-mod' switch size,
          div-add-mod' (floor + i) size,
          ap (λ (q : ℕ). q * size) one,
        )))
        (λ (front : HasFront (first_bytes head child s) (folder (first_file head child))). there front)
        starts
      where
        k : ℕ
        k = (floor + i) % size

        rows : (floor + i) / size * size ≡ start
        rows = ap (λ (q : ℕ). q * size) one

        inside : k < switch % size
        inside = omega (arith, lt, rows, div-add-mod' switch size, div-add-mod' (floor + i) size)

        length_first : length (first_bytes head child s) ≡ switch % size
        length_first = omega (
          arith,
          length-take (switch % size) (drop (start - floor) (log s)),
          length-drop (start - floor) (log s),
          long,
          floor_low,
          div-add-mod' switch size,
        )

        offset : start - floor + k ≡ i
        offset = omega (arith, rows, floor_low, div-add-mod' (floor + i) size)

        there : HasFront (first_bytes head child s) (folder (first_file head child)) → Has i
        there front =
            let file : file_at size folder child (floor + i) ≡ first_bytes head child s ++ front.0 =
            ap (λ (q : ℕ). content (folder (segment_file size child q))) one ∙ ap content front.1 in (
              subst (λ (f : List ℕ). k < length f) (sym file) (omega (
                arith,
                inside,
                length_first,
                length-append (first_bytes head child s) front.0,
              )),
              ap (λ (f : List ℕ). get_or f k 0) file
                  ∙ get_or_append_left (first_bytes head child s) front.0 0 k (omega (arith, inside, length_first))
                  ∙ get_or-take (switch % size) (drop (start - floor) (log s)) k 0 inside
                  ∙ get_or-drop (start - floor) (log s) k 0
                  ∙ ap (λ (j : ℕ). get_or (log s) j 0) offset
                  ∙ get_or_append_left s.durable.bytes s.unflushed 0 i (omega (arith, lt, few))
                  ∙ sym (get_or-take (switch - floor) s.durable.bytes i 0 lt),
            )

    has : (i : ℕ) → i < switch - floor → Has i
    has i lt = ⊎_elim
        (λ (before : (floor + i) / size < switch / size). has_before i lt (omega (
          arith,
          div-mul-le_self switch size,
          mul-le-mul_right size before,
        )))
        (λ (not : switch / size ≤ (floor + i) / size). has_first i lt (omega (
          arith,
          not,
          le-div ((floor + i) / size) switch size some_size (omega (arith, lt, div-mul-le_self (floor + i) size)),
        )))
        (cases_lt ((floor + i) / size) (switch / size))

    pub child_carries : Carries size folder child floor kept
    child_carries = record {
      there = λ i lt. (has i (omega (arith, lt, length_kept))).0;
      same = λ i lt. (has i (omega (arith, lt, length_kept))).1;
    }

  -- ---- images

  starts_past : (before image : Folder) → ButControl before image → StartsIn head child s before → StartsIn head child s image
  starts_past before image only starts = ⊎_elim inl
      (λ (front : HasFront (first_bytes head child s) (before (first_file head child))). inr (
        front.0,
        only (first_file head child) (apart control_name (λ e. omega (arith, e))) (apart control_aside (λ e. omega (arith, e))) ∙ front.1,
      ))
      starts
    where
      apart : (name : List ℕ) → length name ≢ 24 → first_file head child ≢ name
      apart name long = file_differs size child (child_named head is child order above small can.flushed) (switch / size) name
          (first_fits head is child order above small can.flushed) long

  known_turned : (image : Folder) → child.own ≤ s.durable.known → IsKnown image s.durable.control.tli s.durable.known
      → IsKnown image child.own (max s.durable.known child.own)
  known_turned image le known = subst (λ (k : ℕ). IsKnown image child.own k) (the_max s.durable.known le) record {
    above = le;
    is = ⊎_elim (λ (own : s.durable.known ≡ s.durable.control.tli). absurd (omega (
      arith,
      own,
      le,
      above,
      is.own,
      ap (λ (c : Control). c.tli) backs.control,
    ))) inr known.is;
    all = known.all;
  }
    where
      the_max : (k : ℕ) → child.own ≤ k → k ≡ max k child.own
      the_max k le = omega (arith, le)

  abbrev done : State
  done = switched_state s child role whole prev

  turned_stands : (before image : Folder) → Keeps head s before → SaysOf child before × StartsIn head child s before
      → child.own ≤ s.durable.known → ButControl before image
      → image control_name ≡ Some (control_bytes (switched_control head.control child role whole prev))
      → StandsFor size image (switched s.durable child role whole prev)
  turned_stands before image keeps more known only control =
      subst
      (λ (c : Control). StandsFor size image (record {
        control = switched_control c child role whole prev;
        path = child;
        bytes = take (switch - c.floor) s.durable.bytes;
        known = max s.durable.known child.own;
      })) (sym backs.control) record {
        control = control;
        fits = record { system = is.fits.system; timeline = (omega (arith, above), small); magic = is.fits.magic };
        right = can.right;
        path = record {
          own = refl;
          history = inr (
            (λ e. omega (arith, e, above, is.own, is.fits.timeline.0)),
            (more.0.0, same_histories before image only child.own (omega (arith, above)) small ∙ more.0.1, more.0.2),
          );
          between = can.between;
        };
        counted = omega (arith, length_kept, low);
        carries = child_carries image
            (carries_past size head.path floor s.durable.bytes before image (names_of_head head is) (bytes_short disk head s is backs) only
            (head_carries disk head s backs before s.durable.bytes keeps.stands.carries))
            (starts_past before image only more.1);
        known = known_turned image known (known_by s.durable.control.tli s.durable.known before image keeps.stands.fits.timeline.0
            (same_histories before image only) keeps.stands.known);
      }

  kept_is : kept ≡ log done
  kept_is = ap (λ (c : Control). take (switch - c.floor) s.durable.bytes) (sym backs.control)
      ∙ sym (append-nil (take (switch - s.durable.control.floor) s.durable.bytes))

  synced_is : kept ≡ take (switch - floor) (log done)
  synced_is = sym (take_all (switch - floor) kept (omega (arith, length_kept))) ∙ ap (take (switch - floor)) kept_is

  module _ (known : child.own ≤ s.durable.known) (says : SaysIn disk child) (starts : HasStart disk head child s) (new : DiskState)
      (c : Control) (c_is : c ≡ switched_control head.control child role whole prev)
      (any_moment : IfTold disk.files (λ f. LeavesOnly disk new (IsBeforeOrAfter disk.may_leave control_name control_aside
      (control_bytes c)))) where
    abbrev later : Head
    later = switched_head head child role whole prev

    abbrev Q : Folder → Type 0
    Q image = SaysOf child image × StartsIn head child s image

    more : (image : Folder) → disk.may_leave image → Q image
    more image left = (
      says image left,
      ⊎_elim inl (λ (front : IsFront disk (first_file head child) (first_bytes head child s)). inr (front.images image left)) starts,
    )

    renewed : (before image : Folder) → Keeps head s before → Q before → ButControl before image
        → image control_name ≡ Some (control_bytes c) → Keeps later done image
    renewed before image keeps q only control =
        let stands = turned_stands before image keeps q known only (control ∙ ap (λ (k : Control). Some (control_bytes k)) c_is) in
        record {
          stands = stands;
          synced = subst (λ (bytes : List ℕ). Carries size image child floor bytes) synced_is
              (child_carries image
              (carries_past size head.path floor s.durable.bytes before image (names_of_head head is) (bytes_short disk head s is backs)
              only
              (head_carries disk head s backs before s.durable.bytes keeps.stands.carries))
              (starts_past before image only q.1));
        }

    reads_start : StartsIn head child s backs.folder
    reads_start = ⊎_elim inl (λ (front : IsFront disk (first_file head child) (first_bytes head child s)).
        inr (told_so disk.files backs.folder (λ folder. HasFront (first_bytes head child s) (folder (first_file head child))) backs.told
        front.reads)) starts

    reads_after : (after : Folder) → ButControl backs.folder after → Carries size after child floor (log done)
    reads_after after only = subst (λ (bytes : List ℕ). Carries size after child floor bytes) kept_is
        (child_carries after
        (carries_past size head.path floor s.durable.bytes backs.folder after (names_of_head head is) (bytes_short disk head s is backs)
        only
        (carries_front size head.path floor s.durable.bytes s.unflushed backs.folder backs.reads))
        (starts_past backs.folder after only reads_start))

    pub turn_done : (other : Head) → other ≡ later
        → IfTold disk.files (λ f. (image : Folder) → new.may_leave image → IsAfter disk.may_leave control_name control_aside
        (control_bytes c) image)
        → Became disk.files new.files (λ f. replaced f control_name control_aside (control_bytes c))
        → Comes {A = Unit {0}} (Ok tt) disk new other (Either s.durable (switched s.durable child role whole prev)) done (λ t. t ≡ s)
    turn_done other is_later durable files =
        subst (λ (h : Head). Comes {A = Unit {0}} (Ok tt) disk new h (Either s.durable (switched s.durable child role whole prev)) done
        (λ t. t ≡ s)) (sym is_later)
        (control_put disk head s is backs (control_bytes c) later done (λ t. t ≡ s) Q more renewed refl new any_moment durable files
        (ap (λ (k : Control). switched_control k child role whole prev) backs.control) refl
        (omega (arith, ap (λ (k : Control). length (take (switch - k.floor) s.durable.bytes)) backs.control, length_kept, low))
        (omega arith) reads_after)

    pub turn_refused : (e : DiskError) (f : StoreFault) → f ≡ fault_of e
        → IfTold disk.files (λ folder. NeverMissing {A = Unit {0}} (Err e))
        → (e ≡ error.Memory → IfTold disk.files (λ folder. IsUntouched disk new control_aside))
        → RoseExactly (is_fault e) disk.faults new.faults
        → Comes {A = Unit {0}} (Err f) disk new head (Either s.durable (switched s.durable child role whole prev)) done (λ t. t ≡ s)
    turn_refused e f same there memory rose =
        control_refused disk head s is backs (control_bytes c) later done (λ t. t ≡ s) Q more renewed refl new any_moment refl e f same
        there
        memory rose
