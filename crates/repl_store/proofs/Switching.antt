-- A store that goes over to a child of its path: the first segment of the new timeline is none of the old ones, and before
-- the switch point both paths stand in the same files.
use Rattle.std.proofs.Common.{◌≡◌, ◌≢◌, ℕ, ◌+◌, ◌-◌, ◌*◌, ◌/◌, ◌%◌, ◌^◌, ◌<◌, ◌≤◌, List, [], ◌∷◌, ◌++◌, map, take, Some, Ok, Err, append_assoc, refl, sym, ap, ◌∙◌, arith}
use Rattle.std.proofs.lemmas.List.{take_at}
use Rattle.std.proofs.lemmas.Nat.{div-add-mod'}
use Rattle.std.specs.Str.Parse.{digits_value}
use Rattle.repl_effects.specs.Counts.{RoseExactly}
use Rattle.repl_disk.specs.declared.disk.DiskError.{DiskError}
use Rattle.repl_disk.specs.Answers.{NeverMissing, is_fault}
use Rattle.repl_disk.specs.Crash.{LeavesOnly}
use Rattle.repl_disk.specs.Folder.{Folder, IfTold, content}
use Rattle.repl_disk.specs.Moments.{weakened}
use Rattle.repl_disk.specs.Replacing.{IsAside}
use Rattle.repl_disk.specs.Runs.{told_so}
use Rattle.repl_disk.specs.State.{DiskState}
use Rattle.repl_disk.specs.Steps.{KeepsOthers}
use Rattle.repl_lsn.specs.History.{InOrder, IsPath, Path, last_switch}
use Rattle.repl_lsn.specs.Path.{Step, step, steps}
use Rattle.repl_lsn.specs.Segment.{Fits, eight, in_four_gib, history_name}
use Rattle.repl_lsn.specs.declared.history.Part.{Part}
use Rattle.repl_lsn.proofs.Holders.{own_holder}
use Rattle.repl_lsn.proofs.Numbers.{eight_value, length_eight}
use Rattle.repl_store.specs.Backing.{Backs, Before, Comes, Keeps, LeavesOne, State, fault_of, log}
use Rattle.repl_store.specs.Durable.{Carries, Durable, StandsFor, segment_file, segment_timeline}
use Rattle.repl_store.specs.Head.{Head, IsHead}
use Rattle.repl_store.specs.Leaving.{SaysIn, first_file}
use Rattle.repl_store.specs.declared.fault.StoreFault.{StoreFault}
use Rattle.repl_store.proofs.Backed.{head_carries, own_carries}
use Rattle.repl_store.proofs.Carrying.{carries_again}
use Rattle.repl_store.proofs.Names.{HasNames, fits_at, holder_most, history_differs, length_file, timeline_small}
use Rattle.repl_store.proofs.Standing.{OnlyAt, names_of_head, stands_at_segment}
use Rattle.repl_store.proofs.Turns.{done_comes, never_missing, refused_comes}

-- ---- a child's number

no_end : (xs : List Step) (s : Step) → [] ≡ xs ++ s ∷ [] → ⊥
no_end [] s is = absurd cc
no_end (x ∷ xs) s is = absurd cc

-- the last number before the own one is below it
last_below : (own : ℕ) (ps : List Part) (xs : List Step) (s : Step) → InOrder own ps → map step ps ≡ xs ++ s ∷ [] → s.tli < own
last_below own [] xs s order is = absurd (no_end xs s is)
last_below own (p ∷ []) [] s order is = let same : step p ≡ s = cc in omega (arith, order, ap (λ (x : Step). x.tli) same)
last_below own (p ∷ []) (x ∷ xs) s order is = let rest : [] ≡ xs ++ s ∷ [] = cc in absurd (no_end xs s rest)
last_below own (p ∷ q ∷ ps) [] s order is = absurd cc
last_below own (p ∷ q ∷ ps) (x ∷ xs) s order is = let rest : map step (q ∷ ps) ≡ xs ++ s ∷ [] = cc in last_below own (q
    ∷ ps) xs s order.2 rest

pub child_above : (path child : Path) (switch : ℕ) → IsPath child
    → steps child ≡ steps path ++ record { tli = path.own; switch = switch } ∷ [] → path.own < child.own
child_above path child switch order parents =
    last_below child.own child.parents (steps path) (record { tli = path.own; switch = switch }) order parents

-- ---- files of two timelines

module _ (size : ℕ) (path other : Path) (segment number : ℕ) (named : HasNames size path) (named_other : HasNames size other) where
  abbrev a : ℕ
  a = segment_timeline size path segment

  abbrev b : ℕ
  b = segment_timeline size other number

  apart : segment_file size path segment ≡ segment_file size other number
      → eight a ++ (eight (segment / in_four_gib size) ++ eight (segment % in_four_gib size))
      ≡ eight b ++ (eight (number / in_four_gib size) ++ eight (number % in_four_gib size))
  apart same = sym (append_assoc (eight a) (eight (segment / in_four_gib size)) (eight (segment % in_four_gib size))) ∙ same
      ∙ append_assoc (eight b) (eight (number / in_four_gib size)) (eight (number % in_four_gib size))

  -- two files with one name have one timeline
  pub same_timeline : segment_file size path segment ≡ segment_file size other number → a ≡ b
  same_timeline same =
      let small_a = timeline_small size path named segment in
      let small_b = timeline_small size other named_other number in
      sym (eight_value a small_a)
      ∙ ap (digits_value 16) (sym (take_at (eight a) _ 8 (length_eight a small_a)) ∙ ap (take 8) (apart same)
      ∙ take_at (eight b) _ 8 (length_eight b small_b))
      ∙ eight_value b small_b

-- ---- a file beside

pub aside_self : (old : Folder → Type 0) (name : List ℕ) (image : Folder) → old image → IsAside old name image
aside_self old name image was = record { before = image; was = was; others = λ other differ. refl }

pub aside_on : (old : Folder → Type 0) (name : List ℕ) (step : Folder → Folder → Type 0) → KeepsOthers name step
    → (before image : Folder) → IsAside old name before → step before image → IsAside old name image
aside_on old name step keeps before image a done = record {
  before = a.before;
  was = a.was;
  others = λ other differ. keeps before image done other differ ∙ a.others other differ;
}

-- ---- the first file of a child

module _ (head : Head) (is : IsHead head) (child : Path) (order : IsPath child) (below : head.path.own < child.own)
    (small : child.own < 2 ^ 32) (flushed : last_switch child.parents ≤ head.control.flushed) where
  abbrev switch : ℕ
  switch = last_switch child.parents

  pub child_named : HasNames head.size child
  child_named = record { is_size = is.size; order = order; own = small }

  pub first_fits : Fits head.size (switch / head.size)
  first_fits = fits_at head.size switch (omega (arith, flushed, is.flushed, is.synced, is.written))

  -- its timeline is the child's own
  pub first_timeline : segment_timeline head.size child (switch / head.size) ≡ child.own
  first_timeline = own_holder child.own child.parents (switch / head.size * head.size + (head.size - 1)) order
      (omega (arith, div-add-mod' switch head.size, is.size.least, mod_below))
    where
      mod_below : switch % head.size < head.size
      mod_below = omega (arith, is.size.least)

  -- so it is no file of the old path
  pub first_apart : (segment : ℕ) → segment_file head.size head.path segment ≢ first_file head child
  first_apart segment same =
      let one = same_timeline head.size head.path child segment (switch / head.size) (names_of_head head is) child_named same in
      omega (arith, one, first_timeline, below, most segment)
    where
      most : (segment : ℕ) → segment_timeline head.size head.path segment ≤ head.path.own
      most segment = holder_most head.path.own head.path.parents (segment * head.size + (head.size - 1)) is.is_path

  pub carried_beside : (bytes : List ℕ) (before image : Folder) → OnlyAt (first_file head child) before image
      → Carries head.size before head.path head.control.floor bytes → Carries head.size image head.path head.control.floor bytes
  carried_beside bytes before image only carries =
      carries_again head.size head.path head.path head.control.floor bytes before image carries (λ i lt.
      ap content (only (segment_file head.size head.path ((head.control.floor + i) / head.size))
      (first_apart ((head.control.floor + i) / head.size))))

  module _ (disk : DiskState) (s : State) (backs : Backs disk head s) where
    pub beside_keeps : (before image : Folder) → Keeps head s before → OnlyAt (first_file head child) before image → Keeps head s image
    beside_keeps before image keeps only = record {
      stands = stands_at_segment head.size s.durable child (switch / head.size) before image child_named first_fits only
          (own_carries disk head s backs image s.durable.bytes
          (carried_beside s.durable.bytes before image only
          (head_carries disk head s backs before s.durable.bytes keeps.stands.carries))) keeps.stands;
      synced = carried_beside (take (head.synced - head.control.floor) (log s)) before image only keeps.synced;
    }

    -- only that file changed
    module _ (new : DiskState)
        (moments : IfTold disk.files (λ folder. LeavesOnly disk new (IsAside disk.may_leave (first_file head child))))
        (now : IfTold disk.files (λ folder. (image : Folder) → new.may_leave image → IsAside disk.may_leave (first_file head child) image))
        (files : IfTold disk.files (λ folder. (after : Folder) × (new.files ≡ Some after)
        × IsAside (λ f. f ≡ folder) (first_file head child) after)) where
      pub beside_moments : LeavesOne disk new head.size (Before s)
      beside_moments = weakened disk new (IsAside disk.may_leave (first_file head child))
          (λ image. (d : Durable) × Before s d × StandsFor head.size image d)
          (told_so disk.files backs.folder (λ folder. LeavesOnly disk new (IsAside disk.may_leave (first_file head child))) backs.told
          moments)
          (λ image a. (s.durable, refl, (beside_keeps a.before image (backs.images a.before a.was) a.others).stands))

      pub beside_backs : Backs new head s
      beside_backs =
          let after = told_so disk.files backs.folder (λ folder. (after : Folder) × (new.files ≡ Some after)
          × IsAside (λ f. f ≡ folder) (first_file head child) after) backs.told files in
          let left = told_so disk.files backs.folder (λ folder. (image : Folder) → new.may_leave image
          → IsAside disk.may_leave (first_file head child) image) backs.told now in
          let only : OnlyAt (first_file head child) backs.folder after.0 = λ other differ. after.2.others other differ
          ∙ ap (λ (f : Folder). f other) after.2.was in
          record {
            folder = after.0;
            told = after.1;
            control = backs.control;
            path = backs.path;
            counted = backs.counted;
            written = backs.written;
            reads = carried_beside (log s) backs.folder after.0 only backs.reads;
            images = λ image n. let a = left image n in beside_keeps a.before image (backs.images a.before a.was) a.others;
          }

      pub beside_done : Comes {A = Unit {0}} (Ok tt) disk new head (Before s) s (λ t. t ≡ s)
      beside_done = done_comes tt disk new head (Before s) s (λ t. t ≡ s) beside_moments beside_backs

      pub beside_refused : (e : DiskError) (f : StoreFault) → f ≡ fault_of e
          → IfTold disk.files (λ folder. NeverMissing {A = Unit {0}} (Err e)) → RoseExactly (is_fault e) disk.faults new.faults
          → Comes {A = Unit {0}} (Err f) disk new head (Before s) s (λ t. t ≡ s)
      beside_refused e f same there rose =
          refused_comes e f disk new head (Before s) s (λ t. t ≡ s) same
          (never_missing (Unit {0}) e (told_so disk.files backs.folder (λ folder. NeverMissing {A = Unit {0}} (Err e)) backs.told there))
          rose
          beside_moments (λ want. (s, refl, beside_backs))

      pub beside_said : SaysIn disk child → SaysIn new child
      beside_said said image n =
          let a = told_so disk.files backs.folder (λ folder. (image : Folder) → new.may_leave image
          → IsAside disk.may_leave (first_file head child) image) backs.told now image n in
          let text = said a.before a.was in (
            text.0,
            a.others (history_name child.own) (λ same. history_differs child.own (first_file head child) small
                (λ e. omega (arith, e, length_file head.size child child_named (switch / head.size) first_fits)) (sym same)) ∙ text.1,
            text.2,
          )
