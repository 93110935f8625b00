-- How the file of a segment fills with the log's bytes, and how the segments' files come to carry the log.
use Rattle.std.proofs.Common.{◌≡◌, ◌≢◌, ℕ, ◌+◌, ◌-◌, ◌*◌, ◌/◌, ◌%◌, ◌^◌, ◌<◌, ◌≤◌, ◌⊎◌, min, List, [], ◌++◌, length, get_or, take, drop, replicate, Option, Some, None, IsSome, refl, sym, ap, ◌∙◌, subst, ⊎_elim, inl, inr, arith, append-nil, length-append, length-drop}
use Rattle.std.proofs.Math.Nat.{add-mod_left}
use Rattle.std.proofs.Math.Seq.{drop-drop, take-add}
use Rattle.std.proofs.lemmas.Bool.{cases_lt}
use Rattle.std.proofs.lemmas.List.{get_or-drop, get_or-take, get_or_append_left, length-take, take_all, take_at}
use Rattle.std.specs.Option.{option_map}
use Rattle.repl_clone.specs.Copying.{Begins, ChangesOnly, HasLog, log_part}
use Rattle.repl_disk.specs.Crash.{Follows, Syncs}
use Rattle.repl_disk.specs.Folder.{Became, Folder, IfTold, ToldFiles, content, overwritten, written}
use Rattle.repl_disk.specs.Runs.{told_so, where_told}
use Rattle.repl_disk.specs.State.{DiskState}
use Rattle.repl_disk.specs.Steps.{put_at}
use Rattle.repl_lsn.specs.History.{Path}
use Rattle.repl_store.specs.Backing.{State, log}
use Rattle.repl_store.specs.Durable.{Carries, file_at, segment_file}
use Rattle.repl_store.proofs.Names.{HasNames, earlier_place, fits_at, place_past, same_file, same_segment_past}

-- ---- one file

none_of : (n : ℕ) (xs : List ℕ) → n ≡ 0 → take n xs ≡ []
none_of n xs is = ap (λ (k : ℕ). take k xs) is

-- nothing is written so far
pub begins_none : (floor start : ℕ) (s : State) (file : Option (List ℕ)) → Begins (log_part floor s start start) file
begins_none floor start s file =
    let none : log_part floor s start start ≡ [] = none_of (start - start) (drop (start - floor) (log s)) (omega arith) in
    none_of (length (log_part floor s start start)) (content file) (ap length none) ∙ sym none

module _ (floor start at to : ℕ) (s : State) (from : floor ≤ start) (above : start ≤ at) (order : at ≤ to) (end : to ≤ floor + length (log s)) where
  abbrev rest : List ℕ
  rest = drop (start - floor) (log s)

  abbrev n : ℕ
  n = at - start

  abbrev m : ℕ
  m = to - at

  rest_length : length rest ≡ length (log s) - (start - floor)
  rest_length = length-drop (start - floor) (log s)

  -- a part of the log, in two
  second : log_part floor s at to ≡ take m (drop n rest)
  second = ap (λ (k : ℕ). take m (drop k (log s))) (the_sum from above) ∙ ap (take m) (sym (drop-drop n (start - floor) (log s)))
    where
      the_sum : floor ≤ start → start ≤ at → at - floor ≡ (start - floor) + (at - start)
      the_sum a b = omega arith

  parts : log_part floor s start to ≡ take n rest ++ take m (drop n rest)
  parts = ap (λ (k : ℕ). take k rest) (the_sum above order) ∙ take-add n m rest
    where
      the_sum : start ≤ at → at ≤ to → to - start ≡ (at - start) + (to - at)
      the_sum a b = omega arith

  first_length : length (take n rest) ≡ n
  first_length = omega (arith, length-take n rest, rest_length)

  second_length : length (take m (drop n rest)) ≡ m
  second_length = omega (arith, length-take m (drop n rest), length-drop n rest, rest_length)

  pub part_length : length (log_part floor s start to) ≡ to - start
  part_length = omega (arith, length-take (to - start) rest, rest_length)

  -- a piece more is written
  pub begins_more : (file : Option (List ℕ)) (piece : List ℕ) → piece ≡ log_part floor s at to → Begins (log_part floor s start at) file
      → Begins (log_part floor s start to) (Some (overwritten (content file) (at - start) piece))
  begins_more file piece is begins =
      let c = content file in
      let front : take n c ≡ take n rest = ap (λ (k : ℕ). take k c) (sym first_length) ∙ begins in
      let long : n ≤ length c = omega (arith, length-take n c, ap length front, first_length) in
      let piece_is : piece ≡ take m (drop n rest) = is ∙ second in
      let gap : replicate (n - length c) 0 ≡ [] = ap (λ (k : ℕ). replicate k 0) (no_gap (length c) long) in
      let whole : overwritten c n piece ≡ take n rest ++ take m (drop n rest) ++ drop (n + length piece) c =
      ap (λ (g : List ℕ). take n c ++ g ++ piece ++ drop (n + length piece) c) gap
      ∙ ap (λ (f : List ℕ). f ++ piece ++ drop (n + length piece) c) (append-nil (take n c) ∙ front)
      ∙ ap (λ (p : List ℕ). take n rest ++ p ++ drop (n + length piece) c) piece_is in
      ap (λ (x : List ℕ). take (length (log_part floor s start to)) x) whole
      ∙ take_at (take n rest ++ take m (drop n rest)) (drop (n + length piece) c) (length (log_part floor s start to)) (ap length (sym parts))
      ∙ sym parts
    where
      no_gap : (k : ℕ) → n ≤ k → n - k ≡ 0
      no_gap k le = omega arith

-- ---- the files as they read

pub became_so : (before now : ToldFiles) (effect : Folder → Folder) (P Q : Folder → Type 0) → ((folder : Folder) → P folder → Q (effect folder))
    → Became before now effect → IfTold before P → IfTold now Q
became_so None now effect P Q leads became h = subst (λ (t : ToldFiles). IfTold t Q) (sym became) tt
became_so (Some folder) now effect P Q leads became h = subst (λ (t : ToldFiles). IfTold t Q) (sym became) (leads folder h)

pub any_told : (told : ToldFiles) (P : Folder → Type 0) → ((folder : Folder) → P folder) → IfTold told P
any_told told P h = where_told told P (λ folder is. h folder)

pub told_map : (told : ToldFiles) (P Q : Folder → Type 0) → ((folder : Folder) → P folder → Q folder) → IfTold told P → IfTold told Q
told_map told P Q leads h = where_told told Q (λ folder is. leads folder (told_so told folder P is h))

-- what was read is the part of the log
pub piece_is : (floor between at count : ℕ) (s : State) (room piece : List ℕ) → between ≡ floor → length room ≡ count
    → piece ≡ take (length room) (drop (at - between) (log s)) → piece ≡ log_part floor s at (at + count)
piece_is floor between at count s room piece same long is =
    is ∙ ap (λ (k : ℕ). take k (drop (at - between) (log s))) (omega (arith, long))
    ∙ ap (λ (b : ℕ). take (at + count - at) (drop (at - b) (log s))) same

-- a piece more is written
pub filled_more : (before now : ToldFiles) (floor start at to : ℕ) (s : State) (name piece : List ℕ) → floor ≤ start → start ≤ at → at ≤ to
    → to ≤ floor + length (log s) → piece ≡ log_part floor s at to → Became before now (λ f. written f name (at - start) piece)
    → IfTold before (λ folder. Begins (log_part floor s start at) (folder name))
    → IfTold now (λ folder. Begins (log_part floor s start to) (folder name))
filled_more before now floor start at to s name piece from above order end is wrote so_far =
    became_so before now (λ f. written f name (at - start) piece) (λ folder. Begins (log_part floor s start at) (folder name))
    (λ folder. Begins (log_part floor s start to) (folder name))
    (λ folder begins. subst (Begins (log_part floor s start to))
    (sym (put_at folder name (Some (overwritten (content (folder name)) (at - start) piece))))
    (begins_more floor start at to s from above order end (folder name) piece is begins)) wrote so_far

-- after a write the file is there
pub there_now : (folder : Folder) (name : List ℕ) (at : ℕ) (bytes : List ℕ) → IsSome (written folder name at bytes name)
there_now folder name at bytes = subst (λ (f : Option (List ℕ)). IsSome f)
    (sym (put_at folder name (Some (overwritten (content (folder name)) at bytes)))) refl

pub there_then : (before now : ToldFiles) (name : List ℕ) (at : ℕ) (bytes : List ℕ) → Became before now (λ f. written f name at bytes)
    → IfTold now (λ folder. IsSome (folder name))
there_then before now name at bytes wrote = became_so before now (λ f. written f name at bytes) (λ folder. Unit {0})
    (λ folder. IsSome (folder name)) (λ folder any. there_now folder name at bytes) wrote (any_told before (λ folder. Unit {0}) (λ folder. tt))

-- a sync makes it certain
pub synced_begins : (names : List ℕ → Type 0) (old mid new : DiskState) (name synced file bytes : List ℕ) → name ≡ file → synced ≡ file
    → IfTold old.files (λ folder. ChangesOnly names old mid folder) → IfTold mid.files (λ folder. Begins bytes (folder name))
    → IfTold mid.files (λ folder. Follows (Syncs synced (folder synced)) mid.may_leave new.may_leave)
    → IfTold old.files (λ folder. (image : Folder) → new.may_leave image → Begins bytes (image file))
synced_begins names old mid new name synced file bytes named named_too changes begins crash =
    where_told old.files (λ folder. (image : Folder) → new.may_leave image → Begins bytes (image file)) (λ folder told.
    let a = told_so old.files folder (λ f. ChangesOnly names old mid f) told changes in
    let reads : Begins bytes (a.after file) = subst (λ (n : List ℕ). Begins bytes (a.after n)) named
    (told_so mid.files a.after (λ f. Begins bytes (f name)) a.told begins) in
    let follows = told_so mid.files a.after (λ f. Follows (Syncs synced (f synced)) mid.may_leave new.may_leave) a.told crash in
    λ image left.
    let from = follows image left in
    let there : image synced ≡ a.after synced = ap (λ (f : Folder). f synced) from.2 ∙ put_at from.0 synced (a.after synced) in
    let same : image file ≡ a.after file = ap image (sym named_too) ∙ there ∙ ap a.after named_too in
    subst (Begins bytes) (sym same) reads)

-- the name of a segment's file, in other words
pub named_by : (size other start segment : ℕ) (path history : Path) (text name : List ℕ) → name ≡ text
    → text ≡ segment_file other history segment → segment ≡ start / other → other ≡ size → history ≡ path
    → name ≡ segment_file size path (start / size)
named_by size other start segment path history text name same is at sized along =
    same ∙ is ∙ ap (λ (k : ℕ). segment_file other history k) at ∙ ap (λ (n : ℕ). segment_file n history (start / n)) sized
    ∙ ap (λ (p : Path). segment_file size p (start / size)) along

-- ---- all segments

-- the next position is a segment's start, or the end
pub next_whole : (size at to flushed : ℕ) → at % size ≡ 0 → to ≡ min flushed (at + size) → (to % size ≡ 0) ⊎ (to ≡ flushed)
next_whole size at to flushed whole is = ⊎_elim
    (λ (less : at + size < flushed). inl (ap (λ (n : ℕ). n % size) (the_least less is) ∙ add-mod_left size at ∙ whole))
    (λ (all : flushed ≤ at + size). inr (omega (arith, is, all))) (cases_lt (at + size) flushed)
  where
    the_least : at + size < flushed → to ≡ min flushed (at + size) → to ≡ size + at
    the_least less least = omega (arith, less, least)

-- the log up to the floor is none
pub has_none : (size : ℕ) (path : Path) (floor : ℕ) (s : State) (image : Folder) → HasLog size path floor s floor image
has_none size path floor s image =
    subst (λ (bytes : List ℕ). Carries size image path floor bytes) (sym (none_of (floor - floor) s.durable.bytes (omega arith)))
    (record { there = λ i lt. absurd (omega (arith, lt)); same = λ i lt. absurd (omega (arith, lt)) })

-- the log up to its end is all
pub has_all : (size : ℕ) (path : Path) (floor : ℕ) (s : State) (to : ℕ) (image : Folder) → floor + length s.durable.bytes ≡ to
    → HasLog size path floor s to image → Carries size image path floor s.durable.bytes
has_all size path floor s to image end has = subst (λ (bytes : List ℕ). Carries size image path floor bytes)
    (take_all (to - floor) s.durable.bytes (omega (arith, end))) has

-- and another segment
module _ (size : ℕ) (path : Path) (floor start to : ℕ) (s : State) (named : HasNames size path) (whole : start % size ≡ 0) (from : floor ≤ start)
    (order : start ≤ to) (inside : to ≤ start + size) (end : to ≤ floor + length s.durable.bytes) (small : to < 2 ^ 64) (before image : Folder)
    (others : (other : List ℕ) → (other ≡ segment_file size path (start / size) → ⊥) → image other ≡ before other)
    (has : HasLog size path floor s start before)
    (begins : Begins (log_part floor s start to) (image (segment_file size path (start / size)))) where
  some : 0 < size
  some = omega (arith, named.is_size.least)

  abbrev bytes : List ℕ
  bytes = s.durable.bytes

  abbrev a : ℕ
  a = start - floor

  abbrev b : ℕ
  b = to - floor

  abbrev Has : ℕ → Type 0
  Has i = ((floor + i) % size < length (file_at size image path (floor + i)))
      × (get_or (file_at size image path (floor + i)) ((floor + i) % size) 0 ≡ get_or (take b bytes) i 0)

  -- before that segment
  below : (i : ℕ) → i < a → Has i
  below i lt =
      let p : ℕ = floor + i in
      let short : i < length (take a bytes) = omega (arith, length-take a bytes, lt) in
      let before_start : p < start = omega (arith, lt) in
      let apart : segment_file size path (p / size) ≡ segment_file size path (start / size) → ⊥ = λ same.
      let one : p / size ≡ start / size = same_file size path path (p / size) (start / size) named named (fits_at size p (omega (arith, before_start, order, small)))
      (fits_at size start (omega (arith, order, small))) same in
      let early = earlier_place size p start before_start one in
      omega (arith, early, whole) in
      let file : image (segment_file size path (p / size)) ≡ before (segment_file size path (p / size)) = others (segment_file size path (p / size)) apart in (
        subst (λ (f : Option (List ℕ)). p % size < length (content f)) (sym file) (has.there i short),
        ap (λ (f : Option (List ℕ)). get_or (content f) (p % size) 0) file ∙ has.same i short ∙ get_or-take a bytes i 0 lt
            ∙ sym (get_or-take b bytes i 0 (omega (arith, lt, order))),
      )

  -- and within
  within : (i : ℕ) → a ≤ i → i < b → Has i
  within i ge lt =
      let j : ℕ = i - a in
      let name = segment_file size path (start / size) in
      let place : floor + i ≡ start + j = omega (arith, ge, from) in
      let room : start % size + j < size = omega (arith, ge, lt, from, inside, whole) in
      let segment : (floor + i) / size ≡ start / size = ap (λ x. x / size) place ∙ same_segment_past size start j some room in
      let offset : (floor + i) % size ≡ j = ap (λ x. x % size) place ∙ place_past size start j some room ∙ ap (λ x. x + j) whole ∙ omega arith in
      let file : file_at size image path (floor + i) ≡ content (image name) = ap (λ x. content (image (segment_file size path x))) segment in
      let c = content (image name) in
      let k = length (log_part floor s start to) in
      let long : k ≡ to - start = omega (arith, length-take (to - start) (drop (start - floor) (log s)), length-drop (start - floor) (log s), length-append bytes s.unflushed, from, end) in
      let few : j < k = omega (arith, long, ge, lt, from) in
      let reaches : k ≤ length c = omega (arith, length-take k c, ap length begins) in
      let log_at : get_or c j 0 ≡ get_or (log s) i 0 = sym (get_or-take k c j 0 few) ∙ ap (λ (l : List ℕ). get_or l j 0) begins
      ∙ get_or-take (to - start) (drop (start - floor) (log s)) j 0 (omega (arith, few, long)) ∙ get_or-drop (start - floor) (log s) j 0
      ∙ ap (λ x. get_or (log s) x 0) (the_sum i ge) in (
        subst (λ (f : List ℕ). (floor + i) % size < length f) (sym file) (omega (arith, offset, few, reaches)),
        ap (λ (f : List ℕ). get_or f ((floor + i) % size) 0) file ∙ ap (λ x. get_or c x 0) offset ∙ log_at
            ∙ get_or_append_left bytes s.unflushed 0 i (omega (arith, lt, end)) ∙ sym (get_or-take b bytes i 0 lt),
      )
    where
      the_sum : (i : ℕ) → a ≤ i → start - floor + (i - a) ≡ i
      the_sum i le = omega arith

  each : (i : ℕ) → i < length (take b bytes) → Has i
  each i lt =
      let less : i < b = omega (arith, lt, length-take b bytes) in
      ⊎_elim (λ (l : i < a). below i l) (λ (ge : a ≤ i). within i ge less) (cases_lt i a)

  pub has_more : HasLog size path floor s to image
  has_more = record { there = λ i lt. (each i lt).0; same = λ i lt. (each i lt).1 }

-- the same of what a crash leaves
pub segment_more : (size : ℕ) (path : Path) (floor start to : ℕ) (s : State) (names : List ℕ → Type 0) (old mid new : DiskState) → HasNames size path
    → start % size ≡ 0 → floor ≤ start → start ≤ to → to ≤ start + size → to ≤ floor + length s.durable.bytes → to < 2 ^ 64
    → IfTold old.files (λ folder. ChangesOnly names old mid folder)
    → IfTold mid.files (λ folder. ChangesOnly (λ other. other ≡ segment_file size path (start / size)) mid new folder)
    → IfTold old.files (λ folder. (image : Folder) → mid.may_leave image → HasLog size path floor s start image)
    → IfTold mid.files (λ folder. (image : Folder) → new.may_leave image
    → Begins (log_part floor s start to) (image (segment_file size path (start / size))))
    → IfTold old.files (λ folder. (image : Folder) → new.may_leave image → HasLog size path floor s to image)
segment_more size path floor start to s names old mid new named whole from order inside end small first second has begins =
    where_told old.files (λ folder. (image : Folder) → new.may_leave image → HasLog size path floor s to image) (λ folder told.
    let a = told_so old.files folder (λ f. ChangesOnly names old mid f) told first in
    let b = told_so mid.files a.after (λ f. ChangesOnly (λ other. other ≡ segment_file size path (start / size)) mid new f) a.told second in
    let had = told_so old.files folder (λ f. (image : Folder) → mid.may_leave image → HasLog size path floor s start image) told has in
    let fronts = told_so mid.files a.after (λ f. (image : Folder) → new.may_leave image
    → Begins (log_part floor s start to) (image (segment_file size path (start / size)))) a.told begins in
    λ image left.
    let beside = b.now image left in
    has_more size path floor start to s named whole from order inside end small beside.before image beside.others
    (had beside.before beside.was) (fronts image left))
