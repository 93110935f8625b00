-- What a read of a file gives of the log that the files carry.
use Rattle.std.proofs.Common.{◌≡◌, ℕ, zero, suc, ◌+◌, ◌-◌, ◌/◌, ◌%◌, ◌<◌, ◌≤◌, List, ◌++◌, length, take, drop, get_or, Option, Some, None, Result, Ok, Err, OnOk, refl, sym, ◌∙◌, ap, subst, arith, length-append, length-drop}
use Rattle.std.proofs.lemmas.List.{ext_get_or, get_or-take, get_or-drop, length-take}
use Rattle.std.proofs.lemmas.Slice.{take-put_mid}
use Rattle.std.proofs.Math.Seq.{take-add}
use borrow.Rule.Slice.PartMut.{put_mid}
use Rattle.std.proofs.lemmas.Grind.{common_steps}
use Rattle.repl_effects.specs.Counts.{Rose, Stood}
use Rattle.repl_disk.specs.Answers.{EndsRead, OnlyWhereThere}
use Rattle.repl_disk.specs.Crash.{Elapses, LeavesOnly, NoneNew}
use Rattle.repl_disk.specs.Folder.{Folder, IfTold, ReadsAt, Stayed, content}
use Rattle.repl_disk.specs.Moments.{goes_on, joined, started, weakened}
use Rattle.repl_disk.specs.Runs.{told_so}
use Rattle.repl_disk.specs.State.{DiskState}
use Rattle.repl_disk.specs.declared.disk.DiskError.{DiskError}
use Rattle.repl_disk.specs.declared.disk.DiskError.TheVariants as error
use Rattle.repl_lsn.specs.History.{Path}
use Rattle.repl_store.specs.Backing.{Backs, Before, Comes, Reads, State, fault_of, log}
use Rattle.repl_store.specs.Durable.{Carries, file_at, segment_file}
use Rattle.repl_store.specs.Head.{Head}
use Rattle.repl_store.specs.declared.fault.StoreFault.{StoreFault}
use Rattle.repl_store.specs.declared.fault.StoreFault.TheVariants as fault
use Rattle.repl_store.proofs.Places.{within}

-- the byte at a place of a file, of those from a position on that stand in it
pub carried_at : (size : ℕ) (folder : Folder) (path : Path) (floor : ℕ) (bytes file : List ℕ) (at j : ℕ) → 0 < size
    → Carries size folder path floor bytes → floor ≤ at → at + j < floor + length bytes → at % size + j < size
    → folder (segment_file size path (at / size)) ≡ Some file
    → (at % size + j < length file) × (get_or file (at % size + j) 0 ≡ get_or bytes (at - floor + j) 0)
carried_at size folder path floor bytes file at j some carries from below inside is =
    let i = at - floor + j in
    let place : floor + i ≡ at + j = omega (arith, from) in
    let here = within size at j some inside in
    let named : file_at size folder path (floor + i) ≡ file = ap (file_at size folder path) place
    ∙ ap (λ n. content (folder (segment_file size path n))) here.0 ∙ ap content is in
    let offset : (floor + i) % size ≡ at % size + j = ap (λ n. n % size) place ∙ here.1 in
    let short : i < length bytes = omega (arith, from, below) in
    let there : at % size + j < length file = let P : ℕ → List ℕ → Type 0 = λ n f. n < length f in subst (λ n. P n file) offset
    (subst (λ (f : List ℕ). P ((floor + i) % size) f) named (carries.there i short)) in (
      there,
      ap (λ n. get_or file n 0) (sym offset) ∙ ap (λ (f : List ℕ). get_or f ((floor + i) % size) 0) (sym named)
          ∙ carries.same i short,
    )

-- the file goes on past a position that it carries
pub carried_first : (size : ℕ) (folder : Folder) (path : Path) (floor : ℕ) (bytes : List ℕ) (at : ℕ)
    → Carries size folder path floor bytes → floor ≤ at → at < floor + length bytes → at % size < length (file_at size folder path at)
carried_first size folder path floor bytes at carries from below =
    let place : floor + (at - floor) ≡ at = omega (arith, from) in
    let P : ℕ → Type 0 = λ n. n % size < length (file_at size folder path n) in
    subst P place (carries.there (at - floor) (omega (arith, from, below)))

-- the log is read
pub piece_read : (size : ℕ) (folder : Folder) (path : Path) (floor : ℕ) (bytes : List ℕ) (at count : ℕ) (before after : List ℕ) → 0 < size
    → Carries size folder path floor bytes → floor ≤ at → at + length before ≤ floor + length bytes → at % size + length before ≤ size
    → ReadsAt (folder (segment_file size path (at / size))) (at % size) count before after
    → (count ≡ length before) × (after ≡ take (length before) (drop (at - floor) bytes))
piece_read size folder path floor bytes at count before after some carries from below inside reads =
    let file = reads.bytes in
    let each = λ (j : ℕ) (lt : j < length before). carried_at size folder path floor bytes file at j some carries from
    (omega (arith, below, lt)) (omega (arith, inside, lt)) reads.there in
    let last : (n : ℕ) → n ≡ length before → n ≤ length file - at % size = reaches (λ j lt. (each j lt).0) in
    let counted : count ≡ length before = omega (arith, reads.counted, last (length before) refl) in
    let read : after ≡ take (length before) (drop (at % size) file) = grind (arith, common_steps, reads.read, counted) in (
      counted,
      read ∙ ext_get_or 0 (take (length before) (drop (at % size) file)) (take (length before) (drop (at - floor) bytes))
          (omega (arith, length-take (length before) (drop (at % size) file), length-take (length before) (drop (at - floor) bytes), length-drop (at % size) file, length-drop (at - floor) bytes, below, from, last (length before) refl))
          (λ i lt. let short : i < length before = omega (arith, lt, length-take (length before) (drop (at % size) file)) in
          get_or-take (length before) (drop (at % size) file) i 0 short ∙ get_or-drop (at % size) file i 0 ∙ (each i short).1
          ∙ sym (get_or-drop (at - floor) bytes i 0) ∙ sym (get_or-take (length before) (drop (at - floor) bytes) i 0 short)),
    )
  where
    reaches : ((j : ℕ) → j < length before → at % size + j < length reads.bytes) → (n : ℕ) → n ≡ length before → n ≤ length reads.bytes - at % size
    reaches all zero is = omega arith
    reaches all (suc n) is = omega (arith, all n (omega (arith, is)))

-- ---- a call that only reads

-- no image is new
pub only_old : (old new : DiskState) → ((image : Folder) → old.left_since old.moment image → old.may_leave image)
    → NoneNew old.may_leave new.may_leave → Elapses old new → LeavesOnly old new old.may_leave
only_old old new only_now none_new time = goes_on old old new old.may_leave (started old old.may_leave only_now) time none_new

-- where the log ends
pub log_end : (old : DiskState) (head : Head) (s : State) → Backs old head s → (end : ℕ) → end ≤ head.written
    → end ≤ head.control.floor + length (log s)
log_end old head s backs end le = omega (arith, le, backs.written, backs.counted, length-append s.durable.bytes s.unflushed)

-- the store is backed as before
pub backs_on : (old new : DiskState) (head : Head) (s : State) → Backs old head s → Stayed old.files new.files
    → NoneNew old.may_leave new.may_leave → Backs new head s
backs_on old new head s backs stayed none_new = record {
  folder = backs.folder;
  told = stayed ∙ backs.told;
  control = backs.control;
  path = backs.path;
  counted = backs.counted;
  written = backs.written;
  reads = backs.reads;
  images = λ image now. backs.images image (none_new image now);
}

module _ (old new : DiskState) (head : Head) (s : State) (at : ℕ) (before after : List ℕ) (backs : Backs old head s)
    (stayed : Stayed old.files new.files) (moments : LeavesOnly old new old.may_leave) (none_new : NoneNew old.may_leave new.may_leave)
    (full : 0 < length before) (from : head.control.floor ≤ at) (end : at + length before ≤ head.written)
    (inside : at % head.size + length before ≤ head.size) (name : List ℕ) (place : ℕ)
    (named : name ≡ segment_file head.size head.path (at / head.size)) (placed : place ≡ at % head.size) where
  some : 0 < head.size
  some = omega (arith, full, inside)

  counted : (count : ℕ) → IfTold old.files (λ folder. ReadsAt (folder name) place count before after)
      → (count ≡ length before) × (after ≡ take (length before) (drop (at - head.control.floor) (log s)))
  counted count reads =
      let told = told_so old.files backs.folder (λ folder. ReadsAt (folder name) place count before after) backs.told reads in
      let here = subst (λ (n : List ℕ). ReadsAt (backs.folder n) place count before after) named told in
      piece_read head.size backs.folder head.path head.control.floor (log s) at count before after some backs.reads from
      (log_end old head s backs (at + length before) end) inside
      (subst (λ (p : ℕ). ReadsAt (backs.folder (segment_file head.size head.path (at / head.size))) p count before after) placed here)

  pub reads_ok : (count : ℕ) → IfTold old.files (λ folder. ReadsAt (folder name) place count before after)
      → Reads {A = Unit {0}} (Ok tt) old new head s at before after
  reads_ok count reads = record {
    moments = moments;
    none_new = none_new;
    backs = backs_on old new head s backs stayed none_new;
    read = (counted count reads).1;
    failed = λ is. absurd cc;
  }

  pub not_short : (count : ℕ) → IfTold old.files (λ folder. ReadsAt (folder name) place count before after)
      → (count ≡ length before → ⊥) → Reads {A = Unit {0}} (Err fault.DiskFault) old new head s at before after
  not_short count reads differ = absurd (differ (counted count reads).0)

  is_there : backs.folder name ≡ None → ⊥
  is_there none =
      let first = carried_first head.size backs.folder head.path head.control.floor (log s) at backs.reads from
      (omega (arith, full, log_end old head s backs (at + length before) end)) in
      let empty : length (file_at head.size backs.folder head.path at) ≡ 0 = ap (λ (f : Option (List ℕ)). length (content f))
      (ap backs.folder (sym named) ∙ none) in
      absurd (omega (arith, first, empty))

  pub reads_err : (e : DiskError) → OnlyWhereThere {A = ℕ} old.files name (Err e) → EndsRead (length before) (Err e) old new
      → Reads {A = Unit {0}} (Err (fault_of e)) old new head s at before after
  reads_err error.Missing there ends =
      absurd (is_there (told_so old.files backs.folder (λ folder. folder name ≡ None) backs.told there))
  reads_err error.Failed there ends = record {
    moments = moments;
    none_new = none_new;
    backs = backs_on old new head s backs stayed none_new;
    read = tt;
    failed = λ is. ends.faults;
  }
  reads_err error.Memory there ends = record {
    moments = moments;
    none_new = none_new;
    backs = backs_on old new head s backs stayed none_new;
    read = tt;
    failed = λ is. absurd cc;
  }

-- ---- piece by piece

-- so much of the room was filled from the log, and nothing else changed
pub record Filled (old now : DiskState) (head : Head) (s : State) (at filled : ℕ) (room : List ℕ) : Type 0 where
  pub moments : LeavesOnly old now old.may_leave
  pub none_new : NoneNew old.may_leave now.may_leave
  pub backs : Backs now head s
  pub faults : Stood old.faults now.faults
  pub read : take filled room ≡ take filled (drop (at - head.control.floor) (log s))

pub filled_none : (old : DiskState) (head : Head) (s : State) (at : ℕ) (room : List ℕ)
    → ((image : Folder) → old.left_since old.moment image → old.may_leave image) → Backs old head s → Filled old old head s at 0 room
filled_none old head s at room only_now backs = record {
  moments = started old old.may_leave only_now;
  none_new = λ image now. now;
  backs = backs;
  faults = refl;
  read = refl;
}

module _ (old now new : DiskState) (head : Head) (s : State) (at filled : ℕ) (before piece : List ℕ)
    (so_far : Filled old now head s at filled before) where
  moments_on : LeavesOnly now new now.may_leave → LeavesOnly old new old.may_leave
  moments_on more = joined old now new old.may_leave so_far.moments (weakened now new now.may_leave old.may_leave more so_far.none_new)

  -- the read of a piece was refused
  pub filled_err : (part room after : List ℕ) (e : StoreFault) → Reads {A = Unit {0}} (Err e) now new head s (at + filled) part piece
      → Reads {A = Unit {0}} (Err e) old new head s at room after
  filled_err part room after e reads = record {
    moments = moments_on reads.moments;
    none_new = λ image left. so_far.none_new image (reads.none_new image left);
    backs = reads.backs;
    read = tt;
    failed = λ same. let P : ℕ → Type 0 = λ n. Rose n new.faults in subst P so_far.faults (reads.failed same);
  }

  -- a piece was read after what was filled
  pub filled_more : (end : ℕ) (part : List ℕ) → filled ≤ end → end ≤ length before → length piece ≡ end - filled → length part ≡ end - filled
      → head.control.floor ≤ at → Reads {A = Unit {0}} (Ok tt) now new head s (at + filled) part piece → Stood now.faults new.faults
      → Filled old new head s at end (put_mid filled (end - filled) before piece)
  filled_more end part above inside size part_size from reads stood = record {
    moments = moments_on reads.moments;
    none_new = λ image left. so_far.none_new image (reads.none_new image left);
    backs = reads.backs;
    faults = stood ∙ so_far.faults;
    read = joins;
  }
    where
      rest : List ℕ
      rest = drop (at - head.control.floor) (log s)

      offset : at + filled - head.control.floor ≡ (at - head.control.floor) + filled
      offset = omega (arith, from)

      second : piece ≡ take (end - filled) (drop filled rest)
      second = reads.read ∙ ap (λ n. take n (drop (at + filled - head.control.floor) (log s))) part_size
          ∙ ap (λ n. take (end - filled) (drop n (log s))) offset ∙ ap (take (end - filled)) (grind (arith, common_steps))

      whole : end ≡ filled + (end - filled)
      whole = omega (arith, above)

      joins : take end (put_mid filled (end - filled) before piece) ≡ take end rest
      joins = take-put_mid filled (end - filled) before piece end (omega (arith, above, size)) (omega (arith, above, inside))
          ∙ ap (λ (l : List ℕ). l ++ piece) so_far.read ∙ ap (λ (l : List ℕ). take filled rest ++ l) second
          ∙ sym (take-add filled (end - filled) rest) ∙ ap (λ n. take n rest) (sym whole)

-- ---- the call

-- a read comes to the state that it began in
pub read_comes : {A : Type 0} (result : Result A StoreFault) (old new : DiskState) (head : Head) (s : State) (at : ℕ) (before after : List ℕ)
    → Backs old head s → Reads result old new head s at before after → Comes result old new head (Before s) s (λ t. t ≡ s)
read_comes {A = A} result old new head s at before after backs reads = record {
  moments = weakened old new old.may_leave _ reads.moments (λ image was. (s.durable, refl, (backs.images image was).stands));
  ok = done result;
  no_memory = λ is. (s, refl, reads.backs);
  failed = reads.failed;
}
  where
    done : (r : Result A StoreFault) → OnOk r (Backs new head s)
    done (Ok x) = reads.backs
    done (Err e) = tt
