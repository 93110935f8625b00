-- What the disk's calls leave of a store: each keeps what was certain, and the files go on standing for one of its states.
use Rattle.std.proofs.Common.{
  ◌≡◌,
  ◌≢◌,
  ℕ,
  ◌+◌,
  ◌-◌,
  ◌*◌,
  ◌/◌,
  ◌%◌,
  ◌^◌,
  ◌<◌,
  ◌≤◌,
  List,
  length,
  take,
  Option,
  None,
  Ok,
  Err,
  append_assoc,
  refl,
  sym,
  ap,
  ◌∙◌,
  subst,
  arith,
  length-append,
}
use Rattle.std.proofs.lemmas.List.{length-take, take-append-le, take_all}
use Rattle.repl_effects.specs.Counts.{RoseExactly}
use Rattle.repl_disk.specs.declared.disk.DiskError.{DiskError}
use Rattle.repl_disk.specs.declared.disk.DiskError.TheVariants as error
use Rattle.repl_disk.specs.Answers.{Does, Leaves, NeverMissing, OnlyWhereThere, is_fault}
use Rattle.repl_disk.specs.Crash.{Elapses, NoneNew, Syncs, Tears}
use Rattle.repl_disk.specs.Folder.{Folder, IfTold, Stayed, content, written}
use Rattle.repl_disk.specs.Moments.{started}
use Rattle.repl_disk.specs.Runs.{Run, ran, ran_sync, told_so}
use Rattle.repl_disk.specs.State.{DiskState}
use Rattle.repl_disk.specs.Steps.{keeps_sync}
use Rattle.repl_store.specs.Backing.{Backs, Before, Comes, Keeps, LeavesOne, State, appended, fault_of, log}
use Rattle.repl_store.specs.Durable.{Carries, Durable, StandsFor, segment_file}
use Rattle.repl_store.specs.Head.{Head, IsHead}
use Rattle.repl_store.specs.Tail.{Grows, SyncsAll, end_file}
use Rattle.repl_store.specs.declared.fault.StoreFault.{StoreFault}
use Rattle.repl_store.proofs.Backed.{backs_still, ends_are, head_carries, log_end, own_carries, with_ends}
use Rattle.repl_store.proofs.Carrying.{carries_appended, carries_front, carries_synced, carries_torn}
use Rattle.repl_store.proofs.Names.{HasNames, fits_at, segment_of_later}
use Rattle.repl_store.proofs.Standing.{names_of_head, stands_at_segment}

-- ---- answers

-- a call that is done
pub done_comes : {A : Type 0} (x : A) (old new : DiskState) (head : Head) (column : Durable → Type 0) (done : State)
    (some : State → Type 0) → LeavesOne old new head.size column → Backs new head done
    → Comes {A = A} (Ok x) old new head column done some
done_comes x old new head column done some moments backs = record {
  moments = moments;
  ok = backs;
  no_memory = λ is. absurd cc;
  failed = λ is. absurd cc;
}

-- a call that the disk refused, which is no lack
pub refused_comes : {A : Type 0} (e : DiskError) (f : StoreFault) (old new : DiskState) (head : Head) (column : Durable → Type 0)
    (done : State) (some : State → Type 0) → f ≡ fault_of e → (e ≡ error.Missing → ⊥) → RoseExactly (is_fault e) old.faults new.faults
    → LeavesOne old new head.size column → (e ≡ error.Memory → (t : State) × some t × Backs new head t)
    → Comes {A = A} (Err f) old new head column done some
refused_comes error.Missing f old new head column done some is there rose moments memory = absurd (there refl)
refused_comes error.Failed f old new head column done some is there rose moments memory = record {
  moments = moments;
  ok = tt;
  no_memory = λ other. absurd cc;
  failed = λ same. rose;
}
refused_comes error.Memory f old new head column done some is there rose moments memory = record {
  moments = moments;
  ok = tt;
  no_memory = λ same. memory refl;
  failed = λ other. absurd cc;
}

pub never_missing : (A : Type 0) (e : DiskError) → NeverMissing {A = A} (Err e) → e ≡ error.Missing → ⊥
never_missing A error.Missing h is = h
never_missing A error.Failed h is = cc
never_missing A error.Memory h is = cc

-- ---- what calls keep of an image

module _ (disk : DiskState) (head : Head) (s : State) (is : IsHead head) (backs : Backs disk head s) where
  small : head.written < 2 ^ 64
  small = omega (arith, is.written)

  -- more of a file past the written end
  pub tear_keeps : (count : ℕ) (before image : Folder) → Keeps head s before
      → Tears (end_file head) (head.written % head.size) count before image → Keeps head s image
  tear_keeps count before image keeps tears = record {
    stands = stands_at_segment head.size s.durable head.path (head.written / head.size) before image names
        (fits_at head.size head.written small) tears.others
        (own_carries disk head s backs image s.durable.bytes (torn s.durable.bytes (omega (
          arith,
          backs.counted,
          is.flushed,
          is.synced,
        )) (head_carries disk head s backs before s.durable.bytes keeps.stands.carries))) keeps.stands;
    synced = torn (take (head.synced - head.control.floor) (log s)) (omega (
      arith,
      length-take (head.synced - head.control.floor) (log s),
      log_end disk head s backs,
    )) keeps.synced;
  }
    where
      names : HasNames head.size head.path
      names = names_of_head head is

      torn : (bytes : List ℕ) → head.control.floor + length bytes ≤ head.written
          → Carries head.size before head.path head.control.floor bytes → Carries head.size image head.path head.control.floor bytes
      torn bytes short carries = carries_torn head.size head.path head.control.floor bytes head.written count before image names short
          small tears carries

  -- a sync of the segment in which bytes are that were not certain
  pub sync_keeps : (name : Option (List ℕ)) (before image : Folder) → head.written ≤ head.synced / head.size * head.size + head.size
      → Keeps head s before
      → Syncs (segment_file head.size head.path (head.synced / head.size))
      (backs.folder (segment_file head.size head.path (head.synced / head.size))) before image
      → Keeps (with_ends head head.written head.written name) s image
  sync_keeps name before image tail keeps syncs = record {
    stands = stands_at_segment head.size s.durable head.path segment before image names (fits_at head.size head.synced (omega (
      arith,
      small,
      is.synced,
    ))) (keeps_sync file (backs.folder file) before image syncs)
        (own_carries disk head s backs image s.durable.bytes
        (carries_front head.size head.path head.control.floor s.durable.bytes s.unflushed image all)) keeps.stands;
    synced = subst (λ (bytes : List ℕ). Carries head.size image head.path head.control.floor bytes)
        (sym (take_all (head.written - head.control.floor) (log s) (omega (arith, log_end disk head s backs)))) all;
  }
    where
      names : HasNames head.size head.path
      names = names_of_head head is

      segment : ℕ
      segment = head.synced / head.size

      file : List ℕ
      file = segment_file head.size head.path segment

      past : (i : ℕ) → head.synced - head.control.floor ≤ i → i < length (log s) → (head.control.floor + i) / head.size ≡ segment
      past i le lt = segment_of_later head.size head.synced (head.control.floor + i) (omega (arith, is.size.least)) (omega arith)
          (omega (arith, log_end disk head s backs))

      all : Carries head.size image head.path head.control.floor (log s)
      all = carries_synced head.size head.path head.control.floor (log s) (head.synced - head.control.floor) segment backs.folder before
          image backs.reads keeps.synced past syncs

  -- the file of that segment is there
  pub tail_there : head.synced < head.written → backs.folder (segment_file head.size head.path (head.synced / head.size)) ≢ None
  tail_there some none =
      let i : ℕ = head.synced - head.control.floor in
      let at : head.control.floor + i ≡ head.synced = omega (arith, backs.counted, is.flushed) in
      let there = backs.reads.there i (omega (arith, log_end disk head s backs)) in
      let file : length (content (backs.folder (segment_file head.size head.path ((head.control.floor + i) / head.size)))) ≡ 0 =
      ap (λ (p : ℕ). length (content (backs.folder (segment_file head.size head.path (p / head.size))))) at
      ∙ ap (λ (f : Option (List ℕ)). length (content f)) none in
      omega (arith, there, file)

  -- ---- runs of one call

  -- what a crash leaves, while nothing is flushed
  abbrev Column : Folder → Type 0
  Column image = (d : Durable) × Before s d × StandsFor head.size image d

  within : (image : Folder) → Keeps head s image → Column image
  within image keeps = (s.durable, refl, keeps.stands)

  module _ (only_now : (image : Folder) → disk.left_since disk.moment image → disk.may_leave image) where
    begun : Run disk disk Column backs.folder (Keeps head s)
    begun = record {
      any_moment = started disk Column (λ image left. within image (backs.images image (only_now image left)));
      now = backs.images;
      reads = backs.told;
    }

    -- without a call
    pub idle : LeavesOne disk disk head.size (Before s)
    idle = begun.any_moment

    -- ---- a write past the written end

    module _ (new : DiskState) (piece : List ℕ) (time : Elapses disk new) where
      abbrev Tearing : Folder → Folder → Folder → Type 0
      Tearing f = Tears (end_file head) (head.written % head.size) (length piece)

      abbrev writing : Folder → Folder
      writing f = written f (end_file head) (head.written % head.size) piece

      appended_run : Does {A = Unit {0}} (Ok tt) disk.files new.files writing
          → IfTold disk.files (λ f. Leaves {A = Unit {0}} (Ok tt) (Tearing f) disk.may_leave new.may_leave)
          → Run disk new Column (writing backs.folder) (Keeps head s)
      appended_run wrote crash = ran {A = Unit {0}} (Ok tt) disk disk new Column backs.folder (Keeps head s) (Keeps head s) writing Tearing
          begun wrote crash time (tear_keeps (length piece)) within within

      appended_keeps : (name : Option (List ℕ)) (image : Folder) → Keeps head s image
          → Keeps (with_ends head (head.written + length piece) head.synced name) (appended s piece) image
      appended_keeps name image keeps = record {
        stands = keeps.stands;
        synced = subst (λ (bytes : List ℕ). Carries head.size image head.path head.control.floor bytes)
            (sym (ap (take (head.synced - head.control.floor)) (sym (append_assoc s.durable.bytes s.unflushed piece))
            ∙ take-append-le (head.synced - head.control.floor) (log s) piece (omega (arith, log_end disk head s backs, is.synced))))
            keeps.synced;
      }

      pub append_done : (name : Option (List ℕ)) → head.written % head.size + length piece ≤ head.size
          → Does {A = Unit {0}} (Ok tt) disk.files new.files writing
          → IfTold disk.files (λ f. Leaves {A = Unit {0}} (Ok tt) (Tearing f) disk.may_leave new.may_leave)
          → Comes {A = Unit {0}} (Ok tt) disk new (with_ends head (head.written + length piece) head.synced name) (Before s)
          (appended s piece) (λ t. t ≡ s)
      append_done name inside wrote crash =
          let run = appended_run wrote crash in
          done_comes tt disk new (with_ends head (head.written + length piece) head.synced name) (Before s) (appended s piece) (λ t. t ≡ s)
          run.any_moment record {
            folder = writing backs.folder;
            told = run.reads;
            control = backs.control;
            path = backs.path;
            counted = backs.counted;
            written = omega (arith, backs.written, length-append s.unflushed piece);
            reads = subst (λ (bytes : List ℕ). Carries head.size (writing backs.folder) head.path head.control.floor bytes)
                (append_assoc s.durable.bytes s.unflushed piece)
                (carries_appended head.size head.path head.control.floor (log s) piece head.written backs.folder (names_of_head head is)
                (omega (arith, is.size.least)) (log_end disk head s backs) small inside backs.reads);
            images = λ image left. appended_keeps name image (run.now image left);
          }

      pub append_refused : (e : DiskError) (f : StoreFault) → f ≡ fault_of e → NeverMissing {A = Unit {0}} (Err e)
          → Does {A = Unit {0}} (Err e) disk.files new.files writing
          → IfTold disk.files (λ f. Leaves {A = Unit {0}} (Err e) (Tearing f) disk.may_leave new.may_leave)
          → RoseExactly (is_fault e) disk.faults new.faults
          → Comes {A = Unit {0}} (Err f) disk new head (Before s) (appended s piece) (λ t. t ≡ s)
      append_refused e f is_fault there wrote crash rose =
          let run = ran {A = Unit {0}} (Err e) disk disk new Column backs.folder (Keeps head s) (Keeps head s) writing Tearing
          begun wrote crash time (tear_keeps (length piece)) within within in
          refused_comes e f disk new head (Before s) (appended s piece) (λ t. t ≡ s) is_fault (never_missing (Unit {0}) e there) rose
          run.2.any_moment (λ same. (
            s,
            refl,
            backs_still disk new head s
                (subst (λ (x : DiskError). Does {A = Unit {0}} (Err x) disk.files new.files writing) same wrote)
                (told_so disk.files backs.folder (λ f. NoneNew disk.may_leave new.may_leave) backs.told
                (subst (λ (x : DiskError). IfTold disk.files (λ f. Leaves {A = Unit {0}} (Err x) (Tearing f) disk.may_leave new.may_leave))
                same crash)) backs,
          ))

      -- the same in the words of the call
      pub append_ok : (other : Head) (name : List ℕ) (place : ℕ) → Grows head other (length piece) → name ≡ end_file head
          → place ≡ head.written % head.size → head.written % head.size + length piece ≤ head.size
          → Does {A = Unit {0}} (Ok tt) disk.files new.files (λ f. written f name place piece)
          → IfTold disk.files (λ f. Leaves {A = Unit {0}} (Ok tt) (Tears name place (length piece)) disk.may_leave new.may_leave)
          → Comes {A = Unit {0}} (Ok tt) disk new other (Before s) (appended s piece) (λ t. t ≡ s)
      append_ok other name place grows named placed inside wrote crash =
          subst (λ (h : Head). Comes {A = Unit {0}} (Ok tt) disk new h (Before s) (appended s piece) (λ t. t ≡ s))
          (sym (ends_are head other (head.written + length piece) head.synced grows.0 grows.1))
          (append_done other.unsynced inside
          (subst (λ (p : ℕ). Does {A = Unit {0}} (Ok tt) disk.files new.files (λ f. written f (end_file head) p piece)) placed
          (subst (λ (n : List ℕ). Does {A = Unit {0}} (Ok tt) disk.files new.files (λ f. written f n place piece)) named wrote))
          (subst (λ (p : ℕ). IfTold disk.files (λ f. Leaves {A = Unit {0}} (Ok tt) (Tears (end_file head) p (length piece)) disk.may_leave
          new.may_leave)) placed
          (subst (λ (n : List ℕ). IfTold disk.files (λ f. Leaves {A = Unit {0}} (Ok tt) (Tears n place (length piece)) disk.may_leave
          new.may_leave)) named crash)))

      pub append_err : (e : DiskError) (f : StoreFault) (name : List ℕ) (place : ℕ) → f ≡ fault_of e → name ≡ end_file head
          → place ≡ head.written % head.size → NeverMissing {A = Unit {0}} (Err e)
          → Does {A = Unit {0}} (Err e) disk.files new.files (λ f. written f name place piece)
          → IfTold disk.files (λ f. Leaves {A = Unit {0}} (Err e) (Tears name place (length piece)) disk.may_leave new.may_leave)
          → RoseExactly (is_fault e) disk.faults new.faults
          → Comes {A = Unit {0}} (Err f) disk new head (Before s) (appended s piece) (λ t. t ≡ s)
      append_err e f name place same named placed there wrote crash rose =
          append_refused e f same there
          (subst (λ (p : ℕ). Does {A = Unit {0}} (Err e) disk.files new.files (λ f. written f (end_file head) p piece)) placed
          (subst (λ (n : List ℕ). Does {A = Unit {0}} (Err e) disk.files new.files (λ f. written f n place piece)) named wrote))
          (subst (λ (p : ℕ). IfTold disk.files (λ f. Leaves {A = Unit {0}} (Err e) (Tears (end_file head) p (length piece)) disk.may_leave
          new.may_leave)) placed
          (subst (λ (n : List ℕ). IfTold disk.files (λ f. Leaves {A = Unit {0}} (Err e) (Tears n place (length piece)) disk.may_leave
          new.may_leave)) named crash)) rose

    -- ---- a sync of the segment in which bytes are that are not certain

    module _ (new : DiskState) (tail : head.written ≤ head.synced / head.size * head.size + head.size) (some : head.synced < head.written)
        (time : Elapses disk new) (stayed : Stayed disk.files new.files) where
      abbrev tail_file : List ℕ
      tail_file = segment_file head.size head.path (head.synced / head.size)

      abbrev synced_head : Option (List ℕ) → Head
      synced_head name = with_ends head head.written head.written name

      synced_run : (name : Option (List ℕ))
          → IfTold disk.files (λ f. Leaves {A = Unit {0}} (Ok tt) (Syncs tail_file (f tail_file)) disk.may_leave new.may_leave)
          → Run disk new Column backs.folder (Keeps (synced_head name) s)
      synced_run name crash = ran_sync {A = Unit {0}} (Ok tt) tail_file disk disk new Column backs.folder (Keeps head s)
          (Keeps (synced_head name) s) begun stayed crash time
          (λ before image keeps syncs. sync_keeps name before image tail keeps syncs) within
          (λ image keeps. (s.durable, refl, keeps.stands))

      sync_done : (name : Option (List ℕ))
          → IfTold disk.files (λ f. Leaves {A = Unit {0}} (Ok tt) (Syncs tail_file (f tail_file)) disk.may_leave new.may_leave)
          → Comes {A = Unit {0}} (Ok tt) disk new (synced_head name) (Before s) s (λ t. t ≡ s)
      sync_done name crash =
          let run = synced_run name crash in
          done_comes tt disk new (synced_head name) (Before s) s (λ t. t ≡ s) run.any_moment record {
            folder = backs.folder;
            told = run.reads;
            control = backs.control;
            path = backs.path;
            counted = backs.counted;
            written = backs.written;
            reads = backs.reads;
            images = run.now;
          }

      sync_refused : (e : DiskError) (f : StoreFault) → f ≡ fault_of e → OnlyWhereThere {A = Unit {0}} disk.files tail_file (Err e)
          → IfTold disk.files (λ f. Leaves {A = Unit {0}} (Err e) (Syncs tail_file (f tail_file)) disk.may_leave new.may_leave)
          → RoseExactly (is_fault e) disk.faults new.faults → Comes {A = Unit {0}} (Err f) disk new head (Before s) s (λ t. t ≡ s)
      sync_refused e f is_fault there crash rose =
          let run = ran_sync {A = Unit {0}} (Err e) tail_file disk disk new Column backs.folder (Keeps head s)
          (Keeps (synced_head None) s) begun stayed crash time
          (λ before image keeps syncs. sync_keeps None before image tail keeps syncs) within
          (λ image keeps. (s.durable, refl, keeps.stands)) in
          refused_comes e f disk new head (Before s) s (λ t. t ≡ s) is_fault
          (λ same. tail_there some (told_so disk.files backs.folder (λ f. f tail_file ≡ None) backs.told
          (subst (λ (x : DiskError). OnlyWhereThere {A = Unit {0}} disk.files tail_file (Err x)) same there))) rose
          run.2.any_moment (λ same. (
            s,
            refl,
            backs_still disk new head s stayed
                (told_so disk.files backs.folder (λ f. NoneNew disk.may_leave new.may_leave) backs.told
                (subst (λ (x : DiskError). IfTold disk.files (λ f. Leaves {A = Unit {0}} (Err x) (Syncs tail_file (f tail_file))
                disk.may_leave new.may_leave)) same crash)) backs,
          ))

      -- the same in the words of the call
      pub sync_ok : (other : Head) (name : List ℕ) → SyncsAll head other → name ≡ tail_file
          → IfTold disk.files (λ f. Leaves {A = Unit {0}} (Ok tt) (Syncs name (f name)) disk.may_leave new.may_leave)
          → Comes {A = Unit {0}} (Ok tt) disk new other (Before s) s (λ t. t ≡ s)
      sync_ok other name all named crash =
          subst (λ (h : Head). Comes {A = Unit {0}} (Ok tt) disk new h (Before s) s (λ t. t ≡ s))
          (sym (ends_are head other head.written head.written all.0 all.1))
          (sync_done other.unsynced
          (subst (λ (n : List ℕ). IfTold disk.files (λ f. Leaves {A = Unit {0}} (Ok tt) (Syncs n (f n)) disk.may_leave new.may_leave)) named
          crash))

      pub sync_err : (e : DiskError) (f : StoreFault) (name : List ℕ) → f ≡ fault_of e → name ≡ tail_file
          → OnlyWhereThere {A = Unit {0}} disk.files name (Err e)
          → IfTold disk.files (λ f. Leaves {A = Unit {0}} (Err e) (Syncs name (f name)) disk.may_leave new.may_leave)
          → RoseExactly (is_fault e) disk.faults new.faults → Comes {A = Unit {0}} (Err f) disk new head (Before s) s (λ t. t ≡ s)
      sync_err e f name same named there crash rose =
          sync_refused e f same
          (subst (λ (n : List ℕ). OnlyWhereThere {A = Unit {0}} disk.files n (Err e)) named there)
          (subst (λ (n : List ℕ). IfTold disk.files (λ f. Leaves {A = Unit {0}} (Err e) (Syncs n (f n)) disk.may_leave new.may_leave)) named
          crash) rose
