-- How a disk goes on backing a store: where nothing happened, under another head, and where what was appended is forgotten.
use Rattle.std.proofs.Common.{
  ◌≡◌,
  ℕ,
  ◌+◌,
  ◌-◌,
  ◌*◌,
  ◌/◌,
  ◌%◌,
  ◌<◌,
  ◌≤◌,
  min,
  true,
  false,
  eqb,
  eq-eqb,
  List,
  ◌++◌,
  length,
  take,
  Option,
  Some,
  append_assoc,
  sym,
  ap,
  ◌∙◌,
  subst,
  ⊎_elim,
  arith,
  length-append,
}
use Rattle.std.proofs.lemmas.List.{take-append-le, take-take}
use Rattle.std.proofs.lemmas.Bool.{cases_lt}
use Rattle.std.proofs.lemmas.Nat.{mod-mul-add}
use Rattle.repl_control.specs.declared.control.Control.{Control}
use Rattle.repl_disk.specs.Crash.{NoneNew}
use Rattle.repl_disk.specs.Folder.{Folder, Stayed}
use Rattle.repl_disk.specs.State.{DiskState}
use Rattle.repl_lsn.specs.History.{Path}
use Rattle.repl_store.specs.Backing.{Backs, State, appended, log}
use Rattle.repl_store.specs.Durable.{Carries, segment_file}
use Rattle.repl_store.specs.Head.{Head, IsAt, IsHead}
use Rattle.repl_store.specs.Tail.{IsReady, KeepsEnds, PutsBack}
use Rattle.repl_store.proofs.Carrying.{carries_front, carries_take}
use Rattle.repl_store.proofs.Names.{segment_of_later}

-- a call that changed no file, and left no image that is new
pub backs_still : (old new : DiskState) (head : Head) (s : State) → Stayed old.files new.files → NoneNew old.may_leave new.may_leave
    → Backs old head s → Backs new head s
backs_still old new head s stayed none_new backs = record {
  folder = backs.folder;
  told = stayed ∙ backs.told;
  control = backs.control;
  path = backs.path;
  counted = backs.counted;
  written = backs.written;
  reads = backs.reads;
  images = λ image left. backs.images image (none_new image left);
}

-- ---- what is the same of the head and of what it stands for

module _ (disk : DiskState) (head : Head) (s : State) (backs : Backs disk head s) where
  pub own_carries : (folder : Folder) (bytes : List ℕ) → Carries head.size folder head.path head.control.floor bytes
      → Carries head.size folder s.durable.path s.durable.control.floor bytes
  own_carries folder bytes h = subst (λ (p : Path). Carries head.size folder p s.durable.control.floor bytes) (sym backs.path)
      (subst (λ (c : Control). Carries head.size folder head.path c.floor bytes) (sym backs.control) h)

  pub head_carries : (folder : Folder) (bytes : List ℕ) → Carries head.size folder s.durable.path s.durable.control.floor bytes
      → Carries head.size folder head.path head.control.floor bytes
  head_carries folder bytes h = subst (λ (p : Path). Carries head.size folder p head.control.floor bytes) backs.path
      (subst (λ (c : Control). Carries head.size folder s.durable.path c.floor bytes) backs.control h)

  -- the log ends where was written
  pub log_end : head.control.floor + length (log s) ≡ head.written
  log_end = omega (arith, length-append s.durable.bytes s.unflushed, backs.counted, backs.written)

-- ---- another head

-- a head with other ends
abbrev pub with_ends : Head → ℕ → ℕ → Option (List ℕ) → Head
with_ends head written synced unsynced = record {
  size = head.size;
  control = head.control;
  path = head.path;
  written = written;
  synced = synced;
  unsynced = unsynced;
}

pub ends_are : (head other : Head) (written synced : ℕ) → IsAt head other written → other.synced ≡ synced
    → other ≡ with_ends head written synced other.unsynced
ends_are head other written synced at is = λ i. record {
  size = at.same_size i;
  control = at.same_control i;
  path = at.same_path i;
  written = at.same_end i;
  synced = is i;
  unsynced = other.unsynced;
}

-- the numbers differ, as those of another head that are the same
pub apart_by : (a b x y : ℕ) → a ≡ x → b ≡ y → false ≡ eqb a b → x ≡ y → ⊥
apart_by a b x y first second test same =
    let clash : false ≡ true = test ∙ eq-eqb a b (first ∙ same ∙ sym second) in
    cc

pub below_by : (a b : ℕ) → a ≤ b → (a ≡ b → ⊥) → a < b
below_by a b le apart = ⊎_elim (λ (l : a < b). l) (λ (l : b ≤ a). absurd (apart (omega arith))) (cases_lt a b)

pub some_same : (a b : List ℕ) → Some a ≡ Some b → a ≡ b
some_same a b same = cc

-- the name of the file does not matter
pub backs_named : (disk : DiskState) (head : Head) (s : State) (name : Option (List ℕ)) → Backs disk head s
    → Backs disk (with_ends head head.written head.synced name) s
backs_named disk head s name backs = record {
  folder = backs.folder;
  told = backs.told;
  control = backs.control;
  path = backs.path;
  counted = backs.counted;
  written = backs.written;
  reads = backs.reads;
  images = λ image left. record { stands = (backs.images image left).stands; synced = (backs.images image left).synced };
}

-- ---- what was appended is forgotten

-- the first bytes of so many that a few more follow
front_of : (m n : ℕ) (xs ys : List ℕ) → n ≤ m → n ≤ length xs → take n (take m (xs ++ ys)) ≡ take n xs
front_of m n xs ys le short = take-take n m (xs ++ ys) le ∙ take-append-le n xs ys short

pub backs_less : (disk : DiskState) (head : Head) (s : State) (more : List ℕ) (written : ℕ) (name : Option (List ℕ))
    → Backs disk head (appended s more) → head.control.flushed + length s.unflushed ≡ written
    → Backs disk (with_ends head written (min head.synced written) name) s
backs_less disk head s more written name backs ends = record {
  folder = backs.folder;
  told = backs.told;
  control = backs.control;
  path = backs.path;
  counted = backs.counted;
  written = ends;
  reads = carries_front head.size head.path head.control.floor (log s) more backs.folder
      (subst (λ (bytes : List ℕ). Carries head.size backs.folder head.path head.control.floor bytes) (sym parts) backs.reads);
  images = λ image left. record {
    stands = (backs.images image left).stands;
    synced = subst (λ (bytes : List ℕ). Carries head.size image head.path head.control.floor bytes) fewer
        (carries_take head.size head.path head.control.floor (take (head.synced - head.control.floor) (log (appended s more))) image n
        (backs.images image left).synced);
  };
}
  where
    n : ℕ
    n = min head.synced written - head.control.floor

    parts : log s ++ more ≡ log (appended s more)
    parts = append_assoc s.durable.bytes s.unflushed more

    short : n ≤ length (log s)
    short = omega (arith, length-append s.durable.bytes s.unflushed, backs.counted)

    fewer : take n (take (head.synced - head.control.floor) (log (appended s more))) ≡ take n (log s)
    fewer = ap (λ (bytes : List ℕ). take n (take (head.synced - head.control.floor) bytes)) (sym parts)
        ∙ front_of (head.synced - head.control.floor) n (log s) more (omega arith) short

-- ---- the tail

-- bytes that are not synced stand in one file, whose name is there
pub tail_of : (head : Head) → IsHead head → (head.synced ≡ head.written → ⊥)
    → (head.unsynced ≡ Some (segment_file head.size head.path (head.synced / head.size)))
    × (head.written ≤ head.synced / head.size * head.size + head.size)
tail_of head is apart = ⊎_elim
    (λ (same : head.written ≡ head.synced). absurd (apart (sym same)))
    (λ (t : (head.unsynced ≡ Some (segment_file head.size head.path (head.synced / head.size)))
    × (head.written ≤ head.synced / head.size * head.size + head.size)). t)
    is.tail

end_of_segment : (size q : ℕ) → 0 < size → (q * size + size) % size ≡ 0
end_of_segment size q some = ap (λ x. x % size) (the_sum q) ∙ mod-mul-add (q + 1) size 0 some
  where
    the_sum : (k : ℕ) → k * size + size ≡ (k + 1) * size + 0
    the_sum k = omega arith

-- that file is the one in which the written end stands, unless the segment is full
pub ready_now : (head : Head) → IsHead head → (head.written % head.size ≡ 0 → head.synced ≡ head.written)
    → (head.synced ≡ head.written → ⊥) → IsReady head
ready_now head is full apart =
    let tail = tail_of head is apart in
    let some : 0 < head.size = omega (arith, is.size.least) in
    let below : head.written < head.synced / head.size * head.size + head.size = ⊎_elim
    (λ (l : head.written < head.synced / head.size * head.size + head.size). l)
    (λ (l : head.synced / head.size * head.size + head.size ≤ head.written).
    let end : head.written ≡ head.synced / head.size * head.size + head.size = omega (arith, tail.1) in
    absurd (apart (full (ap (λ x. x % head.size) end ∙ end_of_segment head.size (head.synced / head.size) some))))
    (cases_lt head.written (head.synced / head.size * head.size + head.size)) in
    let one : head.written / head.size ≡ head.synced / head.size =
    segment_of_later head.size head.synced head.written some is.synced below in
    record { named = tail.0 ∙ ap (λ q. Some (segment_file head.size head.path q)) (sym one); one = sym one }

-- the name of the file may change
pub backs_kept : (disk : DiskState) (head other : Head) (s : State) → KeepsEnds head other → Backs disk head s → Backs disk other s
backs_kept disk head other s kept backs = subst (λ (h : Head). Backs disk h s)
    (sym (ends_are head other head.written head.synced kept.0 kept.1)) (backs_named disk head s other.unsynced backs)

-- what was appended is forgotten
pub backs_back : (disk : DiskState) (head other : Head) (s : State) (more : List ℕ) (written : ℕ) → PutsBack head other written
    → head.control.flushed + length s.unflushed ≡ written → Backs disk head (appended s more) → Backs disk other s
backs_back disk head other s more written back ends backs = subst (λ (h : Head). Backs disk h s)
    (sym (ends_are head other written (min head.synced written) back.0 back.1))
    (backs_less disk head s more written other.unsynced backs ends)
