-- Bytes are appended piece by piece: the store has a front of them.
use Rattle.std.proofs.Common.{
  ◌≡◌,
  ℕ,
  ◌+◌,
  ◌-◌,
  ◌≤◌,
  List,
  [],
  ◌++◌,
  length,
  take,
  drop,
  Ok,
  Err,
  append_assoc,
  refl,
  sym,
  ap,
  ◌∙◌,
  subst,
  arith,
}
use Rattle.std.proofs.lemmas.List.{append-nil, take_all}
use Rattle.std.proofs.Math.Seq.{take-add}
use Rattle.repl_control.specs.declared.control.Control.{Control}
use Rattle.repl_disk.specs.Folder.{Folder}
use Rattle.repl_disk.specs.Moments.{started}
use Rattle.repl_disk.specs.State.{DiskState}
use Rattle.repl_store.specs.Backing.{Backs, Before, Comes, LeavesOne, State, appended}
use Rattle.repl_store.specs.Durable.{Durable, StandsFor}
use Rattle.repl_store.specs.Head.{Head, IsAt}
use Rattle.repl_store.specs.Tail.{PutsBack, SomeAppended}
use Rattle.repl_store.specs.declared.fault.StoreFault.{StoreFault}
use Rattle.repl_store.proofs.Backed.{backs_back}
use Rattle.repl_store.proofs.Chaining.{comes_after}
use Rattle.repl_store.proofs.Turns.{done_comes}

-- so many of the bytes are appended, and a crash since then leaves what is flushed
pub record Reached (old new : DiskState) (head : Head) (s : State) (bytes : List ℕ) (n : ℕ) : Type 0 where
  pub moments : LeavesOne old new head.size (Before s)
  pub backs : Backs new head (appended s (take n bytes))

-- without a call a crash leaves what is flushed
pub idle : (disk : DiskState) (head : Head) (s : State) → ((image : Folder) → disk.left_since disk.moment image → disk.may_leave image)
    → Backs disk head s → LeavesOne disk disk head.size (Before s)
idle disk head s only_now backs = started disk (λ image. (d : Durable) × Before s d × StandsFor head.size image d)
    (λ image left. (s.durable, refl, (backs.images image (only_now image left)).stands))

-- a state with these bytes after it
with_bytes : (s : State) (a b : List ℕ) → a ≡ b → appended s a ≡ appended s b
with_bytes s a b same = ap (appended s) same

appended-none : (s : State) → s ≡ appended s []
appended-none s = λ i. record { durable = s.durable; unflushed = sym (append-nil s.unflushed) i }

appended-appended : (s : State) (a b : List ℕ) → appended (appended s a) b ≡ appended s (a ++ b)
appended-appended s a b = λ i. record { durable = s.durable; unflushed = append_assoc s.unflushed a b i }

pub reached_none : (disk : DiskState) (head : Head) (s : State) (bytes : List ℕ)
    → ((image : Folder) → disk.left_since disk.moment image → disk.may_leave image) → Backs disk head s
    → Reached disk disk head s bytes 0
reached_none disk head s bytes only_now backs = record {
  moments = idle disk head s only_now backs;
  backs = subst (λ (t : State). Backs disk head t) (appended-none s) backs;
}

module _ (old mid new : DiskState) (before head : Head) (s : State) (bytes : List ℕ) (n : ℕ) (so_far : Reached old mid before s bytes n)
    (same : head.size ≡ before.size) where
  -- a piece more
  pub reached_more : (m : ℕ) (piece : List ℕ) (some : State → Type 0) → piece ≡ take (m - n) (drop n bytes) → n ≤ m
      → mid.faults ≡ old.faults
      → Comes {A = Unit {0}} (Ok tt) mid new head (Before (appended s (take n bytes))) (appended (appended s (take n bytes)) piece) some
      → Reached old new head s bytes m
  reached_more m piece some is le stood comes =
      let whole = comes_after (Ok tt) old mid new before head (Before s) (appended (appended s (take n bytes)) piece) some so_far.moments
      same stood comes in
      record {
        moments = whole.moments;
        backs = subst (λ (t : State). Backs new head t)
            (appended-appended s (take n bytes) piece
            ∙ with_bytes s (take n bytes ++ piece) (take m bytes)
            (ap (λ (p : List ℕ). take n bytes ++ p) is ∙ sym (take-add n (m - n) bytes) ∙ ap (λ (k : ℕ). take k bytes) (the_sum le)))
            comes.ok;
      }
    where
      the_sum : n ≤ m → n + (m - n) ≡ m
      the_sum below = omega arith

-- all of them
pub reached_all : (old new : DiskState) (head : Head) (s : State) (bytes : List ℕ) (n : ℕ) → length bytes ≤ n
    → Reached old new head s bytes n → Comes {A = Unit {0}} (Ok tt) old new head (Before s) (appended s bytes) (SomeAppended s)
reached_all old new head s bytes n all reached =
    done_comes tt old new head (Before s) (appended s bytes) (SomeAppended s) reached.moments
    (subst (λ (t : State). Backs new head t) (with_bytes s (take n bytes) bytes (take_all n bytes all)) reached.backs)

-- ---- the head

pub at_more : (a b c : Head) (m n : ℕ) → IsAt a b m → IsAt b c n → IsAt a c n
at_more a b c m n first second = record {
  same_size = second.same_size ∙ first.same_size;
  same_control = second.same_control ∙ first.same_control;
  same_path = second.same_path ∙ first.same_path;
  same_end = second.same_end;
}

-- ---- a refusal is put back

pub put_back_comes : (f : StoreFault) (old new : DiskState) (head mid last : Head) (s : State) (bytes : List ℕ) (written : ℕ)
    → IsAt head mid mid.written → PutsBack mid last written → head.written ≡ written → Backs old head s
    → Comes {A = Unit {0}} (Err f) old new mid (Before s) (appended s bytes) (SomeAppended s)
    → Comes {A = Unit {0}} (Err f) old new last (Before s) (appended s bytes) (λ t. t ≡ s)
put_back_comes f old new head mid last s bytes written at back end backs comes = record {
  moments = subst (λ (n : ℕ). LeavesOne old new n (Before s)) (sym back.0.same_size) comes.moments;
  ok = tt;
  no_memory = λ is.
      let t = comes.no_memory is in (
        s,
        refl,
        backs_back new mid last s t.1.0 written back ends (subst (λ (x : State). Backs new mid x) t.1.1 t.2),
      );
  failed = comes.failed;
}
  where
    ends : mid.control.flushed + length s.unflushed ≡ written
    ends = ap (λ (k : Control). k.flushed + length s.unflushed) at.same_control ∙ backs.written ∙ end
