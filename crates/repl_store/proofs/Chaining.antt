-- How the parts of a store's call come one after another.
use Rattle.std.proofs.Common.{◌≡◌, ℕ, Result, Err, OnOk, sym, ◌∙◌, subst}
use Rattle.repl_effects.specs.Counts.{Rose, Stood}
use Rattle.repl_disk.specs.Moments.{joined, weakened}
use Rattle.repl_disk.specs.State.{DiskState}
use Rattle.repl_store.specs.Backing.{Backs, Comes, LeavesOne, State}
use Rattle.repl_store.specs.Durable.{Durable, StandsFor}
use Rattle.repl_store.specs.Head.{Head}
use Rattle.repl_store.specs.declared.fault.StoreFault.{StoreFault}
use Rattle.repl_store.specs.declared.fault.StoreFault.TheVariants as fault

-- more states may be left
pub moments_more : (old new : DiskState) (size : ℕ) (few many : Durable → Type 0) → ((d : Durable) → few d → many d)
    → LeavesOne old new size few → LeavesOne old new size many
moments_more old new size few many more so_far =
    weakened old new (λ image. (d : Durable) × few d × StandsFor size image d) (λ image. (d : Durable) × many d × StandsFor size image d)
    so_far (λ image one. (one.0, more one.0 one.1, one.2))

-- a refusal of a part is one of the whole
pub refused_on : (first second : Result (Unit {0}) StoreFault) (f : StoreFault) (old new : DiskState) (head : Head)
    (few many : Durable → Type 0) (done later : State) (some others : State → Type 0) → first ≡ Err f → second ≡ Err f
    → ((d : Durable) → few d → many d) → ((t : State) → some t → others t) → Comes first old new head few done some
    → Comes second old new head many later others
refused_on first second f old new head few many done later some others one two more wider comes = record {
  moments = moments_more old new head.size few many more comes.moments;
  ok = subst (λ (r : Result (Unit {0}) StoreFault). OnOk r (Backs new head later)) (sym two) tt;
  no_memory = λ same. let t = comes.no_memory (one ∙ sym two ∙ same) in (t.0, wider t.0 t.1, t.2);
  failed = λ same. comes.failed (one ∙ sym two ∙ same);
}

-- no memory, and the store as it is in this state
pub wanted_comes : (result : Result (Unit {0}) StoreFault) (old new : DiskState) (head : Head) (column : Durable → Type 0)
    (done : State) (some : State → Type 0) (t : State) → result ≡ Err fault.Memory → LeavesOne old new head.size column → some t
    → Backs new head t → Comes result old new head column done some
wanted_comes result old new head column done some t is moments one backs = record {
  moments = moments;
  ok = subst (λ (r : Result (Unit {0}) StoreFault). OnOk r (Backs new head done)) (sym is) tt;
  no_memory = λ same. (t, one, backs);
  failed = λ same. let clash : (Err fault.Memory) ≡ (Err fault.DiskFault) = sym is ∙ same in absurd cc;
}

-- a part after others that are done
pub comes_after : (result : Result (Unit {0}) StoreFault) (old mid new : DiskState) (before head : Head) (column : Durable → Type 0)
    (done : State) (some : State → Type 0) → LeavesOne old mid before.size column → head.size ≡ before.size
    → Stood old.faults mid.faults → Comes result mid new head column done some → Comes result old new head column done some
comes_after result old mid new before head column done some so_far same stood comes = record {
  moments = joined old mid new (λ image. (d : Durable) × column d × StandsFor head.size image d)
      (subst (λ (n : ℕ). LeavesOne old mid n column) (sym same) so_far) comes.moments;
  ok = comes.ok;
  no_memory = comes.no_memory;
  failed = λ is. subst (λ (n : ℕ). Rose n new.faults) stood (comes.failed is);
}

-- what the whole does is what its last part does
pub comes_as : (result : Result (Unit {0}) StoreFault) (old new : DiskState) (head : Head) (few many : Durable → Type 0)
    (done later : State) (some others : State → Type 0) → ((d : Durable) → few d → many d) → done ≡ later
    → ((t : State) → some t → others t) → Comes result old new head few done some → Comes result old new head many later others
comes_as result old new head few many done later some others more same wider comes = record {
  moments = moments_more old new head.size few many more comes.moments;
  ok = subst (λ (x : State). OnOk result (Backs new head x)) same comes.ok;
  no_memory = λ is. let t = comes.no_memory is in (t.0, wider t.0 t.1, t.2);
  failed = comes.failed;
}
