-- Want of memory is a failure.
use Rattle.std.proofs.Common.{refl, inl}
use Rattle.repl_store.specs.declared.fault.StoreFault.TheVariants as store
use Rattle.repl_wal.proofs.mount.walk_flushed.Goals as goal

pub returns-in-Err-clause-refused : goal.returns-in-Err-clause-refused
returns-in-Err-clause-refused g c = inl (store.Memory, refl, tt)
