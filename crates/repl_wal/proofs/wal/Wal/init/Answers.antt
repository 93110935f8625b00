-- The new store's log begins, and its files are known where the store's are.
use Rattle.std.proofs.Common.{[], refl, sym, subst, arith}
use Rattle.repl_control.specs.declared.control.TheConstants.{VERSION_1_SIZE}
use Rattle.repl_store.specs.Backing.{Backs, State}
use Rattle.repl_store.specs.Creating.{fresh}
use Rattle.repl_store.specs.Head.{Held}
use Rattle.repl_wal.specs.Making.{mounted_log, untold_log}
use Rattle.repl_wal.proofs.wal.Wal.init.Goals as goal

pub returns-in-Ok-clause-made : goal.returns-in-Ok-clause-made
returns-in-Ok-clause-made g c =
    let mounted = c.in-Ok.ensures.fresh.1 in
    c.begin.ensures.remembers (untold_log VERSION_1_SIZE (fresh c.args.role c.args.ident 1)) (record {
      size = mounted.same_size;
      control = mounted.same_control;
      path = mounted.same_path;
      counted = omega arith;
      flushed = refl;
      sound = refl;
    })

pub returns-in-Ok-clause-holds : goal.returns-in-Ok-clause-holds
returns-in-Ok-clause-holds g c known told images =
    let mounted = c.in-Ok.ensures.fresh.1 in
    let state = g.D.Disk.state in
    let kept : State = record { durable = fresh c.args.role c.args.ident known; unflushed = [] } in
    let remembers = c.begin.ensures.remembers (mounted_log VERSION_1_SIZE (fresh c.args.role c.args.ident known)) (record {
      size = mounted.same_size;
      control = mounted.same_control;
      path = mounted.same_path;
      counted = omega arith;
      flushed = refl;
      sound = refl;
    }) in
    let backs = c.in-Ok.ensures.backs known told images in
    record {
      remembers = remembers;
      backs = λ _ _. subst (λ (s : Held g.row.D.Denot). Backs (state s.disk) s.head kept) (sym c.begin.ensures.store) backs;
    }
