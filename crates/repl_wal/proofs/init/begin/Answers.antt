-- The log runs.
use Rattle.std.proofs.Common.{◌-◌, [], replicate, false, refl, inl}
use Rattle.repl_wal.specs.Making.{BeginsAs}
use Rattle.repl_wal.specs.State.{LogState}
use Rattle.repl_wal.proofs.Beginning.{begun_runs, some_bytes}
use Rattle.repl_wal.proofs.init.begin.Goals as goal

pub invariant_of-result : goal.invariant_of-result
invariant_of-result g c =
    let head = c.args.store.head in
    let right = c.status-status.ensures.right in
    let n : LogState = record {
      size = head.size;
      kept = record {
        durable = record {
          control = head.control;
          path = head.path;
          bytes = replicate (head.control.flushed - head.control.floor) 0;
          known = 0;
        };
        unflushed = [];
      };
      broken = false;
      told = false;
    } in
    let begins : BeginsAs head n = record {
      size = refl;
      control = refl;
      path = refl;
      counted = some_bytes head right;
      flushed = refl;
      sound = refl;
    } in (
      n,
      inl (
        refl,
        refl,
        c.requires.unbroken,
        begun_runs head c.new.result n c.status-status.result right.size right.right c.requires.written c.requires.whole begins
            c.status-status.ensures.told c.new.ensures.stands c.new.ensures.ident,
      ),
    )

pub returns-clause-remembers : goal.returns-clause-remembers
returns-clause-remembers g c n begins =
    inl (
      refl,
      begins.sound,
      c.requires.unbroken,
      begun_runs c.args.store.head c.new.result n c.status-status.result c.status-status.ensures.right.size
          c.status-status.ensures.right.right c.requires.written c.requires.whole begins c.status-status.ensures.told c.new.ensures.stands c.new.ensures.ident,
    )
