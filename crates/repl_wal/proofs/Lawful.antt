-- A log that runs is right.
use Rattle.std.proofs.Common.{ℕ, sym, ap, ◌∙◌, subst}
use Rattle.repl_control.specs.Control.{FitsFields, IsControl}
use Rattle.repl_control.specs.declared.control.Control.{Control}
use Rattle.repl_walk.proofs.Walks.{walked_prefix}
use Rattle.repl_lsn.specs.Between.{AreBetween}
use Rattle.repl_lsn.specs.History.{IsPath, Path}
use Rattle.repl_page.specs.declared.ident.Ident.{Ident}
use Rattle.repl_record.specs.Log.{IsPrefixOfRecords}
use Rattle.repl_record.specs.Walker.{last_start}
use Rattle.repl_record.specs.declared.walker.Walker.{Walker}
use Rattle.repl_store.specs.Head.{Head, IsHead}
use Rattle.repl_wal.specs.Holding.{Runs}
use Rattle.repl_wal.specs.State.{EndsRecord, IsLog, LogState, last_start as start_kept, tail_of, timeline_of, whole_end}
use Rattle.repl_wal.proofs.Running.{marks, walked_last}

pub is_log : (head : Head) (w : Walker) (n : LogState) → IsHead head → Runs head w n → IsLog n
is_log head w n is runs =
    let m = marks head w n is runs in
    let Right : ℕ → Control → Type 0 = λ k. λ c. IsControl k c in
    let Between : ℕ → Control → Path → Type 0 = λ k. λ c. λ p. AreBetween k c.whole p.parents in
    let between : Between n.size n.kept.durable.control n.kept.durable.path = subst (Between n.size n.kept.durable.control) runs.path
    (subst (λ (c : Control). Between n.size c head.path) runs.control (subst (λ (k : ℕ). Between k head.control head.path) runs.size is.between)) in
    record {
      size = m.size;
      right = subst (Right n.size) runs.control (subst (λ (k : ℕ). Right k head.control) runs.size is.right);
      fits = subst FitsFields runs.control is.fits;
      is_path = subst IsPath runs.path is.is_path;
      own = ap (λ (p : Path). p.own) (sym runs.path) ∙ is.own ∙ ap (λ (c : Control). c.tli) runs.control;
      between = between;
      counted = runs.counted;
      limit = m.limit;
      unended = runs.unended;
      records = subst (λ (i : Ident). IsPrefixOfRecords i (timeline_of n) (whole_end n) (start_kept n) (tail_of n)) runs.of_log (walked_prefix w
          (timeline_of n) (whole_end n) (start_kept n) (tail_of n) runs.walked);
      primary = λ primary. (
        last_start w,
        subst (λ (e : ℕ). EndsRecord n e (last_start w)) (runs.primary primary) (walked_last head w n is runs).is_end,
      );
    }
