-- A log begins to run where it was made or mounted.
use Rattle.std.proofs.Common.{◌≡◌, ℕ, ◌+◌, ◌-◌, ◌%◌, List, [], length, replicate, sym, ap, ◌∙◌, subst, arith, length-append, length-drop}
use Rattle.std.proofs.Math.Nat.{div-mul-le_self}
use Rattle.std.proofs.lemmas.List.{drop_all, length-replicate, take_all}
use Rattle.repl_control.specs.Control.{IsControl}
use Rattle.repl_control.specs.declared.control.Control.{Control}
use Rattle.repl_walk.proofs.Walks.{begun_at_end, walked_whole}
use Rattle.repl_walk.specs.Walks.{HasWalked}
use Rattle.repl_lsn.specs.Segment.{IsSegSize}
use Rattle.repl_page.specs.declared.ident.Ident.{Ident}
use Rattle.repl_record.proofs.LogChains.{same_last}
use Rattle.repl_record.specs.Log.{IsWholeEnd, RecordEnd, origin}
use Rattle.repl_record.specs.Walker.{Stands, identity, last_end, last_start}
use Rattle.repl_record.specs.declared.walker.Walker.{Walker}
use Rattle.repl_store.specs.Backing.{log}
use Rattle.repl_store.specs.Head.{Head, IsHead, status_of}
use Rattle.repl_store.specs.declared.store.StoreStatus.{StoreStatus}
use Rattle.repl_wal.specs.Holding.{Runs}
use Rattle.repl_wal.specs.Making.{BeginsAs}
use Rattle.repl_wal.specs.State.{LogState, floor_of, flushed_end, ident_of, last_start as start_kept, tail_of, timeline_of, whole_end, written_end}

-- the store has such a state
pub some_bytes : (head : Head) → IsHead head → head.control.floor + length {A = ℕ} (replicate (head.control.flushed - head.control.floor) 0) ≡ head.control.flushed
some_bytes head is =
    let below = div-mul-le_self head.control.whole head.size in
    omega (arith, length-replicate {A = ℕ} (head.control.flushed - head.control.floor) 0, is.right.floor.2, is.right.whole.2, below)

-- a walker that has gone through what is flushed past the whole end, and found no further record
pub fresh_runs : (head : Head) (w : Walker) (n : LogState) → IsSegSize head.size → IsControl head.size head.control → head.written ≡ head.control.flushed
    → BeginsAs head n
    → identity w ≡ ident_of n → HasWalked w (timeline_of n) (whole_end n) (start_kept n) (tail_of n) → last_end w ≡ whole_end n → Runs head w n
fresh_runs head w n size_is right written begins of_log walked ends =
    let d = n.kept.durable in
    let flushed : head.control.flushed ≡ flushed_end n = ap (λ (k : Control). k.flushed) begins.control in
    let whole : head.control.whole ≡ whole_end n = ap (λ (k : Control). k.whole) begins.control in
    let floor : head.control.floor ≡ floor_of n = ap (λ (k : Control). k.floor) begins.control in
    let none : length n.kept.unflushed ≡ 0 = ap length begins.flushed in
    let all : written_end n ≡ flushed_end n = omega (arith, none) in
    let below = div-mul-le_self head.control.whole head.size in
    let long : whole_end n + length (tail_of n) ≡ flushed_end n = omega (
      arith,
      length-drop (whole_end n - floor_of n) (log n.kept),
      length-append d.bytes n.kept.unflushed,
      none,
      begins.counted,
      right.floor.2,
      right.whole.2,
      below,
      flushed,
      whole,
      floor,
    ) in
    let size : IsSegSize (identity w).size = subst IsSegSize (sym (ap (λ (i : Ident). i.size) of_log ∙ sym begins.size)) size_is in
    let eight : whole_end n % 8 ≡ 0 = subst (λ (e : ℕ). e % 8 ≡ 0) whole right.whole.0 in
    let records : RecordEnd (identity w) (timeline_of n) (whole_end n) (start_kept n) (tail_of n) (whole_end n) (last_start w) =
    subst (λ (e : ℕ). RecordEnd (identity w) (timeline_of n) (whole_end n) (start_kept n) (tail_of n) e (last_start w)) ends walked.records in
    let last : last_start w ≡ start_kept n = same_last (identity w) (timeline_of n) (whole_end n) (start_kept n) (tail_of n) (whole_end n)
    (last_start w) (start_kept n) size eight records origin in
    let greatest = walked_whole w (timeline_of n) (whole_end n) (start_kept n) (tail_of n) size walked in
    let As : Ident → List ℕ → ℕ → ℕ → Type 0 = λ i. λ l. λ e. λ b. IsWholeEnd i (timeline_of n) (whole_end n) (start_kept n) l e b in
    let here : As (ident_of n) (tail_of n) (whole_end n) (start_kept n) = subst (λ (b : ℕ). As (ident_of n) (tail_of n) (whole_end n) b) last
    (subst (λ (e : ℕ). As (ident_of n) (tail_of n) e (last_start w)) ends (subst (λ (i : Ident). As i (tail_of n) (last_end w) (last_start w)) of_log
    greatest)) in
    record {
      size = begins.size;
      control = begins.control;
      path = begins.path;
      written = written ∙ flushed ∙ sym all;
      counted = begins.counted;
      of_log = of_log;
      walked = walked;
      unended = subst (λ (l : List ℕ). As (ident_of n) l (whole_end n) (start_kept n)) (sym (take_all (flushed_end n - whole_end n) (tail_of n)
          (omega (arith, long)))) here;
      primary = λ primary. (
          let same : head.control.flushed ≡ head.control.whole = right.primary (ap (λ (k : Control). k.role) begins.control ∙ primary) in
          omega (arith, ends, whole, flushed, all, same));
    }

-- where nothing is flushed past the whole end, a new walker has gone through that
pub begun_runs : (head : Head) (w : Walker) (n : LogState) (status : StoreStatus) → IsSegSize head.size → IsControl head.size head.control
    → head.written ≡ head.control.flushed → head.control.whole ≡ head.control.flushed → BeginsAs head n → status ≡ status_of head
    → ((timeline : ℕ → ℕ) → Stands w timeline status.whole status.prev []) → identity w ≡ status.ident → Runs head w n
begun_runs head w n status size_is right written no_more begins told stands of_log =
    let flushed : head.control.flushed ≡ flushed_end n = ap (λ (k : Control). k.flushed) begins.control in
    let whole : head.control.whole ≡ whole_end n = ap (λ (k : Control). k.whole) begins.control in
    let floor : head.control.floor ≡ floor_of n = ap (λ (k : Control). k.floor) begins.control in
    let told_whole : status.whole ≡ whole_end n = ap (λ (s : StoreStatus). s.whole) told ∙ whole in
    let told_prev : status.prev ≡ start_kept n = ap (λ (s : StoreStatus). s.prev) told ∙ ap (λ (k : Control). k.prev) begins.control in
    let none : length n.kept.unflushed ≡ 0 = ap length begins.flushed in
    let below = div-mul-le_self head.control.whole head.size in
    let empty : tail_of n ≡ [] = drop_all (whole_end n - floor_of n) (log n.kept) (omega (
      arith,
      length-append n.kept.durable.bytes n.kept.unflushed,
      none,
      begins.counted,
      no_more,
      flushed,
      whole,
      floor,
      right.floor.2,
      below,
    )) in
    let identified : identity w ≡ ident_of n = of_log
    ∙ ap (λ (s : StoreStatus). s.ident) told
    ∙ ap (λ (k : Control). record { sysid = k.sysid; magic = k.magic; size = head.size }) begins.control
    ∙ ap (λ (k : ℕ). record { sysid = n.kept.durable.control.sysid; magic = n.kept.durable.control.magic; size = k }) begins.size in
    let stood : Stands w (timeline_of n) (whole_end n) (start_kept n) [] = subst (λ (b : ℕ). Stands w (timeline_of n) (whole_end n) b []) told_prev
    (subst (λ (a : ℕ). Stands w (timeline_of n) a status.prev []) told_whole (stands (timeline_of n))) in
    let eight : whole_end n % 8 ≡ 0 = subst (λ (e : ℕ). e % 8 ≡ 0) whole right.whole.0 in
    let end : whole_end n ≡ whole_end n + length (tail_of n) = omega (arith, ap length empty) in
    let walked : HasWalked w (timeline_of n) (whole_end n) (start_kept n) (tail_of n) = begun_at_end w (timeline_of n) (whole_end n) (start_kept n)
    (tail_of n) (start_kept n) eight (subst (λ (e : ℕ). RecordEnd (identity w) (timeline_of n) (whole_end n) (start_kept n) (tail_of n) e
    (start_kept n)) end origin) (subst (λ (a : ℕ). Stands w (timeline_of n) a (start_kept n) []) end stood) in
    fresh_runs head w n size_is right written begins identified walked stood.keeps.begins
