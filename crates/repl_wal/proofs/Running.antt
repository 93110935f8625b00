-- What a log has in memory through a call.
use Rattle.std.proofs.Common.{◌≡◌, ℕ, ◌+◌, ◌-◌, ◌*◌, ◌/◌, ◌%◌, ◌^◌, ◌<◌, ◌≤◌, List, length, take, drop, sym, ap, ◌∙◌, subst, arith, append-nil, length-append, length-drop}
use Rattle.std.proofs.Math.Nat.{div-mul-le_self, mul-le-mul_right}
use Rattle.std.proofs.lemmas.List.{drop-drop, take_all}
use Rattle.std.proofs.lemmas.Nat.{le-div}
use Rattle.repl_control.specs.Control.{IsControl}
use Rattle.repl_control.specs.declared.control.Control.{Control}
use Rattle.repl_control.specs.declared.control.Role.{Role}
use Rattle.repl_control.specs.declared.control.Role.TheVariants.{Primary}
use Rattle.repl_walk.proofs.Ends.{ends_within}
use Rattle.repl_walk.proofs.Walks.{from_its_end, walked_whole}
use Rattle.repl_walk.specs.Walks.{HasWalked}
use Rattle.repl_lsn.specs.Between.{AreBetween}
use Rattle.repl_lsn.specs.Segment.{IsSegSize}
use Rattle.repl_lsn.specs.declared.history.Part.{Part}
use Rattle.repl_page.specs.declared.ident.Ident.{Ident}
use Rattle.repl_record.proofs.LogEnds.{from_le}
use Rattle.repl_record.specs.Log.{IsWholeEnd}
use Rattle.repl_record.specs.Walker.{identity, last_end, last_start, position}
use Rattle.repl_record.specs.declared.walker.Walker.{Walker}
use Rattle.repl_store.specs.Backing.{CanFlush, flushed_control, log}
use Rattle.repl_store.specs.Head.{Head, IsAt, IsHead, Stands}
use Rattle.repl_wal.specs.Holding.{Runs}
use Rattle.repl_wal.specs.State.{EndsLast, LogState, floor_of, flushed_end, flushed_log, ident_of, last_start as start_kept, tail_of, timeline_of, whole_end, written_end}
use Rattle.repl_wal.proofs.Marks.{one_greatest, starts_before}

-- ---- numbers

-- what holds of every log that runs, in numbers
pub record Marks (head : Head) (w : Walker) (n : LogState) : Type 0 where
  pub size : IsSegSize n.size
  pub origin : n.size ≤ floor_of n
  pub floor : floor_of n ≤ whole_end n
  pub flushed : whole_end n ≤ flushed_end n
  pub prev : start_kept n < whole_end n
  pub eight : whole_end n % 8 ≡ 0
  pub after : whole_end n ≤ last_end w
  pub within : last_end w ≤ written_end n
  pub rounded : last_end w % 8 ≡ 0
  pub starts : last_start w < last_end w
  pub counted : whole_end n + length (tail_of n) ≡ written_end n
  pub limit : written_end n ≤ 2 ^ 63
  pub position : position w ≡ written_end n

pub marks : (head : Head) (w : Walker) (n : LogState) → IsHead head → Runs head w n → Marks head w n
marks head w n is runs =
    let right : IsControl n.size n.kept.durable.control = subst (λ (k : ℕ). IsControl k n.kept.durable.control) runs.size
    (subst (IsControl head.size) runs.control is.right) in
    let size : IsSegSize n.size = subst IsSegSize runs.size is.size in
    let ident : Ident = ident_of n in
    let below = div-mul-le_self (whole_end n) n.size in
    let floor : floor_of n ≤ whole_end n = omega (arith, right.floor.2, below) in
    let count : whole_end n + length (tail_of n) ≡ written_end n = omega (
      arith,
      floor,
      runs.counted,
      right.whole.2,
      length-drop (whole_end n - floor_of n) (log n.kept),
      length-append n.kept.durable.bytes n.kept.unflushed,
    ) in
    let records = runs.walked.records in
    let after = from_le (identity w) (timeline_of n) (whole_end n) (start_kept n) (tail_of n) (last_end w) (last_start w) records in
    let inside = ends_within (identity w) (timeline_of n) (whole_end n) (start_kept n) (tail_of n) (last_end w) (last_start w) records in
    let same : (identity w).size ≡ n.size = ap (λ (i : Ident). i.size) runs.of_log in
    let starts = starts_before (identity w) (timeline_of n) (whole_end n) (start_kept n) (tail_of n) (last_end w) (last_start w)
    (subst IsSegSize (sym same) size) right.prev records in
    record {
      size = size;
      origin = right.floor.1;
      floor = floor;
      flushed = right.whole.2;
      prev = right.prev;
      eight = right.whole.0;
      after = after;
      within = omega (arith, inside, count);
      rounded = runs.walked.stands.keeps.aligned;
      starts = starts;
      counted = count;
      limit = omega (arith, is.written, runs.written);
      position = omega (arith, runs.walked.stands.keeps.past, length-drop (last_end w - whole_end n) (tail_of n), after, inside, count);
    }

-- ---- the greatest record end

pub walked_last : (head : Head) (w : Walker) (n : LogState) → IsHead head → Runs head w n → EndsLast n (last_end w) (last_start w)
walked_last head w n is runs =
    let size : IsSegSize n.size = subst IsSegSize runs.size is.size in
    let same : (identity w).size ≡ n.size = ap (λ (i : Ident). i.size) runs.of_log in
    subst (λ (i : Ident). IsWholeEnd i (timeline_of n) (whole_end n) (start_kept n) (tail_of n) (last_end w) (last_start w)) runs.of_log
    (walked_whole w (timeline_of n) (whole_end n) (start_kept n) (tail_of n) (subst IsSegSize (sym same) size) runs.walked)

-- ---- a flush

between_on : (least most more : ℕ) (parts : List Part) → most ≤ more → AreBetween least most parts → AreBetween least more parts
between_on least most more parts later are = λ k d inside. (let at = are k d inside in (at.0, omega (arith, at.1, later)))

pub can_flush : (head : Head) (w : Walker) (n : LogState) (role : Role) → IsHead head → Runs head w n
    → (role ≡ Primary → last_end w ≡ written_end n) → CanFlush head role (last_end w) (last_start w)
can_flush head w n role is runs ends =
    let m = marks head w n is runs in
    let same : head.control.whole ≡ whole_end n = ap (λ (c : Control). c.whole) runs.control in
    let rows : head.control.whole / head.size * head.size ≤ last_end w / head.size * head.size =
    mul-le-mul_right head.size (le-div (head.control.whole / head.size) (last_end w) head.size (omega (arith, is.size.least))
    (omega (arith, div-mul-le_self head.control.whole head.size, m.after, same))) in (
      record {
        flushed = (omega (arith, is.right.flushed.0, is.flushed, is.synced), is.written);
        whole = (m.rounded, omega (arith, is.right.whole.1, m.after, same), omega (arith, m.within, runs.written));
        floor = (is.right.floor.0, is.right.floor.1, omega (arith, is.right.floor.2, rows));
        prev = m.starts;
        primary = λ primary. omega (arith, ends primary, runs.written);
      },
      between_on head.size head.control.whole (last_end w) head.path.parents (omega (arith, m.after, same)) is.between,
    )

-- the log past the new whole end
flush_tail : (n : LogState) (role : Role) (end last : ℕ) → floor_of n ≤ whole_end n → whole_end n ≤ end
    → tail_of (flushed_log n role end last) ≡ drop (end - whole_end n) (tail_of n)
flush_tail n role end last floor after =
    let way : (whole_end n - floor_of n) + (end - whole_end n) ≡ end - floor_of n = omega (arith, floor, after) in
    ap (drop (end - floor_of n)) (append-nil (log n.kept))
    ∙ sym (drop-drop (end - whole_end n) (whole_end n - floor_of n) (log n.kept) ∙ ap (λ (k : ℕ). drop k (log n.kept)) (omega (arith, way)))

pub flushed_runs : (head new : Head) (w : Walker) (n : LogState) (role : Role) → IsHead head → Runs head w n
    → (role ≡ Primary → last_end w ≡ written_end n)
    → Stands new head.size (flushed_control head.control role head.written (last_end w) (last_start w)) head.path head.written
    → Runs new w (flushed_log n role (last_end w) (last_start w))
flushed_runs head new w n role is runs ends stands =
    let m = marks head w n is runs in
    let end = last_end w in
    let last = last_start w in
    let after = flushed_log n role end last in
    let tail : tail_of after ≡ drop (end - whole_end n) (tail_of n) = flush_tail n role end last m.floor m.after in
    let walked : HasWalked w (timeline_of n) end last (tail_of after) = subst (HasWalked w (timeline_of n) end last) (sym tail)
    (from_its_end w (timeline_of n) (whole_end n) (start_kept n) (tail_of n) runs.walked) in
    let size : IsSegSize (identity w).size = subst IsSegSize (sym (ap (λ (i : Ident). i.size) runs.of_log)) m.size in
    let whole : IsWholeEnd (identity w) (timeline_of n) end last (tail_of after) end last = walked_whole w (timeline_of n) end last (tail_of after)
    size walked in
    let all : take (written_end n - end) (tail_of after) ≡ tail_of after = take_all (written_end n - end) (tail_of after) (omega (
      arith,
      ap length tail,
      length-drop (end - whole_end n) (tail_of n),
      m.counted,
      m.after,
      m.within,
    )) in
    record {
      size = stands.same_size ∙ runs.size;
      control = stands.same_control
          ∙ ap (λ (c : Control). flushed_control c role head.written end last) runs.control
          ∙ ap (λ (x : ℕ). flushed_control n.kept.durable.control role x end last) runs.written;
      path = stands.same_path ∙ runs.path;
      written = stands.same_end ∙ runs.written ∙ sym (omega arith);
      counted = omega (arith, runs.counted, length-append n.kept.durable.bytes n.kept.unflushed);
      of_log = runs.of_log;
      walked = walked;
      unended = subst (λ (i : Ident). IsWholeEnd i (timeline_of n) end last (take (written_end n - end) (tail_of after)) end last) runs.of_log
          (subst (λ (l : List ℕ). IsWholeEnd (identity w) (timeline_of n) end last l end last) (sym all) whole);
      primary = λ primary. ends primary ∙ sym (omega arith);
    }

-- a store that may have synced more is the same log's
pub still_runs : (head new : Head) (w : Walker) (n : LogState) → Runs head w n → IsAt head new head.written → Runs new w n
still_runs head new w n runs same = record {
  size = same.same_size ∙ runs.size;
  control = same.same_control ∙ runs.control;
  path = same.same_path ∙ runs.path;
  written = same.same_end ∙ runs.written;
  counted = runs.counted;
  of_log = runs.of_log;
  walked = runs.walked;
  unended = runs.unended;
  primary = runs.primary;
}

-- nothing that is not flushed is written: the whole end is the greatest record end
pub nothing_new : (head : Head) (w : Walker) (n : LogState) → IsHead head → Runs head w n → written_end n ≡ flushed_end n
    → (last_end w ≡ whole_end n) × (last_start w ≡ start_kept n)
nothing_new head w n is runs same =
    let m = marks head w n is runs in
    let all : take (flushed_end n - whole_end n) (tail_of n) ≡ tail_of n = take_all (flushed_end n - whole_end n) (tail_of n) (omega (
      arith,
      m.counted,
      same,
      m.flushed,
    )) in
    one_greatest (ident_of n) (timeline_of n) (whole_end n) (start_kept n) (tail_of n) (whole_end n) (start_kept n) (last_end w) (last_start w)
    m.size m.eight
    (subst (λ (l : List ℕ). IsWholeEnd (ident_of n) (timeline_of n) (whole_end n) (start_kept n) l (whole_end n) (start_kept n)) all
    runs.unended) (walked_last head w n is runs)
