-- A floor that a trim raises is right, and the log goes on after it.
use Rattle.std.proofs.Common.{◌≡◌, ℕ, ◌+◌, ◌-◌, ◌*◌, ◌/◌, ◌%◌, ◌<◌, ◌≤◌, max, min, Option, Some, None, List, length, take, drop, sym, ap, ◌∙◌, subst, inl, inr, arith, length-drop}
use Rattle.std.proofs.Math.Nat.{div-mul-le_self, mod_self, mul-le-mul_right, mul-mod_left}
use Rattle.std.proofs.lemmas.Bool.{cases_lt}
use Rattle.std.proofs.lemmas.List.{drop-append-le, drop-drop}
use Rattle.std.proofs.lemmas.Nat.{le-div}
use Rattle.repl_control.specs.Control.{IsControl}
use Rattle.repl_control.specs.declared.control.Control.{Control}
use Rattle.repl_walk.specs.Walks.{HasWalked}
use Rattle.repl_record.specs.Log.{IsWholeEnd}
use Rattle.repl_record.specs.declared.walker.Walker.{Walker}
use Rattle.repl_store.specs.Backing.{CanRaise, log, raised_control}
use Rattle.repl_store.specs.Head.{Head, IsHead, Stands}
use Rattle.repl_wal.specs.Holding.{Runs}
use Rattle.repl_wal.specs.Keeping.{held_back, trimmed_floor}
use Rattle.repl_wal.specs.State.{LogState, floor_of, flushed_end, ident_of, last_start as start_kept, raised_log, tail_of, timeline_of, whole_end}
use Rattle.repl_wal.proofs.Running.{marks}

-- ---- the floor

of_max : (P : ℕ → Type 0) (a b : ℕ) → P a → P b → P (max a b)
of_max P a b pa pb =
    elim (cases_lt a b) [
      | inl below ↦ let same : b ≡ max a b = omega (arith, below) in subst P same pb
      | inr above ↦ let same : a ≡ max a b = omega (arith, above) in subst P same pa
    ]

held_low : (restart : Option ℕ) (at : ℕ) → held_back restart at ≤ at
held_low None at = omega arith
held_low (Some r) at = omega arith

-- a segment's start, at the origin or above, and not above the segment of the whole end
pub record IsRaised (size whole floor : ℕ) : Type 0 where
  pub segment : floor % size ≡ 0
  pub low : size ≤ floor
  pub high : floor ≤ whole / size * size

pub raised_right : (head : Head) (w : Walker) (n : LogState) (restart : Option ℕ) (keep : ℕ) → IsHead head → Runs head w n
    → (floor_of n ≤ trimmed_floor n restart keep) × IsRaised n.size (whole_end n) (trimmed_floor n restart keep)
raised_right head w n restart keep is runs =
    let m = marks head w n is runs in
    let right : IsControl n.size n.kept.durable.control = subst (λ (k : ℕ). IsControl k n.kept.durable.control) runs.size
    (subst (IsControl head.size) runs.control is.right) in
    let size = n.size in
    let whole = whole_end n in
    let at = held_back restart (min whole (flushed_end n - keep)) in
    let low : at ≤ whole = omega (arith, held_low restart (min whole (flushed_end n - keep))) in
    let some : 0 < size = omega (arith, m.size.least) in
    let below = div-mul-le_self at size in
    let rows : at / size * size ≤ whole / size * size = mul-le-mul_right size (le-div (at / size) whole size some (omega (arith, below, low))) in
    let Segment : ℕ → Type 0 = λ k. k % size ≡ 0 in
    let High : ℕ → Type 0 = λ k. k ≤ whole / size * size in
    let start = at / size * size in
    let origin : High size = omega (arith, right.floor.1, right.floor.2) in
    let second : Segment (max size start) = of_max Segment size start (mod_self size) (mul-mod_left (at / size) size) in
    let third : High (max size start) = of_max High size start origin rows in (
      omega arith,
      record {
        segment = of_max Segment (floor_of n) (max size start) right.floor.0 second;
        low = omega arith;
        high = of_max High (floor_of n) (max size start) right.floor.2 third;
      },
    )

pub can_raise : (head : Head) (w : Walker) (n : LogState) (restart : Option ℕ) (keep : ℕ) → IsHead head → Runs head w n
    → CanRaise head (trimmed_floor n restart keep)
can_raise head w n restart keep is runs =
    let found = raised_right head w n restart keep is runs in
    let raised = found.1 in
    let size : head.size ≡ n.size = runs.size in
    let floor : head.control.floor ≡ floor_of n = ap (λ (k : Control). k.floor) runs.control in
    let whole : head.control.whole ≡ whole_end n = ap (λ (k : Control). k.whole) runs.control in
    let here : IsRaised head.size head.control.whole (trimmed_floor n restart keep) = subst (λ (k : ℕ). IsRaised k head.control.whole (trimmed_floor n
    restart keep)) (sym size) (subst (λ (e : ℕ). IsRaised n.size e (trimmed_floor n restart keep)) (sym whole) raised) in (
      omega (arith, found.0, floor),
      record {
        flushed = is.right.flushed;
        whole = is.right.whole;
        floor = (here.segment, here.low, here.high);
        prev = is.right.prev;
        primary = is.right.primary;
      },
    )

-- ---- the log after it

raised_tail : (n : LogState) (floor : ℕ) → floor_of n ≤ floor → floor ≤ whole_end n → whole_end n ≤ flushed_end n
    → floor_of n + length n.kept.durable.bytes ≡ flushed_end n → tail_of (raised_log n floor) ≡ tail_of n
raised_tail n floor low high whole counted =
    let bytes = n.kept.durable.bytes in
    let k = floor - floor_of n in
    let way : k + (whole_end n - floor) ≡ whole_end n - floor_of n = omega (arith, low, high) in
    ap (drop (whole_end n - floor)) (sym (drop-append-le k bytes n.kept.unflushed (omega (arith, low, high, whole, counted))))
    ∙ drop-drop (whole_end n - floor) k (log n.kept)
    ∙ ap (λ (j : ℕ). drop j (log n.kept)) (omega (arith, way))

pub raised_runs : (head new : Head) (w : Walker) (n : LogState) (floor : ℕ) → IsHead head → Runs head w n → floor_of n ≤ floor → floor ≤ whole_end n
    → Stands new head.size (raised_control head.control floor) head.path head.written → Runs new w (raised_log n floor)
raised_runs head new w n floor is runs low high stands =
    let m = marks head w n is runs in
    let after = raised_log n floor in
    let tail : tail_of after ≡ tail_of n = raised_tail n floor low high m.flushed runs.counted in
    record {
      size = stands.same_size ∙ runs.size;
      control = stands.same_control ∙ ap (λ (c : Control). raised_control c floor) runs.control;
      path = stands.same_path ∙ runs.path;
      written = stands.same_end ∙ runs.written;
      counted = omega (arith, runs.counted, length-drop (floor - floor_of n) n.kept.durable.bytes, low, high, m.flushed);
      of_log = runs.of_log;
      walked = subst (HasWalked w (timeline_of n) (whole_end n) (start_kept n)) (sym tail) runs.walked;
      unended = subst (λ (l : List ℕ). IsWholeEnd (ident_of n) (timeline_of n) (whole_end n) (start_kept n) (take (flushed_end n - whole_end n) l)
          (whole_end n) (start_kept n)) (sym tail) runs.unended;
      primary = runs.primary;
    }
