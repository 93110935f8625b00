-- A log that goes over to a child of its path, at the end of its last whole record.
use Rattle.std.proofs.Common.{◌≡◌, ℕ, ◌-◌, ◌*◌, ◌/◌, ◌%◌, ◌≤◌, false, List, [], ◌∷◌, ◌++◌, length, codes, refl, sym, ap, ◌∙◌, subst, arith, length-take}
use Rattle.std.proofs.Math.Nat.{div-mul-le_self}
use Rattle.std.proofs.lemmas.List.{map-append}
use Rattle.std.proofs.lemmas.List.Elements.{All-append, All-cons, All-head, All-nil, All-tail}
use Rattle.repl_control.specs.Control.{IsControl}
use Rattle.repl_control.specs.declared.control.Control.{Control}
use Rattle.repl_control.specs.declared.control.Role.{Role}
use Rattle.repl_lsn.proofs.Order.{last_switch_push}
use Rattle.repl_lsn.specs.Between.{AreBetween, IsBetween}
use Rattle.repl_lsn.specs.History.{Path, canonical, last_switch}
use Rattle.repl_lsn.specs.Path.{step, steps}
use Rattle.repl_lsn.specs.Segment.{IsSegSize}
use Rattle.repl_lsn.specs.declared.history.Part.{Part}
use Rattle.repl_lsn.specs.declared.history.TheConstants.{HISTORY_LIMIT}
use Rattle.repl_page.specs.declared.ident.Ident.{Ident}
use Rattle.repl_record.specs.Walker.{identity, Stands as WalkerStands}
use Rattle.repl_record.specs.declared.walker.Walker.{Walker}
use Rattle.repl_store.specs.Backing.{CanSwitch, switched_control}
use Rattle.repl_store.specs.Head.{Head, Stands, status_of}
use Rattle.repl_wal.specs.Holding.{Runs}
use Rattle.repl_wal.specs.Making.{BeginsAs}
use Rattle.repl_wal.specs.Promoting.{child_of}
use Rattle.repl_wal.specs.State.{LogState, floor_of, heard_log, ident_of, switched_log}
use Rattle.repl_wal.proofs.Beginning.{begun_runs}

-- ---- a child

-- a path was left last within what its switch points lie in
pub last_within : (least most : ℕ) (parts : List Part) → AreBetween least most parts → last_switch parts ≤ most
last_within least most [] are = omega arith
last_within least most (p ∷ []) are = (All-head (IsBetween least most) p [] are).1
last_within least most (p ∷ q ∷ ps) are = last_within least most (q ∷ ps) (All-tail (IsBetween least most) p (q ∷ ps) are)

-- a child is right beside a control whose flushed bytes end where it begins, and at the last whole record's end
module _ (head : Head) (role : Role) (tli switch : ℕ) (right : IsControl head.size head.control)
    (between : AreBetween head.size switch head.path.parents) (whole : switch ≡ head.control.whole) where
  abbrev child : Path
  child = child_of head.path tli switch

  abbrev part : Part
  part = record { tli = head.path.own; switch = switch; reason = codes "promoted" }

  left_at : last_switch child.parents ≡ switch
  left_at = last_switch_push head.path.parents part

  pub can_switch : length (canonical child) ≤ HISTORY_LIMIT → CanSwitch head child role switch head.control.prev
  can_switch short = record {
    parents = map-append step head.path.parents (part ∷ [])
        ∙ ap (λ (k : ℕ). steps head.path ++ record { tli = head.path.own; switch = k } ∷ []) (sym left_at);
    flushed = omega (arith, left_at, whole, right.whole.2);
    right = record {
      flushed = (omega (arith, left_at, whole, right.whole.1), omega (arith, left_at, whole, right.whole.2, right.flushed.1));
      whole = (subst (λ (e : ℕ). e % 8 ≡ 0) (sym whole) right.whole.0, omega (arith, whole, right.whole.1), omega (arith, left_at));
      floor = (right.floor.0, right.floor.1, omega (arith, right.floor.2, ap (λ e. e / head.size * head.size) whole));
      prev = omega (arith, right.prev, whole);
      primary = λ _. left_at;
    };
    between = All-append (IsBetween head.size switch) head.path.parents (part ∷ []) between (All-cons (IsBetween head.size switch) part [] (
      omega (arith, whole, right.whole.1),
      omega arith,
    ) (All-nil (IsBetween head.size switch)));
    short = short;
  }

-- ---- the log after it

-- a number that was heard of changes nothing in memory
pub heard_runs : (head : Head) (w : Walker) (n : LogState) (tli : ℕ) → Runs head w n → Runs head w (heard_log n tli)
heard_runs head w n tli runs = record {
  size = runs.size;
  control = runs.control;
  path = runs.path;
  written = runs.written;
  counted = runs.counted;
  of_log = runs.of_log;
  walked = runs.walked;
  unended = runs.unended;
  primary = runs.primary;
}

-- a new walker has gone through what is left: nothing
pub switched_runs : (head new : Head) (w next : Walker) (n : LogState) (child : Path) (role : Role) (whole prev : ℕ) → IsSegSize head.size
    → CanSwitch head child role whole prev → last_switch child.parents ≡ whole → Runs head w n → n.broken ≡ false
    → Stands new head.size (switched_control head.control child role whole prev) child (last_switch child.parents)
    → ((timeline : ℕ → ℕ) → WalkerStands next timeline whole prev []) → identity next ≡ ident_of n
    → Runs new next (switched_log n child role whole prev)
switched_runs head new w next n child role whole prev size can left runs sound stands walker of_log =
    let switch = last_switch child.parents in
    let d = n.kept.durable in
    let control : Control = switched_control head.control child role whole prev in
    let same : new.control ≡ control = stands.same_control in
    let right : IsControl new.size new.control = subst (λ (k : ℕ). IsControl k new.control) (sym stands.same_size)
    (subst (IsControl head.size) (sym same) can.right) in
    let low = div-mul-le_self whole head.size in
    let begins : BeginsAs new (switched_log n child role whole prev) = record {
      size = stands.same_size ∙ runs.size;
      control = same ∙ ap (λ (c : Control). switched_control c child role whole prev) runs.control;
      path = stands.same_path;
      counted = omega (
        arith,
        length-take (switch - floor_of n) d.bytes,
        runs.counted,
        can.flushed,
        can.right.floor.2,
        low,
        left,
        ap (λ (c : Control). c.flushed) runs.control,
        ap (λ (c : Control). c.floor) runs.control,
      );
      flushed = refl;
      sound = sound;
    } in
    let ends : new.control.whole ≡ whole = ap (λ (c : Control). c.whole) same in
    let starts : new.control.prev ≡ prev = ap (λ (c : Control). c.prev) same in
    let flushed : new.control.flushed ≡ switch = ap (λ (c : Control). c.flushed) same in
    let stood : (timeline : ℕ → ℕ) → WalkerStands next timeline new.control.whole new.control.prev [] = λ timeline.
    subst (λ (e : ℕ). WalkerStands next timeline e new.control.prev []) (sym ends)
    (subst (λ (b : ℕ). WalkerStands next timeline whole b []) (sym starts) (walker timeline)) in
    let Named : ℕ → Control → Ident = λ k. λ c. record { sysid = c.sysid; magic = c.magic; size = k } in
    let own : Control = d.control in
    let by_control : Named new.size new.control ≡ Named new.size own = ap (Named new.size) begins.control in
    let by_size : Named new.size own ≡ ident_of n = ap (λ (k : ℕ). Named k own) begins.size in
    let told : identity next ≡ Named new.size new.control = of_log ∙ sym by_size ∙ sym by_control in
    begun_runs new next (switched_log n child role whole prev) (status_of new) (subst IsSegSize (sym stands.same_size) size) right (stands.same_end
    ∙ sym flushed) (ends ∙ sym left ∙ sym flushed) begins refl stood told
