-- What the test says that finds a control as it would be after a flush.
use Rattle.std.proofs.Common.{◌≡◌, ℕ, Bool, true, false, eqb, eq-eqb, eqb-true, refl, sym, ◌∙◌, ap, rules}
use denote.Enum.Bare.{sameb, same_true, true_same}
use mathlib.Core.Bool.{◌&&◌}
use Rattle.repl_control.specs.contracts.control.Role.{the_type}
use Rattle.repl_control.specs.declared.control.Control.{Control}
use Rattle.repl_control.specs.declared.control.Role.{Role}
use Rattle.repl_store.specs.Backing.{flushed_control}

-- the test field by field, of which those that a flush does not change are as they are
abbrev pub tested : Control → Role → ℕ → ℕ → ℕ → Bool
tested k role written whole prev =
    sameb the_type role k.role && (eqb k.sysid k.sysid && (eqb k.tli k.tli && (eqb k.magic k.magic && (eqb written k.flushed
    && (eqb whole k.whole && (eqb k.floor k.floor && eqb prev k.prev))))))

-- ---- fields that are the same

parts : (a b c d e f g h : Bool) → true ≡ (a && (b && (c && (d && (e && (f && (g && h))))))) → (a ≡ true) × (e ≡ true) × (f ≡ true)
    × (h ≡ true)
parts true true true true true true true h test = (refl, refl, refl, sym test)
parts true true true true true true false h test = absurd cc
parts true true true true true false g h test = absurd cc
parts true true true true false f g h test = absurd cc
parts true true true false e f g h test = absurd cc
parts true true false d e f g h test = absurd cc
parts true false c d e f g h test = absurd cc
parts false b c d e f g h test = absurd cc

both : (a b : Bool) → a ≡ true → b ≡ true → (a && b) ≡ true
both true b first second = second
both false b first second = absurd cc

-- ---- what it says

pub same_by_test : (k : Control) (role : Role) (written whole prev : ℕ) → true ≡ tested k role written whole prev
    → flushed_control k role written whole prev ≡ k
same_by_test k role written whole prev test =
    let all = parts (sameb the_type role k.role) (eqb k.sysid k.sysid) (eqb k.tli k.tli) (eqb k.magic k.magic) (eqb written k.flushed)
    (eqb whole k.whole) (eqb k.floor k.floor) (eqb prev k.prev) test in
    let same_role : role ≡ k.role = same_true the_type (search rules) role k.role all.0 in
    let same_end : written ≡ k.flushed = eqb-true written k.flushed all.1 in
    let same_whole : whole ≡ k.whole = eqb-true whole k.whole all.2 in
    let same_prev : prev ≡ k.prev = eqb-true prev k.prev all.3 in λ i.
    record {
      role = same_role i;
      sysid = k.sysid;
      tli = k.tli;
      magic = k.magic;
      flushed = same_end i;
      whole = same_whole i;
      floor = k.floor;
      prev = same_prev i;
    }

pub test_by_same : (k : Control) (role : Role) (written whole prev : ℕ) → flushed_control k role written whole prev ≡ k
    → tested k role written whole prev ≡ true
test_by_same k role written whole prev same =
    both (sameb the_type role k.role) _ (true_same the_type role k.role (ap (λ (x : Control). x.role) same))
    (both (eqb k.sysid k.sysid) _ (eq-eqb k.sysid k.sysid refl)
    (both (eqb k.tli k.tli) _ (eq-eqb k.tli k.tli refl)
    (both (eqb k.magic k.magic) _ (eq-eqb k.magic k.magic refl)
    (both (eqb written k.flushed) _ (eq-eqb written k.flushed (ap (λ (x : Control). x.flushed) same))
    (both (eqb whole k.whole) _ (eq-eqb whole k.whole (ap (λ (x : Control). x.whole) same))
    (both (eqb k.floor k.floor) (eqb prev k.prev) (eq-eqb k.floor k.floor refl)
    (eq-eqb prev k.prev (ap (λ (x : Control). x.prev) same))))))))

-- a test that failed
pub not_same : (k : Control) (role : Role) (written whole prev : ℕ) → false ≡ tested k role written whole prev
    → flushed_control k role written whole prev ≡ k → ⊥
not_same k role written whole prev test same =
    let yes = test_by_same k role written whole prev same in
    let clash : false ≡ true = test ∙ yes in
    cc
