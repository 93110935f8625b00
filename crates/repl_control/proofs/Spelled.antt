-- What spells a control, and what is wrong with other bytes: each of both is one, and there is one or the other.
use Rattle.std.proofs.Common.{◌≡◌, ℕ, ◌^◌, ◌<◌, inr, List, length, drop, get_or, refl, sym, ap, subst, ◌∙◌, arith, All, ⊎_elim}
use Rattle.std.specs.List.{AllByRecursion as ByRecursion}
use Rattle.std.proofs.Math.Nat.{div-mul-le_self}
use Rattle.std.proofs.lemmas.List.Elements.{All-drop, All-from_get_or, All-from_recursion}
use Rattle.repl_control.specs.declared.control.Role.{Role}
use Rattle.repl_control.specs.declared.control.Role.TheVariants.{Primary, Standby}
use Rattle.repl_control.specs.declared.control.Control.{Control}
use Rattle.repl_control.specs.declared.fault.ControlFault.{ControlFault}
use Rattle.repl_control.specs.declared.fields.Fields.{Fields}
use Rattle.repl_control.specs.Control.{layout, number_at, IsRight, IsFirstWrong, IsControl, FitsFields, SpellsControl, IsControlFault, fields_of, fields_in, bytes_of, role_number, IsFlushed}
use Rattle.repl_control.proofs.Bytes.{AreBytes, number_small}
use Rattle.repl_control.proofs.Spelling.{InRange, bytes_again, fields_again, length-bytes_of}
use Rattle.repl_control.proofs.First.{role_right, one_place, none_wrong}

-- ---- roles

role_small : (r : Role) → role_number r < 2 ^ 8
role_small Primary = omega arith
role_small Standby = omega arith

role_one : (a b : Role) → role_number a ≡ role_number b → a ≡ b
role_one Primary Primary e = refl
role_one Standby Standby e = refl
role_one Primary Standby e = absurd (omega (arith, e))
role_one Standby Primary e = absurd (omega (arith, e))

primary_is : (r : Role) → role_number r ≡ 1 → r ≡ Primary
primary_is Primary e = refl
primary_is Standby e = absurd (omega (arith, e))

-- ---- numbers of a control

in_range : (size : ℕ) (c : Control) → FitsFields c → IsControl size c → InRange (fields_of c)
in_range size c fits right = record {
  mark = omega arith;
  version = omega arith;
  role = role_small c.role;
  zero = omega arith;
  sysid = fits.system;
  tli = fits.timeline.1;
  magic = fits.magic;
  padding = omega arith;
  flushed = omega (arith, right.flushed.1);
  whole = omega (arith, right.flushed.1, right.whole.2);
  floor = omega (arith, right.flushed.1, right.whole.2, right.floor.2, div-mul-le_self c.whole size);
  prev = omega (arith, right.flushed.1, right.whole.2, right.prev);
}

-- the numbers that stand in a control's bytes are its own
fields_read : (size : ℕ) (bytes : List ℕ) (c : Control) → SpellsControl size bytes c → fields_in bytes ≡ fields_of c
fields_read size bytes c h = ap fields_in h.spelled ∙ fields_again (fields_of c) (in_range size c h.fits h.right)

-- a control has its numbers alone
control_is : (a b : Control) → fields_of a ≡ fields_of b → a ≡ b
control_is a b e =
    let same = role_one a.role b.role (ap (λ (n : Fields). n.role) e) in
    λ i. record {
      role = same i;
      sysid = (e i).sysid;
      tli = (e i).tli;
      magic = (e i).magic;
      flushed = (e i).flushed;
      whole = (e i).whole;
      floor = (e i).floor;
      prev = (e i).prev;
    }

pub control_one : (size other : ℕ) (bytes : List ℕ) (a b : Control) → SpellsControl size bytes a → SpellsControl other bytes b → a ≡ b
control_one size other bytes a b a_is b_is = control_is a b (sym (fields_read size bytes a a_is) ∙ fields_read other bytes b b_is)

-- ---- a control that is right has no wrong field

all_right : (size : ℕ) (c : Control) → FitsFields c → IsControl size c → All (IsRight size (fields_of c)) layout
all_right size c fits right =
    let flushed : IsFlushed size c.flushed × (role_number c.role ≡ 1 → c.flushed ≡ c.whole) =
    (right.flushed, λ is. right.primary (primary_is c.role is)) in
    let rules : ByRecursion (IsRight size (fields_of c)) layout =
    (refl, (refl, (role_right c.role, (refl, (fits.timeline.0, (refl, (flushed, (right.whole, (right.floor, (right.prev, tt)))))))))) in
    All-from_recursion (IsRight size (fields_of c)) layout rules

pub spelled-length : {size : ℕ} {bytes : List ℕ} {c : Control} → SpellsControl size bytes c → length bytes ≡ 56
spelled-length {c = c} h = ap length h.spelled ∙ length-bytes_of (fields_of c)

pub spelled_right : (size : ℕ) (bytes : List ℕ) (c : Control) (place : ℕ) → SpellsControl size bytes c → ¬ IsControlFault size bytes place
spelled_right size bytes c place h = ⊎_elim
    (λ short. short.0 (spelled-length h))
    (λ wrong. none_wrong size (fields_of c) place (all_right size c h.fits h.right)
    (subst (λ (n : Fields). IsFirstWrong size n place) (fields_read size bytes c h) wrong.1))

-- ---- bytes have one fault

pub fault_one : (size : ℕ) (bytes : List ℕ) (a b : ℕ) → IsControlFault size bytes a → IsControlFault size bytes b → a ≡ b
fault_one size bytes a b a_is b_is = ⊎_elim
    (λ a_short. ⊎_elim (λ b_short. a_short.1 ∙ sym b_short.1) (λ b_wrong. absurd (a_short.0 b_wrong.0)) b_is)
    (λ a_wrong. ⊎_elim (λ b_short. absurd (b_short.0 a_wrong.0)) (λ b_wrong. one_place size (fields_in bytes) a b a_wrong.1 b_wrong.1) b_is)
    a_is

-- ---- bytes whose numbers are those of a control that is right spell it

number_fits : (place n : ℕ) (bytes : List ℕ) → AreBytes bytes → number_at place n bytes < 256 ^ n
number_fits place n bytes fit = number_small n (drop place bytes) (All-drop (λ b. b < 256) place bytes fit)

pub spelled : (size : ℕ) (bytes : List ℕ) (c : Control) → AreBytes bytes → length bytes ≡ 56 → fields_of c ≡ fields_in bytes → 0 < c.tli
    → IsControl size c → SpellsControl size bytes c
unfolding fields_in
spelled size bytes c fit len same above right = record {
  fits = record {
    system = omega (arith, ap (λ (n : Fields). n.sysid) same, number_fits 8 8 bytes fit);
    timeline = (above, omega (arith, ap (λ (n : Fields). n.tli) same, number_fits 16 4 bytes fit));
    magic = omega (arith, ap (λ (n : Fields). n.magic) same, number_fits 20 2 bytes fit);
  };
  right = right;
  spelled = sym (bytes_again bytes fit len) ∙ ap bytes_of (sym same);
}

-- ---- what a reader tells

pub field_fault : (size : ℕ) (bytes : List ℕ) (numbers : Fields) (place : ℕ) → length bytes ≡ 56 → numbers ≡ fields_in bytes
    → IsFirstWrong size numbers place → IsControlFault size bytes place
field_fault size bytes numbers place len same wrong = inr (len, subst (λ (n : Fields). IsFirstWrong size n place) same wrong)

abbrev pub fault_at : ℕ → ControlFault
fault_at place = record { place = place }

pub told : (fault : ControlFault) (place : ℕ) → fault.place ≡ place → fault ≡ fault_at place
told fault place e = ap fault_at e

pub are_bytes : (bytes : List ℕ) → ((i : ℕ) → get_or bytes i 0 < 256) → AreBytes bytes
are_bytes bytes fit = All-from_get_or (λ b. b < 256) bytes 0 (λ i lt. fit i)
