-- Bytes spell a control or have a fault: each field is right or is not, and where all are, their numbers are a control's.
use Rattle.std.proofs.Common.{◌≡◌, ℕ, ◌%◌, ◌^◌, ◌<◌, ◌≤◌, ◌⊎◌, inl, inr, List, [], ◌∷◌, ◌++◌, length, min, refl, sym, ap, ◌∙◌, arith, All, ⊎_elim}
use Rattle.std.proofs.lemmas.Bool.{cases_eq, cases_lt}
use Rattle.std.proofs.lemmas.List.Elements.{All-nil, All-cons, recursion_from_All}
use Rattle.repl_control.specs.declared.control.Role.{Role}
use Rattle.repl_control.specs.declared.control.Role.TheVariants.{Primary, Standby}
use Rattle.repl_control.specs.declared.control.Control.{Control}
use Rattle.repl_control.specs.declared.fields.Fields.{Fields}
use Rattle.repl_control.specs.Control.{
  Field,
  mark,
  version,
  role,
  zero,
  timeline,
  padding,
  flushed,
  whole,
  floor,
  prev,
  layout,
  place_of,
  role_number,
  fields_of,
  fields_in,
  segment_start,
  IsRight,
  IsFirstWrong,
  IsControl,
  SpellsControl,
  IsControlFault,
}
use Rattle.repl_control.proofs.Bytes.{AreBytes}
use Rattle.repl_control.proofs.First.{no_role}
use Rattle.repl_control.proofs.Spelled.{spelled}

-- ---- what holds or does not

abbrev pub Decided : Type 0 → Type 0
Decided P = P ⊎ ¬ P

below : (m n : ℕ) → Decided (m < n)
below m n = ⊎_elim (λ lt. inl lt) (λ le. inr (λ lt. omega arith)) (cases_lt m n)

at_most : (m n : ℕ) → Decided (m ≤ n)
at_most m n = ⊎_elim (λ lt. inr (λ le. omega arith)) (λ le. inl le) (cases_lt n m)

both : {P Q : Type 0} → Decided P → Decided Q → Decided (P × Q)
both p q = ⊎_elim (λ yes. ⊎_elim (λ also. inl (yes, also)) (λ no. inr (λ h. no h.1)) q) (λ no. inr (λ h. no h.0)) p

three : {P Q R : Type 0} → Decided P → Decided Q → Decided R → Decided (P × Q × R)
three p q r = ⊎_elim (λ yes. ⊎_elim (λ also. inl (yes, also.0, also.1)) (λ no. inr (λ h. no (h.1, h.2))) (both q r))
    (λ no. inr (λ h. no h.0)) p

given : {P Q : Type 0} → Decided P → Decided Q → Decided (P → Q)
given p q = ⊎_elim (λ yes. inl (λ h. yes))
    (λ no. ⊎_elim (λ holds. inr (λ f. no (f holds))) (λ never. inl (λ h. absurd (never h))) p) q

is_role : (n : ℕ) → Decided ((n ≡ 1) ⊎ (n ≡ 2))
is_role n = ⊎_elim (λ e. inl (inl e))
    (λ no. ⊎_elim (λ e. inl (inr e)) (λ neither. inr (no_role n no neither)) (cases_eq n 2)) (cases_eq n 1)

field_decided : (size : ℕ) (n : Fields) (f : Field) → Decided (IsRight size n f)
field_decided size n mark = cases_eq n.mark _
field_decided size n version = cases_eq n.version _
field_decided size n role = is_role n.role
field_decided size n zero = cases_eq n.zero 0
field_decided size n timeline = below 0 n.tli
field_decided size n padding = cases_eq n.padding 0
field_decided size n flushed =
    both (both (at_most size n.flushed) (at_most n.flushed (2 ^ 63))) (given (cases_eq n.role 1) (cases_eq n.flushed n.whole))
field_decided size n whole = three (cases_eq (n.whole % 8) 0) (at_most size n.whole) (at_most n.whole n.flushed)
field_decided size n floor = three (cases_eq (n.floor % size) 0) (at_most size n.floor) (at_most n.floor (segment_start size n.whole))
field_decided size n prev = below n.prev n.whole

-- ---- all are right, or one is the first that is not

record Split (P : Field → Type 0) (fields : List Field) : Type 0 where
  pub before : List Field
  pub field : Field
  pub past : List Field
  pub parts : fields ≡ before ++ field ∷ past
  pub right : All P before
  pub wrong : ¬ P field

split_on : (P : Field → Type 0) (f : Field) (fields : List Field) → P f → Split P fields → Split P (f ∷ fields)
split_on P f fields right s = record {
  before = f ∷ s.before;
  field = s.field;
  past = s.past;
  parts = ap (λ rest. f ∷ rest) s.parts;
  right = All-cons P f s.before right s.right;
  wrong = s.wrong;
}

split_here : (P : Field → Type 0) (f : Field) (fields : List Field) → ¬ P f → Split P (f ∷ fields)
split_here P f fields wrong = record {
  before = [];
  field = f;
  past = fields;
  parts = refl;
  right = All-nil P;
  wrong = wrong;
}

all_or_first : (P : Field → Type 0) → ((f : Field) → Decided (P f)) → (fields : List Field) → All P fields ⊎ Split P fields
all_or_first P decided [] = inl (All-nil P)
all_or_first P decided (f ∷ fields) = ⊎_elim
    (λ right. ⊎_elim
    (λ all. inl (All-cons P f fields right all))
    (λ split. inr (split_on P f fields right split))
    (all_or_first P decided fields))
    (λ wrong. inr (split_here P f fields wrong))
    (decided f)

first_wrong : (size : ℕ) (n : Fields) (s : Split (IsRight size n) layout) → IsFirstWrong size n (place_of s.field)
first_wrong size n s = record {
  before = s.before;
  field = s.field;
  past = s.past;
  parts = s.parts;
  right = s.right;
  wrong = s.wrong;
  begins = refl;
}

-- ---- where all are right the numbers are a control's

role_in : (n : ℕ) → (n ≡ 1) ⊎ (n ≡ 2) → (r : Role) × (role_number r ≡ n)
role_in n (inl e) = (Primary, sym e)
role_in n (inr e) = (Standby, sym e)

control_in : Role → Fields → Control
control_in r n = record {
  role = r;
  sysid = n.sysid;
  tli = n.tli;
  magic = n.magic;
  flushed = n.flushed;
  whole = n.whole;
  floor = n.floor;
  prev = n.prev;
}

control_spelled : (size : ℕ) (bytes : List ℕ) → AreBytes bytes → length bytes ≡ 56 → All (IsRight size (fields_in bytes)) layout
    → (c : Control) × SpellsControl size bytes c
unfolding control_in
control_spelled size bytes fit len right =
    let n = fields_in bytes in
    let rules = recursion_from_All (IsRight size n) layout right in
    let from_role = rules.1.1 in
    let from_timeline = from_role.1.1 in
    let from_flushed = from_timeline.1.1 in
    let r = role_in n.role from_role.0 in
    let c = control_in r.0 n in
    let same : fields_of c ≡ n = λ i. record {
      mark = sym rules.0 i;
      version = sym rules.1.0 i;
      role = r.1 i;
      zero = sym from_role.1.0 i;
      sysid = n.sysid;
      tli = n.tli;
      magic = n.magic;
      padding = sym from_timeline.1.0 i;
      flushed = n.flushed;
      whole = n.whole;
      floor = n.floor;
      prev = n.prev;
    } in
    let control : IsControl size c = record {
      flushed = from_flushed.0.0;
      whole = from_flushed.1.0;
      floor = from_flushed.1.1.0;
      prev = from_flushed.1.1.1.0;
      primary = λ is. from_flushed.0.1 (sym r.1 ∙ ap role_number is);
    } in
    (c, spelled size bytes c fit len same from_timeline.0 control)

pub judged : (size : ℕ) (bytes : List ℕ) → AreBytes bytes
    → ((c : Control) × SpellsControl size bytes c) ⊎ ((place : ℕ) × IsControlFault size bytes place)
judged size bytes fit = ⊎_elim
    (λ len. ⊎_elim
    (λ right. inl (control_spelled size bytes fit len right))
    (λ split. inr (place_of split.field, inr (len, first_wrong size (fields_in bytes) split)))
    (all_or_first (IsRight size (fields_in bytes)) (field_decided size (fields_in bytes)) layout))
    (λ other. inr (min (length bytes) 56, inl (other, refl)))
    (cases_eq (length bytes) 56)
