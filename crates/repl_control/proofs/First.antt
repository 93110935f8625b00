-- The first field that is wrong: there is one at most, and one or none.
use Rattle.std.proofs.Common.{◌≡◌, ◌≢◌, ℕ, ◌<◌, ◌⊎◌, inl, inr, List, [], ◌∷◌, ◌++◌, refl, sym, ap, subst, ◌∙◌, All, ⊎_elim}
use Rattle.std.specs.List.{AllByRecursion as ByRecursion}
use Rattle.std.proofs.lemmas.List.Elements.{All-nil, All-from_recursion, All-head, All-tail}
use Rattle.repl_control.specs.declared.control.Role.{Role}
use Rattle.repl_control.specs.declared.control.Role.TheVariants.{Primary, Standby}
use Rattle.repl_control.specs.declared.control.Control.{Control}
use Rattle.repl_control.specs.declared.fields.Fields.{Fields}
use Rattle.repl_control.specs.Control.{
  Field,
  mark,
  version,
  role,
  zero,
  timeline,
  padding,
  flushed,
  whole,
  floor,
  prev,
  layout,
  place_of,
  role_number,
  fields_of,
  IsRight,
  IsFirstWrong,
}

head_is : (a b : Field) (xs ys : List Field) → a ∷ xs ≡ b ∷ ys → a ≡ b
head_is a b xs ys e = cc

tail_is : (a b : Field) (xs ys : List Field) → a ∷ xs ≡ b ∷ ys → xs ≡ ys
tail_is a b xs ys e = cc

-- of two lists one is the other's front, up to the first at which P fails
first_one : (P : Field → Type 0) (xs ys : List Field) (a b : Field) (more others : List Field) → xs ++ a ∷ more ≡ ys ++ b ∷ others
    → All P xs → ¬ P a
    → All P ys → ¬ P b → a ≡ b
first_one P [] [] a b more others e xs_right a_wrong ys_right b_wrong = head_is a b more others e
first_one P [] (y ∷ ys) a b more others e xs_right a_wrong ys_right b_wrong =
    absurd (a_wrong (subst P (sym (head_is a y more (ys ++ b ∷ others) e)) (All-head P y ys ys_right)))
first_one P (x ∷ xs) [] a b more others e xs_right a_wrong ys_right b_wrong =
    absurd (b_wrong (subst P (head_is x b (xs ++ a ∷ more) others e) (All-head P x xs xs_right)))
first_one P (x ∷ xs) (y ∷ ys) a b more others e xs_right a_wrong ys_right b_wrong =
    first_one P xs ys a b more others (tail_is x y (xs ++ a ∷ more) (ys ++ b ∷ others) e) (All-tail P x xs xs_right) a_wrong
    (All-tail P y ys ys_right) b_wrong

-- what holds of each of a list holds of the one after some
among : (P : Field → Type 0) (xs : List Field) (a : Field) (more : List Field) → All P (xs ++ a ∷ more) → P a
among P [] a more right = All-head P a more right
among P (x ∷ xs) a more right = among P xs a more (All-tail P x (xs ++ a ∷ more) right)

-- ---- the first field that is wrong

pub one_place : (size : ℕ) (numbers : Fields) (p q : ℕ) → IsFirstWrong size numbers p → IsFirstWrong size numbers q → p ≡ q
one_place size numbers p q first other =
    let same = first_one (IsRight size numbers) first.before other.before first.field other.field first.past other.past
    (sym first.parts ∙ other.parts) first.right first.wrong other.right other.wrong in
    first.begins ∙ ap place_of same ∙ sym other.begins

pub none_wrong : (size : ℕ) (numbers : Fields) (p : ℕ) → All (IsRight size numbers) layout → ¬ IsFirstWrong size numbers p
none_wrong size numbers p right first =
    first.wrong (among (IsRight size numbers) first.before first.field first.past
    (subst (All (IsRight size numbers)) first.parts right))

-- ---- each of the fields as the first that is wrong

all_of : (size : ℕ) (numbers : Fields) (fields : List Field) → ByRecursion (IsRight size numbers) fields → All (IsRight size numbers) fields
all_of size numbers fields right = All-from_recursion (IsRight size numbers) fields right

pub wrong_mark : (size place : ℕ) (n : Fields) → ¬ IsRight size n mark → place ≡ 0 → IsFirstWrong size n place
wrong_mark size place n wrong at = record {
  before = [];
  field = mark;
  past = version ∷ role ∷ zero ∷ timeline ∷ padding ∷ flushed ∷ whole ∷ floor ∷ prev ∷ [];
  parts = refl;
  right = All-nil (IsRight size n);
  wrong = wrong;
  begins = at;
}

pub wrong_version : (size place : ℕ) (n : Fields) → IsRight size n mark → ¬ IsRight size n version → place ≡ 4 → IsFirstWrong size n place
wrong_version size place n m wrong at = record {
  before = mark ∷ [];
  field = version;
  past = role ∷ zero ∷ timeline ∷ padding ∷ flushed ∷ whole ∷ floor ∷ prev ∷ [];
  parts = refl;
  right = all_of size n (mark ∷ []) (m, tt);
  wrong = wrong;
  begins = at;
}

pub wrong_role : (size place : ℕ) (n : Fields) → IsRight size n mark → IsRight size n version → ¬ IsRight size n role → place ≡ 6
    → IsFirstWrong size n place
wrong_role size place n m v wrong at = record {
  before = mark ∷ version ∷ [];
  field = role;
  past = zero ∷ timeline ∷ padding ∷ flushed ∷ whole ∷ floor ∷ prev ∷ [];
  parts = refl;
  right = all_of size n (mark ∷ version ∷ []) (m, (v, tt));
  wrong = wrong;
  begins = at;
}

pub wrong_zero : (size place : ℕ) (n : Fields) → IsRight size n mark → IsRight size n version → IsRight size n role → ¬ IsRight size n zero
    → place ≡ 7 → IsFirstWrong size n place
wrong_zero size place n m v r wrong at = record {
  before = mark ∷ version ∷ role ∷ [];
  field = zero;
  past = timeline ∷ padding ∷ flushed ∷ whole ∷ floor ∷ prev ∷ [];
  parts = refl;
  right = all_of size n (mark ∷ version ∷ role ∷ []) (m, (v, (r, tt)));
  wrong = wrong;
  begins = at;
}

pub wrong_timeline : (size place : ℕ) (n : Fields) → IsRight size n mark → IsRight size n version → IsRight size n role
    → IsRight size n zero → ¬ IsRight size n timeline → place ≡ 16 → IsFirstWrong size n place
wrong_timeline size place n m v r z wrong at = record {
  before = mark ∷ version ∷ role ∷ zero ∷ [];
  field = timeline;
  past = padding ∷ flushed ∷ whole ∷ floor ∷ prev ∷ [];
  parts = refl;
  right = all_of size n (mark ∷ version ∷ role ∷ zero ∷ []) (m, (v, (r, (z, tt))));
  wrong = wrong;
  begins = at;
}

pub wrong_padding : (size place : ℕ) (n : Fields) → IsRight size n mark → IsRight size n version → IsRight size n role
    → IsRight size n zero → IsRight size n timeline → ¬ IsRight size n padding → place ≡ 22 → IsFirstWrong size n place
wrong_padding size place n m v r z t wrong at = record {
  before = mark ∷ version ∷ role ∷ zero ∷ timeline ∷ [];
  field = padding;
  past = flushed ∷ whole ∷ floor ∷ prev ∷ [];
  parts = refl;
  right = all_of size n (mark ∷ version ∷ role ∷ zero ∷ timeline ∷ []) (m, (v, (r, (z, (t, tt)))));
  wrong = wrong;
  begins = at;
}

-- ---- roles

pub role_right : (r : Role) → (role_number r ≡ 1) ⊎ (role_number r ≡ 2)
role_right Primary = inl refl
role_right Standby = inr refl

pub role_said : (number : ℕ) (r : Role) → number ≡ role_number r → (number ≡ 1) ⊎ (number ≡ 2)
role_said number r e = subst (λ (n : ℕ). (n ≡ 1) ⊎ (n ≡ 2)) (sym e) (role_right r)

pub no_role : (number : ℕ) → number ≢ 1 → number ≢ 2 → ¬ ((number ≡ 1) ⊎ (number ≡ 2))
no_role number primary standby = ⊎_elim primary standby

-- ---- the positions of a control, before which nothing is wrong

pub wrong_flushed : (size place : ℕ) (c : Control) → 0 < c.tli → ¬ IsRight size (fields_of c) flushed → place ≡ 24
    → IsFirstWrong size (fields_of c) place
wrong_flushed size place c t wrong at = record {
  before = mark ∷ version ∷ role ∷ zero ∷ timeline ∷ padding ∷ [];
  field = flushed;
  past = whole ∷ floor ∷ prev ∷ [];
  parts = refl;
  right = all_of size (fields_of c) (mark ∷ version ∷ role ∷ zero ∷ timeline ∷ padding ∷ [])
      (refl, (refl, (role_right c.role, (refl, (t, (refl, tt))))));
  wrong = wrong;
  begins = at;
}

pub wrong_whole : (size place : ℕ) (c : Control) → 0 < c.tli → IsRight size (fields_of c) flushed → ¬ IsRight size (fields_of c) whole
    → place ≡ 32 → IsFirstWrong size (fields_of c) place
wrong_whole size place c t f wrong at = record {
  before = mark ∷ version ∷ role ∷ zero ∷ timeline ∷ padding ∷ flushed ∷ [];
  field = whole;
  past = floor ∷ prev ∷ [];
  parts = refl;
  right = all_of size (fields_of c) (mark ∷ version ∷ role ∷ zero ∷ timeline ∷ padding ∷ flushed ∷ [])
      (refl, (refl, (role_right c.role, (refl, (t, (refl, (f, tt)))))));
  wrong = wrong;
  begins = at;
}

pub wrong_floor : (size place : ℕ) (c : Control) → 0 < c.tli → IsRight size (fields_of c) flushed → IsRight size (fields_of c) whole
    → ¬ IsRight size (fields_of c) floor → place ≡ 40 → IsFirstWrong size (fields_of c) place
wrong_floor size place c t f w wrong at = record {
  before = mark ∷ version ∷ role ∷ zero ∷ timeline ∷ padding ∷ flushed ∷ whole ∷ [];
  field = floor;
  past = prev ∷ [];
  parts = refl;
  right = all_of size (fields_of c) (mark ∷ version ∷ role ∷ zero ∷ timeline ∷ padding ∷ flushed ∷ whole ∷ [])
      (refl, (refl, (role_right c.role, (refl, (t, (refl, (f, (w, tt))))))));
  wrong = wrong;
  begins = at;
}

pub wrong_prev : (size place : ℕ) (c : Control) → 0 < c.tli → IsRight size (fields_of c) flushed → IsRight size (fields_of c) whole
    → IsRight size (fields_of c) floor → ¬ IsRight size (fields_of c) prev → place ≡ 48 → IsFirstWrong size (fields_of c) place
wrong_prev size place c t f w l wrong at = record {
  before = mark ∷ version ∷ role ∷ zero ∷ timeline ∷ padding ∷ flushed ∷ whole ∷ floor ∷ [];
  field = prev;
  past = [];
  parts = refl;
  right = all_of size (fields_of c) (mark ∷ version ∷ role ∷ zero ∷ timeline ∷ padding ∷ flushed ∷ whole ∷ floor ∷ [])
      (refl, (refl, (role_right c.role, (refl, (t, (refl, (f, (w, (l, tt)))))))));
  wrong = wrong;
  begins = at;
}
