-- The entry at which a search stops is the first, or from the back the last, and there is one such entry.
use Rattle.std.proofs.Common.{◌≡◌, ◌≢◌, ℕ, zero, suc, ◌<◌, List, [], ◌∷◌, ◌++◌, length, reverse, refl, sym, ap, subst, ◌∙◌, append_assoc, arith}
use Rattle.std.specs.List.{All, AllWithin, HoldsAt, Contains}
use Rattle.std.proofs.lemmas.List.{reverse-append, reverse-reverse}
use Rattle.std.proofs.lemmas.List.Elements.{All-nil, All-cons, All-tail, All-push, All-contains, Contains-append_right}
use Rattle.repl_message.specs.declared.startup.Pair.{Pair}
use Rattle.repl_message.specs.declared.back.ErrorField.{ErrorField}
use Rattle.repl_message.specs.Lists.{HasNoField, HasNoPair, IsFirst, IsLast}

-- an element, what stands before it, none of which counts, and what stands after it
record IsFound {A : Type 0} (No : A → Type 0) (xs : List A) (x : A) : Type 0 where
  before : List A
  after : List A
  parts : xs ≡ before ++ x ∷ after
  others : All No before

found_at : {A : Type 0} (No : A → Type 0) (xs : List A) (i : ℕ) (x : A) → i < length xs → HoldsAt (λ y. y ≡ x) xs i
    → AllWithin No xs 0 i → IsFound No xs x
found_at No [] i x within at none = absurd (omega (arith, within))
found_at {A} No (y ∷ ys) zero x within at none = record {
  before = [];
  after = ys;
  parts = ap (λ (z : A). z ∷ ys) (at y);
  others = All-nil No;
}
found_at {A} No (y ∷ ys) (suc i) x within at none =
    let f = found_at No ys i x (omega arith) at (λ k d low high. none (suc k) d (omega arith) (omega arith)) in
    record {
      before = y ∷ f.before;
      after = f.after;
      parts = ap (λ (t : List A). y ∷ t) f.parts;
      others = All-cons No y f.before (none 0 y (omega arith) (omega arith)) f.others;
    }

-- there is one such element
found_one : {A : Type 0} (No : A → Type 0) (front others past after : List A) (x y : A) → ¬ No x → ¬ No y → All No front → All No others
    → front ++ x ∷ past ≡ others ++ y ∷ after → x ≡ y
found_one No [] [] past after x y x_counts y_counts front_no others_no e = cc
found_one No [] (q ∷ others) past after x y x_counts y_counts front_no others_no e =
    let first : q ≡ x = cc in
    absurd (x_counts (subst No first (others_no 0 q (omega arith))))
found_one No (p ∷ front) [] past after x y x_counts y_counts front_no others_no e =
    let first : p ≡ y = cc in
    absurd (y_counts (subst No first (front_no 0 p (omega arith))))
found_one No (p ∷ front) (q ∷ others) past after x y x_counts y_counts front_no others_no e =
    let rest : front ++ x ∷ past ≡ others ++ y ∷ after = cc in
    found_one No front others past after x y x_counts y_counts (All-tail No p front front_no) (All-tail No q others others_no) rest

-- ---- from the back

reverse-cons : {A : Type 0} (x : A) (xs : List A) → reverse (x ∷ xs) ≡ reverse xs ++ x ∷ []
reverse-cons x xs = reverse-append (x ∷ []) xs

All-reverse : {A : Type 0} (P : A → Type 0) (xs : List A) → All P xs → All P (reverse xs)
All-reverse P [] all = All-nil P
All-reverse P (x ∷ xs) all =
    subst (All P) (sym (reverse-cons x xs))
    (All-push P (reverse xs) x (All-reverse P xs (All-tail P x xs all)) (all 0 x (omega arith)))

reverse-parts : {A : Type 0} (before after : List A) (x : A) → reverse (before ++ x ∷ after) ≡ reverse after ++ x ∷ reverse before
reverse-parts {A} before after x =
    reverse-append before (x ∷ after) ∙ ap (λ (t : List A). t ++ reverse before) (reverse-cons x after)
    ∙ append_assoc (reverse after) (x ∷ []) (reverse before)

-- ---- fields of errors, and parameters

Contains-here : {A : Type 0} (x : A) (xs : List A) → Contains (x ∷ xs) x
Contains-here x xs = (0, omega arith, refl)

pub first_found : (code : ℕ) (fields : List ErrorField) (i : ℕ) (f : ErrorField) → i < length fields → HoldsAt (λ y. y ≡ f) fields i
    → AllWithin (λ (y : ErrorField). y.code ≢ code) fields 0 i → f.code ≡ code → IsFirst code fields f.text
first_found code fields i f within at none counts =
    let found = found_at (λ (y : ErrorField). y.code ≢ code) fields i f within at none in
    record {
      before = found.before;
      after = found.after;
      parts = found.parts ∙ ap (λ (k : ℕ). found.before ++ record { code = k; text = f.text } ∷ found.after) counts;
      others = found.others;
    }

-- a first field with a code is one with that code
pub first_some : (code : ℕ) (fields : List ErrorField) (text : List ℕ) → IsFirst code fields text → ¬ HasNoField code fields
first_some code fields text f none =
    let mine : ErrorField = record { code = code; text = text } in
    let there : Contains (f.before ++ mine ∷ f.after) mine = Contains-append_right f.before (mine ∷ f.after) mine
    (Contains-here mine f.after) in
    All-contains (λ (y : ErrorField). y.code ≢ code) fields mine none
    (subst (λ (t : List ErrorField). Contains t mine) (sym f.parts) there) refl

pub first_one : (code : ℕ) (fields : List ErrorField) (text other : List ℕ) → IsFirst code fields text → IsFirst code fields other
    → text ≡ other
first_one code fields text other f g =
    ap (λ (y : ErrorField). y.text)
    (found_one (λ (y : ErrorField). y.code ≢ code) f.before g.before f.after g.after (record { code = code; text = text })
    (record { code = code; text = other }) (λ no. no refl) (λ no. no refl) f.others g.others (sym f.parts ∙ g.parts))

pub last_found : (name : List ℕ) (pairs : List Pair) (i : ℕ) (p : Pair) → i < length (reverse pairs)
    → HoldsAt (λ y. y ≡ p) (reverse pairs) i → AllWithin (λ (y : Pair). y.name ≢ name) (reverse pairs) 0 i → p.name ≡ name
    → IsLast name pairs p.value
last_found name pairs i p within at none counts =
    let found = found_at (λ (y : Pair). y.name ≢ name) (reverse pairs) i p within at none in
    let parts : pairs ≡ reverse found.after ++ p ∷ reverse found.before =
    sym (reverse-reverse pairs) ∙ ap reverse found.parts ∙ reverse-parts found.before found.after p in
    record {
      before = reverse found.after;
      after = reverse found.before;
      parts = parts ∙ ap (λ (t : List ℕ). reverse found.after ++ record { name = t; value = p.value } ∷ reverse found.before) counts;
      others = All-reverse (λ (y : Pair). y.name ≢ name) found.before found.others;
    }

-- a last parameter of a name is one of that name
pub last_some : (name : List ℕ) (pairs : List Pair) (value : List ℕ) → IsLast name pairs value → ¬ HasNoPair name pairs
last_some name pairs value l none =
    let mine : Pair = record { name = name; value = value } in
    let there : Contains (l.before ++ mine ∷ l.after) mine = Contains-append_right l.before (mine ∷ l.after) mine
    (Contains-here mine l.after) in
    All-contains (λ (y : Pair). y.name ≢ name) pairs mine none (subst (λ (t : List Pair). Contains t mine) (sym l.parts) there) refl

pub last_one : (name : List ℕ) (pairs : List Pair) (value other : List ℕ) → IsLast name pairs value → IsLast name pairs other
    → value ≡ other
last_one name pairs value other p q =
    let no : Pair → Type 0 = λ (y : Pair). y.name ≢ name in
    let mine : Pair = record { name = name; value = value } in
    let theirs : Pair = record { name = name; value = other } in
    ap (λ (y : Pair). y.value)
    (found_one no (reverse p.after) (reverse q.after) (reverse p.before) (reverse q.before) mine theirs (λ f. f refl) (λ f. f refl)
    (All-reverse no p.after p.others) (All-reverse no q.after q.others)
    (sym (reverse-parts p.before p.after mine) ∙ ap reverse (sym p.parts ∙ q.parts) ∙ reverse-parts q.before q.after theirs))
