-- Where the reading of a list of fields ends, said of the lists that there may be: a language of lists of fields.
-- After a field stands a language again.
use Rattle.std.proofs.Common.{◌≡◌, ◌≢◌, ℕ, ◌<◌, Bool, true, false, cond, eqb, List, [], ◌∷◌, ◌++◌, length, Result, Ok, Err, refl, sym, ap, subst, ◌∙◌, append_assoc, arith, ◌⊎◌, inl, inr}
use Rattle.std.specs.List.{concat}
use Rattle.std.proofs.lemmas.Bool.{eqb-false}
use Rattle.std.proofs.lemmas.List.{length-append}
use Rattle.repl_message.specs.Decoding.{◌>>=◌, whole}
use Rattle.repl_message.proofs.FieldLaws.{IsBytes}
use Rattle.repl_wire.specs.Places.{LeavesAt}

abbrev pub Language : Type 1
Language = List (List ℕ) → Type 0

-- bytes that a message has room for
pub record IsBody (bytes : List ℕ) : Type 0 where
  pub fits : IsBytes bytes
  pub short : length bytes < 0xffff_ffff

-- what is left of a body is no longer than the body
pub IsBody-rest : (bytes front rest : List ℕ) → IsBody bytes → bytes ≡ front ++ rest → IsBytes rest → IsBody rest
IsBody-rest bytes front rest is e fits =
    let short : length rest < 0xffff_ffff = omega (arith, is.short, ap length e, length-append front rest) in
    record { fits = fits; short = short }

pub record Leaves (L : List (List ℕ) → Type 0) (body : List ℕ) (left : ℕ) : Type 0 where
  pub before : List (List ℕ)
  pub rest : List ℕ
  pub parts : body ≡ concat before ++ rest
  pub size : length rest ≡ left
  pub goes_on : (more : List (List ℕ)) × L (before ++ more)
  pub stops : (field : List ℕ) (more : List (List ℕ)) (past : List ℕ) → L (before ++ field ∷ more) → rest ≢ field ++ past
  pub goes_further : L before → rest ≢ []

-- no field of the language stands here
pub leaves_here : (L : Language) (body : List ℕ) (left : ℕ) → length body ≡ left → (more : List (List ℕ)) × L more
    → ((field : List ℕ) (more : List (List ℕ)) (past : List ℕ) → L (field ∷ more) → body ≢ field ++ past)
    → (L [] → body ≢ []) → Leaves L body left
leaves_here L body left size some stops further = record {
  before = [];
  rest = body;
  parts = refl;
  size = size;
  goes_on = some;
  stops = stops;
  goes_further = further;
}

pub leaves_past : (L : Language) (field body rest : List ℕ) (left : ℕ) → body ≡ field ++ rest → Leaves (λ fs. L (field ∷ fs)) rest left
    → Leaves L body left
leaves_past L field body rest left e l = record {
  before = field ∷ l.before;
  rest = l.rest;
  parts = e ∙ ap (λ (t : List ℕ). field ++ t) l.parts ∙ sym (append_assoc field (concat l.before) l.rest);
  size = l.size;
  goes_on = l.goes_on;
  stops = l.stops;
  goes_further = l.goes_further;
}

pub leaves_past_all : (L : Language) (front : List (List ℕ)) (body rest : List ℕ) (left : ℕ) → body ≡ concat front ++ rest
    → Leaves (λ fs. L (front ++ fs)) rest left → Leaves L body left
leaves_past_all L [] body rest left e l = subst (λ (b : List ℕ). Leaves L b left) (sym e) l
leaves_past_all L (f ∷ front) body rest left e l =
    leaves_past L f body (concat front ++ rest) left (e ∙ append_assoc f (concat front) rest)
    (leaves_past_all (λ fs. L (f ∷ fs)) front (concat front ++ rest) rest left refl l)

-- another language with the same lists
pub leaves_as : (L K : Language) (body : List ℕ) (left : ℕ) → ((fs : List (List ℕ)) → L fs → K fs) → ((fs : List (List ℕ)) → K fs → L fs)
    → Leaves L body left → Leaves K body left
leaves_as L K body left to from l = record {
  before = l.before;
  rest = l.rest;
  parts = l.parts;
  size = l.size;
  goes_on = (l.goes_on.0, to (l.before ++ l.goes_on.0) l.goes_on.1);
  stops = λ field more past k. l.stops field more past (from (l.before ++ field ∷ more) k);
  goes_further = λ k. l.goes_further (from l.before k);
}

-- the language of the fields of some messages
pub leaves_at : {M : Type 0} (Fits : M → Type 0) (fields : M → List (List ℕ)) (L : Language) (body : List ℕ) (left : ℕ)
    → ((fs : List (List ℕ)) → L fs → (m : M) × Fits m × (fields m ≡ fs)) → ((m : M) → Fits m → L (fields m))
    → Leaves L body left → LeavesAt Fits fields body left
leaves_at Fits fields L body left to from l =
    let some = to (l.before ++ l.goes_on.0) l.goes_on.1 in
    record {
      before = l.before;
      rest = l.rest;
      parts = l.parts;
      size = l.size;
      goes_on = (some.0, some.1, (l.goes_on.0, some.2));
      stops = λ m field more past fits e. l.stops field more past (subst L e (from m fits));
      goes_further = λ m fits e. l.goes_further (subst L e (from m fits));
    }

-- ---- the end

abbrev pub Nothing : Language
Nothing fs = fs ≡ []

-- a step that failed, or what is done after it
pub bind_err : {A B : Type 0} (r : Result A ℕ) (f : A → Result B ℕ) (left : ℕ) → (r >>= f) ≡ Err left → (r ≡ Err left)
    ⊎ ((x : A) × (r ≡ Ok x) × (f x ≡ Err left))
bind_err (Ok x) f left e = inr (x, refl, e)
bind_err (Err other) f left e = inl (cc)

pub guard_failed : {A : Type 0} (b : Bool) (x : A) (other left : ℕ) → cond b (Ok x) (Err other) ≡ Err left → (b ≡ false) × (other ≡ left)
guard_failed true x other left e = absurd cc
guard_failed false x other left e = (refl, cc)

pub leaves_end : {A : Type 0} (x : A) (rest : List ℕ) (left : ℕ) → whole (x, rest) ≡ Err left → Leaves Nothing rest left
leaves_end x rest left e =
    let g = guard_failed (eqb (length rest) 0) x (length rest) left e in
    leaves_here Nothing rest left g.1 ([], refl) (λ field more past n. absurd cc)
    (λ n nothing. eqb-false (length rest) 0 g.0 (ap length nothing))

-- ---- parts: values that are spelled by some fields

-- a value, and what stands after it
pub record IsParted {A : Type 0} (Fits : A → Type 0) (fields : A → List (List ℕ)) (K : A → List (List ℕ) → Type 0) (fs : List (List ℕ)) :
    Type 0 where
  pub value : A
  pub fits : Fits value
  pub more : List (List ℕ)
  pub parts : fs ≡ fields value ++ more
  pub past : K value more

abbrev pub HasSome : (List (List ℕ) → Type 0) → Type 0
HasSome L = (fs : List (List ℕ)) × L fs

-- A reader of such values: it reads what was written, the fields say which value it is, and where it fails, reading
-- stops at the first field with which nothing goes on.
pub record IsPart {A : Type 0} (Fits : A → Type 0) (fields : A → List (List ℕ)) (read : List ℕ → Result (A × List ℕ) ℕ) : Type 1 where
  pub some : A
  pub some_fits : Fits some
  pub takes : (bytes : List ℕ) (x : A) (rest : List ℕ) → IsBody bytes → read bytes ≡ Ok (x, rest) → (bytes ≡ concat (fields x) ++ rest)
      × IsBody rest × Fits x
  pub one : (x y : A) (more others : List (List ℕ)) → Fits x → Fits y → fields x ++ more ≡ fields y ++ others → (x ≡ y) × (more ≡ others)
  pub leaves : (K : A → List (List ℕ) → Type 0) → ((x : A) → Fits x → HasSome (K x)) → (bytes : List ℕ) (left : ℕ) → IsBody bytes
      → read bytes ≡ Err left → Leaves (IsParted Fits fields K) bytes left

-- after a value stands what may stand after it
pub past_value : {A : Type 0} {Fits : A → Type 0} {fields : A → List (List ℕ)} {read : List ℕ → Result (A × List ℕ) ℕ}
    (part : IsPart Fits fields read) (K : A → List (List ℕ) → Type 0) (x : A) (bytes rest : List ℕ) (left : ℕ) → Fits x
    → bytes ≡ concat (fields x) ++ rest → Leaves (K x) rest left → Leaves (IsParted Fits fields K) bytes left
past_value {A} {Fits} {fields} {read} part K x bytes rest left fits e l =
    let from : (fs : List (List ℕ)) → IsParted Fits fields K (fields x ++ fs) → K x fs = λ fs p.
    let o = part.one x p.value fs p.more fits p.fits p.parts in
    subst (λ (y : A). K y fs) (sym o.0) (subst (λ (t : List (List ℕ)). K p.value t) (sym o.1) p.past)
    in
    leaves_past_all (IsParted Fits fields K) (fields x) bytes rest left e
    (leaves_as (K x) (λ fs. IsParted Fits fields K (fields x ++ fs)) rest left
    (λ fs k. record { value = x; fits = fits; more = fs; parts = refl; past = k }) from l)

-- some value, and something after it
pub some_parted : {A : Type 0} {Fits : A → Type 0} (fields : A → List (List ℕ)) (K : A → List (List ℕ) → Type 0) (x : A) → Fits x
    → HasSome (K x) → HasSome (IsParted Fits fields K)
some_parted fields K x fits some = (fields x ++ some.0, record { value = x; fits = fits; more = some.0; parts = refl; past = some.1 })

-- a value, and what is read after it
pub leaves_then : {A B : Type 0} {Fits : A → Type 0} {fields : A → List (List ℕ)} {read : List ℕ → Result (A × List ℕ) ℕ}
    (part : IsPart Fits fields read) (K : A → List (List ℕ) → Type 0) → ((x : A) → Fits x → HasSome (K x))
    → (next : A × List ℕ → Result B ℕ)
    → (bytes : List ℕ) (left : ℕ) → IsBody bytes → ((x : A) (rest : List ℕ) → Fits x → IsBody rest → bytes ≡ concat (fields x) ++ rest
    → next (x, rest) ≡ Err left → Leaves (K x) rest left)
    → (read bytes >>= next) ≡ Err left → Leaves (IsParted Fits fields K) bytes left
leaves_then {A} {B} {Fits} {fields} {read} part K some next bytes left is past e =
    elim (bind_err (read bytes) next left e) [
      | inl failed ↦ part.leaves K some bytes left is failed
      | inr t ↦
          let taken = part.takes bytes t.0.0 t.0.1 is t.1 in
          past_value part K t.0.0 bytes t.0.1 left taken.2 taken.0 (past t.0.0 t.0.1 taken.2 taken.1 taken.0 t.2)
    ]

-- a value, and nothing after it
pub leaves_last : {A B : Type 0} {Fits : A → Type 0} {fields : A → List (List ℕ)} {read : List ℕ → Result (A × List ℕ) ℕ}
    (part : IsPart Fits fields read) (make : A → B) (bytes : List ℕ) (left : ℕ) → IsBody bytes
    → (read bytes >>= λ (x : A × List ℕ). whole (make x.0, x.1)) ≡ Err left → Leaves (IsParted Fits fields (λ x. Nothing)) bytes left
leaves_last {A} part make bytes left is e =
    leaves_then part (λ x. Nothing) (λ x fits. ([], refl)) (λ (x : A × List ℕ). whole (make x.0, x.1)) bytes left is
    (λ x rest fits body parts end. leaves_end (make x) rest left end) e
