-- Lists as parts of a body: so many entries, a list that its length counts, and lists that a zero byte ends.
use Rattle.std.proofs.Common.{◌≡◌, ℕ, zero, suc, ◌^◌, ◌<◌, ◌≤◌, List, [], ◌∷◌, ◌++◌, length, Result, Ok, Err, refl, sym, ap, subst, ◌∙◌, append_assoc, arith}
use Rattle.std.specs.List.{AllByRecursion, concat, flat_map}
use Rattle.repl_message.specs.declared.back.TheConstants.{LIST_LIMIT}
use Rattle.repl_message.specs.Message.{int16}
use Rattle.repl_message.specs.Decoding.{◌>>=◌}
use Rattle.repl_message.proofs.FieldLaws.{bind_ok, ok_is}
use Rattle.repl_wire.specs.Judging.{int16_at, entries_at, counted_at}
use Rattle.repl_wire.proofs.FieldSpellings.{concat-append}
use Rattle.repl_wire.proofs.Leaving.{Language, IsBody, Leaves, leaves_as, IsParted, HasSome, IsPart, some_parted, leaves_then}
use Rattle.repl_wire.proofs.FieldParts.{field_part, int16_field}

-- ---- so many entries

pub record AreCounted {A : Type 0} (Fits : A → Type 0) (count : ℕ) (xs : List A) : Type 0 where
  pub size : length xs ≡ count
  pub each : AllByRecursion Fits xs

entries_one : {A : Type 0} {Fits : A → Type 0} {fields : A → List (List ℕ)} {read : List ℕ → Result (A × List ℕ) ℕ}
    (part : IsPart Fits fields read) (xs ys : List A) (more others : List (List ℕ)) → length xs ≡ length ys
    → AllByRecursion Fits xs → AllByRecursion Fits ys → flat_map fields xs ++ more ≡ flat_map fields ys ++ others → (xs ≡ ys)
    × (more ≡ others)
entries_one part [] [] more others len xs_fit ys_fit e = (refl, e)
entries_one part [] (y ∷ ys) more others len xs_fit ys_fit e = absurd (omega (arith, len))
entries_one part (x ∷ xs) [] more others len xs_fit ys_fit e = absurd (omega (arith, len))
entries_one {A} {Fits} {fields} {read} part (x ∷ xs) (y ∷ ys) more others len xs_fit ys_fit e =
    let regrouped = sym (append_assoc (fields x) (flat_map fields xs) more) ∙ e ∙ append_assoc (fields y) (flat_map fields ys) others in
    let first = part.one x y (flat_map fields xs ++ more) (flat_map fields ys ++ others) xs_fit.0 ys_fit.0 regrouped in
    let rest = entries_one part xs ys more others (omega arith) xs_fit.1 ys_fit.1 first.1 in
    let head = first.0 in
    let tail = rest.0 in
    (cc, rest.1)

abbrev past_others : {A : Type 0} → A → List A × List ℕ → Result (List A × List ℕ) ℕ
past_others x others = Ok (x ∷ others.0, others.1)

abbrev past_first : {A : Type 0} → (List ℕ → Result (A × List ℕ) ℕ) → ℕ → A × List ℕ → Result (List A × List ℕ) ℕ
past_first read count first = entries_at read count first.1 >>= past_others first.0

-- an entry, and the others
cons_parts : (bytes mid rest : List ℕ) (first others : List (List ℕ)) → bytes ≡ concat first ++ mid → mid ≡ concat others ++ rest → bytes
    ≡ concat (first ++ others) ++ rest
cons_parts bytes mid rest first others e f =
    e ∙ ap (λ (t : List ℕ). concat first ++ t) f ∙ sym (append_assoc (concat first) (concat others) rest)
    ∙ ap (λ (t : List ℕ). t ++ rest) (sym (concat-append first others))

abbrev AreTaken : {A : Type 0} → (A → Type 0) → (A → List (List ℕ)) → ℕ → List ℕ → List A × List ℕ → Type 0
AreTaken Fits fields count bytes x = (bytes ≡ concat (flat_map fields x.0) ++ x.1) × IsBody x.1 × AreCounted Fits count x.0

entries_take : {A : Type 0} {Fits : A → Type 0} {fields : A → List (List ℕ)} {read : List ℕ → Result (A × List ℕ) ℕ}
    (part : IsPart Fits fields read) (count : ℕ) (bytes : List ℕ) (x : List A × List ℕ) → IsBody bytes
    → entries_at read count bytes ≡ Ok x → AreTaken Fits fields count bytes x
unfolding entries_at
entries_take {A} {Fits} {fields} {read} part zero bytes x is e =
    subst (AreTaken Fits fields 0 bytes) {x = ([], bytes)} (ok_is ([], bytes) x e) (refl, is, record { size = refl; each = tt })
entries_take {A} {Fits} {fields} {read} part (suc count) bytes x is e =
    let a = bind_ok (read bytes) (past_first read count) x e in
    let o = bind_ok (entries_at read count a.0.1) (past_others a.0.0) x a.2 in
    let first = part.takes bytes a.0.0 a.0.1 is a.1 in
    let others = entries_take part count a.0.1 o.0 first.1 o.1 in
    subst (AreTaken Fits fields (suc count) bytes) {x = (a.0.0 ∷ o.0.0, o.0.1)} (ok_is (a.0.0 ∷ o.0.0, o.0.1) x o.2) (
      cons_parts bytes a.0.1 o.0.1 (fields a.0.0) (flat_map fields o.0.0) first.0 others.0,
      others.1,
      record { size = ap suc others.2.size; each = (first.2, others.2.each) },
    )

-- some list of so many entries
entries_some : {A : Type 0} (Fits : A → Type 0) (x : A) → Fits x → (count : ℕ) → (xs : List A) × AreCounted Fits count xs
entries_some Fits x fits zero = ([], record { size = refl; each = tt })
entries_some Fits x fits (suc count) =
    let others = entries_some Fits x fits count in
    (x ∷ others.0, record { size = ap suc others.1.size; each = (fits, others.1.each) })

-- the step after a reader that cannot fail did not fail
others_failed : {A : Type 0} (r : Result (List A × List ℕ) ℕ) (x : A) (left : ℕ) → (r >>= past_others x) ≡ Err left → r ≡ Err left
others_failed (Ok others) x left e = absurd cc
others_failed (Err n) x left e = cc

-- what stands after the first of the entries
abbrev Others : {A : Type 0} → (A → Type 0) → (A → List (List ℕ)) → ℕ → (List A → Language) → A → Language
Others Fits fields count K x = IsParted (AreCounted Fits count) (flat_map fields) (λ xs. K (x ∷ xs))

entries_to : {A : Type 0} (Fits : A → Type 0) (fields : A → List (List ℕ)) (count : ℕ) (K : List A → Language) (fs : List (List ℕ))
    → IsParted Fits fields (Others Fits fields count K) fs → IsParted (AreCounted Fits (suc count)) (flat_map fields) K fs
entries_to Fits fields count K fs p = record {
  value = p.value ∷ p.past.value;
  fits = record { size = ap suc p.past.fits.size; each = (p.fits, p.past.fits.each) };
  more = p.past.more;
  parts = p.parts ∙ ap (λ (t : List (List ℕ)). fields p.value ++ t) p.past.parts
      ∙ sym (append_assoc (fields p.value) (flat_map fields p.past.value) p.past.more);
  past = p.past.past;
}

entries_from : {A : Type 0} (Fits : A → Type 0) (fields : A → List (List ℕ)) (count : ℕ) (K : List A → Language) (fs : List (List ℕ))
    (xs : List A) (more : List (List ℕ)) → AreCounted Fits (suc count) xs → fs ≡ flat_map fields xs ++ more → K xs more
    → IsParted Fits fields (Others Fits fields count K) fs
entries_from Fits fields count K fs [] more are parts k = absurd (omega (arith, are.size))
entries_from Fits fields count K fs (x ∷ xs) more are parts k = record {
  value = x;
  fits = are.each.0;
  more = flat_map fields xs ++ more;
  parts = parts ∙ append_assoc (fields x) (flat_map fields xs) more;
  past = record {
    value = xs;
    fits = record { size = omega (arith, are.size); each = are.each.1 };
    more = more;
    parts = refl;
    past = k;
  };
}

entries_leave : {A : Type 0} {Fits : A → Type 0} {fields : A → List (List ℕ)} {read : List ℕ → Result (A × List ℕ) ℕ}
    (part : IsPart Fits fields read) (count : ℕ) (K : List A → List (List ℕ) → Type 0)
    → ((xs : List A) → AreCounted Fits count xs → HasSome (K xs))
    → (bytes : List ℕ) (left : ℕ) → IsBody bytes → entries_at read count bytes ≡ Err left
    → Leaves (IsParted (AreCounted Fits count) (flat_map fields) K) bytes left
unfolding entries_at
entries_leave part zero K some bytes left is e = absurd cc
entries_leave {A} {Fits} {fields} {read} part (suc count) K some bytes left is e =
    let goes_on : (x : A) → Fits x → HasSome (Others Fits fields count K x) = λ x fits.
    let xs = entries_some Fits part.some part.some_fits count in
    some_parted (flat_map fields) (λ ys. K (x ∷ ys)) xs.0 xs.1
    (some (x ∷ xs.0) (record { size = ap suc xs.1.size; each = (fits, xs.1.each) }))
    in
    leaves_as (IsParted Fits fields (Others Fits fields count K)) (IsParted (AreCounted Fits (suc count)) (flat_map fields) K) bytes left
    (entries_to Fits fields count K)
    (λ fs p. entries_from Fits fields count K fs p.value p.more p.fits p.parts p.past)
    (leaves_then part (Others Fits fields count K) goes_on (past_first read count) bytes left is
    (λ x rest fits body parts failed. entries_leave part count (λ xs. K (x ∷ xs))
    (λ xs are. some (x ∷ xs) (record { size = ap suc are.size; each = (fits, are.each) })) rest left body
    (others_failed (entries_at read count rest) x left failed)) e)

pub entries_part : {A : Type 0} {Fits : A → Type 0} {fields : A → List (List ℕ)} {read : List ℕ → Result (A × List ℕ) ℕ}
    (part : IsPart Fits fields read) (count : ℕ) → IsPart (AreCounted Fits count) (flat_map fields) (entries_at read count)
entries_part {A} {Fits} {fields} {read} part count = record {
  some = (entries_some Fits part.some part.some_fits count).0;
  some_fits = (entries_some Fits part.some part.some_fits count).1;
  takes = λ bytes x rest is e. entries_take part count bytes (x, rest) is e;
  one = λ xs ys more others xs_fit ys_fit e. entries_one part xs ys more others (xs_fit.size ∙ sym ys_fit.size) xs_fit.each ys_fit.each e;
  leaves = entries_leave part count;
}

-- ---- a list that its length counts

pub record IsListed {A : Type 0} (Fits : A → Type 0) (xs : List A) : Type 0 where
  pub few : length xs ≤ LIST_LIMIT
  pub each : AllByRecursion Fits xs

abbrev pub counted_fields : {A : Type 0} → (A → List (List ℕ)) → List A → List (List ℕ)
counted_fields fields xs = int16 (length xs) ∷ flat_map fields xs

abbrev past_count : {A : Type 0} → (List ℕ → Result (A × List ℕ) ℕ) → ℕ × List ℕ → Result (List A × List ℕ) ℕ
past_count read count = entries_at read count.0 count.1

counted_take : {A : Type 0} {Fits : A → Type 0} {fields : A → List (List ℕ)} {read : List ℕ → Result (A × List ℕ) ℕ}
    (part : IsPart Fits fields read) (bytes : List ℕ) (xs : List A) (rest : List ℕ) → IsBody bytes
    → counted_at read bytes ≡ Ok (xs, rest) → (bytes ≡ concat (counted_fields fields xs) ++ rest) × IsBody rest × IsListed Fits xs
counted_take {A} {Fits} {fields} {read} part bytes xs rest is e =
    let a = bind_ok (int16_at bytes) (past_count read) (xs, rest) e in
    let count = int16_field.takes bytes a.0.0 a.0.1 is a.1 in
    let entries = entries_take part a.0.0 a.0.1 (xs, rest) count.1 a.2 in
    let size = entries.2.size in (
      count.0 ∙ ap (λ (t : List ℕ). int16 a.0.0 ++ t) entries.0
          ∙ ap (λ (n : ℕ). int16 n ++ (concat (flat_map fields xs) ++ rest)) (sym size),
      entries.1,
      record { few = omega (arith, count.2, size); each = entries.2.each },
    )

-- what stands after the length of a list
abbrev Entries : {A : Type 0} → (A → Type 0) → (A → List (List ℕ)) → (List A → Language) → ℕ → Language
Entries Fits fields K count = IsParted (AreCounted Fits count) (flat_map fields) K

counted_to : {A : Type 0} (Fits : A → Type 0) (fields : A → List (List ℕ)) (K : List A → Language) (fs : List (List ℕ))
    → IsParted (λ n. n < 2 ^ 16) (λ n. int16 n ∷ []) (Entries Fits fields K) fs → IsParted (IsListed Fits) (counted_fields fields) K fs
counted_to Fits fields K fs p =
    let size = p.past.fits.size in
    record {
      value = p.past.value;
      fits = record { few = omega (arith, p.fits, size); each = p.past.fits.each };
      more = p.past.more;
      parts = p.parts ∙ ap (λ (t : List (List ℕ)). int16 p.value ∷ t) p.past.parts
          ∙ ap (λ (n : ℕ). int16 n ∷ (flat_map fields p.past.value ++ p.past.more)) (sym size);
      past = p.past.past;
    }

counted_from : {A : Type 0} (Fits : A → Type 0) (fields : A → List (List ℕ)) (K : List A → Language) (fs : List (List ℕ))
    → IsParted (IsListed Fits) (counted_fields fields) K fs → IsParted (λ n. n < 2 ^ 16) (λ n. int16 n ∷ []) (Entries Fits fields K) fs
counted_from Fits fields K fs p = record {
  value = length p.value;
  fits = omega (arith, p.fits.few);
  more = flat_map fields p.value ++ p.more;
  parts = p.parts;
  past = record { value = p.value; fits = record { size = refl; each = p.fits.each }; more = p.more; parts = refl; past = p.past };
}

counted_leave : {A : Type 0} {Fits : A → Type 0} {fields : A → List (List ℕ)} {read : List ℕ → Result (A × List ℕ) ℕ}
    (part : IsPart Fits fields read) (K : List A → List (List ℕ) → Type 0) → ((xs : List A) → IsListed Fits xs → HasSome (K xs))
    → (bytes : List ℕ) (left : ℕ) → IsBody bytes → counted_at read bytes ≡ Err left
    → Leaves (IsParted (IsListed Fits) (counted_fields fields) K) bytes left
counted_leave {A} {Fits} {fields} {read} part K some bytes left is e =
    let all : (n : ℕ) → n < 2 ^ 16 → (xs : List A) → AreCounted Fits n xs
    → HasSome (K xs) = λ n below xs are. some xs (record { few = omega (arith, are.size); each = are.each }) in
    let goes_on : (n : ℕ) → n < 2 ^ 16 → HasSome (Entries Fits fields K n) = λ n below.
    let xs = entries_some Fits part.some part.some_fits n in
    some_parted (flat_map fields) K xs.0 xs.1 (all n below xs.0 xs.1)
    in
    leaves_as (IsParted (λ n. n < 2 ^ 16) (λ n. int16 n ∷ []) (Entries Fits fields K)) (IsParted (IsListed Fits) (counted_fields fields) K)
    bytes left (counted_to Fits fields K) (counted_from Fits fields K)
    (leaves_then (field_part int16_field) (Entries Fits fields K) goes_on (past_count read) bytes left is
    (λ n rest below body parts failed. entries_leave part n K (all n below) rest left body failed) e)

pub counted_part : {A : Type 0} {Fits : A → Type 0} {fields : A → List (List ℕ)} {read : List ℕ → Result (A × List ℕ) ℕ}
    → IsPart Fits fields read → IsPart (IsListed Fits) (counted_fields fields) (counted_at read)
counted_part {A} {Fits} {fields} {read} part = record {
  some = [];
  some_fits = record { few = omega arith; each = tt };
  takes = counted_take part;
  one = λ xs ys more others xs_fit ys_fit e.
      let first : int16 (length xs) ≡ int16 (length ys) = cc in
      let rest : flat_map fields xs ++ more ≡ flat_map fields ys ++ others = cc in
      let size = int16_field.one (length xs) (length ys) (omega (arith, xs_fit.few)) (omega (arith, ys_fit.few)) first in
      entries_one part xs ys more others size xs_fit.each ys_fit.each rest;
  leaves = counted_leave part;
}
