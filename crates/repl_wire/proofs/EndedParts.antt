-- Lists that a zero byte ends, as parts of a body: the pairs of a startup packet, and the fields of an error.
use Rattle.std.proofs.Common.{◌≡◌, ◌≢◌, ℕ, zero, suc, ◌<◌, ◌≤◌, List, [], ◌∷◌, ◌++◌, length, Result, Ok, Err, refl, sym, ap, subst, ◌∙◌, append_assoc, arith, inl, inr}
use Rattle.std.specs.List.{AllByRecursion, concat, flat_map}
use Rattle.std.proofs.lemmas.List.{length-append, nil_from_length}
use Rattle.std.proofs.lemmas.List.Elements.{All-nil}
use Rattle.repl_text.specs.Text.{IsText}
use Rattle.repl_message.specs.declared.startup.Pair.{Pair}
use Rattle.repl_message.specs.declared.back.ErrorField.{ErrorField}
use Rattle.repl_message.specs.Message.{string, pair, ended, FitsPair, FitsErrorField}
use Rattle.repl_message.specs.Decoding.{◌>>=◌, string_at}
use Rattle.repl_message.proofs.FieldLaws.{IsBytes-rest, bind_ok, ok_is, string_first}
use Rattle.repl_wire.specs.Judging.{pairs_at, coded_at}
use Rattle.repl_wire.specs.Places.{pair_fields, coded_fields}
use Rattle.repl_wire.proofs.PairLaws.{after_value, after_name, pairs_take}
use Rattle.repl_wire.proofs.FieldSpellings.{concat-ended, pair_is}
use Rattle.repl_wire.proofs.Leaving.{Language, IsBody, IsBody-rest, Leaves, leaves_here, leaves_past, leaves_as, bind_err, IsParted, HasSome, IsPart, some_parted, leaves_then}
use Rattle.repl_wire.proofs.FieldParts.{field_part, text_field}

-- the fields of a list that a zero byte ends
abbrev pub ended_fields : {A : Type 0} → (A → List (List ℕ)) → List A → List (List ℕ)
ended_fields fields xs = flat_map fields xs ++ (0 ∷ []) ∷ []

-- the end of a list is no entry
abbrev IsMarkedBy : {A : Type 0} → (A → Type 0) → (A → List (List ℕ)) → Type 0
IsMarkedBy {A} Fits fields = (x : A) (more others : List (List ℕ)) → Fits x → fields x ++ more ≢ (0 ∷ []) ∷ others

abbrev IsToldBy : {A : Type 0} → (A → Type 0) → (A → List (List ℕ)) → Type 0
IsToldBy {A} Fits fields = (x y : A) (more others : List (List ℕ)) → Fits x → Fits y → fields x ++ more ≡ fields y ++ others → (x ≡ y)
    × (more ≡ others)

ended_cons : {A : Type 0} (fields : A → List (List ℕ)) (x : A) (xs : List A) (more : List (List ℕ)) → ended_fields fields (x ∷ xs) ++ more
    ≡ fields x ++ (ended_fields fields xs ++ more)
ended_cons fields x xs more = ap (λ (t : List (List ℕ)). t ++ more) (append_assoc (fields x) (flat_map fields xs) ((0 ∷ []) ∷ []))
    ∙ append_assoc (fields x) (ended_fields fields xs) more

ended_one : {A : Type 0} (Fits : A → Type 0) (fields : A → List (List ℕ)) → IsToldBy Fits fields → IsMarkedBy Fits fields
    → (xs ys : List A) (more others : List (List ℕ)) → AllByRecursion Fits xs → AllByRecursion Fits ys
    → ended_fields fields xs ++ more ≡ ended_fields fields ys ++ others → (xs ≡ ys) × (more ≡ others)
ended_one Fits fields told marked [] [] more others xs_fit ys_fit e = (refl, cc)
ended_one Fits fields told marked [] (y ∷ ys) more others xs_fit ys_fit e =
    absurd (marked y (ended_fields fields ys ++ others) more ys_fit.0 (sym (e ∙ ended_cons fields y ys others)))
ended_one Fits fields told marked (x ∷ xs) [] more others xs_fit ys_fit e =
    absurd (marked x (ended_fields fields xs ++ more) others xs_fit.0 (sym (ended_cons fields x xs more) ∙ e))
ended_one {A} Fits fields told marked (x ∷ xs) (y ∷ ys) more others xs_fit ys_fit e =
    let first = told x y (ended_fields fields xs ++ more) (ended_fields fields ys ++ others) xs_fit.0 ys_fit.0
    (sym (ended_cons fields x xs more) ∙ e ∙ ended_cons fields y ys others) in
    let rest = ended_one Fits fields told marked xs ys more others xs_fit.1 ys_fit.1 first.1 in
    let head = first.0 in
    let tail = rest.0 in
    (cc, rest.1)

-- the end is there
ended_some : {A : Type 0} (fields : A → List (List ℕ)) (xs : List A) (more : List (List ℕ)) → [] ≢ ended_fields fields xs ++ more
ended_some fields xs more e = omega (
  arith,
  ap length e,
  length-append (ended_fields fields xs) more,
  length-append (flat_map fields xs) ((0 ∷ []) ∷ []),
)

-- the step after a reader that cannot fail did not fail
step_failed : {A B : Type 0} (r : Result A ℕ) (make : A → B) (left : ℕ) → (r >>= λ x. Ok (make x)) ≡ Err left → r ≡ Err left
step_failed (Ok x) make left e = absurd cc
step_failed (Err n) make left e = cc

-- ---- pairs

abbrev Pairs : (List Pair → Language) → Language
Pairs K = IsParted (AllByRecursion FitsPair) (ended_fields pair_fields) K

string_marked : (text : List ℕ) (more others : List (List ℕ)) → 0 < length text → string text ∷ more ≢ (0 ∷ []) ∷ others
string_marked text more others some e =
    let first : string text ≡ 0 ∷ [] = cc in
    omega (arith, some, ap length first, length-append text (0 ∷ []))

pairs_told : IsToldBy FitsPair pair_fields
pairs_told p q more others p_fits q_fits e =
    let first : string p.name ≡ string q.name = cc in
    let second : string p.value ≡ string q.value = cc in
    let name = text_field.one p.name q.name p_fits.name q_fits.name first in
    let value = text_field.one p.value q.value p_fits.value q_fits.value second in
    (λ i. record { name = name i; value = value i }, cc)

pairs_marked : IsMarkedBy FitsPair pair_fields
pairs_marked p more others fits e = string_marked p.name (string p.value ∷ more) others fits.named e

-- the field that stands first is a string
first_string : (ps : List Pair) (field : List ℕ) (more others : List (List ℕ)) → AllByRecursion FitsPair ps → field ∷ more
    ≡ ended_fields pair_fields ps ++ others → (t : List ℕ) × IsText t × (field ≡ string t)
first_string [] field more others fits e = ([], All-nil (λ (b : ℕ). (0 < b) × (b < 256)), cc)
first_string (p ∷ ps) field more others fits e = (p.name, fits.0.name, cc)

-- where no string stands, no pair and no end stands
pairs_here : (K : List Pair → Language) → HasSome (K []) → (bytes : List ℕ) (left : ℕ) → length bytes ≡ left
    → ((t : List ℕ) (past : List ℕ) → IsText t → bytes ≢ string t ++ past) → Leaves (Pairs K) bytes left
pairs_here K some bytes left size none =
    leaves_here (Pairs K) bytes left size (some_parted (ended_fields pair_fields) K [] tt some)
    (λ field more past p b. let t = first_string p.value field more p.more p.fits p.parts in
    none t.0 past t.1 (b ∙ ap (λ (s : List ℕ). s ++ past) t.2))
    (λ p. absurd (ended_some pair_fields p.value p.more p.parts))

no_string : (bytes t past : List ℕ) → bytes ≡ [] → bytes ≢ string t ++ past
no_string bytes t past none e = omega (arith, ap length (sym none ∙ e), length-append (string t) past, length-append t (0 ∷ []))

-- after a name
abbrev Valued : (List Pair → Language) → List ℕ → List ℕ → Language
Valued K name value = Pairs (λ ps. K (record { name = name; value = value } ∷ ps))

pairs_to : (K : List Pair → Language) (name : List ℕ) → 0 < length name → IsText name → (fs : List (List ℕ))
    → IsParted IsText (λ t. string t ∷ []) (Valued K name) fs → Pairs K (string name ∷ fs)
pairs_to K name named fits fs p = record {
  value = record { name = name; value = p.value } ∷ p.past.value;
  fits = (record { named = named; name = fits; value = p.fits }, p.past.fits);
  more = p.past.more;
  parts = ap (λ (t : List (List ℕ)). string name ∷ t) (p.parts ∙ ap (λ (t : List (List ℕ)). string p.value ∷ t) p.past.parts);
  past = p.past.past;
}

pairs_from : (K : List Pair → Language) (name : List ℕ) → 0 < length name → IsText name
    → (fs : List (List ℕ)) (ps : List Pair) (more : List (List ℕ)) → AllByRecursion FitsPair ps → string name ∷ fs
    ≡ ended_fields pair_fields ps ++ more → K ps more
    → IsParted IsText (λ t. string t ∷ []) (Valued K name) fs
pairs_from K name named fits fs [] more are parts k = absurd (string_marked name fs more named parts)
pairs_from K name named fits fs (p ∷ ps) more are parts k =
    let first : string p.name ≡ string name = cc in
    let same = text_field.one p.name name are.0.name fits first in
    record {
      value = p.value;
      fits = are.0.value;
      more = ended_fields pair_fields ps ++ more;
      parts = cc;
      past = record {
        value = ps;
        fits = are.1;
        more = more;
        parts = refl;
        past = subst (λ (n : List ℕ). K (record { name = n; value = p.value } ∷ ps) more) same k;
      };
    }

pairs_leave : (turns : ℕ) (K : List Pair → List (List ℕ) → Type 0) → ((ps : List Pair) → AllByRecursion FitsPair ps → HasSome (K ps))
    → (bytes : List ℕ) (left : ℕ) → length bytes ≤ turns → IsBody bytes → pairs_at turns bytes ≡ Err left → Leaves (Pairs K) bytes left
unfolding pairs_at
pairs_leave zero K some bytes left long is e =
    let none = nil_from_length bytes (omega arith) in
    pairs_here K (some [] tt) bytes left (cc) (λ t past fits. no_string bytes t past none)
pairs_leave (suc turns) K some [] left long is e = pairs_here K (some [] tt) [] left (cc) (λ t past fits. no_string [] t past refl)
pairs_leave (suc turns) K some (zero ∷ bytes) left long is e = absurd cc
pairs_leave (suc turns) K some (suc b ∷ bytes) left long is e =
    elim (bind_err (string_at (suc b ∷ bytes)) (after_name turns) left e) [
      | inl failed ↦
          let r = text_field.refuses (suc b ∷ bytes) left is failed in
          pairs_here K (some [] tt) (suc b ∷ bytes) left r.0 r.1
      | inr a ↦
          let name = text_field.takes (suc b ∷ bytes) a.0.0 a.0.1 is a.1 in
          let named = string_first b bytes a.0.0 a.0.1 a.1 in
          let some_past : (v : List ℕ) → IsText v → (ps : List Pair) → AllByRecursion FitsPair ps
          → HasSome (K (record { name = a.0.0; value = v } ∷ ps)) = λ v fits ps are.
          some (record { name = a.0.0; value = v } ∷ ps) (record { named = named; name = name.2; value = fits }, are)
          in
          let goes_on : (v : List ℕ) → IsText v → HasSome (Valued K a.0.0 v) =
          λ v fits. some_parted (ended_fields pair_fields) (λ ps. K (record { name = a.0.0; value = v } ∷ ps)) [] tt
          (some_past v fits [] tt) in
          leaves_past (Pairs K) (string a.0.0) (suc b ∷ bytes) a.0.1 left name.0
          (leaves_as (IsParted IsText (λ t. string t ∷ []) (Valued K a.0.0)) (λ fs. Pairs K (string a.0.0 ∷ fs)) a.0.1 left
          (pairs_to K a.0.0 named name.2)
          (λ fs p. pairs_from K a.0.0 named name.2 fs p.value p.more p.fits p.parts p.past)
          (leaves_then (field_part text_field) (Valued K a.0.0) goes_on (after_value turns a.0.0) a.0.1 left name.1
          (λ v rest fits body parts failed. pairs_leave turns (λ ps. K (record { name = a.0.0; value = v } ∷ ps)) (some_past v fits) rest
          left
          (omega (
            arith,
            long,
            ap length name.0,
            length-append (string a.0.0) a.0.1,
            length-append a.0.0 (0 ∷ []),
            ap length parts,
            length-append (concat (string v ∷ [])) rest,
          )) body (step_failed (pairs_at turns rest) _ left failed)) a.2))
    ]

pub pairs_part : IsPart (AllByRecursion FitsPair) (ended_fields pair_fields) (λ bytes. pairs_at (length bytes) bytes)
pairs_part = record {
  some = [];
  some_fits = tt;
  takes = λ bytes ps rest is e.
      let t = pairs_take (length bytes) bytes (ps, rest) is.fits e in
      let spelled = concat-ended pair_fields pair pair_is ps in
      (t.0.parts ∙ ap (λ (s : List ℕ). s ++ rest) spelled, IsBody-rest bytes (ended pair ps) rest is t.0.parts t.0.rest_fits, t.1);
  one = ended_one FitsPair pair_fields pairs_told pairs_marked;
  leaves = λ K some bytes left is e. pairs_leave (length bytes) K some bytes left (omega arith) is e;
}

-- ---- the fields of an error

abbrev Coded : (List ErrorField → Language) → Language
Coded K = IsParted (AllByRecursion FitsErrorField) (ended_fields coded_fields) K

coded_told : IsToldBy FitsErrorField coded_fields
coded_told f g more others f_fits g_fits e =
    let code : f.code ≡ g.code = cc in
    let second : string f.text ≡ string g.text = cc in
    let text = text_field.one f.text g.text f_fits.text g_fits.text second in
    (λ i. record { code = code i; text = text i }, cc)

coded_marked : IsMarkedBy FitsErrorField coded_fields
coded_marked f more others fits e =
    let code : f.code ≡ 0 = cc in
    omega (arith, fits.coded, code)

-- the field that stands first is a byte
first_byte : (xs : List ErrorField) (field : List ℕ) (more others : List (List ℕ)) → field ∷ more ≡ ended_fields coded_fields xs ++ others
    → (b : ℕ) × (field ≡ b ∷ [])
first_byte [] field more others e = (0, cc)
first_byte (f ∷ fs) field more others e = (f.code, cc)

coded_here : (K : List ErrorField → Language) → HasSome (K []) → (bytes : List ℕ) (left : ℕ) → length bytes ≡ left → bytes ≡ []
    → Leaves (Coded K) bytes left
coded_here K some bytes left size none =
    leaves_here (Coded K) bytes left size (some_parted (ended_fields coded_fields) K [] tt some)
    (λ field more past p b. let t = first_byte p.value field more p.more p.parts in
    absurd (let first = t.1 in let all : [] ≡ (t.0 ∷ []) ++ past = sym none ∙ b ∙ ap (λ (s : List ℕ). s ++ past) first in cc))
    (λ p. absurd (ended_some coded_fields p.value p.more p.parts))

-- after a code
abbrev Texted : (List ErrorField → Language) → ℕ → List ℕ → Language
Texted K code text = Coded (λ xs. K (record { code = code; text = text } ∷ xs))

coded_to : (K : List ErrorField → Language) (code : ℕ) → 0 < code → code < 256 → (fs : List (List ℕ))
    → IsParted IsText (λ t. string t ∷ []) (Texted K code) fs → Coded K ((code ∷ []) ∷ fs)
coded_to K code coded below fs p = record {
  value = record { code = code; text = p.value } ∷ p.past.value;
  fits = (record { coded = coded; code = below; text = p.fits }, p.past.fits);
  more = p.past.more;
  parts = ap (λ (t : List (List ℕ)). (code ∷ []) ∷ t) (p.parts ∙ ap (λ (t : List (List ℕ)). string p.value ∷ t) p.past.parts);
  past = p.past.past;
}

coded_from : (K : List ErrorField → Language) (code : ℕ) → 0 < code → (fs : List (List ℕ)) (xs : List ErrorField) (more : List (List ℕ))
    → AllByRecursion FitsErrorField xs → (code ∷ []) ∷ fs ≡ ended_fields coded_fields xs ++ more → K xs more
    → IsParted IsText (λ t. string t ∷ []) (Texted K code) fs
coded_from K code coded fs [] more are parts k = absurd (let none : code ≡ 0 = cc in omega (arith, coded, none))
coded_from K code coded fs (f ∷ xs) more are parts k =
    let same : f.code ≡ code = cc in
    record {
      value = f.text;
      fits = are.0.text;
      more = ended_fields coded_fields xs ++ more;
      parts = cc;
      past = record {
        value = xs;
        fits = are.1;
        more = more;
        parts = refl;
        past = subst (λ (c : ℕ). K (record { code = c; text = f.text } ∷ xs) more) same k;
      };
    }

abbrev after_coded : ℕ → List ℕ → List ErrorField × List ℕ → Result (List ErrorField × List ℕ) ℕ
after_coded code text others = Ok (record { code = code; text = text } ∷ others.0, others.1)

abbrev after_text : ℕ → ℕ → List ℕ × List ℕ → Result (List ErrorField × List ℕ) ℕ
after_text turns code text = coded_at turns text.1 >>= after_coded code text.0

coded_leave : (turns : ℕ) (K : List ErrorField → List (List ℕ) → Type 0)
    → ((xs : List ErrorField) → AllByRecursion FitsErrorField xs → HasSome (K xs)) → (bytes : List ℕ) (left : ℕ) → length bytes ≤ turns
    → IsBody bytes → coded_at turns bytes ≡ Err left → Leaves (Coded K) bytes left
unfolding coded_at
coded_leave zero K some bytes left long is e = coded_here K (some [] tt) bytes left (cc) (nil_from_length bytes (omega arith))
coded_leave (suc turns) K some [] left long is e = coded_here K (some [] tt) [] left (cc) refl
coded_leave (suc turns) K some (zero ∷ bytes) left long is e = absurd cc
coded_leave (suc turns) K some (suc c ∷ bytes) left long is e =
    let code = suc c in
    let below : code < 256 = is.fits 0 in
    let body : IsBody bytes = IsBody-rest (code ∷ bytes) (code ∷ []) bytes is refl (IsBytes-rest code bytes is.fits) in
    let some_past : (t : List ℕ) → IsText t → (xs : List ErrorField) → AllByRecursion FitsErrorField xs
    → HasSome (K (record { code = code; text = t } ∷ xs)) = λ t fits xs are.
    some (record { code = code; text = t } ∷ xs) (record { coded = omega arith; code = below; text = fits }, are)
    in
    let goes_on : (t : List ℕ) → IsText t → HasSome (Texted K code t) =
    λ t fits. some_parted (ended_fields coded_fields) (λ xs. K (record { code = code; text = t } ∷ xs)) [] tt (some_past t fits [] tt)
    in
    leaves_past (Coded K) (code ∷ []) (code ∷ bytes) bytes left refl
    (leaves_as (IsParted IsText (λ t. string t ∷ []) (Texted K code)) (λ fs. Coded K ((code ∷ []) ∷ fs)) bytes left
    (coded_to K code (omega arith) below)
    (λ fs p. coded_from K code (omega arith) fs p.value p.more p.fits p.parts p.past)
    (leaves_then (field_part text_field) (Texted K code) goes_on (after_text turns code) bytes left body
    (λ t rest fits shorter parts failed. coded_leave turns (λ xs. K (record { code = code; text = t } ∷ xs)) (some_past t fits) rest left
    (omega (arith, long, ap length parts, length-append (concat (string t ∷ [])) rest)) shorter
    (step_failed (coded_at turns rest) _ left failed)) e))

abbrev AreCodedFrom : List ℕ → List ErrorField × List ℕ → Type 0
AreCodedFrom bytes x = (bytes ≡ concat (ended_fields coded_fields x.0) ++ x.1) × IsBody x.1 × AllByRecursion FitsErrorField x.0

coded_take : (turns : ℕ) (bytes : List ℕ) (x : List ErrorField × List ℕ) → IsBody bytes → coded_at turns bytes ≡ Ok x → AreCodedFrom bytes x
unfolding coded_at
coded_take zero bytes x is e = absurd cc
coded_take (suc turns) [] x is e = absurd cc
coded_take (suc turns) (zero ∷ bytes) x is e = subst (AreCodedFrom (0 ∷ bytes)) {x = ([], bytes)} (ok_is ([], bytes) x e)
    (refl, IsBody-rest (0 ∷ bytes) (0 ∷ []) bytes is refl (IsBytes-rest 0 bytes is.fits), tt)
coded_take (suc turns) (suc c ∷ bytes) x is e =
    let code = suc c in
    let body : IsBody bytes = IsBody-rest (code ∷ bytes) (code ∷ []) bytes is refl (IsBytes-rest code bytes is.fits) in
    let a = bind_ok (string_at bytes) (after_text turns code) x e in
    let o = bind_ok (coded_at turns a.0.1) (after_coded code a.0.0) x a.2 in
    let text = text_field.takes bytes a.0.0 a.0.1 body a.1 in
    let others = coded_take turns a.0.1 o.0 text.1 o.1 in
    let past : bytes ≡ (string a.0.0 ++ concat (ended_fields coded_fields o.0.0)) ++ o.0.1 =
    text.0 ∙ ap (λ (t : List ℕ). string a.0.0 ++ t) others.0
    ∙ sym (append_assoc (string a.0.0) (concat (ended_fields coded_fields o.0.0)) o.0.1)
    in
    subst (AreCodedFrom (code ∷ bytes)) {x = (record { code = code; text = a.0.0 } ∷ o.0.0, o.0.1)}
    (ok_is (record { code = code; text = a.0.0 } ∷ o.0.0, o.0.1) x o.2)
    (ap (λ (t : List ℕ). code ∷ t) past, others.1, (record { coded = omega arith; code = is.fits 0; text = text.2 }, others.2))

pub coded_part : IsPart (AllByRecursion FitsErrorField) (ended_fields coded_fields) (λ bytes. coded_at (length bytes) bytes)
coded_part = record {
  some = [];
  some_fits = tt;
  takes = λ bytes xs rest is e. coded_take (length bytes) bytes (xs, rest) is e;
  one = ended_one FitsErrorField coded_fields coded_told coded_marked;
  leaves = λ K some bytes left is e. coded_leave (length bytes) K some bytes left (omega arith) is e;
}
