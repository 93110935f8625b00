-- Pairs of strings: what is read was written so, what was written is read again, and reading them one
-- after the other, as a loop does.
use Rattle.std.proofs.Common.{◌≡◌, ℕ, zero, suc, ◌+◌, ◌-◌, ◌<◌, ◌≤◌, List, [], ◌∷◌, ◌++◌, length, Result, Ok, Err, refl, sym, ap, subst, ◌∙◌, append_assoc, arith}
use Rattle.std.specs.List.{AllByRecursion, flat_map}
use Rattle.std.proofs.lemmas.List.{append-nil, length-append}
use Rattle.std.proofs.lemmas.List.Elements.{All-from_recursion}
use Rattle.std.proofs.lemmas.List.Concat.{flat_map-cons}
use Rattle.repl_message.specs.declared.startup.Pair.{Pair}
use Rattle.repl_wire.specs.declared.fields.FieldFault.{FieldFault}
use Rattle.repl_wire.specs.declared.fields.FieldFault.TheVariants as field_fault
use Rattle.repl_message.specs.Lists.{AreNamed}
use Rattle.repl_message.specs.Message.{string, pair, ended, FitsPair}
use Rattle.repl_message.specs.Decoding.{◌>>=◌, string_at}
use Rattle.repl_wire.specs.Judging.{Fails, pairs_at}
use Rattle.repl_message.proofs.FieldLaws.{IsBytes, IsBytes-rest, bind_ok, ok_is, Takes, Takes-then, Takes-ended, ended-cons, string_takes, string_again, string_first, string_begins}

-- a pair and what follows it, where no zero byte stands first, in steps
abbrev pub after_others : List ℕ → List ℕ → List Pair × List ℕ → Result (List Pair × List ℕ) ℕ
after_others name value others = Ok (record { name = name; value = value } ∷ others.0, others.1)

abbrev pub after_value : ℕ → List ℕ → List ℕ × List ℕ → Result (List Pair × List ℕ) ℕ
after_value turns name value = pairs_at turns value.1 >>= after_others name value.0

abbrev pub after_name : ℕ → List ℕ × List ℕ → Result (List Pair × List ℕ) ℕ
after_name turns name = string_at name.1 >>= after_value turns name.0

abbrev pair_then : ℕ → List ℕ → Result (List Pair × List ℕ) ℕ
pair_then turns bytes = string_at bytes >>= after_name turns

pairs_at_pair : (turns b : ℕ) (past bytes : List ℕ) → bytes ≡ b ∷ past → 0 < b → pairs_at (suc turns) bytes ≡ pair_then turns bytes
unfolding pairs_at
pairs_at_pair turns zero past bytes e first = absurd (omega arith)
pairs_at_pair turns (suc b) past bytes e first = rw e refl

-- ---- what is read, and what is read again

abbrev IsTakenFrom : List ℕ → List Pair × List ℕ → Type 0
IsTakenFrom bytes x = Takes bytes (ended pair x.0) x.1 × AllByRecursion FitsPair x.0

taken_as : (bytes : List ℕ) (x y : List Pair × List ℕ) → x ≡ y → IsTakenFrom bytes x → IsTakenFrom bytes y
taken_as bytes x y e t = subst (IsTakenFrom bytes) e t

pub pairs_take : (turns : ℕ) (bytes : List ℕ) (x : List Pair × List ℕ) → IsBytes bytes → pairs_at turns bytes ≡ Ok x
    → Takes bytes (ended pair x.0) x.1 × AllByRecursion FitsPair x.0
unfolding pairs_at
pairs_take zero bytes x fits e = absurd cc
pairs_take (suc turns) [] x fits e = absurd cc
pairs_take (suc turns) (zero ∷ bytes) x fits e = taken_as (0 ∷ bytes) ([], bytes) x (ok_is ([], bytes) x e)
    (record { parts = refl; rest_fits = IsBytes-rest 0 bytes fits }, tt)
pairs_take (suc turns) (suc b ∷ bytes) x fits e =
    let a = bind_ok (string_at (suc b ∷ bytes)) (after_name turns) x e in
    let v = bind_ok (string_at a.0.1) (after_value turns a.0.0) x a.2 in
    let o = bind_ok (pairs_at turns v.0.1) (after_others a.0.0 v.0.0) x v.2 in
    let name = string_takes (suc b ∷ bytes) a.0.0 a.0.1 fits a.1 in
    let value = string_takes a.0.1 v.0.0 v.0.1 name.0.rest_fits v.1 in
    let others = pairs_take turns v.0.1 o.0 value.0.rest_fits o.1 in
    let p : Pair = record { name = a.0.0; value = v.0.0 } in
    let one = Takes-then (suc b ∷ bytes) (string a.0.0) a.0.1 (string v.0.0) v.0.1 name.0 value.0 in
    let all = Takes-ended pair (suc b ∷ bytes) p v.0.1 o.0.0 o.0.1 one others.0 in
    taken_as (suc b ∷ bytes) (p ∷ o.0.0, o.0.1) x (ok_is (p ∷ o.0.0, o.0.1) x o.2)
    (all, (record { named = string_first b bytes a.0.0 a.0.1 a.1; name = name.1; value = value.1 }, others.1))

-- each pair takes a turn, and the zero byte one
pub pairs_again : (turns : ℕ) (ps : List Pair) (rest : List ℕ) → length ps < turns → AllByRecursion FitsPair ps
    → pairs_at turns (ended pair ps ++ rest) ≡ Ok (ps, rest)
unfolding pairs_at
pairs_again zero ps rest enough fits = absurd (omega arith)
pairs_again (suc turns) [] rest enough fits = refl
pairs_again (suc turns) (p ∷ ps) rest enough fits =
    let past : List ℕ = string p.value ++ (ended pair ps ++ rest) in
    let regrouped : ended pair (p ∷ ps) ++ rest ≡ string p.name ++ past = ap (λ (w : List ℕ). w ++ rest) (ended-cons pair p ps)
    ∙ simp append_assoc in
    let begins = string_begins p.name past fits.0.named fits.0.name in
    ap (pairs_at (suc turns)) regrouped ∙ pairs_at_pair turns begins.0 begins.1 (string p.name ++ past) begins.2 begins.3
    ∙ rw (
      string_again p.name past fits.0.name,
      string_again p.value (ended pair ps ++ rest) fits.0.value,
      pairs_again turns ps rest (omega arith) fits.1,
    ) refl

-- a list of pairs is no longer than their spelling
pub length-pairs : (ps : List Pair) → length ps ≤ length (flat_map pair ps)
length-pairs [] = omega arith
length-pairs (p ∷ ps) =
    let e = ap length (flat_map-cons pair p ps) in
    omega (
      arith,
      e,
      length-append (pair p) (flat_map pair ps),
      length-append (string p.name) (string p.value),
      length-append p.name (0 ∷ []),
      length-pairs ps,
    )

abbrev AreNamedEach : List Pair × List ℕ → Type 0
AreNamedEach x = AllByRecursion (λ (p : Pair). 0 < length p.name) x.0

each_named : (turns : ℕ) (bytes : List ℕ) (x : List Pair × List ℕ) → pairs_at turns bytes ≡ Ok x → AreNamedEach x
unfolding pairs_at
each_named zero bytes x e = absurd cc
each_named (suc turns) [] x e = absurd cc
each_named (suc turns) (zero ∷ bytes) x e = subst AreNamedEach (ok_is ([], bytes) x e) tt
each_named (suc turns) (suc b ∷ bytes) x e =
    let a = bind_ok (string_at (suc b ∷ bytes)) (after_name turns) x e in
    let v = bind_ok (string_at a.0.1) (after_value turns a.0.0) x a.2 in
    let o = bind_ok (pairs_at turns v.0.1) (after_others a.0.0 v.0.0) x v.2 in
    let p : Pair = record { name = a.0.0; value = v.0.0 } in
    subst AreNamedEach {x = (p ∷ o.0.0, o.0.1)} (ok_is (p ∷ o.0.0, o.0.1) x o.2)
    (string_first b bytes a.0.0 a.0.1 a.1, each_named turns v.0.1 o.0 o.1)

-- no name is empty
pub pairs_named : (turns : ℕ) (bytes : List ℕ) (ps : List Pair) (rest : List ℕ) → pairs_at turns bytes ≡ Ok (ps, rest) → AreNamed ps
pairs_named turns bytes ps rest e = All-from_recursion (λ (p : Pair). 0 < length p.name) ps (each_named turns bytes (ps, rest) e)

-- ---- one after the other

-- what was read before, and what is still read
abbrev pub with_front : List Pair → Result (List Pair × List ℕ) ℕ → Result (List Pair × List ℕ) ℕ
with_front front read = read >>= λ x. Ok (front ++ x.0, x.1)

regroup : (front : List Pair) (p : Pair) (read : Result (List Pair × List ℕ) ℕ) → with_front front (read >>= after_others p.name p.value)
    ≡ with_front (front ++ p ∷ []) read
regroup front p (Ok x) = ap (λ (ps : List Pair). Ok (ps, x.1)) (simp append_assoc)
regroup front p (Err left) = refl

pub goes_on : (front : List Pair) (count i : ℕ) (bytes : List ℕ) (p : Pair) (mid after : List ℕ) (total : Result (List Pair × List ℕ) ℕ)
    (b : ℕ) (past : List ℕ) → i < count → bytes ≡ b ∷ past → 0 < b
    → string_at bytes ≡ Ok (p.name, mid) → string_at mid ≡ Ok (p.value, after) → with_front front (pairs_at (count - i) bytes) ≡ total
    → with_front (front ++ p ∷ []) (pairs_at (count - (i + 1)) after) ≡ total
goes_on front count i bytes p mid after total b past lt starts first name value so_far =
    let k : count - i ≡ suc (count - (i + 1)) = omega arith in
    let one : with_front front (pairs_at (count - i) bytes) ≡ with_front (front ++ p ∷ []) (pairs_at (count - (i + 1)) after) =
    rw (k, pairs_at_pair (count - (i + 1)) b past bytes starts first, name, value) (regroup front p (pairs_at (count - (i + 1)) after)) in
    sym one ∙ so_far

pub ends_at_zero : (front : List Pair) (count i : ℕ) (bytes : List ℕ) (total : Result (List Pair × List ℕ) ℕ) (b : ℕ) (past : List ℕ)
    → i < count → bytes ≡ b ∷ past → b ≡ 0
    → with_front front (pairs_at (count - i) bytes) ≡ total → total ≡ Ok (front, past)
unfolding pairs_at
ends_at_zero front count i bytes total b past lt starts first so_far =
    let k : count - i ≡ suc (count - (i + 1)) = omega arith in
    let one : with_front front (pairs_at (count - i) bytes) ≡ Ok (front, past) =
    rw (k, starts, first) (ap (λ (ps : List Pair). Ok (ps, past)) (append-nil front)) in
    sym so_far ∙ one

pub ends_empty : (front : List Pair) (count i : ℕ) (bytes : List ℕ) (total : Result (List Pair × List ℕ) ℕ) → i < count → bytes ≡ []
    → with_front front (pairs_at (count - i) bytes) ≡ total → total ≡ Err 0
unfolding pairs_at
ends_empty front count i bytes total lt none so_far =
    let k : count - i ≡ suc (count - (i + 1)) = omega arith in
    let one : with_front front (pairs_at (count - i) bytes) ≡ Err 0 = rw (k, none) refl in
    sym so_far ∙ one

pub ends_in_name : (e : FieldFault) (front : List Pair) (count i : ℕ) (bytes : List ℕ) (total : Result (List Pair × List ℕ) ℕ) (b : ℕ)
    (past : List ℕ) → i < count → bytes ≡ b ∷ past → 0 < b
    → Fails e (string_at bytes) → with_front front (pairs_at (count - i) bytes) ≡ total → Fails e total
ends_in_name field_fault.Memory front count i bytes total b past lt starts first h so_far = tt
ends_in_name (field_fault.Left left) front count i bytes total b past lt starts first h so_far =
    let k : count - i ≡ suc (count - (i + 1)) = omega arith in
    let one : with_front front (pairs_at (count - i) bytes) ≡ Err left =
    rw (k, pairs_at_pair (count - (i + 1)) b past bytes starts first, h) refl in
    sym so_far ∙ one

pub ends_in_value : (e : FieldFault) (front : List Pair) (count i : ℕ) (bytes name mid : List ℕ) (total : Result (List Pair × List ℕ) ℕ)
    (b : ℕ) (past : List ℕ) → i < count → bytes ≡ b ∷ past → 0 < b
    → string_at bytes ≡ Ok (name, mid) → Fails e (string_at mid) → with_front front (pairs_at (count - i) bytes) ≡ total → Fails e total
ends_in_value field_fault.Memory front count i bytes name mid total b past lt starts first read h so_far = tt
ends_in_value (field_fault.Left left) front count i bytes name mid total b past lt starts first read h so_far =
    let k : count - i ≡ suc (count - (i + 1)) = omega arith in
    let one : with_front front (pairs_at (count - i) bytes) ≡ Err left =
    rw (k, pairs_at_pair (count - (i + 1)) b past bytes starts first, read, h) refl in
    sym so_far ∙ one
