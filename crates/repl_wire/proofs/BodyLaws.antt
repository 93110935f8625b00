-- Bodies: what is read of all of a body was written so, and what was written is read again.
use Rattle.std.proofs.Common.{◌≡◌, ℕ, ◌^◌, ◌<◌, eqb, List, [], ◌∷◌, ◌++◌, length, drop, Ok, refl, sym, ap, subst, ◌∙◌, arith}
use Rattle.std.specs.List.{AllByRecursion, flat_map}
use Rattle.std.proofs.lemmas.Bool.{eqb-true}
use Rattle.std.proofs.lemmas.List.{append-nil, length-append, length-drop, nil_from_length}
use Rattle.repl_text.specs.Text.{IsText}
use Rattle.repl_message.specs.declared.startup.Pair.{Pair}
use Rattle.repl_message.specs.Message.{int32, string, pair, ended, AreBytes, FitsPair}
use Rattle.repl_message.specs.Decoding.{string_at, whole, number}
use Rattle.repl_wire.specs.Judging.{pairs_at, parameters_of, text_of, nothing_of, bytes_of, two_numbers_of}
use Rattle.repl_message.proofs.FieldLaws.{IsBytes, IsBytes-rest, bind_ok, ok_is, guard_ended, whole_takes, Takes-then, Takes-all, int32_takes, int32_again, string_takes, string_again}
use Rattle.repl_wire.proofs.PairLaws.{pairs_take, pairs_again, length-pairs}

pub parameters_take : (body : List ℕ) (ps : List Pair) → IsBytes body → parameters_of body ≡ Ok ps → (body ≡ ended pair ps)
    × AllByRecursion FitsPair ps
unfolding parameters_of
parameters_take body ps fits e =
    let a = bind_ok (pairs_at (length body) body) whole ps e in
    let w = whole_takes a.0.0 ps a.0.1 a.2 in
    let t = pairs_take (length body) body a.0 fits a.1 in
    subst (λ (qs : List Pair). (body ≡ ended pair qs) × AllByRecursion FitsPair qs) w.1
    (Takes-all body (ended pair a.0.0) a.0.1 t.0 w.0, t.1)

pub parameters_again : (ps : List Pair) → AllByRecursion FitsPair ps → parameters_of (ended pair ps) ≡ Ok ps
unfolding parameters_of
parameters_again ps fits =
    let enough : length ps < length (ended pair ps) = omega (arith, length-pairs ps, length-append (flat_map pair ps) (0 ∷ [])) in
    let read : pairs_at (length (ended pair ps)) (ended pair ps)
    ≡ Ok (ps, []) = ap (pairs_at (length (ended pair ps))) (sym (append-nil (ended pair ps)))
    ∙ pairs_again (length (ended pair ps)) ps [] enough fits in
    rw read refl

pub text_takes : (body text : List ℕ) → IsBytes body → text_of body ≡ Ok text → (body ≡ string text) × IsText text
unfolding text_of
text_takes body text fits e =
    let a = bind_ok (string_at body) whole text e in
    let w = whole_takes a.0.0 text a.0.1 a.2 in
    let t = string_takes body a.0.0 a.0.1 fits a.1 in
    subst (λ (x : List ℕ). (body ≡ string x) × IsText x) w.1 (Takes-all body (string a.0.0) a.0.1 t.0 w.0, t.1)

pub text_again : (text : List ℕ) → IsText text → text_of (string text) ≡ Ok text
unfolding text_of
text_again text fits =
    let read : string_at (string text) ≡ Ok (text, []) = ap string_at (sym (append-nil (string text))) ∙ string_again text [] fits in
    rw read refl

pub nothing_takes : (body : List ℕ) (u : Unit {0}) → nothing_of body ≡ Ok u → body ≡ []
unfolding nothing_of
nothing_takes body u e = (whole_takes tt u body e).0

pub nothing_again : nothing_of [] ≡ Ok tt
unfolding nothing_of
nothing_again = refl

pub are_bytes : (bytes : List ℕ) → IsBytes bytes → AreBytes bytes
are_bytes [] fits = tt
are_bytes (b ∷ bytes) fits = (fits 0, are_bytes bytes (IsBytes-rest b bytes fits))

pub bytes_take : (body bytes : List ℕ) → IsBytes body → bytes_of body ≡ Ok bytes → (body ≡ bytes) × AreBytes bytes
unfolding bytes_of
bytes_take body bytes fits e =
    let same = ok_is body bytes e in
    (same, subst AreBytes same (are_bytes body fits))

pub bytes_again : (bytes : List ℕ) → bytes_of bytes ≡ Ok bytes
unfolding bytes_of
bytes_again bytes = refl

pub two_numbers_take : (body : List ℕ) (ids : ℕ × ℕ) → IsBytes body → two_numbers_of body ≡ Ok ids → (body ≡ int32 ids.0 ++ int32 ids.1)
    × (ids.0 < 2 ^ 32) × (ids.1 < 2 ^ 32)
unfolding two_numbers_of
two_numbers_take body ids fits e =
    let g = guard_ended (eqb (length body) 8) (length body) (number body, number (drop 4 body)) ids e in
    let len : length body ≡ 8 = eqb-true _ _ g.0 in
    let first = int32_takes body fits (omega arith) in
    let second = int32_takes (drop 4 body) first.0.rest_fits (omega (arith, length-drop 4 body)) in
    let nothing : drop 4 (drop 4 body) ≡ [] = nil_from_length _ (omega (arith, length-drop 4 body, length-drop 4 (drop 4 body))) in
    let both = Takes-then body (int32 (number body)) (drop 4 body) (int32 (number (drop 4 body))) (drop 4 (drop 4 body)) first.0 second.0 in
    subst (λ (p : ℕ × ℕ). (body ≡ int32 p.0 ++ int32 p.1) × (p.0 < 2 ^ 32) × (p.1 < 2 ^ 32)) g.1
    (Takes-all body _ _ both nothing, first.1, second.1)

two_numbers_at : (body : List ℕ) (a b : ℕ) → length body ≡ 8 → number body ≡ a → number (drop 4 body) ≡ b → two_numbers_of body ≡ Ok (a, b)
unfolding two_numbers_of
two_numbers_at body a b len first second = rw (len, first, second) refl

pub two_numbers_again : (a b : ℕ) → a < 2 ^ 32 → b < 2 ^ 32 → two_numbers_of (int32 a ++ int32 b) ≡ Ok (a, b)
two_numbers_again a b a_fits b_fits =
    let first = int32_again a (int32 b) a_fits in
    let second : number (int32 b) ≡ b = ap number (sym (append-nil (int32 b))) ∙ (int32_again b [] b_fits).0 in
    two_numbers_at (int32 a ++ int32 b) a b refl first.0 (ap number first.1 ∙ second)
