-- What a loop over the entries of a list has written or counted so far.
use Rattle.std.proofs.Common.{◌≡◌, ℕ, zero, suc, ◌+◌, ◌-◌, ◌*◌, ◌^◌, ◌<◌, ◌≤◌, min, List, [], ◌∷◌, ◌++◌, length, get_or, take, refl, sym, ap, ◌∙◌, arith, length-append, append_assoc}
use Rattle.std.specs.List.{flat_map}
use Rattle.std.proofs.lemmas.List.{take_more, take_all, flat_map_more}
use Rattle.repl_message.specs.Message.{int16}
use Rattle.repl_message.specs.Encoding.{capped}

-- one more entry
pub flat_map-take_more : {X : Type 0} (f : X → List ℕ) (xs : List X) (i : ℕ) (x : X) → i < length xs → x ≡ get_or xs i x
    → flat_map f (take (i + 1) xs) ≡ flat_map f (take i xs) ++ f x
flat_map-take_more {X} f xs i x lt is =
    ap (λ (ys : List X). flat_map f ys) (take_more xs i x lt) ∙ ap (λ (y : X). flat_map f (take i xs ++ y ∷ [])) (sym is)
    ∙ sym (flat_map_more f [] (take i xs) x)

pub counted_more : {X : Type 0} (f : X → List ℕ) (xs : List X) (i : ℕ) (x : X) (base sum n more : ℕ) → i < length xs → x ≡ get_or xs i x
    → sum ≡ capped (base + length (flat_map f (take i xs))) → n ≡ capped (length (f x)) → more ≡ min (sum + n) (2 ^ 64 - 1) → more
    ≡ capped (base + length (flat_map f (take (i + 1) xs)))
counted_more f xs i x base sum n more lt is so_far one added =
    let e : length (flat_map f (take (i + 1) xs)) ≡ length (flat_map f (take i xs)) + length (f x) =
    ap length (flat_map-take_more f xs i x lt is) ∙ length-append (flat_map f (take i xs)) (f x) in
    omega arith

pub counted_all : {X : Type 0} (f : X → List ℕ) (xs : List X) (i base sum : ℕ) → length xs ≤ i → sum
    ≡ capped (base + length (flat_map f (take i xs))) → sum ≡ capped (base + length (flat_map f xs))
counted_all {X} f xs i base sum le so_far = so_far ∙ ap (λ (ys : List X). capped (base + length (flat_map f ys))) (take_all i xs le)

-- each format takes two bytes
pub length-formats : (xs : List ℕ) → length (flat_map int16 xs) ≡ length xs * 2
length-formats [] = refl
length-formats (x ∷ xs) = omega (arith, length-formats xs)

-- an entry takes no more bytes than all of them
pub entry_fits : {X : Type 0} (f : X → List ℕ) (xs : List X) (i : ℕ) (x : X) → i < length xs → x ≡ get_or xs i x
    → length (f x) ≤ length (flat_map f xs)
entry_fits f [] i x lt is = absurd (omega arith)
entry_fits {X} f (y ∷ ys) zero x lt is = omega (arith, ap (λ (z : X). length (f z)) is, length-append (f y) (flat_map f ys))
entry_fits f (y ∷ ys) (suc i) x lt is = omega (arith, entry_fits f ys i x (omega arith) is, length-append (f y) (flat_map f ys))

-- the entries so far stand after a head, and one more is added
pub added_more : {X : Type 0} (f : X → List ℕ) (xs : List X) (i : ℕ) (x : X) (old out new head : List ℕ) → i < length xs → x ≡ get_or xs i x
    → out ≡ old ++ (head ++ flat_map f (take i xs)) → new ≡ out ++ f x → new ≡ old ++ (head ++ flat_map f (take (i + 1) xs))
added_more f xs i x old out new head lt is so_far added =
    added ∙ ap (λ (s : List ℕ). s ++ f x) so_far ∙ append_assoc old (head ++ flat_map f (take i xs)) (f x)
    ∙ ap (λ (s : List ℕ). old ++ s) (append_assoc head (flat_map f (take i xs)) (f x)
    ∙ ap (λ (s : List ℕ). head ++ s) (sym (flat_map-take_more f xs i x lt is)))
