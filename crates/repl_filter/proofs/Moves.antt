-- Bytes that move from a source into a buffer, read by read.
use Rattle.std.proofs.Common.{◌≡◌, ℕ, Vec, Global, vec_len, ◌≤◌, List, [], ◌++◌, length, take, Some, None, refl, sym, ap, subst, ◌∙◌, append_assoc, arith}
use Rattle.std.specs.Option.{option_map}
use Rattle.std.proofs.lemmas.List.{take_at, take_all, take-append-le, append-nil}
use Rattle.repl_effects.specs.Told.{Told, IfTold, Lost}

-- what is told, with these bytes in front
abbrev past : List ℕ → Told → Told
past bytes told = option_map (λ (rest : List ℕ). bytes ++ rest) told

-- nothing is lost so far
pub Lost-none : (now : Told) → Lost now now []
Lost-none None = refl
Lost-none (Some bytes) = refl

-- first these bytes are lost, and then others
pub Lost-then : (before middle now : Told) (first second : List ℕ) → Lost before middle first → Lost middle now second
    → Lost before now (first ++ second)
Lost-then before middle None first second a b = a ∙ ap (past first) b
Lost-then before middle (Some rest) first second a b = a ∙ ap (past first) b
    ∙ ap (λ (bytes : List ℕ). Some bytes) (sym (append_assoc first second rest))

-- the bytes are as many as may be read of what was left
pub Lost-front : (before now : Told) (bytes : List ℕ) (limit : ℕ) → length bytes ≡ limit → Lost before now bytes
    → IfTold before (λ left. bytes ≡ take limit left)
Lost-front before None bytes limit full lost = subst (λ (b : Told). IfTold b (λ left. bytes ≡ take limit left)) (sym lost) tt
Lost-front before (Some rest) bytes limit full lost = subst (λ (b : Told). IfTold b (λ left. bytes ≡ take limit left)) (sym lost)
    (sym (take_at bytes rest limit full))

-- the bytes are all that was left
pub Lost-all : (before now : Told) (bytes : List ℕ) (limit : ℕ) → length bytes ≤ limit → IfTold now (λ left. left ≡ [])
    → Lost before now bytes → IfTold before (λ left. bytes ≡ take limit left)
Lost-all before None bytes limit few none lost = subst (λ (b : Told). IfTold b (λ left. bytes ≡ take limit left)) (sym lost) tt
Lost-all before (Some rest) bytes limit few none lost =
    let same : bytes ++ rest ≡ bytes = ap (λ (r : List ℕ). bytes ++ r) none ∙ append-nil bytes in
    subst (λ (b : Told). IfTold b (λ left. bytes ≡ take limit left)) (sym lost)
    (sym (take_all limit (bytes ++ rest) (omega (arith, ap length same)) ∙ same))

-- the front of a room was read, and stands after the bytes so far
pub Lost-more : (before middle now : Told) (bytes after room rest : List ℕ) (count : ℕ) → Lost before middle bytes
    → Lost middle now (take count room) → count ≤ length room → after ≡ bytes ++ take count (room ++ rest) → Lost before now after
Lost-more before middle now bytes after room rest count so_far one fits added =
    let same : take count (room ++ rest) ≡ take count room = take-append-le count room rest fits in
    let parts : after ≡ bytes ++ take count room = added ∙ ap (λ (s : List ℕ). bytes ++ s) same in
    subst (λ (s : List ℕ). Lost before now s) (sym parts) (Lost-then before middle now bytes (take count room) so_far one)

-- nothing was read
pub Lost-still : (before middle now : Told) (bytes after : List ℕ) → Lost before middle bytes → now ≡ middle → after ≡ bytes
    → Lost before now after
Lost-still before middle now bytes after so_far still same =
    subst (λ (s : List ℕ). Lost before now s) (sym same) (so_far ∙ ap (past bytes) (sym still))

-- what is said of a vector is said of the same vector
pub items_of_same : (v w : Vec ℕ Global) (bytes : List ℕ) → v ≡ w → w.items ≡ bytes → v.items ≡ bytes
items_of_same v w bytes same items = ap (λ (u : Vec ℕ Global). u.items) same ∙ items

pub len_of_same : (v w : Vec ℕ Global) (len : ℕ) → v ≡ w → vec_len w ≡ len → vec_len v ≡ len
len_of_same v w len same is = ap (λ (u : Vec ℕ Global). vec_len u) same ∙ is
