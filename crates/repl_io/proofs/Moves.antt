-- What reads and writes move, over plain lists.
use Rattle.std.proofs.Common.{◌≡◌, ℕ, ◌+◌, ◌-◌, ◌<◌, ◌≤◌, List, ◌++◌, length, take, drop, Some, None, sym, ap, ◌∙◌, refl, arith, append_assoc}
use Rattle.std.proofs.Math.Seq.{take-add}
use Rattle.std.proofs.lemmas.List.{drop-drop, take-append-drop, take-take, length-take, length-drop}
use Rattle.std.specs.Option.{option_map}
use Rattle.repl_effects.specs.Told.{Told, Gained}
use Rattle.repl_io.specs.Source.{ReadsBytes}
use Rattle.repl_io.specs.Sink.{WritesBytes}

pub rest-split : (n a : ℕ) (xs : List ℕ) → drop a xs ≡ take n (drop a xs) ++ drop (a + n) xs
rest-split n a xs = sym (ap (λ (x : List ℕ). take n (drop a xs) ++ x) (sym (drop-drop n a xs)) ∙ take-append-drop n (drop a xs))

-- the n bytes of the room are those of a list after the first a
pub reads-next : (n a : ℕ) (room xs : List ℕ) → 0 < n → n ≤ length room → take n room ≡ take n (drop a xs)
    → ReadsBytes n room (Some (take a xs)) (Some (take (a + n) xs)) (Some (drop a xs)) (Some (drop (a + n) xs))
reads-next n a room xs some fits same = record {
  some = some;
  fits = fits;
  gained = ap Some (take-add a n xs ∙ ap (λ (x : List ℕ). take a xs ++ x) (sym same));
  lost = ap Some (rest-split n a xs ∙ ap (λ (x : List ℕ). x ++ drop (a + n) xs) (sym same));
}

gained-twice : (first : Told) (a b : List ℕ) → option_map (λ (old : List ℕ). old ++ b)
    (option_map (λ (old : List ℕ). old ++ a) first) ≡ option_map (λ (old : List ℕ). old ++ (a ++ b)) first
gained-twice None a b = refl
gained-twice (Some x) a b = ap Some (append_assoc x a b)

-- the front of the bytes, and then the next n of them
pub Gained-more : (first before now : Told) (s n : ℕ) (bytes : List ℕ) → Gained first before (take s bytes)
    → Gained before now (take n (drop s bytes)) → Gained first now (take (s + n) bytes)
Gained-more first before now s n bytes p q = q ∙ ap (λ (t : Told). option_map (λ (old : List ℕ). old ++ take n (drop s bytes)) t) p
    ∙ gained-twice first (take s bytes) (take n (drop s bytes))
    ∙ ap (λ (x : List ℕ). option_map (λ (old : List ℕ). old ++ x) first) (sym (take-add s n bytes))

-- a write of the bytes after the first s
pub writes-next : (n s : ℕ) (bytes : List ℕ) (before now : Told) → WritesBytes n (take (length bytes - s) (drop s bytes)) before now
    → Gained before now (take n (drop s bytes))
writes-next n s bytes before now w =
    w.gained ∙ ap (λ (x : List ℕ). option_map (λ (old : List ℕ). old ++ x) before)
    (take-take n (length bytes - s) (drop s bytes) (omega
    (arith, w.fits, length-take (length bytes - s) (drop s bytes), length-drop s bytes)))

pub writes-within : (n s : ℕ) (bytes : List ℕ) (before now : Told) → s < length bytes
    → WritesBytes n (take (length bytes - s) (drop s bytes)) before now → s + n ≤ length bytes
writes-within n s bytes before now below w = omega (arith, w.fits, length-take (length bytes - s) (drop s bytes), length-drop s bytes)
