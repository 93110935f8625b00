-- A write into a file's bytes, and what takes it back.
use Rattle.std.proofs.Common.{◌≡◌, ◌⊎◌, inl, inr, ℕ, ◌+◌, ◌-◌, ◌<◌, ◌≤◌, min, max, List, [], ◌∷◌, ◌++◌, length, get_or, take, drop, replicate, sym, ◌∙◌, ap, subst, reverse, arith, length-append, length-drop}
use Rattle.std.proofs.lemmas.List.{reverse-append, places, same_lists, length-take, length-replicate}
use Rattle.repl_disk.specs.Crash.{Torn}
use Rattle.repl_disk.specs.Folder.{overwritten}
use Rattle.repl_disk.specs.Stored.{Cut, AreWithin, unwritten, undo_of}

pub length-overwritten : (old : List ℕ) (at : ℕ) (bytes : List ℕ) → length (overwritten old at bytes) ≡ max (length old) (at + length bytes)
length-overwritten old at bytes = simp (length-append, length-take, length-replicate, length-drop) (omega arith)

-- the front stays
pub get_or-overwritten-front : (old : List ℕ) (at : ℕ) (bytes : List ℕ) (k d : ℕ) → k < length old → k < at
    → get_or (overwritten old at bytes) k d ≡ get_or old k d
get_or-overwritten-front old at bytes k d lt below = grind (arith, places)

-- the rest stays
pub get_or-overwritten-rest : (old : List ℕ) (at : ℕ) (bytes : List ℕ) (k d : ℕ) → k < length old → at + length bytes ≤ k
    → get_or (overwritten old at bytes) k d ≡ get_or old k d
get_or-overwritten-rest old at bytes k d lt above = grind (arith, places)

pub torn : (old : List ℕ) (at : ℕ) (bytes : List ℕ) → Torn at (length bytes) old (overwritten old at bytes)
torn old at bytes = record {
  outside = λ i lt out. outside i lt out;
  no_shorter = omega (arith, length-overwritten old at bytes);
  no_longer = omega (arith, length-overwritten old at bytes);
}
  where
    outside : (i : ℕ) → i < length old → (i < at) ⊎ (at + length bytes ≤ i) → get_or (overwritten old at bytes) i 0 ≡ get_or old i 0
    outside i lt (inl below) = get_or-overwritten-front old at bytes i 0 lt below
    outside i lt (inr above) = get_or-overwritten-rest old at bytes i 0 lt above

-- a write that was taken back
pub unwritten-overwritten : (old : List ℕ) (at : ℕ) (bytes : List ℕ)
    → unwritten (undo_of old at (length bytes)) (overwritten old at bytes) ≡ old
unwritten-overwritten old at bytes = same_lists _ _ (simp (length-append, length-take, length-replicate, length-drop) (omega arith))
    (λ k d h. grind (arith, places))

-- the bytes that a write wrote over stood within the file
pub within : (old : List ℕ) (at : ℕ) (bytes : List ℕ)
    → min at (length old) + length (take (length bytes) (drop at old)) ≤ length (overwritten old at bytes)
within old at bytes = simp (length-append, length-take, length-replicate, length-drop) (omega arith)

-- the same bytes written over a file that was filled up with zeros
pub filled-overwritten : (old : List ℕ) (at : ℕ) (bytes : List ℕ) → length old < at + length bytes
    → (let wide = take (at + length bytes) old ++ replicate (at + length bytes - length old) 0 in take at wide ++ bytes ++ drop
    (at + length bytes) wide ≡ overwritten old at bytes)
filled-overwritten old at bytes short = same_lists _ _ (simp (length-append, length-take, length-replicate, length-drop) (omega arith))
    (λ k d h. grind (arith, places))

pub inside-overwritten : (old : List ℕ) (at : ℕ) (bytes : List ℕ) → at + length bytes ≤ length old
    → take at old ++ bytes ++ drop (at + length bytes) old ≡ overwritten old at bytes
inside-overwritten old at bytes fits = same_lists _ _ (simp (length-append, length-take, length-replicate, length-drop) (omega arith))
    (λ k d h. grind (arith, places))

-- one write more, whose undo joins those of the earlier ones
pub within_more : (undos : List Cut) (old : List ℕ) (at : ℕ) (bytes : List ℕ) → AreWithin (reverse undos) old
    → AreWithin (reverse (undos ++ undo_of old at (length bytes) ∷ [])) (overwritten old at bytes)
within_more undos old at bytes so_far =
    rw reverse-append (
      within old at bytes,
      subst (λ (now : List ℕ). AreWithin (reverse undos) now)
          (sym (unwritten-overwritten old at bytes)) so_far,
    )

pub within_from : (undos later : List Cut) (undo : Cut) (old new : List ℕ) (at : ℕ) (bytes : List ℕ) → AreWithin (reverse undos) old
    → later ≡ undos ++ undo ∷ [] → undo ≡ undo_of old at (length bytes) → new ≡ overwritten old at bytes → AreWithin (reverse later) new
within_from undos later undo old new at bytes so_far pushed is made =
    subst (λ (l : List Cut). AreWithin (reverse l) new) (sym (pushed ∙ ap (λ (u : Cut). undos ++ u ∷ []) is))
    (subst (λ (now : List ℕ). AreWithin (reverse (undos ++ undo_of old at (length bytes) ∷ [])) now) (sym made)
    (within_more undos old at bytes so_far))
