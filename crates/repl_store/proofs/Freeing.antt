-- Files below the floor are gone when each name was looked at.
use Rattle.std.proofs.Common.{◌≡◌, ◌⊎◌, ℕ, ◌+◌, ◌<◌, ◌≤◌, Bool, true, false, cond, List, [], length, get_or, Contains, Option, Some, None, IsSome, refl, sym, ◌∙◌, subst, inl, inr, ⊎_elim, arith}
use Rattle.std.proofs.lemmas.Bool.{cases_lt}
use Rattle.std.proofs.lemmas.List.{get_or_default}
use Rattle.std.specs.Option.{option_map}
use Rattle.std.specs.Prelude.{bytes_eq}
use Rattle.repl_disk.specs.Folder.{AreNames, Folder, IfTold, ToldFiles, put}
use Rattle.repl_disk.specs.Steps.{put_at}
use Rattle.repl_store.specs.Raised.{Drops, IsFree, IsLess, NamesBelow}
use Rattle.repl_store.proofs.Hearing.{some_or_none}

-- the file was removed
pub drops_removed : (told now : ToldFiles) (size first : ℕ) (name : List ℕ) → now ≡ option_map (λ (f : Folder). put f name None) told
    → Drops told now size first name
drops_removed None now size first name is = is
drops_removed (Some folder) now size first name is = (put folder name None, is, less, λ below. put_at folder name None)
  where
    at : (test : Bool) (file : Option (List ℕ)) → (cond test None file ≡ file) ⊎ (cond test None file ≡ None)
    at true file = inr refl
    at false file = inl refl

    less : IsLess folder (put folder name None)
    less other = at (bytes_eq other name) (folder other)

-- none of those has the name
pub drops_none : (told : ToldFiles) (size first : ℕ) (name : List ℕ) → (NamesBelow size name first → ⊥) → Drops told told size first name
drops_none None size first name not = refl
drops_none (Some folder) size first name not = (folder, refl, λ other. inl refl, λ below. absurd (not below))

-- of the first names none below is left
abbrev pub Gone : ToldFiles → ToldFiles → ℕ → ℕ → List (List ℕ) → ℕ → Type 0
Gone None now size first names index = now ≡ None
Gone (Some folder) now size first names index = (after : Folder) × (now ≡ Some after) × IsLess folder after
    × ((k : ℕ) → k < index → NamesBelow size (get_or names k []) first → after (get_or names k []) ≡ None)

pub gone_none : (told now : ToldFiles) (size first : ℕ) (names : List (List ℕ)) → now ≡ told → Gone told now size first names 0
gone_none None now size first names is = is
gone_none (Some folder) now size first names is = (folder, is, λ name. inl refl, λ k lt. absurd (omega (arith, lt)))

-- one name more
pub gone_more : (told mid now : ToldFiles) (size first : ℕ) (names : List (List ℕ)) (index : ℕ) → Gone told mid size first names index
    → Drops mid now size first (get_or names index []) → Gone told now size first names (index + 1)
gone_more None mid now size first names index is drops =
    let P : ToldFiles → Type 0 = λ t. Drops t now size first (get_or names index []) in subst P is drops
gone_more (Some folder) mid now size first names index is drops =
    let P : ToldFiles → Type 0 = λ t. Drops t now size first (get_or names index []) in
    let next = subst P is.1 drops in (next.0, next.1, less next.0 next.2, each next.0 next.2 next.3)
  where
    less : (after : Folder) → IsLess is.0 after → IsLess folder after
    less after fewer name = ⊎_elim (λ same. ⊎_elim (λ old. inl (same ∙ old)) (λ none. inr (same ∙ none)) (is.2 name)) inr (fewer name)

    each : (after : Folder) → IsLess is.0 after → (NamesBelow size (get_or names index []) first → after (get_or names index []) ≡ None)
        → (k : ℕ) → k < index + 1 → NamesBelow size (get_or names k []) first → after (get_or names k []) ≡ None
    each after fewer last k lt below = ⊎_elim (λ (before : k < index). ⊎_elim (λ same. same ∙ is.3 k before below) (λ none. none)
        (fewer (get_or names k [])))
        (λ (le : index ≤ k). let same : index ≡ k = omega (arith, lt, le) in
        let Q : ℕ → Type 0 = λ n. NamesBelow size (get_or names n []) first → after (get_or names n []) ≡ None in subst Q same last below)
        (cases_lt k index)

-- no file below is left
pub gone_free : (told now : ToldFiles) (size first : ℕ) (names : List (List ℕ)) (index : ℕ) → length names ≤ index
    → Gone told now size first names index → IfTold told (λ folder. AreNames folder names) → IfTold now (IsFree size first)
gone_free None now size first names index all is are = let P : ToldFiles → Type 0 = λ t. IfTold t (IsFree size first) in subst P (sym is) tt
gone_free (Some folder) now size first names index all is are =
    let P : ToldFiles → Type 0 = λ t. IfTold t (IsFree size first) in subst P (sym is.1) free
  where
    found : (name : List ℕ) → NamesBelow size name first → Contains names name → is.0 name ≡ None
    found name below has =
        let here : get_or names has.0 [] ≡ name = get_or_default names has.0 [] name has.1 ∙ has.2 in
        let Q : List ℕ → Type 0 = λ n. NamesBelow size n first → is.0 n ≡ None in
        subst Q here (is.3 has.0 (omega (arith, has.1, all))) below

    free : IsFree size first is.0
    free name below = ⊎_elim (λ same. ⊎_elim (λ there. found name below ((are.all name).1 there))
        (λ none. same ∙ not_there (folder name) none) (some_or_none (folder name))) (λ none. none) (is.2 name)
      where
        not_there : (file : Option (List ℕ)) → (IsSome file → ⊥) → file ≡ None
        not_there None none = refl
        not_there (Some bytes) none = absurd (none refl)
