-- The names of the files.
use Rattle.std.proofs.Common.{◌≡◌, ℕ, zero, suc, ◌<◌, Bool, true, false, cond, List, [], ◌∷◌, length, map, get_or, Some, IsSome, is_some, Contains, refl, sym, ap, subst, arith}
use Rattle.std.proofs.lemmas.Bool.{false≢true}
use Rattle.std.specs.Prelude.{bytes_eq}
use Rattle.repl_disk.specs.Files.{folder_of, AreOrdered}
use Rattle.repl_disk.specs.Folder.{AreNames, AreSorted}
use Rattle.repl_disk.specs.Stored.{Stored}
use Rattle.repl_disk.proofs.Names.{same_name, name_same}

abbrev pub names_of : List Stored → List (List ℕ)
names_of files = map (λ (file : Stored). file.name) files

sorted : (files : List Stored) → AreOrdered files → AreSorted (names_of files)
sorted [] ordered = tt
sorted (file ∷ []) ordered = tt
sorted (file ∷ next ∷ files) ordered = (ordered.0.0, sorted (next ∷ files) ordered.1)

there : (files : List Stored) (name : List ℕ) (k : ℕ) → k < length (names_of files) → get_or (names_of files) k name ≡ name
    → IsSome (folder_of files name)
there [] name k within is = absurd (omega arith)
there (file ∷ files) name zero within is = ap (λ (b : Bool). is_some (cond b (Some file.bytes) (folder_of files name)))
    (same_name name file.name (sym is))
there (file ∷ files) name (suc k) within is = each (bytes_eq name file.name) (there files name k (omega arith) is)
  where
    each : (b : Bool) → IsSome (folder_of files name) → IsSome (cond b (Some file.bytes) (folder_of files name))
    each true rest = refl
    each false rest = rest

listed : (files : List Stored) (name : List ℕ) → IsSome (folder_of files name) → Contains (names_of files) name
listed [] name some = absurd (false≢true some)
listed (file ∷ files) name some = each (bytes_eq name file.name) (name_same name file.name) (listed files name) some
  where
    each : (b : Bool) → (b ≡ true → name ≡ file.name) → (IsSome (folder_of files name) → Contains (names_of files) name)
        → IsSome (cond b (Some file.bytes) (folder_of files name)) → Contains (names_of (file ∷ files)) name
    each true same rest some = (0, omega arith, sym (same refl))
    each false same rest some = let later : Contains (names_of files) name = rest some in (suc later.0, omega (arith, later.1), later.2)

pub are_names : (files : List Stored) (names : List (List ℕ)) → AreOrdered files → names ≡ names_of files → AreNames (folder_of files) names
are_names files names ordered is =
    subst (λ (l : List (List ℕ)). AreNames (folder_of files) l) (sym is)
    (record {
      sorted = sorted files ordered;
      all = λ name.
          (λ has. there files name has.0 has.1 has.2, λ some. listed files name some);
    })
