-- What a crash leaves of a list of files.
use Rattle.std.proofs.Common.{◌≡◌, ℕ, Bool, true, false, cond, not, List, [], ◌∷◌, map, filter, Option, Some, None, refl, sym, ◌∙◌, ap, subst}
use Rattle.std.proofs.Math.Path.{fun_ext}
use Rattle.std.specs.Prelude.{bytes_eq}
use Rattle.repl_disk.specs.Files.{folder_of, certain_folder, StandsBefore, AreOrdered}
use Rattle.repl_disk.specs.Calls.{Done}
use Rattle.repl_disk.specs.Memory.{certain}
use Rattle.repl_disk.specs.Stored.{Stored, settled, reverted, is_kept, unwritten_all}
use Rattle.repl_disk.proofs.Folders.{certain_found, certain_is}
use Rattle.repl_disk.proofs.Names.{name_same}
use Rattle.repl_disk.proofs.Places.{none_past}

-- ---- all is kept

settled_reads : (files : List Stored) (name : List ℕ) → folder_of (map settled files) name ≡ folder_of files name
settled_reads [] name = refl
settled_reads (file ∷ files) name = ap (λ (x : Option (List ℕ)). cond (bytes_eq name file.name) (Some file.bytes) x)
    (settled_reads files name)

settled_certain : (files : List Stored) (name : List ℕ) → certain_folder (map settled files) name ≡ folder_of (map settled files) name
settled_certain [] name = refl
settled_certain (file ∷ files) name = ap (λ (x : Option (List ℕ)). cond (bytes_eq name file.name) (Some file.bytes) x)
    (settled_certain files name)

pub settled_folder : (files : List Stored) → folder_of (map settled files) ≡ folder_of files
settled_folder files = fun_ext (λ name. settled_reads files name)

pub settled_tied : (files : List Stored) → folder_of (map settled files) ≡ certain_folder (map settled files)
settled_tied files = fun_ext (λ name. sym (settled_certain files name))

settled_past : (before : List ℕ) (files : List Stored) → StandsBefore before files → StandsBefore before (map settled files)
settled_past before [] stands = tt
settled_past before (file ∷ files) stands = (stands.0, settled_past before files stands.1)

pub settled_ordered : (files : List Stored) → AreOrdered files → AreOrdered (map settled files)
settled_ordered [] ordered = tt
settled_ordered (file ∷ files) ordered = (settled_past file.name files ordered.0, settled_ordered files ordered.1)

-- ---- what was not synced is lost

abbrev pub left : List Stored → List Stored
left files = map reverted (filter is_kept files)

reverted_reads : (files : List Stored) (name : List ℕ) → AreOrdered files → folder_of (left files) name ≡ certain_folder files name
reverted_reads [] name ordered = refl
reverted_reads (file ∷ files) name ordered = shown file.made ∙ each file.made (bytes_eq name file.name) (name_same name file.name)
    (reverted_reads files name ordered.1)
  where
    lookup : Bool → Bool → Option (List ℕ)
    lookup true same = folder_of (left files) name
    lookup false same = cond same (Some (unwritten_all file.undos file.bytes)) (folder_of (left files) name)

    shown : (made : Bool)
        → folder_of (map reverted (cond (not made) (file ∷ filter is_kept files) (filter is_kept files))) name ≡ lookup made
        (bytes_eq name file.name)
    shown true = refl
    shown false = refl

    each : (made same : Bool) → (same ≡ true → name ≡ file.name) → folder_of (left files) name ≡ certain_folder files name
        → lookup made same ≡ cond same (cond made None (Some (unwritten_all file.undos file.bytes))) (certain_folder files name)
    each true true is rest = rest ∙ certain_is files name ∙ ap certain_found
        (none_past name files (subst (λ (n : List ℕ). StandsBefore n files) (sym (is refl)) ordered.0))
    each true false is rest = rest
    each false same is rest = ap (λ (x : Option (List ℕ)). cond same (Some (unwritten_all file.undos file.bytes)) x) rest

pub reverted_folder : (files : List Stored) → AreOrdered files → folder_of (left files) ≡ certain_folder files
reverted_folder files ordered = fun_ext (λ name. reverted_reads files name ordered)

reverted_certain : (files : List Stored) (name : List ℕ) → certain_folder (map reverted files) name ≡ folder_of (map reverted files) name
reverted_certain [] name = refl
reverted_certain (file ∷ files) name = ap
    (λ (x : Option (List ℕ)). cond (bytes_eq name file.name) (Some (unwritten_all file.undos file.bytes)) x) (reverted_certain files name)

pub reverted_tied : (files : List Stored) → folder_of (map reverted files) ≡ certain_folder (map reverted files)
reverted_tied files = fun_ext (λ name. sym (reverted_certain files name))

reverted_past : (before : List ℕ) (files : List Stored) → StandsBefore before files → StandsBefore before (left files)
reverted_past before [] stands = tt
reverted_past before (file ∷ files) stands = each file.made (reverted_past before files stands.1)
  where
    each : (made : Bool) → StandsBefore before (left files)
        → StandsBefore before (map reverted (cond (not made) (file ∷ filter is_kept files) (filter is_kept files)))
    each true rest = rest
    each false rest = (stands.0, rest)

pub reverted_ordered : (files : List Stored) → AreOrdered files → AreOrdered (left files)
reverted_ordered [] ordered = tt
reverted_ordered (file ∷ files) ordered = each file.made (reverted_ordered files ordered.1)
  where
    each : (made : Bool) → AreOrdered (left files)
        → AreOrdered (map reverted (cond (not made) (file ∷ filter is_kept files) (filter is_kept files)))
    each true rest = rest
    each false rest = (reverted_past file.name files ordered.0, rest)

-- ---- the invariant of what is left

-- these files and no call
pub tied_now : (now files : List Stored) (none : List Done) → none ≡ [] → now ≡ files → AreOrdered files
    → folder_of files ≡ certain_folder files → AreOrdered now × (certain none (folder_of now) ≡ certain_folder now)
tied_now now files none nothing same ordered tied = (
  subst (λ (l : List Stored). AreOrdered l) (sym same) ordered,
  ap (λ (l : List Done). certain l (folder_of now)) nothing
      ∙ subst (λ (l : List Stored). folder_of l ≡ certain_folder l) (sym same) tied,
)
