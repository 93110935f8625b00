-- Folders, and those of a list of files.
use Rattle.std.proofs.Common.{◌≡◌, ℕ, Bool, true, false, cond, List, [], ◌∷◌, Option, Some, None, refl, sym, ◌∙◌, ap}
use Rattle.std.proofs.Math.Path.{fun_ext}
use Rattle.std.specs.Prelude.{bytes_eq}
use Rattle.repl_disk.specs.Files.{Changed, found, folder_of, certain_of, certain_folder, bytes_of}
use Rattle.repl_disk.specs.Folder.{put}
use Rattle.repl_disk.specs.Stored.{Stored}

-- ---- of a list of files

pub folder_found : (files : List Stored) (name : List ℕ) → folder_of files name ≡ bytes_of (found files name)
folder_found [] name = refl
folder_found (file ∷ files) name = each (bytes_eq name file.name) (folder_found files name)
  where
    each : (b : Bool) → folder_of files name ≡ bytes_of (found files name)
        → cond b (Some file.bytes) (folder_of files name) ≡ bytes_of (cond b (Some file) (found files name))
    each true rest = refl
    each false rest = rest

-- what is certain of a file that may not be there
abbrev pub certain_found : Option Stored → Option (List ℕ)
certain_found None = None
certain_found (Some file) = certain_of file

pub certain_is : (files : List Stored) (name : List ℕ) → certain_folder files name ≡ certain_found (found files name)
certain_is [] name = refl
certain_is (file ∷ files) name = each (bytes_eq name file.name) (certain_is files name)
  where
    each : (b : Bool) → certain_folder files name ≡ certain_found (found files name)
        → cond b (certain_of file) (certain_folder files name) ≡ certain_found (cond b (Some file) (found files name))
    each true rest = refl
    each false rest = rest

module _ (old new : List Stored) (name : List ℕ) (file : Option Stored) where
  pub folder_changed : Changed old new name file → folder_of new ≡ put (folder_of old) name (bytes_of file)
  folder_changed change = fun_ext (λ other. folder_found new other ∙ ap bytes_of (change.files other) ∙ each other (bytes_eq other name))
    where
      each : (other : List ℕ) (b : Bool) → bytes_of (cond b file (found old other)) ≡ cond b (bytes_of file) (folder_of old other)
      each other true = refl
      each other false = sym (folder_found old other)

  pub certain_changed : Changed old new name file → certain_folder new ≡ put (certain_folder old) name (certain_found file)
  certain_changed change = fun_ext
      (λ other. certain_is new other ∙ ap certain_found (change.files other) ∙ each other (bytes_eq other name))
    where
      each : (other : List ℕ) (b : Bool)
          → certain_found (cond b file (found old other)) ≡ cond b (certain_found file) (certain_folder old other)
      each other true = refl
      each other false = sym (certain_is old other)
