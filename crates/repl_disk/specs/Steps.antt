-- What the steps of calls leave of a folder, for whoever proves what a crash leaves.
use Rattle.std.proofs.Common.{◌≡◌, ◌≢◌, ℕ, Bool, true, false, cond, List, Option, None, refl, sym, ◌∙◌, ap, inl, inr}
use Rattle.std.proofs.Math.Path.{fun_ext}
use Rattle.std.proofs.lemmas.Bool.{false_from_ne_true}
use Rattle.std.proofs.lemmas.Slice.Eq.{bytes_eq-Decides}
use Rattle.std.specs.Prelude.{bytes_eq}
use Rattle.repl_disk.specs.Crash.{Tears, Syncs, Moves, Removes, Either}
use Rattle.repl_disk.specs.Folder.{Folder, put, moved}

-- ---- a folder with other content under one name

pub put_at : (folder : Folder) (name : List ℕ) (x : Option (List ℕ)) → put folder name x name ≡ x
put_at folder name x = ap (λ (b : Bool). cond b x (folder name)) ((bytes_eq-Decides name name).1 refl)

pub put_other : (folder : Folder) (name other : List ℕ) (x : Option (List ℕ)) → (other ≡ name → ⊥) → put folder name x other ≡ folder other
put_other folder name other x differ =
    ap (λ (b : Bool). cond b x (folder other))
    (false_from_ne_true (bytes_eq other name) (λ test. differ ((bytes_eq-Decides other name).0 test)))

pub put_same : (folder : Folder) (name : List ℕ) (x : Option (List ℕ)) → x ≡ folder name → put folder name x ≡ folder
put_same folder name x is = fun_ext (λ other. each other (bytes_eq other name) (bytes_eq-Decides other name).0)
  where
    each : (other : List ℕ) (b : Bool) → (b ≡ true → other ≡ name) → cond b x (folder other) ≡ folder other
    each other true same = is ∙ ap folder (sym (same refl))
    each other false same = refl

pub put-put : (folder : Folder) (name : List ℕ) (x y : Option (List ℕ)) → put (put folder name x) name y ≡ put folder name y
put-put folder name x y = fun_ext (λ other. each other (bytes_eq other name))
  where
    each : (other : List ℕ) (b : Bool) → cond b y (cond b x (folder other)) ≡ cond b y (folder other)
    each other true = refl
    each other false = refl

-- the file has the other name
pub moved_at : (folder : Folder) (from to : List ℕ) → moved folder from to to ≡ folder from
moved_at folder from to = put_at (put folder from None) to (folder from)

-- the name that it had is free
pub moved_from : (folder : Folder) (from to : List ℕ) → from ≢ to → moved folder from to from ≡ None
moved_from folder from to differ = put_other (put folder from None) to from (folder from) differ ∙ put_at folder from None

pub moved_other : (folder : Folder) (from to other : List ℕ) → other ≢ from → other ≢ to → moved folder from to other ≡ folder other
moved_other folder from to other not_from not_to = put_other (put folder from None) to other (folder from) not_to
    ∙ put_other folder from other None not_from

-- ---- files that a step leaves alone

-- the step leaves every file as it was but that of this name
abbrev pub KeepsOthers : List ℕ → (Folder → Folder → Type 0) → Type 0
KeepsOthers name step = (before image : Folder) → step before image → (other : List ℕ) → other ≢ name → image other ≡ before other

pub keeps_either : (name : List ℕ) (step : Folder → Folder → Type 0) → KeepsOthers name step → KeepsOthers name (Either step)
keeps_either name step keeps before image (inl same) other differ = ap (λ f. f other) same
keeps_either name step keeps before image (inr done) other differ = keeps before image done other differ

pub keeps_sync : (name : List ℕ) (file : Option (List ℕ)) → KeepsOthers name (Syncs name file)
keeps_sync name file before image done other differ = ap (λ f. f other) done ∙ put_other before name other file differ

pub keeps_remove : (name : List ℕ) → KeepsOthers name (Removes name)
keeps_remove name = keeps_sync name None

pub keeps_tear : (name : List ℕ) (at count : ℕ) → KeepsOthers name (Tears name at count)
keeps_tear name at count before image done other differ = done.others other differ

pub moves_other : (from to other : List ℕ) (before image : Folder) → other ≢ from → other ≢ to → Moves from to before image
    → image other ≡ before other
moves_other from to other before image not_from not_to done = ap (λ f. f other) done ∙ moved_other before from to other not_from not_to
