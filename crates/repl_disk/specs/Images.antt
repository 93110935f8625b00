-- The images of a disk in memory: its files as they read are one, and the moment that is now has those that a crash may
-- leave.
use Rattle.std.specs.Prelude.{ℕ, zero, suc, ◌+◌, ◌≤◌, List, [], ◌∷◌, length, take, drop, refl}
use mathlib.Core.Logic.{inl}
use Rattle.std.proofs.Common.{arith}
use Rattle.repl_disk.specs.Calls.{Done}
use Rattle.repl_disk.specs.Folder.{Folder}
use Rattle.repl_disk.specs.Memory.{IsImage, WasImage, before_all}

pub reads_as_image : (calls : List Done) (now : Folder) → IsImage calls now now
reads_as_image [] now = refl
reads_as_image (call ∷ earlier) now = inl refl

pub image_counts : (calls : List Done) (now : Folder) (moment : ℕ) (image : Folder) → moment ≤ length calls → IsImage calls now image
    → WasImage calls now moment image
image_counts calls now moment image le is = (0, omega arith, is)

pub image_only : (calls : List Done) (now image : Folder) → WasImage calls now (length calls) image → IsImage calls now image
image_only calls now image was = at was.0 was.1 was.2
  where
    at : (later : ℕ) → later + length calls ≤ length calls → IsImage (drop later calls) (before_all (take later calls) now) image
        → IsImage calls now image
    at zero le is = is
    at (suc later) le is = absurd (omega arith)
