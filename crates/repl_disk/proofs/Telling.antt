-- Files where an object tells them, and a file that is written anew.
use Rattle.std.proofs.Common.{◌≡◌, ℕ, List, [], Some, None, refl, ◌∙◌, ap, arith}
use Rattle.std.specs.Option.{option_map}
use Rattle.std.proofs.lemmas.Grind.{common_steps}
use Rattle.repl_disk.specs.Folder.{Folder, ToldFiles, put, content, overwritten, written}
use Rattle.repl_disk.specs.Steps.{put_at, put-put}

-- ---- bytes

pub overwritten_empty : (bytes : List ℕ) → overwritten [] 0 bytes ≡ bytes
overwritten_empty bytes = grind (arith, common_steps)

-- a file is removed and written anew
pub written_anew : (folder : Folder) (name bytes : List ℕ) → written (put folder name None) name 0 bytes ≡ put folder name (Some bytes)
written_anew folder name bytes =
    ap (λ file. put (put folder name None) name (Some (overwritten (content file) 0 bytes))) (put_at folder name None)
    ∙ put-put folder name None (Some (overwritten [] 0 bytes))
    ∙ ap (λ b. put folder name (Some b)) (overwritten_empty bytes)

-- two effects, one after the other
pub composed : (told : ToldFiles) (f g h : Folder → Folder) → ((folder : Folder) → g (f folder) ≡ h folder)
    → option_map g (option_map f told) ≡ option_map h told
composed None f g h same = refl
composed (Some folder) f g h same = ap Some (same folder)
