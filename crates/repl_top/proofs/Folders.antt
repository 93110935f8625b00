-- The folder that words name.
use Rattle.std.proofs.Common.{◌≡◌, ℕ, ◌<◌, Bool, true, List, [], length, get_or, codes, String, subst, sym, ◌∙◌, inl}
use Rattle.std.proofs.lemmas.List.{length-map}
use Rattle.std.proofs.lemmas.Slice.Eq.{bytes_eq-Decides}
use Rattle.std.specs.Prelude.{string_bytes}
use Rattle.std.specs.Str.{bytes_eq}
use Rattle.std.specs.declared.alloc.Global.{Global}
use Rattle.repl_args.specs.Words.{texts}
use Rattle.repl_top.specs.Words.{IsFolder}

-- the word after a first word `-D`
pub led_folder : (words : List (String Global)) (first folder : List ℕ) → 1 < length words → first ≡ get_or (texts words) 0 []
    → true ≡ bytes_eq first (codes "-D") → folder ≡ get_or (texts words) 1 [] → IsFolder (texts words) folder
led_folder words first folder long is named past =
    inl ((subst (λ (n : ℕ). 1 < n) (sym (length-map words string_bytes)) long, sym is ∙ (bytes_eq-Decides first (codes "-D")).0 (sym named)), past)
