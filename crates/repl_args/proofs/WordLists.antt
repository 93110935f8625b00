-- Words of the program and their texts.
use Rattle.std.proofs.Common.{◌≡◌, ℕ, ◌<◌, ◌-◌, List, [], length, get_or, take, drop, sym, ap, ◌∙◌, String, string_bytes}
use Rattle.std.specs.declared.alloc.Global.{Global}
use Rattle.std.proofs.lemmas.List.{length-map, get_or-map, drop-map, take-map, take_rest}
use Rattle.repl_args.specs.Words.{texts}

pub text_is : (words : List (String Global)) (i : ℕ) (word : String Global) → i < length words → word ≡ get_or words i word
    → string_bytes word ≡ get_or (texts words) i []
text_is words i word within is = ap string_bytes is ∙ sym (get_or-map string_bytes words i word [] within)

-- the slices of words from a place on, and up to one
pub texts_tail : (words : List (String Global)) (n : ℕ) → texts (take (length words - n) (drop n words)) ≡ drop n (texts words)
texts_tail words n = ap texts (take_rest words n) ∙ sym (drop-map string_bytes n words)

pub texts_front : (words : List (String Global)) (n : ℕ) → texts (take n words) ≡ take n (texts words)
texts_front words n = sym (take-map string_bytes n words)

pub texts_long : (words : List (String Global)) → length (texts words) ≡ length words
texts_long words = length-map words string_bytes
