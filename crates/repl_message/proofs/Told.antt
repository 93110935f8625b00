-- None of the codes of an error's four fields is 0.
use Rattle.std.proofs.Common.{ℕ, ◌<◌, List, [], ◌∷◌, arith}
use Rattle.std.proofs.lemmas.List.Elements.{All-nil, All-cons}
use Rattle.repl_message.specs.declared.back.ErrorField.{ErrorField}
use Rattle.repl_message.specs.Lists.{AreCoded, told}

abbrev IsCoded : ErrorField → Type 0
IsCoded f = 0 < f.code

one_more : (code : ℕ) (text : List ℕ) (fields : List ErrorField) → 0 < code → AreCoded fields
    → AreCoded (record { code = code; text = text } ∷ fields)
one_more code text fields some coded = All-cons IsCoded (record { code = code; text = text }) fields some coded

pub told_coded : (severity code text : List ℕ) → AreCoded (told severity code text)
told_coded severity code text =
    let last : List ErrorField = record { code = 77; text = text } ∷ [] in
    let two : List ErrorField = record { code = 67; text = code } ∷ last in
    let three : List ErrorField = record { code = 86; text = severity } ∷ two in
    one_more 83 severity three (omega arith) (one_more 86 severity two (omega arith) (one_more 67 code last (omega arith)
    (one_more 77 text [] (omega arith) (All-nil IsCoded))))
