-- Texts that are put into quotes.
use Rattle.std.proofs.Common.{◌≡◌, ℕ, ◌+◌, eqb, List, [], ◌∷◌, ◌++◌, take, drop, flat_map, position, Some, None, sym, ap, ◌∙◌}
use Rattle.std.proofs.lemmas.List.{append_assoc, take-append-drop, take_more}
use Rattle.std.proofs.lemmas.List.Concat.{flat_map-append}
use Rattle.repl_token.specs.Token.{doubled, quoted}
use Rattle.repl_token.proofs.Quoting.{plain_spelling, quote_spelling, before_quote, no_quote}

-- up to the first quote the bytes spell themselves, and one quote more
spelled_front : (quote : ℕ) (rest : List ℕ) (n : ℕ) → position (λ c. eqb c quote) rest ≡ Some n
    → flat_map (doubled quote) rest ≡ (take (n + 1) rest ++ quote ∷ []) ++ flat_map (doubled quote) (drop (n + 1) rest)
spelled_front quote rest n e =
    let f = doubled quote in
    let b = before_quote quote rest n e in
    let front : take (n + 1) rest ≡ take n rest ++ quote ∷ [] = take_more rest n 0 b.0 ∙ ap (λ c. take n rest ++ c ∷ []) b.1 in
    let spelled : flat_map f (take (n + 1) rest) ≡ take (n + 1) rest ++ quote ∷ [] =
    ap (flat_map f) front
    ∙ flat_map-append f (take n rest) (quote ∷ [])
    ∙ ap (λ block. block ++ flat_map f (quote ∷ [])) (plain_spelling quote (take n rest) b.2)
    ∙ ap (λ pair. take n rest ++ pair) (quote_spelling quote)
    ∙ sym (append_assoc (take n rest) (quote ∷ []) (quote ∷ []))
    ∙ ap (λ block. block ++ quote ∷ []) (sym front) in
    ap (flat_map f) (sym (take-append-drop (n + 1) rest))
    ∙ flat_map-append f (take (n + 1) rest) (drop (n + 1) rest)
    ∙ ap (λ block. block ++ flat_map f (drop (n + 1) rest)) spelled

-- a step up to the next quote
pub quote_step : (quote : ℕ) (whole out next rest : List ℕ) (n : ℕ) → position (λ c. eqb c quote) rest ≡ Some n
    → out ++ flat_map (doubled quote) rest ≡ whole → next ≡ out ++ take (n + 1) rest ++ quote ∷ []
    → next ++ flat_map (doubled quote) (drop (n + 1) rest) ≡ whole
quote_step quote whole out next rest n e h is =
    ap (λ front. front ++ flat_map (doubled quote) (drop (n + 1) rest)) (is ∙ append_assoc out (take (n + 1) rest) (quote ∷ []))
    ∙ append_assoc out (take (n + 1) rest ++ quote ∷ []) (flat_map (doubled quote) (drop (n + 1) rest))
    ∙ ap (λ back. out ++ back) (sym (spelled_front quote rest n e))
    ∙ h

-- the last step, where no quote is left
pub quote_end : (quote : ℕ) (start text out rest : List ℕ) → position (λ c. eqb c quote) rest ≡ None
    → out ++ flat_map (doubled quote) rest ≡ start ++ quote ∷ flat_map (doubled quote) text
    → out ++ rest ++ quote ∷ [] ≡ start ++ quoted quote text
quote_end quote start text out rest e h =
    ap (λ back. out ++ back ++ quote ∷ []) (sym (plain_spelling quote rest (no_quote quote rest e)))
    ∙ ap (λ front. front ++ quote ∷ []) h
    ∙ append_assoc start (quote ∷ flat_map (doubled quote) text) (quote ∷ [])
