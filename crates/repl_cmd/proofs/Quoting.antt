-- Digits that are put into quotes.
use Rattle.std.proofs.Common.{◌≡◌, ◌≢◌, ℕ, ◌<◌, true, List, [], ◌∷◌, ◌++◌, sym, ap, ◌∙◌}
use Rattle.std.specs.List.{All}
use Rattle.std.proofs.lemmas.Bool.{false≢true}
use Rattle.hex.specs.Hex.{encode_lower, is_hex_digit}
use Rattle.hex.proofs.HexLemmas.{decode_of-ok, decode_of-encode_lower}
use Rattle.repl_token.specs.Token.{quoted}
use Rattle.repl_token.proofs.Quoting.{plain_spelling}
use Rattle.repl_cmd.proofs.PieceMeaning.{bytes_small}

-- no hexadecimal digit is a quote

no_quote_digit : (c : ℕ) → is_hex_digit c ≡ true → c ≢ 39
no_quote_digit c digit is = false≢true (sym (ap is_hex_digit is) ∙ digit)

digits_no_quote : (ds : List ℕ) → All (λ c. is_hex_digit c ≡ true) ds → All (λ c. c ≢ 39) ds
digits_no_quote ds h i d l = no_quote_digit _ (h i d l)

pub quoted_hex : (body : List ℕ) → All (λ b. b < 256) body → quoted 39 (encode_lower body) ≡ 39 ∷ encode_lower body ++ 39 ∷ []
quoted_hex body small =
    let digits = (decode_of-ok (encode_lower body) body (decode_of-encode_lower body (bytes_small body small))).1 in
    ap (λ digits. 39 ∷ digits ++ 39 ∷ []) (plain_spelling 39 (encode_lower body) (digits_no_quote (encode_lower body) digits))
