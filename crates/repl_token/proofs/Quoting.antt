-- Texts in quotes, read from the front.
use Rattle.std.proofs.Common.{◌≡◌, ◌≢◌, ℕ, ◌+◌, ◌-◌, ◌<◌, ◌≤◌, eqb, List, [], ◌∷◌, ◌++◌, length, get_or, take, drop, flat_map, refl, sym, ap, subst, ◌∙◌, Some, None, ⊎_elim, arith}
use Rattle.std.specs.List.{All, position, position_or_len}
use Rattle.std.proofs.lemmas.Bool.{cases_lt, eq-eqb, ne_eqb, cond-true, cond-false, eqb-true, eqb-false, lt-ltb}
use Rattle.std.proofs.lemmas.List.{append_assoc, take-append-drop, take_more, length-take-le, get_or-take, get_or-drop, length-drop}
use Rattle.std.proofs.lemmas.List.Concat.{flat_map-append}
use Rattle.std.proofs.lemmas.List.Elements.{All-head, All-tail, All-from_get_or}
use Rattle.std.proofs.lemmas.List.Quantifiers.{position-Some}
use Rattle.std.proofs.lemmas.List.Sums.{fails_before_first}
use Rattle.std.proofs.Math.Seq.{take-add}
use Rattle.repl_token.proofs.Runs.{ends_at}
use Rattle.repl_token.specs.Token.{doubled, IsQuoted, IsUnclosed}

-- up to this place the bytes are an opening quote and what spells this text
pub record ReadsQuoted (quote : ℕ) (bytes : List ℕ) (from : ℕ) (text : List ℕ) : Type 0 where
  pub some : 0 < from
  pub within : from ≤ length bytes
  pub spelled : take from bytes ≡ quote ∷ flat_map (doubled quote) text

pub reads_opening : (quote : ℕ) (bytes : List ℕ) → 0 < length bytes → get_or bytes 0 0 ≡ quote → ReadsQuoted quote bytes 1 []
reads_opening quote [] some e = absurd (omega arith)
reads_opening quote (c ∷ cs) some e = record { some = omega arith; within = omega arith; spelled = ap (λ b. b ∷ []) e }

-- bytes without a quote spell themselves
pub plain_spelling : (quote : ℕ) (block : List ℕ) → All (λ c. c ≢ quote) block → flat_map (doubled quote) block ≡ block
plain_spelling quote [] h = refl
plain_spelling quote (c ∷ cs) h =
    ap (λ piece. piece ++ flat_map (doubled quote) cs) (cond-false (eqb c quote) (quote ∷ quote ∷ []) (c ∷ [])
    (ne_eqb c quote (All-head (λ b. b ≢ quote) c cs h)))
    ∙ ap (λ rest. c ∷ rest) (plain_spelling quote cs (All-tail (λ b. b ≢ quote) c cs h))

-- a quote is spelled twice
pub quote_spelling : (quote : ℕ) → flat_map (doubled quote) (quote ∷ []) ≡ quote ∷ quote ∷ []
quote_spelling quote = ap (λ piece. piece ++ []) (cond-true (eqb quote quote) (quote ∷ quote ∷ []) (quote ∷ []) (eq-eqb quote quote refl))

-- more bytes without a quote
reads_block : (quote : ℕ) (bytes : List ℕ) (from : ℕ) (text : List ℕ) (n : ℕ) → ReadsQuoted quote bytes from text → from + n ≤ length bytes
    → All (λ c. c ≢ quote) (take n (drop from bytes)) → ReadsQuoted quote bytes (from + n) (text ++ take n (drop from bytes))
reads_block quote bytes from text n h within plain = record {
  some = omega (arith, h.some);
  within = within;
  spelled = take-add from n bytes
      ∙ ap (λ front. front ++ take n (drop from bytes)) h.spelled
      ∙ ap (λ block. quote ∷ (flat_map (doubled quote) text ++ block)) (sym (plain_spelling quote (take n (drop from bytes)) plain))
      ∙ ap (λ rest. quote ∷ rest) (sym (flat_map-append (doubled quote) text (take n (drop from bytes))));
}

-- the first quote: the bytes before it have none, and where there is none, no byte is one

pub before_quote : (quote : ℕ) (bytes : List ℕ) (n : ℕ) → position (λ c. eqb c quote) bytes ≡ Some n
    → (n < length bytes) × (get_or bytes n 0 ≡ quote) × All (λ c. c ≢ quote) (take n bytes)
before_quote quote bytes n e =
    let h = position-Some (λ c. eqb c quote) bytes n 0 e in
    let size : length (take n bytes) ≡ n = length-take-le n bytes (omega (arith, h.0)) in (
      h.0,
      eqb-true (get_or bytes n 0) quote h.1,
      All-from_get_or (λ c. c ≢ quote) (take n bytes) 0
          (λ i l.
          let below : i < n = omega arith in
          subst (λ c. c ≢ quote) (sym (get_or-take n bytes i 0 below)) (eqb-false (get_or bytes i 0) quote (h.2 i below))),
    )

pub no_quote : (quote : ℕ) (bytes : List ℕ) → position (λ c. eqb c quote) bytes ≡ None → All (λ c. c ≢ quote) bytes
no_quote quote bytes e = ⊎_elim
    (λ l.
    let found : position (λ c. eqb c quote) bytes ≡ Some (position_or_len (λ c. eqb c quote) bytes) = cond-true _ _ _ (lt-ltb _ _ l) in
    let no : None ≡ Some (position_or_len (λ c. eqb c quote) bytes) = sym e ∙ found in
    cc)
    (λ l.
    All-from_get_or (λ c. c ≢ quote) bytes 0
    (λ i k. eqb-false (get_or bytes i 0) quote (fails_before_first (λ c. eqb c quote) bytes i 0 (omega arith))))
    (cases_lt (position_or_len (λ c. eqb c quote) bytes) (length bytes))

-- up to the next quote, in the form that the reader has it
pub reads_to_quote : (quote : ℕ) (bytes : List ℕ) (from : ℕ) (text : List ℕ) (n : ℕ) → ReadsQuoted quote bytes from text
    → position (λ c. eqb c quote) (drop from bytes) ≡ Some n
    → ReadsQuoted quote bytes (from + n) (text ++ take (from + n - from) (drop from bytes)) × (from + n < length bytes)
    × (get_or bytes (from + n) 0 ≡ quote)
reads_to_quote quote bytes from text n h e =
    let b = before_quote quote (drop from bytes) n e in
    let within : from + n < length bytes = omega (arith, b.0, length-drop from bytes) in
    let size : from + n - from ≡ n = omega arith in (
      subst (λ k. ReadsQuoted quote bytes (from + n) (text ++ take k (drop from bytes))) (sym size)
          (reads_block quote bytes from text n h (omega arith) b.2),
      within,
      sym (get_or-drop from bytes n 0) ∙ b.1,
    )

-- two quotes
pub reads_pair : (quote : ℕ) (bytes : List ℕ) (from : ℕ) (text : List ℕ) → ReadsQuoted quote bytes from text → from + 1 < length bytes
    → get_or bytes from 0 ≡ quote → get_or bytes (from + 1) 0 ≡ quote → ReadsQuoted quote bytes (from + 2) (text ++ quote ∷ [])
reads_pair quote bytes from text h within first second = record {
  some = omega arith;
  within = omega arith;
  spelled =
      let one : take (from + 1) bytes ≡ take from bytes ++ quote ∷ [] = take_more bytes from 0 (omega arith)
      ∙ ap (λ c. take from bytes ++ c ∷ []) first in
      let two : take (from + 1 + 1) bytes ≡ take (from + 1) bytes ++ quote ∷ [] = take_more bytes (from + 1) 0 within
      ∙ ap (λ c. take (from + 1) bytes ++ c ∷ []) second in
      let place : from + 2 ≡ from + 1 + 1 = omega arith in
      ap (λ n. take n bytes) place ∙ two ∙ ap (λ front. front ++ quote ∷ []) one ∙ append_assoc (take from bytes) (quote ∷ []) (quote ∷ [])
      ∙ ap (λ front. front ++ quote ∷ quote ∷ []) h.spelled
      ∙ ap (λ pair. quote ∷ (flat_map (doubled quote) text ++ pair)) (sym (quote_spelling quote))
      ∙ ap (λ rest. quote ∷ rest) (sym (flat_map-append (doubled quote) text (quote ∷ [])));
}

-- a quote that no other follows
pub reads_closing : (quote : ℕ) (bytes : List ℕ) (from : ℕ) (text : List ℕ) → ReadsQuoted quote bytes from text → from < length bytes
    → get_or bytes from 0 ≡ quote → (from + 1 < length bytes → get_or bytes (from + 1) 0 ≢ quote)
    → IsQuoted quote text (take (from + 1) bytes) (drop (from + 1) bytes)
reads_closing quote bytes from text h within first ends = record {
  spelled = take_more bytes from 0 within ∙ ap (λ c. take from bytes ++ c ∷ []) first ∙ ap (λ front. front ++ quote ∷ []) h.spelled;
  ends = ends_at (λ c. eqb c quote) bytes (from + 1) (λ l. ne_eqb (get_or bytes (from + 1) 0) quote (ends l));
}

-- no quote is left
pub reads_unclosed : (quote : ℕ) (bytes : List ℕ) (from : ℕ) (text : List ℕ) → ReadsQuoted quote bytes from text
    → All (λ c. c ≢ quote) (drop from bytes) → IsUnclosed quote bytes
reads_unclosed quote bytes from text h plain = (
  text ++ drop from bytes,
  sym (take-append-drop from bytes)
      ∙ ap (λ front. front ++ drop from bytes) h.spelled
      ∙ ap (λ block. quote ∷ (flat_map (doubled quote) text ++ block)) (sym (plain_spelling quote (drop from bytes) plain))
      ∙ ap (λ rest. quote ∷ rest) (sym (flat_map-append (doubled quote) text (drop from bytes))),
)
