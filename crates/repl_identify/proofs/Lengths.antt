-- How long an answer's messages are.
use Rattle.std.proofs.Common.{◌≡◌, ℕ, zero, suc, ◌+◌, ◌≤◌, List, [], ◌∷◌, ◌++◌, length, Option, Some, None, refl, sym, ap, ◌∙◌, append_assoc, arith, length-append}
use Rattle.std.specs.Fmt.{decimal}
use Rattle.std.specs.List.{flat_map, repeat}
use Rattle.std.proofs.lemmas.List.{append-nil}
use Rattle.std.proofs.lemmas.List.Concat.{flat_map-append}
use Rattle.repl_lsn.specs.Position.{position_text, IsCanonical}
use Rattle.repl_message.specs.declared.back.Back.{Back}
use Rattle.repl_message.specs.Message.{back_spelling, counted, column}
use Rattle.repl_identify.specs.declared.identity.SystemIdentity.{SystemIdentity}
use Rattle.repl_identify.specs.Answer.{answer_row}

-- a position's text has at most two halves of eight digits and a slash
pub length-canonical : (text : List ℕ) (position : ℕ) → IsCanonical text position → length text ≤ 17
length-canonical text position canonical =
    omega (
      arith,
      ap length canonical.parts,
      length-append canonical.high (47 ∷ canonical.low),
      canonical.high_is.is_half.few,
      canonical.low_is.is_half.few,
    )

-- a value takes four bytes more than its text
pub length-column : (text : List ℕ) (others : List (Option (List ℕ)))
    → length (flat_map column (Some text ∷ others)) ≡ length text + 4 + length (flat_map column others)
length-column text others = omega (arith, length-append (column (Some text)) (flat_map column others))

pub length-answer_row : (identity : SystemIdentity) → length (decimal identity.system) ≤ 20 → length (decimal identity.timeline) ≤ 20
    → length (position_text identity.flushed) ≤ 17 → length (counted column (answer_row identity)) ≤ 100
length-answer_row identity system timeline flushed =
    let third : List (Option (List ℕ)) = Some (position_text identity.flushed) ∷ None ∷ [] in
    let a = length-column (decimal identity.system) (Some (decimal identity.timeline) ∷ third) in
    let b = length-column (decimal identity.timeline) third in
    let c = length-column (position_text identity.flushed) (None ∷ []) in
    omega (arith, a, b, c)

-- what is spelled again is written again
spelled_again : (n : ℕ) (ms : List Back) → repeat n (flat_map back_spelling ms) ≡ flat_map back_spelling (repeat n ms)
spelled_again zero ms = refl
spelled_again (suc n) ms = ap (λ (s : List ℕ). flat_map back_spelling ms ++ s) (spelled_again n ms)
    ∙ sym (flat_map-append back_spelling ms (repeat n ms))

-- the messages that are written once, and those that are written so often
pub written_all : (n : ℕ) (front second third once : List ℕ) (ms ns xs ys : List Back) → xs ≡ ms → ys ≡ ns
    → once ≡ flat_map back_spelling ys → second ≡ front ++ flat_map back_spelling xs → third ≡ second ++ repeat n once
    → third ≡ front ++ flat_map back_spelling (ms ++ repeat n ns)
written_all n front second third once ms ns xs ys one two once_is middle last =
    last ∙ ap (λ (s : List ℕ). s ++ repeat n once) (middle ∙ ap (λ (m : List Back). front ++ flat_map back_spelling m) one)
    ∙ ap (λ (s : List ℕ). (front ++ flat_map back_spelling ms) ++ repeat n s) (once_is ∙ ap (flat_map back_spelling) two)
    ∙ ap (λ (s : List ℕ). (front ++ flat_map back_spelling ms) ++ s) (spelled_again n ns)
    ∙ append_assoc front (flat_map back_spelling ms) (flat_map back_spelling (repeat n ns))
    ∙ ap (λ (s : List ℕ). front ++ s) (sym (flat_map-append back_spelling ms (repeat n ns)))

-- once more at the end is once more at the front
repeated_end : (n : ℕ) (xs : List ℕ) → repeat n xs ++ xs ≡ repeat (suc n) xs
repeated_end zero xs = sym (append-nil xs)
repeated_end (suc n) xs = append_assoc xs (repeat n xs) xs ∙ ap (λ (s : List ℕ). xs ++ s) (repeated_end n xs)

pub repeated_more : (n : ℕ) (old before piece after : List ℕ) → before ≡ old ++ repeat n piece → after ≡ before ++ piece
    → after ≡ old ++ repeat (n + 1) piece
repeated_more n old before piece after is added =
    let one : suc n ≡ n + 1 = omega arith in
    added ∙ ap (λ (s : List ℕ). s ++ piece) is ∙ append_assoc old (repeat n piece) piece
    ∙ ap (λ (s : List ℕ). old ++ s) (repeated_end n piece) ∙ ap (λ (k : ℕ). old ++ repeat k piece) one
