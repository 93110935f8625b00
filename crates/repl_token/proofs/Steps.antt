-- A token after blanks, where the reader finds it, and the token that a copied run is.
use Rattle.std.proofs.Common.{◌≡◌, ℕ, ◌+◌, ◌-◌, ◌<◌, ◌≤◌, true, false, List, [], ◌++◌, length, get_or, take, drop, refl, sym, ap, subst, ◌∙◌, arith}
use Rattle.std.specs.List.{All, prefix_len}
use Rattle.std.proofs.lemmas.List.{append_assoc, take-append-drop, take_all, take_rest, get_or-drop, drop-drop, length-drop, length-take-le}
use Rattle.std.proofs.lemmas.List.Sums.{prefix_len-le-length, prefix_len_stops}
use Rattle.repl_token.proofs.Runs.{run_passes, run_front}
use Rattle.repl_token.specs.declared.class.Class.{Class}
use Rattle.repl_token.specs.declared.class.Class.TheVariants as class
use Rattle.repl_token.specs.declared.token.Kind.{Kind}
use Rattle.repl_token.specs.declared.token.Kind.TheVariants as kind
use Rattle.repl_token.specs.Class.{is_blank, is_digit, is_inside}
use Rattle.repl_token.specs.Token.{RawToken, Reads, IsNext, IsToken, IsRun}

-- only blanks are left
pub all_blank : (class_of : ℕ → Class) (text : List ℕ) (at place : ℕ) → at ≤ length text
    → place ≡ at + prefix_len (λ c. is_blank (class_of c)) (drop at text) → length text ≤ place → Reads class_of at (drop at text) []
all_blank class_of text at place within e past =
    subst (All (λ c. is_blank (class_of c) ≡ true)) (take_all (prefix_len (λ c. is_blank (class_of c)) (drop at text)) (drop at text)
    (omega (arith, length-drop at text))) (run_passes (λ c. is_blank (class_of c)) (drop at text))

-- the byte after the blanks, in the form that the reader has it
pub no_blank : (class_of : ℕ → Class) (text : List ℕ) (at place : ℕ) → at ≤ length text
    → place ≡ at + prefix_len (λ c. is_blank (class_of c)) (drop at text) → place < length text
    → is_blank (class_of (get_or (take (length text - place) (drop place text)) 0 0)) ≡ false
no_blank class_of text at place within e inside =
    let n : ℕ = prefix_len (λ c. is_blank (class_of c)) (drop at text) in
    let zero_place : place + 0 ≡ at + n = omega arith in
    ap (λ c. is_blank (class_of c))
    (ap (λ rest. get_or rest 0 0) (take_rest text place) ∙ get_or-drop place text 0 0 ∙ ap (λ i. get_or text i 0) zero_place
    ∙ sym (get_or-drop at text n 0))
    ∙ prefix_len_stops (λ c. is_blank (class_of c)) (drop at text) 0 (omega (arith, length-drop at text))

-- after the blanks a token of this size
pub next_from : (class_of : ℕ → Class) (text : List ℕ) (at : ℕ) (token : RawToken) (place size : ℕ)
    → place ≡ at + prefix_len (λ c. is_blank (class_of c)) (drop at text) → token.place ≡ place
    → IsToken class_of token.kind token.text (take size (take (length text - place) (drop place text)))
    (drop size (take (length text - place) (drop place text))) → IsNext class_of at (drop at text) token (drop (place + size) text)
next_from class_of text at token place size e token_place is =
    let n : ℕ = prefix_len (λ c. is_blank (class_of c)) (drop at text) in
    let rest : drop n (drop at text) ≡ drop place text = drop-drop n at text ∙ ap (λ k. drop k text) (sym e) in
    let ends : drop size (drop place text) ≡ drop (place + size) text = drop-drop size place text in
    record {
      blanks = take n (drop at text);
      spelled = take size (drop place text);
      parts = sym (take-append-drop n (drop at text))
          ∙ ap (λ k. take n (drop at text) ++ k) (rest ∙ sym (take-append-drop size (drop place text))
          ∙ ap (λ k. take size (drop place text) ++ k) ends)
          ∙ sym (append_assoc (take n (drop at text)) (take size (drop place text)) (drop (place + size) text));
      blank = run_passes (λ c. is_blank (class_of c)) (drop at text);
      place = token_place ∙ e ∙ ap (λ k. at + k) (sym (length-take-le n (drop at text)
          (prefix_len-le-length (λ c. is_blank (class_of c)) (drop at text))));
      is = subst (λ (past : List ℕ). IsToken class_of token.kind token.text (take size (drop place text)) past) ends
          (subst (λ (rest : List ℕ). IsToken class_of token.kind token.text (take size rest) (drop size rest)) (take_rest text place) is);
    }

-- the token that a copied run is

pub word_token : (class_of : ℕ → Class) (k : Kind) (text rest : List ℕ) (size : ℕ) → k ≡ kind.Word → text ≡ take size rest
    → size ≡ prefix_len (λ c. is_inside (class_of c)) rest → 0 < length rest → class_of (get_or rest 0 0) ≡ class.Letter
    → IsToken class_of k text (take size rest) (drop size rest)
word_token class_of k text rest size e f n some is =
    subst (λ (l : Kind). IsToken class_of l text (take size rest) (drop size rest)) (sym e) (
      f,
      subst (λ (m : ℕ). IsRun class_of class.Letter is_inside (take m rest) (drop m rest)) (sym n)
          (run_front class_of class.Letter is_inside rest refl some is),
    )

pub number_token : (class_of : ℕ → Class) (k : Kind) (text rest : List ℕ) (size : ℕ) → k ≡ kind.Number → text ≡ take size rest
    → size ≡ prefix_len (λ c. is_digit (class_of c)) rest → 0 < length rest → class_of (get_or rest 0 0) ≡ class.Digit
    → IsToken class_of k text (take size rest) (drop size rest)
number_token class_of k text rest size e f n some is =
    subst (λ (l : Kind). IsToken class_of l text (take size rest) (drop size rest)) (sym e) (
      f,
      subst (λ (m : ℕ). IsRun class_of class.Digit is_digit (take m rest) (drop m rest)) (sym n)
          (run_front class_of class.Digit is_digit rest refl some is),
    )
