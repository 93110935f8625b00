-- Blanks before a word, the word, and what is after it.
use Rattle.std.proofs.Common.{◌≡◌, ℕ, true, false, not, List, [], ◌∷◌, ◌++◌, take, drop, sym, ap, take-append-drop}
use Rattle.std.proofs.lemmas.Bool.{not-false}
use Rattle.std.proofs.lemmas.List.Elements.{All-weaker}
use Rattle.std.specs.List.{prefix_len, position_or_len, All}
use Rattle.repl_lsn.specs.Line.{is_blank, AreBlank, BeginsInk}
use Rattle.repl_lsn.specs.History.{IsApart}
use Rattle.repl_lsn.proofs.Runs.{Stops, run_passes, run_stops, run_is}

-- what is after the blanks with which the bytes begin
abbrev pub inked : List ℕ → List ℕ
inked bytes = drop (prefix_len is_blank bytes) bytes

abbrev pub blanks_of : List ℕ → List ℕ
blanks_of bytes = take (prefix_len is_blank bytes) bytes

-- what is before the first blank, and the rest
abbrev pub word_of : List ℕ → List ℕ
word_of bytes = take (position_or_len is_blank bytes) bytes

abbrev pub past_word : List ℕ → List ℕ
past_word bytes = drop (position_or_len is_blank bytes) bytes

stops_from_ink : (bytes : List ℕ) → BeginsInk bytes → Stops is_blank bytes
stops_from_ink [] h = tt
stops_from_ink (c ∷ cs) h = h

ink_from_stops : (bytes : List ℕ) → Stops is_blank bytes → BeginsInk bytes
ink_from_stops [] h = tt
ink_from_stops (c ∷ cs) h = h

stops_from_apart : (bytes : List ℕ) → IsApart bytes → Stops (λ c. not (is_blank c)) bytes
stops_from_apart [] h = tt
stops_from_apart (c ∷ cs) h = ap not h

apart_from_stops : (bytes : List ℕ) → Stops (λ c. not (is_blank c)) bytes → IsApart bytes
apart_from_stops [] h = tt
apart_from_stops (c ∷ cs) h = not-false (is_blank c) h

pub blanks_blank : (bytes : List ℕ) → AreBlank (blanks_of bytes)
blanks_blank bytes = run_passes is_blank bytes

pub inked_ink : (bytes : List ℕ) → BeginsInk (inked bytes)
inked_ink bytes = ink_from_stops (inked bytes) (run_stops is_blank bytes)

pub inked_parts : (bytes : List ℕ) → bytes ≡ blanks_of bytes ++ inked bytes
inked_parts bytes = sym (take-append-drop (prefix_len is_blank bytes) bytes)

pub inked_is : (bytes lead rest : List ℕ) → bytes ≡ lead ++ rest → AreBlank lead → BeginsInk rest → (lead ≡ blanks_of bytes)
    × (rest ≡ inked bytes)
inked_is bytes lead rest e blank ink = run_is is_blank bytes lead rest e blank (stops_from_ink rest ink)

pub word_apart : (bytes : List ℕ) → IsApart (past_word bytes)
word_apart bytes = apart_from_stops (past_word bytes) (run_stops (λ c. not (is_blank c)) bytes)

pub word_parts : (bytes : List ℕ) → bytes ≡ word_of bytes ++ past_word bytes
word_parts bytes = sym (take-append-drop (position_or_len is_blank bytes) bytes)

pub word_is : (bytes word past : List ℕ) → bytes ≡ word ++ past → All (λ c. is_blank c ≡ false) word → IsApart past
    → (word ≡ word_of bytes) × (past ≡ past_word bytes)
word_is bytes word past e ink apart =
    run_is (λ c. not (is_blank c)) bytes word past e (All-weaker (λ c. is_blank c ≡ false) (λ c. not (is_blank c) ≡ true) (λ c h.
    ap not h) word ink) (stops_from_apart past apart)
