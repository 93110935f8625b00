-- What a line says: nothing, or one part.
use Rattle.std.proofs.Common.{◌≡◌, ◌≢◌, ℕ, ◌<◌, ◌⊎◌, true, not, List, [], ◌∷◌, ◌++◌, length, get_or, drop, refl, sym, ap, subst, ◌∙◌, inl, inr, ⊎_elim, append-nil, arith}
use Rattle.std.proofs.lemmas.Bool.{false≢true}
use Rattle.std.proofs.lemmas.List.{drop_more, get_or-take, length-take-le}
use Rattle.std.proofs.lemmas.List.Elements.{All-tail}
use Rattle.std.proofs.lemmas.List.Sums.{prefix_len-le-length}
use Rattle.std.specs.Char.{is_ascii_digit}
use Rattle.std.specs.List.{All, position_or_len}
use Rattle.repl_lsn.specs.declared.history.Part.{Part}
use Rattle.repl_lsn.specs.Line.{is_blank, AreBlank}
use Rattle.repl_lsn.specs.History.{IsIgnored, HasNumber, HasSwitch, IsReason, SaysPart}
use Rattle.repl_lsn.proofs.Blanks.{inked, blanks_of, word_of, blanks_blank, inked_parts, inked_is}
use Rattle.repl_lsn.proofs.Inks.{one_reason}
use Rattle.repl_lsn.proofs.LineWords.{IsNumber, number_is, one_number, one_switch}

-- lines that are ignored

pub ignored_inked : (line : List ℕ) → IsIgnored line → (inked line ≡ []) ⊎ ((rest : List ℕ) × (inked line ≡ 35 ∷ rest))
ignored_inked line (inl blank) = inl (sym (inked_is line line [] (sym (append-nil line)) blank tt).1)
ignored_inked line (inr h) = inr (h.1, sym (inked_is line h.0 (35 ∷ h.1) h.3 h.2 refl).1)

pub ignored_from_none : (line : List ℕ) → inked line ≡ [] → IsIgnored line
ignored_from_none line e =
    inl (subst AreBlank (sym (inked_parts line ∙ ap (λ rest. blanks_of line ++ rest) e ∙ append-nil (blanks_of line))) (blanks_blank line))

pub ignored_from_hash : (line rest : List ℕ) → inked line ≡ 35 ∷ rest → IsIgnored line
ignored_from_hash line rest e = inr (blanks_of line, rest, blanks_blank line, inked_parts line ∙ ap (λ past. blanks_of line ++ past) e)

no_number : (n : ℕ) → IsNumber [] n → ⊥
no_number n h = let some = h.some in omega arith

hash_number : (rest : List ℕ) (n : ℕ) → IsNumber (word_of (35 ∷ rest)) n → ⊥
hash_number rest n h =
    let size = length-take-le (position_or_len is_blank (35 ∷ rest)) (35 ∷ rest) (prefix_len-le-length (λ c. not (is_blank c)) (35 ∷ rest))
    in
    let some : 0 < position_or_len is_blank (35 ∷ rest) = omega (arith, h.some, size) in
    let digit : is_ascii_digit 35 ≡ true = ap is_ascii_digit (sym (get_or-take (position_or_len is_blank (35 ∷ rest)) (35 ∷ rest) 0 0 some))
    ∙ h.digits 0 0 h.some in
    false≢true digit

pub ignored_no_number : (line : List ℕ) (n : ℕ) (past : List ℕ) → IsIgnored line → HasNumber line n past → ⊥
ignored_no_number line n past ignored h =
    let is = (number_is line n past h).0 in
    ⊎_elim
    (λ e. no_number n (subst (λ bytes. IsNumber (word_of bytes) n) e is))
    (λ e. hash_number e.0 n (subst (λ bytes. IsNumber (word_of bytes) n) e.1 is))
    (ignored_inked line ignored)

-- where something else than a blank stands first, it is a hash or not

pub hash_first : (bytes : List ℕ) (c : ℕ) → 0 < length bytes → c ≡ get_or bytes 0 c → bytes ≡ c ∷ drop 1 bytes
hash_first bytes c some e = drop_more bytes 0 c some ∙ ap (λ x. x ∷ drop 1 bytes) (sym e)

pub ignored_hash : (line : List ℕ) (c : ℕ) (rest : List ℕ) → inked line ≡ c ∷ rest → IsIgnored line → c ≡ 35
ignored_hash line c rest e ignored = ⊎_elim (λ none. cc) (λ some. let same = some.1 in cc) (ignored_inked line ignored)

-- lines that say a part

abbrev part_of : ℕ → ℕ → List ℕ → Part
part_of tli switch reason = record { tli = tli; switch = switch; reason = reason }

pub one_part : (line : List ℕ) (p q : Part) → SaysPart line p → SaysPart line q → p ≡ q
one_part line p q a b =
    let n = one_number line p.tli q.tli a.past b.past a.number b.number in
    let s = one_switch b.past p.switch q.switch a.rest b.rest (subst (λ bytes. HasSwitch bytes p.switch a.rest) n.1 a.switch) b.switch in
    let r = one_reason b.rest p.reason q.reason (subst (λ bytes. IsReason bytes p.reason) s.1 a.reason) b.reason in
    ap (λ t. part_of t p.switch p.reason) n.0 ∙ ap (λ t. part_of q.tli t p.reason) s.0 ∙ ap (part_of q.tli q.switch) r

-- a line without the switch point that is wanted after its number says no part
pub no_part : (line : List ℕ) (n : ℕ) (past : List ℕ) → HasNumber line n past
    → ((switch : ℕ) (rest : List ℕ) → ¬ HasSwitch past switch rest) → (p : Part) → ¬ SaysPart line p
no_part line n past has none p s =
    let same = (one_number line p.tli n s.past past s.number has).1 in
    none p.switch s.rest (subst (λ bytes. HasSwitch bytes p.switch s.rest) same s.switch)

-- no line feed is after either

all_right : (P : ℕ → Type 0) (a b : List ℕ) → All P (a ++ b) → All P b
all_right P [] b h = h
all_right P (c ∷ a) b h = all_right P a b (All-tail P c (a ++ b) h)

pub single_past : (line : List ℕ) (n : ℕ) (past : List ℕ) → HasNumber line n past → All (λ c. c ≢ 10) line → All (λ c. c ≢ 10) past
single_past line n past h one = all_right (λ c. c ≢ 10) (h.lead ++ h.number) past (subst (All (λ c. c ≢ 10)) h.parts one)

pub single_rest : (bytes : List ℕ) (switch : ℕ) (rest : List ℕ) → HasSwitch bytes switch rest → All (λ c. c ≢ 10) bytes
    → All (λ c. c ≢ 10) rest
single_rest bytes switch rest h one = all_right (λ c. c ≢ 10) (h.gap ++ h.position) rest (subst (All (λ c. c ≢ 10)) h.parts one)
