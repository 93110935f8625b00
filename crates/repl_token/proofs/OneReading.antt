-- A text has one list of tokens.
use Rattle.std.proofs.Common.{◌≡◌, ℕ, ◌+◌, true, List, [], ◌∷◌, ◌++◌, map, length, drop, refl, sym, ap, subst, ◌∙◌, length-append, arith}
use Rattle.std.specs.List.{All, prefix_len}
use Rattle.std.proofs.lemmas.List.{append-nil, append_assoc, drop_at}
use Rattle.repl_token.specs.declared.class.Class.{Class}
use Rattle.repl_token.specs.Class.{is_blank}
use Rattle.repl_token.specs.Token.{RawToken, Reads, ReadsAs, IsNext}
use Rattle.repl_token.proofs.OneToken.{token_begins, one_token}
use Rattle.repl_token.proofs.Runs.{run_len}

blanks_len : (class_of : ℕ → Class) (at : ℕ) (bytes : List ℕ) (t : RawToken) (b : List ℕ) → (h : IsNext class_of at bytes t b)
    → prefix_len (λ c. is_blank (class_of c)) bytes ≡ length h.blanks
blanks_len class_of at bytes t b h =
    ap (prefix_len (λ c. is_blank (class_of c))) (h.parts ∙ append_assoc h.blanks h.spelled b)
    ∙ run_len (λ c. is_blank (class_of c)) h.blanks (h.spelled ++ b) h.blank (token_begins class_of t.kind t.text h.spelled b h.is).1

past_blanks : (class_of : ℕ → Class) (at : ℕ) (bytes : List ℕ) (t : RawToken) (b : List ℕ) → (h : IsNext class_of at bytes t b)
    → drop (prefix_len (λ c. is_blank (class_of c)) bytes) bytes ≡ h.spelled ++ b
past_blanks class_of at bytes t b h =
    let n : ℕ = prefix_len (λ c. is_blank (class_of c)) bytes in
    ap (drop n) (h.parts ∙ append_assoc h.blanks h.spelled b)
    ∙ drop_at h.blanks (h.spelled ++ b) n (sym (blanks_len class_of at bytes t b h))

one_next : (class_of : ℕ → Class) (at : ℕ) (bytes : List ℕ) (t u : RawToken) (b d : List ℕ) → IsNext class_of at bytes t b
    → IsNext class_of at bytes u d
    → (t ≡ u) × (b ≡ d)
one_next class_of at bytes t u b d g h =
    let whole : g.spelled ++ b ≡ h.spelled ++ d = sym (past_blanks class_of at bytes t b g) ∙ past_blanks class_of at bytes u d h in
    let size : length g.blanks ≡ length h.blanks = sym (blanks_len class_of at bytes t b g) ∙ blanks_len class_of at bytes u d h in
    let place : t.place ≡ u.place = g.place ∙ ap (λ n. at + n) size ∙ sym h.place in
    let same = one_token class_of t.kind u.kind t.text u.text g.spelled b h.spelled d g.is h.is whole in
    ((λ i. record { kind = same.0 i; place = place i; text = same.1 i }), same.2)

-- blanks alone hold no token
no_token : (class_of : ℕ → Class) (at : ℕ) (bytes : List ℕ) (t : RawToken) (b : List ℕ) → All (λ c. is_blank (class_of c) ≡ true) bytes
    → IsNext class_of at bytes t b → ⊥
no_token class_of at bytes t b blank h =
    let test = λ (c : ℕ). is_blank (class_of c) in
    let begins = token_begins class_of t.kind t.text h.spelled b h.is in
    let all : prefix_len test bytes ≡ length bytes = ap (prefix_len test) (sym (append-nil bytes)) ∙ run_len test bytes [] blank tt in
    let size : length bytes ≡ length h.blanks + length (h.spelled ++ b) = ap length (h.parts ∙ append_assoc h.blanks h.spelled b)
    ∙ length-append h.blanks (h.spelled ++ b) in
    omega (arith, all, size, blanks_len class_of at bytes t b h, begins.0)

pub reads_one : (class_of : ℕ → Class) (at : ℕ) (bytes : List ℕ) (a b : List RawToken) → Reads class_of at bytes a
    → Reads class_of at bytes b → a ≡ b
reads_one class_of at bytes [] [] g h = refl
reads_one class_of at bytes [] (u ∷ us) g h = absurd (no_token class_of at bytes u h.0 g h.2)
reads_one class_of at bytes (t ∷ ts) [] g h = absurd (no_token class_of at bytes t g.0 h g.2)
reads_one class_of at bytes (t ∷ ts) (u ∷ us) g h =
    let same = one_next class_of at bytes t u g.0 h.0 g.2 h.2 in
    let place : h.1 ≡ g.1 = omega (arith, g.3, h.3, ap length same.1) in
    let reads : Reads class_of g.1 g.0 us = subst (λ (p : ℕ). Reads class_of p g.0 us) place
    (subst (λ (cs : List ℕ). Reads class_of h.1 cs us) (sym same.1) h.4) in
    let more = reads_one class_of g.1 g.0 ts us g.4 reads in
    λ i. same.0 i ∷ more i

-- the same of a language's own tokens
pub reads_as_one : {A : Type 0} (class_of : ℕ → Class) (meaning : RawToken → A) (at : ℕ) (bytes : List ℕ) (a b : List A)
    → ReadsAs class_of meaning at bytes a → ReadsAs class_of meaning at bytes b → a ≡ b
reads_as_one class_of meaning at bytes a b g h = g.2 ∙ ap (map meaning) (reads_one class_of at bytes g.0 h.0 g.1 h.1) ∙ sym h.2
