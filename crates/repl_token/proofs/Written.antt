-- The tokens of a text that is written from tokens, from its end to its front.
use Rattle.std.proofs.Common.{◌≡◌, ℕ, ◌+◌, true, List, [], ◌∷◌, ◌++◌, map, length, refl, sym, ap, subst, ◌∙◌, length-append, arith}
use Rattle.std.specs.List.{All}
use Rattle.std.proofs.lemmas.List.{append-nil}
use Rattle.std.proofs.lemmas.List.Elements.{All-nil, All-cons}
use Rattle.repl_token.specs.declared.class.Class.{Class}
use Rattle.repl_token.specs.declared.token.Kind.{Kind}
use Rattle.repl_token.specs.Class.{is_blank}
use Rattle.repl_token.specs.Token.{RawToken, ReadsAs, IsToken}

-- these bytes spell a language's own token, which depends on its place
pub record IsTokenAs {A : Type 0} (class_of : ℕ → Class) (meaning : RawToken → A) (token : ℕ → A) (spelled past : List ℕ) : Type 0 where
  pub kind : Kind
  pub text : List ℕ
  pub is : IsToken class_of kind text spelled past
  pub means : (place : ℕ) → meaning (record { kind = kind; place = place; text = text }) ≡ token place

-- a token in front of those that were read
pub read_next : {A : Type 0} (class_of : ℕ → Class) (meaning : RawToken → A) (at : ℕ) (blanks spelled past : List ℕ) (token : ℕ → A)
    (tokens : List A)
    → All (λ c. is_blank (class_of c) ≡ true) blanks → IsTokenAs class_of meaning token spelled past
    → ReadsAs class_of meaning (at + length blanks + length spelled) past tokens
    → ReadsAs class_of meaning at (blanks ++ spelled ++ past) (token (at + length blanks) ∷ tokens)
read_next class_of meaning at blanks spelled past token tokens blank h reads =
    let raw : RawToken = record { kind = h.kind; place = at + length blanks; text = h.text } in (
      raw ∷ reads.0,
      (
        past,
        at + length blanks + length spelled,
        record { blanks = blanks; spelled = spelled; parts = refl; blank = blank; place = refl; is = h.is },
        omega (arith, length-append (blanks ++ spelled) past, length-append blanks spelled),
        reads.1,
      ),
      ap (λ others. token (at + length blanks) ∷ others) reads.2
          ∙ ap (λ first. first ∷ map meaning reads.0) (sym (h.means (at + length blanks))),
    )

pub no_blank : (class_of : ℕ → Class) → All (λ c. is_blank (class_of c) ≡ true) []
no_blank class_of = All-nil (λ c. is_blank (class_of c) ≡ true)

pub one_blank : (class_of : ℕ → Class) (c : ℕ) → is_blank (class_of c) ≡ true → All (λ b. is_blank (class_of b) ≡ true) (c ∷ [])
one_blank class_of c e = All-cons (λ b. is_blank (class_of b) ≡ true) c [] e (no_blank class_of)

-- nothing is left
pub read_end : {A : Type 0} (class_of : ℕ → Class) (meaning : RawToken → A) (at : ℕ) → ReadsAs class_of meaning at [] []
read_end class_of meaning at = ([], no_blank class_of, refl)

-- the last token
pub read_last : {A : Type 0} (class_of : ℕ → Class) (meaning : RawToken → A) (at : ℕ) (blanks spelled : List ℕ) (token : ℕ → A)
    → All (λ c. is_blank (class_of c) ≡ true) blanks → IsTokenAs class_of meaning token spelled []
    → ReadsAs class_of meaning at (blanks ++ spelled) (token (at + length blanks) ∷ [])
read_last class_of meaning at blanks spelled token blank h =
    subst (λ (bytes : List ℕ). ReadsAs class_of meaning at bytes (token (at + length blanks) ∷ [])) (append-nil (blanks ++ spelled))
    (read_next class_of meaning at blanks spelled [] token [] blank h (read_end class_of meaning (at + length blanks + length spelled)))
