-- Where a token stands, and whether it is quotes that do not end.
use Rattle.std.proofs.Common.{◌≡◌, ℕ, zero, suc, List, [], ◌∷◌, slice_get, Some, None, refl, sym, ap, ◌∙◌}
use Rattle.repl_names.specs.declared.token.Kind.TheVariants as kind
use Rattle.repl_names.specs.declared.token.Token.{Token}
use Rattle.repl_names.specs.Grammar.{place_at, IsOpenAt}

pub place_found : (tokens : List Token) (i end : ℕ) (token : Token) → slice_get tokens i ≡ Some token → token.place ≡ place_at tokens i end
place_found [] i end token e = absurd cc
place_found (head ∷ tokens) zero end token e = let same : head ≡ token = cc in sym (ap (λ t. t.place) same)
place_found (head ∷ tokens) (suc i) end token e = place_found tokens i end token e

pub place_past : (tokens : List Token) (i end : ℕ) → slice_get tokens i ≡ None → end ≡ place_at tokens i end
place_past [] i end e = refl
place_past (head ∷ tokens) zero end e = absurd cc
place_past (head ∷ tokens) (suc i) end e = place_past tokens i end e

pub open_found : (tokens : List Token) (i : ℕ) (token : Token) → slice_get tokens i ≡ Some token → token.kind ≡ kind.Unclosed
    → IsOpenAt tokens i
open_found [] i token e k = absurd cc
open_found (head ∷ tokens) zero token e k = let same : head ≡ token = cc in ap (λ t. t.kind) same ∙ k
open_found (head ∷ tokens) (suc i) token e k = open_found tokens i token e k

pub open_not : (tokens : List Token) (i : ℕ) (token : Token) → slice_get tokens i ≡ Some token → ¬ (token.kind ≡ kind.Unclosed)
    → ¬ IsOpenAt tokens i
open_not [] i token e k o = absurd cc
open_not (head ∷ tokens) zero token e k o = let same : head ≡ token = cc in k (sym (ap (λ t. t.kind) same) ∙ o)
open_not (head ∷ tokens) (suc i) token e k o = open_not tokens i token e k o

pub open_past : (tokens : List Token) (i : ℕ) → slice_get tokens i ≡ None → ¬ IsOpenAt tokens i
open_past [] i e o = o
open_past (head ∷ tokens) zero e o = absurd cc
open_past (head ∷ tokens) (suc i) e o = open_past tokens i e o
