-- The tokens of a text, one after another, as a language makes its own tokens of them.
use Rattle.std.proofs.Common.{◌≡◌, ℕ, ◌+◌, ◌≤◌, List, [], ◌∷◌, ◌++◌, map, length, drop, refl, sym, ap, subst, ◌∙◌, arith}
use Rattle.std.proofs.lemmas.List.{append-nil, append_assoc, length-drop, map-append}
use Rattle.repl_token.specs.declared.class.Class.{Class}
use Rattle.repl_token.specs.Token.{RawToken, Reads, ReadsAs, IsNext}

-- whatever tokens are after this place, the text's are these and those
pub record Leads {A : Type 0} (class_of : ℕ → Class) (meaning : RawToken → A) (text : List ℕ) (tokens : List A) (at : ℕ) : Type 0 where
  pub raw : List RawToken
  pub within : at ≤ length text
  pub leads : (past : List RawToken) → Reads class_of at (drop at text) past → Reads class_of 0 text (raw ++ past)
  pub means : tokens ≡ map meaning raw

pub leads_none : {A : Type 0} (class_of : ℕ → Class) (meaning : RawToken → A) (text : List ℕ) → Leads class_of meaning text [] 0
leads_none class_of meaning text = record { raw = []; within = omega arith; leads = λ past reads. reads; means = refl }

pub leads_more : {A : Type 0} (class_of : ℕ → Class) (meaning : RawToken → A) (text : List ℕ) (tokens : List A) (at : ℕ) (token : RawToken)
    (end : ℕ)
    → Leads class_of meaning text tokens at → IsNext class_of at (drop at text) token (drop end text) → end ≤ length text
    → Leads class_of meaning text (tokens ++ meaning token ∷ []) end
leads_more class_of meaning text tokens at token end h next within = record {
  raw = h.raw ++ token ∷ [];
  within = within;
  leads = λ past reads.
      let total : end + length (drop end text) ≡ at + length (drop at text) =
      omega (arith, length-drop end text, length-drop at text, h.within) in
      subst (Reads class_of 0 text) (sym (append_assoc h.raw (token ∷ []) past))
      (h.leads (token ∷ past) (drop end text, end, next, total, reads));
  means = ap (λ front. front ++ meaning token ∷ []) h.means ∙ sym (map-append meaning h.raw (token ∷ []));
}

-- the tokens after the place
pub leads_on : {A : Type 0} (class_of : ℕ → Class) (meaning : RawToken → A) (text : List ℕ) (tokens past : List A) (at : ℕ)
    → Leads class_of meaning text tokens at → ReadsAs class_of meaning at (drop at text) past
    → ReadsAs class_of meaning 0 text (tokens ++ past)
leads_on class_of meaning text tokens past at h reads = (
  h.raw ++ reads.0,
  h.leads reads.0 reads.1,
  ap (λ front. front ++ past) h.means ∙ ap (λ back. map meaning h.raw ++ back) reads.2 ∙ sym (map-append meaning h.raw reads.0),
)

-- only blanks are after the place
pub leads_all : {A : Type 0} (class_of : ℕ → Class) (meaning : RawToken → A) (text : List ℕ) (tokens : List A) (at : ℕ)
    → Leads class_of meaning text tokens at → Reads class_of at (drop at text) [] → ReadsAs class_of meaning 0 text tokens
leads_all class_of meaning text tokens at h reads =
    subst (ReadsAs class_of meaning 0 text) (append-nil tokens) (leads_on class_of meaning text tokens [] at h ([], reads, refl))
