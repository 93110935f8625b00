-- One word more, or none.
use Rattle.std.proofs.Common.{◌≡◌, ◌⊎◌, ℕ, ◌+◌, ◌<◌, ◌≤◌, List, [], ◌∷◌, length, get_or, drop, sym, ap, subst, ◌∙◌, inl, inr}
use Rattle.std.proofs.lemmas.List.{drop_more}
use Rattle.repl_args.specs.Forms.{tail_maybe}
use Rattle.repl_args.specs.Lines.{IsTail}
use Rattle.repl_top.specs.declared.kinds.Word.TheVariants as kind
use Rattle.repl_top.specs.Words.{IsMagic, IsWordOf, SaysMagic}

-- of one word, and of that with others after it, the first is the same
first_is_one : (a b : List ℕ) (rest : List (List ℕ)) → a ∷ rest ≡ b ∷ [] → a ≡ b
first_is_one a b rest same = ap (λ (words : List (List ℕ)). get_or words 0 []) same

none_is_not_some : (a : List ℕ) (rest : List (List ℕ)) → a ∷ rest ≡ [] → ⊥
none_is_not_some a rest same = absurd cc

-- the word that stands there is a magic number, and the last
pub one_word : (words : List (List ℕ)) (place : ℕ) → place < length words → IsTail IsWordOf (tail_maybe kind.Magic) (drop place words)
    → IsWordOf kind.Magic (get_or words place [])
one_word words place inside (inl none) =
    absurd (none_is_not_some (get_or words place []) (drop (place + 1) words) (sym (drop_more words place [] inside) ∙ none))
one_word words place inside (inr some) =
    subst (λ w. IsWordOf kind.Magic w)
    (sym (first_is_one (get_or words place []) some.0 (drop (place + 1) words) (sym (drop_more words place [] inside) ∙ some.1))) some.2

-- so the words say it
pub magic_word : (words : List (List ℕ)) (place magic : ℕ) → place < length words
    → IsTail IsWordOf (tail_maybe kind.Magic) (drop place words) → IsMagic (get_or words place []) magic → SaysMagic (drop place words) magic
magic_word words place magic inside (inl none) is =
    absurd (none_is_not_some (get_or words place []) (drop (place + 1) words) (sym (drop_more words place [] inside) ∙ none))
magic_word words place magic inside (inr some) is =
    inr (
      some.0,
      some.1,
      subst (λ w. IsMagic w magic)
          (first_is_one (get_or words place []) some.0 (drop (place + 1) words) (sym (drop_more words place [] inside) ∙ some.1)) is,
    )
