-- Bodies of one string and of nothing, and tests between bodies.
use Rattle.std.proofs.Common.{◌≡◌, ℕ, Bool, true, false, cond, List, [], ◌∷◌, ◌++◌, Err, refl, ◌⊎◌, inl, inr}
use Rattle.repl_text.specs.Text.{IsText}
use Rattle.repl_message.specs.Message.{string}
use Rattle.repl_wire.specs.Judging.{text_of, nothing_of}
use Rattle.repl_wire.proofs.Leaving.{Language, IsBody, Leaves, Nothing, leaves_end, leaves_last, IsParted}
use Rattle.repl_wire.proofs.FieldParts.{field_part, text_field}

-- a choice between two
pub choice : {A : Type 0} (b : Bool) (x other y : A) → cond b x other ≡ y → ((b ≡ true) × (x ≡ y)) ⊎ ((b ≡ false) × (other ≡ y))
choice true x other y e = inl (refl, e)
choice false x other y e = inr (refl, e)

-- one string, and nothing after it
abbrev pub OneText : Language
OneText = IsParted IsText (λ t. string t ∷ []) (λ t. Nothing)

pub text_leaves : (body : List ℕ) (left : ℕ) → IsBody body → text_of body ≡ Err left → Leaves OneText body left
unfolding text_of
text_leaves body left is e = leaves_last (field_part text_field) (λ (t : List ℕ). t) body left is e

pub text_is : (fs more : List (List ℕ)) (t : List ℕ) → fs ≡ (string t ∷ []) ++ more → more ≡ [] → string t ∷ [] ≡ fs
text_is fs more t e nothing = cc

pub nothing_leaves : (body : List ℕ) (left : ℕ) → nothing_of body ≡ Err left → Leaves Nothing body left
unfolding nothing_of
nothing_leaves body left e = leaves_end tt body left e
