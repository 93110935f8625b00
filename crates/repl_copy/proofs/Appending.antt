-- Adding at the end of a list, step by step.
use Rattle.std.proofs.Common.{◌≡◌, ℕ, List, ◌++◌, Result, Ok, Err, OnOk, ap, ◌∙◌, append_assoc}

-- first x was added, and then y
pub then_added : (old x y a b : List ℕ) → a ≡ old ++ x → b ≡ a ++ y → b ≡ old ++ (x ++ y)
then_added old x y a b first second = second ∙ ap (λ (t : List ℕ). t ++ y) first ∙ append_assoc old x y

-- x was added, and then y if the last step did not fail: together they are the whole
pub last_added : {T E : Type 0} (r : Result T E) (old x y a b whole : List ℕ) → a ≡ old ++ x → x ++ y ≡ whole → OnOk r (b ≡ a ++ y)
    → OnOk r (b ≡ old ++ whole)
last_added (Ok done) old x y a b whole first parts last = then_added old x y a b first last ∙ ap (λ (t : List ℕ). old ++ t) parts
last_added (Err fault) old x y a b whole first parts last = tt
