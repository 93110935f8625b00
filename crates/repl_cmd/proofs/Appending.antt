-- A text to which one part after another is appended.
use Rattle.std.proofs.Common.{◌≡◌, ℕ, List, ◌++◌, Result, Ok, Err, is_ok, cond, ap, ◌∙◌}
use Rattle.std.specs.Result.{IfOk}
use Rattle.std.proofs.lemmas.List.{append_assoc}

-- one part more
pub and_more : (old front middle more new : List ℕ) → middle ≡ old ++ front → new ≡ middle ++ more → new ≡ old ++ (front ++ more)
and_more old front middle more new e f = f ∙ ap (λ text. text ++ more) e ∙ append_assoc old front more

-- the last part, which the last call appends
pub and_last : {T E : Type 0} (r : Result T E) (old front middle more new : List ℕ) → middle ≡ old ++ front
    → IfOk r (λ _. new ≡ middle ++ more) → IfOk r (λ _. new ≡ old ++ (front ++ more))
and_last (Ok x) old front middle more new e f = and_more old front middle more new e f
and_last (Err x) old front middle more new e f = tt

-- a last part that is a slice
pub slice_last : {T E : Type 0} (r : Result T E) (middle more new : List ℕ) → new ≡ cond (is_ok r) (middle ++ more) middle
    → IfOk r (λ _. new ≡ middle ++ more)
slice_last (Ok x) middle more new e = e
slice_last (Err x) middle more new e = tt
