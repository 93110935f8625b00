-- Adding at the end of a list.
use Rattle.std.proofs.Common.{◌≡◌, ℕ, List, [], ◌++◌, Result, Ok, Err, sym, ap, ◌∙◌, append_assoc}
use Rattle.std.specs.Prelude.{OnErr}
use Rattle.std.proofs.lemmas.List.{append-nil}
use Rattle.repl_message.specs.Encoding.{Extends}

-- nothing was added
pub Extends-same : (old new : List ℕ) → new ≡ old → Extends old new
Extends-same old new same = record { more = []; parts = same ∙ sym (append-nil old) }

-- these were added
pub Extends-by : (old new more : List ℕ) → new ≡ old ++ more → Extends old new
Extends-by old new more parts = record { more = more; parts = parts }

-- first some were added, and then others
pub Extends-after : (old middle new first : List ℕ) → middle ≡ old ++ first → Extends middle new → Extends old new
Extends-after old middle new first added then' = record {
  more = first ++ then'.more;
  parts = then'.parts ∙ ap (λ (x : List ℕ). x ++ then'.more) added ∙ append_assoc old first then'.more;
}

-- what holds anyway holds at an error
pub at_err : {T E P : Type 0} (r : Result T E) → P → OnErr r P
at_err (Ok x) p = tt
at_err (Err e) p = p

-- three additions one after another
pub added_three : (old a b c x y z : List ℕ) → a ≡ old ++ x → b ≡ a ++ y → c ≡ b ++ z → c ≡ old ++ (x ++ (y ++ z))
added_three old a b c x y z first second third =
    third ∙ ap (λ (s : List ℕ). s ++ z) (second ∙ ap (λ (s : List ℕ). s ++ y) first) ∙ append_assoc (old ++ x) y z
    ∙ append_assoc old x (y ++ z)
