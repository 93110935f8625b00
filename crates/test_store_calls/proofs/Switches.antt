-- The last of the positions at which timelines were left, and the steps of a child.
use Rattle.std.proofs.Common.{◌≡◌, ℕ, List, [], ◌∷◌, ◌++◌, refl}
use Rattle.std.proofs.lemmas.List.{map-append}
use Rattle.repl_lsn.specs.declared.history.Part.{Part}
use Rattle.repl_lsn.specs.History.{Path, last_switch}
use Rattle.repl_lsn.specs.Path.{step, steps}

last_switch_append : (before : List Part) (p : Part) → last_switch (before ++ p ∷ []) ≡ p.switch
last_switch_append [] p = refl
last_switch_append (a ∷ []) p = refl
last_switch_append (a ∷ b ∷ before) p = last_switch_append (b ∷ before) p

pub last_switch_of : (parts before : List Part) (p : Part) → parts ≡ before ++ p ∷ [] → last_switch parts ≡ p.switch
last_switch_of parts before p is = rw is (last_switch_append before p)

steps_append : (path : Path) (own : ℕ) (p : Part) → p.tli ≡ path.own →
    steps (record { own = own; parents = path.parents ++ p ∷ [] })
    ≡ steps path ++ record { tli = path.own; switch = last_switch (path.parents ++ p ∷ []) } ∷ []
steps_append path own p is = rw (last_switch_append path.parents p) (rw (← is) (map-append step path.parents (p ∷ [])))

pub child_steps : (path child : Path) (own switch : ℕ) (reason : List ℕ) →
    child ≡ record { own = own; parents = path.parents ++ record { tli = path.own; switch = switch; reason = reason } ∷ [] } →
    steps child ≡ steps path ++ record { tli = path.own; switch = last_switch child.parents } ∷ []
child_steps path child own switch reason is =
    rw is (steps_append path own (record { tli = path.own; switch = switch; reason = reason }) refl)
