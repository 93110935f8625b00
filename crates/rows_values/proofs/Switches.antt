-- The last of the positions at which timelines were left.
use Rattle.std.proofs.Common.{◌≡◌, List, [], ◌∷◌, ◌++◌, refl}
use Rattle.repl_lsn.specs.declared.history.Part.{Part}
use Rattle.repl_lsn.specs.History.{last_switch}

last_switch_append : (before : List Part) (p : Part) → last_switch (before ++ p ∷ []) ≡ p.switch
last_switch_append [] p = refl
last_switch_append (a ∷ []) p = refl
last_switch_append (a ∷ b ∷ before) p = last_switch_append (b ∷ before) p

pub last_switch_of : (parts before : List Part) (p : Part) → parts ≡ before ++ p ∷ [] → last_switch parts ≡ p.switch
last_switch_of parts before p is = rw is (last_switch_append before p)
