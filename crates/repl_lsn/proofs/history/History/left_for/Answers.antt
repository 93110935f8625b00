-- The other goes on from this one exactly where its next step is this one's own number.
use Rattle.std.proofs.Common.{◌≡◌, ◌≢◌, ◌<◌, ◌≤◌, length, get_or, ◌∙◌, arith, rules}
use Rattle.std.proofs.lemmas.Grind.{common_steps}
use Rattle.std.proofs.lemmas.List.{length-map}
use Rattle.repl_lsn.specs.Path.{step, steps}
use Rattle.repl_lsn.proofs.Relations.{child_shares_all, child_longer_by, child_next, next_is_child}
use Rattle.repl_lsn.proofs.history.History.left_for.Goals as goal
use Rattle.repl_lsn.proofs.history.History.left_for.Goals.{in_default-via-in-Some+else-eq, in_default-via-in_default}

pub returns-then-as_slice-shared : goal.returns-then-as_slice-shared
returns-then-as_slice-shared c = λ switch child.
    let all = child_shares_all c.args.self.now c.args.other.now c.args.shared switch c.requires child in
    let long = length-map c.args.self.now.parents step in
    let some : length c.args.self.now.parents ≢ c.args.shared = search rules in
    omega arith

pub returns-in-Some : goal.returns-in-Some
returns-in-Some c =
    let a = c.args.self.now in
    let b = c.args.other.now in
    let x = c.in-Some.part.now in
    let same : length a.parents ≡ c.args.shared = search rules in
    let all : length (steps a) ≡ c.args.shared = length-map a.parents step ∙ same in
    let within : c.args.shared < length b.parents = grind (arith, common_steps) in
    let at : x ≡ get_or b.parents c.args.shared x = let here = c.in-Some.ensures.lookup.1 in cc in
    let number : x.tli ≡ a.own = search rules in
    next_is_child a b c.args.shared x c.requires all within at number

pub returns-in_default : goal.returns-in_default
returns-in_default c = λ switch child.
    let a = c.args.self.now in
    let b = c.args.other.now in
    let all = child_shares_all a b c.args.shared switch c.requires child in
    elim c.in_default.branch [
      | in_default-via-in-Some+else-eq w ↦
          (let x = w.in-Some.part.now in
          let at : x ≡ get_or b.parents c.args.shared x = let here = w.in-Some.ensures.lookup.1 in cc in
          let number : x.tli ≡ a.own = child_next a b c.args.shared switch x child all at in
          search rules)
      | in_default-via-in_default w ↦
          (let within : c.args.shared < length b.parents = child_longer_by a b c.args.shared switch child all in
          let past : length b.parents ≤ c.args.shared = grind (arith, common_steps) in
          omega arith)
    ]
