-- Histories that go on from a path by one parent.
use Rattle.std.proofs.Common.{◌≡◌, ℕ, ◌+◌, ◌<◌, ◌≤◌, List, [], ◌∷◌, ◌++◌, length, map, take, drop, get_or, refl, sym, ap, ◌∙◌, ⊎_elim, arith, length-append, length-drop}
use Rattle.std.proofs.lemmas.Bool.{cases_lt}
use Rattle.std.proofs.lemmas.List.{drop-map, drop_more, get_or_at, length-map, length-take-le, length_push, nil_from_length, take-append-drop}
use Rattle.std.proofs.lemmas.List.Elements.{All-cons, All-head, All-nil, All-tail}
use Rattle.repl_lsn.proofs.Relations.{child_longer, next_is_child}
use Rattle.repl_lsn.specs.Between.{AreBetween, IsBetween}
use Rattle.repl_lsn.specs.History.{Path, last_switch}
use Rattle.repl_lsn.specs.Path.{DifferAt, IsChild, IsRelation, Step, step, steps}
use Rattle.repl_lsn.specs.declared.history.Part.{Part}
use Rattle.repl_lsn.specs.declared.relation.Relation.{Relation}
use Rattle.repl_lsn.specs.declared.relation.Relation.TheVariants as relation
use Rattle.repl_wal.specs.Following.{DifferFirst, IsOneMore, Leaves}

-- ---- one parent more

one_longer : (path child : Path) → IsOneMore path child → length child.parents ≡ length path.parents + 1
one_longer path child one = omega (arith, ap length one.parts, length_push one.front one.last, one.count)

-- of so many parents this is the last one
pub one_more_by : (path child : Path) (last : Part) → length child.parents ≡ length path.parents + 1
    → last ≡ get_or child.parents (length path.parents) last → last.tli ≡ path.own → IsOneMore path child
one_more_by path child last long is own =
    let count = length path.parents in
    let none : drop (count + 1) child.parents ≡ [] = nil_from_length (drop (count + 1) child.parents) (omega (
      arith,
      long,
      length-drop
          {A = Part} (count + 1) child.parents,
    )) in
    record {
      front = take count child.parents;
      last = last;
      parts = sym (take-append-drop count child.parents)
          ∙ ap (λ (past : List Part). take count child.parents ++ past) (drop_more child.parents count last (omega (arith, long))
          ∙ ap (λ (p : Part). p ∷ drop (count + 1) child.parents) (sym is)
          ∙ ap (λ (past : List Part). last ∷ past) none);
      own = own;
      count = length-take-le count child.parents (omega (arith, long));
    }

-- ---- the child leaves the path

-- where the last of these steps was left
last_of_steps : (ps : List Part) (xs : List Step) (s : Step) → map step ps ≡ xs ++ s ∷ [] → last_switch ps ≡ s.switch
last_of_steps [] [] s is = absurd cc
last_of_steps [] (x ∷ xs) s is = absurd cc
last_of_steps (p ∷ []) [] s is = let same : step p ≡ s = cc in ap (λ (x : Step). x.switch) same
last_of_steps (p ∷ []) (x ∷ []) s is = absurd cc
last_of_steps (p ∷ []) (x ∷ y ∷ xs) s is = absurd cc
last_of_steps (p ∷ q ∷ ps) [] s is = absurd cc
last_of_steps (p ∷ q ∷ ps) (x ∷ xs) s is = let rest : map step (q ∷ ps) ≡ xs ++ s ∷ [] = cc in last_of_steps (q ∷ ps) xs s rest

leaves_by : (path child : Path) (switch : ℕ) → IsOneMore path child → IsChild path child switch → Leaves path child
leaves_by path child switch one is =
    let s : Step = record { tli = path.own; switch = switch } in
    let none : is.0 ≡ [] = nil_from_length is.0 (omega (
      arith,
      ap length is.1,
      length-append (steps path) (s ∷ is.0),
      length-map child.parents step,
      length-map path.parents step,
      one_longer path child one,
    )) in
    let parts : steps child ≡ steps path ++ s ∷ [] = is.1 ∙ ap (λ (more : List Step). steps path ++ s ∷ more) none in
    let last : last_switch child.parents ≡ switch = last_of_steps child.parents (steps path) s parts in
    parts ∙ ap (λ (k : ℕ). steps path ++ record { tli = path.own; switch = k } ∷ []) (sym last)

-- a history with one parent more goes on from the path where it is not apart from it
pub leaves_unless : (path child : Path) (r : Relation) → IsOneMore path child → IsRelation path child r
    → ((at : ℕ) → r ≡ relation.Apart at → ⊥) → Leaves path child
leaves_unless path child relation.Same one is not = absurd (omega (
  arith,
  ap length is.1,
  length-map child.parents step,
  length-map path.parents step,
  one_longer path child one,
))
leaves_unless path child (relation.Child switch) one is not = leaves_by path child switch one is
leaves_unless path child (relation.Parent switch) one is not = absurd (omega (
  arith,
  child_longer child path switch is,
  length-map child.parents step,
  length-map path.parents step,
  one_longer path child one,
))
leaves_unless path child (relation.Apart at) one is not = absurd (not at refl)

-- ---- the parents differ

-- one that does not go on from the path differs from it in a parent
pub apart_within : (path child : Path) (at : ℕ) → IsOneMore path child → DifferAt path child at
    → ((switch : ℕ) → ¬ IsChild path child switch) → at < length path.parents
apart_within path child at one differ none =
    ⊎_elim
    (λ (within : at < length path.parents). within)
    (λ (past : length path.parents ≤ at).
    let all : length (steps path) ≡ at = omega (arith, differ.within.0, length-map path.parents step) in
    let count : length one.front ≡ at = omega (arith, one.count, all, length-map path.parents step) in
    let last : one.last ≡ get_or child.parents at one.last = sym (ap (λ (ps : List Part). get_or ps at one.last) one.parts
    ∙ get_or_at one.front one.last [] one.last at count) in
    absurd (none one.last.switch (next_is_child path child at one.last differ all (omega (
      arith,
      one_longer path child one,
      one.count,
      count,
    )) last one.own)))
    (cases_lt at (length path.parents))

pub apart_in_child : (path child : Path) (at : ℕ) → IsOneMore path child → at < length path.parents → at < length child.parents
apart_in_child path child at one within = omega (arith, one_longer path child one, within)

pub differ_first : (path child : Path) (at : ℕ) (own theirs : Part) → DifferAt path child at → at < length path.parents
    → at < length child.parents → own ≡ get_or path.parents at own → theirs ≡ get_or child.parents at theirs
    → DifferFirst path child at own theirs
differ_first path child at own theirs differ ours long own_is theirs_is =
    let rest = drop (at + 1) path.parents in
    let more = drop (at + 1) child.parents in
    let mine : drop at path.parents ≡ own ∷ rest = drop_more path.parents at own ours ∙ ap (λ (p : Part). p ∷ rest) (sym own_is) in
    let its : drop at child.parents ≡ theirs ∷ more = drop_more child.parents at theirs long ∙ ap (λ (p : Part). p ∷ more) (sym theirs_is) in
    record {
      rest = rest;
      more = more;
      mine = mine;
      its = its;
      same = differ.same;
      differ = λ alike.
          differ.differ (step own) (map step rest) (map step more) (drop-map step at path.parents ∙ ap (map step) mine)
          (drop-map step at child.parents ∙ ap (map step) its ∙ ap (λ (s : Step). s ∷ map step more) (sym alike));
    }

-- ---- switch points

-- those of the child are the path's, and the last
pub left_between : (least most : ℕ) (ps qs : List Part) (last : Step) → map step qs ≡ map step ps ++ last ∷ [] → AreBetween least most ps
    → least ≤ last.switch → last.switch ≤ most → AreBetween least most qs
left_between least most [] [] last is are low high = absurd cc
left_between least most [] (q ∷ []) last is are low high =
    let same : step q ≡ last = cc in
    let switch : q.switch ≡ last.switch = ap (λ (x : Step). x.switch) same in
    All-cons (IsBetween least most) q [] (omega (arith, low, switch), omega (arith, high, switch)) (All-nil (IsBetween least most))
left_between least most [] (q ∷ r ∷ qs) last is are low high = absurd cc
left_between least most (p ∷ ps) [] last is are low high = absurd cc
left_between least most (p ∷ ps) (q ∷ qs) last is are low high =
    let same : step q ≡ step p = cc in
    let switch : q.switch ≡ p.switch = ap (λ (x : Step). x.switch) same in
    let here = All-head (IsBetween least most) p ps are in
    let rest : map step qs ≡ map step ps ++ last ∷ [] = cc in
    All-cons (IsBetween least most) q qs (omega (arith, here.0, switch), omega (arith, here.1, switch))
    (left_between least most ps qs last rest (All-tail (IsBetween least most) p ps are) low high)
