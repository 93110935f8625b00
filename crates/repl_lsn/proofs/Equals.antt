-- The tests of equality decide equality.
use Rattle.std.proofs.Common.{◌≡◌, ℕ, Bool, true, ◌==◌, ◌&&◌, List, refl, sym, ap, ◌∙◌, subst}
use Rattle.std.specs.Bool.{Decides}
use Rattle.std.specs.Cmp.Lexicographic.{pointwise}
use Rattle.std.proofs.lemmas.Bool.{and_parts, eqb-true, eq-eqb}
use Rattle.std.proofs.lemmas.Slice.Eq.{slice_eq-Decides, bytes_eq-Decides}
use Rattle.repl_lsn.specs.declared.history.Part.{Part}
use Rattle.repl_lsn.specs.History.{Path}
use Rattle.repl_lsn.specs.Equality.{part_eq, path_eq}

part_from_fields : (a b : Part) → a.tli ≡ b.tli → a.switch ≡ b.switch → a.reason ≡ b.reason → a ≡ b
part_from_fields a b p q r =
    let with_tli : ℕ → Part = λ x. record { tli = x; switch = a.switch; reason = a.reason } in
    let with_switch : ℕ → Part = λ x. record { tli = b.tli; switch = x; reason = a.reason } in
    let with_reason : List ℕ → Part = λ x. record { tli = b.tli; switch = b.switch; reason = x } in
    ap with_tli p ∙ ap with_switch q ∙ ap with_reason r

fields_true : (x y : ℕ) → x ≡ y → (x == y) ≡ true
fields_true x y p = eq-eqb x y p

part_same : (a b : Part) → part_eq a b ≡ true → a ≡ b
part_same a b e =
    let first = and_parts (a.tli == b.tli) ((a.switch == b.switch) && pointwise ◌==◌ a.reason b.reason) e in
    let rest = and_parts (a.switch == b.switch) (pointwise ◌==◌ a.reason b.reason) first.1 in
    part_from_fields a b (eqb-true a.tli b.tli first.0) (eqb-true a.switch b.switch rest.0) ((bytes_eq-Decides a.reason b.reason).0 rest.1)

both_true : (p q : Bool) → p ≡ true → q ≡ true → (p && q) ≡ true
both_true p q x y = cc

part_test : (a : Part) → part_eq a a ≡ true
part_test a =
    both_true (a.tli == a.tli) ((a.switch == a.switch) && pointwise ◌==◌ a.reason a.reason) (fields_true a.tli a.tli refl)
    (both_true (a.switch == a.switch) (pointwise ◌==◌ a.reason a.reason) (fields_true a.switch a.switch refl)
    ((bytes_eq-Decides a.reason a.reason).1 refl))

part_eq-Decides : (a b : Part) → Decides (part_eq a b) (a ≡ b)
part_eq-Decides a b = (part_same a b, λ e. subst (λ x. part_eq a x ≡ true) e (part_test a))

pub parts_eq-Decides : (xs ys : List Part) (r : Bool) → r ≡ pointwise part_eq xs ys → Decides r (xs ≡ ys)
parts_eq-Decides xs ys r e = slice_eq-Decides part_eq-Decides xs ys r e

path_from_fields : (a b : Path) → a.own ≡ b.own → a.parents ≡ b.parents → a ≡ b
path_from_fields a b p q =
    let with_own : ℕ → Path = λ x. record { own = x; parents = a.parents } in
    let with_parents : List Part → Path = λ x. record { own = b.own; parents = x } in
    ap with_own p ∙ ap with_parents q

path_test : (a : Path) → path_eq a a ≡ true
path_test a =
    both_true (a.own == a.own) (pointwise part_eq a.parents a.parents) (fields_true a.own a.own refl)
    ((parts_eq-Decides a.parents a.parents (pointwise part_eq a.parents a.parents) refl).1 refl)

path_same : (a b : Path) → path_eq a b ≡ true → a ≡ b
path_same a b e =
    let both = and_parts (a.own == b.own) (pointwise part_eq a.parents b.parents) e in
    path_from_fields a b (eqb-true a.own b.own both.0) ((parts_eq-Decides a.parents b.parents (pointwise part_eq a.parents b.parents)
    refl).0 both.1)

pub path_eq-Decides : (a b : Path) (r : Bool) → r ≡ path_eq a b → Decides r (a ≡ b)
path_eq-Decides a b r e = (λ t. path_same a b (sym e ∙ t), λ s. e ∙ subst (λ x. path_eq a x ≡ true) s (path_test a))
