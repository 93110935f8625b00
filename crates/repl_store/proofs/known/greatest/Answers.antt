-- Name by name.
use Rattle.std.proofs.Common.{◌≡◌, ◌+◌, ◌∷◌, ◌++◌, [], ℕ, List, map, string_bytes, take, length, get_or, ◌<◌, Global, sym, ◌∙◌, ap, subst, arith}
use Rattle.std.proofs.lemmas.List.{length-map, take_all, take_more}
use Rattle.repl_store.specs.Numbers.{IsGreatest}
use Rattle.repl_store.proofs.Hearing.{get_or-map_of, greatest_more, greatest_none}
use Rattle.repl_store.proofs.known.greatest.Goals as goal

pub loop-name-init : goal.loop-name-init
loop-name-init c = greatest_none c.args.own

pub loop-name-preserved : goal.loop-name-preserved
loop-name-preserved c =
    let names : List (List ℕ) = map string_bytes c.args.names.now in
    let i = c.loop-name.name-index in
    let item = c.as_bytes.result.now in
    let within : i < length names = omega (arith, c.loop-name-test.true, length-map c.args.names.now (string_bytes {Z = Global})) in
    let last : get_or names i item ≡ item = get_or-map_of c.args.names.now i item c.name-item.result c.loop-name-test.true c.name-item.is c.as_bytes.ensures.value in
    let split : take (i + 1) names ≡ take i names ++ item ∷ [] = take_more names i item within ∙ ap (λ (x : List ℕ). take i names ++ x ∷ []) last in
    let P : List (List ℕ) → Type 0 = λ l. IsGreatest c.args.own l c.greater-known.result in
    subst P (sym split) (greatest_more c.args.own c.loop-name.known c.greater-known.result (take i names) item c.loop-name.invariant c.greater-known.ensures)

pub returns : goal.returns
returns c =
    let names : List (List ℕ) = map string_bytes c.args.names.now in
    let P : List (List ℕ) → Type 0 = λ l. IsGreatest c.args.own l c.loop-name.known in
    subst P (take_all c.loop-name.name-index names (omega (arith, c.loop-name-test.false, length-map c.args.names.now (string_bytes {Z = Global})))) c.loop-name.invariant
