-- The part after the one with the number, or the own timeline after the last.
use Rattle.std.proofs.Common.{◌≡◌, ◌<◌, ◌≤◌, ◌+◌, length, get_or, refl, sym, ap, subst, ◌∙◌, arith}
use Rattle.std.proofs.lemmas.Bool.{ltb-true, ltb-false}
use Rattle.repl_lsn.specs.Path.{IsNext}
use Rattle.repl_lsn.proofs.Holders.{stands_next, stands_last}
use Rattle.repl_lsn.proofs.history.History.next_of.Goals as goal

pub returns-in_err-place : goal.returns-in_err-place
returns-in_err-place c =
    rw c.from_residual.ensures (λ next h. c.in_err-place.ensures (h.1).switch (h.0, h.1, h.2, h.3, h.4, refl))

pub returns-in-Some : goal.returns-in-Some
returns-in-Some c =
    let path = c.args.self.now in
    let list : c.as_slice.result.now ≡ path.parents = c.as_slice.ensures ∙ c.parents.ensures.value in
    let found = c.in-Some.ensures.lookup in
    let within : c.in_ok-place.place + 1 < length path.parents =
    omega (arith, ltb-true (c.in_ok-place.place + 1) (length c.as_slice.result.now) (sym found.0), ap length list) in
    let at : c.in-Some.next.now ≡ get_or path.parents (c.in_ok-place.place + 1) c.in-Some.next.now =
    found.1 ∙ ap (λ ps. get_or ps (c.in_ok-place.place + 1) c.in-Some.next.now) list in
    stands_next path c.args.tli c.in_ok-place.place c.in-Some.next.now c.in_ok-place.ensures.0 within at

pub returns-in-None : goal.returns-in-None
returns-in-None c =
    let path = c.args.self.now in
    let list : c.as_slice.result.now ≡ path.parents = c.as_slice.ensures ∙ c.parents.ensures.value in
    let found = c.in-None.ensures.lookup in
    let last : length path.parents ≤ c.in_ok-place.place + 1 =
    omega (arith, ltb-false (c.in_ok-place.place + 1) (length c.as_slice.result.now) (sym found.0), ap length list) in
    subst (IsNext path c.args.tli) (sym c.own.ensures) (stands_last path c.args.tli c.in_ok-place.place c.in_ok-place.ensures.0 last)
