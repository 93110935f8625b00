-- A read leaves the store and its files as they were.
use Rattle.std.proofs.Common.{◌≡◌, Result, sym, subst}
use Rattle.repl_store.specs.Backing.{Backs, Before, Comes}
use Rattle.repl_store.specs.Head.{Head, Held}
use Rattle.repl_store.specs.declared.fault.StoreFault.{StoreFault}
use Rattle.repl_store.proofs.Reading.{read_comes}
use Rattle.repl_store.proofs.store.Store.read_into.Goals as goal

pub returns-clause-comes : goal.returns-clause-comes
returns-clause-comes g c s backs =
    let state = g.D.Disk.state in
    let done = c.read_range-done.result in
    let B : Held g.row.D.Denot → Type 0 = λ h. Backs (state h.disk) h.head s in
    let within = subst B (sym c.self.view_is) backs in
    let comes = read_comes done (state c.self.inside.disk) (state c.read_range-done.new.disk) c.self.inside.head s _ _ _ within
    (c.read_range-done.ensures.reads s within) in
    let R : g.row.D.Denot → Type 0 = λ d. Comes done (state c.self.inside.disk) (state d) c.self.inside.head (Before s) s (λ t. t ≡ s) in
    let Q : Head → Type 0 = λ h. Comes done (state c.self.inside.disk) (state c.remember.new.self.disk) h (Before s) s (λ t. t ≡ s) in
    let P : Result (Unit {0}) StoreFault → Type 0 = λ r. Comes r (state c.self.inside.disk) (state c.remember.new.self.disk)
    c.remember.new.self.head (Before s) s (λ t. t ≡ s) in
    let H : Held g.row.D.Denot → Type 0 = λ h. Comes c.remember.result (state h.disk) (state c.remember.new.self.disk)
    c.remember.new.self.head (Before s) s (λ t. t ≡ s) in
    subst H c.self.view_is (subst P (sym c.remember.ensures.answer) (subst Q (sym c.remember.ensures.head)
    (subst R (sym c.remember.ensures.disk) comes)))
