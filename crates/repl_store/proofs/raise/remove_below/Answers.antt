-- Name by name, files below the floor go.
use Rattle.std.proofs.Common.{rules, ◌≡◌, ◌/◌, ◌≤◌, ℕ, List, [], map, get_or, string_bytes, String, Global, arith, length, Result, Err, refl, ap, subst, sym, ◌∙◌}
use Rattle.repl_store.specs.Backing.{Before, Comes}
use Rattle.repl_store.specs.declared.fault.StoreFault.{StoreFault}
use Rattle.repl_store.proofs.Apart.{apart_on, apart_query}
use Rattle.repl_store.proofs.Chaining.{comes_after}
use Rattle.repl_disk.specs.Moments.{joined, weakened}
use Rattle.repl_store.proofs.Turns.{done_comes}
use Rattle.std.proofs.lemmas.List.{get_or-map, length-map}
use Rattle.repl_disk.specs.Folder.{AreNames, IfTold}
use Rattle.repl_store.specs.Raised.{Drops}
use Rattle.repl_store.proofs.Reading.{backs_on, only_old}
use Rattle.repl_store.proofs.Freeing.{gone_free, gone_more, gone_none}
use Rattle.repl_store.proofs.raise.remove_below.Goals as goal

pub returns-in_err-remove_if_below-clause-comes : goal.returns-in_err-remove_if_below-clause-comes
returns-in_err-remove_if_below-clause-comes g c = λ s backs.
    let state = g.D.Disk.state in
    let head = c.args.head.now in
    let so_far = c.loop-name.invariant.3 s backs in
    let e : StoreFault = c.in_err-remove_if_below.field-0.0 in
    let is : c.from_residual.result ≡ Err e = search rules in
    let P : Result (Unit {0}) StoreFault
    → Type 0 = λ r. Comes r (state c.args.disk.now) (state c.remove_if_below.new.disk) head (Before s) s (λ t. t ≡ s) in
    subst P (sym is) (comes_after (Err e) (state c.args.disk.now) (state c.loop-name.disk) (state c.remove_if_below.new.disk) head head
    (Before s) s (λ t. t ≡ s) so_far.0 refl c.loop-name.invariant.0 (c.in_err-remove_if_below.ensures.comes s so_far.1))

pub loop-name-preserved : goal.loop-name-preserved
loop-name-preserved g c =
    let state = g.D.Disk.state in
    let head = c.args.head.now in
    let named : c.deref.result.now ≡ string_bytes c.name-item.result = search rules in
    let item_is : c.deref.result.now ≡ get_or (map string_bytes c.deref-name-items.result.now) c.loop-name.name-index [] = named
    ∙ ap string_bytes c.name-item.is
    ∙ sym (get_or-map string_bytes c.deref-name-items.result.now c.loop-name.name-index c.name-item.result [] c.loop-name-test.true) in
    let caused = c.in_ok-remove_if_below.ensures.caused.ok in (
      caused.0 ∙ c.loop-name.invariant.0,
      caused.1 ∙ c.loop-name.invariant.1,
      g.met.D.Disk.keeps_on c.args.disk.now c.loop-name.disk c.remove_if_below.new.disk c.loop-name.invariant.2
          c.in_ok-remove_if_below.ensures.keeps,
      λ s backs.
          let so_far = c.loop-name.invariant.3 s backs in
          let more = c.in_ok-remove_if_below.ensures.comes s so_far.1 in (
            joined (state c.args.disk.now) (state c.loop-name.disk) (state c.remove_if_below.new.disk) _ so_far.0 more.moments,
            more.ok,
          ),
      gone_more (state c.args.disk.now).files (state c.loop-name.disk).files (state c.remove_if_below.new.disk).files head.size
          (head.control.floor / head.size) (map string_bytes c.deref-name-items.result.now) c.loop-name.name-index c.loop-name.invariant.4
          (let P : List ℕ → Type 0 = λ n. Drops (state c.loop-name.disk).files (state c.remove_if_below.new.disk).files head.size
          (head.control.floor / head.size) n in subst P item_is c.in_ok-remove_if_below.ensures.drops),
      apart_on (state c.args.disk.now) (state c.loop-name.disk) (state c.remove_if_below.new.disk) c.loop-name.invariant.5
          c.in_ok-remove_if_below.ensures.apart,
    )

pub returns-clause-comes : goal.returns-clause-comes
returns-clause-comes g c = λ s backs.
    let state = g.D.Disk.state in
    let so_far = c.loop-name.invariant.3 s backs in
    done_comes tt (state c.args.disk.now) (state c.loop-name.disk) c.args.head.now (Before s) s (λ t. t ≡ s) so_far.0 so_far.1

pub loop-name-init : goal.loop-name-init
loop-name-init g c =
    let state = g.D.Disk.state in
    let head = c.args.head.now in (
      search rules,
      search rules,
      search rules,
      λ s backs.
          let only = only_old (state c.args.disk.now) (state c.names.new.self) (g.met.D.Disk.only_now c.args.disk.now) c.names.ensures.crash
          c.names.ensures.ends.time in (
            weakened (state c.args.disk.now) (state c.names.new.self) (state c.args.disk.now).may_leave _ only (λ image was.
                (s.durable, refl, (backs.images image was).stands)),
            backs_on (state c.args.disk.now) (state c.names.new.self) head s backs c.names.ensures.files c.names.ensures.crash,
          ),
      gone_none (state c.args.disk.now).files (state c.names.new.self).files head.size (head.control.floor / head.size)
          (map string_bytes c.deref-name-items.result.now) c.names.ensures.files,
      apart_query (state c.args.disk.now) (state c.names.new.self) (g.met.D.Disk.only_now c.args.disk.now) c.names.ensures.files
          c.names.ensures.crash c.names.ensures.ends.time,
    )

pub returns-clause-removed : goal.returns-clause-removed
returns-clause-removed g c =
    let state = g.D.Disk.state in
    let head = c.args.head.now in
    let names : List (List ℕ) = map string_bytes c.deref-name-items.result.now in
    let all : length names ≤ c.loop-name.name-index = omega (arith, c.loop-name-test.false, length-map c.deref-name-items.result.now (string_bytes {Z = Global})) in
    let P : List (String Global) → Type 0 = λ l. IfTold (state c.args.disk.now).files (λ folder. AreNames folder (map string_bytes l)) in
    let are = subst P (sym c.deref-name-items.ensures.value) c.in-Ok.ensures.names in
    gone_free (state c.args.disk.now).files (state c.loop-name.disk).files head.size (head.control.floor / head.size) names c.loop-name.name-index
    all c.loop-name.invariant.4 are

pub returns-in_err-remove_if_below-clause-apart : goal.returns-in_err-remove_if_below-clause-apart
returns-in_err-remove_if_below-clause-apart g c =
    let state = g.D.Disk.state in
    apart_on (state c.args.disk.now) (state c.loop-name.disk) (state c.remove_if_below.new.disk) c.loop-name.invariant.5
    c.remove_if_below.ensures.apart
