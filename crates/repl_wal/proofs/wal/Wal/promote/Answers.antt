-- The standby is promoted, or the log stays or stops.
use Rattle.std.proofs.Common.{◌≡◌, Ok, Err, refl, sym, ◌∙◌, subst, inl}
use Rattle.repl_control.specs.declared.control.Role.TheVariants.{Primary, Standby}
use Rattle.repl_disk.specs.State.{DiskState}
use Rattle.repl_store.proofs.Apart.{apart_itself, apart_on}
use Rattle.repl_store.specs.Apart.{StaysApart}
use Rattle.repl_wal.specs.Holding.{HeldLog, held_of}
use Rattle.repl_wal.specs.Promoting.{PromoteLeaves, Promotes}
use Rattle.repl_wal.specs.State.{LogState, role_of}
use Rattle.repl_wal.specs.declared.fault.NodeFault.TheVariants as fault
use Rattle.repl_wal.proofs.Ending.{none_of, role_told, running, standby_not, untold, untold_holds, untouched}
use Rattle.repl_wal.proofs.Promoting.{Begun, Chooses, Ends, past, can_certain, can_go, childless, gone, remembers, unflushed, ungone, unlisted}
use Rattle.repl_wal.proofs.StoreCalls.{Certain, Goes, Lists}
use Rattle.repl_wal.proofs.wal.Wal.promote.Given.{Over}
use Rattle.repl_wal.proofs.wal.Wal.promote.Goals.{After-known_numbers, After-path, After-stop, In-Err-child_for, In-Ok-child_for, After-drop-child-inside, In-Ok-flush, After-drop-child-inside-in-Ok-switch, After-stop-in-Err-switch}
use Rattle.repl_wal.proofs.wal.Wal.promote.Goals as goal

pub returns-then-not-is_standby-clause-steps : goal.returns-then-not-is_standby-clause-steps
returns-then-not-is_standby-clause-steps g c n =
    let state = g.D.Disk.state in
    let old : HeldLog g.row.D.Denot = held_of c.self.inside.store c.self.inside.walker c.self.inside.stopped in
    let at_least = c.args.at_least in
    let here : Ends state old old at_least (Err fault.NotStandby) n = λ holds.
    let runs = running old n (none_of old.log.stopped (sym c.if-is_some.ensures)) holds.remembers in
    let not : c.status-before.result.role ≡ Standby → ⊥ = λ is. (let yes = c.is_standby.ensures.1 is in absurd cc) in
    let primary : role_of n ≡ Primary = sym (role_told c.status-before.result old.log.head n c.status-before.ensures.told runs.2.control)
    ∙ standby_not c.status-before.result.role not in
    untouched (Err fault.NotStandby) (state old.disk) old n (Promotes n at_least (Err fault.NotStandby)) (PromoteLeaves n at_least)
    (g.met.D.Disk.only_now old.disk) holds (runs.0, primary, refl) (λ d was. inl was) (λ is. absurd cc) in
    subst (λ (h : HeldLog g.row.D.Denot). Ends state h h at_least (Err fault.NotStandby) n) c.self.view_is here

-- ---- the listing

abbrev old : (g : Over) → After-known_numbers g → HeldLog g.row.D.Denot
old g c = held_of c.self.inside.store c.self.inside.walker c.self.inside.stopped

begun : (g : Over) (c : After-known_numbers g) → Begun (g.D.Disk.state c.self.inside.store.disk) (old g c) c.status-before.result
begun g c = record {
  only = g.met.D.Disk.only_now c.self.inside.store.disk;
  none = none_of c.self.inside.stopped (sym c.if-is_some.ensures);
  is = c.status-before.ensures.right;
  told = c.status-before.ensures.told;
  standby = c.is_standby.ensures.0 (let no = c.if-not-is_standby.false in cc);
}

not_listed : (g : Over) (c : After-stop g) (n : LogState)
    → Ends g.D.Disk.state (old g (goal.at.invariant_of-self g c).After-known_numbers)
    (held_of c.known_numbers.new.self c.self.inside.walker c.stop.new.stopped) c.args.at_least (Err c.stop.result) n
not_listed g c n holds =
    let state = g.D.Disk.state in
    let before = (goal.at.invariant_of-self g c).After-known_numbers in
    let now = c.known_numbers.new.self in
    let was = c.self.inside.store in
    let is = c.in-Err.ensures in
    unlisted (state was.disk) (state now.disk) (old g before) now n c.args.at_least c.status-before.result (begun g before) holds c.in-Err.fault
    c.stop.result c.stop.new.stopped (record {
      head = is.head;
      broken = is.broken;
      breaks = is.breaks;
      known = is.known;
      of_state = is.of_state;
      caused = is.caused;
      lacks = (g.met.D.Disk.never_falls was.disk now.disk is.keeps).lacks;
      comes = is.comes;
    }) c.stop.ensures.answer c.stop.ensures.stopped

pub returns-in-Err-clause-steps : goal.returns-in-Err-clause-steps
returns-in-Err-clause-steps g c n =
    let here = not_listed g c n in
    subst (λ (h : HeldLog g.row.D.Denot). Ends g.D.Disk.state h (held_of c.known_numbers.new.self c.self.inside.walker c.stop.new.stopped)
    c.args.at_least (Err c.stop.result) n) c.self.view_is here

pub invariant_of-self : goal.invariant_of-self
invariant_of-self g c = remembers g.D.Disk.state (old g (goal.at.invariant_of-self g c).After-known_numbers)
    (held_of c.known_numbers.new.self c.self.inside.walker c.stop.new.stopped) c.args.at_least (Err c.stop.result) c.self.invariant.0
    c.self.invariant.1 (not_listed g c)

-- ---- the child

lists : (g : Over) (c : After-path g) → Lists (g.D.Disk.state c.self.inside.store.disk) (g.D.Disk.state c.known_numbers.new.self.disk)
    c.self.inside.store c.known_numbers.new.self (Ok c.in-Ok.known)
lists g c =
    let is = c.in-Ok.ensures in
    record {
      head = is.head;
      broken = is.broken;
      breaks = is.breaks;
      known = is.known;
      of_state = is.of_state;
      caused = is.caused;
      lacks = (g.met.D.Disk.never_falls c.self.inside.store.disk c.known_numbers.new.self.disk is.keeps).lacks;
      comes = is.comes;
    }

pub child_for-requires-clause-past : goal.child_for-requires-clause-past
child_for-requires-clause-past g c =
    let state = g.D.Disk.state in
    let at = goal.at.child_for-requires-clause-past g c in
    let was = old g at.After-known_numbers in
    let now = c.known_numbers.new.self in
    let n = c.self.invariant.0 in
    let holds = untold_holds (state was.disk) was n c.self.invariant.1 in
    past (state was.disk) (state now.disk) was now (untold n) c.args.at_least c.status-before.result (begun g at.After-known_numbers) holds
    c.in-Ok.known
    (lists g at.After-path) c.path.result.now c.last_end-whole.result c.path.ensures c.last_end-whole.ensures

no_child : (g : Over) (c : In-Err-child_for g) (n : LogState)
    → Ends g.D.Disk.state (old g (goal.at.returns-in-Err-child_for-clause-steps g c).After-known_numbers)
    (held_of c.known_numbers.new.self c.self.inside.walker c.self.inside.stopped) c.args.at_least (Err c.in-Err-child_for.fault) n
no_child g c n holds =
    let state = g.D.Disk.state in
    let at = goal.at.returns-in-Err-child_for-clause-steps g c in
    let was = old g at.After-known_numbers in
    let now = c.known_numbers.new.self in
    childless (state was.disk) (state now.disk) was now n c.args.at_least c.status-before.result (begun g at.After-known_numbers) holds
    c.in-Ok.known (lists g at.After-path) c.path.result.now c.greater-known.result c.last_end-whole.result c.in-Err-child_for.fault c.path.ensures
    c.greater-known.ensures c.last_end-whole.ensures c.in-Err-child_for.ensures.refused

pub returns-in-Err-child_for-clause-steps : goal.returns-in-Err-child_for-clause-steps
returns-in-Err-child_for-clause-steps g c n =
    let here = no_child g c n in
    subst (λ (h : HeldLog g.row.D.Denot). Ends g.D.Disk.state h (held_of c.known_numbers.new.self c.self.inside.walker c.self.inside.stopped)
    c.args.at_least (Err c.in-Err-child_for.fault) n) c.self.view_is here

-- ---- the flush

chooses : (g : Over) (c : In-Ok-child_for g) → Chooses c.self.inside.walker c.known_numbers.new.self.head.path c.path.result.now c.status-before.result
    c.args.at_least c.in-Ok.known c.greater-known.result c.last_end-whole.result c.last_start-last.result c.in-Ok-child_for.child
chooses g c = record {
  same = c.path.ensures;
  greatest = c.greater-known.ensures;
  ends = c.last_end-whole.ensures;
  starts = c.last_start-last.ensures;
  left = c.in-Ok-child_for.ensures.made.0;
  is_child = c.in-Ok-child_for.ensures.made.1;
  short = c.in-Ok-child_for.ensures.short;
}

pub flush-requires : goal.flush-requires
flush-requires g c =
    let state = g.D.Disk.state in
    let at = goal.at.flush-requires g c in
    let was = old g at.After-known_numbers in
    let now = c.known_numbers.new.self in
    let n = c.self.invariant.0 in
    let holds = untold_holds (state was.disk) was n c.self.invariant.1 in
    can_certain (state was.disk) (state now.disk) was now (untold n) c.args.at_least c.status-before.result (begun g at.After-known_numbers) holds
    c.in-Ok.known (lists g at.After-path) c.greater-known.result c.last_end-whole.result c.last_start-last.result c.path.result.now
    c.in-Ok-child_for.child (chooses g at.In-Ok-child_for) (state now.disk) now

not_flushed : (g : Over) (c : After-drop-child-inside g) (n : LogState)
    → Ends g.D.Disk.state (old g (goal.at.returns-in-Err-flush-clause-steps g c).After-known_numbers)
    (held_of c.flush.new.self c.self.inside.walker c.stop-in-Err-flush.new.stopped) c.args.at_least (Err c.stop-in-Err-flush.result) n
not_flushed g c n holds =
    let state = g.D.Disk.state in
    let at = goal.at.returns-in-Err-flush-clause-steps g c in
    let was = old g at.After-known_numbers in
    let now = c.known_numbers.new.self in
    let second = c.flush.new.self in
    let is = c.in-Err-flush.ensures in
    unflushed (state was.disk) (state now.disk) was now n c.args.at_least c.status-before.result (begun g at.After-known_numbers) holds
    c.in-Ok.known (lists g at.After-path) c.greater-known.result c.last_end-whole.result c.last_start-last.result c.path.result.now
    c.in-Ok-child_for.child (chooses g at.In-Ok-child_for) (state second.disk) second c.in-Err-flush.fault c.stop-in-Err-flush.result
    c.stop-in-Err-flush.new.stopped (record {
      broken = is.broken;
      breaks = is.breaks;
      ok = is.ok;
      stays = is.stays;
      caused = is.caused;
      lacks = (g.met.D.Disk.never_falls now.disk second.disk is.keeps).lacks;
      comes = is.comes;
    }) c.stop-in-Err-flush.ensures.answer c.stop-in-Err-flush.ensures.stopped

pub returns-in-Err-flush-clause-steps : goal.returns-in-Err-flush-clause-steps
returns-in-Err-flush-clause-steps g c n =
    let here = not_flushed g c n in
    subst (λ (h : HeldLog g.row.D.Denot). Ends g.D.Disk.state h (held_of c.flush.new.self c.self.inside.walker c.stop-in-Err-flush.new.stopped)
    c.args.at_least (Err c.stop-in-Err-flush.result) n) c.self.view_is here

pub invariant_of-self-in-Err-flush : goal.invariant_of-self-in-Err-flush
invariant_of-self-in-Err-flush g c = remembers g.D.Disk.state (old g (goal.at.invariant_of-self-in-Err-flush g c).After-known_numbers)
    (held_of c.flush.new.self c.self.inside.walker c.stop-in-Err-flush.new.stopped) c.args.at_least (Err c.stop-in-Err-flush.result)
    c.self.invariant.0 c.self.invariant.1 (not_flushed g c)

pub returns-in-Err-flush-clause-keeps : goal.returns-in-Err-flush-clause-keeps
returns-in-Err-flush-clause-keeps g c =
    let was = old g (goal.at.returns-in-Err-flush-clause-keeps g c).After-known_numbers in
    let keeps = g.met.D.Disk.keeps_on was.disk c.known_numbers.new.self.disk c.flush.new.self.disk c.in-Ok.ensures.keeps
    c.in-Err-flush.ensures.keeps in
    subst (λ (h : HeldLog g.row.D.Denot). g.D.Disk.keeps h.disk c.flush.new.self.disk) c.self.view_is keeps

-- ---- going over

certain : (g : Over) (c : In-Ok-flush g) → Certain (g.D.Disk.state c.known_numbers.new.self.disk) (g.D.Disk.state c.flush.new.self.disk)
    c.known_numbers.new.self c.flush.new.self c.last_end-whole.result c.last_start-last.result (Ok tt)
certain g c =
    let is = c.in-Ok-flush.ensures in
    record {
      broken = is.broken;
      breaks = is.breaks;
      ok = is.ok;
      stays = is.stays;
      caused = is.caused;
      lacks = (g.met.D.Disk.never_falls c.known_numbers.new.self.disk c.flush.new.self.disk is.keeps).lacks;
      comes = is.comes;
    }

pub switch-requires : goal.switch-requires
switch-requires g c =
    let state = g.D.Disk.state in
    let at = goal.at.switch-requires g c in
    let was = old g at.After-known_numbers in
    let now = c.known_numbers.new.self in
    let n = c.self.invariant.0 in
    let holds = untold_holds (state was.disk) was n c.self.invariant.1 in
    can_go (state was.disk) (state now.disk) was now (untold n) c.args.at_least c.status-before.result (begun g at.After-known_numbers) holds
    c.in-Ok.known (lists g at.After-path) c.greater-known.result c.last_end-whole.result c.last_start-last.result c.path.result.now
    c.in-Ok-child_for.child (chooses g at.In-Ok-child_for) (state c.flush.new.self.disk) c.flush.new.self (certain g at.In-Ok-flush)

went : (g : Over) (c : After-drop-child-inside-in-Ok-switch g) (n : LogState)
    → Ends g.D.Disk.state (old g (goal.at.returns-in-Ok-switch-clause-steps g c).After-known_numbers)
    (held_of c.switch.new.self c.new-self-inside.result c.self.inside.stopped) c.args.at_least (Ok (c.own.result, c.last_end-whole.result)) n
went g c n holds =
    let state = g.D.Disk.state in
    let at = goal.at.returns-in-Ok-switch-clause-steps g c in
    let was = old g at.After-known_numbers in
    let now = c.known_numbers.new.self in
    let second = c.flush.new.self in
    let third = c.switch.new.self in
    let is = c.in-Ok-switch.ensures in
    let goes : Goes (state second.disk) (state third.disk) second third c.in-Ok-child_for.child c.last_end-whole.result c.last_start-last.result
    (Ok tt) = record {
      broken = is.broken;
      breaks = is.breaks;
      ok = is.ok;
      stays = is.stays;
      caused = is.caused;
      lacks = (g.met.D.Disk.never_falls second.disk third.disk is.keeps).lacks;
      comes = is.comes;
    } in
    gone (state was.disk) (state now.disk) was now n c.args.at_least c.status-before.result (begun g at.After-known_numbers) holds
    c.in-Ok.known (lists g at.After-path) c.greater-known.result c.last_end-whole.result c.last_start-last.result c.path.result.now
    c.in-Ok-child_for.child (chooses g at.In-Ok-child_for) (state second.disk) second (certain g at.In-Ok-flush) (state third.disk) third c.new-self-inside.result c.own.result goes
    c.new-self-inside.ensures.stands c.new-self-inside.ensures.ident c.own.ensures

pub returns-in-Ok-switch-clause-steps : goal.returns-in-Ok-switch-clause-steps
returns-in-Ok-switch-clause-steps g c n =
    let here = went g c n in
    subst (λ (h : HeldLog g.row.D.Denot). Ends g.D.Disk.state h (held_of c.switch.new.self c.new-self-inside.result c.self.inside.stopped)
    c.args.at_least (Ok (c.own.result, c.last_end-whole.result)) n) c.self.view_is here

pub invariant_of-self-in-Ok-switch : goal.invariant_of-self-in-Ok-switch
invariant_of-self-in-Ok-switch g c = remembers g.D.Disk.state (old g (goal.at.invariant_of-self-in-Ok-switch g c).After-known_numbers)
    (held_of c.switch.new.self c.new-self-inside.result c.self.inside.stopped) c.args.at_least (Ok (c.own.result, c.last_end-whole.result))
    c.self.invariant.0 c.self.invariant.1 (went g c)

pub returns-in-Ok-switch-clause-keeps : goal.returns-in-Ok-switch-clause-keeps
returns-in-Ok-switch-clause-keeps g c =
    let was = old g (goal.at.returns-in-Ok-switch-clause-keeps g c).After-known_numbers in
    let first = g.met.D.Disk.keeps_on was.disk c.known_numbers.new.self.disk c.flush.new.self.disk c.in-Ok.ensures.keeps
    c.in-Ok-flush.ensures.keeps in
    let keeps = g.met.D.Disk.keeps_on was.disk c.flush.new.self.disk c.switch.new.self.disk first c.in-Ok-switch.ensures.keeps in
    subst (λ (h : HeldLog g.row.D.Denot). g.D.Disk.keeps h.disk c.switch.new.self.disk) c.self.view_is keeps

not_gone : (g : Over) (c : After-stop-in-Err-switch g) (n : LogState)
    → Ends g.D.Disk.state (old g (goal.at.invariant_of-self-in-Err-switch g c).After-known_numbers)
    (held_of c.switch.new.self c.self.inside.walker c.stop-in-Err-switch.new.stopped) c.args.at_least (Err c.stop-in-Err-switch.result) n
not_gone g c n holds =
    let state = g.D.Disk.state in
    let at = goal.at.invariant_of-self-in-Err-switch g c in
    let was = old g at.After-known_numbers in
    let now = c.known_numbers.new.self in
    let second = c.flush.new.self in
    let third = c.switch.new.self in
    let is = c.in-Err-switch.ensures in
    let goes : Goes (state second.disk) (state third.disk) second third c.in-Ok-child_for.child c.last_end-whole.result c.last_start-last.result
    (Err c.in-Err-switch.fault) = record {
      broken = is.broken;
      breaks = is.breaks;
      ok = is.ok;
      stays = is.stays;
      caused = is.caused;
      lacks = (g.met.D.Disk.never_falls second.disk third.disk is.keeps).lacks;
      comes = is.comes;
    } in
    ungone (state was.disk) (state now.disk) was now n c.args.at_least c.status-before.result (begun g at.After-known_numbers) holds
    c.in-Ok.known (lists g at.After-path) c.greater-known.result c.last_end-whole.result c.last_start-last.result c.path.result.now
    c.in-Ok-child_for.child (chooses g at.In-Ok-child_for) (state second.disk) second (certain g at.In-Ok-flush) (state third.disk) third c.in-Err-switch.fault
    c.stop-in-Err-switch.result c.stop-in-Err-switch.new.stopped goes c.stop-in-Err-switch.ensures.answer c.stop-in-Err-switch.ensures.stopped

pub returns-clause-steps : goal.returns-clause-steps
returns-clause-steps g c n =
    let here = not_gone g (goal.at.returns-clause-steps g c).After-stop-in-Err-switch n in
    subst (λ (h : HeldLog g.row.D.Denot). Ends g.D.Disk.state h (held_of c.switch.new.self c.self.inside.walker c.stop-in-Err-switch.new.stopped)
    c.args.at_least (Err c.stop-in-Err-switch.result) n) c.self.view_is here

pub invariant_of-self-in-Err-switch : goal.invariant_of-self-in-Err-switch
invariant_of-self-in-Err-switch g c = remembers g.D.Disk.state (old g (goal.at.invariant_of-self-in-Err-switch g c).After-known_numbers)
    (held_of c.switch.new.self c.self.inside.walker c.stop-in-Err-switch.new.stopped) c.args.at_least (Err c.stop-in-Err-switch.result)
    c.self.invariant.0 c.self.invariant.1 (not_gone g c)

pub returns-clause-keeps : goal.returns-clause-keeps
returns-clause-keeps g c =
    let was = old g (goal.at.returns-clause-keeps g c).After-known_numbers in
    let first = g.met.D.Disk.keeps_on was.disk c.known_numbers.new.self.disk c.flush.new.self.disk c.in-Ok.ensures.keeps
    c.in-Ok-flush.ensures.keeps in
    let keeps = g.met.D.Disk.keeps_on was.disk c.flush.new.self.disk c.switch.new.self.disk first c.in-Err-switch.ensures.keeps in
    subst (λ (h : HeldLog g.row.D.Denot). g.D.Disk.keeps h.disk c.switch.new.self.disk) c.self.view_is keeps

-- ---- the files of the slots

-- from the log as it was given
from_self : {D : Type 0} (state : D → DiskState) (old before : HeldLog D) (new : D) → old ≡ before
    → StaysApart (state old.disk) (state new) → StaysApart (state before.disk) (state new)
from_self {D} state old before new is = subst (λ (h : HeldLog D). StaysApart (state h.disk) (state new)) is

pub returns-then-not-is_standby-clause-apart : goal.returns-then-not-is_standby-clause-apart
returns-then-not-is_standby-clause-apart g c = apart_itself (g.D.Disk.state c.args.self.now.disk) (g.met.D.Disk.only_now c.args.self.now.disk)

pub returns-in-Err-flush-clause-apart : goal.returns-in-Err-flush-clause-apart
returns-in-Err-flush-clause-apart g c =
    let state = g.D.Disk.state in
    let old : HeldLog g.row.D.Denot = held_of c.self.inside.store c.self.inside.walker c.self.inside.stopped in
    from_self state old c.args.self.now c.flush.new.self.disk c.self.view_is
    (apart_on (state old.disk) (state c.known_numbers.new.self.disk) (state c.flush.new.self.disk) c.in-Ok.ensures.apart c.in-Err-flush.ensures.apart)

pub returns-in-Ok-switch-clause-apart : goal.returns-in-Ok-switch-clause-apart
returns-in-Ok-switch-clause-apart g c =
    let state = g.D.Disk.state in
    let old : HeldLog g.row.D.Denot = held_of c.self.inside.store c.self.inside.walker c.self.inside.stopped in
    from_self state old c.args.self.now c.switch.new.self.disk c.self.view_is
    (apart_on (state old.disk) (state c.known_numbers.new.self.disk) (state c.switch.new.self.disk) c.in-Ok.ensures.apart
    (apart_on (state c.known_numbers.new.self.disk) (state c.flush.new.self.disk) (state c.switch.new.self.disk) c.in-Ok-flush.ensures.apart
    c.switch.ensures.apart))

pub returns-clause-apart : goal.returns-clause-apart
returns-clause-apart g c =
    let state = g.D.Disk.state in
    let old : HeldLog g.row.D.Denot = held_of c.self.inside.store c.self.inside.walker c.self.inside.stopped in
    from_self state old c.args.self.now c.switch.new.self.disk c.self.view_is
    (apart_on (state old.disk) (state c.known_numbers.new.self.disk) (state c.switch.new.self.disk) c.in-Ok.ensures.apart
    (apart_on (state c.known_numbers.new.self.disk) (state c.flush.new.self.disk) (state c.switch.new.self.disk) c.in-Ok-flush.ensures.apart
    c.switch.ensures.apart))
