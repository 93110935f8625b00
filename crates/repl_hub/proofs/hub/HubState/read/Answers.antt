-- What is carried is what the node read.
use Rattle.std.proofs.Common.{◌≡◌, ℕ, List, true, false, length, drop, Ok, Err, ap, rules, subst}
use Rattle.std.proofs.lemmas.List.{take_at}
use Rattle.repl_hub.specs.Holding.{Comes, HeldHub, Holds}
use Rattle.repl_hub.specs.Log.{IsCarried, IsRead, read_room}
use Rattle.repl_hub.specs.declared.reply.LogRead.{LogRead}
use Rattle.repl_hub.proofs.Nodes.{held_with, kept_past, over_any, remembered, untold}
use Rattle.repl_hub.proofs.Reading.{carried_sound, read_broken, read_comes, read_refused, read_told, read_wants, sound_node}
use Rattle.repl_node.specs.State.{LeftOf, NodeState}
use Rattle.repl_node.specs.Steps.{OfLog, SameLeft}
use Rattle.repl_wal.specs.Reading.{Reads}
use Rattle.repl_wal.specs.Steps.{Old}
use Rattle.repl_wal.specs.declared.fault.NodeFault.TheVariants as fault
use Rattle.repl_wal.specs.declared.read.ReadOut.{ReadOut}
use Rattle.repl_hub.proofs.hub.HubState.read.Goals as goal

pub returns-then-is_broken-clause-steps : goal.returns-then-is_broken-clause-steps
returns-then-is_broken-clause-steps g c h =
    let state = g.D.Disk.state in
    let before : HeldHub g.row.D.Denot = record { node = c.self.inside.node; sync = c.self.inside.sync; links = c.self.inside.links.items; last = c.self.inside.last; stopped = c.self.inside.stopped } in
    let From : HeldHub g.row.D.Denot → Type 0 = λ k. Holds (state k.node.wal.disk) k h → Comes {A = LogRead} (Err fault.Broken)
    (state k.node.wal.disk) (state k.node.wal.disk) k h (IsRead h c.args.tli c.args.at c.args.most (Err fault.Broken)) (SameLeft h.node) in
    subst From c.self.view_is (λ holds.
    let disk = state before.node.wal.disk in
    let told = c.is_broken.ensures h.node (remembered disk before.node h.node holds.node) in
    let broken : h.node.log.broken ≡ true = search (rules, told, c.if-is_broken.true) in
    read_broken disk before h c.args.tli c.args.at c.args.most broken (g.met.D.Disk.only_now before.node.wal.disk) holds)

pub returns-in-Err-clause-steps : goal.returns-in-Err-clause-steps
returns-in-Err-clause-steps g c h =
    let state = g.D.Disk.state in
    let before : HeldHub g.row.D.Denot = record { node = c.self.inside.node; sync = c.self.inside.sync; links = c.self.inside.links.items; last = c.self.inside.last; stopped = c.self.inside.stopped } in
    let From : HeldHub g.row.D.Denot → Type 0 = λ k. Holds (state k.node.wal.disk) k h → Comes {A = LogRead} (Err fault.Memory)
    (state k.node.wal.disk) (state k.node.wal.disk) k h (IsRead h c.args.tli c.args.at c.args.most (Err fault.Memory)) (SameLeft h.node) in
    subst From c.self.view_is (λ holds.
    let disk = state before.node.wal.disk in
    let told = c.is_broken.ensures h.node (remembered disk before.node h.node holds.node) in
    let sound : h.node.log.broken ≡ false = sound_node h.node.log.broken (λ is. search (rules, told, is, c.if-is_broken.false)) in
    read_wants disk before h c.args.tli c.args.at c.args.most sound (g.met.D.Disk.only_now before.node.wal.disk) holds)

pub invariant_of-self : goal.invariant_of-self
invariant_of-self g c =
    let state = g.D.Disk.state in
    let before : HeldHub g.row.D.Denot = record { node = c.self.inside.node; sync = c.self.inside.sync; links = c.self.inside.links.items; last = c.self.inside.last; stopped = c.self.inside.stopped } in
    let n : NodeState = untold c.self.invariant.node in
    kept_past {A = ReadOut} (Err c.in-Err-read.fault) (state before.node.wal.disk) (state c.read.new.self.wal.disk) before
    c.read.new.self c.self.invariant
    (OfLog n (Reads n.log c.args.tli c.args.at c.deref_mut.result.now c.read.new.room (Err c.in-Err-read.fault))) (LeftOf n (Old n.log))
    (c.in-Err-read.ensures.steps n
    (over_any (state before.node.wal.disk) before.node c.self.invariant.node c.self.invariant.remembers))

pub invariant_of-self-2 : goal.invariant_of-self-2
invariant_of-self-2 g c =
    let state = g.D.Disk.state in
    let before : HeldHub g.row.D.Denot = record { node = c.self.inside.node; sync = c.self.inside.sync; links = c.self.inside.links.items; last = c.self.inside.last; stopped = c.self.inside.stopped } in
    let n : NodeState = untold c.self.invariant.node in
    kept_past {A = ReadOut} (Ok c.in-Ok-read.out) (state before.node.wal.disk) (state c.read.new.self.wal.disk) before
    c.read.new.self c.self.invariant
    (OfLog n (Reads n.log c.args.tli c.args.at c.deref_mut.result.now c.read.new.room (Ok c.in-Ok-read.out))) (LeftOf n (Old n.log))
    (c.in-Ok-read.ensures.steps n
    (over_any (state before.node.wal.disk) before.node c.self.invariant.node c.self.invariant.remembers))

pub returns-in-Err-read-clause-steps : goal.returns-in-Err-read-clause-steps
returns-in-Err-read-clause-steps g c h =
    let state = g.D.Disk.state in
    let before : HeldHub g.row.D.Denot = record { node = c.self.inside.node; sync = c.self.inside.sync; links = c.self.inside.links.items; last = c.self.inside.last; stopped = c.self.inside.stopped } in
    let after = c.read.new.self in
    let e = c.in-Err-read.fault in
    let room = c.deref_mut.result.now in
    let From : HeldHub g.row.D.Denot → Type 0 = λ k. Holds (state k.node.wal.disk) k h → Comes {A = LogRead} (Err e) (state k.node.wal.disk)
    (state after.wal.disk) (held_with before after before.sync) h (IsRead h c.args.tli c.args.at c.args.most (Err e)) (SameLeft h.node) in
    subst From c.self.view_is (λ holds.
    read_comes (state before.node.wal.disk) (state after.wal.disk) before after h c.args.tli c.args.at c.args.most room c.read.new.room
    (Err e) (Err e) holds (λ m told. read_refused h.node.log c.args.tli c.args.at c.args.most room c.read.new.room e m told)
    (λ is. let same : e ≡ fault.DiskFault = cc in ap (λ f. Err f) same) (c.in-Err-read.ensures.steps h.node holds.node))

pub returns-clause-steps : goal.returns-clause-steps
returns-clause-steps g c h =
    let state = g.D.Disk.state in
    let before : HeldHub g.row.D.Denot = record { node = c.self.inside.node; sync = c.self.inside.sync; links = c.self.inside.links.items; last = c.self.inside.last; stopped = c.self.inside.stopped } in
    let after = c.read.new.self in
    let answer = c.in-Ok-read.out in
    let result = c.log_read.result in
    let room = c.deref_mut.result.now in
    let From : HeldHub g.row.D.Denot → Type 0 = λ k. Holds (state k.node.wal.disk) k h → Comes {A = LogRead} result (state k.node.wal.disk)
    (state after.wal.disk) (held_with before after before.sync) h (IsRead h c.args.tli c.args.at c.args.most result) (SameLeft h.node) in
    let long : length room ≡ read_room c.args.most = search rules in
    let same : length c.read.new.room ≡ length room = search rules in
    let rest = drop (length c.read.new.room) c.in-Ok.room.items in
    let count : length c.read.new.room ≡ c.in-Ok.room.len = search rules in
    let carried : IsCarried answer c.read.new.room result = subst (λ (bytes : List ℕ). IsCarried answer bytes result)
    (take_at c.read.new.room rest c.in-Ok.room.len count) c.log_read.ensures in
    subst From c.self.view_is (λ holds.
    read_comes (state before.node.wal.disk) (state after.wal.disk) before after h c.args.tli c.args.at c.args.most room c.read.new.room
    (Ok answer) result holds
    (λ m told. read_told h.node.log c.args.tli c.args.at c.args.most room c.read.new.room answer result m long same told carried)
    (λ is. absurd (carried_sound answer c.read.new.room result carried is)) (c.in-Ok-read.ensures.steps h.node holds.node))
