-- The body of a frame is read as its type byte says.
use Rattle.std.proofs.Common.{◌≡◌, ℕ, ◌-◌, List, take, drop, sym, ap, subst, slice_index_or}
use Rattle.repl_message.specs.declared.message.Message.{Message}
use Rattle.repl_wire.specs.declared.taking.Taken.{Taken}
use Rattle.repl_wire.specs.Judging.{IsJudged, Gives, message_of}
use Rattle.repl_wire.proofs.Heads.{sent_frame}
use Rattle.repl_wire.proofs.taking.take_sent.Goals as goal

pub read_message-requires : goal.read_message-requires
read_message-requires c =
    let f = sent_frame c.args.side c.args.bytes.now c.args.size c.requires.head c.requires.there in
    rw f.parts f.known

pub returns : goal.returns
returns c =
    let f = sent_frame c.args.side c.args.bytes.now c.args.size c.requires.head c.requires.there in
    let body : List ℕ = take (c.args.size - 5) (drop 5 c.args.bytes.now) in
    let first : slice_index_or c.args.bytes.now 0 0 ≡ f.kind = ap (λ (t : List ℕ). slice_index_or t 0 0) f.parts in
    subst (λ (t : Taken). IsJudged c.answer.result t) (sym f.judged)
    (c.answer.ensures (message_of c.args.side f.kind body)
    (subst (λ (k : ℕ). Gives (λ (m : Message). m) c.read_message.result (message_of c.args.side k body)) first c.read_message.ensures))
