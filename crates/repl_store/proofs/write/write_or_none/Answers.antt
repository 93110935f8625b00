-- A refusal is put back.
use Rattle.std.proofs.Common.{◌≡◌, sym, ap}
use Rattle.repl_store.specs.Backing.{Before, appended}
use Rattle.repl_store.specs.Head.{Head}
use Rattle.repl_store.proofs.Pieces.{put_back_comes}
use Rattle.repl_store.proofs.Turns.{done_comes}
use Rattle.repl_store.proofs.write.write_or_none.Goals as goal

pub returns-in-Ok-clause-comes : goal.returns-in-Ok-clause-comes
returns-in-Ok-clause-comes g c = λ s backs.
    let done = c.in-Ok.ensures.comes s backs in
    done_comes tt (g.D.Disk.state c.args.disk.now) (g.D.Disk.state c.write_pieces.new.disk) c.write_pieces.new.head (Before s)
    (appended s c.args.bytes.now) (λ t. t ≡ s) done.moments done.ok

pub returns-in-Err-clause-comes : goal.returns-in-Err-clause-comes
returns-in-Err-clause-comes g c = λ s backs.
    put_back_comes c.in-Err.fault (g.D.Disk.state c.args.disk.now) (g.D.Disk.state c.write_pieces.new.disk) c.args.head.now
    c.write_pieces.new.head c.put_back.new.self s c.args.bytes.now _ c.in-Err.ensures.some.0 c.put_back.ensures
    (sym (ap (λ (h : Head). h.written) c.head.view_is)) backs (c.in-Err.ensures.comes s backs)
