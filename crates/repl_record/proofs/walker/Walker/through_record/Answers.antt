-- A part of the record is taken: nothing is wrong with its last byte, or something is.
use Rattle.std.proofs.Common.{◌≡◌, ◌^◌, ◌≤◌, ◌++◌, take, sym, ap, ◌∙◌, subst, arith}
use Rattle.repl_record.specs.declared.walker.Walker.{Walker}
use Rattle.repl_record.specs.Record.{start_of}
use Rattle.repl_record.specs.Moves.{IsFine, IsWrong, Reached}
use Rattle.repl_record.proofs.WalkerRecord.{record_part}
use Rattle.repl_record.proofs.WalkerRecordJudged.{record_reached, record_refused}
use Rattle.repl_record.proofs.walker.Walker.through_record.Goals as goal

pub returns-in-Ok-clause-moved : goal.returns-in-Ok-clause-moved
returns-in-Ok-clause-moved c timeline from prev log stands =
    let w = c.args.self.now in
    let bytes = c.args.bytes.now in
    let taken = c.min-taken.result in
    let After : Walker → Type 0 = λ new. Reached new timeline from prev (log ++ take taken bytes) in
    let kept = c.keep_record.ensures in
    let part = record_part bytes taken stands c.requires.size c.requires.outside c.requires.unfinished c.requires.some (λ i. omega (
      arith,
      c.type_inv.bytes i,
    )) (omega (arith, c.goal-goal.ensures, c.place.ensures)) in
    subst After (sym kept) (record_reached w timeline from prev log bytes taken (omega arith) part (subst IsFine kept c.in-Ok.ensures.fine))

pub returns-in-Err-clause-moved : goal.returns-in-Err-clause-moved
returns-in-Err-clause-moved c timeline from prev log stands =
    let w = c.args.self.now in
    let bytes = c.args.bytes.now in
    let taken = c.min-taken.result in
    let Wrong : Walker → Type 0 = λ new. IsWrong new c.in-Err.why in
    let kept = c.keep_record.ensures in
    let part = record_part bytes taken stands c.requires.size c.requires.outside c.requires.unfinished c.requires.some (λ i. omega (
      arith,
      c.type_inv.bytes i,
    )) (omega (arith, c.goal-goal.ensures, c.place.ensures)) in
    let begins : c.keep_record.new.self.from ≡ from = ap (λ (new : Walker). new.from) kept ∙ stands.keeps.begins in
    let low : c.keep_record.new.self.from ≤ 2 ^ 63 = omega (arith, begins, stands.keeps.past, c.requires.room) in
    let place = c.start.ensures low ∙ ap (λ (new : Walker). start_of new.ident.size new.from) kept
    ∙ ap (start_of w.ident.size) stands.keeps.begins in
    record_refused w timeline from prev log bytes taken c.start.result c.in-Err.why (omega arith) part
    (subst Wrong kept c.in-Err.ensures.wrong) place
