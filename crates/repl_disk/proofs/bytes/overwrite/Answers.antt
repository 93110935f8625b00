-- The bytes are those written at their place, whether they reach past the old end or not.
use Rattle.std.proofs.Common.{◌≡◌, ◌∙◌, ◌≤◌, ◌+◌, ◌<◌, length, arith, List, ℕ, ◌-◌, take, drop, replicate, ◌++◌, ap, rules}
use Rattle.repl_disk.proofs.bytes.overwrite.Goals as goal
use Rattle.repl_disk.proofs.bytes.overwrite.Goals.{then-len-end+in_ok-resize, else-len-end}
use Rattle.repl_disk.proofs.Writes.{filled-overwritten, inside-overwritten}
use Rattle.repl_disk.specs.Folder.{overwritten}

filled : (old wide new : List ℕ) (at : ℕ) (bytes : List ℕ) → length old < at + length bytes
    → wide ≡ take (at + length bytes) old ++ replicate (at + length bytes - length old) 0
    → new ≡ take at wide ++ bytes ++ drop (at + length bytes) wide → new ≡ overwritten old at bytes
filled old wide new at bytes short is made = made ∙ ap (λ w. take at w ++ bytes ++ drop (at + length bytes) w) is
    ∙ filled-overwritten old at bytes short

inside : (old wide new : List ℕ) (at : ℕ) (bytes : List ℕ) → at + length bytes ≤ length old → wide ≡ old
    → new ≡ take at wide ++ bytes ++ drop (at + length bytes) wide → new ≡ overwritten old at bytes
inside old wide new at bytes fits is made = made ∙ ap (λ w. take at w ++ bytes ++ drop (at + length bytes) w) is
    ∙ inside-overwritten old at bytes fits

pub returns-clause-ok : goal.returns-clause-ok
returns-clause-ok c =
    elim c.if-len-end.branch [
      | then-len-end+in_ok-resize w ↦ filled c.args.content.now.items c.if-len-end.content.items _ c.args.at c.args.bytes.now (omega arith)
          (search (rules, w.content-is, w.in_ok-resize.ensures)) c.write_over.ensures
      | else-len-end w ↦ inside c.args.content.now.items c.if-len-end.content.items _ c.args.at c.args.bytes.now (omega arith)
          (search rules) c.write_over.ensures
    ]
