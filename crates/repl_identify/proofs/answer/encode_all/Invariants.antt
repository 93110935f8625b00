-- The messages so far are appended.
use Rattle.std.proofs.Common.{◌≡◌, ◌++◌, take}
use Rattle.std.specs.List.{flat_map}
use Rattle.repl_message.specs.Message.{back_spelling}
use Rattle.repl_identify.proofs.answer.encode_all.Given as goal

abbrev pub invariant-loop-message : goal.invariant-loop-message
invariant-loop-message l = l.out.items ≡ l.fn.out.items ++ flat_map back_spelling (take l.message-index l.messages)
