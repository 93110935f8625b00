-- Each stage asks what its own function answers.
use Rattle.repl_identify.proofs.stage.Stage.after.Goals as goal

pub returns-in-Starting : goal.returns-in-Starting
returns-in-Starting c = rw c.in-Starting.is c.after_packet.ensures

pub returns-in-Asking : goal.returns-in-Asking
returns-in-Asking c = rw c.in-Asking.is c.after_message.ensures
