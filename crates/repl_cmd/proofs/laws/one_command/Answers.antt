-- The law `one_command`.
use Rattle.repl_cmd.proofs.Readings.{one_read}
use Rattle.repl_cmd.proofs.Walking.{says_command}
use Rattle.repl_cmd.proofs.laws.one_command.Goals as goal

pub returns-clause-one : goal.returns-clause-one
returns-clause-one c = one_read

pub returns-clause-is : goal.returns-clause-is
returns-clause-is c = λ text command read. says_command read.tokens command read.says
