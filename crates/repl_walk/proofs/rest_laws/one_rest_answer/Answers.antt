-- The answers exclude each other.
use Rattle.repl_walk.proofs.RestAnswers.{fault_not_begun, fault_not_whole, one_whole, whole_not_begun}
use Rattle.repl_walk.proofs.rest_laws.one_rest_answer.Goals as goal

pub returns-clause-whole : goal.returns-clause-whole
returns-clause-whole c = one_whole

pub returns-clause-begun : goal.returns-clause-begun
returns-clause-begun c = whole_not_begun

pub returns-clause-fault : goal.returns-clause-fault
returns-clause-fault c = fault_not_begun

pub returns-clause-refused : goal.returns-clause-refused
returns-clause-refused c = fault_not_whole
