-- An input is a session in one way, or is refused at one place.
use Rattle.repl_identify.specs.Apart.{not_both}
use Rattle.repl_identify.proofs.Sessions.{one_counts, one_place}
use Rattle.repl_identify.proofs.laws.one_session.Goals as goal

pub returns-clause-one : goal.returns-clause-one
returns-clause-one c = one_counts

pub returns-clause-apart : goal.returns-clause-apart
returns-clause-apart c = not_both

pub returns-clause-place : goal.returns-clause-place
returns-clause-place c = one_place
