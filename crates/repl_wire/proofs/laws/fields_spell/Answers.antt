-- The fields of a body are the body.
use Rattle.repl_wire.proofs.FieldSpellings.{startup_spell, back_spell}
use Rattle.repl_wire.proofs.laws.fields_spell.Goals as goal

pub returns-clause-startup : goal.returns-clause-startup
returns-clause-startup c = startup_spell

pub returns-clause-back : goal.returns-clause-back
returns-clause-back c = back_spell
