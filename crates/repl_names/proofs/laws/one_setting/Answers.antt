-- The law `one_setting`.
use Rattle.repl_names.proofs.Settings.{one_setting, word_is_read}
use Rattle.repl_names.proofs.laws.one_setting.Goals as goal

pub returns : goal.returns
returns c = record { one = one_setting; read = word_is_read }
