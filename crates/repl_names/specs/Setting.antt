-- How far a commit waits for the standbys (PostgreSQL 17 manual, `synchronous_commit`).
use Rattle.std.specs.Prelude.{ℕ, List, Option, Some, None, codes}
use Rattle.repl_token.specs.Token.{Lowers}
use Rattle.repl_names.specs.declared.quorum.Mode.{Mode}
use Rattle.repl_names.specs.declared.quorum.Mode.TheVariants as mode
use Rattle.repl_names.specs.declared.setting.Setting.{Setting}
use Rattle.repl_names.specs.declared.setting.Setting.TheVariants as setting

abbrev pub setting_word : Setting → List ℕ
setting_word setting.RemoteApply = codes "remote_apply"
setting_word setting.On = codes "on"
setting_word setting.RemoteWrite = codes "remote_write"
setting_word setting.Local = codes "local"
setting_word setting.Off = codes "off"

-- the text is the setting's word, with letters of either case
abbrev pub SaysSetting : List ℕ → Setting → Type 0
SaysSetting text v = Lowers text (setting_word v)

-- what of the standbys' reports the commit waits for, if it waits for any
abbrev pub setting_mode : Setting → Option Mode
setting_mode setting.RemoteApply = Some mode.Apply
setting_mode setting.On = Some mode.Flush
setting_mode setting.RemoteWrite = Some mode.Write
setting_mode setting.Local = None
setting_mode setting.Off = None
