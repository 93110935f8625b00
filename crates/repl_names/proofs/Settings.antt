-- A setting has one word.
use Rattle.std.proofs.Common.{◌≡◌, List, ℕ, map, codes, bytes_eq, if◌then◌else◌, refl, sym, ap, ◌∙◌}
use Rattle.std.specs.Char.{to_ascii_lowercase}
use Rattle.repl_names.specs.declared.setting.Setting.{Setting}
use Rattle.repl_names.specs.declared.setting.Setting.TheVariants as setting
use Rattle.repl_names.specs.Setting.{SaysSetting, setting_word}

-- the setting of a word in small letters
abbrev setting_of : List ℕ → Setting
setting_of word =
    if bytes_eq word (codes "remote_apply") then setting.RemoteApply
    else if bytes_eq word (codes "on") then setting.On
    else if bytes_eq word (codes "remote_write") then setting.RemoteWrite
    else if bytes_eq word (codes "local") then setting.Local
    else setting.Off

setting_is : (v : Setting) (text : List ℕ) → SaysSetting text v → setting_of (map to_ascii_lowercase text) ≡ v
setting_is setting.RemoteApply text p = ap setting_of p
setting_is setting.On text p = ap setting_of p
setting_is setting.RemoteWrite text p = ap setting_of p
setting_is setting.Local text p = ap setting_of p
setting_is setting.Off text p = ap setting_of p

pub one_setting : (text : List ℕ) (a b : Setting) → SaysSetting text a → SaysSetting text b → a ≡ b
one_setting text a b p q = sym (setting_is a text p) ∙ setting_is b text q

pub word_is_read : (v : Setting) → SaysSetting (setting_word v) v
word_is_read setting.RemoteApply = refl
word_is_read setting.On = refl
word_is_read setting.RemoteWrite = refl
word_is_read setting.Local = refl
word_is_read setting.Off = refl
