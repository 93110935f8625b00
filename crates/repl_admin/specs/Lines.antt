-- The lines that the commands write.
use Rattle.std.specs.Prelude.{ℕ, List, [], ◌∷◌, ◌++◌, codes}
use Rattle.std.specs.Fmt.{decimal}
use Rattle.repl_control.specs.declared.control.Role.{Role}
use Rattle.repl_control.specs.declared.control.Role.TheVariants as role
use Rattle.repl_lsn.specs.Position.{position_text}
use Rattle.repl_wal.specs.declared.wal.Identity.{Identity}

abbrev pub ok_line : List ℕ
ok_line = codes "ok" ++ 10 ∷ []

abbrev pub role_word : Role → List ℕ
role_word role.Primary = codes "primary"
role_word role.Standby = codes "standby"

-- a word, a space, and what stands after it
abbrev pub spaced : List ℕ → List ℕ → List ℕ
spaced word rest = word ++ 32 ∷ rest

-- the system's identifier, the role, the timeline, the floor, the whole end and the flushed end
abbrev pub status_line : Identity → List ℕ
status_line identity = spaced (decimal identity.sysid) (spaced (role_word identity.role) (spaced (decimal identity.tli)
    (spaced (position_text identity.floor) (spaced (position_text identity.whole) (position_text identity.flushed ++ 10 ∷ [])))))

abbrev pub check_lines : Identity → List ℕ
check_lines identity = ok_line ++ status_line identity
