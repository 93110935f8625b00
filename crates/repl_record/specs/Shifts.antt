-- The register moved on by whole bytes of zeros, from which the tables are made. Private clauses cite this.
use Rattle.std.specs.Prelude.{ℕ, zero, suc}
use Rattle.repl_record.specs.Checksum.{bits_of, remainder}

-- moved on by one byte of zeros
unfoldable pub past_byte : ℕ → ℕ
past_byte register = remainder register (bits_of 0)

-- moved on by so many bytes of zeros
unfoldable pub past_bytes : ℕ → ℕ → ℕ
past_bytes zero register = register
past_bytes (suc n) register = past_bytes n (past_byte register)
