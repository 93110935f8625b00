-- The checksum of a record: CRC-32C (Castagnoli), as PostgreSQL's WAL has it. The message's bits, the lowest of each
-- byte first, are divided by the polynomial 1edc6f41, here written with its lowest power first: 82f63b78.
use Rattle.std.specs.Prelude.{ℕ, ◌/◌, ◌%◌, List, [], ◌∷◌, ◌++◌, ◌==◌, if◌then◌else◌, bit_xor}
use Rattle.std.specs.Int.{bit_at}

-- the polynomial, below its highest power
abbrev pub polynomial : ℕ
polynomial = 0x82f6_3b78

-- one bit is divided: it is added to the register's lowest, and where a 1 falls out the polynomial is subtracted
abbrev pub divided : ℕ → ℕ → ℕ
divided register bit = let sum = bit_xor register bit in if sum % 2 == 1 then bit_xor (sum / 2) polynomial else sum / 2

-- the bits of a byte, the lowest first
abbrev pub bits_of : ℕ → List ℕ
bits_of byte = bit_at byte 0 ∷ bit_at byte 1 ∷ bit_at byte 2 ∷ bit_at byte 3 ∷ bit_at byte 4 ∷ bit_at byte 5 ∷ bit_at byte 6 ∷ bit_at byte 7
    ∷ []

-- the register after these bits
unfoldable pub remainder : ℕ → List ℕ → ℕ
remainder register [] = register
remainder register (bit ∷ bits) = remainder (divided register bit) bits

-- the bits of these bytes
unfoldable pub message : List ℕ → List ℕ
message [] = []
message (byte ∷ bytes) = bits_of byte ++ message bytes

-- the checksum that goes on from that of the bytes before; 0 is that of none
abbrev pub checksum_from : ℕ → List ℕ → ℕ
checksum_from before bytes = bit_xor (remainder (bit_xor before 0xffff_ffff) (message bytes)) 0xffff_ffff

abbrev pub checksum : List ℕ → ℕ
checksum bytes = checksum_from 0 bytes
