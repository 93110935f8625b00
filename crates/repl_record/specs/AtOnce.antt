-- A record's image that is judged where it lies: whole among the bytes, and on one page. Private clauses cite this.
use Rattle.std.specs.Prelude.{◌≡◌, ℕ, ◌+◌, ◌-◌, ◌%◌, ◌<◌, ◌≤◌, List, length, take, drop, All}
use Rattle.repl_lsn.specs.Segment.{IsSegSize}
use Rattle.repl_page.specs.declared.header.TheConstants.{PAGE_SIZE}
use Rattle.repl_page.specs.Header.{field}
use Rattle.repl_record.specs.declared.walker.Walker.{Walker}
use Rattle.repl_record.specs.Judging.{computed_sum, length_field}

-- these are the bytes of a record after one that starts at prev
pub record IsSound (prev : ℕ) (bytes : List ℕ) : Type 0 where
  pub enough : 24 ≤ length bytes
  pub length_is : length_field bytes ≡ length bytes
  pub prev_is : field 8 8 bytes ≡ prev
  pub reserved_is : field 18 2 bytes ≡ 0
  pub sum_is : field 20 4 bytes ≡ computed_sum bytes

-- the first n of the bytes are those of the log from this position on, which is on a page after its header: a record and
-- zeros, up to the next multiple of 8 if this is one, on that page
pub record LiesWhole (size at prev : ℕ) (bytes : List ℕ) (n : ℕ) : Type 0 where
  pub size_is : IsSegSize size
  pub past : 40 ≤ at % PAGE_SIZE
  pub on_page : at % PAGE_SIZE + n ≤ PAGE_SIZE
  pub within : n ≤ length bytes
  pub rounded : n % 8 ≡ 0
  pub total : ℕ
  pub ends : total ≤ n
  pub few : n < total + 8
  pub sound : IsSound prev (take total bytes)
  pub zeros : All (λ byte. byte ≡ 0) (take (n - total) (drop total bytes))

-- the walker is at the beginning of an image, and that lies whole
abbrev pub HasImage : Walker → List ℕ → ℕ → Type 0
HasImage w bytes n = (w.from ≡ w.at) × LiesWhole w.ident.size w.at w.prev bytes n

-- after an image of so many bytes
abbrev pub passed : Walker → ℕ → Walker
passed w n = record w { at = w.at + n; from = w.at + n; prev = w.at; count = 0; sum = 0 }
