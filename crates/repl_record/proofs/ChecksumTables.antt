-- The tables hold what they say, as the check computes.
use Rattle.std.proofs.Common.{◌≡◌, ℕ, zero, suc, ◌+◌, ◌-◌, ◌*◌, ◌<◌, ◌==◌, ◌&&◌, Bool, true, false, List, [], ◌∷◌, ◌++◌, length, get_or, refl, ap, ◌∙◌, arith, eqb-true, zero-add}
use Rattle.std.specs.List.{range_with_len}
use Rattle.std.proofs.lemmas.Bool.{and_parts}
use Rattle.std.proofs.lemmas.List.FromFn.{get_or-range_with_len, length-range_with_len}
use Rattle.std.proofs.lemmas.List.{get_or-append_right, get_or_append_left}
use Rattle.repl_record.specs.Checksum.{remainder}
use Rattle.repl_record.specs.Shifts.{past_byte, past_bytes}
use Rattle.repl_record.specs.declared.checksum_tables.TheConstants.{LEFT_BEHIND}
use Rattle.repl_record.proofs.ChecksumShifts.{past_bytes-last}

-- each entry is what stands at its place among those before, moved on by one byte of zeros
unfoldable follows : List ℕ → List ℕ → Bool
follows befores [] = true
follows [] (entry ∷ entries) = false
follows (before ∷ befores) (entry ∷ entries) = entry == past_byte before && follows befores entries

-- the bytes, and then the entries that the next table follows
unfoldable befores : List ℕ → List ℕ
befores entries = range_with_len 0 256 ++ entries

all_follow : follows (befores LEFT_BEHIND) LEFT_BEHIND ≡ true
unfolding befores follows past_byte remainder
all_follow = refl

entry_follows : (others entries : List ℕ) (i : ℕ) → follows others entries ≡ true → i < length entries
    → get_or entries i 0 ≡ past_byte (get_or others i 0)
unfolding follows
entry_follows others [] i follow inside = absurd (omega arith)
entry_follows [] (entry ∷ entries) i follow inside = absurd cc
entry_follows (before ∷ others) (entry ∷ entries) zero follow inside =
    eqb-true entry (past_byte before) (and_parts (entry == past_byte before) (follows others entries) follow).0
entry_follows (before ∷ others) (entry ∷ entries) (suc i) follow inside =
    entry_follows others entries i (and_parts (entry == past_byte before) (follows others entries) follow).1 (omega arith)

-- of a list after the first n numbers
among_first : (n : ℕ) (entries : List ℕ) (i : ℕ) → i < n → get_or (range_with_len 0 n ++ entries) i 0 ≡ i
among_first n entries i below =
    get_or_append_left (range_with_len 0 n) entries 0 i (omega (arith, length-range_with_len 0 n)) ∙ get_or-range_with_len 0 n i 0 below
    ∙ zero-add i

past_first : (n : ℕ) (entries : List ℕ) (i : ℕ) → get_or (range_with_len 0 n ++ entries) (n + i) 0 ≡ get_or entries i 0
past_first n entries i =
    let same : n + i - n ≡ i = omega arith in
    get_or-append_right (range_with_len 0 n) entries n (n + i) 0 (length-range_with_len 0 n) (omega arith)
    ∙ ap (λ k. get_or entries k 0) same

entry_is : (entries : List ℕ) → follows (befores entries) entries ≡ true → (table byte : ℕ) → byte < 256
    → 256 * table + byte < length entries
    → get_or entries (256 * table + byte) 0 ≡ past_bytes (suc table) byte
unfolding befores past_bytes
entry_is entries follow zero byte fits inside =
    let first : 256 * zero + byte ≡ byte = omega arith in
    entry_follows (befores entries) entries (256 * zero + byte) follow inside ∙ ap (λ i. past_byte (get_or (befores entries) i 0)) first
    ∙ ap past_byte (among_first 256 entries byte fits)
entry_is entries follow (suc table) byte fits inside =
    let next : 256 * suc table + byte ≡ 256 + (256 * table + byte) = omega arith in
    entry_follows (befores entries) entries (256 * suc table + byte) follow inside
    ∙ ap (λ i. past_byte (get_or (befores entries) i 0)) next
    ∙ ap past_byte (past_first 256 entries (256 * table + byte) ∙ entry_is entries follow table byte fits (omega arith))
    ∙ past_bytes-last (suc table) byte

pub LEFT_BEHIND-is : (table byte : ℕ) → table < 16 → byte < 256 → get_or LEFT_BEHIND (256 * table + byte) 0 ≡ past_bytes (suc table) byte
LEFT_BEHIND-is table byte table_is byte_is = entry_is LEFT_BEHIND all_follow table byte byte_is (let inside : 256 * table + byte < 4096 =
    omega arith in inside)
