-- Where positions stand in the files of their segments.
use Rattle.std.proofs.Common.{◌≡◌, ℕ, ◌+◌, ◌*◌, ◌/◌, ◌%◌, ◌<◌, ◌∙◌, ap, arith}
use Rattle.std.proofs.Math.Nat.{div-eq_of_lt, mod-eq_of_lt, mul-add-div_right, mul-add-mod_self_right, mod-add-div'}

-- positions in one segment
pub within : (size at j : ℕ) → 0 < size → at % size + j < size → ((at + j) / size ≡ at / size) × ((at + j) % size ≡ at % size + j)
within size at j some lt =
    let parts : at + j ≡ at / size * size + (at % size + j) = omega (arith, mod-add-div' at size) in (
      ap (λ n. n / size) parts ∙ mul-add-div_right some (at / size) (at % size + j)
          ∙ ap (λ n. at / size + n) (div-eq_of_lt lt) ∙ omega arith,
      ap (λ n. n % size) parts ∙ mul-add-mod_self_right (at / size) size (at % size + j) ∙ mod-eq_of_lt lt,
    )
