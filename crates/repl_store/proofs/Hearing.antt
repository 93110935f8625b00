-- Every folder has one greatest number of a timeline that was heard of.
use Rattle.std.proofs.Common.{◌≡◌, ◌⊎◌, ℕ, zero, suc, ◌^◌, ◌<◌, ◌≤◌, List, [], ◌∷◌, ◌++◌, length, map, get_or, ap, String, Global, string_bytes, Contains, Option, Some, None, IsSome, refl, sym, ◌∙◌, subst, inl, inr, ⊎_elim, arith}
use Rattle.std.proofs.lemmas.Bool.{cases_lt}
use Rattle.std.proofs.lemmas.List.{get_or-map}
use Rattle.std.proofs.lemmas.List.Elements.{Contains-append_cases, Contains-append_left, Contains-append_right}
use Rattle.repl_disk.specs.Folder.{AreNames, Folder}
use Rattle.repl_lsn.specs.Segment.{history_name}
use Rattle.repl_store.specs.Durable.{IsKnown}
use Rattle.repl_store.specs.Numbers.{IsGreatest}

-- of the numbers below a bound
record KnownBelow (folder : Folder) (own bound known : ℕ) : Type 0 where
  above : own ≤ known
  is : (known ≡ own) ⊎ ((known < bound) × IsSome (folder (history_name known)))
  all : (tli : ℕ) → 0 < tli → tli < bound → IsSome (folder (history_name tli)) → tli ≤ known

pub some_or_none : (file : Option (List ℕ)) → IsSome file ⊎ (IsSome file → ⊥)
some_or_none None = inr (λ h. absurd (let k = h in cc))
some_or_none (Some bytes) = inl refl

module _ (folder : Folder) (own : ℕ) where
  -- one number more
  more : (bound known : ℕ) → KnownBelow folder own bound known → (next : ℕ) × KnownBelow folder own (suc bound) next
  more bound known so_far = ⊎_elim there not_there (some_or_none (folder (history_name bound)))
    where
      least : (tli : ℕ) → 0 < tli → tli < suc bound → IsSome (folder (history_name tli)) → (tli ≡ bound) ⊎ (tli ≤ known)
      least tli some below has = ⊎_elim (λ (lt : tli < bound). inr (so_far.all tli some lt has)) (λ (ge : bound ≤ tli). inl (omega (arith, ge, below)))
          (cases_lt tli bound)

      kept : (known ≡ own) ⊎ ((known < suc bound) × IsSome (folder (history_name known)))
      kept = ⊎_elim inl (λ (h : (known < bound) × IsSome (folder (history_name known))). inr (omega (arith, h.0), h.1)) so_far.is

      stay : ((tli : ℕ) → 0 < tli → tli < suc bound → IsSome (folder (history_name tli)) → tli ≤ known)
          → (next : ℕ) × KnownBelow folder own (suc bound) next
      stay all = (known, record { above = so_far.above; is = kept; all = all })

      there : IsSome (folder (history_name bound)) → (next : ℕ) × KnownBelow folder own (suc bound) next
      there has = ⊎_elim (λ (higher : known < bound). (
        bound,
        record {
          above = omega (arith, so_far.above, higher);
          is = inr (omega arith, has);
          all = λ tli some below h. omega (arith, below);
        },
      )) (λ (no : bound ≤ known). stay (λ tli some below h. omega (arith, below, no))) (cases_lt known bound)

      not_there : (IsSome (folder (history_name bound)) → ⊥) → (next : ℕ) × KnownBelow folder own (suc bound) next
      not_there none = stay (λ tli some below h. ⊎_elim (λ (same : tli ≡ bound). absurd (none (let P : ℕ → Type 0 = λ n. IsSome (folder (history_name n)) in subst P same h)))
          (λ le. le) (least tli some below h))

  -- and so of all below it
  below : (bound : ℕ) → (known : ℕ) × KnownBelow folder own bound known
  below zero = (own, record { above = omega arith; is = inl refl; all = λ tli some lt h. absurd (omega (arith, lt)) })
  below (suc bound) = let so_far = below bound in more bound so_far.0 so_far.1

  pub known_exists : (known : ℕ) × IsKnown folder own known
  known_exists = let found = below (2 ^ 32) in (
    found.0,
    record { above = found.1.above; is = found.1.is; all = found.1.all },
  )

  pub one_known : (a b : ℕ) → 0 < own → IsKnown folder own a → IsKnown folder own b → a ≡ b
  one_known a b some is_a is_b = omega (arith, at_most a b some is_a is_b, at_most b a some is_b is_a)
    where
      at_most : (a b : ℕ) → 0 < own → IsKnown folder own a → IsKnown folder own b → a ≤ b
      at_most a b some is_a is_b = ⊎_elim (λ (same : a ≡ own). omega (arith, same, is_b.above))
          (λ (h : (a < 2 ^ 32) × IsSome (folder (history_name a))). is_b.all a (omega (arith, some, is_a.above)) h.0 h.1) is_a.is

-- ---- in a list of names

no_name : (name : List ℕ) → Contains [] name → ⊥
no_name name has = absurd (omega (arith, has.1))

pub greatest_none : (own : ℕ) → IsGreatest own [] own
greatest_none own = record { above = omega arith; is = inl refl; all = λ tli some below has. absurd (no_name (history_name tli) has) }

-- one name more
pub greatest_more : (own a b : ℕ) (names : List (List ℕ)) (name : List ℕ) → IsGreatest own names a → IsGreatest a (name ∷ []) b
    → IsGreatest own (names ++ name ∷ []) b
greatest_more own a b names name so_far next = record {
  above = omega (arith, so_far.above, next.above);
  is = ⊎_elim (λ (same : b ≡ a). ⊎_elim (λ (own_is : a ≡ own). inl (same ∙ own_is))
      (λ (h : (a < 2 ^ 32) × Contains names (history_name a)). inr (
        omega (arith, same, h.0),
        let P : ℕ → Type 0 = λ n. Contains (names ++ name ∷ []) (history_name n) in
            subst P (sym same) (Contains-append_left names (name ∷ []) (history_name a) h.1),
      ))
      so_far.is)
      (λ (h : (b < 2 ^ 32) × Contains (name ∷ []) (history_name b)). inr (h.0, Contains-append_right names (name ∷ []) (history_name b) h.1))
      next.is;
  all = λ tli some below has. ⊎_elim (λ (before : Contains names (history_name tli)). omega (arith, so_far.all tli some below before, next.above))
      (λ (last : Contains (name ∷ []) (history_name tli)). next.all tli some below last)
      (Contains-append_cases names (name ∷ []) (history_name tli) has);
}

-- the names of the files that are there
pub known_of_names : (folder : Folder) (own known : ℕ) (names : List (List ℕ)) → AreNames folder names → IsGreatest own names known
    → IsKnown folder own known
known_of_names folder own known names are is = record {
  above = is.above;
  is = ⊎_elim inl (λ (h : (known < 2 ^ 32) × Contains names (history_name known)). inr (h.0, (are.all (history_name known)).0 h.1)) is.is;
  all = λ tli some below there. is.all tli some below ((are.all (history_name tli)).1 there);
}

-- ---- a list of texts

pub get_or-map_of : (names : List (String Global)) (i : ℕ) (bytes : List ℕ) (name : String Global) → i < length names
    → name ≡ get_or names i name → bytes ≡ string_bytes name → get_or (map string_bytes names) i bytes ≡ bytes
get_or-map_of names i bytes name lt is value =
    get_or-map string_bytes names i name bytes lt ∙ ap string_bytes (sym is) ∙ sym value
