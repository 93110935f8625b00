-- Up to how many of a record's bytes nothing more is judged of it.
use Rattle.std.proofs.Common.{◌≡◌, ℕ, ◌<◌, ◌≤◌, ◌⊎◌, ◌∙◌, if◌then◌else◌, nat_lt, inl, inr, arith}
use Rattle.std.proofs.lemmas.Bool.{cases_lt, cond-true, cond-false, lt-ltb, le-ltb}

-- a record of which so many bytes are there, of a length
abbrev next_goal_20 : ℕ → ℕ → ℕ
next_goal_20 count whole = if nat_lt count 24 then 24 else whole

abbrev next_goal_16 : ℕ → ℕ → ℕ
next_goal_16 count whole = if nat_lt count 20 then 20 else next_goal_20 count whole

abbrev next_goal_4 : ℕ → ℕ → ℕ
next_goal_4 count whole = if nat_lt count 16 then 16 else next_goal_16 count whole

abbrev pub next_goal : ℕ → ℕ → ℕ
next_goal count whole = if nat_lt count 4 then 4 else next_goal_4 count whole

-- where it is, by cases
pub goal_is : (count whole : ℕ) → ((count < 4) × (next_goal count whole ≡ 4)) ⊎ ((4 ≤ count) × (count < 16) × (next_goal count whole ≡ 16))
    ⊎ ((16 ≤ count) × (count < 20) × (next_goal count whole ≡ 20)) ⊎ ((20 ≤ count) × (count < 24) × (next_goal count whole ≡ 24))
    ⊎ ((24 ≤ count) × (next_goal count whole ≡ whole))
goal_is count whole =
    elim (cases_lt count 4) [
      | inl below ↦ inl (below, cond-true (nat_lt count 4) 4 _ (lt-ltb count 4 below))
      | inr four ↦ let up = cond-false (nat_lt count 4) 4 (next_goal_4 count whole) (le-ltb count 4 four) in
          elim (cases_lt count 16) [
            | inl below ↦ inr (inl (four, below, up ∙ cond-true (nat_lt count 16) 16 _ (lt-ltb count 16 below)))
            | inr sixteen ↦ let up_16 = up ∙ cond-false (nat_lt count 16) 16 (next_goal_16 count whole) (le-ltb count 16 sixteen) in
                elim (cases_lt count 20) [
                  | inl below ↦ inr (inr (inl (sixteen, below, up_16 ∙ cond-true (nat_lt count 20) 20 _ (lt-ltb count 20 below))))
                  | inr twenty ↦ let up_20 = up_16 ∙ cond-false (nat_lt count 20) 20 (next_goal_20 count whole) (le-ltb count 20 twenty) in
                      elim (cases_lt count 24) [
                        | inl below ↦ inr (inr (inr (inl (
                          twenty,
                          below,
                          up_20
                              ∙ cond-true (nat_lt count 24) 24 _ (lt-ltb count 24 below),
                        ))))
                        | inr past ↦ inr (inr (inr (inr (
                          past,
                          up_20
                              ∙ cond-false (nat_lt count 24) 24 whole (le-ltb count 24 past),
                        ))))
                      ]
                ]
          ]
    ]

-- where it is passed, the record's bytes are all there
pub goal_passed : (count whole : ℕ) → next_goal count whole ≤ count → (24 ≤ count) × (whole ≤ count)
goal_passed count whole passed = (omega (arith, passed, goal_is count whole), omega (arith, passed, goal_is count whole))
