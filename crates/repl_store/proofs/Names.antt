-- The names of a store's files differ: each kind has its own length, and a segment has one name.
use Rattle.std.proofs.Common.{
  ◌≡◌,
  ◌≢◌,
  ℕ,
  ◌+◌,
  ◌-◌,
  ◌*◌,
  ◌/◌,
  ◌%◌,
  ◌^◌,
  ◌<◌,
  ◌≤◌,
  List,
  [],
  ◌∷◌,
  ◌++◌,
  length,
  codes,
  take,
  drop,
  append_assoc,
  sym,
  ap,
  ◌∙◌,
  ⊎_elim,
  arith,
  length-append,
}
use Rattle.std.proofs.lemmas.Bool.{cases_lt}
use Rattle.std.proofs.lemmas.Bool.Decides.{nat_tests}
use Rattle.std.proofs.lemmas.List.{take_at, drop_at}
use Rattle.std.proofs.lemmas.Nat.{div-add-mod', div-mul-add, mod-mul-add}
use Rattle.std.specs.Str.Parse.{digits_value}
use Rattle.repl_lsn.specs.History.{Path, IsPath, InOrder}
use Rattle.repl_lsn.specs.Path.{holder}
use Rattle.repl_lsn.specs.Segment.{IsSegSize, Fits, eight, in_four_gib, segment_name, history_name}
use Rattle.repl_lsn.specs.declared.history.Part.{Part}
use Rattle.repl_lsn.proofs.Names.{high_fits, low_below}
use Rattle.repl_lsn.proofs.Numbers.{length_eight, eight_value}
use Rattle.repl_lsn.proofs.Sizes.{four_gib_few}
use Rattle.repl_store.specs.Durable.{segment_file, segment_timeline}

-- what is to be known of a path, so that its segments have names
pub record HasNames (size : ℕ) (path : Path) : Type 0 where
  pub is_size : IsSegSize size
  pub order : IsPath path
  pub own : path.own < 2 ^ 32

-- ---- lengths

pub differ : (a b : List ℕ) → length a ≢ length b → a ≢ b
differ a b lengths same = lengths (ap length same)

module _ (size tli segment : ℕ) (is_size : IsSegSize size) (small : tli < 2 ^ 32) (fits : Fits size segment) where
  low_fits : segment % in_four_gib size < 2 ^ 32
  low_fits = omega (arith, low_below size segment is_size, four_gib_few size is_size)

  pub length_segment : length (segment_name size tli segment) ≡ 24
  length_segment = omega (
    arith,
    length-append (eight tli ++ eight (segment / in_four_gib size)) (eight (segment % in_four_gib size)),
    length-append (eight tli) (eight (segment / in_four_gib size)),
    length_eight tli small,
    length_eight (segment / in_four_gib size) (high_fits size segment is_size fits),
    length_eight (segment % in_four_gib size) low_fits,
  )

pub length_history : (tli : ℕ) → tli < 2 ^ 32 → length (history_name tli) ≡ 16
length_history tli small = omega (arith, length-append (eight tli) (codes ".history"), length_eight tli small)

-- ---- a segment has one name

-- eight digits in front are those of one number
same_front : (a b : ℕ) (p q : List ℕ) → a < 2 ^ 32 → b < 2 ^ 32 → eight a ++ p ≡ eight b ++ q → (a ≡ b) × (p ≡ q)
same_front a b p q first second same = (
  sym (eight_value a first)
      ∙ ap (digits_value 16) (sym (take_at (eight a) p 8 (length_eight a first)) ∙ ap (take 8) same
      ∙ take_at (eight b) q 8 (length_eight b second))
      ∙ eight_value b second,
  sym (drop_at (eight a) p 8 (length_eight a first)) ∙ ap (drop 8) same ∙ drop_at (eight b) q 8 (length_eight b second),
)

module _ (size tli segment other number : ℕ) (is_size : IsSegSize size) (small : tli < 2 ^ 32) (fits : Fits size segment)
    (small_other : other < 2 ^ 32) (fits_number : Fits size number) where
  pub one_segment : segment_name size tli segment ≡ segment_name size other number → segment ≡ number
  one_segment same =
      let n : ℕ = in_four_gib size in
      let apart : eight tli ++ (eight (segment / n) ++ eight (segment % n)) ≡ eight other ++ (eight (number / n) ++ eight (number % n)) =
      sym (append_assoc (eight tli) (eight (segment / n)) (eight (segment % n))) ∙ same
      ∙ append_assoc (eight other) (eight (number / n)) (eight (number % n)) in
      let past = (same_front tli other _ _ small small_other apart).1 in
      let high = same_front (segment / n) (number / n) _ _ (high_fits size segment is_size fits)
      (high_fits size number is_size fits_number) past in
      let last : eight (segment % n) ++ [] ≡ eight (number % n) ++ [] = ap (λ x. x ++ []) high.1 in
      let low = same_front (segment % n) (number % n) [] [] (low_fits size tli segment is_size small fits)
      (low_fits size other number is_size small_other fits_number) last in
      sym (div-add-mod' segment n) ∙ ap (λ x. x * n + segment % n) high.0 ∙ ap (λ x. number / n * n + x) low.0
      ∙ div-add-mod' number n

-- ---- the files of a path

-- numbers on a path are its own one at most
first_below : (own : ℕ) (p : Part) (ps : List Part) → InOrder own (p ∷ ps) → p.tli < own
first_below own p [] order = order
first_below own p (q ∷ ps) order = omega (arith, order.0, first_below own q ps order.2)

past : (own : ℕ) (p : Part) (ps : List Part) → InOrder own (p ∷ ps) → InOrder own ps
past own p [] order = tt
past own p (q ∷ ps) order = order.2

holder_here : (own : ℕ) (p : Part) (ps : List Part) (at : ℕ) → at < p.switch → holder own (p ∷ ps) at ≡ p.tli
holder_here own p ps at h = grind (arith, nat_tests)

holder_past : (own : ℕ) (p : Part) (ps : List Part) (at : ℕ) → p.switch ≤ at → holder own (p ∷ ps) at ≡ holder own ps at
holder_past own p ps at h = grind (arith, nat_tests)

pub holder_most : (own : ℕ) (ps : List Part) (at : ℕ) → InOrder own ps → holder own ps at ≤ own
holder_most own [] at order = omega arith
holder_most own (p ∷ ps) at order =
    ⊎_elim (λ (here : at < p.switch). omega (arith, holder_here own p ps at here, first_below own p ps order))
    (λ (later : p.switch ≤ at). omega (
      arith,
      holder_past own p ps at later,
      holder_most own ps at (past own p ps order),
    ))
    (cases_lt at p.switch)

module _ (size : ℕ) (path : Path) (named : HasNames size path) where
  pub timeline_small : (segment : ℕ) → segment_timeline size path segment < 2 ^ 32
  timeline_small segment = omega (
    arith,
    holder_most path.own path.parents (segment * size + (size - 1)) named.order,
    named.own,
  )

  pub length_file : (segment : ℕ) → Fits size segment → length (segment_file size path segment) ≡ 24
  length_file segment fits = length_segment size (segment_timeline size path segment) segment named.is_size (timeline_small segment) fits

  -- a file with a name of another length is none of them
  pub file_differs : (segment : ℕ) (name : List ℕ) → Fits size segment → length name ≢ 24 → segment_file size path segment ≢ name
  file_differs segment name fits long same = long (sym (ap length same) ∙ length_file segment fits)

-- two segments, also of two paths, have different files
pub same_file : (size : ℕ) (path other : Path) (segment number : ℕ) → HasNames size path → HasNames size other → Fits size segment
    → Fits size number → segment_file size path segment ≡ segment_file size other number → segment ≡ number
same_file size path other segment number named named_other fits fits_number same =
    one_segment size (segment_timeline size path segment) segment (segment_timeline size other number) number named.is_size
    (timeline_small size path named segment) fits (timeline_small size other named_other number) fits_number same

-- a position has a segment
pub fits_at : (size at : ℕ) → at < 2 ^ 64 → Fits size (at / size)
fits_at size at small = omega (arith, div-add-mod' at size)

-- a name of another length is no history's
pub history_differs : (tli : ℕ) (name : List ℕ) → tli < 2 ^ 32 → length name ≢ 16 → name ≢ history_name tli
history_differs tli name small long same = long (ap length same ∙ length_history tli small)

-- ---- positions in a segment

module _ (size at more : ℕ) (some : 0 < size) (inside : at % size + more < size) where
  as_sum : at + more ≡ at / size * size + (at % size + more)
  as_sum = omega (arith, div-add-mod' at size)

  -- so many bytes on the segment is the same
  pub same_segment_past : (at + more) / size ≡ at / size
  same_segment_past = ap (λ x. x / size) as_sum ∙ div-mul-add (at / size) size (at % size + more) inside

  pub place_past : (at + more) % size ≡ at % size + more
  place_past = ap (λ x. x % size) as_sum ∙ mod-mul-add (at / size) size (at % size + more) inside

-- a position after another, and before the end of its segment, is in that segment
pub segment_of_later : (size at later : ℕ) → 0 < size → at ≤ later → later < at / size * size + size → later / size ≡ at / size
segment_of_later size at later some le lt =
    ap (λ x. x / size) (the_sum (omega (arith, div-add-mod' at size)))
    ∙ div-mul-add (at / size) size (later - at / size * size) (omega (arith, div-add-mod' at size))
  where
    the_sum : at / size * size ≤ later → later ≡ at / size * size + (later - at / size * size)
    the_sum below = omega arith

-- an earlier position of the same segment has an earlier place
pub earlier_place : (size at later : ℕ) → at < later → at / size ≡ later / size → at % size < later % size
earlier_place size at later lt same =
    let one = div-add-mod' at size in
    let two = div-add-mod' later size in
    let rows : at / size * size ≡ later / size * size = ap (λ x. x * size) same in
    omega arith
