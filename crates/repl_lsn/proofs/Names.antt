-- The names of segments: three numbers of eight digits each.
use Rattle.std.proofs.Common.{◌≡◌, ℕ, ◌+◌, ◌*◌, ◌/◌, ◌%◌, ◌^◌, ◌<◌, ◌≤◌, List, [], ◌++◌, length, take, drop, refl, sym, ap, ◌∙◌, arith, length-append}
use Rattle.std.proofs.lemmas.List.{append-nil, append_assoc, length-drop, length-take-le, take_all, take_at, drop_at}
use Rattle.std.proofs.lemmas.List.Elements.{All-append, All-same}
use Rattle.std.proofs.lemmas.Nat.{div-mul-add, mod-mul-add, mod_below, mul-add-lt, div-add-mod'}
use Rattle.std.proofs.Math.Nat.{mul-le-mul_right}
use Rattle.std.proofs.Math.Seq.{take-add}
use Rattle.std.specs.Str.Parse.{digits_value}
use Rattle.repl_lsn.specs.Segment.{IsSegSize, Fits, in_four_gib, eight, segment_name, Names, IsDigit, AreDigits, number_at, IsNumberAt}
use Rattle.repl_lsn.proofs.Numbers.{length_eight, eight_digits, eight_value, eight_fits, eight_of_value}
use Rattle.repl_lsn.proofs.Sizes.{four_gib_whole, four_gib_few, four_gib_some}

-- a segment's numbers

pub high_fits : (size seg : ℕ) → IsSegSize size → Fits size seg → seg / in_four_gib size < 2 ^ 32
high_fits size seg h fits =
    let n : ℕ = in_four_gib size in
    let some : 0 < size = omega (arith, h.least) in
    let scaled : n * size ≡ 2 ^ 32 = four_gib_whole size h in
    let blocks : seg / n * n ≤ seg = omega (arith, div-add-mod' seg n) in
    let bytes : seg / n * n * size ≤ seg * size = mul-le-mul_right size blocks in
    let same : seg / n * n * size ≡ seg / n * 2 ^ 32 = omega (arith, ap (λ x. seg / n * x) scaled) in
    omega arith

pub low_below : (size seg : ℕ) → IsSegSize size → seg % in_four_gib size < in_four_gib size
low_below size seg h = mod_below seg (in_four_gib size) (four_gib_some size h)

pub joined_fits : (size high low : ℕ) → IsSegSize size → high < 2 ^ 32 → low < in_four_gib size → Fits size (high * in_four_gib size + low)
joined_fits size high low h small below =
    let n : ℕ = in_four_gib size in
    let few : high * n + low < n * 2 ^ 32 = mul-add-lt high n low (2 ^ 32) small below in
    let bytes : (high * n + low + 1) * size ≤ n * 2 ^ 32 * size = mul-le-mul_right size (omega arith) in
    let whole : n * 2 ^ 32 * size ≡ 2 ^ 64 = omega (arith, four_gib_whole size h) in
    omega (arith, h.least)

-- a name's numbers

-- what a name says, number by number
pub record Numbers (size : ℕ) (text : List ℕ) (tli seg : ℕ) : Type 0 where
  pub long : length text ≡ 24
  pub digits : AreDigits text
  pub timeline : number_at text 0 ≡ tli
  pub high : number_at text 8 ≡ seg / in_four_gib size
  pub low : number_at text 16 ≡ seg % in_four_gib size

piece : (text before part after : List ℕ) (place : ℕ) → text ≡ before ++ (part ++ after) → length before ≡ place → length part ≡ 8
    → take 8 (drop place text) ≡ part
piece text before part after place e p l = ap (λ x. take 8 (drop place x)) e ∙ ap (take 8) (drop_at before (part ++ after) place p)
    ∙ take_at part after 8 l

pub value_there : (text before after : List ℕ) (place n : ℕ) → n < 2 ^ 32 → text ≡ before ++ (eight n ++ after) → length before ≡ place
    → number_at text place ≡ n
value_there text before after place n small e p = ap (digits_value 16) (piece text before (eight n) after place e p (length_eight n small))
    ∙ eight_value n small

pub numbers_of : (size : ℕ) (text : List ℕ) (tli seg : ℕ) → IsSegSize size → Names size text tli seg → Numbers size text tli seg
numbers_of size text tli seg h named =
    let high : ℕ = seg / in_four_gib size in
    let low : ℕ = seg % in_four_gib size in
    let high_small : high < 2 ^ 32 = high_fits size seg h named.fits in
    let low_small : low < 2 ^ 32 = omega (arith, low_below size seg h, four_gib_few size h) in
    let front : length (eight tli ++ eight high) ≡ 16 = omega (
      arith,
      length-append (eight tli) (eight high),
      length_eight tli named.timeline.1,
      length_eight high high_small,
    ) in
    record {
      long = ap length named.named ∙ omega (arith, length-append (eight tli ++ eight high) (eight low), length_eight low low_small);
      digits = All-same IsDigit text (segment_name size tli seg) named.named
          (All-append IsDigit (eight tli ++ eight high) (eight low) (All-append IsDigit (eight tli) (eight high)
          (eight_digits tli named.timeline.1) (eight_digits high high_small)) (eight_digits low low_small));
      timeline = value_there text [] (eight high ++ eight low) 0 tli named.timeline.1 (named.named
          ∙ append_assoc (eight tli) (eight high) (eight low)) refl;
      high = value_there text (eight tli) (eight low) 8 high high_small (named.named
          ∙ append_assoc (eight tli) (eight high) (eight low)) (length_eight tli named.timeline.1);
      low = value_there text (eight tli ++ eight high) [] 16 low low_small (named.named ∙ ap (λ x. eight tli ++ eight high
          ++ x) (sym (append-nil (eight low)))) front;
    }

-- a text of three numbers is a name

three_parts : (text : List ℕ) → length text ≤ 24 → text ≡ take 8 (drop 0 text) ++ take 8 (drop 8 text) ++ take 8 (drop 16 text)
three_parts text long = sym (take_all 24 text long) ∙ take-add 16 8 text ∙ ap (λ x. x ++ take 8 (drop 16 text)) (take-add 8 8 text)

pub part_is : (text : List ℕ) (place number : ℕ) → IsNumberAt text place number → take 8 (drop place text) ≡ eight number
part_is text place number h =
    let long : length (take 8 (drop place text)) ≡ 8 = length-take-le 8 (drop place text) (omega (
      arith,
      length-drop place text,
      h.within,
    )) in
    eight_of_value (take 8 (drop place text)) long h.digits ∙ ap eight (sym h.value)

pub number_fits : (text : List ℕ) (place number : ℕ) → IsNumberAt text place number → number < 2 ^ 32
number_fits text place number h =
    let long : length (take 8 (drop place text)) ≡ 8 = length-take-le 8 (drop place text) (omega (
      arith,
      length-drop place text,
      h.within,
    )) in
    omega (arith, eight_fits (take 8 (drop place text)) long h.digits, h.value)

pub names_read : (size : ℕ) (text : List ℕ) (tli high low : ℕ) → IsSegSize size → IsNumberAt text 0 tli → IsNumberAt text 8 high
    → IsNumberAt text 16 low → 0 < tli → low < in_four_gib size → length text ≤ 24
    → Names size text tli (high * in_four_gib size + low)
names_read size text tli high low h t i l some below long =
    let n : ℕ = in_four_gib size in
    let seg : ℕ = high * n + low in
    let high_is : seg / n ≡ high = div-mul-add high n low below in
    let low_is : seg % n ≡ low = mod-mul-add high n low below in
    record {
      timeline = (some, number_fits text 0 tli t);
      fits = joined_fits size high low h (number_fits text 8 high i) below;
      named = three_parts text long ∙ ap (λ x. x ++ take 8 (drop 8 text) ++ take 8 (drop 16 text)) (part_is text 0 tli t)
          ∙ ap (λ x. eight tli ++ x ++ take 8 (drop 16 text)) (part_is text 8 high i ∙ ap eight (sym high_is))
          ∙ ap (λ x. eight tli ++ eight (seg / n) ++ x) (part_is text 16 low l ∙ ap eight (sym low_is));
    }

-- a name is that of one segment

pub same_segment : (size : ℕ) (text : List ℕ) (tli seg : ℕ) → IsSegSize size → Names size text tli seg
    → seg ≡ number_at text 8 * in_four_gib size + number_at text 16
same_segment size text tli seg h named =
    let n = numbers_of size text tli seg h named in
    sym (div-add-mod' seg (in_four_gib size)) ∙ ap (λ x. x * in_four_gib size + seg % in_four_gib size) (sym n.high)
    ∙ ap (λ x. number_at text 8 * in_four_gib size + x) (sym n.low)

pub one_segment : (size tli seg other number : ℕ) (text : List ℕ) → IsSegSize size → Names size text tli seg → Names size text other number
    → (tli ≡ other) × (seg ≡ number)
one_segment size tli seg other number text h p q = (
  sym (numbers_of size text tli seg h p).timeline ∙ (numbers_of size text other number h q).timeline,
  same_segment size text tli seg h p ∙ sym (same_segment size text other number h q),
)
