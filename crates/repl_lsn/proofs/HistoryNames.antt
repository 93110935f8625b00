-- The names of histories, and that files of different kinds have different names.
use Rattle.std.proofs.Common.{◌≡◌, ◌==◌, ℕ, Bool, true, false, not, ◌-◌, ◌+◌, ◌<◌, List, ◌++◌, length, take, drop, codes, refl, sym, ap, ◌∙◌, arith, ⊎_elim, length-append}
use Rattle.std.proofs.lemmas.Bool.{not-false}
use Rattle.std.proofs.lemmas.List.{length-take-le, take-append-drop, take_at, drop_at, drop-take, take_rest}
use Rattle.std.proofs.lemmas.List.Elements.{All-same, All-take, All-drop}
use Rattle.std.proofs.lemmas.Slice.Eq.{bytes_eq-Decides}
use Rattle.std.proofs.Math.Seq.{take-add}
use Rattle.std.specs.Cmp.Lexicographic.{pointwise}
use Rattle.std.specs.Str.Parse.{digits_value}
use Rattle.repl_lsn.specs.Segment.{IsSegSize, NamesHistory, LogFile, IsLogFile, IsDigit, AreDigits, IsNumberAt, LacksDigitFrom, eight, history_name, partial_name, segment_name, file_name}
use Rattle.repl_lsn.specs.Segment.LogFile.{segment, partial, history}
use Rattle.repl_lsn.proofs.Numbers.{length_eight, eight_digits, eight_value, eight_fits}
use Rattle.repl_lsn.proofs.Names.{part_is, numbers_of, one_segment}

-- what a name says
pub front_is : (text : List ℕ) (tli : ℕ) → NamesHistory text tli → take 8 text ≡ eight tli
front_is text tli n = ap (take 8) n.named ∙ take_at (eight tli) (codes ".history") 8 (length_eight tli n.timeline.1)

pub past_is : (text : List ℕ) (tli : ℕ) → NamesHistory text tli → drop 8 text ≡ codes ".history"
past_is text tli n = ap (drop 8) n.named ∙ drop_at (eight tli) (codes ".history") 8 (length_eight tli n.timeline.1)

pub long_name : (text : List ℕ) (tli : ℕ) → NamesHistory text tli → length text ≡ 16
long_name text tli n = ap length n.named ∙ omega (arith, length-append (eight tli) (codes ".history"), length_eight tli n.timeline.1)

pub number_of_name : (text : List ℕ) (tli number : ℕ) → NamesHistory text tli → IsNumberAt text 0 number → number ≡ tli
number_of_name text tli number n h = h.value ∙ ap (digits_value 16) (front_is text tli n) ∙ eight_value tli n.timeline.1

pub lacks_none : (text : List ℕ) (tli place : ℕ) → NamesHistory text tli → LacksDigitFrom text 0 place → ⊥
lacks_none text tli place n h =
    let digits : AreDigits (take 8 text) = All-same IsDigit (take 8 text) (eight tli) (front_is text tli n)
    (eight_digits tli n.timeline.1) in
    let long = long_name text tli n in
    let sum : 8 ≡ place + 1 + (7 - place) = omega (arith, h.few) in
    let size : length (take (place + 1) text) ≡ place + 1 = length-take-le (place + 1) text (omega (arith, long, h.few)) in
    let rest : List ℕ = take (7 - place) (drop (place + 1) text) in
    let cut : take 8 text ≡ take (place + 1) text ++ rest = ap (λ k. take k text) sum ∙ take-add (place + 1) (7 - place) text in
    let front : take (place + 1) (take 8 text) ≡ take (place + 1) text =
    ap (take (place + 1)) cut ∙ take_at (take (place + 1) text) rest (place + 1) size in
    let before : AreDigits (take (place + 1) text) =
    All-same IsDigit (take (place + 1) text) (take (place + 1) (take 8 text)) (sym front) (All-take IsDigit (place + 1) (take 8 text)
    digits) in
    let here : AreDigits (take 1 (drop place text)) =
    All-same IsDigit (take 1 (drop place text)) (drop place (take (place + 1) text)) (sym (drop-take place 1 text))
    (All-drop IsDigit place (take (place + 1) text) before) in
    ⊎_elim (λ lacking. lacking here) (λ e. omega (arith, long, h.few, e)) h.none

-- what the test of the bytes after the digits says
clash : (p q : Bool) → p ≡ not q → p ≡ true → q ≡ true → ⊥
clash p q e t s = let no : true ≡ false = sym t ∙ e ∙ ap not s in absurd cc

pub suffix_tested : (text : List ℕ) (differs : Bool) → differs ≡ not (pointwise ◌==◌ (take (length text - 8) (drop 8 text))
    (codes ".history"))
    → (differs ≡ true → drop 8 text ≡ codes ".history" → ⊥) × (differs ≡ false → drop 8 text ≡ codes ".history")
suffix_tested text differs e =
    let bytes : List ℕ = take (length text - 8) (drop 8 text) in
    let test = bytes_eq-Decides bytes (codes ".history") in (
      λ t past. clash differs (pointwise ◌==◌ bytes (codes ".history")) e t (test.1 (take_rest text 8 ∙ past)),
      λ f. sym (take_rest text 8) ∙ test.0 (not-false (pointwise ◌==◌ bytes (codes ".history")) (sym e ∙ f)),
    )

-- digits and what stands after them are a name
pub name_read : (text : List ℕ) (number : ℕ) → IsNumberAt text 0 number → 0 < number → drop 8 text ≡ codes ".history"
    → NamesHistory text number
name_read text number h some past =
    let long : length (take 8 text) ≡ 8 = length-take-le 8 text (omega (arith, h.within)) in
    record {
      timeline = (some, let small = eight_fits (take 8 text) long h.digits in omega (arith, h.value, small));
      named = sym (take-append-drop 8 text) ∙ ap (λ x. x ++ drop 8 text) (part_is text 0 number h) ∙ ap (λ x. eight number ++ x) past;
    }

-- ---- files

segment_long : (size tli seg : ℕ) → IsSegSize size → IsLogFile size (segment tli seg) → length (segment_name size tli seg) ≡ 24
segment_long size tli seg h file =
    (numbers_of size (segment_name size tli seg) tli seg h (record { timeline = (file.0, file.1); fits = file.2; named = refl })).long

history_long : (size tli : ℕ) → IsLogFile size (history tli) → length (history_name tli) ≡ 16
history_long size tli file = long_name (history_name tli) tli (record { timeline = file; named = refl })

partial_long : (size tli seg : ℕ) → IsSegSize size → IsLogFile size (partial tli seg) → length (partial_name size tli seg) ≡ 32
partial_long size tli seg h file =
    omega (arith, length-append (segment_name size tli seg) (codes ".partial"), segment_long size tli seg h file)

same_segments : (size tli seg other number : ℕ) → IsSegSize size → IsLogFile size (segment tli seg) → IsLogFile size (segment other number)
    → segment_name size tli seg ≡ segment_name size other number → (tli ≡ other) × (seg ≡ number)
same_segments size tli seg other number h a b e =
    one_segment size tli seg other number (segment_name size tli seg) h (record { timeline = (a.0, a.1); fits = a.2; named = refl })
    (record { timeline = (b.0, b.1); fits = b.2; named = e })

pub one_file : (size : ℕ) (a b : LogFile) → IsSegSize size → IsLogFile size a → IsLogFile size b → file_name size a ≡ file_name size b
    → a ≡ b
one_file size (segment tli seg) (segment other number) h a b e =
    let same = same_segments size tli seg other number h a b e in
    ap (λ x. segment x seg) same.0 ∙ ap (segment other) same.1
one_file size (segment tli seg) (partial other number) h a b e =
    absurd (omega (arith, ap length e, segment_long size tli seg h a, partial_long size other number h b))
one_file size (segment tli seg) (history other) h a b e =
    absurd (omega (arith, ap length e, segment_long size tli seg h a, history_long size other b))
one_file size (partial tli seg) (segment other number) h a b e =
    absurd (omega (arith, ap length e, partial_long size tli seg h a, segment_long size other number h b))
one_file size (partial tli seg) (partial other number) h a b e =
    let left = take_at (segment_name size tli seg) (codes ".partial") 24 (segment_long size tli seg h a) in
    let right = take_at (segment_name size other number) (codes ".partial") 24 (segment_long size other number h b) in
    let same = same_segments size tli seg other number h a b (sym left ∙ ap (take 24) e ∙ right) in
    ap (λ x. partial x seg) same.0 ∙ ap (partial other) same.1
one_file size (partial tli seg) (history other) h a b e =
    absurd (omega (arith, ap length e, partial_long size tli seg h a, history_long size other b))
one_file size (history tli) (segment other number) h a b e =
    absurd (omega (arith, ap length e, history_long size tli a, segment_long size other number h b))
one_file size (history tli) (partial other number) h a b e =
    absurd (omega (arith, ap length e, history_long size tli a, partial_long size other number h b))
one_file size (history tli) (history other) h a b e =
    let left = front_is (history_name tli) tli (record { timeline = a; named = refl }) in
    let right = front_is (history_name tli) other (record { timeline = b; named = e }) in
    let digits : eight tli ≡ eight other = sym left ∙ right in
    ap history (sym (eight_value tli a.1) ∙ ap (digits_value 16) digits ∙ eight_value other b.1)
