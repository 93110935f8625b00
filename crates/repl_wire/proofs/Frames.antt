-- Frames: what is taken is a length field and a body, and such a frame is taken, whatever follows it.
use Rattle.std.proofs.Common.{◌≡◌, ℕ, ◌+◌, ◌-◌, ◌^◌, ◌<◌, ◌≤◌, Bool, true, false, cond, ltb, ◌||◌, List, ◌++◌, length, take, drop, Option, Some, None, Result, Ok, Err, refl, ap, subst, ◌∙◌, append_assoc, arith}
use Rattle.std.proofs.lemmas.Bool.{ltb-false, le-ltb, or_parts}
use Rattle.std.proofs.lemmas.List.{take_at, take-take, drop-take, length-append, length-take, length-drop}
use Rattle.repl_wire.specs.declared.fault.WireFault.{WireFault}
use Rattle.repl_message.specs.Message.{int32, framed}
use Rattle.repl_message.specs.Decoding.{number}
use Rattle.repl_wire.specs.Judging.{frame_of}
use Rattle.repl_message.proofs.FieldLaws.{IsBytes, IsBytes-take, IsBytes-drop, int32_takes, int32_again}

abbrev Read : Type 0
Read = Result (Option (List ℕ)) WireFault

abbrev nothing_yet : Read
nothing_yet = Ok None

abbrev there_is : List ℕ → Read
there_is body = Ok (Some body)

-- a length field in range, and the bytes that it counts are there
pub record IsWhole (least limit : ℕ) (bytes : List ℕ) : Type 0 where
  pub field : 4 ≤ length bytes
  pub low : least ≤ number bytes
  pub high : number bytes ≤ limit
  pub there : number bytes ≤ length bytes

body_of_whole : (place least limit : ℕ) (bytes : List ℕ) → IsWhole least limit bytes → frame_of place least limit bytes
    ≡ there_is (drop 4 (take (number bytes) bytes))
unfolding frame_of
body_of_whole place least limit bytes w = rw (le-ltb _ _ w.field, le-ltb _ _ w.low, le-ltb _ _ w.high, le-ltb _ _ w.there) refl

tests_passed : (short out part : Bool) (f : WireFault) (made body : List ℕ)
    → cond short nothing_yet (cond out (Err f) (cond part nothing_yet (there_is made))) ≡ there_is body
    → (short ≡ false) × (out ≡ false) × (part ≡ false) × (made ≡ body)
tests_passed true out part f made body e = absurd cc
tests_passed false true part f made body e = absurd cc
tests_passed false false true f made body e = absurd cc
tests_passed false false false f made body e = (refl, refl, refl, cc)

pub whole_of_body : (place least limit : ℕ) (bytes body : List ℕ) → frame_of place least limit bytes ≡ there_is body
    → IsWhole least limit bytes × (drop 4 (take (number bytes) bytes) ≡ body)
unfolding frame_of
whole_of_body place least limit bytes body e =
    let t = tests_passed (ltb (length bytes) 4) (ltb (number bytes) least || ltb limit (number bytes)) (ltb (length bytes) (number bytes)) _
    (drop 4 (take (number bytes) bytes)) body e in
    let o = or_parts _ _ t.1 in
    (record { field = ltb-false _ _ t.0; low = ltb-false _ _ o.0; high = ltb-false _ _ o.1; there = ltb-false _ _ t.2 }, t.3)

-- the body as the code cuts it
pub frame_whole : (place least limit : ℕ) (bytes : List ℕ) (said : ℕ) → said ≡ number bytes → 4 ≤ length bytes → 4 ≤ least → least ≤ said
    → said ≤ limit → said ≤ length bytes
    → frame_of place least limit bytes ≡ Ok (Some (take (said - 4) (drop 4 bytes)))
frame_whole place least limit bytes said is field least_long low high there =
    let w : IsWhole least limit bytes = record { field = field; low = omega arith; high = omega arith; there = omega arith } in
    let n : number bytes ≡ 4 + (said - 4) = omega arith in
    body_of_whole place least limit bytes w ∙ rw (n, drop-take 4 (said - 4) bytes) refl

-- at the front of the bytes stand a length field in range and the body that it counts
pub record IsFrame (least limit : ℕ) (bytes body : List ℕ) : Type 0 where
  pub low : least ≤ length body + 4
  pub high : length body + 4 ≤ limit
  pub there : length body + 4 ≤ length bytes
  pub spelled : take (length body + 4) bytes ≡ framed body
  pub fits : IsBytes body

pub frame_takes : (place least limit : ℕ) (bytes body : List ℕ) → 4 ≤ least → IsBytes bytes → frame_of place least limit bytes
    ≡ Ok (Some body) → IsFrame least limit bytes body
frame_takes place least limit bytes body least_long fits e =
    let w = whole_of_body place least limit bytes body e in
    let n = number bytes in
    let front = take n bytes in
    let front_len : length front ≡ n = omega (arith, w.0.low, w.0.there, length-take n bytes) in
    let front_fits = IsBytes-take n bytes fits in
    let said : number front ≡ n = rw (take-take 4 n bytes (omega (arith, w.0.low))) refl in
    let parts : front ≡ int32 n ++ drop 4 front = rw said at (int32_takes front front_fits (omega (arith, w.0.low))).0.parts in
    let body_len : length (drop 4 front) + 4 ≡ n = omega (arith, w.0.low, length-drop 4 front) in
    let spelled : take (length (drop 4 front) + 4) bytes ≡ framed (drop 4 front) = rw body_len parts in
    let made : IsFrame least limit bytes (drop 4 front) = record {
      low = omega (arith, w.0.low);
      high = omega (arith, w.0.high);
      there = omega (arith, w.0.there);
      spelled = spelled;
      fits = IsBytes-drop 4 front front_fits;
    } in
    subst (IsFrame least limit bytes) w.1 made

pub length-framed : (body : List ℕ) → length (framed body) ≡ length body + 4
length-framed body = omega (arith, length-append (int32 (length body + 4)) body)

pub frame_again : (place least limit : ℕ) (body rest : List ℕ) → least ≤ length body + 4 → length body + 4 ≤ limit → limit < 2 ^ 32
    → frame_of place least limit (framed body ++ rest) ≡ Ok (Some body)
frame_again place least limit body rest low high below =
    let n = length body + 4 in
    let bytes = framed body ++ rest in
    let regrouped : bytes ≡ int32 n ++ (body ++ rest) = append_assoc (int32 n) body rest in
    let said : number bytes ≡ n = ap number regrouped ∙ (int32_again n (body ++ rest) (omega arith)).0 in
    let len : length bytes ≡ n + length rest = omega (arith, length-append (framed body) rest, length-framed body) in
    let w : IsWhole least limit bytes = record { field = omega arith; low = omega arith; high = omega arith; there = omega arith } in
    let cut : drop 4 (take n bytes) ≡ body = ap (drop 4) (take_at (framed body) rest n (length-framed body))
    ∙ (int32_again n body (omega arith)).1 in
    body_of_whole place least limit bytes w ∙ rw (said, cut) refl
