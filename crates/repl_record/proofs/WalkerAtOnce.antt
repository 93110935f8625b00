-- An image that lies whole among the bytes, on one page, is the answer, and the walker stands after it.
use Rattle.std.proofs.Common.{◌≡◌, ℕ, ◌+◌, ◌-◌, ◌%◌, ◌^◌, ◌<◌, ◌≤◌, List, [], ◌++◌, length, take, drop, get_or, replicate, All, refl, sym, ap, ◌∙◌, subst, arith}
use Rattle.std.proofs.lemmas.Bool.{cond-false}
use Rattle.std.proofs.lemmas.List.{get_or-drop, get_or-take, length-drop, length-take, length-take-le, nil_from_length, take-take}
use Rattle.std.proofs.lemmas.List.Elements.{All-get_or}
use Rattle.repl_page.specs.declared.ident.Ident.{Ident}
use Rattle.repl_page.specs.Page.{header_length, in_header}
use Rattle.repl_record.specs.declared.walker.Walker.{Walker}
use Rattle.repl_record.specs.AtOnce.{LiesWhole, passed}
use Rattle.repl_record.specs.Record.{AreBytes, IsImage, start_of}
use Rattle.repl_record.specs.Judging.{IsWhole}
use Rattle.repl_record.specs.Walker.{Stands}
use Rattle.repl_record.proofs.Fields.{AreBytes-take}
use Rattle.repl_record.proofs.Pages.{header_is, not_in_header_from}
use Rattle.repl_record.proofs.Content.{content-page, last_more}
use Rattle.repl_record.proofs.ImageMadeGap.{zeros_from}
use Rattle.repl_record.proofs.ImageMadeRecord.{item_of, item_is_record, record_is}
use Rattle.repl_record.proofs.LogAnswers.{answered}
use Rattle.repl_record.proofs.WalkerAtEnds.{begun}

-- ---- the image

outside : (size at : ℕ) → 40 ≤ at % 8192 → header_length size at ≤ at % 8192
outside size at past = omega (arith, header_is size at)

no_page : (at n page : ℕ) → 40 ≤ at % 8192 → at % 8192 + n ≤ 8192 → page % 8192 ≡ 0 → at ≤ page → page < at + n → ⊥
no_page at n page past on_page is above below = omega arith

zero_past : (bytes : List ℕ) (total n : ℕ) → n ≤ length bytes → All (λ (byte : ℕ). byte ≡ 0) (take (n - total) (drop total bytes))
    → (i : ℕ) → total ≤ i → i < n → get_or (take n bytes) i 0 ≡ 0
zero_past bytes total n within zeros i above below =
    let k = i - total in
    let place : total + k ≡ i = omega arith in
    let long : k < length (take (n - total) (drop total bytes)) = omega (
      arith,
      length-take (n - total) (drop total bytes),
      length-drop total bytes,
    ) in
    get_or-take n bytes i 0 below
    ∙ ap (λ (j : ℕ). get_or bytes j 0) (sym place)
    ∙ sym (get_or-drop total bytes k 0)
    ∙ sym (get_or-take (n - total) (drop total bytes) k 0 (omega arith))
    ∙ All-get_or (λ (byte : ℕ). byte ≡ 0) (take (n - total) (drop total bytes)) k 0 long zeros

image_here : (ident : Ident) (timeline : ℕ → ℕ) (at prev : ℕ) (bytes : List ℕ) (n : ℕ)
    → (whole : LiesWhole ident.size at prev bytes n) → AreBytes bytes → at % 8 ≡ 0 → prev < 2 ^ 64
    → IsImage ident timeline at prev (item_of (take whole.total bytes)) (take n bytes)
image_here ident timeline at prev bytes n whole are even fits =
    let size = ident.size in
    let total = whole.total in
    let bytes_of = take total bytes in
    let long : length bytes_of ≡ total = length-take-le total bytes (omega (arith, whole.ends, whole.within)) in
    let all : length (take n bytes) ≡ n = length-take-le n bytes whole.within in
    let some = whole.sound.enough in
    let past = outside size at whole.past in
    let record_are = AreBytes-take total bytes are in
    let zeros = zeros_from total (take n bytes) (λ i above below.
    zero_past bytes total n whole.within whole.zeros i above (omega (arith, all))) in
    record {
      front = bytes_of;
      gap = n - total;
      parts =
          zeros
          ∙ ap (λ (t : List ℕ). t ++ replicate (length (take n bytes) - total) 0) (take-take total n bytes whole.ends)
          ∙ ap (λ (k : ℕ). bytes_of ++ replicate (k - total) 0) all;
      item_is = item_is_record bytes_of record_are (omega arith, omega (arith, long, whole.ends, whole.on_page));
      follows = fits;
      bytes =
          content-page size at bytes_of whole.size_is past (omega (arith, long, whole.ends, whole.on_page))
          ∙ record_is prev bytes_of record_are some whole.sound.length_is whole.sound.prev_is whole.sound.reserved_is whole.sound.sum_is;
      last = last_more size at at [] bytes_of whole.size_is (omega arith) past (omega (arith, long, whole.ends, whole.on_page))
          (omega arith);
      few = omega (arith, whole.few, whole.ends);
      rounded = omega (arith, all, whole.rounded);
      headers = λ page is_page above below. absurd (no_page at n page whole.past whole.on_page is_page above (omega (arith, all)));
    }

-- ---- the walker

-- at the beginning of an image nothing of it is there
nothing_yet : (w : Walker) (timeline : ℕ → ℕ) (from prev : ℕ) (log : List ℕ) → w.from ≡ w.at → Stands w timeline from prev log → log ≡ []
nothing_yet w timeline from prev log begins stands =
    nil_from_length log (omega (arith, begins, stands.keeps.begins, stands.keeps.past))

start_here : (size at : ℕ) → 40 ≤ at % 8192 → start_of size at ≡ at
start_here size at past =
    cond-false (in_header size at) _ _ (not_in_header_from size at (outside size at past))

-- the image is the answer
pub whole_at_once : (w : Walker) (timeline : ℕ → ℕ) (from prev : ℕ) (log bytes : List ℕ) (n : ℕ) → w.from ≡ w.at
    → LiesWhole w.ident.size w.at w.prev bytes n → AreBytes bytes → Stands w timeline from prev log
    → IsWhole w.ident timeline from prev (log ++ bytes) w.at (w.at + n)
whole_at_once w timeline from prev log bytes n begins whole are stands =
    let k = stands.keeps in
    let none = nothing_yet w timeline from prev log begins stands in
    let here : from ≡ w.at = sym k.begins ∙ begins in
    let even : w.at % 8 ≡ 0 = ap (λ (p : ℕ). p % 8) (sym here) ∙ k.aligned in
    let fits : w.prev < 2 ^ 64 = omega (arith, k.follows, k.prev_fits) in
    let image = image_here w.ident timeline w.at w.prev bytes n whole are even fits in
    let answer = answered w.ident timeline w.at w.prev (item_of (take whole.total bytes)) bytes n whole.size_is even whole.within image in
    let P : ℕ → ℕ → ℕ → List ℕ → Type 0 = λ start place before all. IsWhole w.ident timeline place before all start (w.at + n) in
    let started = subst (λ (start : ℕ). P start w.at w.prev bytes) (start_here w.ident.size w.at whole.past) answer in
    let placed = subst (λ (place : ℕ). P w.at place w.prev bytes) (sym here) started in
    let followed = subst (λ (before : ℕ). P w.at from before bytes) k.follows placed in
    subst (λ (front : List ℕ). P w.at from prev (front ++ bytes)) (sym none) followed

-- and the walker stands after it
pub stands_at_once : (w : Walker) (timeline : ℕ → ℕ) (from prev : ℕ) (log bytes : List ℕ) (n : ℕ) → w.from ≡ w.at
    → LiesWhole w.ident.size w.at w.prev bytes n → w.at + n ≤ 2 ^ 63 → Stands w timeline from prev log
    → (from + length log + n ≡ w.at + n) × Stands (passed w n) timeline (w.at + n) w.at []
stands_at_once w timeline from prev log bytes n begins whole low stands =
    let k = stands.keeps in
    let here : from ≡ w.at = sym k.begins ∙ begins in
    let even : w.at % 8 ≡ 0 = ap (λ (p : ℕ). p % 8) (sym here) ∙ k.aligned in (
      omega (arith, k.past),
      begun (passed w n) timeline w.at k.not_refused refl refl refl (omega (arith, whole.rounded)) refl (omega arith),
    )
