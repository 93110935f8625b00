-- An item has one image at a place, where the headers of pages are spelled.
use Rattle.std.proofs.Common.{◌≡◌, ℕ, ◌+◌, ◌-◌, ◌%◌, ◌<◌, ◌≤◌, ◌==◌, cond, true, List, [], ◌∷◌, ◌++◌, length, take, drop, get_or, min, replicate, suc, refl, sym, ap, ◌∙◌, inl, inr, arith, add-zero, length-append}
use Rattle.std.proofs.lemmas.Bool.{cases_Bool, cases_lt}
use Rattle.std.proofs.lemmas.List.{get_or-drop, get_or-take, length-replicate, length-take}
use Rattle.repl_lsn.specs.Segment.{IsSegSize}
use Rattle.repl_page.specs.declared.ident.Ident.{Ident}
use Rattle.repl_page.specs.Page.{page_start, header_length, in_header}
use Rattle.repl_page.specs.Header.{header_of, header_bytes}
use Rattle.repl_record.specs.declared.record.RecordIn.{RecordIn}
use Rattle.repl_record.specs.Record.{HeadersAreSpelled, IsImage, content, from_page, remaining, total_length}
use Rattle.repl_record.specs.Length.{CanBegin}
use Rattle.repl_record.proofs.Pages.{header_is, in_header_from, in_header_tells, length_of_page, page_start_is_page, same_header_length}
use Rattle.repl_record.proofs.Content.{content-append, content-header_byte, content-byte}
use Rattle.repl_record.proofs.ImageLength.{past_record, same_image_end}

-- ---- lists with one content and the same headers

-- how much content there is depends on how much there is
same_count : (size position : ℕ) (a b : List ℕ) → length a ≡ length b
    → length (content size position a) ≡ length (content size position b)
same_count size position [] [] same = refl
same_count size position [] (y ∷ ys) same = absurd (omega arith)
same_count size position (x ∷ xs) [] same = absurd (omega arith)
same_count size position (x ∷ xs) (y ∷ ys) same =
    let rest = same_count size (position + 1) xs ys (omega arith) in
    elim (cases_Bool (in_header size position)) [
      | inl inside ↦ ap length (content-header_byte size position x xs inside) ∙ rest
          ∙ ap length (sym (content-header_byte size position y ys inside))
      | inr outside ↦ ap length (content-byte size position x xs outside) ∙ ap suc rest
          ∙ ap length (sym (content-byte size position y ys outside))
    ]

-- two lists have the same bytes in headers
abbrev AreAlike : ℕ → ℕ → List ℕ → List ℕ → Type 0
AreAlike size position a b = (i : ℕ) → i < length a → in_header size (position + i) ≡ true → get_or a i 0 ≡ get_or b i 0

alike_rest : (size position x y : ℕ) (xs ys : List ℕ) → AreAlike size position (x ∷ xs) (y ∷ ys) → AreAlike size (position + 1) xs ys
alike_rest size position x y xs ys alike i below inside =
    let place : position + suc i ≡ position + 1 + i = omega arith in
    alike (suc i) (omega arith) (ap (in_header size) place ∙ inside)

same_bytes : (size position : ℕ) (a b : List ℕ) → length a ≡ length b → content size position a ≡ content size position b
    → AreAlike size position a b → a ≡ b
same_bytes size position [] [] same one alike = refl
same_bytes size position [] (y ∷ ys) same one alike = absurd (omega arith)
same_bytes size position (x ∷ xs) [] same one alike = absurd (omega arith)
same_bytes size position (x ∷ xs) (y ∷ ys) same one alike =
    let rest = alike_rest size position x y xs ys alike in
    elim (cases_Bool (in_header size position)) [
      | inl inside ↦
          let first : x ≡ y = alike 0 (omega arith) (ap (in_header size) (add-zero position) ∙ inside) in
          let left = sym (content-header_byte size position x xs inside) ∙ one ∙ content-header_byte size position y ys inside in
          ap (λ (byte : ℕ). byte ∷ xs) first ∙ ap (λ (t : List ℕ). y
          ∷ t) (same_bytes size (position + 1) xs ys (omega arith) left rest)
      | inr outside ↦
          let both : x ∷ content size (position + 1) xs ≡ y ∷ content size (position + 1) ys =
          sym (content-byte size position x xs outside) ∙ one ∙ content-byte size position y ys outside in
          let first : x ≡ y = ap (λ (t : List ℕ). get_or t 0 0) both in
          let left : content size (position + 1) xs ≡ content size (position + 1) ys = ap (drop 1) both in
          ap (λ (byte : ℕ). byte ∷ xs) first ∙ ap (λ (t : List ℕ). y
          ∷ t) (same_bytes size (position + 1) xs ys (omega arith) left rest)
    ]

-- ---- headers that are spelled

same_remaining : (size total from page : ℕ) (a b : List ℕ) → length a ≡ length b
    → remaining size total from a page ≡ remaining size total from b page
same_remaining size total from page a b same =
    let n = page - from in
    let fronts : length (take n a) ≡ length (take n b) =
    length-take n a ∙ ap (min n) same ∙ sym (length-take n b) in
    ap (λ (count : ℕ). cond (page == from) 0 (total - count)) (same_count size from (take n a) (take n b) fronts)

-- the byte at a place in a header
byte_of_header : (ident : Ident) (timeline : ℕ → ℕ) (total from page k : ℕ) (log : List ℕ) → HeadersAreSpelled ident timeline total from log
    → page % 8192 ≡ 0 → from ≤ page → page < from + length log → k < header_length ident.size page
    → get_or log (page - from + k) 0 ≡ get_or (header_bytes (header_of ident (timeline page) page (remaining ident.size total from log page)))
    k 0
byte_of_header ident timeline total from page k log spelled is_page above below inside =
    let n = header_length ident.size page in
    sym (get_or-drop (page - from) log k 0)
    ∙ sym (get_or-take n (from_page from log page) k 0 inside)
    ∙ ap (λ (t : List ℕ). get_or t k 0) (spelled page is_page above below)

-- the page in whose header a position is began with the image or after
page_began : (size from i : ℕ) → IsSegSize size → CanBegin size from → in_header size (from + i) ≡ true → from ≤ page_start (from + i)
page_began size from i is can inside =
    elim (cases_lt (page_start (from + i)) from) [
      | inl before ↦
          let below = in_header_tells size (from + i) inside in
          let on_page : from % 8192 + i < 8192 = omega (arith, header_is size (from + i)) in
          let same = same_header_length size from i is on_page in
          let begins : from % 8192 ≡ 0 = can (in_header_from size from (omega arith)) in
          omega arith
      | inr within ↦ within
    ]

spelled_alike : (ident : Ident) (timeline : ℕ → ℕ) (total from : ℕ) (a b : List ℕ) → IsSegSize ident.size → CanBegin ident.size from
    → length a ≡ length b → HeadersAreSpelled ident timeline total from a → HeadersAreSpelled ident timeline total from b
    → AreAlike ident.size from a b
spelled_alike ident timeline total from a b is can same left right i below inside =
    let size = ident.size in
    let page = page_start (from + i) in
    let k = (from + i) % 8192 in
    let began = page_began size from i is can inside in
    let place : i ≡ page - from + k = omega arith in
    let begins = page_start_is_page (from + i) in
    let short : k < header_length size page = omega (arith, in_header_tells size (from + i) inside, length_of_page size (from + i) is) in
    ap (λ (n : ℕ). get_or a n 0) place
    ∙ byte_of_header ident timeline total from page k a left begins began (omega arith) short
    ∙ ap (λ (count : ℕ). get_or (header_bytes (header_of ident (timeline page) page count)) k 0)
    (same_remaining size total from page a b same)
    ∙ sym (byte_of_header ident timeline total from page k b right begins began (omega arith) short)
    ∙ ap (λ (n : ℕ). get_or b n 0) (sym place)

-- ---- images

content_of_image : (ident : Ident) (timeline : ℕ → ℕ) (from prev : ℕ) (item : RecordIn) (log : List ℕ)
    → (image : IsImage ident timeline from prev item log)
    → content ident.size from log ≡ content ident.size from image.front ++ content ident.size (from + length image.front)
    (replicate image.gap 0)
content_of_image ident timeline from prev item log image = ap (content ident.size from) image.parts
    ∙ content-append ident.size from image.front (replicate image.gap 0)

pub same_image : (ident : Ident) (timeline : ℕ → ℕ) (from prev : ℕ) (item : RecordIn) (a b : List ℕ) → IsSegSize ident.size
    → CanBegin ident.size from
    → IsImage ident timeline from prev item a → HeadersAreSpelled ident timeline (total_length item) from a
    → IsImage ident timeline from prev item b → HeadersAreSpelled ident timeline (total_length item) from b → a ≡ b
same_image ident timeline from prev item a b is can left left_spelled right right_spelled =
    let size = ident.size in
    let same : length a ≡ length b = omega (
      arith,
      same_image_end ident timeline from prev item a is left,
      same_image_end ident timeline from prev item b is right,
    ) in
    let fronts : length left.front ≡ length right.front = omega (
      arith,
      past_record ident timeline from prev item a is left,
      past_record ident timeline from prev item b is right,
    ) in
    let gaps : left.gap ≡ right.gap = omega (
      arith,
      ap length left.parts,
      length-append left.front (replicate left.gap 0),
      length-replicate {A = ℕ} left.gap 0,
      ap length right.parts,
      length-append right.front (replicate right.gap 0),
      length-replicate {A = ℕ} right.gap 0,
    ) in
    let one : content size from a ≡ content size from b =
    content_of_image ident timeline from prev item a left
    ∙ ap (λ (t : List ℕ). t ++ content size (from + length left.front) (replicate left.gap 0)) (left.bytes ∙ sym right.bytes)
    ∙ ap (λ (n : ℕ). content size from right.front ++ content size (from + n) (replicate left.gap 0)) fronts
    ∙ ap (λ (gap : ℕ). content size from right.front ++ content size (from + length right.front) (replicate gap 0)) gaps
    ∙ sym (content_of_image ident timeline from prev item b right) in
    same_bytes size from a b same one (spelled_alike ident timeline (total_length item) from a b is can same left_spelled right_spelled)
