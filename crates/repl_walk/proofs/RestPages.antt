-- The rest of a record goes on by a page, or by the first bytes of one: the headers that fit, and the record's bytes.
use Rattle.std.proofs.Common.{
  ◌≡◌,
  ◌≢◌,
  ℕ,
  ◌+◌,
  ◌-◌,
  ◌%◌,
  ◌<◌,
  ◌≤◌,
  List,
  ◌++◌,
  length,
  take,
  drop,
  get_or,
  replicate,
  get_or-drop,
  sym,
  ap,
  ◌∙◌,
  subst,
  inl,
  inr,
  arith,
  append_assoc,
  length-append,
  length-drop,
}
use Rattle.std.proofs.lemmas.Bool.{cases_lt}
use Rattle.std.proofs.lemmas.List.{drop_at, get_or-take, length-take, take-append-drop, take-append-le, take-take, take_all, take_at}
use Rattle.std.proofs.Math.Seq.{take-append-add}
use Rattle.repl_lsn.specs.Segment.{IsSegSize}
use Rattle.repl_page.specs.declared.fault.PageFault.{PageFault}
use Rattle.repl_page.specs.declared.ident.Ident.{Ident}
use Rattle.repl_page.specs.Header.{Agrees, IsPageFault, header_of}
use Rattle.repl_page.specs.Page.{header_length}
use Rattle.repl_record.specs.Record.{LastIsContent, content}
use Rattle.repl_record.proofs.Content.{content-append-header, content-more, last_more}
use Rattle.repl_record.proofs.Fields.{part_of_more}
use Rattle.repl_record.proofs.ImageMadeGap.{zeros_are}
use Rattle.repl_record.proofs.Pages.{header_is, place_on_page, same_header_length}
use Rattle.repl_walk.specs.declared.rest.Rest.{Rest}
use Rattle.repl_walk.specs.Rest.{
  HasAll,
  HasPassed,
  HeadersFit,
  IsGapBegun,
  IsRest,
  IsRestBegun,
  IsRestWhole,
  IsWrongGap,
  IsWrongHeader,
  due_on,
  header_at,
  left_of,
}

-- ---- headers

-- a header that fits goes on fitting
pub fits_more : (ident : Ident) (timeline : ℕ → ℕ) (rest from : ℕ) (log more : List ℕ) (page : ℕ) → from ≤ page
    → page + header_length ident.size page ≤ from + length log
    → Agrees (due_on ident timeline rest from log page) (header_at ident.size from log page)
    → Agrees (due_on ident timeline rest from (log ++ more) page) (header_at ident.size from (log ++ more) page)
fits_more ident timeline rest from log more page above within is =
    let size = ident.size in
    let front : take (page - from) (log ++ more) ≡ take (page - from) log = take-append-le (page - from) log more (omega arith) in
    let same : header_at size from (log ++ more) page ≡ header_at size from log page =
    part_of_more (page - from) (header_length size page) log more (omega arith) in
    subst (λ (t : List ℕ). Agrees (header_of ident (timeline page) page (rest - length (content size from t))) (header_at size from (log
    ++ more) page)) (sym front) (subst (Agrees (due_on ident timeline rest from log page)) (sym same) is)

-- what is due on the next page, and the bytes that stand there
pub due_next : (r : Rest) (timeline : ℕ → ℕ) (rest from tli : ℕ) (log page : List ℕ) → HasPassed r timeline rest from log
    → timeline r.at ≡ tli → (P : ℕ → ℕ → List ℕ → Type 0) → P tli r.left (take (header_length r.ident.size r.at) page)
    → P (timeline r.at) (left_of r.ident.size rest from (log ++ page) r.at) (header_at r.ident.size from (log ++ page) r.at)
due_next r timeline rest from tli log page passed on P p =
    let size = r.ident.size in
    let n = r.at - from in
    let counted : length log ≡ n = omega (arith, passed.past) in
    let front : take n (log ++ page) ≡ log = take_at log page n counted in
    let past : drop n (log ++ page) ≡ page = drop_at log page n counted in
    let left : r.left ≡ left_of size rest from (log ++ page) r.at =
    omega (arith, passed.left, ap (λ (t : List ℕ). length (content size from t)) front) in
    subst (λ (t : ℕ). P t (left_of size rest from (log ++ page) r.at) (header_at size from (log ++ page) r.at)) (sym on)
    (subst (λ (k : ℕ). P tli k (header_at size from (log ++ page) r.at)) left
    (subst (λ (t : List ℕ). P tli r.left (take (header_length size r.at) t)) (sym past) p))

-- the headers fit with a page more, or with the first bytes of it
pub headers_fit : (r : Rest) (timeline : ℕ → ℕ) (rest from tli : ℕ) (log page : List ℕ) → HasPassed r timeline rest from log
    → timeline r.at ≡ tli → length page ≤ 8192
    → (header_length r.ident.size r.at ≤ length page
    → Agrees (header_of r.ident tli r.at r.left) (take (header_length r.ident.size r.at) page))
    → HeadersFit r.ident timeline rest from (log ++ page)
headers_fit r timeline rest from tli log page passed on few agrees at is_page above whole =
    let counted = length-append log page in
    elim (cases_lt at r.at) [
      | inl before ↦ fits_more r.ident timeline rest from log page at above (omega (
        arith,
        passed.past,
        passed.on_page,
        is_page,
        header_is r.ident.size at,
      )) (passed.headers at is_page above (omega (arith, passed.past, passed.on_page, is_page, header_is r.ident.size at)))
      | inr past ↦
          let same : r.at ≡ at = omega (arith, passed.past, passed.on_page, is_page, header_is r.ident.size at, counted) in
          let enough : header_length r.ident.size r.at ≤ length page =
          omega (arith, passed.past, counted, same, ap (header_length r.ident.size) same) in
          subst (λ (p : ℕ). Agrees (due_on r.ident timeline rest from (log ++ page) p) (header_at r.ident.size from (log ++ page) p)) same
          (due_next r timeline rest from tli log page passed on (λ t k h. Agrees (header_of r.ident t r.at k) h) (agrees enough))
    ]

-- ---- the record's bytes

-- of less than a header none
pub content_short : (r : Rest) (timeline : ℕ → ℕ) (rest from : ℕ) (log page : List ℕ) → HasPassed r timeline rest from log
    → IsSegSize r.ident.size → length page ≤ header_length r.ident.size r.at
    → content r.ident.size from (log ++ page) ≡ content r.ident.size from log
content_short r timeline rest from log page passed size_is within =
    content-append-header r.ident.size from r.at log page size_is passed.past (omega (arith, passed.on_page))

-- the page in two parts
record IsCut (r : Rest) (from : ℕ) (log page : List ℕ) : Type 0 where
  parts : log ++ page ≡ (log ++ take (header_length r.ident.size r.at) page) ++ drop (header_length r.ident.size r.at) page
  past : r.at + header_length r.ident.size r.at ≡ from + length (log ++ take (header_length r.ident.size r.at) page)
  outside : header_length r.ident.size (r.at + header_length r.ident.size r.at) ≤ (r.at + header_length r.ident.size r.at) % 8192
  on_page : (r.at + header_length r.ident.size r.at) % 8192 + length (drop (header_length r.ident.size r.at) page) ≤ 8192

cut_page : (r : Rest) (timeline : ℕ → ℕ) (rest from : ℕ) (log page : List ℕ) → HasPassed r timeline rest from log
    → IsSegSize r.ident.size → header_length r.ident.size r.at ≤ length page → length page ≤ 8192 → IsCut r from log page
cut_page r timeline rest from log page passed size_is enough few =
    let size = r.ident.size in
    let n = header_length size r.at in
    let two = header_is size r.at in
    let within : r.at % 8192 + n < 8192 = omega (arith, two, passed.on_page) in
    let place = place_on_page r.at n within in
    record {
      parts = ap (λ (t : List ℕ). log ++ t) (sym (take-append-drop n page)) ∙ sym (append_assoc log (take n page) (drop n page));
      past = omega (arith, passed.past, length-append log (take n page), length-take n page);
      outside = omega (arith, place, passed.on_page, same_header_length size r.at n size_is within);
      on_page = omega (arith, place, passed.on_page, length-drop n page);
    }

-- after the header all are
pub content_on_page : (r : Rest) (timeline : ℕ → ℕ) (rest from : ℕ) (log page : List ℕ) → HasPassed r timeline rest from log
    → IsSegSize r.ident.size → header_length r.ident.size r.at ≤ length page → length page ≤ 8192
    → length (content r.ident.size from (log
    ++ page)) + header_length r.ident.size r.at ≡ length (content r.ident.size from log) + length page
content_on_page r timeline rest from log page passed size_is enough few =
    let size = r.ident.size in
    let n = header_length size r.at in
    let cut = cut_page r timeline rest from log page passed size_is enough few in
    let head = take n page in
    let body = drop n page in
    let whole : content size from (log ++ page) ≡ content size from log ++ body =
    ap (content size from) cut.parts ∙ content-more size (r.at + n) from (log ++ head) body size_is cut.past cut.outside cut.on_page
    ∙ ap (λ (t : List ℕ). t ++ body) (content_short r timeline rest from log head passed size_is (omega (arith, length-take n page))) in
    omega (arith, ap length whole, length-append (content size from log) body, length-drop n page)

pub last_on_page : (r : Rest) (timeline : ℕ → ℕ) (rest from : ℕ) (log page : List ℕ) → HasPassed r timeline rest from log
    → IsSegSize r.ident.size → header_length r.ident.size r.at < length page → length page ≤ 8192
    → LastIsContent r.ident.size from (log ++ page)
last_on_page r timeline rest from log page passed size_is enough few =
    let size = r.ident.size in
    let n = header_length size r.at in
    let cut = cut_page r timeline rest from log page passed size_is (omega arith) few in
    subst (LastIsContent size from) (sym cut.parts) (last_more size (r.at + n) from (log ++ take n page) (drop n page) size_is cut.past
    cut.outside cut.on_page (omega (arith, length-drop n page)))

-- ---- a page

-- The page, of which so many bytes are there, has the header that is due.
pub record IsDue (r : Rest) (timeline : ℕ → ℕ) (rest from tli : ℕ) (log page : List ℕ) : Type 0 where
  pub passed : HasPassed r timeline rest from log
  pub size_is : IsSegSize r.ident.size
  pub on : timeline r.at ≡ tli
  pub enough : header_length r.ident.size r.at ≤ length page
  pub few : length page ≤ 8192
  pub agrees : Agrees (header_of r.ident tli r.at r.left) (take (header_length r.ident.size r.at) page)

-- so has the front of it
due_front : {r : Rest} {timeline : ℕ → ℕ} {rest from tli : ℕ} {log page : List ℕ} (n : ℕ) → IsDue r timeline rest from tli log page
    → header_length r.ident.size r.at ≤ n → n ≤ length page → IsDue r timeline rest from tli log (take n page)
due_front {r = r} {tli = tli} {page = page} n due enough within =
    let counted = length-take n page in
    record {
      passed = due.passed;
      size_is = due.size_is;
      on = due.on;
      enough = omega arith;
      few = omega (arith, due.few);
      agrees = subst (Agrees (header_of r.ident tli r.at r.left)) (sym (take-take (header_length r.ident.size r.at) n page enough))
          due.agrees;
    }

due_headers : {r : Rest} {timeline : ℕ → ℕ} {rest from tli : ℕ} {log page : List ℕ} → IsDue r timeline rest from tli log page
    → HeadersFit r.ident timeline rest from (log ++ page)
due_headers {r = r} {timeline = timeline} {rest = rest} {from = from} {tli = tli} {log = log} {page = page} due =
    headers_fit r timeline rest from tli log page due.passed due.on due.few (λ enough. due.agrees)

due_content : {r : Rest} {timeline : ℕ → ℕ} {rest from tli : ℕ} {log page : List ℕ} → IsDue r timeline rest from tli log page
    → length (content r.ident.size from (log
    ++ page)) + header_length r.ident.size r.at ≡ length (content r.ident.size from log) + length page
due_content {r = r} {timeline = timeline} {rest = rest} {from = from} {log = log} {page = page} due =
    content_on_page r timeline rest from log page due.passed due.size_is due.enough due.few

-- of less than a header nothing is judged
pub short_header : (r : Rest) (timeline : ℕ → ℕ) (rest from tli : ℕ) (log page : List ℕ) → HasPassed r timeline rest from log
    → IsSegSize r.ident.size → timeline r.at ≡ tli → length page < header_length r.ident.size r.at
    → IsRestBegun r.ident timeline rest from (log ++ page)
short_header r timeline rest from tli log page passed size_is on short = record {
  headers = headers_fit r timeline rest from tli log page passed on (omega (arith, header_is r.ident.size r.at)) (λ enough. absurd (omega
      arith));
  few = inl (omega (
    arith,
    ap length (content_short r timeline rest from log page passed size_is (omega arith)),
    passed.left,
    passed.some,
  ));
}

-- the header may differ
pub header_differs : (r : Rest) (timeline : ℕ → ℕ) (rest from tli : ℕ) (log page : List ℕ) (fault : PageFault)
    → HasPassed r timeline rest from log → timeline r.at ≡ tli → header_length r.ident.size r.at ≤ length page
    → IsPageFault (header_of r.ident tli r.at r.left) (take (header_length r.ident.size r.at) page) fault
    → IsWrongHeader r.ident timeline rest from (log ++ page) r.at fault
header_differs r timeline rest from tli log page fault passed on enough is =
    let front : take (r.at - from) (log ++ page) ≡ log = take_at log page (r.at - from) (omega (arith, passed.past)) in
    record {
      is_page = passed.on_page;
      began = omega (arith, passed.past);
      whole = omega (arith, passed.past, length-append log page);
      before = subst (HeadersFit r.ident timeline rest from) (sym front) passed.headers;
      goes_on = omega (
        arith,
        ap (λ (t : List ℕ). length (content r.ident.size from t)) front,
        passed.left,
        passed.some,
      );
      fault = due_next r timeline rest from tli log page passed on (λ t k h. IsPageFault (header_of r.ident t r.at k) h fault) is;
    }

-- ---- after the header

-- the record's bytes go on after the page
pub page_begun : {r : Rest} {timeline : ℕ → ℕ} {rest from tli : ℕ} {log page : List ℕ} → IsDue r timeline rest from tli log page
    → length page < header_length r.ident.size r.at + r.left → IsRestBegun r.ident timeline rest from (log ++ page)
page_begun due less = record {
  headers = due_headers due;
  few = inl (omega (arith, due_content due, due.passed.left));
}

pub page_passed : {r new : Rest} {timeline : ℕ → ℕ} {rest from tli : ℕ} {log page : List ℕ} → IsDue r timeline rest from tli log page
    → new.ident ≡ r.ident → new.from ≡ r.from → new.at ≡ r.at + length page
    → new.left + (length page - header_length r.ident.size r.at) ≡ r.left → 0 < new.left → (from + length (log ++ page)) % 8192 ≡ 0
    → HasPassed new timeline rest from (log ++ page)
page_passed {r = r} {new = new} {timeline = timeline} {rest = rest} {from = from} {log = log} {page = page} due same_ident same_from at
    left some
    whole =
    let counted = length-append log page in
    record {
      begins = same_from ∙ due.passed.begins;
      from_page = due.passed.from_page;
      past = omega (arith, due.passed.past);
      on_page = omega (arith, due.passed.past);
      left = omega (
        arith,
        ap (λ (i : Ident). length (content i.size from (log ++ page))) same_ident,
        due_content due,
        due.passed.left,
        due.enough,
      );
      some = some;
      headers = subst (λ (i : Ident). HeadersFit i timeline rest from (log ++ page)) (sym same_ident) (due_headers due);
    }

-- the record's bytes end on the page, and after them stand zeros
pub page_all : {r : Rest} {timeline : ℕ → ℕ} {rest from tli : ℕ} {log page : List ℕ} (n : ℕ) → IsDue r timeline rest from tli log page
    → n ≤ length page → header_length r.ident.size r.at + r.left ≤ n → n < header_length r.ident.size r.at + r.left + 8
    → ((i : ℕ) → header_length r.ident.size r.at + r.left + i < n → get_or page (header_length r.ident.size r.at + r.left + i) 0 ≡ 0)
    → HasAll r.ident rest from (log ++ take n page)
page_all {r = r} {timeline = timeline} {rest = rest} {from = from} {log = log} {page = page} n due within all few zeros =
    let m = header_length r.ident.size r.at + r.left in
    let front = take m page in
    let due_all = due_front m due (omega arith) (omega arith) in
    let counted = length-take m page in
    let past = drop m (take n page) in
    let long : length past ≡ n - m = omega (arith, length-drop m (take n page), length-take n page) in
    let read : (i : ℕ) → i < length past → get_or past i 0 ≡ 0 = λ i below.
    zero_past m n i page (omega (arith, long)) (zeros i (omega (arith, long))) in
    let parts : take n page ≡ front ++ replicate (n - m) 0 = sym (take-append-drop m (take n page))
    ∙ ap (λ (t : List ℕ). t ++ past) (take-take m n page all)
    ∙ ap (λ (t : List ℕ). front ++ t) (zeros_are past read ∙ ap (λ (k : ℕ). replicate k 0) long) in
    record {
      front = log ++ front;
      gap = n - m;
      parts = ap (λ (t : List ℕ). log ++ t) parts ∙ sym (append_assoc log front (replicate (n - m) 0));
      bytes = omega (arith, due_content due_all, due.passed.left, counted);
      last = last_on_page r timeline rest from log front due.passed due.size_is (omega (arith, counted, due.passed.some)) (omega (
        arith,
        counted,
        due.few,
      ));
      few = omega arith;
    }
  where
    zero_past : (m n i : ℕ) (page : List ℕ) → m + i < n → get_or page (m + i) 0 ≡ 0 → get_or (drop m (take n page)) i 0 ≡ 0
    zero_past m n i page below is = get_or-drop m (take n page) i 0 ∙ get_or-take n page (m + i) 0 below ∙ is

-- less than up to a multiple of 8
pub gap_begun : {r : Rest} {timeline : ℕ → ℕ} {rest from tli : ℕ} {log page : List ℕ} → IsDue r timeline rest from tli log page
    → header_length r.ident.size r.at + r.left ≤ length page → (header_length r.ident.size r.at + r.left) % 8 ≢ 0
    → (header_length r.ident.size r.at + r.left) % 8 + (length page - (header_length r.ident.size r.at + r.left)) < 8
    → ((i : ℕ) → header_length r.ident.size r.at + r.left + i < length page
    → get_or page (header_length r.ident.size r.at + r.left + i) 0 ≡ 0)
    → IsRestBegun r.ident timeline rest from (log ++ page)
unfolding page_all
gap_begun {r = r} {rest = rest} {from = from} {log = log} {page = page} due within unrounded inside zeros =
    let m = header_length r.ident.size r.at + r.left in
    let few : length page < m + 8 = omega arith in
    let all = page_all (length page) due (omega arith) within few zeros in
    let counted = length-take m page in
    let both = length-append log (take m page) in
    let eight : (from + length (log ++ take m page)) % 8 ≡ m % 8 = omega (arith, due.passed.past, due.passed.on_page) in
    record {
      headers = due_headers due;
      few = inr (subst (λ (t : List ℕ). IsGapBegun r.ident rest from (log ++ t)) (take_all (length page) page (omega arith)) (record {
        all = all;
        unrounded = λ is. unrounded (sym eight ∙ is);
        inside = omega arith;
      }));
    }

-- up to it
pub page_whole : {r : Rest} {timeline : ℕ → ℕ} {rest from tli : ℕ} {log page : List ℕ} (n : ℕ) → IsDue r timeline rest from tli log page
    → n ≤ length page → header_length r.ident.size r.at ≤ n → n % 8 ≡ 0 → HasAll r.ident rest from (log ++ take n page)
    → IsRestWhole r.ident timeline rest from (log ++ page) (r.at + n)
page_whole {r = r} {timeline = timeline} {rest = rest} {from = from} {log = log} {page = page} n due within enough rounded all =
    let counted = length-take n page in
    let both = length-append log (take n page) in
    let cut : log ++ take n page ≡ take (r.at + n - from) (log ++ page) =
    sym (take-append-add log page n) ∙ ap (λ (k : ℕ). take k (log ++ page)) (omega (arith, due.passed.past)) in
    record {
      after = omega (arith, due.passed.past, header_is r.ident.size r.at);
      within = omega (arith, due.passed.past, length-append log page);
      rest_is = subst (IsRest r.ident timeline rest from) cut (record {
        headers = due_headers (due_front n due enough within);
        all = all;
        rounded = omega (arith, due.passed.past, due.passed.on_page);
      });
    }

-- a byte after the record's that is not zero
pub gap_differs : {r : Rest} {timeline : ℕ → ℕ} {rest from tli : ℕ} {log page : List ℕ} (place : ℕ)
    → IsDue r timeline rest from tli log page
    → (header_length r.ident.size r.at + r.left) % 8 ≢ 0 → (header_length r.ident.size r.at + r.left) % 8 + place < 8
    → header_length r.ident.size r.at + r.left ≤ length page
    → get_or (drop (header_length r.ident.size r.at + r.left) page) place 0 ≢ 0 → IsWrongGap r.ident timeline rest from (log ++ page)
gap_differs {r = r} {timeline = timeline} {rest = rest} {from = from} {log = log} {page = page} place due unrounded inside within wrong =
    let m = header_length r.ident.size r.at + r.left in
    let front = take m page in
    let counted = length-take m page in
    let both = length-append log front in
    let due_all = due_front m due (omega arith) within in
    let eight : (from + length (log ++ front)) % 8 ≡ m % 8 = omega (arith, due.passed.past, due.passed.on_page) in
    record {
      front = log ++ front;
      past = drop m page;
      parts = ap (λ (t : List ℕ). log ++ t) (sym (take-append-drop m page)) ∙ sym (append_assoc log front (drop m page));
      headers = due_headers due_all;
      bytes = omega (arith, due_content due_all, due.passed.left, counted);
      last = last_on_page r timeline rest from log front due.passed due.size_is (omega (arith, counted, due.passed.some)) (omega (
        arith,
        counted,
        due.few,
      ));
      place = place;
      unrounded = λ is. unrounded (sym eight ∙ is);
      inside = omega arith;
      wrong = wrong;
    }
