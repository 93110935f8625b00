-- What a check has found of a log, and what it has found of more of it.
use Rattle.std.proofs.Common.{◌≡◌, ℕ, ◌+◌, ◌-◌, ◌%◌, ◌<◌, ◌≤◌, ◌==◌, ◌⊎◌, Bool, List, [], ◌++◌, length, take, drop, min, nat_lt, if◌then◌else◌, refl, sym, ap, ◌∙◌, subst, inl, inr, arith, append_assoc, length-append, length-drop, true, false}
use Rattle.std.proofs.lemmas.Bool.{le-ltb, lt-ltb}
use Rattle.std.proofs.lemmas.List.{drop_all, length-take, take-append-drop, take-append-le}
use Rattle.repl_lsn.specs.Segment.{IsSegSize}
use Rattle.repl_page.specs.declared.ident.Ident.{Ident}
use Rattle.repl_page.specs.Header.{field}
use Rattle.repl_page.specs.Page.{IsPage, header_length}
use Rattle.repl_record.specs.declared.answer.WalkReason.{WalkReason}
use Rattle.repl_record.specs.declared.walker.Walker.{Walker}
use Rattle.repl_record.specs.Log.{IsPrefixOfRecords, IsWholeEnd, RecordEnd, origin}
use Rattle.repl_record.specs.Walker.{Stands, identity, last_end, last_start, position}
use Rattle.repl_record.proofs.Content.{content-nil}
use Rattle.repl_record.proofs.Fields.{field-append}
use Rattle.repl_record.proofs.LogEnds.{from_le}
use Rattle.repl_record.proofs.Pages.{header_is}
use Rattle.repl_walk.specs.declared.pieces.WalkFault.{WalkFault}
use Rattle.repl_walk.specs.declared.rest.Rest.{Rest}
use Rattle.repl_walk.specs.declared.rest.TheConstants.{REST_LIMIT}
use Rattle.repl_walk.specs.Faults.{IsFaultPast}
use Rattle.repl_walk.specs.Rest.{HasPassed, IsRest, IsRestWhole, rest_identity}
use Rattle.repl_walk.specs.Walks.{HasWalked}
use Rattle.repl_walk.proofs.Ends.{ends_within}
use Rattle.repl_walk.proofs.Walks.{walked_prefix, walked_whole}
use Rattle.repl_check.specs.declared.log_check.LogCheck.{LogCheck}
use Rattle.repl_check.specs.declared.log_check.Stage.{Stage}
use Rattle.repl_check.specs.declared.log_check.Stage.TheVariants as stage
use Rattle.repl_check.specs.Fits.{HasBadRecord, HasRecords, IsFirst, rest_of}
use Rattle.repl_check.specs.Machine.{HasJudged, HasStopped, HasWalkedOn, InRecords, InRest, IsAtStage, IsPlaced}
use Rattle.repl_check.proofs.Starts.{bad_record_more, bad_rest_more, drop_more, first_more, first_placed}

-- ---- how the log begins

-- what is chosen by two tests
abbrev chosen : Bool → Bool → ℕ → ℕ
chosen begins short said = if begins then 0 else (if short then 0 else min said REST_LIMIT)

chosen_none : (begins : Bool) (said : ℕ) → chosen begins true said ≡ 0
chosen_none true said = refl
chosen_none false said = refl

pub rest_none : (ident : Ident) (floor : ℕ) → rest_of ident floor [] ≡ 0
rest_none ident floor =
    let none : List ℕ = [] in
    let short : nat_lt 0 (header_length ident.size floor) ≡ true = lt-ltb 0 (header_length ident.size floor) (omega (
      arith,
      header_is ident.size floor,
    )) in
    ap (λ (b : Bool). chosen (floor == ident.size) b (field 16 4 none)) short ∙ chosen_none (floor == ident.size) (field 16 4 none)

pub rest_more : (ident : Ident) (floor : ℕ) (log more : List ℕ) → header_length ident.size floor ≤ length log
    → rest_of ident floor log ≡ rest_of ident floor (log ++ more)
rest_more ident floor log more enough =
    let size = header_length ident.size floor in
    let said : field 16 4 log ≡ field 16 4 (log ++ more) = sym (field-append 16 4 log more (omega (arith, header_is ident.size floor))) in
    let short : nat_lt (length log) size ≡ nat_lt (length (log ++ more)) size = le-ltb (length log) size enough
    ∙ sym (le-ltb (length (log ++ more)) size (omega (arith, length-append log more))) in
    ap (λ (n : ℕ). chosen (floor == ident.size) (nat_lt (length log) size) n) said
    ∙ ap (λ (b : Bool). chosen (floor == ident.size) b (field 16 4 (log ++ more))) short

-- ---- the first stage

pub fresh_rest : (ident : Ident) (timeline : ℕ → ℕ) (rest floor : ℕ) (r : Rest) → 0 < rest → rest_identity r ≡ ident
    → HasPassed r timeline rest floor [] → InRest ident timeline rest floor [] r
fresh_rest ident timeline rest floor r some of_log passed = record {
  some = some;
  of_log = of_log;
  begun = record {
    headers = λ page is from whole. absurd (omega (arith, header_is ident.size page));
    few = inl (omega (arith, ap length (content-nil ident.size floor)));
  };
  passed = λ on_page. passed;
}

-- a walker that begins with these bytes has gone through none
pub fresh_walked : (w : Walker) (timeline : ℕ → ℕ) (from prev : ℕ) (log : List ℕ) → from % 8 ≡ 0 → log ≡ []
    → Stands w timeline from prev [] → HasWalked w timeline from prev log
fresh_walked w timeline from prev log eight none stands =
    let at : from ≡ last_end w = sym stands.keeps.begins in
    let begun : prev ≡ last_start w = sym stands.keeps.follows in
    let Ends : ℕ → ℕ → Type 0 = λ e l. RecordEnd (identity w) timeline from prev log e l in
    let rest : [] ≡ drop (last_end w - from) log = sym (drop_all (last_end w - from) log (omega (arith, ap length none))) in
    record {
      aligned = eight;
      records = subst (λ (l : ℕ). Ends (last_end w) l) begun (subst (λ (e : ℕ). Ends e prev) at origin);
      stands = subst (λ (t : List ℕ). Stands w timeline (last_end w) (last_start w) t) rest
          (subst (λ (l : ℕ). Stands w timeline (last_end w) l []) begun (subst (λ (e : ℕ). Stands w timeline e prev []) at stands));
    }

pub fresh_records : (ident : Ident) (timeline : ℕ → ℕ) (rest floor : ℕ) (w : Walker) → IsPage floor → rest ≡ 0 → identity w ≡ ident
    → Stands w timeline floor 0 [] → InRecords ident timeline rest floor [] floor w
fresh_records ident timeline rest floor w on_page none of_log stands = record {
  first = inl (none, refl);
  of_log = of_log;
  prev = 0;
  before = λ at_origin. refl;
  walked = fresh_walked w timeline floor 0 (drop (floor - floor) []) (omega (arith, on_page)) (drop_all (floor - floor) [] (omega arith)) stands;
}

-- ---- where a stage goes on

records_placed : (ident : Ident) (timeline : ℕ → ℕ) (rest floor : ℕ) (log : List ℕ) (start : ℕ) (w : Walker) → IsPage floor
    → InRecords ident timeline rest floor log start w → position w ≡ floor + length log
records_placed ident timeline rest floor log start w on_page is =
    let placed = first_placed ident timeline rest floor log start on_page is.first in
    let past = drop (start - floor) log in
    let above = from_le (identity w) timeline start is.prev past (last_end w) (last_start w) is.walked.records in
    let within = ends_within (identity w) timeline start is.prev past (last_end w) (last_start w) is.walked.records in
    omega (
      arith,
      placed.0,
      placed.1,
      above,
      within,
      is.walked.stands.keeps.past,
      length-drop (start - floor) log,
      length-drop (last_end w - start) past,
    )

pub stage_placed : (ident : Ident) (timeline : ℕ → ℕ) (rest floor at : ℕ) (log : List ℕ) (s : Stage) → IsPage floor → at ≡ floor + length log
    → IsPage at → IsAtStage ident timeline rest floor log s → IsPlaced s at
stage_placed ident timeline rest floor at log (stage.InRest r) on_page is next at_stage =
    (at_stage.passed (subst IsPage is next)).past ∙ sym is
stage_placed ident timeline rest floor at log (stage.BadRest fault) on_page is next at_stage = tt
stage_placed ident timeline rest floor at log (stage.InRecords start w) on_page is next at_stage =
    records_placed ident timeline rest floor log start w on_page at_stage ∙ sym is
stage_placed ident timeline rest floor at log (stage.BadRecord start end last fault) on_page is next at_stage = tt

-- ---- the rest is done

pub rest_done : (ident : Ident) (timeline : ℕ → ℕ) (rest floor end used start : ℕ) (log bytes : List ℕ) (w : Walker) → IsPage floor → 0 < rest
    → IsRestWhole ident timeline rest floor (log ++ bytes) end → floor + length log + used ≡ end → used ≤ length bytes
    → start ≡ floor + length log + used → identity w ≡ ident → Stands w timeline start 0 []
    → InRecords ident timeline rest floor (log ++ take used bytes) start w
rest_done ident timeline rest floor end used start log bytes w on_page some whole goes within at of_log stands =
    let front = log ++ take used bytes in
    let same : start ≡ end = at ∙ goes in
    let counted = length-append log (take used bytes) in
    let taken = length-take used bytes in
    let all : log ++ bytes ≡ front ++ drop used bytes = ap (λ (t : List ℕ). log ++ t) (sym (take-append-drop used bytes))
    ∙ sym (append_assoc log (take used bytes) (drop used bytes)) in
    let part : take (start - floor) (log ++ bytes) ≡ take (start - floor) front = ap (take (start - floor)) all
    ∙ take-append-le (start - floor) front (drop used bytes) (omega (arith, at, counted, taken)) in
    let first : IsFirst ident timeline rest floor front start = inr (
      some,
      record {
        after = omega (arith, same, whole.after);
        within = omega (arith, at, counted, taken);
        rest_is = subst (IsRest ident timeline rest floor) part (subst (λ (e : ℕ). IsRest ident timeline rest floor (take (e - floor) (log
            ++ bytes))) (sym same) whole.rest_is);
      },
    ) in
    record {
      first = first;
      of_log = of_log;
      prev = 0;
      before = λ at_origin. refl;
      walked = fresh_walked w timeline start 0 (drop (start - floor) front) (first_placed ident timeline rest floor front start on_page first).2
          (drop_all (start - floor) front (omega (arith, at, counted, taken))) stands;
    }

-- ---- more records

pub records_on : (ident : Ident) (timeline : ℕ → ℕ) (rest floor start : ℕ) (log bytes : List ℕ) (w : Walker) → IsPage floor
    → IsFirst ident timeline rest floor log start → identity w ≡ ident
    → HasWalkedOn ident timeline floor start (drop (start - floor) log ++ bytes) w
    → InRecords ident timeline rest floor (log ++ bytes) start w
records_on ident timeline rest floor start log bytes w on_page first of_log on = record {
  first = first_more ident timeline rest floor log bytes start first;
  of_log = of_log;
  prev = on.prev;
  before = on.before;
  walked = subst (λ (t : List ℕ). HasWalked w timeline start on.prev t) (sym (drop_more ident timeline rest floor log bytes start on_page
      first)) on.walked;
}

pub records_stop : (ident : Ident) (timeline : ℕ → ℕ) (rest floor start at end last : ℕ) (reason : WalkReason) (log bytes : List ℕ) (w : Walker)
    → IsPage floor
    → IsFirst ident timeline rest floor log start → identity w ≡ ident → end ≡ last_end w → last ≡ last_start w
    → HasStopped ident timeline floor start (drop (start - floor) log ++ bytes) w at reason
    → HasBadRecord ident timeline rest floor (log ++ bytes) start end last at reason
records_stop ident timeline rest floor start at end last reason log bytes w on_page first of_log end_is last_is stop =
    let all = log ++ bytes in
    let Wrong : Ident → ℕ → ℕ → List ℕ → Type 0 = λ i e l t. IsFaultPast i timeline start stop.prev t e l at reason in
    let fault : Wrong ident (last_end w) (last_start w) (drop (start - floor) log ++ bytes) =
    subst (λ (i : Ident). Wrong i (last_end w) (last_start w) (drop (start - floor) log ++ bytes)) of_log stop.refused.past in
    let here : Wrong ident (last_end w) (last_start w) (drop (start - floor) all) =
    subst (Wrong ident (last_end w) (last_start w)) (sym (drop_more ident timeline rest floor log bytes start on_page first)) fault in
    record {
      first = first_more ident timeline rest floor log bytes start first;
      prev = stop.prev;
      before = stop.before;
      fault = subst (λ (l : ℕ). Wrong ident end l (drop (start - floor) all)) (sym last_is)
          (subst (λ (e : ℕ). Wrong ident e (last_start w) (drop (start - floor) all)) (sym end_is) here);
      unlike = λ above begins. stop.unlike above (sym end_is ∙ begins);
    }

-- ---- what the walker has found

pub records_found : (ident : Ident) (timeline : ℕ → ℕ) (rest floor start end last : ℕ) (log : List ℕ) (w : Walker) → IsSegSize ident.size
    → end ≡ last_end w → last ≡ last_start w → InRecords ident timeline rest floor log start w
    → HasRecords ident timeline rest floor log start end last
records_found ident timeline rest floor start end last log w size_is end_is last_is is =
    let past = drop (start - floor) log in
    let here = subst (λ (i : Ident). IsSegSize i.size) (sym is.of_log) size_is in
    let greatest : IsWholeEnd ident timeline start is.prev past (last_end w) (last_start w) =
    subst (λ (i : Ident). IsWholeEnd i timeline start is.prev past (last_end w) (last_start w)) is.of_log
    (walked_whole w timeline start is.prev past here is.walked) in
    record {
      first = is.first;
      prev = is.prev;
      before = is.before;
      records = subst (λ (i : Ident). IsPrefixOfRecords i timeline start is.prev past) is.of_log (walked_prefix w timeline start is.prev
          past is.walked);
      whole = subst (λ (l : ℕ). IsWholeEnd ident timeline start is.prev past end l) (sym last_is)
          (subst (λ (e : ℕ). IsWholeEnd ident timeline start is.prev past e (last_start w)) (sym end_is) greatest);
    }

-- ---- a stage that stays

-- something is wrong
abbrev pub IsWrong : Stage → Type 0
IsWrong s = ((fault : WalkFault) × (s ≡ stage.BadRest fault))
    ⊎ ((start : ℕ) × (end : ℕ) × (last : ℕ) × (fault : WalkFault) × (s ≡ stage.BadRecord start end last fault))

pub stays_wrong : (ident : Ident) (timeline : ℕ → ℕ) (rest floor : ℕ) (log more : List ℕ) (s : Stage) → IsPage floor → IsWrong s
    → IsAtStage ident timeline rest floor log s → IsAtStage ident timeline rest floor (log ++ more) s
stays_wrong ident timeline rest floor log more s on_page (inl bad) is =
    let here = subst (IsAtStage ident timeline rest floor log) bad.1 is in
    subst (IsAtStage ident timeline rest floor (log ++ more)) (sym bad.1) (bad_rest_more ident timeline rest floor log more bad.0.at bad.0.why
    here)
stays_wrong ident timeline rest floor log more s on_page (inr bad) is =
    let here = subst (IsAtStage ident timeline rest floor log) bad.4 is in
    subst (IsAtStage ident timeline rest floor (log ++ more)) (sym bad.4) (bad_record_more ident timeline rest floor log more bad.0 bad.1 bad.2
    bad.3.at bad.3.why on_page here)

-- ---- the whole

pub judged_on : (old new : LogCheck) (timeline : ℕ → ℕ) (floor : ℕ) (log bytes : List ℕ) → new.ident ≡ old.ident → new.floor ≡ old.floor
    → new.at ≡ old.at + length bytes → HasJudged old timeline floor log
    → IsAtStage old.ident timeline (rest_of old.ident floor (log ++ bytes)) old.floor (log ++ bytes) new.stage
    → HasJudged new timeline floor (log ++ bytes)
judged_on old new timeline floor log bytes ident begins at judged stage =
    let all = log ++ bytes in
    let on = begins ∙ judged.begins in
    let here = subst (λ (f : ℕ). IsAtStage old.ident timeline (rest_of old.ident floor all) f all new.stage) judged.begins stage in
    record {
      size = subst (λ (i : Ident). IsSegSize i.size) (sym ident) judged.size;
      on_page = judged.on_page;
      begins = on;
      past = omega (arith, at, judged.past, length-append log bytes);
      at_stage = subst (λ (i : Ident). IsAtStage i timeline (rest_of i floor all) floor all new.stage) (sym ident) here;
    }

pub judged_new : (ident : Ident) (timeline : ℕ → ℕ) (floor : ℕ) (w : Walker) → IsSegSize ident.size → IsPage floor → identity w ≡ ident
    → Stands w timeline floor 0 []
    → HasJudged (record { ident = ident; floor = floor; at = floor; stage = stage.InRecords floor w }) timeline floor []
judged_new ident timeline floor w size_is on_page of_log stands = record {
  size = size_is;
  on_page = on_page;
  begins = refl;
  past = omega arith;
  at_stage = fresh_records ident timeline (rest_of ident floor []) floor w on_page (rest_none ident floor) of_log stands;
}
