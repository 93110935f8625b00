-- What a written piece of the log makes of it.
use Rattle.std.proofs.Common.{◌≡◌, ℕ, ◌+◌, ◌-◌, ◌^◌, ◌<◌, ◌≤◌, false, None, List, [], ◌∷◌, ◌++◌, length, take, drop, Ok, Err, nat_lt, refl, sym, ap, ◌∙◌, subst, inl, arith, append_assoc, length-append}
use Rattle.std.proofs.lemmas.Bool.{cond-false, le-ltb}
use Rattle.std.proofs.lemmas.List.{drop-append-le, take-append-le}
use Rattle.std.proofs.lemmas.List.Elements.{All-head, All-tail}
use Rattle.repl_control.specs.declared.control.Control.{Control}
use Rattle.repl_control.specs.declared.control.Role.TheVariants.{Primary, Standby}
use Rattle.repl_disk.specs.State.{DiskState}
use Rattle.repl_walk.proofs.Ends.{image_goes_on}
use Rattle.repl_walk.proofs.Timelines.{image_alike}
use Rattle.repl_walk.proofs.Walks.{begun_at_end, walked_prefix}
use Rattle.repl_walk.specs.Timelines.{AreAlike}
use Rattle.repl_walk.specs.Walks.{HasWalked}
use Rattle.repl_lsn.specs.Between.{AreBetween, IsBetween}
use Rattle.repl_lsn.specs.History.{Path}
use Rattle.repl_lsn.specs.Path.{holder, timeline_at}
use Rattle.repl_lsn.specs.declared.history.Part.{Part}
use Rattle.repl_page.specs.declared.ident.Ident.{Ident}
use Rattle.repl_record.specs.Length.{image_end}
use Rattle.repl_record.specs.Log.{IsPrefixOfRecords, IsWholeEnd, RecordEnd}
use Rattle.repl_record.specs.Record.{HeadersAreSpelled, IsImage, start_of, total_length}
use Rattle.repl_record.specs.Walker.{AreOn, Stands, identity, last_end, last_start, position}
use Rattle.repl_record.specs.declared.record.RecordIn.{RecordIn}
use Rattle.repl_record.specs.declared.record.TheConstants.{BODY_LIMIT}
use Rattle.repl_record.specs.declared.walker.Walker.{Walker}
use Rattle.repl_store.specs.Backing.{Backs, Before, Breaks, LeavesOne, State, appended, log, Comes as StoreComes}
use Rattle.repl_store.specs.Head.{Head, Held, IsAt, IsHead, status_of}
use Rattle.repl_store.specs.declared.store.StoreStatus.{StoreStatus}
use Rattle.repl_wal.specs.Holding.{Comes, HeldLog, Holds, Runs, memory_of}
use Rattle.repl_wal.specs.State.{AreRecordsOn, EndsRecord, LogState, appended_log, own_timeline, status_of_log, floor_of, flushed_end, ident_of, last_start as start_kept, role_of, tail_of, timeline_of, whole_end, written_end}
use Rattle.repl_wal.specs.Steps.{Old, Only, Step}
use Rattle.repl_wal.specs.Writing.{Appends, CanAppend, CanReceive, GoesOn, IsReceiveRefusal, IsReceived, Receives, IsAppended, IsAppendRefusal, IsUnlaid}
use Rattle.repl_wal.specs.declared.fault.NodeFault.{NodeFault}
use Rattle.repl_wal.specs.declared.fault.NodeFault.TheVariants as fault
use Rattle.repl_wal.proofs.Ending.{ok_sound, running, same_status}
use Rattle.repl_wal.proofs.Running.{marks, walked_last}

-- ---- timelines

-- past all switch points a position is on the own timeline
own_past : (own : ℕ) (parts : List Part) (least most at : ℕ) → AreBetween least most parts → most ≤ at → holder own parts at ≡ own
own_past own [] least most at are past = refl
own_past own (p ∷ ps) least most at are past =
    let here = All-head (IsBetween least most) p ps are in
    let low : p.switch ≤ at = omega (arith, here.1, past) in
    cond-false (nat_lt at p.switch) p.tli (holder own ps at) (le-ltb at p.switch low)
    ∙ own_past own ps least most at (All-tail (IsBetween least most) p ps are) past

pub own_from : (head : Head) (at : ℕ) → IsHead head → head.control.whole ≤ at → timeline_at head.path at ≡ head.control.tli
own_from head at is past = own_past head.path.own head.path.parents head.size head.control.whole at is.between past ∙ is.own

-- ---- a piece past the written end

-- the log from the whole end on, with the piece
tail_more : (n : LogState) (bytes : List ℕ) → floor_of n ≤ whole_end n → whole_end n ≤ flushed_end n
    → floor_of n + length n.kept.durable.bytes ≡ flushed_end n → tail_of (appended_log n bytes) ≡ tail_of n ++ bytes
tail_more n bytes floor whole counted =
    ap (drop (whole_end n - floor_of n)) (sym (append_assoc n.kept.durable.bytes n.kept.unflushed bytes))
    ∙ drop-append-le (whole_end n - floor_of n) (log n.kept) bytes (omega (
      arith,
      floor,
      whole,
      counted,
      length-append n.kept.durable.bytes n.kept.unflushed,
    ))

-- the log runs on with a walker that has gone through the piece
pub written_runs : (head new : Head) (w next : Walker) (n : LogState) (bytes : List ℕ) → IsHead head → Runs head w n
    → IsAt head new (head.written + length bytes) → identity next ≡ ident_of n
    → HasWalked next (timeline_of n) (whole_end n) (start_kept n) (tail_of n ++ bytes)
    → (role_of n ≡ Primary → last_end next ≡ written_end n + length bytes) → Runs new next (appended_log n bytes)
written_runs head new w next n bytes is runs at of_log walked ends =
    let m = marks head w n is runs in
    let after = appended_log n bytes in
    let tail = tail_more n bytes m.floor m.flushed runs.counted in
    let front : take (flushed_end n - whole_end n) (tail_of n ++ bytes) ≡ take (flushed_end n - whole_end n) (tail_of n) = take-append-le (flushed_end n
    - whole_end n) (tail_of n) bytes (omega (arith, m.counted, m.flushed)) in
    let ends_at : written_end after ≡ written_end n + length bytes = omega (arith, length-append n.kept.unflushed bytes) in
    record {
      size = at.same_size ∙ runs.size;
      control = at.same_control ∙ runs.control;
      path = at.same_path ∙ runs.path;
      written = at.same_end ∙ ap (λ (x : ℕ). x + length bytes) runs.written ∙ sym ends_at;
      counted = runs.counted;
      of_log = of_log;
      walked = subst (HasWalked next (timeline_of n) (whole_end n) (start_kept n)) (sym tail) walked;
      unended = subst (λ (l : List ℕ). IsWholeEnd (ident_of n) (timeline_of n) (whole_end n) (start_kept n) (take (flushed_end n - whole_end n)
          l) (whole_end n) (start_kept n)) (sym tail) (subst (λ (l : List ℕ). IsWholeEnd (ident_of n) (timeline_of n) (whole_end n) (start_kept n) l
          (whole_end n) (start_kept n)) (sym front) runs.unended);
      primary = λ primary. ends primary ∙ sym ends_at;
    }

-- so the call of the store that wrote it leaves the log
pub wrote : {A D : Type 0} (Refuses : NodeFault → Type 0) (Passes : Type 0) (Done : A → LogState → Type 0) (Partly : LogState → Type 0) (a : A)
    (disk new : DiskState) (old : HeldLog D) (now : Held D) (next : Walker) (n : LogState) (bytes : List ℕ)
    → Holds disk old.log n → old.log.stopped ≡ None → IsHead old.log.head → Passes → Done a (appended_log n bytes)
    → IsAt old.log.head now.head (old.log.head.written + length bytes) → now.broken ≡ false → identity next ≡ ident_of n
    → HasWalked next (timeline_of n) (whole_end n) (start_kept n) (tail_of n ++ bytes)
    → (role_of n ≡ Primary → last_end next ≡ written_end n + length bytes)
    → ((s : State) → Backs disk old.log.head s → StoreComes {A = Unit {0}} (Ok tt) disk new now.head (Before s) (appended s bytes) (λ t. t ≡ s))
    → Comes {A = A} (Ok a) disk new (memory_of now next old.log.stopped) n (Step Refuses Passes Done Partly n (Ok a)) (Old n)
wrote {A} {D} Refuses Passes Done Partly a disk new old now next n bytes holds none is passes done at sound of_log walked ends comes =
    let runs = running old n none holds.remembers in
    let size : now.head.size ≡ n.size = at.same_size ∙ runs.2.size in
    record {
      next = appended_log n bytes;
      is = (runs.0, passes, done);
      holds = record {
        remembers = inl (none, runs.0, sound, written_runs old.log.head now.head old.log.walker next n bytes is runs.2 at of_log walked ends);
        backs = λ t b. (comes n.kept (holds.backs t b)).ok;
      };
      moments = λ t b. subst (λ (k : ℕ). LeavesOne disk new k (Old n)) size (comes n.kept (holds.backs t b)).moments;
      failed = λ is. absurd cc;
    }

-- ---- a record

-- what was laid out on the own timeline is the image on the path, and spelled so
pub laid_alike : (n : LogState) (tli at : ℕ) (bytes : List ℕ) → ((page : ℕ) → at ≤ page → timeline_of n page ≡ tli)
    → AreAlike (λ _. tli) (timeline_of n) at (length bytes)
laid_alike n tli at bytes own = λ page is from below. sym (own page from)

pub spelled_alike : (ident : Ident) (n : LogState) (tli total at : ℕ) (bytes : List ℕ) → ((page : ℕ) → at ≤ page → timeline_of n page ≡ tli)
    → HeadersAreSpelled ident (λ _. tli) total at bytes → HeadersAreSpelled ident (timeline_of n) total at bytes
spelled_alike ident n tli total at bytes own spelled = λ page is from below. rw (own page from) (spelled page is from below)

-- a walker that begins after a record's image has gone through the log with it
pub appended_walk : (head : Head) (w next : Walker) (n : LogState) (item : RecordIn) (bytes : List ℕ) → IsHead head → Runs head w n
    → last_end w ≡ written_end n → identity next ≡ ident_of n
    → IsImage (ident_of n) (timeline_of n) (written_end n) (last_start w) item bytes
    → Stands next (timeline_of n) (written_end n + length bytes) (start_of n.size (written_end n)) []
    → HasWalked next (timeline_of n) (whole_end n) (start_kept n) (tail_of n ++ bytes)
appended_walk head w next n item bytes is runs ends of_log image stands =
    let m = marks head w n is runs in
    let ident = ident_of n in
    let tail = tail_of n in
    let whole = whole_end n in
    let at : written_end n ≡ whole + length tail = sym m.counted in
    let more = length-append tail bytes in
    let all : written_end n + length bytes ≡ whole + length (tail ++ bytes) = omega (arith, at, more) in
    let first : RecordEnd ident (timeline_of n) whole (start_kept n) tail (whole + length tail) (last_start w) = subst (λ (e : ℕ). RecordEnd ident
    (timeline_of n) whole (start_kept n) tail e (last_start w)) (ends ∙ at) (subst (λ (i : Ident). RecordEnd i (timeline_of n) whole (start_kept n) tail
    (last_end w) (last_start w)) runs.of_log runs.walked.records) in
    let here : IsImage ident (timeline_of n) (whole + length tail) (last_start w) item bytes = subst (λ (a : ℕ). IsImage ident (timeline_of n) a
    (last_start w) item bytes) at image in
    let goes = image_goes_on ident (timeline_of n) whole (start_kept n) tail bytes (last_start w) item first here in
    let start : start_of n.size (whole + length tail) ≡ start_of n.size (written_end n) = ap (start_of n.size) m.counted in
    let stood : Stands next (timeline_of n) (whole + length (tail ++ bytes)) (start_of n.size (whole + length tail)) [] =
    subst (λ (a : ℕ). Stands next (timeline_of n) a (start_of n.size (whole + length tail)) []) all
    (subst (λ (b : ℕ). Stands next (timeline_of n) (written_end n + length bytes) b []) (sym start) stands) in
    begun_at_end next (timeline_of n) whole (start_kept n) (tail ++ bytes) (start_of n.size (whole + length tail)) m.eight
    (subst (λ (i : Ident). RecordEnd i (timeline_of n) whole (start_kept n) (tail ++ bytes) (whole + length (tail ++ bytes)) (start_of n.size
    (whole + length tail))) (sym of_log) goes) stood

-- an append that laid the record out and wrote it
pub appended_comes : {D : Type 0} (disk new : DiskState) (old : HeldLog D) (now : Held D) (next : Walker) (n : LogState) (item : RecordIn)
    (status : StoreStatus) (prev start end : ℕ) (bytes given : List ℕ) → Holds disk old.log n → old.log.stopped ≡ None → IsHead old.log.head
    → status ≡ status_of old.log.head → role_of n ≡ Primary → prev ≡ last_start old.log.walker
    → IsImage status.ident (λ _. status.tli) status.written prev item bytes
    → HeadersAreSpelled status.ident (λ _. status.tli) (total_length item) status.written bytes
    → start ≡ start_of status.ident.size status.written → end ≡ status.written + length bytes → length item.body ≤ BODY_LIMIT
    → image_end status.ident.size status.written (length item.body) ≤ 2 ^ 62 → ((timeline : ℕ → ℕ) → Stands next timeline end start [])
    → identity next ≡ status.ident → given ≡ bytes → IsAt old.log.head now.head (old.log.head.written + length given)
    → Breaks {A = Unit {0}} (Ok tt) old.log.failed now.broken
    → ((s : State) → Backs disk old.log.head s → StoreComes {A = Unit {0}} (Ok tt) disk new now.head (Before s) (appended s given) (λ t. t ≡ s))
    → Comes {A = ℕ} (Ok end) disk new (memory_of now next old.log.stopped) n (Appends n item (Ok end)) (Old n)
appended_comes {D} disk new old now next n item status prev start end bytes given holds none is told primary prev_is image spelled start_is end_is
    short fits stands of_log same at breaks comes =
    let runs = running old n none holds.remembers in
    let head = old.log.head in
    let w = old.log.walker in
    let m = marks head w n is runs.2 in
    let as_log : status ≡ status_of_log n = told ∙ same_status head w n runs.2 in
    let tli = own_timeline n in
    let past : head.control.whole ≡ whole_end n = ap (λ (k : Control). k.whole) runs.2.control in
    let own : (page : ℕ) → written_end n ≤ page → timeline_of n page ≡ tli = λ page after.
    ap (λ (p : Path). timeline_at p page) (sym runs.2.path)
    ∙ own_from head page is (omega (arith, past, m.flushed, after))
    ∙ ap (λ (k : Control). k.tli) runs.2.control in
    let laid : IsImage (ident_of n) (λ _. tli) (written_end n) (last_start w) item bytes = subst (λ (p : ℕ). IsImage (ident_of n) (λ _. tli)
    (written_end n) p item bytes) prev_is (subst (λ (s : StoreStatus). IsImage s.ident (λ _. s.tli) s.written prev item bytes) as_log image) in
    let put : IsImage (ident_of n) (timeline_of n) (written_end n) (last_start w) item bytes = image_alike (ident_of n) (λ _. tli) (timeline_of n)
    (written_end n) (last_start w) item bytes (laid_alike n tli (written_end n) bytes own) laid in
    let headed : HeadersAreSpelled (ident_of n) (timeline_of n) (total_length item) (written_end n) bytes = spelled_alike (ident_of n) n tli
    (total_length item) (written_end n) bytes own (subst (λ (s : StoreStatus). HeadersAreSpelled s.ident (λ _. s.tli) (total_length item) s.written
    bytes) as_log spelled) in
    let starts : start ≡ start_of n.size (written_end n) = start_is ∙ ap (λ (s : StoreStatus). start_of s.ident.size s.written) as_log in
    let ends : end ≡ written_end n + length bytes = end_is ∙ ap (λ (s : StoreStatus). s.written + length bytes) as_log in
    let room : image_end n.size (written_end n) (length item.body) ≤ 2 ^ 62 = subst (λ (s : StoreStatus). image_end s.ident.size s.written
    (length item.body) ≤ 2 ^ 62) as_log fits in
    let identified : identity next ≡ ident_of n = of_log ∙ ap (λ (s : StoreStatus). s.ident) as_log in
    let last : last_end w ≡ written_end n = runs.2.primary primary in
    let stood : Stands next (timeline_of n) (written_end n + length bytes) (start_of n.size (written_end n)) [] =
    subst (λ (e : ℕ). Stands next (timeline_of n) e (start_of n.size (written_end n)) []) ends
    (subst (λ (b : ℕ). Stands next (timeline_of n) end b []) starts (stands (timeline_of n))) in
    let walked = appended_walk head w next n item bytes is runs.2 last identified put stood in
    let past_last : EndsRecord n (written_end n) (last_start w) = subst (λ (e : ℕ). EndsRecord n e (last_start w)) last
    (walked_last head w n is runs.2).is_end in
    let Given : List ℕ → Type 0 = λ l.
    IsAt head now.head (head.written + length l)
    → ((s : State) → Backs disk head s → StoreComes {A = Unit {0}} (Ok tt) disk new now.head (Before s) (appended s l) (λ t. t ≡ s))
    → Comes {A = ℕ} (Ok end) disk new (memory_of now next old.log.stopped) n (Appends n item (Ok end)) (Old n) in
    let here : Given bytes = λ at comes. wrote (IsAppendRefusal n item) (CanAppend n item) (IsAppended n item) (Only n) end disk new old now next n
    bytes holds none is (primary, short, room) (record {
      bytes = bytes;
      last = last_start w;
      past = past_last;
      image = put;
      spelled = headed;
      ends = ends;
      becomes = refl;
    }) at (ok_sound tt old.log.failed now.broken runs.1 breaks) identified walked (λ _. stood.keeps.begins) comes in
    subst Given (sym same) here at comes

-- why a record was not laid out is why it is not appended
pub unlaid : (n : LogState) (item : RecordIn) (status : StoreStatus) (e : NodeFault) → status ≡ status_of_log n → n.broken ≡ false
    → role_of n ≡ Primary → IsUnlaid status item e → Appends n item (Err e) n × (e ≡ fault.DiskFault → ⊥)
unlaid n item status fault.Memory told sound primary is = ((sound, refl), λ no. absurd cc)
unlaid n item status (fault.TooLong len) told sound primary is = ((sound, (primary, is.0, is.1), refl), λ no. absurd cc)
unlaid n item status fault.LogFull told sound primary is = (
  (sound, (primary, is.0, subst (λ (s : StoreStatus). 2 ^ 62 < image_end s.ident.size s.written (length item.body)) told is.1), refl),
  λ no. absurd cc,
)
unlaid n item status e told sound primary is = absurd is

-- ---- bytes of another node's log

-- the pages that begin in a piece past the written end are on the own timeline
pub on_own : (head : Head) (w : Walker) (n : LogState) (tli count : ℕ) → IsHead head → Runs head w n → tli ≡ own_timeline n
    → AreOn (timeline_of n) tli (position w) count
on_own head w n tli count is runs own page is_page from below =
    let m = marks head w n is runs in
    let past : head.control.whole ≡ whole_end n = ap (λ (k : Control). k.whole) runs.control in
    ap (λ (p : Path). timeline_at p page) (sym runs.path)
    ∙ own_from head page is (omega (arith, past, m.flushed, m.position, from))
    ∙ ap (λ (k : Control). k.tli) runs.control
    ∙ sym own

pub still_records : (w next : Walker) (n : LogState) (bytes : List ℕ) → identity next ≡ ident_of n
    → HasWalked next (timeline_of n) (whole_end n) (start_kept n) (tail_of n ++ bytes) → AreRecordsOn n bytes
still_records w next n bytes of_log walked = subst (λ (i : Ident). IsPrefixOfRecords i (timeline_of n) (whole_end n) (start_kept n) (tail_of n
    ++ bytes)) of_log (walked_prefix next (timeline_of n) (whole_end n) (start_kept n) (tail_of n ++ bytes) walked)

pub received_comes : {D : Type 0} (disk new : DiskState) (old : HeldLog D) (now : Held D) (next : Walker) (n : LogState) (tli start end : ℕ)
    (bytes : List ℕ) → Holds disk old.log n → old.log.stopped ≡ None → IsHead old.log.head → GoesOn n tli start → start + length bytes ≤ 2 ^ 62
    → end ≡ start + length bytes → identity next ≡ identity old.log.walker
    → HasWalked next (timeline_of n) (whole_end n) (start_kept n) (tail_of n ++ bytes)
    → IsAt old.log.head now.head (old.log.head.written + length bytes) → Breaks {A = Unit {0}} (Ok tt) old.log.failed now.broken
    → ((s : State) → Backs disk old.log.head s → StoreComes {A = Unit {0}} (Ok tt) disk new now.head (Before s) (appended s bytes) (λ t. t ≡ s))
    → Comes {A = ℕ} (Ok end) disk new (memory_of now next old.log.stopped) n (Receives n tli start bytes (Ok end)) (Old n)
received_comes {D} disk new old now next n tli start end bytes holds none is goes room ends same walked at breaks comes =
    let runs = running old n none holds.remembers in
    let of_log : identity next ≡ ident_of n = same ∙ runs.2.of_log in
    let end_is : end ≡ written_end (appended_log n bytes) = omega (arith, ends, goes.at_end, length-append n.kept.unflushed bytes) in
    wrote (IsReceiveRefusal n tli start bytes) (CanReceive n tli start bytes) (IsReceived n bytes) (Only n) end disk new old now next n bytes holds
    none is (goes, room, still_records old.log.walker next n bytes of_log walked) (end_is, refl) at
    (ok_sound tt old.log.failed now.broken runs.1 breaks)
    of_log walked (λ primary. (let clash : Standby ≡ Primary = sym goes.standby ∙ primary in absurd cc)) comes
