-- Where no wait is due after a change, the tickets stay as it left them: so it is after questions and what standbys tell of their
-- transactions.
use Rattle.std.proofs.Common.{◌≡◌, ℕ, zero, suc, ◌<◌, Bool, true, false, cond, not, ◌==◌, if◌then◌else◌, List, [], ◌∷◌, ◌++◌, map, filter, All, AllPairs, Some, Result, Ok, Err, refl, sym, ap, subst, ◌∙◌, append-nil, arith}
use Rattle.std.specs.List.{AllZip}
use Rattle.std.proofs.lemmas.Bool.{ne_eqb, eqb-true}
use Rattle.std.proofs.lemmas.List.Elements.{All-nil, All-cons, All-head, All-tail, All-append, All-filter, All-weaker, filter-append}
use Rattle.repl_names.specs.Quorum.{Met}
use Rattle.repl_names.specs.StandbyList.{Listing}
use Rattle.repl_sync.specs.declared.certificate.Certificate.{Certificate}
use Rattle.repl_sync.specs.declared.certificate.Look.{Look}
use Rattle.repl_sync.specs.declared.certificate.Look.TheVariants as look
use Rattle.repl_sync.specs.declared.fault.SyncFault.{SyncFault}
use Rattle.repl_sync.specs.declared.session.FeedbackValue.{FeedbackValue}
use Rattle.repl_sync.specs.State.{Session, State, Ticket, Fate, IsDue, IsState, Prepared, Waiting, Released, Cancelled, changed, fate_of, is_numbered, is_ticket, standbys, standing, tells, without}
use Rattle.repl_sync.specs.Sync.{Becomes, Releases, Settles, SyncStep, Feedback, Prepare, ToLook, Looked, done, given}

-- ---- where none is due, none is released

fate_stays : (list : Listing) (ss : List Session) (f g : Fate) → ¬ IsDue list ss f → Becomes list ss f g → g ≡ f
fate_stays list ss (Waiting end m) (Waiting later mode) missed b = ap (λ e. Waiting e mode) b.0 ∙ ap (Waiting end) b.1
fate_stays list ss (Waiting end m) (Released c) missed b = absurd (missed b.0)
fate_stays list ss (Waiting end m) Prepared missed b = absurd b
fate_stays list ss (Waiting end m) Cancelled missed b = absurd b
fate_stays list ss Prepared g missed b = b
fate_stays list ss (Released c) g missed b = b
fate_stays list ss Cancelled g missed b = b

one_stays : (list : Listing) (ss : List Session) (x u : Ticket) → ¬ IsDue list ss x.fate → Settles list ss x u → u ≡ x
one_stays list ss x u missed s =
    ap (λ (n : ℕ). record { number = n; fate = u.fate }) s.number
    ∙ ap (λ (f : Fate). record { number = x.number; fate = f }) (fate_stays list ss x.fate u.fate missed s.fate)

abbrev NoneIsDue : Listing → List Session → List Ticket → Type 0
NoneIsDue list ss ts = All (λ t. ¬ IsDue list ss t.fate) ts

tickets_stay : (list : Listing) (ss : List Session) (ts us : List Ticket) → NoneIsDue list ss ts → AllZip (Settles list ss) ts us → us ≡ ts
tickets_stay list ss [] [] none zip = refl
tickets_stay list ss [] (u ∷ us) none zip = absurd zip
tickets_stay list ss (x ∷ xs) [] none zip = absurd zip
tickets_stay list ss (x ∷ xs) (u ∷ us) none zip =
    let P : Ticket → Type 0 = λ t. ¬ IsDue list ss t.fate in
    ap (λ (t : Ticket). t ∷ us) (one_stays list ss x u (All-head P x xs none) zip.0)
    ∙ ap (λ (ts : List Ticket). x ∷ ts) (tickets_stay list ss xs us (All-tail P x xs none) zip.1)

-- the change came to this state
settle : (made mid new : State) → mid ≡ made → NoneIsDue made.list made.sessions made.tickets → Releases mid new → new.tickets ≡ made.tickets
settle made mid new is none r =
    let settled : Releases made new = subst (λ (s : State). Releases s new) is r in
    tickets_stay made.list made.sessions made.tickets new.tickets none settled.tickets

-- ---- what a standby tells of its transactions

told_one : (list : Listing) (b c : Bool) (value : FeedbackValue) (s : Session) (r t : List Session) → (if b then tells value s else s).streaming ≡ c
    → map (standing list) r ≡ map (standing list) t
    → map (standing list) (cond c ((if b then tells value s else s) ∷ r) r) ≡ map (standing list) (cond c (s ∷ t) t)
told_one list true true value s r t is rest = ap (λ cs. standing list s ∷ cs) rest
told_one list false true value s r t is rest = ap (λ cs. standing list s ∷ cs) rest
told_one list true false value s r t is rest = rest
told_one list false false value s r t is rest = rest

told_streams : (b : Bool) (value : FeedbackValue) (s : Session) → (if b then tells value s else s).streaming ≡ s.streaming
told_streams true value s = refl
told_streams false value s = refl

same_standbys : (list : Listing) (n : ℕ) (value : FeedbackValue) (ss : List Session)
    → standbys list (changed n (tells value) ss) ≡ standbys list ss
same_standbys list n value [] = refl
same_standbys list n value (s ∷ ss) =
    let new : Session = if is_numbered n s then tells value s else s in
    let r = filter (λ (x : Session). x.streaming) (changed n (tells value) ss) in
    ap (λ (c : Bool). map (standing list) (cond c (new ∷ r) r)) (told_streams (is_numbered n s) value s)
    ∙ told_one list (is_numbered n s) s.streaming value s r (filter (λ (x : Session). x.streaming) ss) (told_streams (is_numbered n s) value s)
    (same_standbys list n value ss)

due_as : (list : Listing) (ss us : List Session) (f : Fate) → standbys list ss ≡ standbys list us → IsDue list ss f → IsDue list us f
due_as list ss us (Waiting end m) same due = subst (λ cs. Met list cs m end) same due
due_as list ss us Prepared same due = absurd due
due_as list ss us (Released c) same due = absurd due
due_as list ss us Cancelled same due = absurd due

pub tells_quietly : (old new : State) (n : ℕ) (value : FeedbackValue) (result : Result (Unit {0}) SyncFault) → IsState old
    → SyncStep old (Feedback n value) (done result) new → new.tickets ≡ old.tickets
tells_quietly old new n value (Err fault) is h = ap (λ (s : State). s.tickets) h.1
tells_quietly old new n value (Ok nothing) is h =
    let told = changed n (tells value) old.sessions in
    settle (record old { sessions = told }) h.0 new h.1.1
    (All-weaker (λ t. ¬ IsDue old.list old.sessions t.fate) (λ t. ¬ IsDue old.list told t.fate)
    (λ t missed due. missed (due_as old.list told old.sessions t.fate (same_standbys old.list n value old.sessions) due)) old.tickets is.waits) h.2

-- ---- a ticket that is given

pub gives_quietly : (p : Fate → Bool) (old new : State) (result : Result ℕ SyncFault) → p Prepared ≡ false → IsState old
    → SyncStep old Prepare (given result) new
    → filter (λ (t : Ticket). p t.fate) new.tickets ≡ filter (λ (t : Ticket). p t.fate) old.tickets
gives_quietly p old new (Err fault) passed is h = ap (λ (s : State). filter (λ (t : Ticket). p t.fate) s.tickets) h.1
gives_quietly p old new (Ok n) passed is h =
    let one : Ticket = record { number = n; fate = Prepared } in
    let Missed : Ticket → Type 0 = λ t. ¬ IsDue old.list old.sessions t.fate in
    let q : Ticket → Bool = λ t. p t.fate in
    let stayed : new.tickets ≡ old.tickets ++ one ∷ [] =
    settle (record old { tickets = old.tickets ++ one ∷ []; last = n }) h.0 new h.1.2
    (All-append Missed old.tickets (one ∷ []) is.waits (All-cons Missed one [] (λ due. due) (All-nil Missed))) h.2 in
    ap (filter q) stayed
    ∙ filter-append q old.tickets (one ∷ [])
    ∙ ap (λ b. filter q old.tickets ++ cond b (one ∷ []) []) passed
    ∙ append-nil (filter q old.tickets)

-- ---- a ticket that is handed back

none_gone : (n : ℕ) (ts : List Ticket) → All (λ t. n < t.number) ts → without n ts ≡ ts
none_gone n [] above = refl
none_gone n (x ∷ xs) above =
    let P : Ticket → Type 0 = λ t. n < t.number in
    let higher : n < x.number = All-head P x xs above in
    let other : (x.number == n) ≡ false = ne_eqb x.number n (λ same. absurd (omega (arith, higher, same))) in
    ap (λ b. cond (not b) (x ∷ without n xs) (without n xs)) other ∙ ap (λ (ts : List Ticket). x ∷ ts) (none_gone n xs (All-tail P x xs above))

gone_one : (p : Fate → Bool) (b : Bool) (n : ℕ) (x : Ticket) (xs : List Ticket) (f : Fate) → (x.number == n) ≡ b → p f ≡ false
    → (if b then Some x.fate else fate_of xs n) ≡ Some f → All (λ t. x.number < t.number) xs
    → (fate_of xs n ≡ Some f → filter (λ (t : Ticket). p t.fate) (without n xs) ≡ filter (λ (t : Ticket). p t.fate) xs)
    → filter (λ (t : Ticket). p t.fate) (cond (not b) (x ∷ without n xs) (without n xs)) ≡ filter (λ (t : Ticket). p t.fate) (x ∷ xs)
gone_one p true n x xs f is passed found above rest =
    let q : Ticket → Bool = λ t. p t.fate in
    let same : x.fate ≡ f = cc in
    let here : p x.fate ≡ false = ap p same ∙ passed in
    ap (filter q) (none_gone n xs (subst (λ k. All (λ t. k < t.number) xs) (eqb-true x.number n is) above))
    ∙ sym (ap (λ b. cond b (x ∷ filter q xs) (filter q xs)) here)
gone_one p false n x xs f is passed found above rest =
    let q : Ticket → Bool = λ t. p t.fate in
    ap (λ (l : List Ticket). cond (p x.fate) (x ∷ l) l) (rest found)

gone_quietly : (p : Fate → Bool) (n : ℕ) (ts : List Ticket) (f : Fate) → p f ≡ false → AllPairs (λ t u. t.number < u.number) ts
    → fate_of ts n ≡ Some f → filter (λ (t : Ticket). p t.fate) (without n ts) ≡ filter (λ (t : Ticket). p t.fate) ts
gone_quietly p n [] f passed turn found = refl
gone_quietly p n (x ∷ xs) f passed turn found = gone_one p (x.number == n) n x xs f refl passed found
    (λ k d within. turn zero (suc k) d (omega arith) (omega arith))
    (gone_quietly p n xs f passed (λ i j d below within. turn (suc i) (suc j) d (omega arith) (omega arith)))

pub looks_quietly : (p : Fate → Bool) (old new : State) (n : ℕ) (answer : Look) → p Prepared ≡ false → p Cancelled ≡ false
    → ((c : Certificate) → p (Released c) ≡ false) → IsState old → SyncStep old (ToLook n) (Looked answer) new
    → filter (λ (t : Ticket). p t.fate) new.tickets ≡ filter (λ (t : Ticket). p t.fate) old.tickets
looks_quietly p old new n look.NotYet prepared cancelled released is h =
    ap (filter (λ (t : Ticket). p t.fate)) (settle old h.0 new h.1.1 is.waits h.2)
looks_quietly p old new n look.Unknown prepared cancelled released is h =
    ap (filter (λ (t : Ticket). p t.fate)) (settle old h.0 new h.1.1 is.waits h.2)
looks_quietly p old new n (look.Released c) prepared cancelled released is h =
    let Missed : Ticket → Type 0 = λ t. ¬ IsDue old.list old.sessions t.fate in
    ap (filter (λ (t : Ticket). p t.fate)) (settle (record old { tickets = without n old.tickets }) h.0 new h.1.1
    (All-filter (λ t. not (is_ticket n t)) Missed old.tickets is.waits) h.2)
    ∙ gone_quietly p n old.tickets (Released c) (released c) is.in_turn h.1.0
looks_quietly p old new n look.Cancelled prepared cancelled released is h =
    let Missed : Ticket → Type 0 = λ t. ¬ IsDue old.list old.sessions t.fate in
    ap (filter (λ (t : Ticket). p t.fate)) (settle (record old { tickets = without n old.tickets }) h.0 new h.1.1
    (All-filter (λ t. not (is_ticket n t)) Missed old.tickets is.waits) h.2)
    ∙ gone_quietly p n old.tickets Cancelled cancelled is.in_turn h.1.0
