-- Which calls complete a commit.
use Rattle.std.proofs.Common.{◌≡◌, ◌≢◌, ◌⊎◌, ℕ, List, [], ◌∷◌, ◌++◌, inl, inr, refl, sym, ap, ◌∙◌, subst}
use Rattle.std.specs.Prelude.{Bool, true, false, Option, Some, None, Result, Ok, Err}
use Rattle.repl_hub.specs.Commit.{Answer, AreBack, AreFlush, AreLooks, AreRefused, AreVain, Commit, Completes, IsCancelled, IsRefused, acked, append_call, flush_call, is_flushed_at, looked, looks, mode_of, of_node, of_prepare, prepare_call, ticket_calls, wait_call}
use Rattle.repl_hub.specs.Pass.{Call}
use Rattle.repl_hub.specs.declared.commit.CommitFault.{CommitFault}
use Rattle.repl_hub.specs.declared.commit.CommitFault.TheVariants as commit
use Rattle.repl_hub.specs.declared.commit.Waiter.{Waiter}
use Rattle.repl_hub.specs.declared.reply.WaitFault.{WaitFault}
use Rattle.repl_hub.specs.declared.reply.WaitFault.TheVariants as wait
use Rattle.repl_names.specs.Setting.{setting_mode}
use Rattle.repl_names.specs.declared.quorum.Mode.{Mode}
use Rattle.repl_names.specs.declared.setting.Setting.{Setting}
use Rattle.repl_names.specs.declared.setting.Setting.TheVariants as setting
use Rattle.repl_record.specs.declared.record.RecordIn.{RecordIn}
use Rattle.repl_sync.specs.declared.certificate.Look.{Look}
use Rattle.repl_sync.specs.declared.certificate.Look.TheVariants as look
use Rattle.repl_sync.specs.declared.fault.SyncFault.{SyncFault}
use Rattle.repl_sync.specs.declared.fault.SyncFault.TheVariants as sync
use Rattle.repl_wal.specs.declared.fault.NodeFault.{NodeFault}
use Rattle.repl_wal.specs.declared.fault.NodeFault.TheVariants as node

-- ---- refusals

refuses_node : (item : RecordIn) (at : Setting) (calls : List Call) (fault : NodeFault) → IsRefused item at calls (of_node fault)
    → Commit item at calls (Err (of_node fault))
refuses_node item at calls node.Broken is = is
refuses_node item at calls node.NotPrimary is = is
refuses_node item at calls (node.TooLong len) is = is
refuses_node item at calls node.LogFull is = is
refuses_node item at calls node.Memory is = is
refuses_node item at calls other is = is

refuses_prepare : (item : RecordIn) (at : Setting) (calls : List Call) (fault : SyncFault) → IsRefused item at calls (of_prepare fault)
    → Commit item at calls (Err (of_prepare fault))
refuses_prepare item at calls sync.Memory is = is
refuses_prepare item at calls sync.NoTicketLeft is = is
refuses_prepare item at calls sync.Known is = is
refuses_prepare item at calls sync.Unknown is = is

-- no ticket is given
pub unprepared : (mode : Mode) (item : RecordIn) (at : Setting) (result : Result ℕ SyncFault) (fault : SyncFault) (answer : CommitFault)
    → setting_mode at ≡ Some mode → result ≡ Err fault → answer ≡ of_prepare fault → Commit item at (prepare_call result ∷ []) (Err answer)
unprepared mode item at result fault answer who is says =
    subst (λ r. Commit item at (prepare_call r ∷ []) (Err answer)) (sym is)
    (subst (λ a. Commit item at (prepare_call (Err fault) ∷ []) (Err a)) (sym says)
    (refuses_prepare item at (prepare_call (Err fault) ∷ []) fault
    (inl (record { mode = mode; somebody = who; fault = fault; made = refl; is = refl }))))

-- the log refuses the record
unwritten : (waiter : Option Waiter) (item : RecordIn) (at : Setting) (fault : NodeFault) (tried back : List Call) (answer : Answer)
    → setting_mode at ≡ mode_of waiter → AreRefused item (is_flushed_at at) fault tried → AreBack waiter back → answer ≡ Err (of_node fault)
    → Commit item at (ticket_calls waiter ++ (tried ++ back)) answer
unwritten waiter item at fault tried back answer who refused handed says =
    let calls = ticket_calls waiter ++ (tried ++ back) in
    subst (Commit item at calls) (sym says) (refuses_node item at calls fault (inr (record {
      waiter = waiter;
      who = who;
      fault = fault;
      tried = tried;
      refused = refused;
      back = back;
      handed = handed;
      made = refl;
      is = refl;
    })))

-- ---- after the record

-- only `off` flushes nothing, and then nobody is waited for
alone_at : (at : Setting) (waiter : Option Waiter) → setting_mode at ≡ mode_of waiter → is_flushed_at at ≡ false → waiter ≡ None
alone_at setting.Off None who off = refl
alone_at setting.Off (Some w) who off = absurd cc
alone_at setting.Local waiter who off = absurd cc
alone_at setting.RemoteWrite waiter who off = absurd cc
alone_at setting.On waiter who off = absurd cc
alone_at setting.RemoteApply waiter who off = absurd cc

module _ (waiter : Option Waiter) (item : RecordIn) (answer : Answer) where
  pub not_added : (flushes : Bool) (result : Result ℕ NodeFault) (fault : NodeFault) → result ≡ Err fault → answer ≡ Err (of_node fault)
      → (calls : List Call) → AreBack waiter calls → Completes waiter flushes item [] answer (append_call item result ∷ calls)
  not_added flushes result fault is says calls back at who flush =
      subst (λ r. Commit item at (ticket_calls waiter ++ append_call item r ∷ calls) answer) (sym is)
      (unwritten waiter item at fault (append_call item (Err fault) ∷ []) calls answer who (inl refl) back says)

  pub not_flushed : (end : ℕ) (result : Result ℕ NodeFault) (fault : NodeFault) → result ≡ Err fault → answer ≡ Err (of_node fault)
      → (calls : List Call) → AreBack waiter calls → Completes waiter true item (append_call item (Ok end) ∷ []) answer (flush_call result ∷ calls)
  not_flushed end result fault is says calls back at who flush =
      subst (λ r. Commit item at (ticket_calls waiter ++ append_call item (Ok end) ∷ flush_call r ∷ calls) answer) (sym is)
      (unwritten waiter item at fault (append_call item (Ok end) ∷ flush_call (Err fault) ∷ []) calls answer who (inr (flush, (end, refl))) back says)

  pub then_flushes : (flushes : Bool) (result : Result ℕ NodeFault) (end : ℕ) → result ≡ Ok end → flushes ≡ true → (calls : List Call)
      → Completes waiter true item (append_call item (Ok end) ∷ []) answer calls
      → Completes waiter flushes item [] answer (append_call item result ∷ calls)
  then_flushes flushes result end is asked calls rest at who flush =
      subst (λ r. Commit item at (ticket_calls waiter ++ append_call item r ∷ calls) answer) (sym is) (rest at who (flush ∙ asked))

  pub then_waits : (end : ℕ) (result : Result ℕ NodeFault) (w : Waiter) (flushed : ℕ) → result ≡ Ok flushed → waiter ≡ Some w → (calls : List Call)
      → Completes (Some w) true item (append_call item (Ok end) ∷ flush_call (Ok flushed) ∷ []) answer calls
      → Completes waiter true item (append_call item (Ok end) ∷ []) answer (flush_call result ∷ calls)
  then_waits end result w flushed is who calls rest =
      subst (λ v. Completes v true item (append_call item (Ok end) ∷ []) answer (flush_call result ∷ calls)) (sym who)
      (subst (λ r. Completes (Some w) true item (append_call item (Ok end) ∷ []) answer (flush_call r ∷ calls)) (sym is) rest)

pub only_added : (waiter : Option Waiter) (item : RecordIn) (flushes : Bool) (result : Result ℕ NodeFault) (end : ℕ) → result ≡ Ok end
    → flushes ≡ false → Completes waiter flushes item [] (acked end None) (append_call item result ∷ [])
only_added waiter item flushes result end is asked at who flush =
    let off : is_flushed_at at ≡ false = flush ∙ asked in
    let alone : waiter ≡ None = alone_at at waiter who off in
    subst (λ r. Commit item at (ticket_calls waiter ++ append_call item r ∷ []) (acked end None)) (sym is)
    (subst (λ v. Commit item at (ticket_calls v ++ append_call item (Ok end) ∷ []) (acked end None)) (sym alone) (record {
      nobody = who ∙ ap mode_of alone;
      flush = [];
      flushes = subst (λ b. AreFlush b []) (sym off) refl;
      made = refl;
    }))

pub only_flushed : (waiter : Option Waiter) (item : RecordIn) (end : ℕ) (result : Result ℕ NodeFault) (flushed : ℕ) → result ≡ Ok flushed
    → waiter ≡ None → Completes waiter true item (append_call item (Ok end) ∷ []) (acked end None) (flush_call result ∷ [])
only_flushed waiter item end result flushed is alone at who flush =
    subst (λ r. Commit item at (ticket_calls waiter ++ append_call item (Ok end) ∷ flush_call r ∷ []) (acked end None)) (sym is)
    (subst (λ v. Commit item at (ticket_calls v ++ append_call item (Ok end) ∷ flush_call (Ok flushed) ∷ []) (acked end None)) (sym alone) (record {
      nobody = who ∙ ap mode_of alone;
      flush = flush_call (Ok flushed) ∷ [];
      flushes = subst (λ b. AreFlush b (flush_call (Ok flushed) ∷ [])) (sym flush) (flushed, refl);
      made = refl;
    }))

-- ---- waiting

abbrev Waits : Waiter → ℕ → RecordIn → ℕ → Answer → List Call → Type 0
Waits w end item flushed answer calls = Completes (Some w) true item (append_call item (Ok end) ∷ flush_call (Ok flushed) ∷ []) answer calls

-- the ticket is none that may wait
pub not_waited : (w : Waiter) (end : ℕ) (result : Result (Unit {0}) WaitFault) (fault : WaitFault) → result ≡ Err fault → fault ≡ wait.Unknown
    → (item : RecordIn) (flushed : ℕ) → Waits w end item flushed (Err (commit.Cancelled end)) (wait_call w end result ∷ [])
not_waited w end result fault is which item flushed at who flush =
    subst (λ r. IsCancelled item at (ticket_calls (Some w) ++ append_call item (Ok end) ∷ flush_call (Ok flushed) ∷ wait_call w end r ∷ []) end)
    (sym (is ∙ ap Err which)) (record {
      waiter = w;
      somebody = who;
      flushed = flushed;
      waits = Err wait.Unknown;
      rest = [];
      vain = refl;
      made = refl;
    })

-- it is looked at
looked_at : (w : Waiter) (end : ℕ) (reply : Result (Unit {0}) WaitFault) (last : Look) → reply ≢ Err wait.Unknown
    → ((calls : List Call) (times : ℕ) (last : Look) → (last ≡ look.Cancelled) ⊎ (last ≡ look.Unknown) → calls ≡ looks w.ticket times last
    → AreVain w.ticket reply calls)
    → (item : RecordIn) (flushed : ℕ) (calls : List Call) → AreLooks w.ticket last calls
    → Waits w end item flushed (looked end last) (wait_call w end reply ∷ calls)
looked_at w end reply (look.Released proof) known vain item flushed calls seen at who flush = record {
  waiter = w;
  somebody = who;
  flushed = flushed;
  waits = reply;
  known = known;
  times = seen.1.0;
  made = ap (λ l. ticket_calls (Some w) ++ append_call item (Ok end) ∷ flush_call (Ok flushed) ∷ wait_call w end reply ∷ l) seen.1.1;
}
looked_at w end reply look.Cancelled known vain item flushed calls seen at who flush = record {
  waiter = w;
  somebody = who;
  flushed = flushed;
  waits = reply;
  rest = calls;
  vain = vain calls seen.1.0 look.Cancelled (inl refl) seen.1.1;
  made = refl;
}
looked_at w end reply look.Unknown known vain item flushed calls seen at who flush = record {
  waiter = w;
  somebody = who;
  flushed = flushed;
  waits = reply;
  rest = calls;
  vain = vain calls seen.1.0 look.Unknown (inr refl) seen.1.1;
  made = refl;
}
looked_at w end reply look.NotYet known vain item flushed calls seen at who flush = absurd (seen.0 refl)

module _ (w : Waiter) (end : ℕ) (result : Result (Unit {0}) WaitFault) (last : Look) (answer : Answer) (says : answer ≡ looked end last) where
  pub waited : (x : Unit {0}) → result ≡ Ok x → (calls : List Call) → AreLooks w.ticket last calls → (item : RecordIn) (flushed : ℕ)
      → Waits w end item flushed answer (wait_call w end result ∷ calls)
  waited x is calls seen item flushed =
      subst (λ a. Waits w end item flushed a (wait_call w end result ∷ calls)) (sym says)
      (subst (λ r. Waits w end item flushed (looked end last) (wait_call w end r ∷ calls)) (sym is)
      (looked_at w end (Ok x) last (λ e. absurd (cc e)) (λ calls times last how are. (times, last, how, are)) item flushed calls seen))

  pub waited_past : (fault : WaitFault) (flushed_end : ℕ) → result ≡ Err fault → fault ≡ wait.NotFlushed flushed_end → (calls : List Call)
      → AreLooks w.ticket last calls → (item : RecordIn) (flushed : ℕ) → Waits w end item flushed answer (wait_call w end result ∷ calls)
  waited_past fault flushed_end is which calls seen item flushed =
      subst (λ a. Waits w end item flushed a (wait_call w end result ∷ calls)) (sym says)
      (subst (λ r. Waits w end item flushed (looked end last) (wait_call w end r ∷ calls)) (sym (is ∙ ap Err which))
      (looked_at w end (Err (wait.NotFlushed flushed_end)) last (λ e. absurd (cc e)) (λ calls times last how are. (times, last, how, are))
      item flushed calls seen))

-- ---- the whole

-- all is flushed but at `off`
pub flushed_but_off : (at : Setting) → at ≢ setting.Off → is_flushed_at at ≡ true
flushed_but_off setting.RemoteApply other = refl
flushed_but_off setting.On other = refl
flushed_but_off setting.RemoteWrite other = refl
flushed_but_off setting.Local other = refl
flushed_but_off setting.Off other = absurd (other refl)

-- and so where standbys are waited for
pub flushed_where : (at : Setting) (mode : Mode) → setting_mode at ≡ Some mode → is_flushed_at at ≡ true
flushed_where setting.RemoteApply mode is = refl
flushed_where setting.On mode is = refl
flushed_where setting.RemoteWrite mode is = refl
flushed_where setting.Local mode is = absurd cc
flushed_where setting.Off mode is = absurd cc

pub prepared : (mode : Mode) (item : RecordIn) (at : Setting) (result : Result ℕ SyncFault) (ticket : ℕ) (answer : Answer) → setting_mode at ≡ Some mode
    → result ≡ Ok ticket → (calls : List Call) → Completes (Some (record { ticket = ticket; mode = mode })) true item [] answer calls
    → Commit item at (prepare_call result ∷ calls) answer
prepared mode item at result ticket answer who is calls rest =
    subst (λ r. Commit item at (prepare_call r ∷ calls) answer) (sym is) (rest at who (flushed_where at mode who))
