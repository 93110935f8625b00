-- Commits wait on a primary alone, where they are certain, and are released there.
use Rattle.std.proofs.Common.{◌≡◌, ℕ, ◌≤◌, Some, sym, ◌∙◌, subst, arith}
use Rattle.std.proofs.lemmas.List.Elements.{All-weaker}
use Rattle.repl_control.specs.declared.control.Role.{Role}
use Rattle.repl_control.specs.declared.control.Role.TheVariants.{Primary, Standby}
use Rattle.repl_hub.proofs.Coming.{Comes, Lasting, Telling, Switching, Ending, lasts, tells, switches, ends}
use Rattle.repl_hub.proofs.Events.{comes}
use Rattle.repl_hub.proofs.Fates.{HoldsOfOthers, OfEach, cancelled_all, of_found, step_each}
use Rattle.repl_hub.proofs.Logs.{Rises}
use Rattle.repl_hub.proofs.Ticketing.{IsOf, not_twice, step_releases}
use Rattle.repl_hub.specs.Certain.{AreCertain, IsCertain, WasFlushed}
use Rattle.repl_hub.specs.State.{HubView}
use Rattle.repl_hub.specs.Step.{HubStep}
use Rattle.repl_hub.specs.declared.event.HubEvent.{HubEvent}
use Rattle.repl_hub.specs.declared.reply.HubReply.{HubReply}
use Rattle.repl_names.specs.declared.quorum.Mode.{Mode}
use Rattle.repl_sync.specs.State.{Fate, IsState, Prepared, Released, State, Ticket, Waiting, Cancelled, fate_of}
use Rattle.repl_sync.specs.Sync as sync
use Rattle.repl_sync.specs.declared.certificate.Certificate.{Certificate}
use Rattle.repl_wal.specs.State.{LogState, flushed_end, role_of}

-- ---- one ticket

others_are : (n : LogState) → HoldsOfOthers (IsCertain n)
others_are n = record { prepared = tt; released = λ proof. tt; cancelled = tt }

-- it stays certain where the log goes on
stays_certain : (n m : LogState) (f : Fate) → Rises n m → IsCertain n f → IsCertain m f
stays_certain n m (Waiting end mode) rises is = let up = rises.end in (rises.role ∙ is.0, omega (arith, up, is.1))
stays_certain n m Prepared rises is = tt
stays_certain n m (Released proof) rises is = tt
stays_certain n m Cancelled rises is = tt

two_roles : (r : Role) → r ≡ Standby → r ≡ Primary → ⊥
two_roles r standby primary = let same : Standby ≡ Primary = sym standby ∙ primary in absurd (cc same)

-- on a standby none waits
none_certain : (n m : LogState) (f : Fate) → role_of n ≡ Standby → IsCertain n f → IsCertain m f
none_certain n m (Waiting end mode) standby is = absurd (two_roles (role_of n) standby is.0)
none_certain n m Prepared standby is = tt
none_certain n m (Released proof) standby is = tt
none_certain n m Cancelled standby is = tt

-- ---- all of them

-- sessions and tickets of a state, over a log
over : (n m : LogState) (s : State) → ((f : Fate) → IsCertain n f → IsCertain m f) → OfEach (IsCertain n) s.tickets
    → OfEach (IsCertain m) s.tickets
over n m s leads all = All-weaker (λ (t : Ticket). IsCertain n t.fate) (λ (t : Ticket). IsCertain m t.fate) (λ t is. leads t.fate is) s.tickets all

lasting : (h m : HubView) → Lasting h m → AreCertain h → AreCertain m
lasting h m is all =
    let n = h.node.log in
    let k = m.node.log in
    subst (λ (s : State). OfEach (IsCertain k) s.tickets) (sym is.same) (over n k h.sync (λ f. stays_certain n k f is.log) all)

telling : (h m : HubView) → Telling h m → AreCertain h → AreCertain m
telling h m is all =
    let n = h.node.log in
    subst (λ (k : LogState). OfEach (IsCertain k) m.sync.tickets) (sym is.log)
    (step_each (IsCertain n) (others_are n) h.sync m.sync is.event is.answer is.step is.begun all)

switching : (h : HubView) (event : HubEvent) (m : HubView) → Switching h event m → AreCertain h → AreCertain m
switching h event m is all =
    let n = h.node.log in
    let k = m.node.log in
    step_each (IsCertain k) (others_are k) h.sync m.sync sync.NewTimeline sync.Done is.step tt
    (over n k h.sync (λ f. none_certain n k f is.log.standby) all)

ending : (h m : HubView) → Ending h m → AreCertain m
ending h m is = cancelled_all (IsCertain m.node.log) (others_are m.node.log) h.sync m.sync is.step

certain_past : (h : HubView) (event : HubEvent) (m : HubView) → Comes h event m → AreCertain h → AreCertain m
certain_past h event m (lasts is) all = lasting h m is all
certain_past h event m (tells is) all = telling h m is all
certain_past h event m (switches is) all = switching h event m is all
certain_past h event m (ends is) all = ending h m is

pub are_certain : (h m : HubView) (event : HubEvent) (reply : HubReply) → HubStep h event reply m → AreCertain h → AreCertain m
are_certain h m event reply step all = certain_past h event m (comes h event reply m step) all

-- ---- a release

module _ (h m : HubView) (ticket end : ℕ) (mode : Mode) (proof : Certificate) (all : AreCertain h)
    (waits : fate_of h.sync.tickets ticket ≡ Some (Waiting end mode)) (got : fate_of m.sync.tickets ticket ≡ Some (Released proof)) where
  was_certain : IsCertain h.node.log (Waiting end mode)
  was_certain = of_found (IsCertain h.node.log) h.sync.tickets ticket (Waiting end mode) all waits

  was : IsOf end mode proof → end ≤ flushed_end m.node.log → WasFlushed h m ticket end mode proof
  was of still = record { primary = was_certain.0; at = of.0; by_mode = of.1; flushed = was_certain.1; still = still }

  -- a release by a step that is made where the flushed end does not fall
  by_step : (event : sync.Event) (answer : sync.Reply) → sync.SyncStep h.sync event answer m.sync
      → flushed_end h.node.log ≤ flushed_end m.node.log → WasFlushed h m ticket end mode proof
  by_step event answer step rises =
      was (step_releases ticket end mode proof h.sync m.sync event answer step waits got) (omega (arith, was_certain.1, rises))

  released_past : (event : HubEvent) → Comes h event m → WasFlushed h m ticket end mode proof
  released_past event (lasts is) =
      absurd (not_twice ticket end mode proof h.sync waits
      (subst (λ (s : State). fate_of s.tickets ticket ≡ Some (Released proof)) is.same got))
  released_past event (tells is) =
      by_step is.event is.answer is.step (subst (λ (k : LogState). flushed_end h.node.log ≤ flushed_end k) (sym is.log) (omega arith))
  released_past event (switches is) = absurd (two_roles (role_of h.node.log) is.log.standby was_certain.0)
  released_past event (ends is) = by_step sync.CancelAll sync.Done is.step is.rises

pub was_flushed : (h m : HubView) (event : HubEvent) (reply : HubReply) → IsState h.sync → HubStep h event reply m → AreCertain h
    → (ticket end : ℕ) (mode : Mode) (proof : Certificate) → fate_of h.sync.tickets ticket ≡ Some (Waiting end mode)
    → fate_of m.sync.tickets ticket ≡ Some (Released proof) → WasFlushed h m ticket end mode proof
was_flushed h m event reply state step all ticket end mode proof waits got =
    released_past h m ticket end mode proof all waits got event (comes h event reply m step)
