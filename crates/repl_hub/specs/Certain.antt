-- What holds of a hub after every event.
use Rattle.std.specs.Prelude.{◌≡◌, ℕ, ◌≤◌, ◌⊎◌, All}
use Rattle.repl_control.specs.declared.control.Role.TheVariants.{Primary}
use Rattle.repl_hub.specs.State.{HubView}
use Rattle.repl_hub.specs.declared.event.HubEvent.{HubEvent}
use Rattle.repl_hub.specs.declared.event.HubEvent.TheVariants as event
use Rattle.repl_names.specs.declared.quorum.Mode.{Mode}
use Rattle.repl_sync.specs.State.{Cancelled, Fate, Prepared, Released, Waiting}
use Rattle.repl_sync.specs.declared.certificate.Certificate.{Certificate}
use Rattle.repl_wal.specs.State.{LogState, flushed_end, role_of, whole_end}

-- a commit that waits stands on a primary, and is certain there
abbrev pub IsCertain : LogState → Fate → Type 0
IsCertain n (Waiting end mode) = (role_of n ≡ Primary) × (end ≤ flushed_end n)
IsCertain n Prepared = Unit {0}
IsCertain n (Released proof) = Unit {0}
IsCertain n Cancelled = Unit {0}

abbrev pub AreCertain : HubView → Type 0
AreCertain h = All (λ t. IsCertain h.node.log t.fate) h.sync.tickets

-- The ticket was released between these two: its certificate names an end that was flushed on a primary.
pub record WasFlushed (h m : HubView) (ticket end : ℕ) (mode : Mode) (proof : Certificate) : Type 0 where
  pub primary : role_of h.node.log ≡ Primary
  pub at : proof.end ≡ end
  pub by_mode : proof.mode ≡ mode
  pub flushed : end ≤ flushed_end h.node.log
  pub still : end ≤ flushed_end m.node.log

-- the event begins another timeline
abbrev pub IsSwitch : HubEvent → Type 0
IsSwitch (event.Follow child) = Unit {0}
IsSwitch (event.Promote at_least) = Unit {0}
IsSwitch other = ⊥

-- The flushed end falls by a switch alone, and not below where whole records end.
pub record FallsOnlyBySwitch (n m : LogState) (event : HubEvent) : Type 0 where
  pub falls : (flushed_end n ≤ flushed_end m) ⊎ IsSwitch event
  pub whole : whole_end n ≤ flushed_end m
