-- What a ticket has become, by how far it has come.
use Rattle.std.proofs.Common.{◌≡◌, ◌≢◌, ℕ, List, Option, Some, None, refl, sym, ap, ◌∙◌}
use Rattle.repl_names.specs.declared.quorum.Mode.{Mode}
use Rattle.repl_sync.specs.declared.holding.Progress.{Progress}
use Rattle.repl_sync.specs.declared.holding.Progress.TheVariants as progress
use Rattle.repl_sync.specs.declared.holding.Holding.{Holding}
use Rattle.repl_sync.specs.State.{Ticket, Prepared, Waiting, Cancelled, fate_of}
use Rattle.repl_sync.specs.Inside.{begun, fate_in, progress_of}

-- a ticket that is not there is not prepared
pub nothing_prepared : (t : ℕ) (ts : List Ticket) → fate_of ts t ≡ None → fate_of ts t ≢ Some Prepared
nothing_prepared t ts none = λ some. let e : None ≡ Some Prepared = sym none ∙ some in absurd (cc)

pub not_prepared : (t : ℕ) (ts : List Ticket) (p : Progress) (h : Holding) → fate_of ts t ≡ Some (fate_in p h) → (p ≡ progress.Prepared → ⊥)
    → fate_of ts t ≢ Some Prepared
not_prepared t ts progress.Prepared h is other = λ some. other refl
not_prepared t ts (progress.Waiting end m) h is other = λ some. let e : Some (Waiting end m) ≡ Some Prepared = sym is ∙ some in absurd (cc)
not_prepared t ts (progress.Released end m) h is other = λ some.
    let e : Some (fate_in (progress.Released end m) h) ≡ Some Prepared = sym is ∙ some in absurd (cc)
not_prepared t ts progress.Cancelled h is other = λ some. let e : Some Cancelled ≡ Some Prepared = sym is ∙ some in absurd (cc)

pub begins : (wait : Option (ℕ × Mode)) (p : Progress) (h : Holding) → p ≡ progress_of wait → fate_in p h ≡ begun wait
begins (Some w) p h is = ap (λ (q : Progress). fate_in q h) is
begins None p h is = ap (λ (q : Progress). fate_in q h) is
