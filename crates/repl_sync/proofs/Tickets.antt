-- Tickets, one for one, where waits are released.
use Rattle.std.proofs.Common.{◌≡◌, ℕ, zero, suc, ◌<◌, List, [], ◌∷◌, length, map, get_or, arith}
use Rattle.std.specs.List.{AllZip}
use Rattle.repl_names.specs.StandbyList.{Listing}
use Rattle.repl_sync.specs.declared.session.Entry.{Entry}
use Rattle.repl_sync.specs.declared.holding.Holding.{Holding}
use Rattle.repl_sync.specs.Sync.{Settles}
use Rattle.repl_sync.specs.Inside.{ReleasesOne, sessions_of, ticket_of}

abbrev pub EachReleased : Listing → List Entry → List Holding → List Holding → Type 0
EachReleased list es olds news = (k : ℕ) (d : Holding) → k < length olds → ReleasesOne list es (get_or olds k d) (get_or news k d)

pub zip_released : (list : Listing) (es : List Entry) (olds news : List Holding) → length news ≡ length olds
    → EachReleased list es olds news
    → AllZip (Settles list (sessions_of es)) (map ticket_of olds) (map ticket_of news)
zip_released list es [] [] same each = tt
zip_released list es [] (h ∷ hs) same each = absurd (omega arith)
zip_released list es (h ∷ hs) [] same each = absurd (omega arith)
zip_released list es (h ∷ hs) (i ∷ is) same each = (
  (each zero h (omega arith)).settles,
  zip_released list es hs is (omega arith) (λ k d l. each (suc k) d (omega arith)),
)
