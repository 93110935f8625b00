-- The name of a session, found by going over the sessions.
use Rattle.std.proofs.Common.{◌≡◌, ℕ, ◌+◌, ◌<◌, Bool, ◌==◌, if◌then◌else◌, List, ◌∷◌, length, get_or, drop, sym, ap, ◌∙◌, add-one, suc}
use Rattle.std.proofs.Math.Seq.{drop-cons}
use Rattle.repl_sync.specs.declared.session.Entry.{Entry}
use Rattle.repl_sync.specs.State.{name_of}
use Rattle.repl_sync.specs.Inside.{sessions_of}

-- the name among the sessions from this one on
pub name_step : (es : List Entry) (i : ℕ) (e : Entry) (n : ℕ) (b : Bool) → i < length es → e ≡ get_or es i e
    → (e.candidate.session == n) ≡ b
    → name_of (sessions_of (drop i es)) n ≡ (if b then e.name else name_of (sessions_of (drop (i + 1) es)) n)
name_step es i e n b l at is =
    let rest = drop (i + 1) es in
    let split : drop i es ≡ e ∷ rest = rw (add-one, drop-cons es i e) (ap (λ x. x ∷ drop (suc i) es) (sym at)) in
    ap (λ xs. name_of (sessions_of xs) n) split ∙ ap (λ t. if t then e.name else name_of (sessions_of rest) n) is
