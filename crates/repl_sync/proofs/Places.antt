-- The place of a session, as it was found.
use Rattle.std.proofs.Common.{◌≡◌, ◌≢◌, ◌<◌, ℕ, List, length, get_or, All, Option, Some, None, MatchOption, true, false, subst}
use Rattle.std.specs.Option.{is_some}
use Rattle.repl_sync.specs.State.{knows}
use Rattle.repl_sync.specs.Inside.{sessions_of}
use Rattle.repl_sync.proofs.Sessions.{known_at}
use Rattle.repl_sync.specs.declared.session.Entry.{Entry}

abbrev pub Placed : ℕ → ℕ → List Entry → Type 0
Placed n place es = (place < length es) × ((d : Entry) → (get_or es place d).candidate.session ≡ n)

abbrev pub Found : ℕ → Option ℕ → List Entry → Type 0
Found n o es = MatchOption o (All (λ e. e.candidate.session ≢ n) es) (λ place. Placed n place es)

pub at_place : (n : ℕ) (o : Option ℕ) (place : ℕ) (seen es : List Entry) → o ≡ Some place → seen ≡ es → Found n o seen → Placed n place es
at_place n o place seen es is same found = subst (λ xs. Placed n place xs) same (subst (λ x. Found n x seen) is found)

pub no_place : (n : ℕ) (o : Option ℕ) (seen es : List Entry) → o ≡ None → seen ≡ es → Found n o seen → All (λ e. e.candidate.session ≢ n) es
no_place n o seen es is same found = subst (λ xs. All (λ e. e.candidate.session ≢ n) xs) same (subst (λ x. Found n x seen) is found)

pub found_known : (n : ℕ) (o : Option ℕ) (seen es : List Entry) → is_some o ≡ true → seen ≡ es → Found n o seen
    → knows (sessions_of es) n ≡ true
found_known n None seen es is same found = absurd (cc is)
found_known n (Some place) seen es is same found =
    let placed = subst (λ xs. Placed n place xs) same found in
    known_at es place n placed.0 placed.1

pub found_none : (n : ℕ) (o : Option ℕ) (seen es : List Entry) → is_some o ≡ false → seen ≡ es → Found n o seen
    → All (λ e. e.candidate.session ≢ n) es
found_none n None seen es is same found = subst (λ xs. All (λ e. e.candidate.session ≢ n) xs) same found
found_none n (Some place) seen es is same found = absurd (cc is)
