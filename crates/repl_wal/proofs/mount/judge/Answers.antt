-- What is wrong past the whole end: a record's end, or the first fault.
use Rattle.std.proofs.Common.{rules, ◌≡◌, ℕ, ◌%◌, ◌<◌, ◌++◌, List, refl, sym, ap, ◌∙◌, subst}
use Rattle.repl_lsn.specs.Segment.{IsSegSize}
use Rattle.repl_walk.specs.Faults.{IsFaultPast}
use Rattle.repl_page.specs.declared.ident.Ident.{Ident}
use Rattle.repl_record.proofs.LogChains.{same_last}
use Rattle.repl_record.proofs.LogEnds.{from_le}
use Rattle.repl_record.specs.Log.{origin}
use Rattle.repl_record.specs.Walker.{identity, last_end, last_start}
use Rattle.repl_record.specs.declared.answer.WalkReason.{WalkReason}
use Rattle.repl_store.proofs.Backed.{apart_by, below_by}
use Rattle.repl_wal.proofs.mount.judge.Goals as goal

pub returns-else-eq-clause-refused : goal.returns-else-eq-clause-refused
returns-else-eq-clause-refused c timeline prev log walked on =
    let w = c.args.walker.now in
    let next = c.walk-walked.new.walker in
    let whole = c.args.status.now.whole in
    let greatest = c.walk-walked.ensures.whole timeline whole prev log walked on in
    let apart : c.last_end.result ≡ whole → ⊥ = apart_by c.last_end.result whole c.last_end.result whole refl refl c.if-eq.ensures in
    let low = from_le (identity w) timeline whole prev (log ++ c.args.piece.now) (last_end next) (last_start next) greatest.is_end in
    let later : whole < last_end next = below_by whole (last_end next) low (λ same. apart (c.last_end.ensures ∙ sym same)) in
    (refl, (last_end next, last_start next, later, greatest.is_end))

-- the fault stands right past the whole end
right_past : (i ident : Ident) (timeline : ℕ → ℕ) (whole prev end last at : ℕ) (log : List ℕ) (why : WalkReason) → i ≡ ident → IsSegSize i.size
    → whole % 8 ≡ 0 → end ≡ whole → IsFaultPast i timeline whole prev log end last at why → IsFaultPast ident timeline whole prev log whole prev at why
right_past i ident timeline whole prev end last at log why same size eight ends past =
    let As : Ident → ℕ → ℕ → Type 0 = λ j. λ e. λ l. IsFaultPast j timeline whole prev log e l at why in
    let here : As i whole last = subst (λ (e : ℕ). As i e last) ends past in
    let first : last ≡ prev = same_last i timeline whole prev log whole last prev size eight here.records origin in
    subst (λ (j : Ident). As j whole prev) same (subst (As i whole) first here)

pub returns-in-Err-clause-refused : goal.returns-in-Err-clause-refused
returns-in-Err-clause-refused c timeline prev log walked on =
    let w = c.args.walker.now in
    let next = c.walk-walked.new.walker in
    let whole = c.args.status.now.whole in
    let met = c.in-Err.ensures.refuses timeline whole prev log walked on in
    let same : c.last_end.result ≡ whole = search rules in
    let size : IsSegSize (identity next).size = subst IsSegSize (ap (λ (i : Ident). i.size) (c.ident.ensures ∙ sym c.in-Err.ensures.ident))
    c.bytes-size.ensures.size in
    right_past (identity next) (identity w) timeline whole prev (last_end next) (last_start next) c.in-Err.fault.at (log ++ c.args.piece.now)
    c.in-Err.fault.why c.in-Err.ensures.ident size walked.aligned (sym c.last_end.ensures ∙ same) met.past
