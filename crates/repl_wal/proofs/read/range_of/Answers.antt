-- Where the timeline ends says what there is to read.
use Rattle.std.proofs.Common.{rules, ◌≡◌, ℕ, ◌<◌, ◌≤◌, Option, Some, None, MatchOption, sym, ap, ◌∙◌, subst, inl, inr}
use Rattle.repl_lsn.specs.History.{Path}
use Rattle.repl_lsn.specs.Path.{EndsAt, IsNext}
use Rattle.repl_store.proofs.Backed.{below_by}
use Rattle.repl_store.specs.declared.store.StoreStatus.{StoreStatus}
use Rattle.repl_wal.specs.Reading.{IsEnd, IsReadRefusal, ReadsTo}
use Rattle.repl_wal.specs.State.{LogState, floor_of, path_of, status_of_log}
use Rattle.repl_wal.specs.declared.fault.NodeFault.{NodeFault}
use Rattle.repl_wal.specs.declared.fault.NodeFault.TheVariants as fault
use Rattle.repl_wal.proofs.read.range_of.Goals as goal

reads_to : (n : LogState) (path : Path) (status : StoreStatus) (tli end : ℕ) (next : Option ℕ) → path ≡ path_of n → status ≡ status_of_log n
    → IsEnd path status.flushed tli end next → ReadsTo n tli end
reads_to n path status tli end None same told is = inl (is.0 ∙ ap (λ (p : Path). p.own) same, is.1 ∙ ap (λ (s : StoreStatus). s.flushed) told)
reads_to n path status tli end (Some next) same told is = inr (subst (λ (p : Path). EndsAt p tli end) same is.0)

past_refuses : (n : LogState) (path : Path) (status : StoreStatus) (tli at end : ℕ) (next : Option ℕ) (e : NodeFault) → path ≡ path_of n
    → status ≡ status_of_log n → IsEnd path status.flushed tli end next → end < at
    → MatchOption next (e ≡ fault.Ahead end) (λ t. e ≡ fault.AfterSwitch t end) → IsReadRefusal n tli at e
past_refuses n path status tli at end None e same told is past answer = subst (IsReadRefusal n tli at) (sym answer) (
  is.0 ∙ ap (λ (p : Path). p.own) same,
  is.1 ∙ ap (λ (s : StoreStatus). s.flushed) told,
  past,
)
past_refuses n path status tli at end (Some next) e same told is past answer = subst (IsReadRefusal n tli at) (sym answer) (
  subst (λ (p : Path). EndsAt p tli end) same is.0,
  subst (λ (p : Path). IsNext p tli next) same is.1,
  past,
)

pub returns-then-lt-clause-refused : goal.returns-then-lt-clause-refused
returns-then-lt-clause-refused c n same told =
    let found = c.in-Ok.found in
    let past : found.0 < c.args.at = search rules in
    past_refuses n c.args.path.now c.args.status.now c.args.tli c.args.at found.0 found.1 c.past.result same told c.in-Ok.ensures.end past
    c.past.ensures

pub returns-then-lt-2-clause-refused : goal.returns-then-lt-2-clause-refused
returns-then-lt-2-clause-refused c n same told =
    let found = c.in-Ok.found in
    let within : c.args.at ≤ found.0 = search rules in
    let below : c.args.at < c.args.status.now.floor = search rules in (
      (found.0, reads_to n c.args.path.now c.args.status.now c.args.tli found.0 found.1 same told c.in-Ok.ensures.end, within),
      ap (λ (s : StoreStatus). s.floor) told,
      below,
    )

pub returns-clause-range : goal.returns-clause-range
returns-clause-range c n same told =
    let found = c.in-Ok.found in
    let reads = reads_to n c.args.path.now c.args.status.now c.args.tli found.0 found.1 same told c.in-Ok.ensures.end in
    let within : c.args.at ≤ found.0 = search rules in
    let apart : c.args.at ≡ found.0 → ⊥ = search rules in
    let low : c.args.status.now.floor ≤ c.args.at = search rules in
    let floor : floor_of n ≤ c.args.at = subst (λ (f : ℕ). f ≤ c.args.at) (ap (λ (s : StoreStatus). s.floor) told) low in
    (((found.0, reads, within), floor), (reads, below_by c.args.at found.0 within apart, floor))
