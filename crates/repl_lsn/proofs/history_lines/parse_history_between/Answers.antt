-- What is read, refused and read again, over all lines of a text and within a log.
use Rattle.std.proofs.Common.{◌≡◌, Ok, Err, ap, subst, inl, inr, ⊎_elim, rules}
use Rattle.repl_lsn.specs.declared.fault.HistoryFault.{HistoryFault}
use Rattle.repl_lsn.specs.History.{Path, SaysHistory}
use Rattle.repl_lsn.specs.Between.{AreBetween, LiesOutside}
use Rattle.repl_lsn.proofs.Outside.{Known, one_outside, none_outside}
use Rattle.repl_lsn.proofs.Reading.{read_only, refused_broken, one_reading}
use Rattle.repl_lsn.proofs.history_lines.parse_history_between.Goals as goal

pub returns-in_err-said-clause-only : goal.returns-in_err-said-clause-only
returns-in_err-said-clause-only c =
    λ path same read between.
    let f = c.in_err-said.field-0.0 in
    let memory : f ≡ HistoryFault.Memory =
    ⊎_elim (λ e. e)
    (λ b. read_only c.args.own c.args.text.now f path same read (refused_broken c.args.own c.args.text.now f b))
    c.in_err-said.ensures.refused in
    let e : c.from_residual.result ≡ Err HistoryFault.Memory = search rules in
    inr e

pub returns-in_err-said-clause-outside : goal.returns-in_err-said-clause-outside
returns-in_err-said-clause-outside c =
    λ path at same read outside.
    let f = c.in_err-said.field-0.0 in
    let memory : f ≡ HistoryFault.Memory =
    ⊎_elim (λ e. e)
    (λ b. read_only c.args.own c.args.text.now f path same read (refused_broken c.args.own c.args.text.now f b))
    c.in_err-said.ensures.refused in
    let e : c.from_residual.result ≡ Err HistoryFault.Memory = search rules in
    inr e

pub returns-in-Some-clause-only : goal.returns-in-Some-clause-only
returns-in-Some-clause-only c =
    λ path same read between.
    let there : LiesOutside c.args.text.now c.args.least c.args.most c.in-Some.place =
    subst (Known c.args.text.now c.args.least c.args.most c.in_ok-said.said.parents.items) c.in-Some.is c.in_ok-said.ensures.outside in
    absurd (none_outside c.args.text.now path c.args.least c.args.most c.in-Some.place read between there)

pub returns-in-Some-clause-outside : goal.returns-in-Some-clause-outside
returns-in-Some-clause-outside c =
    λ path at same read outside.
    let there : LiesOutside c.args.text.now c.args.least c.args.most c.in-Some.place =
    subst (Known c.args.text.now c.args.least c.args.most c.in_ok-said.said.parents.items) c.in-Some.is c.in_ok-said.ensures.outside in
    inl (ap (λ n. Err (HistoryFault.NotSwitch n)) (one_outside c.args.text.now c.args.least c.args.most c.in-Some.place at there outside))

pub returns-clause-only : goal.returns-clause-only
returns-clause-only c =
    λ path same read between.
    let is_read : SaysHistory c.args.text.now c.of.result = search rules in
    let own : c.of.result.own ≡ path.own = cc in
    inl (ap Ok (one_reading c.args.text.now c.of.result path is_read read own))

pub returns-clause-outside : goal.returns-clause-outside
returns-clause-outside c =
    λ path at same read outside.
    let said : Path = record { own = c.args.own; parents = c.in_ok-said.said.parents.items } in
    let none : AreBetween c.args.least c.args.most said.parents =
    subst (Known c.args.text.now c.args.least c.args.most said.parents) c.in_default.is c.in_ok-said.ensures.outside in
    absurd (none_outside c.args.text.now said c.args.least c.args.most at c.in_ok-said.ensures.read none outside)
