-- What is read, refused and read again, over all lines of a text.
use Rattle.std.proofs.Common.{◌≡◌, Ok, Err, ap, inl, inr, ⊎_elim, rules}
use Rattle.repl_lsn.specs.declared.fault.HistoryFault.TheVariants as HistoryFault
use Rattle.repl_lsn.specs.History.{SaysHistory}
use Rattle.repl_lsn.proofs.Reading.{read_only, refused_broken, one_reading}
use Rattle.repl_lsn.proofs.history_lines.parse_history.Goals as goal

pub returns-in_err-said-clause-only : goal.returns-in_err-said-clause-only
returns-in_err-said-clause-only c =
    λ path same read.
    let f = c.in_err-said.field-0.0 in
    let memory : f ≡ HistoryFault.Memory =
    ⊎_elim (λ e. e)
    (λ b. read_only c.args.own c.args.text.now f path same read (refused_broken c.args.own c.args.text.now f b))
    c.in_err-said.ensures.refused in
    let e : c.from_residual.result ≡ Err HistoryFault.Memory = search rules in
    inr e

pub returns-clause-only : goal.returns-clause-only
returns-clause-only c =
    λ path same read.
    let is_read : SaysHistory c.args.text.now c.of.result = search rules in
    let own : c.of.result.own ≡ path.own = cc in
    inl (ap Ok (one_reading c.args.text.now c.of.result path is_read read own))
