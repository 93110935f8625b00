-- What `parse_command` needs and ensures.
use Rattle.std.proofs.Common.{◌∙◌, ap, inl, inr, Err, refl, subst, sym}
use Rattle.std.proofs.lemmas.Result.{err_from_is_err_and}
use Rattle.repl_cmd.specs.declared.fault.CmdFault.{CmdFault}
use Rattle.repl_cmd.specs.Token.{Lexeme}
use Rattle.repl_cmd.specs.Walk.{Steps, IsStop}
use Rattle.repl_cmd.proofs.Readings.{IsFaultHere, walked_more, walked_read, walked_stops, walked_ends, here_refused, here_only, read_only, leaves_refused}
use Rattle.repl_cmd.proofs.parse.parse_command.Goals as goal

pub loop-state-preserved : goal.loop-state-preserved
loop-state-preserved c =
    let within = rw c.in-Some.is at c.in_ok-token.ensures.within in
    let read = rw c.in-Some.is at c.in_ok-token.ensures.read in record {
      within = within.1;
      walked = walked_more c.args.text.now c.loop-state.at c.loop-state.state c.in-Some.token c.in-Some.end c.in_ok-state.state
          c.loop-state.invariant.walked read within.1
          (subst (λ (t : Lexeme). Steps c.loop-state.state t c.in_ok-state.state) c.command_token.ensures c.in_ok-state.ensures.ok);
    }

-- the fault of the token that stops the walk
fault_here : (c : goal.After-from_residual-in_err-state) → IsFaultHere c.args.text.now c.in_err-state.field-0.0
fault_here c =
    let within = rw c.in-Some.is at c.in_ok-token.ensures.within in
    let read = rw c.in-Some.is at c.in_ok-token.ensures.read in
    elim c.in_err-state.ensures.err [
      | inl memory ↦ inl memory
      | inr stop ↦ inr (walked_stops c.args.text.now c.loop-state.at c.loop-state.state c.in-Some.token c.in-Some.end
          c.in_err-state.field-0.0 c.loop-state.invariant.walked read within.1
          (subst (λ (t : Lexeme). IsStop c.loop-state.state t c.in_err-state.field-0.0) c.command_token.ensures stop))
    ]

pub returns-in_err-state-clause-refused : goal.returns-in_err-state-clause-refused
returns-in_err-state-clause-refused c =
    let p = err_from_is_err_and c.from_residual-in_err-state.result c.from_residual-in_err-state.ensures.1 in
    rw (p.1, p.2) (here_refused c.args.text.now c.in_err-state.field-0.0 (fault_here c))

pub returns-in_err-state-clause-only : goal.returns-in_err-state-clause-only
returns-in_err-state-clause-only c =
    let p = err_from_is_err_and c.from_residual-in_err-state.result c.from_residual-in_err-state.ensures.1 in
    here_only c.args.text.now c.from_residual-in_err-state.result c.in_err-state.field-0.0 (p.1 ∙ ap (λ (x : CmdFault). Err x) p.2)
    (fault_here c)

pub returns-in-Some-finish-clause-read : goal.returns-in-Some-finish-clause-read
returns-in-Some-finish-clause-read c =
    let read = rw c.in_default.is at c.in_ok-token.ensures.read in
    walked_read c.args.text.now c.loop-state.at c.loop-state.state c.in-Some-finish.command c.loop-state.invariant.walked read
    (sym c.finish.ensures ∙ c.in-Some-finish.is)

pub returns-in-Some-finish-clause-only : goal.returns-in-Some-finish-clause-only
returns-in-Some-finish-clause-only c =
    let read = rw c.in_default.is at c.in_ok-token.ensures.read in
    let said = walked_read c.args.text.now c.loop-state.at c.loop-state.state c.in-Some-finish.command c.loop-state.invariant.walked read
    (sym c.finish.ensures ∙ c.in-Some-finish.is) in
    read_only c.args.text.now _ c.in-Some-finish.command refl said

pub returns-in-None-clause-refused : goal.returns-in-None-clause-refused
returns-in-None-clause-refused c =
    let read = rw c.in_default.is at c.in_ok-token.ensures.read in
    let leaves = walked_ends c.args.text.now c.loop-state.at c.loop-state.state c.loop-state.invariant.walked read
    (sym c.finish.ensures ∙ c.in-None.is) in
    leaves_refused c.args.text.now _ leaves

pub returns-in-None-clause-only : goal.returns-in-None-clause-only
returns-in-None-clause-only c =
    let read = rw c.in_default.is at c.in_ok-token.ensures.read in
    let leaves = walked_ends c.args.text.now c.loop-state.at c.loop-state.state c.loop-state.invariant.walked read
    (sym c.finish.ensures ∙ c.in-None.is) in
    here_only c.args.text.now _ _ refl (inr leaves)
