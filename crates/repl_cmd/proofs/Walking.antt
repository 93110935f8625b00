-- What the walk of tokens through the rows says of them.
use Rattle.std.proofs.Common.{◌≡◌, List, [], ◌∷◌, ◌++◌, length, Some, None}
use Rattle.repl_text.specs.Language.{Begins, StopsAt}
use Rattle.repl_cmd.specs.declared.command.Command.{Command}
use Rattle.repl_cmd.specs.declared.fault.CmdFault.{CmdFault}
use Rattle.repl_cmd.specs.declared.state.State.{State}
use Rattle.repl_cmd.specs.declared.state.State.TheVariants as state
use Rattle.repl_cmd.specs.Token.{Lexeme}
use Rattle.repl_cmd.specs.Command.{Says, IsSaid, IsCommand}
use Rattle.repl_cmd.specs.Refusal.{IsFaultOf}
use Rattle.repl_cmd.specs.Walk.{Steps, Runs, IsStuck, IsStop, finish}
use Rattle.repl_cmd.proofs.WalkSteps.{run_once, run_append, one_run}
use Rattle.repl_cmd.proofs.WalkEnds.{run_says, says_arrives, run_goes_on, stuck_stops_at, end_stops_at}
use Rattle.repl_cmd.proofs.WalkFaults.{fault_past}
use Rattle.repl_cmd.proofs.WalkCommands.{said_command}

pub runs_more : (a b c : State) (ts : List Lexeme) (t : Lexeme) → Runs a ts b → Steps b t c → Runs a (ts ++ t ∷ []) c
runs_more a b c ts t run step = run_append a b c ts (t ∷ []) run (run_once b c t step)

-- from one state the same tokens lead to one other
pub one_walk : (a b c : State) (ts : List Lexeme) → Runs a ts b → Runs a ts c → b ≡ c
one_walk a b c ts r s = one_run a b c ts r s

pub walk_says : (tokens : List Lexeme) (s : State) (c : Command) → Runs state.Start tokens s → finish s ≡ Some c → Says tokens c
walk_says tokens s c run ends = run_says tokens s c run ends

pub says_walk : (tokens : List Lexeme) (c : Command) → Says tokens c → (s : State) × Runs state.Start tokens s × (finish s ≡ Some c)
says_walk tokens c says = let h = says_arrives tokens c says in (h.at, h.runs, h.ends)

-- from every state tokens lead to some command
pub goes_on : (before : List Lexeme) (s : State) → Runs state.Start before s → Begins IsSaid before
goes_on before s run = run_goes_on before s run

pub stuck_stops : (before past : List Lexeme) (t : Lexeme) (s : State) → Runs state.Start before s → IsStuck s t
    → StopsAt IsSaid (before ++ t ∷ past) (length before)
stuck_stops before past t s run stuck = stuck_stops_at before past t s run stuck

pub ended_stops : (tokens : List Lexeme) (s : State) → Runs state.Start tokens s → finish s ≡ None → StopsAt IsSaid tokens (length tokens)
ended_stops tokens s run none = end_stops_at tokens s run none

-- the fault of a token in a state is its fault after the tokens that lead there
pub step_fault : (before : List Lexeme) (s : State) (t : Lexeme) (f : CmdFault) → Runs state.Start before s → IsStop s t f
    → IsFaultOf before t f
step_fault before s t f run stop = fault_past before s t f run stop.cause

pub says_command : (tokens : List Lexeme) (c : Command) → Says tokens c → IsCommand c
says_command tokens c says = said_command tokens c says
