-- What is known of a text while its tokens are read, and what a text says.
use Rattle.std.proofs.Common.{◌≡◌, ℕ, ◌+◌, ◌<◌, ◌≤◌, ◌⊎◌, inl, inr, List, [], ◌∷◌, ◌++◌, length, take, drop, Some, None, Result, Ok, Err, refl, ap, sym, subst, ◌∙◌}
use Rattle.std.proofs.lemmas.List.{append_assoc}
use Rattle.std.proofs.Math.Seq.{take-append_seam, drop-append_seam, take-length, drop-length}
use Rattle.repl_text.specs.Language.{StopsAt}
use Rattle.repl_cmd.specs.declared.command.Command.{Command}
use Rattle.repl_cmd.specs.declared.fault.CmdFault.{CmdFault}
use Rattle.repl_cmd.specs.declared.fault.CmdFault.TheVariants as fault
use Rattle.repl_cmd.specs.declared.state.State.{State}
use Rattle.repl_cmd.specs.declared.state.State.TheVariants as state
use Rattle.repl_token.specs.Token.{RawToken, IsNext}
use Rattle.repl_token.specs.Token as lexer
use Rattle.repl_token.proofs.HasReading.{has_reading_as}
use Rattle.repl_token.proofs.Leading.{Leads, leads_none, leads_more, leads_on, leads_all}
use Rattle.repl_token.proofs.OneReading.{reads_as_one}
use Rattle.repl_cmd.specs.Token.{Lexeme, ReadsLexemes, command_class, command_token}
use Rattle.repl_cmd.specs.Command.{Says, IsSaid, SaysCommand}
use Rattle.repl_cmd.specs.Refusal.{Leaves, IsCommandFault, IsFaultAt}
use Rattle.repl_cmd.specs.Walk.{Steps, Runs, IsStop, finish}
use Rattle.repl_cmd.proofs.Walking.{runs_more, one_walk, walk_says, says_walk, stuck_stops, ended_stops, step_fault}

-- ---- while tokens are read

-- the tokens before this place lead to the state
pub record IsWalked (text : List ℕ) (at : ℕ) (s : State) : Type 0 where
  pub before : List Lexeme
  pub leads : Leads command_class command_token text before at
  pub runs : Runs state.Start before s

pub walked_none : (text : List ℕ) → IsWalked text 0 state.Start
walked_none text = record { before = []; leads = leads_none command_class command_token text; runs = refl }

pub walked_more : (text : List ℕ) (at : ℕ) (s : State) (token : RawToken) (end : ℕ) (next : State) → IsWalked text at s
    → IsNext command_class at (drop at text) token (drop end text) → end ≤ length text → Steps s (command_token token) next
    → IsWalked text end next
walked_more text at s token end next w is within step = record {
  before = w.before ++ command_token token ∷ [];
  leads = leads_more command_class command_token text w.before at token end w.leads is within;
  runs = runs_more state.Start s next w.before (command_token token) w.runs step;
}

pub walked_read : (text : List ℕ) (at : ℕ) (s : State) (c : Command) → IsWalked text at s → lexer.Reads command_class at (drop at text) []
    → finish s ≡ Some c → SaysCommand text c
walked_read text at s c w reads ends = record {
  tokens = w.before;
  reads = leads_all command_class command_token text w.before at w.leads reads;
  says = walk_says w.before s c w.runs ends;
}

-- ---- refusals

pub walked_stops : (text : List ℕ) (at : ℕ) (s : State) (token : RawToken) (end : ℕ) (f : CmdFault) → IsWalked text at s
    → IsNext command_class at (drop at text) token (drop end text) → end ≤ length text → IsStop s (command_token token) f → Leaves text f
walked_stops text at s token end f w is within stop =
    let own = command_token token in
    let rest = has_reading_as command_class command_token end (drop end text) in
    let more = leads_more command_class command_token text w.before at token end w.leads is within in
    let tokens = w.before ++ own ∷ rest.0 in
    let all : ReadsLexemes 0 text tokens = subst (ReadsLexemes 0 text) (append_assoc w.before (own ∷ []) rest.0)
    (leads_on command_class command_token text (w.before ++ own ∷ []) rest.0 end more rest.1) in
    let cause : IsFaultAt w.before (own ∷ rest.0) (length text) f = step_fault w.before s own f w.runs stop in
    record {
      tokens = tokens;
      index = length w.before;
      reads = all;
      stops = stuck_stops w.before rest.0 own s w.runs stop.stuck;
      cause = rw (take-append_seam w.before (own ∷ rest.0), drop-append_seam w.before (own ∷ rest.0)) cause;
    }

pub walked_ends : (text : List ℕ) (at : ℕ) (s : State) → IsWalked text at s → lexer.Reads command_class at (drop at text) []
    → finish s ≡ None → Leaves text (fault.Syntax (length text))
walked_ends text at s w reads none = record {
  tokens = w.before;
  index = length w.before;
  reads = leads_all command_class command_token text w.before at w.leads reads;
  stops = ended_stops w.before s w.runs none;
  cause = rw (take-length w.before, drop-length w.before) refl;
}

pub leaves_refused : (text : List ℕ) (f : CmdFault) → Leaves text f → IsCommandFault text f
leaves_refused text fault.Memory l = tt
leaves_refused text (fault.Syntax place) l = l
leaves_refused text (fault.Unsupported what) l = l
leaves_refused text (fault.BadSlotName place) l = l
leaves_refused text (fault.BadLsn place) l = l
leaves_refused text (fault.BadNumber place) l = l
leaves_refused text (fault.BadNames found) l = l

-- ---- laws

pub one_read : (text : List ℕ) (a b : Command) → SaysCommand text a → SaysCommand text b → a ≡ b
one_read text a b g h =
    let same = reads_as_one command_class command_token 0 text g.tokens h.tokens g.reads h.reads in
    let says : Says g.tokens b = subst (λ (ts : List Lexeme). Says ts b) (sym same) h.says in
    let p = says_walk g.tokens a g.says in
    let q = says_walk g.tokens b says in
    let one = one_walk state.Start p.0 q.0 g.tokens p.1 q.1 in
    let some : Some a ≡ Some b = sym p.2 ∙ ap finish one ∙ q.2 in
    cc

pub leaves_unread : (text : List ℕ) (f : CmdFault) (c : Command) → Leaves text f → ¬ SaysCommand text c
leaves_unread text f c l = λ h. l.stops.refused (
  c,
  subst (λ (ts : List Lexeme). Says ts c)
      (reads_as_one command_class command_token 0 text h.tokens l.tokens h.reads l.reads) h.says,
)

pub stopped_front : (text other : List ℕ) (tokens more : List Lexeme) (index : ℕ) (c : Command) → ReadsLexemes 0 text tokens
    → StopsAt IsSaid tokens index → index < length tokens → ReadsLexemes 0 other (take (index + 1) tokens ++ more) → ¬ SaysCommand other c
stopped_front text other tokens more index c reads stops below front =
    λ h. stops.stops below (
      more,
      (
        c,
        subst (λ (ts : List Lexeme). Says ts c)
            (reads_as_one command_class command_token 0 other h.tokens (take (index + 1) tokens ++ more) h.reads front) h.says,
      ),
    )

-- ---- answers

-- the fault is want of memory, or the text leaves the grammar by it
abbrev pub IsFaultHere : List ℕ → CmdFault → Type 0
IsFaultHere text f = (f ≡ fault.Memory) ⊎ Leaves text f

pub here_refused : (text : List ℕ) (f : CmdFault) → IsFaultHere text f → IsCommandFault text f
here_refused text f h = elim h [ inl e ↦ subst (IsCommandFault text) (sym e) tt | inr l ↦ leaves_refused text f l ]

pub here_only : (text : List ℕ) (r : Result Command CmdFault) (f : CmdFault) → r ≡ Err f → IsFaultHere text f → (c : Command)
    → SaysCommand text c → (r ≡ Ok c) ⊎ (r ≡ Err fault.Memory)
here_only text r f is h = λ c read. elim h [ inl e ↦ inr cc | inr l ↦ absurd (leaves_unread text f c l read) ]

pub read_only : (text : List ℕ) (r : Result Command CmdFault) (made : Command) → r ≡ Ok made → SaysCommand text made → (c : Command)
    → SaysCommand text c → (r ≡ Ok c) ⊎ (r ≡ Err fault.Memory)
read_only text r made is read = λ c said. inl (is ∙ ap (λ (x : Command). Ok x) (one_read text made c read said))
