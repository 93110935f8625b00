-- From every state tokens lead to some command, and where a walk is stuck or comes to no command, the tokens leave
-- the grammar.
use Rattle.std.proofs.Common.{◌≡◌, ℕ, ◌+◌, ◌≤◌, Bool, true, false, inl, inr, List, [], ◌∷◌, ◌++◌, length, take, Option, Some, None, codes, refl, sym, ap, subst, ◌∙◌, arith, length-append}
use Rattle.std.proofs.lemmas.List.{append_assoc, append-nil}
use Rattle.std.proofs.Math.Seq.{take-append_seam, take-append-add, take-length}
use Rattle.std.proofs.lemmas.List.Elements.{All-nil, All-cons}
use Rattle.std.specs.Char.{is_ascii_digit}
use Rattle.hex.specs.Hex.{decode_pairs}
use Rattle.repl_text.specs.Text.{IsText}
use Rattle.repl_text.specs.Language.{Begins, StopsAt}
use Rattle.repl_text.proofs.Literals.{text_from_test}
use Rattle.repl_lsn.specs.Position.{IsHalf}
use Rattle.repl_names.specs.declared.list.Method.TheVariants as method
use Rattle.repl_names.specs.declared.setting.Setting.TheVariants as setting
use Rattle.repl_names.specs.StandbyList.{Listing}
use Rattle.repl_token.proofs.Written.{read_end}
use Rattle.repl_names.specs.Token.{list_class, list_token}
use Rattle.repl_cmd.specs.declared.command.Command.{Command}
use Rattle.repl_cmd.specs.declared.command.Command.TheVariants as command
use Rattle.repl_cmd.specs.declared.state.State.{State}
use Rattle.repl_cmd.specs.declared.state.State.TheVariants as state
use Rattle.repl_cmd.specs.declared.token.Kind.{Kind}
use Rattle.repl_cmd.specs.declared.token.Kind.TheVariants as kind
use Rattle.repl_text.specs.SlotName.{is_slot_byte}
use Rattle.repl_cmd.specs.Token.{Lexeme}
use Rattle.repl_cmd.specs.Command.{IsSlot, IsParameter, IsPosition, IsNumber, IsBody, IsList, Says, IsSaid, IsEnding}
use Rattle.repl_cmd.specs.Walk.{Moves, Steps, Runs, finish, IsStuck}
use Rattle.repl_cmd.proofs.WalkSteps.{run_append, run_split, one_run}
use Rattle.repl_cmd.proofs.WalkForms.{Comes, may_finish, form_comes}
use Rattle.repl_cmd.proofs.WalkReached.{reached, reached_says}

-- ---- tokens to go on with

abbrev token : Kind → List ℕ → Lexeme
token k text = record { kind = k; place = 0; text = text }

abbrev word : List ℕ → Lexeme
word text = token kind.Word text

a_slot : IsSlot (codes "a") (word (codes "a"))
a_slot = record {
  written = inl (refl, refl);
  is_name = record {
    some = omega arith;
    short = omega arith;
    bytes = All-cons (λ c. is_slot_byte c ≡ true) 97 [] refl
        (All-nil (λ c. is_slot_byte c ≡ true));
  };
}

a_parameter : IsParameter (codes "a") (word (codes "a"))
a_parameter = record { naming = inl refl; text = text_from_test (codes "a") refl; written = refl }

a_number : (least : ℕ) → least ≤ 1 → IsNumber least 1 (word (codes "1"))
a_number least le = record {
  word = refl;
  digits = All-cons (λ c. is_ascii_digit c ≡ true) 49 [] refl (All-nil (λ c. is_ascii_digit c ≡ true));
  value = refl;
  above = le;
  below = omega arith;
}

zero_half : IsHalf (codes "0")
zero_half = record { some = omega arith; few = omega arith; hexadecimal = (omega arith, tt) }

a_position : IsPosition 0 (token kind.Position (codes "0/0"))
a_position = (refl, record { high = codes "0"; low = codes "0"; high_is = zero_half; low_is = zero_half; parts = refl; value = refl })

a_body : IsBody [] (token kind.Text [])
unfolding decode_pairs
a_body = (refl, refl)

abbrev no_names : Listing
no_names = record { method = method.First; number = 0; names = [] }

a_list : IsList no_names (token kind.Text [])
a_list = (
  refl,
  record {
    spells = record { tokens = []; number = None; reads = read_end list_class list_token 0; says = (refl, inl (refl, refl)); value = refl };
    is_listing = record { texts = All-nil IsText; demands = (refl, refl); short = omega arith };
  },
)

-- ---- from every state

-- these tokens lead from the state to a command
record Ends (s : State) : Type 0 where
  more : List Lexeme
  c : Command
  at : State
  runs : Runs s more at
  ends : finish at ≡ Some c

here : (s : State) (c : Command) → finish s ≡ Some c → Ends s
here s c e = record { more = []; c = c; at = s; runs = refl; ends = e }

by : (t : Lexeme) (s b : State) → Moves s t b → Ends b → Ends s
by t s b m e = record { more = t ∷ e.more; c = e.c; at = e.at; runs = (b, inl m, e.runs); ends = e.ends }

to_done : (t : Lexeme) (s : State) (c : Command) → Moves s t (state.Done c) → Ends s
to_done t s c m = by t s (state.Done c) m (here (state.Done c) c refl)

created_ends : (name : List ℕ) (temporary : Bool) → Ends (state.Created name temporary)
created_ends name temporary = here (state.Created name temporary) (command.CreateSlot name temporary false) refl

named_ends : (name : List ℕ) → Ends (state.CreateNamed name)
named_ends name = by (word (codes "physical")) _ (state.Created name false) (inr ((refl, refl), refl)) (created_ends name false)

streamed_ends : (slot : Option (List ℕ)) (at : ℕ) → Ends (state.Streamed slot at)
streamed_ends slot at = here (state.Streamed slot at) (command.StartReplication slot at None) refl

stream_named_ends : (name : List ℕ) → Ends (state.StreamNamed name)
stream_named_ends name = by (token kind.Position (codes "0/0")) _ (state.Streamed (Some name) 0) (inr (0, a_position, refl))
    (streamed_ends (Some name) 0)

value_ends : Ends state.SetValue
value_ends = to_done (word (codes "on")) _ (command.SetCommit setting.On) (setting.On, (inl refl, refl), refl)

commit_ends : Ends state.SetCommit
commit_ends = by (token kind.Equals []) _ state.SetValue (inl refl, refl) value_ends

text_ends : Ends state.AlterText
text_ends = to_done (token kind.Text []) _ (command.SetNames no_names) (no_names, a_list, refl)

names_end : Ends state.AlterNames
names_end = by (token kind.Equals []) _ state.AlterText (refl, refl) text_ends

set_ends : Ends state.AlterSet
set_ends = by (word (codes "synchronous_standby_names")) _ state.AlterNames ((refl, refl), refl) names_end

system_ends : Ends state.AlterSystem
system_ends = by (word (codes "set")) _ state.AlterSet ((refl, refl), refl) set_ends

ends_from : (s : State) → Ends s
ends_from state.Start = to_done (word (codes "stop")) _ command.Stop (refl, refl)
ends_from state.Show = to_done (word (codes "a")) _ (command.Show (codes "a")) (codes "a", a_parameter, refl)
ends_from state.History = to_done (word (codes "1")) _ (command.TimelineHistory 1) (1, a_number 1 (omega arith), refl)
ends_from state.Create = by (word (codes "a")) _ (state.CreateNamed (codes "a")) (codes "a", a_slot, refl) (named_ends (codes "a"))
ends_from (state.CreateNamed name) = named_ends name
ends_from (state.CreateTemporary name) = by (word (codes "physical")) _ (state.Created name true) ((refl, refl), refl)
    (created_ends name true)
ends_from (state.Created name temporary) = created_ends name temporary
ends_from (state.CreateOpened name temporary) =
    by (word (codes "reserve_wal")) _ (state.CreateOption name temporary) ((refl, refl), refl)
    (to_done (token kind.Closing []) _ (command.CreateSlot name temporary true) (inl (refl, refl)))
ends_from (state.CreateOption name temporary) = to_done (token kind.Closing []) _ (command.CreateSlot name temporary true)
    (inl (refl, refl))
ends_from (state.CreateValued name temporary reserve) = to_done (token kind.Closing []) _ (command.CreateSlot name temporary reserve)
    (refl, refl)
ends_from state.DropSlot = by (word (codes "a")) _ (state.Dropped (codes "a")) (codes "a", a_slot, refl)
    (here (state.Dropped (codes "a")) (command.DropSlot (codes "a") false) refl)
ends_from (state.Dropped name) = here (state.Dropped name) (command.DropSlot name false) refl
ends_from state.ReadSlot = to_done (word (codes "a")) _ (command.ReadSlot (codes "a")) (codes "a", a_slot, refl)
ends_from state.Stream = by (token kind.Position (codes "0/0")) _ (state.Streamed None 0) (inr (inr (0, a_position, refl)))
    (streamed_ends None 0)
ends_from state.StreamSlot = by (word (codes "a")) _ (state.StreamNamed (codes "a")) (codes "a", a_slot, refl)
    (stream_named_ends (codes "a"))
ends_from (state.StreamNamed name) = stream_named_ends name
ends_from (state.StreamPhysical slot) = by (token kind.Position (codes "0/0")) _ (state.Streamed slot 0) (0, a_position, refl)
    (streamed_ends slot 0)
ends_from (state.Streamed slot at) = streamed_ends slot at
ends_from (state.StreamTimeline slot at) = to_done (word (codes "1")) _ (command.StartReplication slot at (Some 1))
    (1, a_number 1 (omega arith), refl)
ends_from state.Append = by (word (codes "1")) _ (state.AppendBody 1) (1, a_number 0 (omega arith), refl)
    (to_done (token kind.Text []) _ (command.Append 1 []) ([], a_body, refl))
ends_from (state.AppendBody n) = to_done (token kind.Text []) _ (command.Append n []) ([], a_body, refl)
ends_from state.Set = by (word (codes "synchronous_commit")) _ state.SetCommit ((refl, refl), refl) commit_ends
ends_from state.SetCommit = commit_ends
ends_from state.SetValue = value_ends
ends_from state.Alter = by (word (codes "system")) _ state.AlterSystem ((refl, refl), refl) system_ends
ends_from state.AlterSystem = system_ends
ends_from state.AlterSet = set_ends
ends_from state.AlterNames = names_end
ends_from state.AlterText = text_ends
ends_from state.Promote = here state.Promote (command.Promote None) refl
ends_from (state.Done c) = here (state.Done c) c refl
ends_from (state.Ended c) = here (state.Ended c) c refl

-- ---- what tokens say, and where they lead

pub run_says : (tokens : List Lexeme) (s : State) (c : Command) → Runs state.Start tokens s → finish s ≡ Some c → Says tokens c
run_says tokens s c run ends = reached_says s c tokens ends (reached s tokens run)

close : (a : State) (c : Command) (t : Lexeme) → may_finish a ≡ Some c → t.kind ≡ kind.Semicolon → Steps a t (state.Ended c)
close (state.Ended d) c t e k = absurd cc
close _ c t e k = inr (k, (c, e, refl))

finishes : (a : State) (c : Command) → may_finish a ≡ Some c → finish a ≡ Some c
finishes (state.Ended d) c e = absurd cc
finishes _ c e = e

-- the tokens lead to a state in which the command ends
pub record Arrives (ts : List Lexeme) (c : Command) : Type 0 where
  pub at : State
  pub runs : Runs state.Start ts at
  pub ends : finish at ≡ Some c

arrives : (said ending : List Lexeme) (c : Command) → IsEnding ending → Comes said c → Arrives (said ++ ending) c
arrives said [] c e h = record {
  at = h.at;
  runs = subst (λ (ts : List Lexeme). Runs state.Start ts h.at) (sym (append-nil said)) h.runs;
  ends = finishes h.at c h.ends;
}
arrives said (t ∷ []) c e h = record {
  at = state.Ended c;
  runs = run_append state.Start h.at (state.Ended c) said (t ∷ []) h.runs (state.Ended c, close h.at c t h.ends e, refl);
  ends = refl;
}
arrives said (t ∷ u ∷ ts) c e h = absurd e

pub says_arrives : (tokens : List Lexeme) (c : Command) → Says tokens c → Arrives tokens c
says_arrives tokens c says = subst (λ (ts : List Lexeme). Arrives ts c) (sym says.parts)
    (arrives says.said says.ending c says.ends (form_comes c says.said says.is_said))

pub run_goes_on : (before : List Lexeme) (s : State) → Runs state.Start before s → Begins IsSaid before
run_goes_on before s run = let e = ends_from s in (
  e.more,
  (
    e.c,
    run_says (before ++ e.more) e.at e.c
        (run_append state.Start s e.at before e.more run e.runs) e.ends,
  ),
)

-- nothing after the token mends it
pub stuck_unsaid : (before past : List Lexeme) (t : Lexeme) (s : State) → Runs state.Start before s → IsStuck s t
    → ¬ IsSaid (before ++ t ∷ past)
stuck_unsaid before past t s run stuck (c, says) =
    let h = says_arrives (before ++ t ∷ past) c says in
    let parts = run_split state.Start h.at before (t ∷ past) h.runs in
    let same : parts.0 ≡ s = one_run state.Start parts.0 s before parts.1 run in
    stuck parts.2.0 (subst (λ (a : State). Steps a t parts.2.0) same parts.2.1)

pub stuck_stops_at : (before past : List Lexeme) (t : Lexeme) (s : State) → Runs state.Start before s → IsStuck s t
    → StopsAt IsSaid (before ++ t ∷ past) (length before)
stuck_stops_at before past t s run stuck = record {
  within = omega (arith, length-append before (t ∷ past));
  refused = stuck_unsaid before past t s run stuck;
  goes_on = subst (Begins IsSaid) (sym (take-append_seam before (t ∷ past))) (run_goes_on before s run);
  stops = λ _ b.
      let front : take (length before + 1) (before ++ t ∷ past) ≡ before ++ t ∷ [] = take-append-add before (t ∷ past) 1 in
      let said : IsSaid ((before ++ t ∷ []) ++ b.0) = subst (λ (ts : List Lexeme). IsSaid (ts ++ b.0)) front b.1 in
      stuck_unsaid before b.0 t s run stuck (subst IsSaid (append_assoc before (t ∷ []) b.0) said);
}

pub end_stops_at : (tokens : List Lexeme) (s : State) → Runs state.Start tokens s → finish s ≡ None → StopsAt IsSaid tokens (length tokens)
end_stops_at tokens s run none = record {
  within = omega arith;
  refused = refused;
  goes_on = subst (Begins IsSaid) (sym (take-length tokens)) (run_goes_on tokens s run);
  stops = λ l. absurd (omega arith);
}
  where
    refused : ¬ IsSaid tokens
    refused (c, says) =
        let h = says_arrives tokens c says in
        let same : h.at ≡ s = one_run state.Start h.at s tokens h.runs run in
        let e : Some c ≡ None = sym h.ends ∙ ap finish same ∙ none in
        absurd cc
