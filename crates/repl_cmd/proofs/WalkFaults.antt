-- What is wanted in a state is what is wanted after the tokens that lead there, and so are the faults.
use Rattle.std.proofs.Common.{◌≡◌, ℕ, Bool, true, false, inl, inr, List, [], ◌∷◌, ◌++◌, Option, Some, None, codes, refl, ap, subst}
use Rattle.std.proofs.lemmas.Bool.{false≢true}
use Rattle.repl_cmd.specs.declared.fault.CmdFault.{CmdFault}
use Rattle.repl_cmd.specs.declared.fault.CmdFault.TheVariants as fault
use Rattle.repl_cmd.specs.declared.fault.Unsupported.{Unsupported}
use Rattle.repl_cmd.specs.declared.fault.Unsupported.TheVariants as unsupported
use Rattle.repl_cmd.specs.declared.state.State.{State}
use Rattle.repl_cmd.specs.declared.state.State.TheVariants as state
use Rattle.repl_cmd.specs.Token.{Lexeme}
use Rattle.repl_cmd.specs.Command.{Part, Keyword, Position, Follow, OneOf, create_words, start_words, alter_words}
use Rattle.repl_cmd.specs.Refusal.{WantsPhysical, WantsSlot, WantsPosition, WantsNumber, WantsNames, IsLeftOut, IsSpecial, IsFaultOf}
use Rattle.repl_cmd.specs.Walk.{Runs, wants_physical, wants_slot, wants_position, wants_number, wants_names, is_start, LeavesOut, IsOwnFault, IsStepFault}
use Rattle.repl_cmd.proofs.WalkSteps.{one_run}
use Rattle.repl_cmd.proofs.WalkForms.{Leads, done, more, first, create_named, stream_state, started, stream_physical, stream_at, physical_at, altered, physical_forms}
use Rattle.repl_cmd.proofs.WalkReached.{Reached, reached, sole}

-- ---- what is wanted after the tokens is wanted in the state

-- the state after the tokens is the one after their form
known : (test : State → Bool) (form : List Part) (a s : State) (before : List Lexeme) → test a ≡ true → Leads state.Start form a
    → Runs state.Start before s → Follow form before → test s ≡ true
known test form a s before is leads run f = subst (λ (b : State). test b ≡ true)
    (one_run state.Start a s before (leads.runs before f) run) is

named : (name : List ℕ) → Leads state.Start (create_words name false) (state.CreateNamed name)
named name = create_named name done

temporary_named : (name : List ℕ) → Leads state.Start (create_words name true) (state.CreateTemporary name)
temporary_named name = create_named name (more (state.CreateTemporary name) (λ t h. inl (h, refl)) done)

start_named : (slot : Option (List ℕ)) → Leads state.Start (start_words slot) (stream_state slot)
start_named None = started None done
start_named (Some name) = started (Some name) done

start_physical : (slot : Option (List ℕ)) → Leads state.Start (start_words slot ++ Keyword (codes "physical") ∷ [])
    (state.StreamPhysical slot)
start_physical slot = started slot (stream_physical slot done)

timeline_word : (slot : Option (List ℕ)) (at : ℕ)
    → Leads (state.Streamed slot at) (Keyword (codes "timeline") ∷ []) (state.StreamTimeline slot at)
timeline_word slot at = more (state.StreamTimeline slot at) (λ t h. (h, refl)) done

wants_physical_stream : (slot : Option (List ℕ)) → wants_physical (stream_state slot) ≡ true
wants_physical_stream None = refl
wants_physical_stream (Some name) = refl

wants_position_stream : (slot : Option (List ℕ)) → wants_position (stream_state slot) ≡ true
wants_position_stream None = refl
wants_position_stream (Some name) = refl

physical_wanted : (before : List Lexeme) (s : State) → Runs state.Start before s → WantsPhysical before → wants_physical s ≡ true
physical_wanted before s run (name, true, slot, inl f) = known wants_physical (create_words name true)
    (state.CreateTemporary name) s before refl (temporary_named name) run f
physical_wanted before s run (name, false, slot, inl f) = known wants_physical (create_words name false)
    (state.CreateNamed name) s before refl (named name) run f
physical_wanted before s run (name, temporary, slot, inr (inl f)) = known wants_physical (start_words slot) (stream_state slot) s before
    (wants_physical_stream slot) (start_named slot) run f
physical_wanted before s run (name, temporary, slot, inr (inr f)) = absurd f

slot_wanted : (before : List Lexeme) (s : State) → Runs state.Start before s → WantsSlot before → wants_slot s ≡ true
slot_wanted before s run (inl f) = known wants_slot (Keyword (codes "create_replication_slot") ∷ []) state.Create s before refl
    (first (codes "create_replication_slot") state.Create refl done) run f
slot_wanted before s run (inr (inl f)) = known wants_slot (Keyword (codes "drop_replication_slot") ∷ []) state.DropSlot s before refl
    (first (codes "drop_replication_slot") state.DropSlot refl done) run f
slot_wanted before s run (inr (inr (inl f))) = known wants_slot (Keyword (codes "read_replication_slot") ∷ []) state.ReadSlot s before refl
    (first (codes "read_replication_slot") state.ReadSlot refl done) run f
slot_wanted before s run (inr (inr (inr (inl f)))) =
    known wants_slot (Keyword (codes "start_replication") ∷ Keyword (codes "slot") ∷ []) state.StreamSlot s before refl
    (first (codes "start_replication") state.Stream refl (more state.StreamSlot (λ t h. inl (h, refl)) done))
    run f
slot_wanted before s run (inr (inr (inr (inr f)))) = absurd f

position_wanted : (before : List Lexeme) (s : State) → Runs state.Start before s → WantsPosition before → wants_position s ≡ true
position_wanted before s run (slot, inl f) = known wants_position (start_words slot) (stream_state slot) s before
    (wants_position_stream slot) (start_named slot) run f
position_wanted before s run (slot, inr (inl f)) = known wants_position (start_words slot ++ Keyword (codes "physical") ∷ [])
    (state.StreamPhysical slot) s before refl (start_physical slot) run f
position_wanted before s run (slot, inr (inr f)) = absurd f

number_wanted : (before : List Lexeme) (s : State) → Runs state.Start before s → WantsNumber before → wants_number s ≡ true
number_wanted before s run (inl (inl f)) = known wants_number (Keyword (codes "timeline_history") ∷ []) state.History s before refl
    (first (codes "timeline_history") state.History refl done) run f
number_wanted before s run (inl (inr (inl f))) = known wants_number (Keyword (codes "append") ∷ []) state.Append s before refl
    (first (codes "append") state.Append refl done) run f
number_wanted before s run (inl (inr (inr (inl f)))) = known wants_number (Keyword (codes "promote") ∷ []) state.Promote s before refl
    (first (codes "promote") state.Promote refl done) run f
number_wanted before s run (inl (inr (inr (inr f)))) = absurd f
number_wanted before s run (inr (slot, at, inl f)) =
    known wants_number (start_words slot ++ Position at ∷ Keyword (codes "timeline") ∷ []) (state.StreamTimeline slot at) s before refl
    (started slot (stream_at slot at (timeline_word slot at))) run f
number_wanted before s run (inr (slot, at, inr (inl f))) =
    known wants_number (start_words slot ++ Keyword (codes "physical") ∷ Position at ∷ Keyword (codes "timeline") ∷ [])
    (state.StreamTimeline slot at) s before refl
    (started slot (stream_physical slot (physical_at slot at (timeline_word slot at))))
    run f
number_wanted before s run (inr (slot, at, inr (inr f))) = absurd f

names_wanted : (before : List Lexeme) (s : State) → Runs state.Start before s → WantsNames before → wants_names s ≡ true
names_wanted before s run (inl f) = known wants_names alter_words state.AlterText s before refl (altered done) run f
names_wanted before s run (inr f) = absurd f

start_wanted : (before : List Lexeme) (s : State) → Runs state.Start before s → before ≡ [] → is_start s ≡ true
start_wanted before s run e = let r : s ≡ state.Start = subst (λ (ts : List Lexeme). Runs state.Start ts s) e run in ap is_start r

-- ---- and the other way round

wants_physical_past : (s : State) (before : List Lexeme) → Reached s before → wants_physical s ≡ true → WantsPhysical before
wants_physical_past (state.CreateNamed name) before h e = (name, false, None, inl (sole (create_words name false) before h))
wants_physical_past (state.CreateTemporary name) before h e = (name, true, None, inl (sole (create_words name true) before h))
wants_physical_past state.Stream before h e = ([], false, None, inr h)
wants_physical_past (state.StreamNamed name) before h e = ([], false, Some name, inr h)
wants_physical_past _ before h e = absurd (false≢true e)

wants_slot_past : (s : State) (before : List Lexeme) → Reached s before → wants_slot s ≡ true → WantsSlot before
wants_slot_past state.Create before h e = inl (sole (Keyword (codes "create_replication_slot") ∷ []) before h)
wants_slot_past state.DropSlot before h e = inr (inl (sole (Keyword (codes "drop_replication_slot") ∷ []) before h))
wants_slot_past state.ReadSlot before h e = inr (inr (inl (sole (Keyword (codes "read_replication_slot") ∷ []) before h)))
wants_slot_past state.StreamSlot before h e = inr (inr (inr h))
wants_slot_past _ before h e = absurd (false≢true e)

wants_position_past : (s : State) (before : List Lexeme) → Reached s before → wants_position s ≡ true → WantsPosition before
wants_position_past state.Stream before h e = (None, inl (sole (start_words None) before h))
wants_position_past (state.StreamNamed name) before h e = (Some name, inl (sole (start_words (Some name)) before h))
wants_position_past (state.StreamPhysical slot) before h e = (slot, inr h)
wants_position_past _ before h e = absurd (false≢true e)

timeline_past : (slot : Option (List ℕ)) (at : ℕ) (before : List Lexeme) → Reached (state.StreamTimeline slot at) before
    → WantsNumber before
timeline_past slot at before (inl f) = inr (slot, at, inl f)
timeline_past slot at before (inr (inl f)) = inr (
  slot,
  at,
  inr (inl (physical_forms slot
      (Position at ∷ Keyword (codes "timeline") ∷ []) before f)),
)
timeline_past slot at before (inr (inr f)) = absurd f

wants_number_past : (s : State) (before : List Lexeme) → Reached s before → wants_number s ≡ true → WantsNumber before
wants_number_past state.History before h e = inl (inl (sole (Keyword (codes "timeline_history") ∷ []) before h))
wants_number_past state.Append before h e = inl (inr (inl (sole (Keyword (codes "append") ∷ []) before h)))
wants_number_past state.Promote before h e = inl (inr (inr h))
wants_number_past (state.StreamTimeline slot at) before h e = timeline_past slot at before h
wants_number_past _ before h e = absurd (false≢true e)

wants_names_past : (s : State) (before : List Lexeme) → Reached s before → wants_names s ≡ true → WantsNames before
wants_names_past state.AlterText before h e = h
wants_names_past _ before h e = absurd (false≢true e)

nothing_before : (before : List Lexeme) → OneOf ([] ∷ []) before → before ≡ []
nothing_before [] h = refl
nothing_before (t ∷ ts) (inl h) = absurd h
nothing_before (t ∷ ts) (inr h) = absurd h

is_start_past : (s : State) (before : List Lexeme) → Reached s before → is_start s ≡ true → before ≡ []
is_start_past state.Start before h e = nothing_before before h
is_start_past _ before h e = absurd (false≢true e)

-- ---- the faults

left_out : (before : List Lexeme) (s : State) (t : Lexeme) (what : Unsupported) → Runs state.Start before s → LeavesOut s t what
    → IsLeftOut before t what
left_out before s t unsupported.Logical run h = (wants_physical_past s before (reached s before run) h.0, h.1)
left_out before s t unsupported.BaseBackup run h = (is_start_past s before (reached s before run) h.0, h.1)
left_out before s t unsupported.UploadManifest run h = (is_start_past s before (reached s before run) h.0, h.1)
left_out before s t unsupported.AlterSlot run h = (is_start_past s before (reached s before run) h.0, h.1)

leaves_out : (before : List Lexeme) (s : State) (t : Lexeme) (what : Unsupported) → Runs state.Start before s → IsLeftOut before t what
    → LeavesOut s t what
leaves_out before s t unsupported.Logical run h = (physical_wanted before s run h.0, h.1)
leaves_out before s t unsupported.BaseBackup run h = (start_wanted before s run h.0, h.1)
leaves_out before s t unsupported.UploadManifest run h = (start_wanted before s run h.0, h.1)
leaves_out before s t unsupported.AlterSlot run h = (start_wanted before s run h.0, h.1)

own_special : (before : List Lexeme) (s : State) (t : Lexeme) (f : CmdFault) → Runs state.Start before s → IsOwnFault s t f
    → IsSpecial before t f
own_special before s t (fault.Syntax place) run h = h
own_special before s t (fault.Unsupported what) run h = left_out before s t what run h
own_special before s t (fault.BadSlotName place) run h = (h.0, wants_slot_past s before (reached s before run) h.1, h.2)
own_special before s t (fault.BadLsn place) run h = (
  h.0,
  wants_position_past s before (reached s before run) h.1,
  h.2,
  λ p. h.3
      (physical_wanted before s run p.0, p.1),
)
own_special before s t (fault.BadNumber place) run h = (h.0, wants_number_past s before (reached s before run) h.1, h.2)
own_special before s t (fault.BadNames found) run h = (wants_names_past s before (reached s before run) h.0, h.1, h.2, h.3)
own_special before s t fault.Memory run h = h

special_own : (before : List Lexeme) (s : State) (t : Lexeme) (f : CmdFault) → Runs state.Start before s → IsSpecial before t f
    → IsOwnFault s t f
special_own before s t (fault.Syntax place) run h = h
special_own before s t (fault.Unsupported what) run h = leaves_out before s t what run h
special_own before s t (fault.BadSlotName place) run h = (h.0, slot_wanted before s run h.1, h.2)
special_own before s t (fault.BadLsn place) run h = (
  h.0,
  position_wanted before s run h.1,
  h.2,
  λ p. h.3
      (wants_physical_past s before (reached s before run) p.0, p.1),
)
special_own before s t (fault.BadNumber place) run h = (h.0, number_wanted before s run h.1, h.2)
special_own before s t (fault.BadNames found) run h = (names_wanted before s run h.0, h.1, h.2, h.3)
special_own before s t fault.Memory run h = h

pub fault_past : (before : List Lexeme) (s : State) (t : Lexeme) (f : CmdFault) → Runs state.Start before s → IsStepFault s t f
    → IsFaultOf before t f
fault_past before s t (fault.Syntax place) run h = (h.0, λ special. h.1 (special.0, special_own before s t special.0 run special.1))
fault_past before s t f run h = own_special before s t f run h
