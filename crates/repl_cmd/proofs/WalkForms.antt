-- The tokens of each form lead to a state in which its command may end.
use Rattle.std.proofs.Common.{◌≡◌, ℕ, Bool, true, false, inl, inr, List, [], ◌∷◌, ◌++◌, Option, Some, None, codes, refl, ap, ◌∙◌}
use Rattle.repl_cmd.specs.declared.command.Command.{Command}
use Rattle.repl_cmd.specs.declared.command.Command.TheVariants as command
use Rattle.repl_cmd.specs.declared.state.State.{State}
use Rattle.repl_cmd.specs.declared.state.State.TheVariants as state
use Rattle.repl_cmd.specs.declared.token.Kind.TheVariants as kind
use Rattle.repl_cmd.specs.Token.{Lexeme}
use Rattle.repl_cmd.specs.Command.{Part, Keyword, Sign, Slot, Parameter, Position, Number, Flag, Value, Body, Names, Is, Follow, OneOf, create_physical, reserve_wal, opening, closing, start_words, timeline_part, set_words, alter_words, forms}
use Rattle.repl_cmd.specs.Walk.{first_state, finish, Moves, Runs}

-- tokens that are these parts lead from the state to the other
pub record Leads (a : State) (parts : List Part) (b : State) : Type 0 where
  pub runs : (ts : List Lexeme) → Follow parts ts → Runs a ts b

pub done : {a : State} → Leads a [] a
done {a} = record { runs = go }
  where
    go : (ts : List Lexeme) → Follow [] ts → Runs a ts a
    go [] f = refl
    go (t ∷ ts) f = absurd f

-- the first part leads to the state b, and the others go on from there
pub more : {a c : State} {p : Part} {ps : List Part} (b : State) → ((t : Lexeme) → Is p t → Moves a t b) → Leads b ps c → Leads a (p ∷ ps) c
more {a} {c} {p} {ps} b move rest = record { runs = go }
  where
    go : (ts : List Lexeme) → Follow (p ∷ ps) ts → Runs a ts c
    go [] f = absurd f
    go (t ∷ ts) f = (b, inl (move t f.0), rest.runs ts f.1)

-- the first word of a command
pub first : {c : State} {ps : List Part} (word : List ℕ) (b : State) → first_state word ≡ Some b → Leads b ps c
    → Leads state.Start (Keyword word ∷ ps) c
first word b e rest = more b (λ t h. (h.0, ap first_state h.1 ∙ e)) rest

-- ---- the rows, up to where a command may end

pub create_named : {c : State} {ps : List Part} (name : List ℕ) → Leads (state.CreateNamed name) ps c
    → Leads state.Start (Keyword (codes "create_replication_slot") ∷ Slot name ∷ ps) c
create_named name rest = first (codes "create_replication_slot") state.Create refl
    (more (state.CreateNamed name) (λ t h. (name, h, refl)) rest)

create_reserve : (name : List ℕ) (temporary : Bool)
    → Leads (state.Created name temporary) (reserve_wal ∷ []) (state.Done (command.CreateSlot name temporary true))
create_reserve name temporary = more (state.Done (command.CreateSlot name temporary true)) (λ t h. inl (h, refl)) done

create_option : {ps : List Part} {c : State} (name : List ℕ) (temporary : Bool) → Leads (state.CreateOption name temporary) ps c
    → Leads (state.Created name temporary) (opening ∷ reserve_wal ∷ ps) c
create_option name temporary rest = more (state.CreateOpened name temporary) (λ t h. inr (h, refl))
    (more (state.CreateOption name temporary) (λ t h. (h, refl)) rest)

create_plain : (name : List ℕ) (temporary : Bool)
    → Leads (state.CreateOption name temporary) (closing ∷ []) (state.Done (command.CreateSlot name temporary true))
create_plain name temporary = more (state.Done (command.CreateSlot name temporary true)) (λ t h. inl (h, refl)) done

create_valued : (name : List ℕ) (temporary reserve : Bool)
    → Leads (state.CreateOption name temporary) (Flag reserve ∷ closing ∷ []) (state.Done (command.CreateSlot name temporary reserve))
create_valued name temporary reserve =
    more (state.CreateValued name temporary reserve) (λ t h. inr (reserve, h, refl))
    (more (state.Done (command.CreateSlot name temporary reserve)) (λ t h. (h, refl)) done)

pub created : {c : State} {ps : List Part} (name : List ℕ) (temporary : Bool) → Leads (state.Created name temporary) ps c
    → Leads state.Start (create_physical name temporary ++ ps) c
created name true rest = create_named name (more (state.CreateTemporary name) (λ t h. inl (h, refl))
    (more (state.Created name true) (λ t h. (h, refl)) rest))
created name false rest = create_named name (more (state.Created name false) (λ t h. inr (h, refl)) rest)

dropped : {c : State} {ps : List Part} (name : List ℕ) → Leads (state.Dropped name) ps c
    → Leads state.Start (Keyword (codes "drop_replication_slot") ∷ Slot name ∷ ps) c
dropped name rest = first (codes "drop_replication_slot") state.DropSlot refl (more (state.Dropped name) (λ t h. (name, h, refl)) rest)

-- the state after `START_REPLICATION [SLOT name]`
abbrev pub stream_state : Option (List ℕ) → State
stream_state None = state.Stream
stream_state (Some name) = state.StreamNamed name

pub started : {c : State} {ps : List Part} (slot : Option (List ℕ)) → Leads (stream_state slot) ps c
    → Leads state.Start (start_words slot ++ ps) c
started None rest = first (codes "start_replication") state.Stream refl rest
started (Some name) rest = first (codes "start_replication") state.Stream refl
    (more state.StreamSlot (λ t h. inl (h, refl)) (more (state.StreamNamed name) (λ t h. (name, h, refl)) rest))

pub stream_physical : {c : State} {ps : List Part} (slot : Option (List ℕ)) → Leads (state.StreamPhysical slot) ps c
    → Leads (stream_state slot) (Keyword (codes "physical") ∷ ps) c
stream_physical None rest = more (state.StreamPhysical None) (λ t h. inr (inl (h, refl))) rest
stream_physical (Some name) rest = more (state.StreamPhysical (Some name)) (λ t h. inl (h, refl)) rest

pub stream_at : {c : State} {ps : List Part} (slot : Option (List ℕ)) (at : ℕ) → Leads (state.Streamed slot at) ps c
    → Leads (stream_state slot) (Position at ∷ ps) c
stream_at None at rest = more (state.Streamed None at) (λ t h. inr (inr (at, h, refl))) rest
stream_at (Some name) at rest = more (state.Streamed (Some name) at) (λ t h. inr (at, h, refl)) rest

pub physical_at : {c : State} {ps : List Part} (slot : Option (List ℕ)) (at : ℕ) → Leads (state.Streamed slot at) ps c
    → Leads (state.StreamPhysical slot) (Position at ∷ ps) c
physical_at slot at rest = more (state.Streamed slot at) (λ t h. (at, h, refl)) rest

-- the state past the position and what follows it
abbrev streamed_state : Option (List ℕ) → ℕ → Option ℕ → State
streamed_state slot at None = state.Streamed slot at
streamed_state slot at (Some n) = state.Done (command.StartReplication slot at (Some n))

streamed : (slot : Option (List ℕ)) (at : ℕ) (timeline : Option ℕ)
    → Leads (state.Streamed slot at) (timeline_part timeline) (streamed_state slot at timeline)
streamed slot at None = done
streamed slot at (Some n) =
    more (state.StreamTimeline slot at) (λ t h. (h, refl)) (more (state.Done (command.StartReplication slot at (Some n)))
    (λ t h. (n, h, refl)) done)

setting : {c : State} {ps : List Part} → Leads state.SetCommit ps c
    → Leads state.Start (Keyword (codes "set") ∷ Keyword (codes "synchronous_commit") ∷ ps) c
setting rest = first (codes "set") state.Set refl (more state.SetCommit (λ t h. (h, refl)) rest)

pub altered : {c : State} {ps : List Part} → Leads state.AlterText ps c
    → Leads state.Start (Keyword (codes "alter") ∷ Keyword (codes "system") ∷ Keyword (codes "set") ∷ Keyword
    (codes "synchronous_standby_names") ∷ Sign kind.Equals ∷ ps) c
altered rest = first (codes "alter") state.Alter refl
    (more state.AlterSystem (λ t h. (h, refl)) (more state.AlterSet (λ t h. (h, refl))
    (more state.AlterNames (λ t h. (h, refl)) (more state.AlterText (λ t h. (h, refl)) rest))))

-- ---- the forms

-- the command that may end here, where no semicolon has ended it
abbrev pub may_finish : State → Option Command
may_finish (state.Ended c) = None
may_finish s = finish s

-- the tokens lead to a state in which the command may end
pub record Comes (ts : List Lexeme) (c : Command) : Type 0 where
  pub at : State
  pub runs : Runs state.Start ts at
  pub ends : may_finish at ≡ Some c

comes : {ps : List Part} (ts : List Lexeme) (c : Command) (at : State) → may_finish at ≡ Some c → Leads state.Start ps at → Follow ps ts
    → Comes ts c
comes ts c at e leads f = record { at = at; runs = leads.runs ts f; ends = e }

create_comes : (name : List ℕ) (temporary reserve : Bool) (ts : List Lexeme) → OneOf (forms (command.CreateSlot name temporary reserve)) ts
    → Comes ts (command.CreateSlot name temporary reserve)
create_comes name temporary true ts (inl f) = comes ts _ (state.Done (command.CreateSlot name temporary true)) refl
    (created name temporary (create_reserve name temporary)) f
create_comes name temporary true ts (inr (inl f)) = comes ts _ (state.Done (command.CreateSlot name temporary true)) refl
    (created name temporary (create_option name temporary (create_plain name temporary))) f
create_comes name temporary true ts (inr (inr (inl f))) = comes ts _ (state.Done (command.CreateSlot name temporary true)) refl
    (created name temporary (create_option name temporary (create_valued name temporary true))) f
create_comes name temporary true ts (inr (inr (inr f))) = absurd f
create_comes name temporary false ts (inl f) = comes ts _ (state.Created name temporary) refl (created name temporary done) f
create_comes name temporary false ts (inr (inl f)) = comes ts _ (state.Done (command.CreateSlot name temporary false)) refl
    (created name temporary (create_option name temporary (create_valued name temporary false))) f
create_comes name temporary false ts (inr (inr f)) = absurd f

stream_ends : (slot : Option (List ℕ)) (at : ℕ) (timeline : Option ℕ)
    → may_finish (streamed_state slot at timeline) ≡ Some (command.StartReplication slot at timeline)
stream_ends slot at None = refl
stream_ends slot at (Some n) = refl

-- the parts of `START_REPLICATION` with `PHYSICAL`, bracketed as its forms have them
pub physical_forms : (slot : Option (List ℕ)) (ps : List Part) (ts : List Lexeme)
    → Follow ((start_words slot ++ Keyword (codes "physical") ∷ []) ++ ps) ts
    → Follow (start_words slot ++ Keyword (codes "physical") ∷ ps) ts
physical_forms None ps ts f = f
physical_forms (Some name) ps ts f = f

stream_comes : (slot : Option (List ℕ)) (at : ℕ) (timeline : Option ℕ) (ts : List Lexeme)
    → OneOf (forms (command.StartReplication slot at timeline)) ts → Comes ts (command.StartReplication slot at timeline)
stream_comes slot at timeline ts (inl f) = comes ts _ (streamed_state slot at timeline) (stream_ends slot at timeline)
    (started slot (stream_at slot at (streamed slot at timeline))) f
stream_comes slot at timeline ts (inr (inl f)) =
    comes ts _ (streamed_state slot at timeline) (stream_ends slot at timeline)
    (started slot (stream_physical slot (physical_at slot at (streamed slot at timeline))))
    (physical_forms slot (Position at ∷ timeline_part timeline) ts f)
stream_comes slot at timeline ts (inr (inr f)) = absurd f

pub form_comes : (c : Command) (ts : List Lexeme) → OneOf (forms c) ts → Comes ts c
form_comes command.IdentifySystem ts (inl f) = comes ts _ (state.Done command.IdentifySystem) refl
    (first (codes "identify_system") _ refl done) f
form_comes (command.Show name) ts (inl f) = comes {ps = Keyword (codes "show") ∷ Parameter name ∷ []} ts _
    (state.Done (command.Show name)) refl (first (codes "show") state.Show refl (more _ (λ t h. (name, h, refl)) done)) f
form_comes (command.TimelineHistory n) ts (inl f) = comes {ps = Keyword (codes "timeline_history") ∷ Number 1 n ∷ []} ts _
    (state.Done (command.TimelineHistory n)) refl (first (codes "timeline_history") state.History refl
    (more _ (λ t h. (n, h, refl)) done)) f
form_comes (command.CreateSlot name temporary reserve) ts f = create_comes name temporary reserve ts f
form_comes (command.DropSlot name true) ts (inl f) = comes {ps = Keyword (codes "drop_replication_slot") ∷ Slot name ∷ Keyword
    (codes "wait") ∷ []} ts _ (state.Done (command.DropSlot name true)) refl (dropped name (more _ (λ t h. (h, refl)) done)) f
form_comes (command.DropSlot name false) ts (inl f) = comes ts _ (state.Dropped name) refl (dropped name done) f
form_comes (command.ReadSlot name) ts (inl f) = comes {ps = Keyword (codes "read_replication_slot") ∷ Slot name ∷ []} ts _
    (state.Done (command.ReadSlot name)) refl (first (codes "read_replication_slot") state.ReadSlot refl
    (more _ (λ t h. (name, h, refl)) done)) f
form_comes (command.StartReplication slot at timeline) ts f = stream_comes slot at timeline ts f
form_comes (command.Append xid body) ts (inl f) =
    comes {ps = Keyword (codes "append") ∷ Number 0 xid ∷ Body body ∷ []} ts _ (state.Done (command.Append xid body)) refl
    (first (codes "append") state.Append refl (more (state.AppendBody xid) (λ t h. (xid, h, refl))
    (more _ (λ t h. (body, h, refl)) done))) f
form_comes (command.SetCommit v) ts (inl f) = comes {ps = set_words ++ Sign kind.Equals ∷ Value v ∷ []} ts _
    (state.Done (command.SetCommit v)) refl (setting (more state.SetValue (λ t h. (inl h, refl)) (more _ (λ t h. (v, h, refl)) done))) f
form_comes (command.SetCommit v) ts (inr (inl f)) = comes {ps = set_words ++ Keyword (codes "to") ∷ Value v ∷ []} ts _
    (state.Done (command.SetCommit v)) refl (setting (more state.SetValue (λ t h. (inr h, refl)) (more _ (λ t h. (v, h, refl)) done))) f
form_comes (command.SetCommit v) ts (inr (inr f)) = absurd f
form_comes (command.SetNames list) ts (inl f) = comes {ps = alter_words ++ Names list ∷ []} ts _ (state.Done (command.SetNames list)) refl
    (altered (more _ (λ t h. (list, h, refl)) done)) f
form_comes (command.Promote (Some n)) ts (inl f) = comes {ps = Keyword (codes "promote") ∷ Number 1 n ∷ []} ts _
    (state.Done (command.Promote (Some n))) refl (first (codes "promote") state.Promote refl (more _ (λ t h. (n, h, refl)) done)) f
form_comes (command.Promote None) ts (inl f) = comes ts _ state.Promote refl (first (codes "promote") state.Promote refl done) f
form_comes command.Demote ts (inl f) = comes ts _ (state.Done command.Demote) refl (first (codes "demote") _ refl done) f
form_comes command.Trim ts (inl f) = comes ts _ (state.Done command.Trim) refl (first (codes "trim") _ refl done) f
form_comes command.Status ts (inl f) = comes ts _ (state.Done command.Status) refl (first (codes "status") _ refl done) f
form_comes command.Stop ts (inl f) = comes ts _ (state.Done command.Stop) refl (first (codes "stop") _ refl done) f
form_comes _ ts (inr f) = absurd f
