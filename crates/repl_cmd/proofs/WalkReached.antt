-- What the tokens before each state are.
use Rattle.std.proofs.Common.{◌≡◌, ℕ, Bool, true, false, inl, inr, List, [], ◌∷◌, ◌++◌, map, Option, Some, None, bytes_eq, if◌then◌else◌, codes, refl, sym, ap, subst, ◌∙◌}
use Rattle.std.specs.Char.{to_ascii_lowercase}
use Rattle.std.proofs.lemmas.Slice.Eq.{bytes_eq-Decides}
use Rattle.std.proofs.lemmas.List.{append-nil, append_assoc}
use Rattle.repl_cmd.specs.declared.command.Command.{Command}
use Rattle.repl_cmd.specs.declared.command.Command.TheVariants as command
use Rattle.repl_cmd.specs.declared.state.State.{State}
use Rattle.repl_cmd.specs.declared.state.State.TheVariants as state
use Rattle.repl_cmd.specs.declared.token.Kind.TheVariants as kind
use Rattle.repl_cmd.specs.Token.{Lexeme}
use Rattle.repl_cmd.specs.Command.{Part, Keyword, Sign, Slot, Parameter, Position, Number, Flag, Value, Body, Names, Is, Follow, OneOf, create_words, create_physical, reserve_wal, opening, closing, start_words, start_forms, set_words, alter_words, forms, Says}
use Rattle.repl_cmd.specs.Walk.{first_state, finish, Moves, Steps, Runs}
use Rattle.repl_cmd.proofs.WalkSteps.{Closed, closed}

abbrev one : List Part → List (List Part)
one form = form ∷ []

-- what the tokens before a state are, where no semicolon has ended them
abbrev pub fronts : State → List (List Part)
fronts state.Start = one []
fronts state.Show = one (Keyword (codes "show") ∷ [])
fronts state.History = one (Keyword (codes "timeline_history") ∷ [])
fronts state.Create = one (Keyword (codes "create_replication_slot") ∷ [])
fronts (state.CreateNamed name) = one (create_words name false)
fronts (state.CreateTemporary name) = one (create_words name true)
fronts (state.Created name temporary) = one (create_physical name temporary)
fronts (state.CreateOpened name temporary) = one (create_physical name temporary ++ opening ∷ [])
fronts (state.CreateOption name temporary) = one (create_physical name temporary ++ opening ∷ reserve_wal ∷ [])
fronts (state.CreateValued name temporary reserve) = one (create_physical name temporary ++ opening ∷ reserve_wal ∷ Flag reserve ∷ [])
fronts state.DropSlot = one (Keyword (codes "drop_replication_slot") ∷ [])
fronts (state.Dropped name) = one (Keyword (codes "drop_replication_slot") ∷ Slot name ∷ [])
fronts state.ReadSlot = one (Keyword (codes "read_replication_slot") ∷ [])
fronts state.Stream = one (start_words None)
fronts state.StreamSlot = one (Keyword (codes "start_replication") ∷ Keyword (codes "slot") ∷ [])
fronts (state.StreamNamed name) = one (start_words (Some name))
fronts (state.StreamPhysical slot) = one (start_words slot ++ Keyword (codes "physical") ∷ [])
fronts (state.Streamed slot at) = map (λ front. front ++ Position at ∷ []) (start_forms slot)
fronts (state.StreamTimeline slot at) = map (λ front. front ++ Position at ∷ Keyword (codes "timeline") ∷ []) (start_forms slot)
fronts state.Append = one (Keyword (codes "append") ∷ [])
fronts (state.AppendBody n) = one (Keyword (codes "append") ∷ Number 0 n ∷ [])
fronts state.Set = one (Keyword (codes "set") ∷ [])
fronts state.SetCommit = one set_words
fronts state.SetValue = (set_words ++ Sign kind.Equals ∷ []) ∷ (set_words ++ Keyword (codes "to") ∷ []) ∷ []
fronts state.Alter = one (Keyword (codes "alter") ∷ [])
fronts state.AlterSystem = one (Keyword (codes "alter") ∷ Keyword (codes "system") ∷ [])
fronts state.AlterSet = one (Keyword (codes "alter") ∷ Keyword (codes "system") ∷ Keyword (codes "set") ∷ [])
fronts state.AlterNames = one (Keyword (codes "alter") ∷ Keyword (codes "system") ∷ Keyword (codes "set") ∷ Keyword
    (codes "synchronous_standby_names") ∷ [])
fronts state.AlterText = one alter_words
fronts state.Promote = one (Keyword (codes "promote") ∷ [])
fronts (state.Done c) = forms c
fronts (state.Ended c) = []

-- ---- one part more

pub follow_more : (parts : List Part) (p : Part) (ts : List Lexeme) (t : Lexeme) → Follow parts ts → Is p t
    → Follow (parts ++ p ∷ []) (ts ++ t ∷ [])
follow_more [] p [] t f is = (is, tt)
follow_more [] p (u ∷ ts) t f is = absurd f
follow_more (q ∷ parts) p [] t f is = absurd f
follow_more (q ∷ parts) p (u ∷ ts) t f is = (f.0, follow_more parts p ts t f.1 is)

pub one_of_more : (fs : List (List Part)) (p : Part) (ts : List Lexeme) (t : Lexeme) → OneOf fs ts → Is p t
    → OneOf (map (λ form. form ++ p ∷ []) fs) (ts ++ t ∷ [])
one_of_more [] p ts t f is = absurd f
one_of_more (form ∷ fs) p ts t (inl f) is = inl (follow_more form p ts t f is)
one_of_more (form ∷ fs) p ts t (inr f) is = inr (one_of_more fs p ts t f is)

-- ---- the first word

record FirstWord : Type 0 where
  word : List ℕ
  past : State

abbrev first_word : List ℕ → State → FirstWord
first_word word past = record { word = word; past = past }

abbrev first_words : List FirstWord
first_words =
    first_word (codes "identify_system") (state.Done command.IdentifySystem)
    ∷ first_word (codes "show") state.Show
    ∷ first_word (codes "timeline_history") state.History
    ∷ first_word (codes "create_replication_slot") state.Create
    ∷ first_word (codes "drop_replication_slot") state.DropSlot
    ∷ first_word (codes "read_replication_slot") state.ReadSlot
    ∷ first_word (codes "start_replication") state.Stream
    ∷ first_word (codes "append") state.Append
    ∷ first_word (codes "set") state.Set
    ∷ first_word (codes "alter") state.Alter
    ∷ first_word (codes "promote") state.Promote
    ∷ first_word (codes "demote") (state.Done command.Demote)
    ∷ first_word (codes "trim") (state.Done command.Trim)
    ∷ first_word (codes "status") (state.Done command.Status)
    ∷ first_word (codes "stop") (state.Done command.Stop)
    ∷ []

abbrev found : List FirstWord → List ℕ → Option State
found [] word = None
found (r ∷ rs) word = if bytes_eq word r.word then Some r.past else found rs word

-- the state's tokens are its word
abbrev AreFronts : List FirstWord → Type 0
AreFronts [] = Unit {0}
AreFronts (r ∷ rs) = (fronts r.past ≡ one (Keyword r.word ∷ [])) × AreFronts rs

test_is : (b : Bool) (r s : State) (o : Option State) (P : Type 0) → (b ≡ true → r ≡ s → P) → (o ≡ Some s → P)
    → (if b then Some r else o) ≡ Some s → P
test_is true r s o P hit miss e = let same : r ≡ s = cc in hit refl same
test_is false r s o P hit miss e = miss e

found_is : (rs : List FirstWord) (word : List ℕ) (s : State) → AreFronts rs → found rs word ≡ Some s → fronts s ≡ one (Keyword word ∷ [])
found_is [] word s h e = absurd cc
found_is (r ∷ rs) word s h e =
    test_is (bytes_eq word r.word) r.past s (found rs word) (fronts s ≡ one (Keyword word ∷ []))
    (λ is same. ap fronts (sym same) ∙ h.0 ∙ ap (λ w. one (Keyword w ∷ [])) (sym ((bytes_eq-Decides word r.word).0 is)))
    (found_is rs word s h.1)
    e

past_first : (word : List ℕ) (s : State) → first_state word ≡ Some s → fronts s ≡ one (Keyword word ∷ [])
past_first word s e = found_is first_words word s (
  refl,
  (
    refl,
    (
      refl,
      (refl, (refl, (refl, (refl, (refl, (refl, (refl, (refl, (refl, (refl, (refl, (refl, tt)))))))))))),
    ),
  ),
) e

-- ---- a move

pub sole : (form : List Part) (ts : List Lexeme) → OneOf (one form) ts → Follow form ts
sole form ts (inl f) = f
sole form ts (inr f) = absurd f

to : (b target : State) (ts : List Lexeme) → b ≡ target → OneOf (fronts target) ts → OneOf (fronts b) ts
to b target ts e h = subst (λ (s : State). OneOf (fronts s) ts) (sym e) h

create_more : (name : List ℕ) (temporary : Bool) (parts : List Part) (p : Part) (ts : List Lexeme) (t : Lexeme)
    → OneOf (one (create_physical name temporary ++ parts)) ts → Is p t
    → Follow (create_physical name temporary ++ (parts ++ p ∷ [])) (ts ++ t ∷ [])
create_more name true parts p ts t h is = follow_more (create_physical name true ++ parts) p ts t
    (sole (create_physical name true ++ parts) ts h) is
create_more name false parts p ts t h is = follow_more (create_physical name false ++ parts) p ts t
    (sole (create_physical name false ++ parts) ts h) is

pub move_reached : (a b : State) (ts : List Lexeme) (t : Lexeme) → Moves a t b → OneOf (fronts a) ts → OneOf (fronts b) (ts ++ t ∷ [])
move_reached state.Start b [] t m h = subst (λ (forms : List (List Part)). OneOf forms (t ∷ []))
    (sym (past_first (map to_ascii_lowercase t.text) b m.1)) (inl ((m.0, refl), tt))
move_reached state.Start b (u ∷ ts) t m (inl h) = absurd h
move_reached state.Start b (u ∷ ts) t m (inr h) = absurd h
move_reached state.Show b ts t m h = to b (state.Done (command.Show m.0)) _ m.2 (one_of_more (fronts state.Show) (Parameter m.0) ts t h m.1)
move_reached state.History b ts t m h = to b (state.Done (command.TimelineHistory m.0)) _ m.2
    (one_of_more (fronts state.History) (Number 1 m.0) ts t h m.1)
move_reached state.Create b ts t m h = to b (state.CreateNamed m.0) _ m.2 (one_of_more (fronts state.Create) (Slot m.0) ts t h m.1)
move_reached (state.CreateNamed name) b ts t (inl m) h = to b (state.CreateTemporary name) _ m.1
    (one_of_more (fronts (state.CreateNamed name)) (Keyword (codes "temporary")) ts t h m.0)
move_reached (state.CreateNamed name) b ts t (inr m) h = to b (state.Created name false) _ m.1
    (one_of_more (fronts (state.CreateNamed name)) (Keyword (codes "physical")) ts t h m.0)
move_reached (state.CreateTemporary name) b ts t m h = to b (state.Created name true) _ m.1
    (one_of_more (fronts (state.CreateTemporary name)) (Keyword (codes "physical")) ts t h m.0)
move_reached (state.Created name temporary) b ts t (inl m) h =
    to b (state.Done (command.CreateSlot name temporary true)) _ m.1 (inl
    (sole (create_physical name temporary ++ reserve_wal ∷ []) _ (one_of_more
    (fronts (state.Created name temporary)) reserve_wal ts t h m.0)))
move_reached (state.Created name temporary) b ts t (inr m) h = to b (state.CreateOpened name temporary) _ m.1
    (one_of_more (fronts (state.Created name temporary)) opening ts t h m.0)
move_reached (state.CreateOpened name temporary) b ts t m h = to b (state.CreateOption name temporary) _ m.1
    (inl (create_more name temporary (opening ∷ []) reserve_wal ts t h m.0))
move_reached (state.CreateOption name temporary) b ts t (inl m) h = to b (state.Done (command.CreateSlot name temporary true)) _ m.1
    (inr (inl (create_more name temporary (opening ∷ reserve_wal ∷ []) closing ts t h m.0)))
move_reached (state.CreateOption name temporary) b ts t (inr m) h = to b (state.CreateValued name temporary m.0) _ m.2
    (inl (create_more name temporary (opening ∷ reserve_wal ∷ []) (Flag m.0) ts t h m.1))
move_reached (state.CreateValued name temporary true) b ts t m h =
    to b (state.Done (command.CreateSlot name temporary true)) _ m.1 (inr
    (inr (inl (create_more name temporary (opening ∷ reserve_wal ∷ Flag true ∷ []) closing ts t h m.0))))
move_reached (state.CreateValued name temporary false) b ts t m h =
    to b (state.Done (command.CreateSlot name temporary false)) _ m.1 (inr
    (inl (create_more name temporary (opening ∷ reserve_wal ∷ Flag false ∷ []) closing ts t h m.0)))
move_reached state.DropSlot b ts t m h = to b (state.Dropped m.0) _ m.2 (one_of_more (fronts state.DropSlot) (Slot m.0) ts t h m.1)
move_reached (state.Dropped name) b ts t m h = to b (state.Done (command.DropSlot name true)) _ m.1
    (one_of_more (fronts (state.Dropped name)) (Keyword (codes "wait")) ts t h m.0)
move_reached state.ReadSlot b ts t m h = to b (state.Done (command.ReadSlot m.0)) _ m.2
    (one_of_more (fronts state.ReadSlot) (Slot m.0) ts t h m.1)
move_reached state.Stream b ts t (inl m) h = to b state.StreamSlot _ m.1
    (one_of_more (fronts state.Stream) (Keyword (codes "slot")) ts t h m.0)
move_reached state.Stream b ts t (inr (inl m)) h = to b (state.StreamPhysical None) _ m.1
    (one_of_more (fronts state.Stream) (Keyword (codes "physical")) ts t h m.0)
move_reached state.Stream b ts t (inr (inr m)) h = to b (state.Streamed None m.0) _ m.2
    (inl (sole (start_words None ++ Position m.0 ∷ []) _ (one_of_more (fronts state.Stream) (Position m.0) ts t h m.1)))
move_reached state.StreamSlot b ts t m h = to b (state.StreamNamed m.0) _ m.2 (one_of_more (fronts state.StreamSlot) (Slot m.0) ts t h m.1)
move_reached (state.StreamNamed name) b ts t (inl m) h = to b (state.StreamPhysical (Some name)) _ m.1
    (one_of_more (fronts (state.StreamNamed name)) (Keyword (codes "physical")) ts t h m.0)
move_reached (state.StreamNamed name) b ts t (inr m) h =
    to b (state.Streamed (Some name) m.0) _ m.2 (inl (sole (start_words (Some name) ++ Position m.0 ∷ []) _
    (one_of_more (fronts (state.StreamNamed name)) (Position m.0) ts t h m.1)))
move_reached (state.StreamPhysical slot) b ts t m h =
    to b (state.Streamed slot m.0) _ m.2 (inr (one_of_more (fronts (state.StreamPhysical slot)) (Position m.0) ts t h m.1))
move_reached (state.Streamed None at) b ts t m h = to b (state.StreamTimeline None at) _ m.1
    (one_of_more (fronts (state.Streamed None at)) (Keyword (codes "timeline")) ts t h m.0)
move_reached (state.Streamed (Some name) at) b ts t m h = to b (state.StreamTimeline (Some name) at) _ m.1
    (one_of_more (fronts (state.Streamed (Some name) at)) (Keyword (codes "timeline")) ts t h m.0)
move_reached (state.StreamTimeline None at) b ts t m h = to b (state.Done (command.StartReplication None at (Some m.0))) _ m.2
    (one_of_more (fronts (state.StreamTimeline None at)) (Number 1 m.0) ts t h m.1)
move_reached (state.StreamTimeline (Some name) at) b ts t m h =
    to b (state.Done (command.StartReplication (Some name) at (Some m.0))) _ m.2
    (one_of_more (fronts (state.StreamTimeline (Some name) at)) (Number 1 m.0) ts t h m.1)
move_reached state.Append b ts t m h = to b (state.AppendBody m.0) _ m.2 (one_of_more (fronts state.Append) (Number 0 m.0) ts t h m.1)
move_reached (state.AppendBody xid) b ts t m h = to b (state.Done (command.Append xid m.0)) _ m.2
    (one_of_more (fronts (state.AppendBody xid)) (Body m.0) ts t h m.1)
move_reached state.Set b ts t m h = to b state.SetCommit _ m.1 (one_of_more (fronts state.Set)
    (Keyword (codes "synchronous_commit")) ts t h m.0)
move_reached state.SetCommit b ts t (inl k, e) h = to b state.SetValue _ e
    (inl (sole (set_words ++ Sign kind.Equals ∷ []) _ (one_of_more (fronts state.SetCommit) (Sign kind.Equals) ts t h k)))
move_reached state.SetCommit b ts t (inr k, e) h = to b state.SetValue _ e
    (inr (one_of_more (fronts state.SetCommit) (Keyword (codes "to")) ts t h k))
move_reached state.SetValue b ts t m h = to b (state.Done (command.SetCommit m.0)) _ m.2
    (one_of_more (fronts state.SetValue) (Value m.0) ts t h m.1)
move_reached state.Alter b ts t m h = to b state.AlterSystem _ m.1 (one_of_more (fronts state.Alter) (Keyword (codes "system")) ts t h m.0)
move_reached state.AlterSystem b ts t m h = to b state.AlterSet _ m.1 (one_of_more (fronts state.AlterSystem)
    (Keyword (codes "set")) ts t h m.0)
move_reached state.AlterSet b ts t m h = to b state.AlterNames _ m.1 (one_of_more (fronts state.AlterSet)
    (Keyword (codes "synchronous_standby_names")) ts t h m.0)
move_reached state.AlterNames b ts t m h = to b state.AlterText _ m.1 (one_of_more (fronts state.AlterNames) (Sign kind.Equals) ts t h m.0)
move_reached state.AlterText b ts t m h = to b (state.Done (command.SetNames m.0)) _ m.2
    (one_of_more (fronts state.AlterText) (Names m.0) ts t h m.1)
move_reached state.Promote b ts t m h = to b (state.Done (command.Promote (Some m.0))) _ m.2
    (one_of_more (fronts state.Promote) (Number 1 m.0) ts t h m.1)
move_reached (state.Done c) b ts t m h = absurd m
move_reached (state.Ended c) b ts t m h = absurd m

-- ---- where a command may end

ends_forms : (s : State) (c d : Command) (ts : List Lexeme) → finish s ≡ Some c → finish s ≡ Some d → OneOf (forms d) ts
    → OneOf (forms c) ts
ends_forms s c d ts e f h = let g : Some d ≡ Some c = sym f
    ∙ e in let same : d ≡ c = cc in subst (λ (c : Command). OneOf (forms c) ts) same h

pub finish_forms : (s : State) (c : Command) (ts : List Lexeme) → finish s ≡ Some c → OneOf (fronts s) ts → OneOf (forms c) ts
finish_forms (state.Created name true) c ts e h = ends_forms (state.Created name true) c (command.CreateSlot name true false) ts e refl
    (inl (sole (create_physical name true) ts h))
finish_forms (state.Created name false) c ts e h = ends_forms (state.Created name false) c (command.CreateSlot name false false) ts e refl
    (inl (sole (create_physical name false) ts h))
finish_forms (state.Dropped name) c ts e h = ends_forms (state.Dropped name) c (command.DropSlot name false) ts e refl h
finish_forms (state.Streamed slot at) c ts e h = ends_forms (state.Streamed slot at) c (command.StartReplication slot at None) ts e refl h
finish_forms state.Promote c ts e h = ends_forms state.Promote c (command.Promote None) ts e refl h
finish_forms (state.Done d) c ts e h = ends_forms (state.Done d) c d ts e refl h
finish_forms (state.Ended d) c ts e h = absurd h
finish_forms _ c ts e h = absurd cc

-- ---- runs

-- what the tokens before a state are
abbrev pub Reached : State → List Lexeme → Type 0
Reached (state.Ended c) ts = Says ts c
Reached s ts = OneOf (fronts s) ts

front_reached : (s : State) (ts : List Lexeme) → OneOf (fronts s) ts → Reached s ts
front_reached (state.Ended c) ts h = absurd h
front_reached _ ts h = h

close_reached : (a b : State) (ts : List Lexeme) (t : Lexeme) → Closed a t b → OneOf (fronts a) ts → Reached b (ts ++ t ∷ [])
close_reached a b ts t m h =
    let says : Says (ts ++ t ∷ []) m.c = record {
      said = ts;
      ending = t ∷ [];
      parts = refl;
      is_said = finish_forms a m.c ts m.ends h;
      ends = m.semicolon;
    } in
    subst (λ (s : State). Reached s (ts ++ t ∷ [])) (sym m.is) says

step_reached : (a b : State) (ts : List Lexeme) (t : Lexeme) → Steps a t b → Reached a ts → Reached b (ts ++ t ∷ [])
step_reached (state.Ended c) b ts t (inl m) h = absurd m
step_reached (state.Ended c) b ts t (inr m) h = absurd m
step_reached a b ts t (inl m) h = front_reached b (ts ++ t ∷ []) (move_reached a b ts t m h)
step_reached a b ts t (inr m) h = close_reached a b ts t (closed a b t m) h

runs_reached : (a b : State) (ts us : List Lexeme) → Reached a ts → Runs a us b → Reached b (ts ++ us)
runs_reached a b ts [] h r = subst (Reached b) (sym (append-nil ts)) (subst (λ (s : State). Reached s ts) (sym r) h)
runs_reached a b ts (t ∷ us) h (next, step, r) = subst (Reached b) (append_assoc ts (t ∷ []) us)
    (runs_reached next b (ts ++ t ∷ []) us (step_reached a next ts t step h) r)

pub reached : (s : State) (ts : List Lexeme) → Runs state.Start ts s → Reached s ts
reached s ts r = runs_reached state.Start s [] ts (inl tt) r

pub reached_says : (s : State) (c : Command) (ts : List Lexeme) → finish s ≡ Some c → Reached s ts → Says ts c
reached_says (state.Ended d) c ts e h = let same : d ≡ c = cc in subst (Says ts) same h
reached_says s c ts e h = record { said = ts; ending = []; parts = sym (append-nil ts); is_said = finish_forms s c ts e h; ends = tt }
