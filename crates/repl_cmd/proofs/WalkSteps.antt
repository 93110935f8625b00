-- A token leads from one state to one other.
use Rattle.std.proofs.Common.{◌≡◌, ℕ, ◌⊎◌, inl, inr, List, [], ◌∷◌, ◌++◌, Some, None, codes, refl, sym, ap, subst, ◌∙◌}
use Rattle.repl_cmd.specs.declared.command.Command.{Command}
use Rattle.repl_cmd.specs.declared.command.Command.TheVariants as command
use Rattle.repl_cmd.specs.declared.state.State.{State}
use Rattle.repl_cmd.specs.declared.state.State.TheVariants as state
use Rattle.repl_cmd.specs.declared.token.Kind.TheVariants as kind
use Rattle.repl_cmd.specs.Token.{Lexeme}
use Rattle.repl_cmd.specs.Command.{IsKeyword, IsSlot, IsParameter, IsPosition, IsNumber, IsFlag, IsSetting, IsBody, IsList}
use Rattle.repl_cmd.specs.Walk.{finish, Moves, Closes, Steps, Runs}
use Rattle.repl_cmd.proofs.WalkValues.{one_keyword, not_word, one_slot, one_parameter, one_number, one_place, one_flag, one_setting, one_body, one_list, slot_kind, flag_kind, naming_not, value_not}

-- ---- a semicolon goes on with no row

keyword_no : (w : List ℕ) (t : Lexeme) → IsKeyword w t → t.kind ≡ kind.Semicolon → ⊥
keyword_no w t a b = not_word w t kind.Semicolon (λ e. cc) a b

slot_no : (name : List ℕ) (t : Lexeme) → IsSlot name t → t.kind ≡ kind.Semicolon → ⊥
slot_no name t a b = naming_not t kind.Semicolon (λ e. cc) (λ e. cc) (slot_kind name t a) b

pub move_goes_on : (a b : State) (t : Lexeme) → Moves a t b → t.kind ≡ kind.Semicolon → ⊥
move_goes_on state.Start b t m e = absurd (let k : t.kind ≡ kind.Word = m.0 in cc)
move_goes_on state.Show b t m e = naming_not t kind.Semicolon (λ e. cc) (λ e. cc) m.1.naming e
move_goes_on state.History b t m e = absurd (let k = m.1.word in cc)
move_goes_on state.Create b t m e = slot_no m.0 t m.1 e
move_goes_on (state.CreateNamed name) b t (inl m) e = keyword_no _ t m.0 e
move_goes_on (state.CreateNamed name) b t (inr m) e = keyword_no _ t m.0 e
move_goes_on (state.CreateTemporary name) b t m e = keyword_no _ t m.0 e
move_goes_on (state.Created name temporary) b t (inl m) e = keyword_no _ t m.0 e
move_goes_on (state.Created name temporary) b t (inr m) e = absurd (let k : t.kind ≡ kind.Opening = m.0 in cc)
move_goes_on (state.CreateOpened name temporary) b t m e = keyword_no _ t m.0 e
move_goes_on (state.CreateOption name temporary) b t (inl m) e = absurd (let k : t.kind ≡ kind.Closing = m.0 in cc)
move_goes_on (state.CreateOption name temporary) b t (inr m) e = value_not t kind.Semicolon (λ e. cc) (λ e. cc) (flag_kind m.0 t m.1) e
move_goes_on (state.CreateValued name temporary reserve) b t m e = absurd (let k : t.kind ≡ kind.Closing = m.0 in cc)
move_goes_on state.DropSlot b t m e = slot_no m.0 t m.1 e
move_goes_on (state.Dropped name) b t m e = keyword_no _ t m.0 e
move_goes_on state.ReadSlot b t m e = slot_no m.0 t m.1 e
move_goes_on state.Stream b t (inl m) e = keyword_no _ t m.0 e
move_goes_on state.Stream b t (inr (inl m)) e = keyword_no _ t m.0 e
move_goes_on state.Stream b t (inr (inr m)) e = absurd (let k : t.kind ≡ kind.Position = m.1.0 in cc)
move_goes_on state.StreamSlot b t m e = slot_no m.0 t m.1 e
move_goes_on (state.StreamNamed name) b t (inl m) e = keyword_no _ t m.0 e
move_goes_on (state.StreamNamed name) b t (inr m) e = absurd (let k : t.kind ≡ kind.Position = m.1.0 in cc)
move_goes_on (state.StreamPhysical slot) b t m e = absurd (let k : t.kind ≡ kind.Position = m.1.0 in cc)
move_goes_on (state.Streamed slot at) b t m e = keyword_no _ t m.0 e
move_goes_on (state.StreamTimeline slot at) b t m e = absurd (let k = m.1.word in cc)
move_goes_on state.Append b t m e = absurd (let k = m.1.word in cc)
move_goes_on (state.AppendBody n) b t m e = absurd (let k : t.kind ≡ kind.Text = m.1.0 in cc)
move_goes_on state.Set b t m e = keyword_no _ t m.0 e
move_goes_on state.SetCommit b t (inl k, f) e = absurd cc
move_goes_on state.SetCommit b t (inr k, f) e = keyword_no _ t k e
move_goes_on state.SetValue b t m e = value_not t kind.Semicolon (λ e. cc) (λ e. cc) m.1.0 e
move_goes_on state.Alter b t m e = keyword_no _ t m.0 e
move_goes_on state.AlterSystem b t m e = keyword_no _ t m.0 e
move_goes_on state.AlterSet b t m e = keyword_no _ t m.0 e
move_goes_on state.AlterNames b t m e = absurd (let k : t.kind ≡ kind.Equals = m.0 in cc)
move_goes_on state.AlterText b t m e = absurd (let k : t.kind ≡ kind.Text = m.1.0 in cc)
move_goes_on state.Promote b t m e = absurd (let k = m.1.word in cc)
move_goes_on (state.Done c) b t m e = m
move_goes_on (state.Ended c) b t m e = m

-- ---- one move

two_ways : {A B : Type 0} (p q b c : State) → (A → B → ⊥) → (A × (b ≡ p)) ⊎ (B × (b ≡ q)) → (A × (c ≡ p)) ⊎ (B × (c ≡ q)) → b ≡ c
two_ways p q b c differ (inl x) (inl y) = x.1 ∙ sym y.1
two_ways p q b c differ (inl x) (inr y) = absurd (differ x.0 y.0)
two_ways p q b c differ (inr x) (inl y) = absurd (differ y.0 x.0)
two_ways p q b c differ (inr x) (inr y) = x.1 ∙ sym y.1

-- the same of a state that has a value from its token
by_value : {V : Type 0} (P : V → Type 0) (f : V → State) (b c : State) → ((x y : V) → P x → P y → x ≡ y) → (x : V) × P x × (b ≡ f x)
    → (x : V) × P x × (c ≡ f x) → b ≡ c
by_value P f b c one x y = x.2 ∙ ap f (one x.0 y.0 x.1 y.1) ∙ sym y.2

by_number : (least : ℕ) (f : ℕ → State) (t : Lexeme) (b c : State) → (n : ℕ) × IsNumber least n t × (b ≡ f n)
    → (n : ℕ) × IsNumber least n t × (c ≡ f n) → b ≡ c
by_number least f t b c m n = by_value (λ n. IsNumber least n t) f b c (one_number least t) m n

by_slot : (f : List ℕ → State) (t : Lexeme) (b c : State) → (n : List ℕ) × IsSlot n t × (b ≡ f n) → (n : List ℕ) × IsSlot n t × (c ≡ f n)
    → b ≡ c
by_slot f t b c m n = by_value (λ n. IsSlot n t) f b c (one_slot t) m n

by_place : (f : ℕ → State) (t : Lexeme) (b c : State) → (n : ℕ) × IsPosition n t × (b ≡ f n) → (n : ℕ) × IsPosition n t × (c ≡ f n) → b ≡ c
by_place f t b c m n = by_value (λ n. IsPosition n t) f b c (one_place t) m n

word_no_place : (w : List ℕ) (t : Lexeme) (at : ℕ) → IsKeyword w t → IsPosition at t → ⊥
word_no_place w t at a b = not_word w t kind.Position (λ e. cc) a b.0

pub one_move : (a b c : State) (t : Lexeme) → Moves a t b → Moves a t c → b ≡ c
one_move state.Start b c t m n = let e : Some b ≡ Some c = sym m.1 ∙ n.1 in cc
one_move state.Show b c t m n = by_value (λ n. IsParameter n t) (λ n. state.Done (command.Show n)) b c (one_parameter t) m n
one_move state.History b c t m n = by_number 1 (λ n. state.Done (command.TimelineHistory n)) t b c m n
one_move state.Create b c t m n = by_slot (λ n. state.CreateNamed n) t b c m n
one_move (state.CreateNamed name) b c t m n = two_ways _ _ b c (one_keyword (codes "temporary") (codes "physical") t refl refl) m n
one_move (state.CreateTemporary name) b c t m n = m.1 ∙ sym n.1
one_move (state.Created name temporary) b c t m n = two_ways _ _ b c (not_word (codes "reserve_wal") t kind.Opening (λ e. cc)) m n
one_move (state.CreateOpened name temporary) b c t m n = m.1 ∙ sym n.1
one_move (state.CreateOption name temporary) b c t (inl m) (inl n) = m.1 ∙ sym n.1
one_move (state.CreateOption name temporary) b c t (inl m) (inr n) = absurd
    (value_not t kind.Closing (λ e. cc) (λ e. cc) (flag_kind n.0 t n.1) m.0)
one_move (state.CreateOption name temporary) b c t (inr m) (inl n) = absurd
    (value_not t kind.Closing (λ e. cc) (λ e. cc) (flag_kind m.0 t m.1) n.0)
one_move (state.CreateOption name temporary) b c t (inr m) (inr n) = by_value (λ r. IsFlag r t)
    (λ r. state.CreateValued name temporary r) b c (one_flag t) m n
one_move (state.CreateValued name temporary reserve) b c t m n = m.1 ∙ sym n.1
one_move state.DropSlot b c t m n = by_slot (λ n. state.Dropped n) t b c m n
one_move (state.Dropped name) b c t m n = m.1 ∙ sym n.1
one_move state.ReadSlot b c t m n = by_slot (λ n. state.Done (command.ReadSlot n)) t b c m n
one_move state.Stream b c t (inl m) (inl n) = m.1 ∙ sym n.1
one_move state.Stream b c t (inl m) (inr (inl n)) = absurd (one_keyword (codes "slot") (codes "physical") t refl refl m.0 n.0)
one_move state.Stream b c t (inl m) (inr (inr n)) = absurd (word_no_place _ t n.0 m.0 n.1)
one_move state.Stream b c t (inr (inl m)) (inl n) = absurd (one_keyword (codes "slot") (codes "physical") t refl refl n.0 m.0)
one_move state.Stream b c t (inr (inl m)) (inr (inl n)) = m.1 ∙ sym n.1
one_move state.Stream b c t (inr (inl m)) (inr (inr n)) = absurd (word_no_place _ t n.0 m.0 n.1)
one_move state.Stream b c t (inr (inr m)) (inl n) = absurd (word_no_place _ t m.0 n.0 m.1)
one_move state.Stream b c t (inr (inr m)) (inr (inl n)) = absurd (word_no_place _ t m.0 n.0 m.1)
one_move state.Stream b c t (inr (inr m)) (inr (inr n)) = by_place (λ at. state.Streamed None at) t b c m n
one_move state.StreamSlot b c t m n = by_slot (λ n. state.StreamNamed n) t b c m n
one_move (state.StreamNamed name) b c t (inl m) (inl n) = m.1 ∙ sym n.1
one_move (state.StreamNamed name) b c t (inl m) (inr n) = absurd (word_no_place _ t n.0 m.0 n.1)
one_move (state.StreamNamed name) b c t (inr m) (inl n) = absurd (word_no_place _ t m.0 n.0 m.1)
one_move (state.StreamNamed name) b c t (inr m) (inr n) = by_place (λ at. state.Streamed (Some name) at) t b c m n
one_move (state.StreamPhysical slot) b c t m n = by_place (λ at. state.Streamed slot at) t b c m n
one_move (state.Streamed slot at) b c t m n = m.1 ∙ sym n.1
one_move (state.StreamTimeline slot at) b c t m n = by_number 1 (λ n. state.Done (command.StartReplication slot at (Some n))) t b c m n
one_move state.Append b c t m n = by_number 0 (λ n. state.AppendBody n) t b c m n
one_move (state.AppendBody xid) b c t m n = by_value (λ bytes. IsBody bytes t) (λ bytes. state.Done (command.Append xid bytes)) b c
    (one_body t) m n
one_move state.Set b c t m n = m.1 ∙ sym n.1
one_move state.SetCommit b c t m n = m.1 ∙ sym n.1
one_move state.SetValue b c t m n = by_value (λ v. IsSetting v t) (λ v. state.Done (command.SetCommit v)) b c (one_setting t) m n
one_move state.Alter b c t m n = m.1 ∙ sym n.1
one_move state.AlterSystem b c t m n = m.1 ∙ sym n.1
one_move state.AlterSet b c t m n = m.1 ∙ sym n.1
one_move state.AlterNames b c t m n = m.1 ∙ sym n.1
one_move state.AlterText b c t m n = by_value (λ list. IsList list t) (λ list. state.Done (command.SetNames list)) b c (one_list t) m n
one_move state.Promote b c t m n = by_number 1 (λ n. state.Done (command.Promote (Some n))) t b c m n
one_move (state.Done d) b c t m n = absurd m
one_move (state.Ended d) b c t m n = absurd m

-- ---- one step

-- what a semicolon does
pub record Closed (a : State) (t : Lexeme) (b : State) : Type 0 where
  pub c : Command
  pub semicolon : t.kind ≡ kind.Semicolon
  pub ends : finish a ≡ Some c
  pub is : b ≡ state.Ended c

pub closed : (a b : State) (t : Lexeme) → Closes a t b → Closed a t b
closed (state.Ended c) b t h = absurd h
closed _ b t h = record { c = h.1.0; semicolon = h.0; ends = h.1.1; is = h.1.2 }

one_closed : (a b c : State) (t : Lexeme) → Closed a t b → Closed a t c → b ≡ c
one_closed a b c t m n =
    let e : Some m.c ≡ Some n.c = sym m.ends ∙ n.ends in
    let f : m.c ≡ n.c = cc in
    m.is ∙ ap (λ d. state.Ended d) f ∙ sym n.is

pub one_step : (a b c : State) (t : Lexeme) → Steps a t b → Steps a t c → b ≡ c
one_step a b c t (inl m) (inl n) = one_move a b c t m n
one_step a b c t (inl m) (inr n) = absurd (move_goes_on a b t m (closed a c t n).semicolon)
one_step a b c t (inr m) (inl n) = absurd (move_goes_on a c t n (closed a b t m).semicolon)
one_step a b c t (inr m) (inr n) = one_closed a b c t (closed a b t m) (closed a c t n)

-- ---- runs

pub run_once : (a b : State) (t : Lexeme) → Steps a t b → Runs a (t ∷ []) b
run_once a b t step = (b, step, refl)

pub run_append : (a b c : State) (ts us : List Lexeme) → Runs a ts b → Runs b us c → Runs a (ts ++ us) c
run_append a b c [] us r s = subst (λ (from : State). Runs from us c) r s
run_append a b c (t ∷ ts) us (next, step, r) s = (next, step, run_append next b c ts us r s)

-- the run up to a place, and after it
pub run_split : (a c : State) (ts us : List Lexeme) → Runs a (ts ++ us) c → (b : State) × Runs a ts b × Runs b us c
run_split a c [] us r = (a, refl, r)
run_split a c (t ∷ ts) us (next, step, r) = let s = run_split next c ts us r in (s.0, (next, step, s.1), s.2)

pub one_run : (a b c : State) (ts : List Lexeme) → Runs a ts b → Runs a ts c → b ≡ c
one_run a b c [] r s = r ∙ sym s
one_run a b c (t ∷ ts) (m, step, r) (n, other, s) = one_run n b c ts (subst (λ (from : State). Runs from ts b)
    (one_step a m n t step other) r) s
