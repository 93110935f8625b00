-- Calls of a pass, one after another.
use Rattle.std.proofs.Common.{◌≡◌, ◌≢◌, ℕ, ◌+◌, List, [], ◌∷◌, ◌++◌, refl, sym, ap, ◌∙◌, subst, append_assoc}
use Rattle.std.proofs.lemmas.List.{append-nil, replicate_more}
use Rattle.std.specs.Prelude.{replicate, slice_index}
use Rattle.repl_hub.specs.Commit.{AreLooks, look_call}
use Rattle.repl_hub.specs.Pass.{Acts, Asks, Call, Makes, MakesSome, MakesThese, Passed, Sees, Stays, call, made_by, mine, number}
use Rattle.repl_hub.specs.State.{HubView}
use Rattle.repl_hub.specs.declared.event.HubEvent.{HubEvent}
use Rattle.repl_hub.specs.declared.event.HubEvent.TheVariants as event
use Rattle.repl_hub.specs.declared.reply.HubReply.{HubReply}
use Rattle.repl_hub.specs.declared.reply.HubReply.TheVariants as reply
use Rattle.repl_sync.specs.declared.certificate.Look.{Look}
use Rattle.repl_sync.specs.declared.certificate.Look.TheVariants as look
use Rattle.repl_turn.specs.History.{entry}

-- ---- calls of one pass

made_append : (by : ℕ) (xs ys : List Call) → made_by by (xs ++ ys) ≡ made_by by xs ++ made_by by ys
made_append by [] ys = refl
made_append by (x ∷ xs) ys = ap (λ made. entry by x.event x.reply ∷ made) (made_append by xs ys)

same_number : (p q : Passed) → q.numbers ≡ p.numbers → number q ≡ number p
same_number p q same = ap (λ numbers. slice_index numbers 0) same

module _ (opening : HubView) where
  no_calls : (p : Passed) → Makes opening p [] p
  no_calls p = record {
    more = [];
    seen = sym (append-nil p.seen);
    made = sym (append-nil (mine p));
    numbers = refl;
    legal = λ was. was;
  }

  one_call : (p q : Passed) (event : HubEvent) (reply : HubReply) → Acts opening p event reply q → Makes opening p (call event reply ∷ []) q
  one_call p q event reply acts = record {
    more = acts.between ++ entry (number p) event reply ∷ [];
    seen = acts.seen ∙ append_assoc p.seen acts.between (entry (number p) event reply ∷ []);
    made = acts.calls;
    numbers = acts.numbers;
    legal = λ was. acts.legal;
  }

  calls_and_calls : (p q s : Passed) (xs ys : List Call) → Makes opening p xs q → Makes opening q ys s → Makes opening p (xs ++ ys) s
  calls_and_calls p q s xs ys first second = record {
    more = first.more ++ second.more;
    seen = second.seen ∙ (ap (λ l. l ++ second.more) first.seen ∙ append_assoc p.seen first.more second.more);
    made = second.made
        ∙ (ap (λ l. l ++ made_by (number q) ys) first.made
        ∙ (ap (λ n. (mine p ++ made_by (number p) xs) ++ made_by n ys) (same_number p q first.numbers)
        ∙ (append_assoc (mine p) (made_by (number p) xs) (made_by (number p) ys)
        ∙ ap (λ l. mine p ++ l) (sym (made_append (number p) xs ys)))));
    numbers = second.numbers ∙ first.numbers;
    legal = λ was. second.legal (first.legal was);
  }

-- ---- calls of a pass that may tell nothing

module _ {P : Type 0} (opened : P → HubView → Type 0) (known : P → Passed) where
  nothing_called : (p : P) → MakesThese opened known p [] p
  nothing_called p h o = no_calls h (known p)

  once : (p q : P) (event : HubEvent) (reply : HubReply) → Asks opened known p event reply q → MakesThese opened known p (call event reply ∷ []) q
  once p q event reply asks h o = one_call h (known p) (known q) event reply (asks h o)

  call_and_calls : (p q s : P) (event : HubEvent) (reply : HubReply) (calls : List Call) → Stays opened p q → Asks opened known p event reply q
      → MakesThese opened known q calls s → MakesThese opened known p (call event reply ∷ calls) s
  call_and_calls p q s event reply calls stays asks rest h o =
      calls_and_calls h (known p) (known q) (known s) (call event reply ∷ []) calls
      (one_call h (known p) (known q) event reply (asks h o)) (rest h (stays h o))

  calls_and_call : (p q s : P) (calls : List Call) (event : HubEvent) (reply : HubReply) → Stays opened p q → MakesThese opened known p calls q
      → Asks opened known q event reply s → MakesThese opened known p (calls ++ call event reply ∷ []) s
  calls_and_call p q s calls event reply stays first asks h o =
      calls_and_calls h (known p) (known q) (known s) calls (call event reply ∷ [])
      (first h o) (one_call h (known q) (known s) event reply (asks h (stays h o)))

  calls_and_wait : (p q s : P) (calls : List Call) → Stays opened p q → MakesThese opened known p calls q → Sees opened known q s
      → MakesThese opened known p calls s
  calls_and_wait p q s calls stays first sees h o = record {
    more = (first h o).more ++ (sees h (stays h o)).more;
    seen = (sees h (stays h o)).seen ∙ (ap (λ l. l ++ (sees h (stays h o)).more) (first h o).seen
        ∙ append_assoc (known p).seen (first h o).more (sees h (stays h o)).more);
    made = (sees h (stays h o)).calls ∙ (first h o).made;
    numbers = (sees h (stays h o)).numbers ∙ (first h o).numbers;
    legal = λ was. (sees h (stays h o)).legal;
  }

  -- none
  pub by_none : (p : P) (Are : List Call → Type 0) → Are [] → MakesSome opened known p Are p
  by_none p Are are = ([], are, nothing_called p)

  -- one call
  pub by_one : (p q : P) (event : HubEvent) (reply : HubReply) (Are : List Call → Type 0) → Asks opened known p event reply q
      → Are (call event reply ∷ []) → MakesSome opened known p Are q
  by_one p q event reply Are asks are = (call event reply ∷ [], are, once p q event reply asks)

  -- one call, and then others
  pub and_then : (p q s : P) (event : HubEvent) (reply : HubReply) (Rest Whole : List Call → Type 0) → Stays opened p q
      → Asks opened known p event reply q → ((calls : List Call) → Rest calls → Whole (call event reply ∷ calls)) → MakesSome opened known q Rest s
      → MakesSome opened known p Whole s
  and_then p q s event reply Rest Whole stays asks whole rest =
      (call event reply ∷ rest.0, whole rest.0 rest.1, call_and_calls p q s event reply rest.0 stays asks rest.2)

  -- the same calls, of which this is known too
  pub so_called : (p q : P) (Are Then : List Call → Type 0) → ((calls : List Call) → Are calls → Then calls) → MakesSome opened known p Are q
      → MakesSome opened known p Then q
  so_called p q Are Then leads made = (made.0, leads made.0 made.1, made.2)

  -- ---- looks

  -- so many looks at the ticket that are not answered yet
  abbrev pub LooksOn : P → ℕ → P → Type 0
  LooksOn p ticket q = (times : ℕ) × MakesThese opened known p (replicate times (look_call ticket look.NotYet)) q

  pub no_look : (p : P) (ticket : ℕ) → LooksOn p ticket p
  no_look p ticket = (0, nothing_called p)

  -- one look more that is not answered yet, and a wait
  pub looks_again : (p q s t : P) (ticket : ℕ) (answer : Look) → answer ≡ look.NotYet → Stays opened p q → Stays opened q s → LooksOn p ticket q
      → Asks opened known q (event.Look ticket) (reply.Look answer) s → Sees opened known s t → LooksOn p ticket t
  looks_again p q s t ticket answer is first second so_far asks sees =
      let once_more : Call = look_call ticket look.NotYet in
      let same : Asks opened known q (event.Look ticket) (reply.Look look.NotYet) s =
      subst (λ a. Asks opened known q (event.Look ticket) (reply.Look a) s) is asks in (
        so_far.0 + 1,
        subst (λ calls. MakesThese opened known p calls t) (replicate_more so_far.0 once_more)
            (calls_and_wait p s t (replicate so_far.0 once_more ++ once_more ∷ []) (λ h o. second h (first h o))
            (calls_and_call p q s (replicate so_far.0 once_more) (event.Look ticket) (reply.Look look.NotYet) first so_far.1 same) sees),
      )

  -- the last look
  pub looks_last : (p q s : P) (ticket : ℕ) (found answer : Look) → found ≡ answer → answer ≢ look.NotYet → Stays opened p q → LooksOn p ticket q
      → Asks opened known q (event.Look ticket) (reply.Look found) s → MakesSome opened known p (AreLooks ticket answer) s
  looks_last p q s ticket found answer is over first so_far asks =
      let same : Asks opened known q (event.Look ticket) (reply.Look answer) s =
      subst (λ a. Asks opened known q (event.Look ticket) (reply.Look a) s) is asks in (
        replicate so_far.0 (look_call ticket look.NotYet) ++ look_call ticket answer ∷ [],
        (over, (so_far.0, refl)),
        calls_and_call p q s (replicate so_far.0 (look_call ticket look.NotYet)) (event.Look ticket) (reply.Look answer) first so_far.1 same,
      )
