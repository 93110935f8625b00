-- What the steps of a script give, from one read to the next.
use Rattle.std.proofs.Common.{◌≡◌, ◌≢◌, ◌⊎◌, inl, inr, ℕ, ◌+◌, ◌-◌, ◌<◌, ◌≤◌, min, Vec, Global, List, [], ◌++◌, ◌∷◌, length, take, drop, get_or, Some, sym, ap, ◌∙◌, subst, arith, append_assoc}
use Rattle.std.specs.List.{flat_map}
use Rattle.std.proofs.lemmas.List.{take_more, drop_more, append-nil, drop-append-le, get_or_read}
use Rattle.std.proofs.lemmas.List.Concat.{flat_map-append}
use Rattle.std.proofs.Math.Seq.{take-add, take-length, drop-length}
use Rattle.repl_io.specs.declared.script.LinkStep.{LinkStep}
use Rattle.repl_io.specs.declared.script.LinkStep.TheVariants as step
use Rattle.repl_io.specs.declared.source.Got.{Got}
use Rattle.repl_io.specs.declared.source.Got.TheVariants as got
use Rattle.repl_io.specs.declared.script.ScriptLink.{ScriptLink}
use Rattle.repl_io.specs.Step.{bytes_of, step_at}
use Rattle.repl_io.specs.Script.{AnswersStep, GivesStep}
use Rattle.repl_io.specs.Source.{ReadsBytes, ReadsNothing}
use Rattle.repl_io.proofs.Moves.{rest-split}

-- what the reads gave so far, at a step of which some bytes are taken
abbrev pub given-at : List LinkStep → ℕ → ℕ → List ℕ
given-at steps next taken = flat_map bytes_of (take next steps) ++ take taken (bytes_of (step_at steps next))

-- and what they have left
abbrev pub left-at : List LinkStep → ℕ → ℕ → List ℕ
left-at steps next taken = drop taken (flat_map bytes_of (drop next steps))

pub step-is : (steps : List LinkStep) (n : ℕ) (s : LinkStep) → n < length steps → s ≡ get_or steps n s → step_at steps n ≡ s
step-is steps n s below is = sym (get_or_read steps n s below is step.Quiet)

given-next : (steps : List LinkStep) (n : ℕ) → n < length steps
    → flat_map bytes_of (take (n + 1) steps) ≡ flat_map bytes_of (take n steps) ++ bytes_of (step_at steps n)
given-next steps n below =
    ap (flat_map bytes_of) (take_more steps n step.Quiet below)
    ∙ flat_map-append bytes_of (take n steps) (step_at steps n ∷ [])
    ∙ ap (λ (x : List ℕ). flat_map bytes_of (take n steps) ++ x) (append-nil (bytes_of (step_at steps n)))

left-next : (steps : List LinkStep) (n : ℕ) → n < length steps
    → flat_map bytes_of (drop n steps) ≡ bytes_of (step_at steps n) ++ flat_map bytes_of (drop (n + 1) steps)
left-next steps n below = ap (flat_map bytes_of) (drop_more steps n step.Quiet below)

left-split : (steps : List LinkStep) (n taken : ℕ) → n < length steps → taken ≤ length (bytes_of (step_at steps n))
    → left-at steps n taken ≡ drop taken (bytes_of (step_at steps n)) ++ flat_map bytes_of (drop (n + 1) steps)
left-split steps n taken below fits = ap (drop taken) (left-next steps n below)
    ∙ drop-append-le taken (bytes_of (step_at steps n)) (flat_map bytes_of (drop (n + 1) steps)) fits

-- after the last byte of a step nothing of the next one is taken
given-done : (steps : List LinkStep) (n : ℕ) → n < length steps
    → given-at steps n (length (bytes_of (step_at steps n))) ≡ given-at steps (n + 1) 0
given-done steps n below =
    ap (λ (x : List ℕ). flat_map bytes_of (take n steps) ++ x) (take-length (bytes_of (step_at steps n)))
    ∙ sym (given-next steps n below)
    ∙ sym (append-nil (flat_map bytes_of (take (n + 1) steps)))

left-done : (steps : List LinkStep) (n : ℕ) → n < length steps
    → left-at steps n (length (bytes_of (step_at steps n))) ≡ left-at steps (n + 1) 0
left-done steps n below =
    left-split steps n (length (bytes_of (step_at steps n))) below (omega arith)
    ∙ ap (λ (x : List ℕ). x ++ flat_map bytes_of (drop (n + 1) steps)) (drop-length (bytes_of (step_at steps n)))

-- the n bytes of the room are the next of the present step
gives-more : (steps : List LinkStep) (next taken n : ℕ) (room : List ℕ) → next < length steps → 0 < n → n ≤ length room
    → taken + n ≤ length (bytes_of (step_at steps next)) → take n room ≡ take n (drop taken (bytes_of (step_at steps next)))
    → ReadsBytes n room (Some (given-at steps next taken)) (Some (given-at steps next (taken + n))) (Some (left-at steps next taken))
    (Some (left-at steps next (taken + n)))
gives-more steps next taken n room below some fits within same =
    let now : List ℕ = bytes_of (step_at steps next) in
    let before : List ℕ = flat_map bytes_of (take next steps) in
    let after : List ℕ = flat_map bytes_of (drop (next + 1) steps) in
    record {
      some = some;
      fits = fits;
      gained = ap Some (
          ap (λ (x : List ℕ). before ++ x) (take-add taken n now)
          ∙ sym (append_assoc before (take taken now) (take n (drop taken now)))
          ∙ ap (λ (x : List ℕ). (before ++ take taken now) ++ x) (sym same));
      lost = ap Some (
          left-split steps next taken below (omega arith)
          ∙ ap (λ (x : List ℕ). x ++ after) (rest-split n taken now)
          ∙ append_assoc (take n (drop taken now)) (drop (taken + n) now) after
          ∙ ap (λ (x : List ℕ). x ++ (drop (taken + n) now ++ after)) (sym same)
          ∙ ap (λ (x : List ℕ). take n room ++ x) (sym (left-split steps next (taken + n) below within)));
    }

-- and where the step is at its end, the next one begins
pub gives-last : (steps : List LinkStep) (next taken n : ℕ) (room : List ℕ) → next < length steps → 0 < n → n ≤ length room
    → taken + n ≡ length (bytes_of (step_at steps next)) → take n room ≡ take n (drop taken (bytes_of (step_at steps next)))
    → ReadsBytes n room (Some (given-at steps next taken)) (Some (given-at steps (next + 1) 0)) (Some (left-at steps next taken))
    (Some (left-at steps (next + 1) 0))
gives-last steps next taken n room below some fits all same =
    let read = gives-more steps next taken n room below some fits (omega (arith, all)) same in
    record {
      some = some;
      fits = fits;
      gained = ap Some (sym (given-done steps next below)) ∙ ap (λ (k : ℕ). Some (given-at steps next k)) (sym all) ∙ read.gained;
      lost = read.lost ∙ ap (λ (k : ℕ). Some (take n room ++ left-at steps next k)) all
          ∙ ap (λ (x : List ℕ). Some (take n room ++ x)) (left-done steps next below);
    }

-- as one of the two, at the numbers that the code has
pub gives : (steps : List LinkStep) (next taken n next' taken' : ℕ) (room : List ℕ) (now : LinkStep) → next < length steps
    → now ≡ get_or steps next now → 0 < n → n ≤ length room → taken + n ≤ length (bytes_of now)
    → take n room ≡ take n (drop taken (bytes_of now)) → ((next' ≡ next) × (taken' ≡ taken + n))
    ⊎ ((next' ≡ next + 1) × (taken' ≡ 0) × (taken + n ≡ length (bytes_of now)))
    → ReadsBytes n room (Some (given-at steps next taken)) (Some (given-at steps next' taken')) (Some (left-at steps next taken))
    (Some (left-at steps next' taken'))
gives steps next taken n next' taken' room now below is some fits within same w =
    let P : ℕ → ℕ → Type 0 = λ k t. ReadsBytes n room (Some (given-at steps next taken)) (Some (given-at steps k t))
    (Some (left-at steps next taken)) (Some (left-at steps k t)) in
    let e : now ≡ step_at steps next = sym (step-is steps next now below is) in
    let within' : taken + n ≤ length (bytes_of (step_at steps next)) = subst (λ (s : LinkStep). taken + n ≤ length (bytes_of s)) e within in
    let same' : take n room ≡ take n (drop taken (bytes_of (step_at steps next))) =
    subst (λ (s : LinkStep). take n room ≡ take n (drop taken (bytes_of s))) e same in
    elim w [
      | inl v ↦ subst (λ (k : ℕ). P k taken') (sym v.0) (subst (λ (t : ℕ). P next t) (sym v.1)
          (gives-more steps next taken n room below some fits within' same'))
      | inr v ↦ subst (λ (k : ℕ). P k taken') (sym v.0) (subst (λ (t : ℕ). P (next + 1) t) (sym v.1)
          (gives-last steps next taken n room below some fits (subst (λ (s : LinkStep). taken + n ≡ length (bytes_of s)) e v.2) same'))
    ]

none-taken : (taken all : ℕ) → all ≡ 0 → (0 < taken → taken < all) → taken ≡ 0
none-taken taken all none unfinished = grind arith

-- a step without bytes gives none
pub skips : (steps : List LinkStep) (next taken : ℕ) (now : LinkStep) → next < length steps → now ≡ get_or steps next now
    → bytes_of now ≡ [] → (0 < taken → taken < length (bytes_of (step_at steps next)))
    → ReadsNothing (Some (given-at steps next taken)) (Some (given-at steps (next + 1) taken)) (Some (left-at steps next taken))
    (Some (left-at steps (next + 1) taken))
skips steps next taken now below is none unfinished =
    let e : length (bytes_of (step_at steps next)) ≡ 0 = ap (λ (s : LinkStep). length (bytes_of s)) (step-is steps next now below is)
    ∙ ap length none in
    let fresh : taken ≡ 0 = none-taken taken (length (bytes_of (step_at steps next))) e unfinished in
    let at : taken ≡ length (bytes_of (step_at steps next)) = fresh ∙ sym e in
    record {
      given_stays = ap (λ (t : ℕ). Some (given-at steps (next + 1) t)) fresh ∙ ap Some (sym (given-done steps next below))
          ∙ ap (λ (t : ℕ). Some (given-at steps next t)) (sym at);
      left_stays = ap (λ (t : ℕ). Some (left-at steps (next + 1) t)) fresh ∙ ap Some (sym (left-done steps next below))
          ∙ ap (λ (t : ℕ). Some (left-at steps next t)) (sym at);
    }

within-step : (taken all : ℕ) → (0 < taken → taken < all) → taken ≤ all
within-step taken all unfinished = grind arith

-- where a step has bytes, some of them are left, and some fit
some-fit : (taken all room n : ℕ) → 0 < room → n ≡ min (all - taken) room → (0 < taken → taken < all) → 0 < all → 0 < n
some-fit taken all room n some is unfinished has = grind arith

-- a read at a step that gives, at the numbers that the code has
pub gives-step : (old new : ScriptLink) (bytes : Vec ℕ Global) (answer : Got) (room n : ℕ)
    → step_at old.steps.items old.next ≡ step.Give bytes → 0 < room → n ≡ min (length bytes.items - old.taken) room
    → (n ≡ 0 → answer ≡ got.Quiet) → (0 < n → answer ≡ got.Bytes n)
    → ((new.next ≡ old.next) × (new.taken ≡ old.taken + n) × (old.taken + n ≢ length bytes.items))
    ⊎ ((new.next ≡ old.next + 1) × (new.taken ≡ 0) × (old.taken + n ≡ length bytes.items))
    → AnswersStep room (step_at old.steps.items old.next) old answer new
gives-step old new bytes answer room n at some is quiet gave w =
    let all : ℕ = length bytes.items in
    let unfinished : 0 < old.taken → old.taken < all = subst (λ (s : LinkStep). 0 < old.taken
    → old.taken < length (bytes_of s)) at old.in_step in
    let within : old.taken ≤ all = within-step old.taken all unfinished in
    let given : GivesStep room bytes.items old answer new = record {
      none = λ e. quiet (omega (arith, e, is));
      some = λ h. gave (some-fit old.taken all room n some is unfinished h) ∙ ap (λ (k : ℕ). got.Bytes k) (omega (arith, is));
      stays = λ h. elim w [
        | inl v ↦ (v.0, v.1 ∙ ap (λ (k : ℕ). old.taken + k) (omega (arith, is, h)))
        | inr v ↦ absurd (omega (arith, is, h, v.2))
      ];
      moves_on = λ h. elim w [ inl v ↦ absurd (v.2 (omega (arith, is, h, within))) | inr v ↦ (v.0, v.1) ];
    } in
    subst (λ (s : LinkStep). AnswersStep room s old answer new) (sym at) given
