-- What calls of a disk in memory keep: nothing changes without a call, and what two runs keep is kept by both together.
use Rattle.std.specs.Prelude.{◌≡◌, ◌⊎◌, ℕ, ◌+◌, ◌-◌, ◌^◌, ◌<◌, ◌≤◌, ◌↔◌, min, Bool, true, false, List, [], Contains, Option, Some, None, IfSome}
use Rattle.std.specs.Option.{option_map}
use Rattle.std.proofs.Common.{refl, sym, ◌∙◌, ap, subst, inl, inr, ⊎_elim, arith}
use Rattle.repl_disk.specs.Memory.{Memory, AllPass, KeepsOn, IsDue, burnt, begun}
use Rattle.repl_disk.specs.Tally.{raised}

-- a fuse that was shortened twice
shortened : (first more : ℕ) (fuse mid last : Option ℕ) → mid ≡ option_map (λ k. k - first) fuse → last ≡ option_map (λ k. k - more) mid
    → last ≡ option_map (λ k. k - (first + more)) fuse
shortened first more None mid last is then = then ∙ ap (option_map (λ (k : ℕ). k - more)) is
shortened first more (Some k) mid last is then = then ∙ ap (option_map (λ (k : ℕ). k - more)) is ∙ ap (λ (k : ℕ). Some k) (omega arith)

-- so a fuse that outlasts both runs outlasts each
lasts_first : (first more : ℕ) (fuse : Option ℕ) → IfSome fuse (λ k. first + more ≤ k) → IfSome fuse (λ k. first ≤ k)
lasts_first first more None lasts = tt
lasts_first first more (Some k) lasts = omega (arith, lasts)

lasts_more : (first more : ℕ) (fuse mid : Option ℕ) → mid ≡ option_map (λ k. k - first) fuse → IfSome fuse (λ k. first + more ≤ k)
    → IfSome mid (λ k. more ≤ k)
lasts_more first more fuse mid is lasts = subst (λ (m : Option ℕ). IfSome m (λ k. more ≤ k)) (sym is) (each fuse lasts)
  where
    each : (fuse : Option ℕ) → IfSome fuse (λ k. first + more ≤ k) → IfSome (option_map (λ k. k - first) fuse) (λ k. more ≤ k)
    each None lasts = tt
    each (Some k) lasts = omega (arith, lasts)

unchanged : (fuse : Option ℕ) → fuse ≡ option_map (λ k. k - 0) fuse
unchanged None = refl
unchanged (Some k) = ap (λ (k : ℕ). Some k) (omega arith)

pub keeps_itself : (m : Memory) → KeepsOn m m
keeps_itself m = record {
  made = 0;
  count = inl (omega arith);
  no_fewer = omega arith;
  failing = refl;
  fuse = unchanged m.fuse;
  passed = λ pass. refl;
  faults = omega arith;
  wants = omega arith;
  lacks = omega arith;
}

-- a number of calls, with one more number
counted_on : (first mid last made more : ℕ) → (mid ≡ first + made) ⊎ ((mid < first + made) × (2 ^ 64 - 1 ≤ mid))
    → (last ≡ mid + more) ⊎ ((last < mid + more) × (2 ^ 64 - 1 ≤ last)) → mid ≤ last
    → (last ≡ first + (made + more)) ⊎ ((last < first + (made + more)) × (2 ^ 64 - 1 ≤ last))
counted_on first mid last made more (inl a) (inl b) no_fewer = inl (omega (arith, a, b))
counted_on first mid last made more (inl a) (inr b) no_fewer = inr (omega (arith, a, b.0), b.1)
counted_on first mid last made more (inr a) (inl b) no_fewer = inr (omega (arith, a.0, b), omega (arith, a.1, no_fewer))
counted_on first mid last made more (inr a) (inr b) no_fewer = inr (omega (arith, a.0, b.0), b.1)

at_most : (first mid made : ℕ) → (mid ≡ first + made) ⊎ ((mid < first + made) × (2 ^ 64 - 1 ≤ mid)) → mid ≤ first + made
at_most first mid made (inl a) = omega (arith, a)
at_most first mid made (inr a) = omega (arith, a.0)

pub keeps_on : (first second third : Memory) → KeepsOn first second → KeepsOn second third → KeepsOn first third
keeps_on first second third a b = record {
  made = a.made + b.made;
  count = counted_on first.count second.count third.count a.made b.made a.count b.count b.no_fewer;
  no_fewer = omega (arith, a.no_fewer, b.no_fewer);
  failing = b.failing ∙ a.failing;
  fuse = shortened a.made b.made first.fuse second.fuse third.fuse a.fuse b.fuse;
  passed = λ pass. b.passed (later pass) ∙ a.passed (earlier pass);
  faults = omega (arith, a.faults, b.faults);
  wants = omega (arith, a.wants, b.wants);
  lacks = omega (arith, a.lacks, b.lacks);
}
  where
    earlier : AllPass first (a.made + b.made) → AllPass first a.made
    earlier pass = record {
      not_listed = λ number above below. pass.not_listed number above (omega (arith, below));
      lasts = lasts_first a.made b.made first.fuse pass.lasts;
    }

    later : AllPass first (a.made + b.made) → AllPass second b.made
    later pass = record {
      not_listed = λ number above below has. pass.not_listed number (omega (arith, above, a.no_fewer))
          (omega (arith, below, at_most first.count second.count a.made a.count)) (subst (λ (l : List ℕ). Contains l number) a.failing has);
      lasts = lasts_more a.made b.made first.fuse second.fuse a.fuse pass.lasts;
    }

-- ---- one call

one_burnt : (fuse : Option ℕ) → burnt fuse ≡ option_map (λ k. k - 1) fuse
one_burnt None = refl
one_burnt (Some k) = refl

not_burnt : (fuse : Option ℕ) → IfSome fuse (λ k. 1 ≤ k) → fuse ≡ Some 0 → ⊥
not_burnt fuse lasts is = let P : Option ℕ → Type 0 = λ f. IfSome f (λ k. 1 ≤ k) in let none : 1 ≤ 0 = subst P is lasts in absurd
    (omega (arith, none))

up : (due : Bool) (events : ℕ) → events ≤ raised due events
up true events = omega arith
up false events = omega arith

counted_once : (old new : ℕ) → new ≡ min (old + 1) (2 ^ 64 - 1) → (new ≡ old + 1) ⊎ ((new < old + 1) × (2 ^ 64 - 1 ≤ new))
counted_once old new is = ⊎_elim (λ below. inl (omega (arith, is, below)))
    (λ above. inr (omega (arith, is, above), omega (arith, is, above))) (cases old)
  where
    cases : (old : ℕ) → (old + 1 ≤ 2 ^ 64 - 1) ⊎ (2 ^ 64 - 1 < old + 1)
    cases old = grind arith

begun_keeps : (old : Memory) (due : Bool) → ((due ≡ true) ↔ IsDue old) → old.count ≤ min (old.count + 1) (2 ^ 64 - 1)
    → KeepsOn old (begun old due)
begun_keeps old due is no_fewer = record {
  made = 1;
  count = counted_once old.count (min (old.count + 1) (2 ^ 64 - 1)) refl;
  no_fewer = no_fewer;
  failing = refl;
  fuse = one_burnt old.fuse;
  passed = λ pass. none due (λ failed. fails pass (is.0 failed));
  faults = up due old.faults;
  wants = omega arith;
  lacks = omega arith;
}
  where
    none : (due : Bool) → (due ≡ true → ⊥) → raised due old.faults ≡ old.faults
    none true not = absurd (not refl)
    none false not = refl

    fails : AllPass old 1 → IsDue old → ⊥
    fails pass (inl listed) = pass.not_listed (old.count + 1) (omega arith) (omega arith) listed
    fails pass (inr out) = not_burnt old.fuse pass.lasts out

-- a call that was counted
pub keeps_begun : (old new : Memory) (due : Bool) → new ≡ begun old due → ((due ≡ true) ↔ IsDue old) → old.count ≤ new.count
    → KeepsOn old new
keeps_begun old new due is test no_fewer = subst (λ (m : Memory). KeepsOn old m) (sym is)
    (begun_keeps old due test (subst (λ (m : Memory). old.count ≤ m.count) is no_fewer))

-- and then did what no fault is
pub keeps_told : (old mid new : Memory) → KeepsOn old mid → new.count ≡ mid.count → new.failing ≡ mid.failing → new.fuse ≡ mid.fuse
    → new.faults ≡ mid.faults → mid.wants ≤ new.wants → mid.lacks ≤ new.lacks → KeepsOn old new
keeps_told old mid new kept count failing fuse faults wants lacks = keeps_on old mid new kept (record {
  made = 0;
  count = inl (omega (arith, count));
  no_fewer = omega (arith, count);
  failing = failing;
  fuse = fuse ∙ unchanged mid.fuse;
  passed = λ pass. faults;
  faults = omega (arith, faults);
  wants = wants;
  lacks = lacks;
})

-- ---- a disk that fails at no call

-- without a fuse and without a listed call, each passes
pub all_pass : (m : Memory) (made : ℕ) → m.failing ≡ [] → m.fuse ≡ None → AllPass m made
all_pass m made no_list no_fuse = record {
  not_listed = λ number above below has. none number (subst (λ (l : List ℕ). Contains l number) no_list has);
  lasts = subst (λ (f : Option ℕ). IfSome f (λ k. made ≤ k)) (sym no_fuse) tt;
}
  where
    none : (number : ℕ) → Contains [] number → ⊥
    none number has = absurd (omega (arith, has.1))
