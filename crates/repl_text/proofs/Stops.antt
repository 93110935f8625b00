-- Where a list leaves a language: how `StopsAt` is shown, and that there is one such place at most.
use Rattle.std.proofs.Common.{◌≡◌, ℕ, ◌+◌, ◌<◌, ◌≤◌, List, ◌++◌, length, get_or, take, drop, refl, sym, ap, subst, ◌∙◌, arith, ⊎_elim, length-append}
use Rattle.std.proofs.lemmas.Bool.{cases_lt}
use Rattle.std.proofs.lemmas.List.{append_assoc, get_or-take, get_or_append_left, take-append-drop, take-take, length-take-le}
use Rattle.repl_text.specs.Language.{Begins, StopsAt}

-- `other` has the elements of `list` up to the place, and at the place too; `d` stands past the end
pub record Follows {A : Type 0} (d : A) (list : List A) (place : ℕ) (other : List A) : Type 0 where
  pub same : (i : ℕ) → i ≤ place → get_or other i d ≡ get_or list i d
  pub long : place < length list → place < length other

pub follows_itself : {A : Type 0} (d : A) (list : List A) (place : ℕ) → Follows d list place list
follows_itself d list place = record { same = λ i h. refl; long = λ h. h }

pub follows_front : {A : Type 0} (d : A) (list more : List A) (place : ℕ) → place < length list
    → Follows d list place (take (place + 1) list ++ more)
follows_front d list more place within =
    let size : length (take (place + 1) list) ≡ place + 1 = length-take-le (place + 1) list (omega arith) in
    record {
      same = λ i h. get_or_append_left (take (place + 1) list) more d i (omega arith) ∙ get_or-take (place + 1) list i d (omega arith);
      long = λ h. omega (arith, length-append (take (place + 1) list) more);
    }

-- a list of the language begins so, and none goes on with the element that stands at the place
pub stops_from : {A : Type 0} (L : List A → Type 0) (d : A) (list : List A) (place : ℕ) → place ≤ length list → Begins L (take place list)
    → ((other : List A) → Follows d list place other → ¬ L other) → StopsAt L list place
stops_from L d list place within goes_on none = record {
  within = within;
  refused = none list (follows_itself d list place);
  goes_on = goes_on;
  stops = λ h b. none (take (place + 1) list ++ b.0) (follows_front d list b.0 place h) b.1;
}

-- what begins a front of a list of the language begins one
pub begins_take : {A : Type 0} (L : List A → Type 0) (list : List A) (i j : ℕ) → i ≤ j → Begins L (take j list) → Begins L (take i list)
begins_take L list i j le b =
    let parts : take i list ++ drop i (take j list) ≡ take j list =
    ap (λ front. front ++ drop i (take j list)) (sym (take-take i j list le)) ∙ take-append-drop i (take j list) in (
      drop i (take j list) ++ b.0,
      subst L (sym (sym (append_assoc (take i list) (drop i (take j list)) b.0)
          ∙ ap (λ front. front ++ b.0) parts)) b.1,
    )

-- a list of the language stops nowhere
pub stops_not : {A : Type 0} (L : List A → Type 0) (list : List A) (place : ℕ) → L list → StopsAt L list place → ⊥
stops_not L list place is s = s.refused is

pub one_place : {A : Type 0} (L : List A → Type 0) (list : List A) (a b : ℕ) → StopsAt L list a → StopsAt L list b → a ≡ b
one_place L list a b s t = ⊎_elim
    (λ l. absurd (s.stops (omega (arith, t.within)) (begins_take L list (a + 1) b (omega arith) t.goes_on)))
    (λ l. ⊎_elim
    (λ m. absurd (t.stops (omega (arith, s.within)) (begins_take L list (b + 1) a (omega arith) s.goes_on)))
    (λ m. omega arith)
    (cases_lt b a))
    (cases_lt a b)
