-- Runs: the longest front of a text whose bytes pass a test.
use Rattle.std.proofs.Common.{◌≡◌, ℕ, suc, ◌+◌, ◌<◌, Bool, true, false, List, [], ◌∷◌, ◌++◌, length, get_or, take, drop, refl, sym, ap, subst, ◌∙◌, ⊎_elim, arith}
use Rattle.std.specs.List.{All, prefix_len}
use Rattle.std.proofs.lemmas.Bool.{cases_lt, cond-true, cond-false}
use Rattle.std.proofs.lemmas.List.{drop_more, drop_all, get_or-take, length-take-le}
use Rattle.std.proofs.lemmas.List.Elements.{All-head, All-tail, All-cons, All-from_get_or}
use Rattle.std.proofs.lemmas.List.Sums.{prefix_len-le-length, prefix_len_passes, prefix_len_stops}
use Rattle.repl_token.specs.declared.class.Class.{Class}
use Rattle.repl_token.specs.Token.{EndsBefore, IsRun}

-- what ends before a place of a text is shown by the byte there
pub ends_at : (test : ℕ → Bool) (text : List ℕ) (n : ℕ) → (n < length text → test (get_or text n 0) ≡ false) → EndsBefore test (drop n text)
ends_at test text n stops = ⊎_elim
    (λ l. subst (EndsBefore test) (sym (drop_more text n 0 l)) (stops l))
    (λ l. subst (EndsBefore test) (sym (drop_all n text l)) tt)
    (cases_lt n (length text))

pub run_passes : (test : ℕ → Bool) (text : List ℕ) → All (λ c. test c ≡ true) (take (prefix_len test text) text)
run_passes test text =
    let size = length-take-le (prefix_len test text) text (prefix_len-le-length test text) in
    All-from_get_or (λ c. test c ≡ true) (take (prefix_len test text) text) 0
    (λ i l.
    let below : i < prefix_len test text = omega (arith, size) in
    ap test (get_or-take (prefix_len test text) text i 0 below) ∙ prefix_len_passes test text i 0 below)

pub run_ends : (test : ℕ → Bool) (text : List ℕ) → EndsBefore test (drop (prefix_len test text) text)
run_ends test text = ends_at test text (prefix_len test text) (prefix_len_stops test text 0)

-- a byte that passes first begins a run
run_more : (test : ℕ → Bool) (c : ℕ) (cs : List ℕ) → test c ≡ true → prefix_len test (c ∷ cs) ≡ suc (prefix_len test cs)
run_more test c cs e = cond-true (test c) (1 + prefix_len test cs) 0 e ∙ omega arith

pub run_some : (test : ℕ → Bool) (text : List ℕ) → 0 < length text → test (get_or text 0 0) ≡ true → 0 < prefix_len test text
run_some test [] some e = absurd (omega arith)
run_some test (c ∷ cs) some e = omega (arith, run_more test c cs e)

-- a run is as long as it can be
pub run_len : (test : ℕ → Bool) (front past : List ℕ) → All (λ c. test c ≡ true) front → EndsBefore test past
    → prefix_len test (front ++ past) ≡ length front
run_len test [] [] passes ends = refl
run_len test [] (c ∷ cs) passes ends = cond-false (test c) (1 + prefix_len test cs) 0 ends
run_len test (c ∷ cs) past passes ends =
    run_more test c (cs ++ past) (All-head (λ b. test b ≡ true) c cs passes)
    ∙ ap suc (run_len test cs past (All-tail (λ b. test b ≡ true) c cs passes) ends)

-- ---- words and numbers

-- the longest front of a text that begins with a byte of the class
pub run_front : (class_of : ℕ → Class) (begins : Class) (goes_on : Class → Bool) (text : List ℕ) → goes_on begins ≡ true → 0 < length text
    → class_of (get_or text 0 0) ≡ begins
    → IsRun class_of begins goes_on (take (prefix_len (λ c. goes_on (class_of c)) text) text)
    (drop (prefix_len (λ c. goes_on (class_of c)) text) text)
run_front class_of begins goes_on [] e some is = absurd (omega arith)
run_front class_of begins goes_on (c ∷ cs) e some is =
    let test : ℕ → Bool = λ b. goes_on (class_of b) in
    record {
      first = c;
      others = take (prefix_len test cs) cs;
      parts = ap (λ n. take n (c ∷ cs)) (run_more test c cs (ap goes_on is ∙ e));
      starts = is;
      continues = run_passes test cs;
      ends = run_ends test (c ∷ cs);
    }

-- all the bytes of a run go on
pub run_all : (class_of : ℕ → Class) (begins : Class) (goes_on : Class → Bool) (bytes past : List ℕ) → goes_on begins ≡ true
    → IsRun class_of begins goes_on bytes past → All (λ c. goes_on (class_of c) ≡ true) bytes
run_all class_of begins goes_on bytes past e h =
    subst (All (λ c. goes_on (class_of c) ≡ true)) (sym h.parts)
    (All-cons (λ c. goes_on (class_of c) ≡ true) h.first h.others (ap goes_on h.starts ∙ e) h.continues)

-- where a text begins with a run, that is its longest front
pub run_size : (class_of : ℕ → Class) (begins : Class) (goes_on : Class → Bool) (bytes past : List ℕ) → goes_on begins ≡ true
    → IsRun class_of begins goes_on bytes past → length bytes ≡ prefix_len (λ c. goes_on (class_of c)) (bytes ++ past)
run_size class_of begins goes_on bytes past e h = sym (run_len (λ c. goes_on (class_of c)) bytes past
    (run_all class_of begins goes_on bytes past e h) h.ends)

-- bytes that go on, the first of them of the class
pub run_of : (class_of : ℕ → Class) (begins : Class) (goes_on : Class → Bool) (bytes past : List ℕ) → 0 < length bytes
    → class_of (get_or bytes 0 0) ≡ begins → All (λ c. goes_on (class_of c) ≡ true) bytes → EndsBefore (λ c. goes_on (class_of c)) past
    → IsRun class_of begins goes_on bytes past
run_of class_of begins goes_on [] past some is passes ends = absurd (omega arith)
run_of class_of begins goes_on (c ∷ cs) past some is passes ends = record {
  first = c;
  others = cs;
  parts = refl;
  starts = is;
  continues = All-tail (λ b. goes_on (class_of b) ≡ true) c cs passes;
  ends = ends;
}
