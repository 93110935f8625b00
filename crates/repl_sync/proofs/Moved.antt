-- A list is met by candidates in any order, and those of the sessions that stream are those with a flushed position.
use Rattle.std.proofs.Common.{◌≡◌, ℕ, ◌<◌, ◌≤◌, Bool, true, false, cond, List, [], ◌∷◌, map, filter, length, All, get_or, IsPermutation, refl, sym, ap, subst, ◌∙◌, arith}
use Rattle.std.proofs.lemmas.Bool.Decides.{nat_tests}
use Rattle.std.proofs.lemmas.List.Elements.{All-head, All-tail}
use Rattle.std.proofs.lemmas.List.Sorted.{length_permutation, All-permutation, sum_by-IsPermutation}
use Rattle.repl_names.specs.StandbyList.{Listing, priority_of}
use Rattle.repl_names.specs.declared.list.Method.{Method}
use Rattle.repl_names.specs.declared.list.Method.TheVariants as method
use Rattle.repl_names.specs.declared.quorum.Mode.{Mode}
use Rattle.repl_names.specs.declared.quorum.Candidate.{Candidate}
use Rattle.repl_names.specs.Quorum.{MetBy, MetFor, candidates, counts, goes_before, position, rank, reaches, InOrder}
use Rattle.repl_names.proofs.Lists.{met_for_both}
use Rattle.repl_sync.specs.declared.session.Entry.{Entry}
use Rattle.repl_sync.specs.State.{Session, Rests, standing, standbys}
use Rattle.repl_sync.specs.Inside.{IsOrder, SameByTests, session_of, sessions_of, candidate_of}

met_by_moved : (me : Method) (number : ℕ) (cs ds : List Candidate) (m : Mode) (end : ℕ) → IsPermutation cs ds → MetBy me number cs m end
    → MetBy me number ds m end
met_by_moved method.Any number cs ds m end moved h =
    let same = sum_by-IsPermutation (λ c. cond (reaches m end c) 1 0) cs ds moved in
    omega arith
met_by_moved method.First number cs ds m end moved h =
    let P : Candidate → Type 0 = λ c. rank cs c < number → end ≤ position m c in
    let all = All-permutation P cs ds moved h.first in
    record {
      enough = omega (arith, length_permutation cs ds moved, h.enough);
      first = λ k d l low.
          let c = get_or ds k d in
          let same = sum_by-IsPermutation (λ e. cond (goes_before e c) 1 0) cs ds moved in
          all k d l (omega arith);
    }

pub met_for_moved : (list : Listing) (cs ds : List Candidate) (m : Mode) (end : ℕ) → IsPermutation cs ds → MetFor list.names list cs m end
    → MetFor list.names list ds m end
met_for_moved list cs ds m end moved = met_for_both list.names list cs ds m end end
    (met_by_moved list.method list.number cs ds m end moved)

-- ---- those that stream

abbrev pub Ranked : Listing → Entry → Type 0
Ranked list e = e.candidate.priority ≡ priority_of list.names e.name

pub stands_as : (list : Listing) (e : Entry) → Ranked list e → standing list (session_of e) ≡ e.candidate
stands_as list e ranked = ap (λ (p : ℕ). record {
  session = e.candidate.session;
  priority = p;
  written = e.candidate.written;
  flushed = e.candidate.flushed;
  applied = e.candidate.applied;
}) (sym ranked)

at_rest : (c : Candidate) → c.flushed ≡ 0 → counts c ≡ false
at_rest c h = grind (arith, nat_tests)

one_standing : (list : Listing) (e : Entry) (ss : List Session) (b : Bool) → e.streaming ≡ b → Ranked list e → Rests (session_of e)
    → candidates (map (standing list) (cond b (session_of e ∷ ss) ss)) ≡ candidates (e.candidate ∷ map (standing list) ss)
one_standing list e ss true is ranked rests = ap (λ c. candidates (c ∷ map (standing list) ss)) (stands_as list e ranked)
one_standing list e ss false is ranked rests =
    sym (ap (λ b. cond b (e.candidate ∷ candidates (map (standing list) ss)) (candidates (map (standing list) ss)))
    (at_rest e.candidate (rests is).flushed))

pub same_candidates : (list : Listing) (es : List Entry) → All (Ranked list) es → All (λ e. Rests (session_of e)) es
    → candidates (standbys list (sessions_of es)) ≡ candidates (map candidate_of es)
same_candidates list [] ranked resting = refl
same_candidates list (e ∷ es) ranked resting =
    let rest = same_candidates list es (All-tail (Ranked list) e es ranked) (All-tail (λ x. Rests (session_of x)) e es resting) in
    let streaming = filter (λ (s : Session). s.streaming) (sessions_of es) in
    one_standing list e streaming e.streaming refl (All-head (Ranked list) e es ranked) (All-head (λ x. Rests (session_of x)) e es resting)
    ∙ ap (λ cs. cond (counts e.candidate) (e.candidate ∷ cs) cs) rest

pub in_order : (list : Listing) (es : List Entry) (order : List Candidate) → All (Ranked list) es → All (λ e. Rests (session_of e)) es
    → SameByTests (candidates (map candidate_of es)) order → InOrder order → length order ≤ length es → IsOrder list es order
in_order list es order ranked resting same up few = record {
  same = subst (λ cs. SameByTests cs order) (sym (same_candidates list es ranked resting)) same;
  ordered = up;
  few = few;
}
