-- What stays met: at earlier positions, and where standbys move forward.
use Rattle.std.proofs.Common.{◌≡◌, ℕ, ◌<◌, ◌≤◌, Bool, true, false, cond, ◌&&◌, ◌||◌, nat_lt, ◌==◌, List, [], ◌∷◌, get_or, All, count_by, sym, ap, subst, ◌∙◌, arith}
use Rattle.std.specs.List.{AllZip}
use Rattle.std.proofs.lemmas.Bool.{lt-ltb}
use Rattle.std.proofs.lemmas.List.Elements.{All-head, All-tail, length_all_zip, AllZip-get_or}
use Rattle.repl_names.specs.declared.list.Method.{Method}
use Rattle.repl_names.specs.declared.list.Method.TheVariants as method
use Rattle.repl_names.specs.declared.quorum.Mode.{Mode}
use Rattle.repl_names.specs.declared.quorum.Mode.TheVariants as mode
use Rattle.repl_names.specs.declared.quorum.Candidate.{Candidate}
use Rattle.repl_names.specs.StandbyList.{Listing}
use Rattle.repl_names.specs.Quorum.{Met, MetBy, Forward, candidates, counts, position, reaches, goes_before}
use Rattle.repl_names.proofs.Quorums.{count_cons, one_le, reach_falls, reached, reaches_at}
use Rattle.repl_names.proofs.Lists.{met_for_both}

-- ---- earlier positions

met_by_below : (me : Method) (number : ℕ) (cs : List Candidate) (m : Mode) (earlier end : ℕ) → earlier ≤ end → MetBy me number cs m end
    → MetBy me number cs m earlier
met_by_below method.Any number cs m earlier end le h = let falls = reach_falls m earlier end cs le in omega arith
met_by_below method.First number cs m earlier end le h = record {
  enough = h.enough;
  first = λ k d l r. let at = h.first k d l r in omega arith;
}

pub stays_met_below : (list : Listing) (sessions : List Candidate) (m : Mode) (earlier end : ℕ) → earlier ≤ end → Met list sessions m end
    → Met list sessions m earlier
stays_met_below list sessions m earlier end le = met_for_both list.names list (candidates sessions) (candidates sessions) m end earlier
    (met_by_below list.method list.number (candidates sessions) m earlier end le)

-- ---- forward

pub forward_position : (m : Mode) (old new : Candidate) → Forward old new → position m old ≤ position m new
forward_position mode.Write old new f = f.written
forward_position mode.Flush old new f = f.flushed
forward_position mode.Apply old new f = f.applied

forward_counts : (old new : Candidate) → Forward old new → 0 < old.flushed → counts new ≡ counts old
forward_counts old new f some =
    let was = lt-ltb 0 old.flushed some in
    let is = lt-ltb 0 new.flushed (omega (arith, f.flushed)) in
    ap (λ p. nat_lt 0 p && nat_lt 0 new.flushed) f.priority ∙ ap (λ b. nat_lt 0 old.priority && b) (is ∙ sym was)

pub forward_before : (c d e f : Candidate) → Forward c e → Forward d f → goes_before f e ≡ goes_before d c
forward_before c d e f ce df =
    ap (λ p. nat_lt p e.priority || (p == e.priority && nat_lt f.session e.session)) df.priority
    ∙ ap (λ p. nat_lt d.priority p || (d.priority == p && nat_lt f.session e.session)) ce.priority
    ∙ ap (λ s. nat_lt d.priority c.priority || (d.priority == c.priority && nat_lt s e.session)) df.session
    ∙ ap (λ s. nat_lt d.priority c.priority || (d.priority == c.priority && nat_lt d.session s)) ce.session

zip_cond : (b : Bool) (c d : Candidate) (cs ds : List Candidate) → Forward c d → AllZip Forward cs ds
    → AllZip Forward (cond b (c ∷ cs) cs) (cond b (d ∷ ds) ds)
zip_cond true c d cs ds f rest = (f, rest)
zip_cond false c d cs ds f rest = rest

forward_candidates : (old new : List Candidate) → AllZip Forward old new → All (λ c. 0 < c.flushed) old
    → AllZip Forward (candidates old) (candidates new)
forward_candidates [] [] zip some = zip
forward_candidates [] (d ∷ ds) zip some = absurd zip
forward_candidates (c ∷ cs) [] zip some = absurd zip
forward_candidates (c ∷ cs) (d ∷ ds) zip some =
    let rest = forward_candidates cs ds zip.1 (All-tail (λ e. 0 < e.flushed) c cs some) in
    let same = forward_counts c d zip.0 (All-head (λ e. 0 < e.flushed) c cs some) in
    subst (λ b. AllZip Forward (cond (counts c) (c ∷ candidates cs) (candidates cs)) (cond b (d ∷ candidates ds) (candidates ds)))
    (sym same) (zip_cond (counts c) c d (candidates cs) (candidates ds) zip.0 rest)

count_forward : (p q : Candidate → Bool) (old new : List Candidate) → AllZip Forward old new
    → ((c d : Candidate) → Forward c d → p c ≡ true → q d ≡ true) → count_by p old ≤ count_by q new
count_forward p q [] [] zip by = omega arith
count_forward p q [] (d ∷ ds) zip by = absurd zip
count_forward p q (c ∷ cs) [] zip by = absurd zip
count_forward p q (c ∷ cs) (d ∷ ds) zip by =
    let head = one_le (p c) (q d) (by c d zip.0) in
    let rest = count_forward p q cs ds zip.1 by in
    omega (arith, count_cons p c cs, count_cons q d ds)

met_by_forward : (me : Method) (number : ℕ) (old new : List Candidate) (m : Mode) (end : ℕ) → AllZip Forward old new
    → MetBy me number old m end → MetBy me number new m end
met_by_forward method.Any number old new m end zip h =
    let more = count_forward (reaches m end) (reaches m end) old new zip
    (λ c d f e. let at = reached m end c e in let up = forward_position m c d f in reaches_at m end d (omega arith)) in
    omega arith
met_by_forward method.First number old new m end zip h =
    let size = length_all_zip Forward old new zip in
    record {
      enough = omega (arith, h.enough);
      first = λ k d l r.
          let was = get_or old k d in
          let is = get_or new k d in
          let f : Forward was is = AllZip-get_or Forward old new k d d zip (omega arith) in
          let ranks = count_forward (λ e. goes_before e was) (λ e. goes_before e is) old new zip
          (λ a b g e. forward_before was a is b f g ∙ e) in
          let at = h.first k d (omega arith) (omega arith) in
          let up = forward_position m was is f in
          omega arith;
    }

pub stays_met_forward : (list : Listing) (old new : List Candidate) (m : Mode) (end : ℕ) → AllZip Forward old new
    → All (λ c. 0 < c.flushed) old → Met list old m end → Met list new m end
stays_met_forward list old new m end zip some = met_for_both list.names list (candidates old) (candidates new) m end end
    (met_by_forward list.method list.number (candidates old) (candidates new) m end (forward_candidates old new zip some))
