-- Where records end in a log that is cut, and in one that goes on.
use Rattle.std.proofs.Common.{ℕ, ◌+◌, ◌-◌, ◌≤◌, List, ◌++◌, take, sym, subst, arith, length-append}
use Rattle.std.proofs.lemmas.List.{length-take}
use Rattle.repl_page.specs.declared.ident.Ident.{Ident}
use Rattle.repl_record.specs.Record.{IsImage}
use Rattle.repl_record.specs.Log.{RecordEnd, origin, next}
use Rattle.repl_record.proofs.Fields.{part_of_front, part_of_more}

-- no record ends before the log begins
pub from_le : (ident : Ident) (timeline : ℕ → ℕ) (from prev : ℕ) (log : List ℕ) (end last : ℕ) → RecordEnd ident timeline from prev log end last
    → from ≤ end
from_le ident timeline from prev log end last origin = omega arith
from_le ident timeline from prev log _ _ (next end last item n before fits image) = let below =
    from_le ident timeline from prev log end last before in omega arith

pub kept_by_cut : (ident : Ident) (timeline : ℕ → ℕ) (from prev : ℕ) (log : List ℕ) (c end last : ℕ)
    → RecordEnd ident timeline from prev log end last → end ≤ from + c → RecordEnd ident timeline from prev (take c log) end last
kept_by_cut ident timeline from prev log c end last origin within = origin
kept_by_cut ident timeline from prev log c _ _ (next end last item n before fits image) within =
    let below = from_le ident timeline from prev log end last before in
    let same = sym (part_of_front (end - from) n c log (omega arith)) in
    next end last item n (kept_by_cut ident timeline from prev log c end last before (omega arith)) (omega (
      arith,
      length-take c log,
    )) (subst (IsImage ident timeline end last item) same image)

pub only_by_cut : (ident : Ident) (timeline : ℕ → ℕ) (from prev : ℕ) (log : List ℕ) (c end last : ℕ)
    → RecordEnd ident timeline from prev (take c log) end last → RecordEnd ident timeline from prev log end last × (end ≤ from + c)
only_by_cut ident timeline from prev log c end last origin = (origin, omega arith)
only_by_cut ident timeline from prev log c _ _ (next end last item n before fits image) =
    let below = from_le ident timeline from prev (take c log) end last before in
    let cut = length-take c log in
    let same = part_of_front (end - from) n c log (omega arith) in (
      next end last item n (only_by_cut ident timeline from prev log c end last before).0 (omega arith)
          (subst (IsImage ident timeline end last item) same image),
      omega arith,
    )

pub kept_by_more : (ident : Ident) (timeline : ℕ → ℕ) (from prev : ℕ) (log more : List ℕ) (end last : ℕ)
    → RecordEnd ident timeline from prev log end last → RecordEnd ident timeline from prev (log ++ more) end last
kept_by_more ident timeline from prev log more end last origin = origin
kept_by_more ident timeline from prev log more _ _ (next end last item n before fits image) =
    let same = sym (part_of_more (end - from) n log more fits) in
    next end last item n (kept_by_more ident timeline from prev log more end last before) (omega (
      arith,
      length-append log more,
    )) (subst (IsImage ident timeline end last item) same image)
