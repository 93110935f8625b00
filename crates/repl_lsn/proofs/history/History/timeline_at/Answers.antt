-- The first timeline that ends past the position holds it.
use Rattle.std.proofs.Common.{◌≡◌, ◌<◌, length, get_or, drop, [], Some, None, refl, sym, ap, subst, inl, inr, rules, arith}
use Rattle.std.proofs.lemmas.List.{drop_all}
use Rattle.repl_lsn.specs.Path.{IsOn, Holds}
use Rattle.repl_lsn.proofs.Timelines.{item_holds}
use Rattle.repl_lsn.proofs.Holders.{is_holder}
use Rattle.repl_lsn.proofs.history.History.timeline_at.Goals as goal

pub returns-then-lt : goal.returns-then-lt
returns-then-lt c =
    let path = c.args.self.now in
    let x = c.part-item.result in
    let i = c.loop-part.part-index in
    let walked = c.loop-part.invariant in
    let within : i < length path.parents = search rules in
    let at : x ≡ get_or path.parents i x = cc in
    let here = item_holds path.parents path.own walked.origin i x within at x.tli walked.origin (Some x.switch) (inl (refl, refl, refl)) in
    let on : IsOn path x.tli c.args.at =
    record {
      start = walked.origin;
      end = Some x.switch;
      holds = walked.rest x.tli walked.origin (Some x.switch) here;
      from = walked.from;
      below = search rules;
    } in
    record { on = on; value = is_holder path x.tli c.args.at c.parents.ensures.path on }

pub returns : goal.returns
returns c =
    let path = c.args.self.now in
    let walked = c.loop-part.invariant in
    let none : drop c.loop-part.part-index path.parents ≡ [] =
    drop_all c.loop-part.part-index path.parents (omega (arith, ap length walked.parents)) in
    let last : Holds walked.origin [] path.own c.own.result walked.origin None = (c.own.ensures, refl, refl) in
    let on : IsOn path c.own.result c.args.at =
    record {
      start = walked.origin;
      end = None;
      holds = walked.rest c.own.result walked.origin None (subst (λ qs. Holds walked.origin qs path.own c.own.result walked.origin None)
          (sym none) last);
      from = walked.from;
      below = tt;
    } in
    record { on = on; value = is_holder path c.own.result c.args.at c.parents.ensures.path on }

pub loop-part-preserved : goal.loop-part-preserved
loop-part-preserved c =
    let path = c.args.self.now in
    let x = c.part-item.result in
    let i = c.loop-part.part-index in
    let walked = c.loop-part.invariant in
    let within : i < length path.parents = search rules in
    let at : x ≡ get_or path.parents i x = cc in
    record {
      parents = walked.parents;
      origin = x.switch;
      from = search rules;
      rest = λ tli start end holds.
          walked.rest tli start end (item_holds path.parents path.own walked.origin i x within at tli start end (inr holds));
    }
