-- One more line, and the first that is wrong.
use Rattle.std.proofs.Common.{◌≡◌, ◌⊎◌, ◌+◌, ◌<◌, List, [], ◌∷◌, ◌++◌, length, sym, subst, inl, inr, ⊎_elim, arith, rules}
use Rattle.std.proofs.lemmas.Grind.{common_steps}
use Rattle.repl_lsn.specs.declared.history.Part.{Part}
use Rattle.repl_lsn.specs.declared.fault.HistoryFault.TheVariants as HistoryFault
use Rattle.repl_lsn.specs.History.{InOrder, IsIgnored, SaysPart, IsLineFault, BreaksAt}
use Rattle.repl_lsn.proofs.Lines.{split_first}
use Rattle.repl_lsn.proofs.Outside.{Known, known_more}
use Rattle.repl_lsn.proofs.Reading.{Reads, reads_ignored, reads_part, reads_all, reads_wrong}
use Rattle.repl_lsn.proofs.history_lines.parse_parents.Goals as goal

pub returns-in_err-part-clause-refused : goal.returns-in_err-part-clause-refused
returns-in_err-part-clause-refused c =
    let rest = c.loop-rest.rest.now in
    let line = c.split_line.result.0.now in
    let past = c.split_line.result.1.now in
    let parts = c.loop-rest.parents.items in
    let f = c.in_err-part.field-0.0 in
    let some : 0 < length rest = grind (arith, common_steps) in
    let cut = split_first rest line past some c.split_line.ensures.single c.split_line.ensures.parts in
    let wrong : (f ≡ HistoryFault.Memory) ⊎ BreaksAt c.args.own c.args.text.now f =
    ⊎_elim (λ memory. inl memory)
    (λ h. inr (reads_wrong c.args.own c.args.text.now rest c.loop-rest.place parts line past f c.requires c.loop-rest.invariant.reads cut
    (h c.args.own parts)))
    c.in_err-part.ensures.refused in
    search rules

pub returns-in_err-check_order-clause-refused : goal.returns-in_err-check_order-clause-refused
returns-in_err-check_order-clause-refused c =
    let rest = c.loop-rest.rest.now in
    let line = c.split_line.result.0.now in
    let past = c.split_line.result.1.now in
    let parts = c.loop-rest.parents.items in
    let f = c.in_err-check_order.field-0.0 in
    let some : 0 < length rest = grind (arith, common_steps) in
    let cut = split_first rest line past some c.split_line.ensures.single c.split_line.ensures.parts in
    let says : SaysPart line c.in-Some.part = search rules in
    let fault = c.in_err-check_order.ensures.refused line says in
    let faults : IsLineFault c.args.own parts line (c.loop-rest.place + 1) f =
    subst (λ (before : List Part). IsLineFault c.args.own before line (c.loop-rest.place + 1) f) c.deref.ensures.value fault in
    let wrong = reads_wrong c.args.own c.args.text.now rest c.loop-rest.place parts line past f c.requires c.loop-rest.invariant.reads cut
    faults in
    search rules

pub loop-rest-preserved-in_ok-push : goal.loop-rest-preserved-in_ok-push
loop-rest-preserved-in_ok-push c =
    let rest = c.loop-rest.rest.now in
    let line = c.split_line.result.0.now in
    let past = c.split_line.result.1.now in
    let parts = c.loop-rest.parents.items in
    let part = c.in-Some.part in
    let some : 0 < length rest = grind (arith, common_steps) in
    let cut = split_first rest line past some c.split_line.ensures.single c.split_line.ensures.parts in
    let says : SaysPart line part = search rules in
    let in_order = subst (λ (before : List Part). InOrder c.args.own (before ++ part ∷ [])) c.deref.ensures.value
    c.in_ok-check_order.ensures.in_order in
    let known = known_more c.args.own c.args.least c.args.most c.args.text.now rest c.loop-rest.place parts line past part
    c.loop-rest.outside c.first_outside-outside.result c.loop-rest.invariant.reads cut c.loop-rest.invariant.outside says
    c.first_outside-outside.ensures in
    record {
      reads = subst (Reads c.args.own c.args.text.now past (c.loop-rest.place + 1)) (sym c.in_ok-push.ensures.items)
          (reads_part c.args.own c.args.text.now rest c.loop-rest.place parts line past part c.loop-rest.invariant.reads cut says
          in_order);
      outside = subst (λ more. Known c.args.text.now c.args.least c.args.most more c.first_outside-outside.result)
          (sym c.in_ok-push.ensures.items) known;
    }

pub loop-rest-preserved : goal.loop-rest-preserved
loop-rest-preserved c =
    let rest = c.loop-rest.rest.now in
    let line = c.split_line.result.0.now in
    let past = c.split_line.result.1.now in
    let some : 0 < length rest = grind (arith, common_steps) in
    let cut = split_first rest line past some c.split_line.ensures.single c.split_line.ensures.parts in
    let ignored : IsIgnored line = search rules in
    record {
      reads = reads_ignored c.args.own c.args.text.now rest c.loop-rest.place c.loop-rest.parents.items line past
          c.loop-rest.invariant.reads cut ignored;
      outside = c.loop-rest.invariant.outside;
    }

pub returns-clause-read : goal.returns-clause-read
returns-clause-read c =
    let none : c.loop-rest.rest.now ≡ [] = grind (arith, common_steps) in
    reads_all c.args.own c.args.text.now c.loop-rest.place c.loop-rest.parents.items c.requires
    (subst (λ rest. Reads c.args.own c.args.text.now rest c.loop-rest.place c.loop-rest.parents.items) none c.loop-rest.invariant.reads)
