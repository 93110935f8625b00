-- One more line of the canonical text, and that it is read back.
use Rattle.std.proofs.Common.{◌≡◌, ◌≤◌, ◌∷◌, ◌++◌, [], length, take, flat_map, All, sym, ap, subst, ◌∙◌, take_all, length-append, arith}
use Rattle.std.proofs.lemmas.List.Elements.{All-more}
use Rattle.repl_lsn.specs.declared.history.TheConstants.{HISTORY_LIMIT}
use Rattle.repl_lsn.specs.History.{SaysHistory, line_text, canonical}
use Rattle.repl_lsn.proofs.Printed.{IsPrinted, head_text, printed_more, line_length, text_more, canonical_read}
use Rattle.repl_lsn.proofs.history_lines.history_text.Goals as goal
use Rattle.repl_lsn.proofs.history_lines.history_text.Goals.{then-have-le-HISTORY_LIMIT+in_ok-push_line, else-have-le-HISTORY_LIMIT}

pub loop-part-preserved : goal.loop-part-preserved
loop-part-preserved c =
    let items = c.as_slice-part-items.result.now in
    let i = c.loop-part.part-index in
    let p = c.part-item.result in
    let l = c.loop-part-test.true in
    let front = flat_map line_text (take i items) in
    let more = printed_more items i p l c.part-item.is in
    let head : c.as_bytes-head.result.now ≡ head_text p = c.as_bytes-head.ensures.value ∙ c.in_ok-line.ensures.exact in
    let reason = c.as_slice-reason.ensures.value in
    let s1 = c.saturating_add.ensures in
    let s2 = c.saturating_add-in-loop-part.ensures in
    let s3 = c.saturating_add-have.ensures in
    let grows : c.loop-part.have ≤ c.saturating_add-have.result = omega (arith, s1, s2, s3, c.loop-part.invariant.size) in
    record {
      size = omega (
        arith,
        s1,
        s2,
        s3,
        c.loop-part.invariant.size,
        ap length more,
        length-append front (line_text p),
        line_length p,
        ap length head,
        ap length reason,
      );
      text = λ low.
          elim c.if-have-le-HISTORY_LIMIT.branch [
            | then-have-le-HISTORY_LIMIT+in_ok-push_line w ↦
                let before : c.loop-part.text.items ≡ front = c.loop-part.invariant.text (omega arith) in
                ap (λ text. text.items) w.text-is ∙ w.in_ok-push_line.ensures
                ∙ ap (λ bytes. bytes ++ (c.as_bytes-head.result.now ++ (c.as_slice-reason.result.now ++ 10 ∷ []))) before
                ∙ text_more front c.as_bytes-head.result.now c.as_slice-reason.result.now p head reason ∙ sym more
            | else-have-le-HISTORY_LIMIT w ↦ absurd (omega arith)
          ];
      printed = All-more IsPrinted items i p l c.loop-part.invariant.printed
          (subst IsPrinted c.part-item.is (record {
            number = c.in_ok-line.ensures.number;
            position = c.in_ok-line.ensures.position;
            reason =
                c.as_slice-reason.ensures.line;
          }));
    }

pub returns-clause-read_back : goal.returns-clause-read_back
returns-clause-read_back c =
    let list : c.as_slice-part-items.result.now ≡ c.args.history.now.parents = c.as_slice-part-items.ensures ∙ c.parents.ensures.value in
    let all : take c.loop-part.part-index c.as_slice-part-items.result.now ≡ c.args.history.now.parents =
    take_all c.loop-part.part-index c.as_slice-part-items.result.now c.loop-part-test.false ∙ list in
    let printed = subst (All IsPrinted) all c.loop-part.invariant.printed in
    let text = c.loop-part.invariant.text c.if-have-gt-HISTORY_LIMIT.false ∙ ap (flat_map line_text) all in
    let short : length (canonical c.args.history.now) ≤ HISTORY_LIMIT = omega (
      arith,
      c.loop-part.invariant.size,
      ap (λ parts. length (flat_map line_text parts)) all,
    ) in
    subst (λ bytes. SaysHistory bytes c.args.history.now) (sym text) (canonical_read c.args.history.now c.parents.ensures.path printed
    short)
