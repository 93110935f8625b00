-- The record's bytes are put in two pieces, and zeros after them.
use Rattle.std.proofs.Common.{◌≡◌, ℕ, ◌+◌, ◌%◌, ◌<◌, List, [], ◌++◌, length, replicate, sym, ap, ◌∙◌, arith, length-append}
use Rattle.repl_record.specs.declared.laying.Place.{Place}
use Rattle.repl_record.specs.Record.{IsImage, content}
use Rattle.repl_record.proofs.Content.{content-nil}
use Rattle.repl_record.proofs.ImageLength.{same_image_end}
use Rattle.repl_record.proofs.LayingRecord.{IsFinished, IsImage-finished, spelled_finished, laid_bytes}
use Rattle.repl_record.proofs.laying.lay_out.Goals as goal

-- of nothing, nothing is the record's
none_laid : (size from : ℕ) (log : List ℕ) → log ≡ [] → length (content size from log) ≡ 0
none_laid size from log none = ap (λ (t : List ℕ). length (content size from t)) none ∙ ap length (content-nil size from)

place_of : goal.After-start_past → Place
place_of c = record { ident = c.args.ident.now; tli = c.args.tli; at = c.args.at; total = 24 + length c.as_slice-body.result.now }

finished : (c : goal.After-start_past) → IsFinished (place_of c) c.args.prev c.args.item.now c.put-2.new.out.items
    c.in_ok-from_vec.field-0
unfolding place_of
finished c =
    let place : Place = record {
      ident = c.args.ident.now;
      tli = c.args.tli;
      at = c.args.at;
      total =
          24 + length c.as_slice-body.result.now;
    } in
    let out = c.round_up.new.out in
    let log : c.in_ok-from_vec.field-0 ≡ out.items = c.in_ok-from_vec.ensures.ok in
    let gap : (gap : ℕ) × (gap < 8) × (out.items ≡ c.put-2.new.out.items ++ replicate gap 0) × (length out.items % 8 ≡ 0) =
    c.in_ok-round_up.ensures in
    record {
      laid = c.in_ok-put-2.ensures.laid;
      bytes = laid_bytes place c.args.prev c.args.item.now c.in_ok-out.out.items c.write_head.new.head c.as_slice-body.result.now
          c.put.new.out.items c.put-2.new.out.items
          c.in_ok-out.ensures.items c.in_ok-put.ensures.bytes c.in_ok-put-2.ensures.bytes c.write_head.ensures c.as_slice-body.ensures;
      gap = (gap.0, gap.1, log ∙ gap.2, ap (λ (t : List ℕ). length t % 8) log ∙ gap.3);
      aligned = c.requires.aligned;
      small = omega (arith, ap length log, out.ok.0, out.ok.1, out.small, c.requires.below);
      item_is = c.read_fields.ensures.item;
      follows = c.read_fields.ensures.follows;
      fields = c.read_fields.ensures.headers;
      total = ap (λ (t : List ℕ). 24 + length t) c.as_slice-body.ensures;
    }

pub put-requires-clause-size : goal.put-requires-clause-size
put-requires-clause-size c = c.read_fields.ensures.headers.size

pub put-requires-2-clause-size : goal.put-requires-2-clause-size
put-requires-2-clause-size c = c.read_fields.ensures.headers.size

pub put-requires-clause-done : goal.put-requires-clause-done
put-requires-clause-done c = sym (none_laid c.args.ident.now.size c.args.at c.in_ok-out.out.items c.in_ok-out.ensures.items)

pub put-requires-2-clause-done : goal.put-requires-2-clause-done
put-requires-2-clause-done c =
    let size = c.args.ident.now.size in
    let first : content size c.args.at c.put.new.out.items ≡ content size c.args.at c.in_ok-out.out.items ++ c.write_head.new.head =
    c.in_ok-put.ensures.bytes in
    omega (
      arith,
      ap length first,
      length-append (content size c.args.at c.in_ok-out.out.items) c.write_head.new.head,
      none_laid size c.args.at c.in_ok-out.out.items c.in_ok-out.ensures.items,
      ap length c.write_head.ensures,
    )

pub returns-clause-image : goal.returns-clause-image
unfolding place_of
returns-clause-image c = IsImage-finished (place_of c) c.args.prev c.args.item.now c.put-2.new.out.items c.in_ok-from_vec.field-0
    c.written_agrees.ensures (finished c)

pub returns-clause-length : goal.returns-clause-length
unfolding place_of
returns-clause-length c =
    let item = c.args.item.now in
    let log = c.in_ok-from_vec.field-0 in
    let laid : log ≡ c.round_up.new.out.items = c.in_ok-from_vec.ensures.ok in
    let image : IsImage c.args.ident.now (λ _. c.args.tli) c.args.at c.args.prev item log = IsImage-finished (place_of c) c.args.prev item
    c.put-2.new.out.items log c.written_agrees.ensures (finished c) in
    c.position_past-end.ensures
    ∙ ap (λ (t : List ℕ). c.args.at + length t) (sym laid)
    ∙ same_image_end c.args.ident.now (λ _. c.args.tli) c.args.at c.args.prev item log c.read_fields.ensures.headers.size image

pub returns-clause-spelled : goal.returns-clause-spelled
unfolding place_of
returns-clause-spelled c = spelled_finished (place_of c) c.args.prev c.args.item.now c.put-2.new.out.items c.in_ok-from_vec.field-0
    (finished c)
