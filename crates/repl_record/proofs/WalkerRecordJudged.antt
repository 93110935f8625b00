-- A walker that has taken a part of a record: what is judged with the part's last byte, and where the walker gets to.
use Rattle.std.proofs.Common.{◌≡◌, ℕ, ◌+◌, ◌<◌, ◌≤◌, List, ◌++◌, length, take, refl, sym, ◌∙◌, subst, inl, inr, arith, length-append}
use Rattle.std.proofs.lemmas.Bool.{cases_eq}
use Rattle.std.proofs.lemmas.List.{take-take, length-take}
use Rattle.std.proofs.Math.Seq.{take-append-add}
use Rattle.repl_record.specs.declared.answer.WalkReason.{WalkReason}
use Rattle.repl_record.specs.declared.answer.WalkReason.TheVariants as why
use Rattle.repl_record.specs.declared.walker.Walker.{Walker}
use Rattle.repl_record.specs.Record.{AreBytes, start_of}
use Rattle.repl_record.specs.Judging.{HasLength, IsFaultAt, IsFirstFault, IsLength, IsOpenBefore, IsRight, place_of}
use Rattle.repl_record.specs.Walker.{so_far}
use Rattle.repl_record.specs.Moves.{IsFine, IsWrong, Reached, with_record}
use Rattle.repl_record.proofs.Fields.{AreBytes-take}
use Rattle.repl_record.proofs.JudgingCalm.{IsCalm, open_more, header_fault_last}
use Rattle.repl_record.proofs.WalkerCounts.{IsCounted, field_is, full_sum_is, total_is}
use Rattle.repl_record.proofs.WalkerRecord.{IsRecordPart, calm_inside, counted_taken, last_taken, keeps_taken}

-- the length is right where nothing is wrong
length_right : (w : Walker) (bytes : List ℕ) → IsCounted w bytes → IsFine w → 4 ≤ length bytes → HasLength bytes
length_right w bytes c fine four =
    elim (cases_eq (length bytes) 4) [
      | inl is ↦ subst IsLength (total_is w bytes c four) (fine.length_is (omega (arith, c.count_is)))
      | inr other ↦ c.has_length (omega arith)
    ]

-- what is fine with a walker is right with the bytes that it stands for
right_taken : (w : Walker) (timeline : ℕ → ℕ) (from prev : ℕ) (log piece : List ℕ) → IsRecordPart w timeline from prev log piece
    → IsFine (with_record w piece) → IsRight w.ident timeline from prev (log ++ piece)
right_taken w timeline from prev log piece t fine = right
  where
    bytes : List ℕ
    bytes = so_far w from (log ++ piece)

    c : IsCounted (with_record w piece) (so_far w from (log ++ piece))
    c = counted_taken w timeline from prev log piece t

    right : IsRight w.ident timeline from prev (log ++ piece)
    right (why.Page fault) h = header_fault_last w.ident timeline from (log
        ++ piece) fault t.size h (last_taken w timeline from prev log piece t)
    right (why.Length found) h = h.2 (subst IsLength (sym h.1) (length_right (with_record w piece) (so_far w from (log
        ++ piece)) c fine (omega (arith, h.0.count_is))))
    right (why.Prev found expected) h =
        let field_8 = field_is (with_record w piece) (so_far w from (log ++ piece)) 8 8 c (omega (arith, h.0.count_is)) (omega arith) in
        h.4 (h.2 ∙ sym field_8 ∙ fine.prev_is (omega (arith, c.count_is, h.0.count_is)) ∙ t.stands.keeps.follows ∙ sym h.3)
    right why.Reserved h =
        let field_18 = field_is (with_record w piece) (so_far w from (log ++ piece)) 18 2 c (omega (arith, h.0.count_is)) (omega arith) in
        h.2 (sym field_18 ∙ fine.reserved_is (omega (arith, c.count_is, h.0.count_is)))
    right (why.Checksum found computed) h =
        let all : 24 ≤ length (so_far w from (log ++ piece)) = omega (arith, h.0.count_is, h.1) in
        let field_20 = field_is (with_record w piece) (so_far w from (log ++ piece)) 20 4 c all (omega arith) in
        let whole = total_is (with_record w piece) (so_far w from (log ++ piece)) c (omega arith) in
        h.4 (h.2 ∙ sym field_20 ∙ fine.sum_is (omega (arith, c.count_is)) (c.count_is ∙ h.0.count_is ∙ sym whole)
        ∙ full_sum_is (with_record w piece) (so_far w from (log ++ piece)) c all ∙ sym h.3)
    right why.Padding h = absurd (omega (arith, h.1, h.2, c.count_is, c.holds.many (omega (arith, h.1, h.2))))

-- what is wrong with a walker is wrong with the bytes that it stands for
fault_taken : (w : Walker) (timeline : ℕ → ℕ) (from prev : ℕ) (log piece : List ℕ) (reason : WalkReason)
    → IsRecordPart w timeline from prev log piece → IsWrong (with_record w piece) reason → IsFaultAt w.ident timeline from prev (log
    ++ piece) reason
fault_taken w timeline from prev log piece reason t = wrong reason
  where
    c : IsCounted (with_record w piece) (so_far w from (log ++ piece))
    c = counted_taken w timeline from prev log piece t

    wrong : (reason : WalkReason) → IsWrong (with_record w piece) reason → IsFaultAt w.ident timeline from prev (log ++ piece) reason
    wrong (why.Page fault) h = absurd h
    wrong (why.Length found) h =
        let whole = total_is (with_record w piece) (so_far w from (log ++ piece)) c (omega (arith, c.count_is, h.0)) in
        (record { count_is = sym c.count_is ∙ h.0; last = last_taken w timeline from prev log piece t }, h.1 ∙ whole, h.2)
    wrong (why.Prev found expected) h =
        let field_8 = field_is (with_record w piece) (so_far w from (log ++ piece)) 8 8 c (omega (arith, c.count_is, h.0)) (omega arith)
        in (
          record { count_is = sym c.count_is ∙ h.0; last = last_taken w timeline from prev log piece t },
          c.has_length (omega (arith, c.count_is, h.0)),
          h.1 ∙ field_8,
          h.2 ∙ t.stands.keeps.follows,
          h.3,
        )
    wrong why.Reserved h =
        let field_18 = field_is (with_record w piece) (so_far w from (log ++ piece)) 18 2 c (omega (
          arith,
          c.count_is,
          h.0,
        )) (omega arith) in (
          record { count_is = sym c.count_is ∙ h.0; last = last_taken w timeline from prev log piece t },
          c.has_length (omega (arith, c.count_is, h.0)),
          λ zero. h.1 (field_18 ∙ zero),
        )
    wrong (why.Checksum found computed) h =
        let all : 24 ≤ length (so_far w from (log ++ piece)) = omega (arith, c.count_is, h.0) in
        let field_20 = field_is (with_record w piece) (so_far w from (log ++ piece)) 20 4 c all (omega arith) in
        let whole = total_is (with_record w piece) (so_far w from (log ++ piece)) c (omega arith) in (
          record { count_is = sym c.count_is ∙ h.1 ∙ whole; last = last_taken w timeline from prev log piece t },
          c.has_length (omega arith),
          h.2 ∙ field_20,
          h.3 ∙ full_sum_is (with_record w piece) (so_far w from (log ++ piece)) c all,
          h.4,
        )
    wrong why.Padding h = absurd h

-- ---- of bytes of which a part is taken

-- before the last of them nothing is judged
calm_before : (w : Walker) (timeline : ℕ → ℕ) (from prev : ℕ) (log bytes : List ℕ) (taken : ℕ) → taken ≤ length bytes
    → IsRecordPart w timeline from prev log (take taken bytes)
    → (i : ℕ) → 0 < i → i < taken → IsCalm w.ident timeline from prev (log ++ take i bytes)
calm_before w timeline from prev log bytes taken within t i some less =
    let all = length-take taken bytes in
    let long : length (take i bytes) ≡ i = omega (arith, length-take i bytes) in
    calm_inside w timeline from prev log (take i bytes) (record {
      size = t.size;
      stands = t.stands;
      outside = t.outside;
      unfinished = t.unfinished;
      some = omega arith;
      fits = omega (arith, t.fits, all);
      on_page = omega (arith, t.on_page, all);
      are_bytes = subst AreBytes (take-take i taken bytes (omega arith)) (AreBytes-take i (take taken bytes) t.are_bytes);
    }) (omega (arith, t.fits, all))

pub record_reached : (w : Walker) (timeline : ℕ → ℕ) (from prev : ℕ) (log bytes : List ℕ) (taken : ℕ) → taken ≤ length bytes
    → IsRecordPart w timeline from prev log (take taken bytes) → IsFine (with_record w (take taken bytes))
    → Reached (with_record w (take taken bytes)) timeline from prev (log ++ take taken bytes)
record_reached w timeline from prev log bytes taken within t fine =
    let piece = take taken bytes in
    let Calm : List ℕ → Type 0 = λ part. IsCalm w.ident timeline from prev (log ++ part) in
    let Open : ℕ → Type 0 = λ n. IsOpenBefore w.ident timeline from prev (log ++ piece) n in
    let calm : (i : ℕ) → 0 < i → i < taken → IsCalm w.ident timeline from prev (log ++ take i piece) =
    λ i some less. subst Calm (sym (take-take i taken bytes (omega arith))) (calm_before w timeline from prev log bytes taken within t i
    some less) in
    record {
      keeps = keeps_taken w timeline from prev log piece t (length_right (with_record w piece) (so_far w from (log
          ++ piece)) (counted_taken w timeline from prev log piece t) fine);
      open_before = subst Open (omega (
        arith,
        length-append log piece,
        length-take taken bytes,
      )) (open_more w.ident timeline from prev log piece taken t.stands.beginning calm);
      right = right_taken w timeline from prev log piece t fine;
    }

place_taken : (w : Walker) (size from : ℕ) (log : List ℕ) (reason : WalkReason) → IsWrong w reason
    → start_of size from ≡ place_of size from log reason
place_taken w size from log (why.Page fault) h = absurd h
place_taken w size from log (why.Length found) h = refl
place_taken w size from log (why.Prev found expected) h = refl
place_taken w size from log why.Reserved h = refl
place_taken w size from log (why.Checksum found computed) h = refl
place_taken w size from log why.Padding h = refl

pub record_refused : (w : Walker) (timeline : ℕ → ℕ) (from prev : ℕ) (log bytes : List ℕ) (taken at : ℕ) (reason : WalkReason)
    → taken ≤ length bytes → IsRecordPart w timeline from prev log (take taken bytes) → IsWrong (with_record w (take taken bytes)) reason
    → at ≡ start_of w.ident.size from → IsFirstFault w.ident timeline from prev (log ++ bytes) at reason
record_refused w timeline from prev log bytes taken at reason within t wrong place =
    let Fault : List ℕ → Type 0 = λ part. IsFaultAt w.ident timeline from prev part reason in
    let n = length log + taken in
    record {
      n = n;
      within = omega (arith, length-append log bytes);
      first = open_more w.ident timeline from prev log bytes taken t.stands.beginning (calm_before w timeline from prev log bytes taken
          within t);
      fault = subst Fault (sym (take-append-add log bytes taken)) (fault_taken w timeline from prev log (take taken bytes) reason t wrong);
      place = place ∙ place_taken (with_record w (take taken bytes)) w.ident.size from (take n (log ++ bytes)) reason wrong;
    }
