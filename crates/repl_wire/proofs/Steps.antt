-- What a reader is after a message.
use Rattle.std.proofs.Common.{◌≡◌, ℕ, ◌+◌, ◌-◌, ◌≤◌, List, ◌++◌, length, take, drop, refl, sym, ap, subst, ◌∙◌, arith, ◌⊎◌}
use Rattle.std.proofs.lemmas.List.{drop-take, drop-drop, length-take, take-append-drop}
use Rattle.repl_message.specs.declared.message.Phase.{Phase}
use Rattle.repl_message.specs.declared.message.Message.{Message}
use Rattle.repl_message.specs.Message.{Belongs, Spells, after, spelling}
use Rattle.repl_message.specs.Encoding.{capped}
use Rattle.repl_wire.specs.declared.taking.Taken.{Taken}
use Rattle.repl_wire.specs.declared.taking.Taken.TheVariants as taken
use Rattle.repl_wire.specs.declared.reader.Step.TheVariants as step
use Rattle.repl_wire.specs.Judging.{IsJudged, judge}
use Rattle.repl_wire.specs.Reader.{Reading, given}

-- the buffer's part after a message
pub part_past : (buffer : List ℕ) (start end used : ℕ) → start + used ≤ end → take (end - (start + used)) (drop (start + used) buffer)
    ≡ drop used (take (end - start) (drop start buffer))
part_past buffer start end used within =
    let parts : end - start ≡ used + (end - (start + used)) = omega arith in
    rw (parts, drop-take used (end - (start + used)) (drop start buffer), drop-drop) refl

-- a part is no longer than its bounds say
pub part_within : (buffer : List ℕ) (start end used : ℕ) → start ≤ end → used ≤ length (take (end - start) (drop start buffer))
    → start + used ≤ end
part_within buffer start end used ordered within = omega (arith, length-take (end - start) (drop start buffer))

-- what stands in front is the message's spelling
pub spelled_front : (p : Phase) (m : Message) (rest : List ℕ) (used : ℕ) → used ≤ length rest → Spells p m (take used rest)
    → (rest ≡ spelling m ++ drop used rest) × (used ≡ length (spelling m))
spelled_front p m rest used within s = (
  sym (take-append-drop used rest) ∙ ap (λ (x : List ℕ). x ++ drop used rest) s.spelled,
  omega (arith, length-take used rest, ap length s.spelled),
)

-- the reader's parts, as it is seen
abbrev pub seen : Phase → ℕ → List ℕ → ℕ → ℕ → Reading
seen phase place buffer start end = record { phase = phase; place = place; rest = take (end - start) (drop start buffer) }

-- the parts after a message
pub seen_given : (old : Reading) (m : Message) (phase : Phase) (place : ℕ) (buffer : List ℕ) (start end used : ℕ) → old
    ≡ seen phase place buffer start end → start + used ≤ end
    → seen (after phase m) (capped (place + used)) buffer (start + used) end ≡ given old m used
seen_given old m phase place buffer start end used is within = rw (part_past buffer start end used within, is) refl

-- an answer of `take` is what judging gives
pub judged_whole : (t judged : Taken) (m : Message) (used : ℕ) → IsJudged t judged → t ≡ taken.Whole m used → judged ≡ taken.Whole m used
judged_whole t judged m used is e = subst (λ (x : Taken). IsJudged x judged) e is

-- the answer of `take` that a reader hands on, on the bytes that it has
pub record Took (old : Reading) (t : Taken) : Type 0 where
  pub found : (m : Message) (used : ℕ) → t ≡ taken.Whole m used → (used ≤ length old.rest) × Spells old.phase m (take used old.rest)
  pub only : (m : Message) (text rest : List ℕ) → Spells old.phase m text → old.rest ≡ text ++ rest → (t ≡ taken.Whole m (length text))
      ⊎ (t ≡ taken.Memory)
  pub exact : IsJudged t (judge old.phase old.rest)

-- a message after which the reader is this
pub found_from : (old new : Reading) (t : Taken) (m : Message) (used : ℕ) → Took old t → t ≡ taken.Whole m used → new ≡ given old m used
    → Belongs old.phase m × ((past : List ℕ) × (old.rest ≡ spelling m ++ past)
    × (new ≡ record { phase = after old.phase m; place = capped (old.place + length (spelling m)); rest = past }))
found_from old new t m used took is new_is =
    let found = took.found m used is in
    let front = spelled_front old.phase m old.rest used found.0 found.1 in (
      found.1.belongs,
      (
        drop used old.rest,
        front.0,
        new_is ∙ ap
            (λ (n : ℕ). record { phase = after old.phase m; place = capped (old.place + n); rest = drop used old.rest }) front.1,
      ),
    )

-- what `take` answers where a spelling stands in front
pub only_from : (old : Reading) (t : Taken) (m : Message) (past : List ℕ) → Took old t → Belongs old.phase m → old.rest ≡ spelling m
    ++ past → (t ≡ taken.Whole m (length (spelling m))) ⊎ (t ≡ taken.Memory)
only_from old t m past took belongs at = took.only m (spelling m) past (record { belongs = belongs; spelled = refl }) at

-- what `take` says of a reader's phase and bytes, said of the reader
pub took_from : (old : Reading) (p : Phase) (bytes : List ℕ) (t : Taken) → p ≡ old.phase → bytes ≡ old.rest
    → ((m : Message) (used : ℕ) → t ≡ taken.Whole m used → (used ≤ length bytes) × Spells p m (take used bytes))
    → ((m : Message) (text rest : List ℕ) → Spells p m text → bytes ≡ text ++ rest → (t ≡ taken.Whole m (length text)) ⊎ (t ≡ taken.Memory))
    → IsJudged t (judge p bytes) → Took old t
took_from old p bytes t phase_is rest_is found only exact = record {
  found = rw (← phase_is, ← rest_is) found;
  only = rw (← phase_is, ← rest_is) only;
  exact = rw (← phase_is, ← rest_is) exact;
}

-- the same of a step that gives the message
pub given_message : (old new : Reading) (t : Taken) (m n : Message) (used : ℕ) → Took old t → t ≡ taken.Whole m used → new
    ≡ given old m used → step.Message m ≡ step.Message n
    → Belongs old.phase n × ((past : List ℕ) × (old.rest ≡ spelling n ++ past)
    × (new ≡ record { phase = after old.phase n; place = capped (old.place + length (spelling n)); rest = past }))
given_message old new t m n used took is new_is e =
    let same : m ≡ n = cc in
    rw (← same) (found_from old new t m used took is new_is)
