-- What is taken of the bytes that are left is what the reader gives, and the rest is after it.
use Rattle.std.proofs.Common.{length, arith, ap, sym, ◌∙◌, inl, inr}
use Rattle.repl_wire.specs.Reader.{Reading}
use Rattle.repl_wire.proofs.Steps.{part_within, seen_given, judged_whole, only_from, took_from, given_message}
use Rattle.repl_wire.proofs.reader.FrameReader.next.Goals as goal

pub overflow_add-self : goal.overflow_add-self
overflow_add-self c =
    let found = c.take.ensures.found c.in-Whole.message c.in-Whole.used c.in-Whole.is in
    let is = c.rest.ensures.value ∙ ap (λ (r : Reading). r.rest) (sym c.self.view_is) in
    let within = part_within c.self.inside.buffer.items c.self.inside.start c.self.inside.end c.in-Whole.used c.self.invariant.1
    (omega (arith, found.0, ap length is)) in
    omega (arith, within, c.self.invariant.2)

pub invariant_of-self : goal.invariant_of-self
invariant_of-self c =
    let found = c.take.ensures.found c.in-Whole.message c.in-Whole.used c.in-Whole.is in
    let is = c.rest.ensures.value ∙ ap (λ (r : Reading). r.rest) (sym c.self.view_is) in (
      c.self.invariant.0,
      part_within c.self.inside.buffer.items c.self.inside.start c.self.inside.end c.in-Whole.used c.self.invariant.1
          (omega (arith, found.0, ap length is)),
      c.self.invariant.2,
    )

pub returns-in-Whole-clause-exact : goal.returns-in-Whole-clause-exact
returns-in-Whole-clause-exact c =
    let took = took_from c.args.self.now c.self.inside.phase c.rest.result.now c.take.result (ap (λ (r : Reading). r.phase) c.self.view_is)
    c.rest.ensures.value c.take.ensures.found c.take.ensures.only c.take.ensures.exact in
    let found = took.found c.in-Whole.message c.in-Whole.used c.in-Whole.is in
    let is = ap (λ (r : Reading). r.rest) (sym c.self.view_is) in
    let within = part_within c.self.inside.buffer.items c.self.inside.start c.self.inside.end c.in-Whole.used c.self.invariant.1
    (omega (arith, found.0, ap length is)) in (
      c.in-Whole.used,
      judged_whole c.take.result _ c.in-Whole.message c.in-Whole.used took.exact c.in-Whole.is,
      rw (c.phase_after-self-inside.ensures, c.saturating_add-self-inside.ensures)
          (seen_given c.args.self.now c.in-Whole.message c.self.inside.phase c.self.inside.place c.self.inside.buffer.items
          c.self.inside.start c.self.inside.end c.in-Whole.used (sym c.self.view_is) within),
    )

pub returns-in-Whole-clause-found : goal.returns-in-Whole-clause-found
returns-in-Whole-clause-found c m e =
    let took = took_from c.args.self.now c.self.inside.phase c.rest.result.now c.take.result (ap (λ (r : Reading). r.phase) c.self.view_is)
    c.rest.ensures.value c.take.ensures.found c.take.ensures.only c.take.ensures.exact in
    let found = took.found c.in-Whole.message c.in-Whole.used c.in-Whole.is in
    let is = ap (λ (r : Reading). r.rest) (sym c.self.view_is) in
    let within = part_within c.self.inside.buffer.items c.self.inside.start c.self.inside.end c.in-Whole.used c.self.invariant.1
    (omega (arith, found.0, ap length is)) in
    given_message c.args.self.now _ c.take.result c.in-Whole.message m c.in-Whole.used took c.in-Whole.is
    (rw (c.phase_after-self-inside.ensures, c.saturating_add-self-inside.ensures)
    (seen_given c.args.self.now c.in-Whole.message c.self.inside.phase c.self.inside.place c.self.inside.buffer.items
    c.self.inside.start c.self.inside.end c.in-Whole.used (sym c.self.view_is) within)) e

pub returns-in-Whole-clause-only : goal.returns-in-Whole-clause-only
returns-in-Whole-clause-only c m past is at =
    let took = took_from c.args.self.now c.self.inside.phase c.rest.result.now c.take.result (ap (λ (r : Reading). r.phase) c.self.view_is)
    c.rest.ensures.value c.take.ensures.found c.take.ensures.only c.take.ensures.exact in
    elim (only_from c.args.self.now c.take.result m past took is at) [
      | inl whole ↦ let e = sym c.in-Whole.is ∙ whole in inl cc
      | inr none ↦ let e = sym c.in-Whole.is ∙ none in absurd cc
    ]

pub returns-in-Short-clause-only : goal.returns-in-Short-clause-only
returns-in-Short-clause-only c m past is at =
    let took = took_from c.args.self.now c.self.inside.phase c.rest.result.now c.take.result (ap (λ (r : Reading). r.phase) c.self.view_is)
    c.rest.ensures.value c.take.ensures.found c.take.ensures.only c.take.ensures.exact in
    elim (only_from c.args.self.now c.take.result m past took is at) [
      | inl whole ↦ let e = sym c.in-Short.is ∙ whole in absurd cc
      | inr none ↦ let e = sym c.in-Short.is ∙ none in absurd cc
    ]

pub returns-in-Wrong-clause-only : goal.returns-in-Wrong-clause-only
returns-in-Wrong-clause-only c m past is at =
    let took = took_from c.args.self.now c.self.inside.phase c.rest.result.now c.take.result (ap (λ (r : Reading). r.phase) c.self.view_is)
    c.rest.ensures.value c.take.ensures.found c.take.ensures.only c.take.ensures.exact in
    elim (only_from c.args.self.now c.take.result m past took is at) [
      | inl whole ↦ let e = sym c.in-Wrong.is ∙ whole in absurd cc
      | inr none ↦ let e = sym c.in-Wrong.is ∙ none in absurd cc
    ]
