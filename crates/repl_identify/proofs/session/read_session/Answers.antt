-- Each piece leads further, is refused in what it makes whole, or is the last.
use Rattle.std.proofs.Common.{◌≡◌, [], Result, Err, sym, ap, subst, ◌∙◌, arith, rules, tests}
use Rattle.std.specs.Slice.Iter.{chunks_rest}
use Rattle.std.proofs.lemmas.List.{nil_from_length}
use Rattle.std.proofs.lemmas.Result.{err_from_is_err_and}
use Rattle.repl_identify.specs.declared.stage.Session.{Session}
use Rattle.repl_identify.specs.declared.stage.Stage.{Stage}
use Rattle.repl_identify.specs.declared.stage.Stage.TheVariants as stage
use Rattle.repl_filter.specs.declared.converter.Refused.{Refused}
use Rattle.repl_filter.specs.declared.converter.Refused.TheVariants.{At}
use Rattle.repl_identify.proofs.Sessions.{SoFar, so_far_none, fed_more, fed_fits, so_far_more, refused_stuck, read_whole, refused_end}
use Rattle.repl_identify.proofs.session.read_session.Goals as goal
use Rattle.repl_identify.proofs.session.read_session.Goals.{in_default-via-in-Over+else-is_empty, in_default-via-in_default}

-- an error is one
one_error : (r : Result Session Refused) (a b : Refused) → r ≡ Err a → r ≡ Err b → a ≡ b
one_error r a b is also = cc

pub loop-piece-init : goal.loop-piece-init
loop-piece-init c =
    let all : chunks_rest c.into_iter-piece-iterator.result ≡ c.args.input.now = search rules in
    record {
      can_next = search rules;
      is_finite = tt;
      size = search rules;
      so_far = rw all (so_far_none c.args.input.now c.in_ok-reader.reader c.in_ok-reader.ensures);
    }

pub walk-requires-clause-fits : goal.walk-requires-clause-fits
walk-requires-clause-fits c =
    let fed = fed_more c.args.input.now (chunks_rest c.loop-piece.piece-iterator) c.in-Some.piece.now (chunks_rest c.next.new.self)
    c.loop-piece.reader c.feed.new.self c.loop-piece.stage c.loop-piece.invariant.so_far c.in-Some.ensures.steps.1.0 c.feed.ensures.fed
    in
    omega (arith, fed_fits c.args.input.now (chunks_rest c.next.new.self) c.feed.new.self c.loop-piece.stage fed (omega arith))

pub walk-requires-clause-few : goal.walk-requires-clause-few
walk-requires-clause-few c =
    let fed = fed_more c.args.input.now (chunks_rest c.loop-piece.piece-iterator) c.in-Some.piece.now (chunks_rest c.next.new.self)
    c.loop-piece.reader c.feed.new.self c.loop-piece.stage c.loop-piece.invariant.so_far c.in-Some.ensures.steps.1.0 c.feed.ensures.fed
    in
    fed.few

pub returns-in_err-stage-clause-refused : goal.returns-in_err-stage-clause-refused
returns-in_err-stage-clause-refused c = λ place e.
    let fed = fed_more c.args.input.now (chunks_rest c.loop-piece.piece-iterator) c.in-Some.piece.now (chunks_rest c.next.new.self)
    c.loop-piece.reader c.feed.new.self c.loop-piece.stage c.loop-piece.invariant.so_far c.in-Some.ensures.steps.1.0 c.feed.ensures.fed
    in
    let p = err_from_is_err_and c.from_residual-in_err-stage.result c.from_residual-in_err-stage.ensures.1 in
    let same = c.in_err-stage.was ∙ ap (λ (error : Refused). Err error) (sym p.2
    ∙ one_error c.from_residual-in_err-stage.result p.0 (At place) p.1 e) in
    refused_stuck c.args.input.now (chunks_rest c.next.new.self) c.feed.new.self c.loop-piece.stage place fed
    (c.walk.ensures.stuck place same)

pub loop-piece-preserved : goal.loop-piece-preserved
loop-piece-preserved c =
    let steps = c.in-Some.ensures.steps in
    let fed = fed_more c.args.input.now (chunks_rest c.loop-piece.piece-iterator) c.in-Some.piece.now (chunks_rest c.next.new.self)
    c.loop-piece.reader c.feed.new.self c.loop-piece.stage c.loop-piece.invariant.so_far steps.1.0 c.feed.ensures.fed in
    record {
      can_next = search rules;
      is_finite = tt;
      size = steps.0 ∙ c.loop-piece.invariant.size;
      so_far = so_far_more c.args.input.now (chunks_rest c.next.new.self) c.feed.new.self c.walk.new.reader c.loop-piece.stage
          c.in_ok-stage.stage fed c.in_ok-stage.ensures.walked c.in_ok-stage.ensures.waits;
    }

pub returns-in-Over-clause-read : goal.returns-in-Over-clause-read
returns-in-Over-clause-read c =
    let so_far = subst (λ (s : Stage). SoFar c.args.input.now (chunks_rest c.loop-piece.piece-iterator) c.loop-piece.reader s) c.in-Over.is
    c.loop-piece.invariant.so_far in
    read_whole c.args.input.now (chunks_rest c.loop-piece.piece-iterator) c.loop-piece.reader c.in-Over.session so_far
    (nil_from_length _ c.in-None.ensures.steps.1.0) (c.is_empty.ensures.0 c.if-is_empty.true)

pub returns-clause-refused : goal.returns-clause-refused
returns-clause-refused c = λ place e.
    let at : c.place.result ≡ place = cc in
    let unended : c.loop-piece.reader.rest ≡ [] → (s : Session) → c.loop-piece.stage ≡ stage.Over s → ⊥ = λ empty s over.
    elim c.in_default.branch [
      | in_default-via-in-Over+else-is_empty w ↦ let yes = w.is_empty.ensures.1 empty in absurd cc
      | in_default-via-in_default w ↦ search (rules, tests)
    ]
    in
    refused_end c.args.input.now (chunks_rest c.loop-piece.piece-iterator) c.loop-piece.reader c.loop-piece.stage place
    c.loop-piece.invariant.so_far (nil_from_length _ c.in-None.ensures.steps.1.0) (sym at ∙ c.place.ensures) unended
