-- Refused requests, the greeting and the answers, one after another, are the answer.
use Rattle.std.proofs.Common.{◌≡◌, ap, ◌∙◌, ◌++◌}
use Rattle.std.specs.List.{flat_map}
use Rattle.repl_message.specs.Message.{back_spelling}
use Rattle.repl_identify.specs.Answer.{greeting, identification, refused_requests}
use Rattle.repl_identify.proofs.Lengths.{written_all}
use Rattle.repl_identify.proofs.answer.answer.Goals as goal

pub returns : goal.returns
returns c =
    let front : c.in_ok-bytes.bytes.items ≡ refused_requests c.args.session.requests =
    c.in_ok-bytes.ensures.items_if_clones_equal (λ y e. e) in
    let once : c.deref-3.result.now ≡ flat_map back_spelling c.deref.result.now = c.deref-3.ensures.value ∙ c.in_ok-encode_all.ensures
    ∙ ap (λ s. s ++ flat_map back_spelling c.deref.result.now) c.new-once.ensures.items in
    written_all c.args.session.questions (refused_requests c.args.session.requests) c.encode_all-2.new.out.items
    c.append_times.new.out.items c.deref-3.result.now (greeting 1) (identification c.args.identity.now) c.deref-2.result.now
    c.deref.result.now
    (c.deref-2.ensures.value ∙ c.in_ok-greeting.ensures) (c.deref.ensures.value
    ∙ c.in_ok-identification.ensures.made) once (c.in_ok-encode_all-2.ensures
    ∙ ap (λ s. s ++ flat_map back_spelling c.deref-2.result.now) front) c.in_ok-append_times.ensures
