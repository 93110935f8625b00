-- A lead's name stands first or not, and then its value does.
use Rattle.std.proofs.Common.{◌≡◌, Some, sym, ap, subst, ◌∙◌, arith, take}
use Rattle.std.proofs.lemmas.Bool.{both_ways}
use Rattle.repl_args.specs.Words.{texts}
use Rattle.repl_args.specs.Forms.{plain, plain_lead, plain_option}
use Rattle.repl_args.specs.Lines.{IsLead}
use Rattle.repl_args.proofs.WordLists.{texts_long}
use Rattle.repl_args.proofs.Names.{are_apart}
use Rattle.repl_args.proofs.Lines.{unled, led, lead_taken, stops_at_lead}
use Rattle.repl_args.proofs.lead.read_lead.Goals as goal

pub returns-in_default-clause-goes_on : goal.returns-in_default-clause-goes_on
returns-in_default-clause-goes_on g c =
    unled g.K.Kind.is (plain c.args.table.now) (texts c.args.words.now)
    (λ o e within named. let none = subst (λ l. plain_lead l ≡ Some o) c.in_default.is e in cc)

pub returns-then-not-stands_at-clause-goes_on : goal.returns-then-not-stands_at-clause-goes_on
returns-then-not-stands_at-clause-goes_on g c =
    unled g.K.Kind.is (plain c.args.table.now) (texts c.args.words.now)
    (λ o e within named.
    let some = subst (λ l. plain_lead l ≡ Some o) c.in-Some.is e in
    let one : plain_option c.in-Some.lead ≡ o = cc in
    both_ways c.stands_at.result c.if-not-stands_at.true
    (c.stands_at.ensures.1 (omega (arith, texts_long c.args.words.now, within), sym (ap (λ p. p.name) one ∙ named))))

pub returns-then-not-takes_at-clause-wrong : goal.returns-then-not-takes_at-clause-wrong
returns-then-not-takes_at-clause-wrong g c =
    let stands = c.stands_at.ensures.0 c.if-not-stands_at.false in
    stops_at_lead g.K.Kind.is g.met.K.Kind.some (plain c.args.table.now) (plain_option c.in-Some.lead) (texts c.args.words.now)
    (are_apart (plain c.args.table.now) c.requires) (ap plain_lead c.in-Some.is)
    (omega (arith, texts_long c.args.words.now, stands.0)) (sym stands.1)
    (λ within is. both_ways c.takes_at.result c.if-not-takes_at.true
    (c.takes_at.ensures.1 (omega (arith, texts_long c.args.words.now, within), is)))

pub returns-clause-read : goal.returns-clause-read
returns-clause-read g c =
    let stands = c.stands_at.ensures.0 c.if-not-stands_at.false in
    let takes = c.takes_at.ensures.0 c.if-not-takes_at.false in
    subst (λ l. IsLead g.K.Kind.is l (take 2 (texts c.args.words.now))) (sym (ap plain_lead c.in-Some.is))
    (lead_taken g.K.Kind.is (plain_option c.in-Some.lead) (texts c.args.words.now)
    (omega (arith, texts_long c.args.words.now, takes.0)) (sym stands.1) takes.1)

pub returns-clause-goes_on : goal.returns-clause-goes_on
returns-clause-goes_on g c =
    let stands = c.stands_at.ensures.0 c.if-not-stands_at.false in
    let takes = c.takes_at.ensures.0 c.if-not-takes_at.false in
    led g.K.Kind.is (plain c.args.table.now) (plain_option c.in-Some.lead) (texts c.args.words.now)
    (are_apart (plain c.args.table.now) c.requires) (ap plain_lead c.in-Some.is)
    (omega (arith, texts_long c.args.words.now, takes.0)) (sym stands.1) takes.1
