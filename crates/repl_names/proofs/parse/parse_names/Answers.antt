-- What `parse_names` needs and ensures.
use Rattle.std.proofs.Common.{Err}
use Rattle.repl_names.proofs.GrammarReading.{only_read, fault_reads, list, list_read, list_refused, parsed, parsed_digits, parsed_fault, parsed_spells, parsed_demands}
use Rattle.repl_names.proofs.parse.parse_names.Goals as goal

pub number_of-requires : goal.number_of-requires
number_of-requires c =
    let tokens = c.in_ok-tokens.tokens.items in
    let p = parsed c.args.text.now tokens c.deref.result.now c.deref-2.result.now c.shape_of-shape.result c.in_ok-tokens.ensures
    c.deref.ensures.value c.in_default.ensures.said c.deref-2.ensures.value c.shape_of-shape.ensures in
    parsed_digits c.args.text.now tokens c.deref-3.result.now c.shape_of-shape.result p c.deref-3.ensures.value

pub listed-requires : goal.listed-requires
listed-requires c =
    let tokens = c.in_ok-tokens.tokens.items in
    let p = parsed c.args.text.now tokens c.deref.result.now c.deref-2.result.now c.shape_of-shape.result c.in_ok-tokens.ensures
    c.deref.ensures.value c.in_default.ensures.said c.deref-2.ensures.value c.shape_of-shape.ensures in
    parsed_demands c.args.text.now tokens c.deref-3.result.now c.shape_of-shape.result c.in_ok-number.number c.in_ok-names.names.items p
    c.deref-3.ensures.value c.in_ok-number.ensures.ok c.in_ok-names.ensures

pub returns-in-Err-clause-only : goal.returns-in-Err-clause-only
returns-in-Err-clause-only c = only_read c.args.text.now (Err c.refusal.result) tt c.refusal.ensures

pub returns-in_err-number-clause-refused : goal.returns-in_err-number-clause-refused
returns-in_err-number-clause-refused c =
    let tokens = c.in_ok-tokens.tokens.items in
    let p = parsed c.args.text.now tokens c.deref.result.now c.deref-2.result.now c.shape_of-shape.result c.in_ok-tokens.ensures
    c.deref.ensures.value c.in_default.ensures.said c.deref-2.ensures.value c.shape_of-shape.ensures in
    parsed_fault c.args.text.now tokens c.deref-3.result.now c.shape_of-shape.result c.from_residual-in_err-number.result
    c.in_err-number.field-0.0 p c.deref-3.ensures.value c.in_err-number.ensures.err c.from_residual-in_err-number.ensures.1

pub returns-in_err-number-clause-only : goal.returns-in_err-number-clause-only
returns-in_err-number-clause-only c =
    let tokens = c.in_ok-tokens.tokens.items in
    let p = parsed c.args.text.now tokens c.deref.result.now c.deref-2.result.now c.shape_of-shape.result c.in_ok-tokens.ensures
    c.deref.ensures.value c.in_default.ensures.said c.deref-2.ensures.value c.shape_of-shape.ensures in
    let refused = parsed_fault c.args.text.now tokens c.deref-3.result.now c.shape_of-shape.result c.from_residual-in_err-number.result
    c.in_err-number.field-0.0 p c.deref-3.ensures.value c.in_err-number.ensures.err c.from_residual-in_err-number.ensures.1 in
    only_read c.args.text.now c.from_residual-in_err-number.result
    (fault_reads c.args.text.now c.from_residual-in_err-number.result c.from_residual-in_err-number.ensures.0) refused

pub returns-clause-read : goal.returns-clause-read
returns-clause-read c =
    let tokens = c.in_ok-tokens.tokens.items in
    let p = parsed c.args.text.now tokens c.deref.result.now c.deref-2.result.now c.shape_of-shape.result c.in_ok-tokens.ensures
    c.deref.ensures.value c.in_default.ensures.said c.deref-2.ensures.value c.shape_of-shape.ensures in
    let spells = parsed_spells c.args.text.now tokens c.deref-3.result.now c.shape_of-shape.result c.in_ok-number.number
    c.in_ok-names.names.items p c.deref-3.ensures.value c.in_ok-number.ensures.ok c.in_ok-names.ensures in
    list_read c.args.text.now
    (list c.shape_of-shape.result.method c.in_ok-number.number c.in_ok-names.names.items) c.listed.result spells c.listed.ensures.ok

pub returns-clause-refused : goal.returns-clause-refused
returns-clause-refused c =
    let tokens = c.in_ok-tokens.tokens.items in
    let p = parsed c.args.text.now tokens c.deref.result.now c.deref-2.result.now c.shape_of-shape.result c.in_ok-tokens.ensures
    c.deref.ensures.value c.in_default.ensures.said c.deref-2.ensures.value c.shape_of-shape.ensures in
    let spells = parsed_spells c.args.text.now tokens c.deref-3.result.now c.shape_of-shape.result c.in_ok-number.number
    c.in_ok-names.names.items p c.deref-3.ensures.value c.in_ok-number.ensures.ok c.in_ok-names.ensures in
    let demands = parsed_demands c.args.text.now tokens c.deref-3.result.now c.shape_of-shape.result c.in_ok-number.number
    c.in_ok-names.names.items p c.deref-3.ensures.value c.in_ok-number.ensures.ok c.in_ok-names.ensures in
    list_refused c.args.text.now
    (list c.shape_of-shape.result.method c.in_ok-number.number c.in_ok-names.names.items) c.listed.result spells demands
    c.listed.ensures.err

pub returns-clause-only : goal.returns-clause-only
returns-clause-only c =
    let tokens = c.in_ok-tokens.tokens.items in
    let p = parsed c.args.text.now tokens c.deref.result.now c.deref-2.result.now c.shape_of-shape.result c.in_ok-tokens.ensures
    c.deref.ensures.value c.in_default.ensures.said c.deref-2.ensures.value c.shape_of-shape.ensures in
    let spells = parsed_spells c.args.text.now tokens c.deref-3.result.now c.shape_of-shape.result c.in_ok-number.number
    c.in_ok-names.names.items p c.deref-3.ensures.value c.in_ok-number.ensures.ok c.in_ok-names.ensures in
    let demands = parsed_demands c.args.text.now tokens c.deref-3.result.now c.shape_of-shape.result c.in_ok-number.number
    c.in_ok-names.names.items p c.deref-3.ensures.value c.in_ok-number.ensures.ok c.in_ok-names.ensures in
    only_read c.args.text.now c.listed.result (list_read c.args.text.now
    (list c.shape_of-shape.result.method c.in_ok-number.number c.in_ok-names.names.items) c.listed.result spells c.listed.ensures.ok)
    (list_refused c.args.text.now
    (list c.shape_of-shape.result.method c.in_ok-number.number c.in_ok-names.names.items) c.listed.result spells demands
    c.listed.ensures.err)
