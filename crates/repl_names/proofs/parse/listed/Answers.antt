-- What `listed` needs and ensures.
use Rattle.repl_names.proofs.GrammarReading.{listing_of}
use Rattle.repl_names.proofs.parse.listed.Goals as goal

pub of-requires : goal.of-requires
of-requires c =
    listing_of c.args.method c.args.number c.deref.result.now c.args.names.items c.spelling_length-have.result c.deref.ensures.value
    c.spelling_length-have.ensures.texts c.requires c.spelling_length-have.ensures.exact c.if-have-gt-SPELLING_LIMIT.false
