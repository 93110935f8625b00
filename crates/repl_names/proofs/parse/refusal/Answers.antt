-- What `refusal` needs and ensures.
use Rattle.std.proofs.Common.{◌≡◌, slice_get, Some, None, refl}
use Rattle.std.proofs.lemmas.Option.{slice_get_read, slice_get_past}
use Rattle.repl_names.proofs.GrammarPlaces.{place_found, place_past, open_found, open_not, open_past}
use Rattle.repl_names.proofs.parse.refusal.Goals as goal

pub returns-in_default : goal.returns-in_default
returns-in_default c =
    let e : slice_get c.args.tokens.now c.args.index ≡ None = slice_get_past c.args.tokens.now c.args.index
    (c.in_default.ensures.lookup.3) in (
      c.args.index,
      c.args.tokens.now,
      record {
        reads = c.requires.reads;
        stops = c.requires.stops;
        place = place_past c.args.tokens.now c.args.index _ e;
      },
      open_past c.args.tokens.now c.args.index e,
    )

pub returns-in-Unclosed : goal.returns-in-Unclosed
returns-in-Unclosed c =
    let e : slice_get c.args.tokens.now c.args.index ≡ Some c.in-Some.token.now =
    slice_get_read c.args.tokens.now _ c.args.index c.in-Some.token.now refl c.in-Some.ensures.lookup.3.0 c.in-Some.ensures.lookup.1 in (
      c.args.index,
      c.args.tokens.now,
      record {
        reads = c.requires.reads;
        stops = c.requires.stops;
        place = place_found c.args.tokens.now c.args.index _ c.in-Some.token.now e;
      },
      open_found c.args.tokens.now c.args.index c.in-Some.token.now e c.in-Unclosed.is,
    )

pub returns-in_default-kind : goal.returns-in_default-kind
returns-in_default-kind c =
    let e : slice_get c.args.tokens.now c.args.index ≡ Some c.in-Some.token.now =
    slice_get_read c.args.tokens.now _ c.args.index c.in-Some.token.now refl c.in-Some.ensures.lookup.3.0 c.in-Some.ensures.lookup.1 in (
      c.args.index,
      c.args.tokens.now,
      record {
        reads = c.requires.reads;
        stops = c.requires.stops;
        place = place_found c.args.tokens.now c.args.index _ c.in-Some.token.now e;
      },
      open_not c.args.tokens.now c.args.index c.in-Some.token.now e c.in_default-kind.not-Unclosed,
    )
