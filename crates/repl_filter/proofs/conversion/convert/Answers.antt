-- What was gathered is refused, or its text was written.
use Rattle.std.proofs.Common.{◌≡◌, ℕ, List, Err, take, refl, rules, subst, sym, ap, ◌∙◌}
use Rattle.repl_effects.specs.Told.{IfTold, Lost}
use Rattle.repl_filter.specs.declared.converter.Refused.TheVariants as refused
use Rattle.repl_filter.specs.declared.conversion.Converted.TheVariants as converted
use Rattle.repl_filter.proofs.Steps.{conversion, of_gathered}
use Rattle.repl_filter.proofs.conversion.convert.Goals as goal

pub returns-in-Err-At : goal.returns-in-Err-At
returns-in-Err-At g c =
    let C = g.C.Converter in
    let converter = c.args.converter.now in
    let old = g.S.Source.source c.args.input.now in
    let new = g.S.Source.source c.gather.new.input in
    let out = g.K.Sink.sink c.args.out.now in
    let limit = C.limit converter in
    let bytes = c.in-Ok.bytes.items in
    let place = c.in-Err-At.place in
    let is : c.in-Err-At.field-0 ≡ refused.At place = search rules in
    let wrong : C.is_wrong converter c.deref.result.now place = c.in-Err-At.ensures.refused place (ap Err is) in
    let apart = g.met.C.Converter.apart converter in
    let P : List ℕ → Type 0 = λ b. C.is_wrong converter b place in
    let gathered = subst (λ (n : ℕ). IfTold old.left (λ left. bytes ≡ take n left)) c.limit.ensures.value c.in-Ok.ensures.bytes in
    let told = of_gathered limit P old.left bytes gathered (subst P c.deref.ensures.value wrong) in
    let read = of_gathered limit (λ b. Lost old.left new.left b) old.left bytes gathered c.in-Ok.ensures.lost in
    conversion limit (C.says converter) (C.text converter) (C.is_wrong converter) old new out out (converted.Refused place) apart (told, refl)
    read (record { reading = c.in-Ok.ensures.fault; writing = refl })
