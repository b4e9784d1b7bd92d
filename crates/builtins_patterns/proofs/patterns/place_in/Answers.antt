use Rattle.std.proofs.Common.{◌<◌, ◌∙◌, Some, ap, length, refl, rules, sym}
use Rattle.std.proofs.lemmas.Option.{slice_get_read}
use Rattle.std.proofs.lemmas.Slice.Eq.{bytes_eq-Decides}
use Rattle.builtins_patterns.proofs.patterns.place_in.Goals as goal

pub returns-then-eq : goal.returns-then-eq
returns-then-eq c =
    let within : c.loop-i.i < length c.args.searchers.now = search rules in
    let found = slice_get_read c.args.searchers.now (length c.args.searchers.now) c.loop-i.i
    c.index-searchers-i.result refl within c.index-searchers-i.is in
    let same = (bytes_eq-Decides c.source.result.now c.args.source.now).0
    (sym c.eq.ensures ∙ c.if-eq.true) in
    found ∙ ap Some (sym c.source.ensures ∙ same)
