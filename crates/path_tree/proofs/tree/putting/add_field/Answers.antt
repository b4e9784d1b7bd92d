use Rattle.std.proofs.Common.{ap, ◌∙◌, arith}
use Rattle.path_tree.specs.Put.{put_field}
use Rattle.path_tree.specs.View.{fields_of}
use Rattle.path_tree.proofs.Changes.{field_fits}
use Rattle.path_tree.proofs.Kept.{added_kept}
use Rattle.path_tree.proofs.tree.putting.add_field.Goals as goal

pub made-requires-clause-fits : goal.made-requires-clause-fits
made-requires-clause-fits c = field_fits _ _ _ _ c.requires.lacks.found c.requires.fits

pub returns-clause-kept : goal.returns-clause-kept
returns-clause-kept c =
    let key_of = c.in_ok-entry.ensures.entry in
    added_kept c.args.terms.now c.args.value c.args.dict.now _ c.args.key.now c.requires.kept
    c.requires.fits c.in_ok-value.value c.in_ok-value.ensures.ok c.requires.lacks.found
    (ap fields_of c.in_ok-insert.ensures.items ∙ c.requires.lacks.put c.in_ok-entry.entry key_of.0
    ∙ ap (λ u. put_field c.args.key.now u (fields_of c.args.dict.now.entries.items)) key_of.1)
    c.in_ok-entry.ensures.key c.in_ok-value.ensures.inside
    (omega (arith, c.measure-added.ensures.size))
    (omega (arith, c.max-dict.ensures, c.measure-added.ensures.height))
