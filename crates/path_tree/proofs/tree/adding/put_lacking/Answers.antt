use Rattle.std.proofs.Common.{rules, ◌≡◌, ◌∷◌, [], false, sym, subst}
use Rattle.path_tree.specs.Kept.{CanWalk, Walks}
use Rattle.path_tree.specs.Lists.{is_too_large}
use Rattle.path_tree.specs.Plain.{dict}
use Rattle.path_tree.specs.Put.{put_field}
use Rattle.path_tree.specs.View.{dict_seen, fields_of}
use Rattle.path_tree.specs.declared.path.Term.TheVariants as term
use Rattle.path_tree.proofs.Lacking.{added_gives, can_add}
use Rattle.path_tree.proofs.tree.adding.put_lacking.Goals as goal

pub add-requires-clause-fits : goal.add-requires-clause-fits
add-requires-clause-fits c =
    let es = c.args.dict.now.value.entries.items in
    let room : is_too_large (dict (put_field c.args.key.now c.args.value.now (fields_of es)))
    ≡ false = search rules in
    subst (λ v. CanWalk (term.Key c.args.key.now ∷ []) v (dict (fields_of es)))
    (sym c.in_ok-copy.ensures)
    (can_add c.args.key.now c.args.value.now (fields_of es) c.requires.lacks.found room)

pub returns-clause-gives : goal.returns-clause-gives
returns-clause-gives c =
    let es = c.args.dict.now.value.entries.items in
    let room : is_too_large (dict (put_field c.args.key.now c.args.value.now (fields_of es)))
    ≡ false = search rules in
    added_gives c.args.key.now c.args.value.now (fields_of es) c.requires.lacks.found
    (dict_seen c.add.new.dict.value) room
    (subst (λ v. Walks (term.Key c.args.key.now ∷ []) v (dict (fields_of es))
    (dict_seen c.add.new.dict.value)) c.in_ok-copy.ensures c.in_ok-add.ensures.ok)
