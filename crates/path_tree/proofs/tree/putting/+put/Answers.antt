use Rattle.std.proofs.Common.{◌∷◌, Ok, Some, ap, sym, ◌∙◌, rules}
use Rattle.path_tree.specs.Plain.{dict, list, tree_size, tree_height}
use Rattle.path_tree.specs.Put.{put_field, put_item}
use Rattle.path_tree.specs.View.{fields_of, items_of}
use Rattle.path_tree.specs.declared.path.Term.TheVariants as term
use Rattle.path_tree.specs.declared.tree.Entry.{Entry}
use Rattle.path_tree.proofs.Sizes.{changes_field, changes_item}
use Rattle.path_tree.proofs.Entries.{item_at_in}
use Rattle.path_tree.proofs.Filling.{put_item_in}
use Rattle.path_tree.proofs.Changes.{fits_after, field_below, field_walks, item_below, item_walks}
use Rattle.path_tree.proofs.Kept.{changed_kept, changed_item_kept}
use Rattle.path_tree.proofs.Steps.{found_at, put_at, now_at, remeasured}
use Rattle.path_tree.proofs.tree.putting.+put.Goals as goal

pub change_field-put_in-requires : goal.change_field-put_in-requires
change_field-put_in-requires t c =
    let found = found_at c.args.key.now c.args.dict.now.entries.items c.args.at c.requires.stands
    c.index_mut.result.now c.index_mut.ensures.value in (
      search rules,
      (
        field_below c.args.terms.now c.args.value c.args.key.now
            (fields_of c.args.dict.now.entries.items) c.index_mut.result.now.value found
            c.requires.fits,
        c.requires.inside,
      ),
    )

pub change_field-measure_change-requires-clause-measured : goal.change_field-measure_change-requires-clause-measured
change_field-measure_change-requires-clause-measured t c =
    let es = c.args.dict.now.entries.items in
    let here = c.index.result.now in
    let found = found_at c.args.key.now es c.args.at c.requires.stands here c.index.ensures in
    let put = put_at c.args.key.now es c.args.at c.requires.stands c.index_mut.result.now
    c.index_mut.ensures.value c.put_in.new.tree in
    let now = now_at es c.args.at _ c.index-2.result.now c.requires.stands.within c.index-2.ensures
    in
    remeasured (λ w. dict (put_field c.args.key.now w (fields_of es))) here.value
    (dict (fields_of es)) c.put_in.new.tree _
    (changes_field c.args.key.now here.value (fields_of es) found) (ap dict put)
    c.args.dict.now.size c.args.dict.now.height c.requires.kept.size c.requires.kept.height
    c.measure-before.result c.measure-after.result c.measure-before.ensures.size
    c.measure-before.ensures.height
    (c.measure-after.ensures.size ∙ ap (λ (e : Entry). tree_size e.value) now)
    (c.measure-after.ensures.height ∙ ap (λ (e : Entry). tree_height e.value) now)

pub change_field-measure_change-requires-clause-fits : goal.change_field-measure_change-requires-clause-fits
change_field-measure_change-requires-clause-fits t c =
    let es = c.args.dict.now.entries.items in
    let there = c.index_mut.result.now in
    let found = found_at c.args.key.now es c.args.at c.requires.stands there
    c.index_mut.ensures.value in
    let put = put_at c.args.key.now es c.args.at c.requires.stands there c.index_mut.ensures.value
    c.put_in.new.tree in
    fits_after (term.Key c.args.key.now ∷ c.args.terms.now) c.args.value (dict (fields_of es)) _
    c.requires.fits
    (λ n. field_walks c.args.terms.now c.args.value c.args.key.now (fields_of es) there.value
    c.put_in.new.tree found c.in_ok-put_in.ensures.ok n ∙ ap (λ fs. Ok (dict fs)) (sym put))

pub change_field-returns-clause-kept : goal.change_field-returns-clause-kept
change_field-returns-clause-kept t c =
    let es = c.args.dict.now.entries.items in
    let there = c.index_mut.result.now in
    let found = found_at c.args.key.now es c.args.at c.requires.stands there
    c.index_mut.ensures.value in
    let put = put_at c.args.key.now es c.args.at c.requires.stands there c.index_mut.ensures.value
    c.put_in.new.tree in
    changed_kept c.args.terms.now c.args.value c.args.dict.now c.measure_change.new.dict
    c.args.key.now c.requires.kept c.requires.fits there.value c.put_in.new.tree found
    c.in_ok-put_in.ensures.ok
    (ap fields_of c.measure_change.ensures.entries ∙ put) c.in_ok-put_in.ensures.inside
    c.measure_change.ensures.size c.measure_change.ensures.height

pub change_item-put_in-requires : goal.change_item-put_in-requires
change_item-put_in-requires t c =
    let ts = c.args.list.now.items.items in
    let there = c.index_mut.result.now in
    let found = item_at_in ts c.args.index there c.requires.index
    ∙ ap Some (sym c.index_mut.ensures.value) in (
      search rules,
      (
        item_below c.args.terms.now c.args.value c.args.index (items_of ts) there found
            c.requires.fits,
        c.requires.inside,
      ),
    )

pub change_item-measure_change-requires-clause-measured : goal.change_item-measure_change-requires-clause-measured
change_item-measure_change-requires-clause-measured t c =
    let ts = c.args.list.now.items.items in
    let here = c.index.result.now in
    let found = item_at_in ts c.args.index here c.requires.index ∙ ap Some (sym c.index.ensures) in
    let put = put_item_in ts c.args.index c.put_in.new.tree c.requires.index in
    let now = now_at ts c.args.index c.put_in.new.tree c.index-2.result.now c.requires.index
    c.index-2.ensures in
    remeasured (λ w. list (put_item c.args.index w (items_of ts))) here (list (items_of ts))
    c.put_in.new.tree _
    (changes_item c.args.index here (items_of ts) found) (ap list put) c.args.list.now.size
    c.args.list.now.height c.requires.kept.size c.requires.kept.height
    c.measure-before.result c.measure-after.result c.measure-before.ensures.size
    c.measure-before.ensures.height
    (c.measure-after.ensures.size ∙ ap tree_size now)
    (c.measure-after.ensures.height ∙ ap tree_height now)

pub change_item-measure_change-requires-clause-fits : goal.change_item-measure_change-requires-clause-fits
change_item-measure_change-requires-clause-fits t c =
    let ts = c.args.list.now.items.items in
    let there = c.index_mut.result.now in
    let found = item_at_in ts c.args.index there c.requires.index
    ∙ ap Some (sym c.index_mut.ensures.value) in
    let put = put_item_in ts c.args.index c.put_in.new.tree c.requires.index in
    fits_after (term.Index c.args.index ∷ c.args.terms.now) c.args.value (list (items_of ts)) _
    c.requires.fits
    (λ n. item_walks c.args.terms.now c.args.value c.args.index (items_of ts) there
    c.put_in.new.tree found c.in_ok-put_in.ensures.ok n ∙ ap (λ us. Ok (list us)) (sym put))

pub change_item-returns-clause-ok : goal.change_item-returns-clause-ok
change_item-returns-clause-ok t c = λ n.
    let ts = c.args.list.now.items.items in
    let there = c.index_mut.result.now in
    let found = item_at_in ts c.args.index there c.requires.index
    ∙ ap Some (sym c.index_mut.ensures.value) in
    let put = put_item_in ts c.args.index c.put_in.new.tree c.requires.index in
    item_walks c.args.terms.now c.args.value c.args.index (items_of ts) there c.put_in.new.tree
    found c.in_ok-put_in.ensures.ok n
    ∙ ap (λ us. Ok (list us)) (sym put) ∙ ap (λ us. Ok (list (items_of us)))
    (sym c.measure_change.ensures.items)

pub change_item-returns-clause-kept : goal.change_item-returns-clause-kept
change_item-returns-clause-kept t c =
    let ts = c.args.list.now.items.items in
    let there = c.index_mut.result.now in
    let found = item_at_in ts c.args.index there c.requires.index
    ∙ ap Some (sym c.index_mut.ensures.value) in
    let put = put_item_in ts c.args.index c.put_in.new.tree c.requires.index in
    changed_item_kept c.args.terms.now c.args.value c.args.list.now c.measure_change.new.list
    c.args.index c.requires.kept c.requires.fits there c.put_in.new.tree found
    c.in_ok-put_in.ensures.ok
    (ap items_of c.measure_change.ensures.items ∙ put) c.in_ok-put_in.ensures.inside
    c.measure_change.ensures.size c.measure_change.ensures.height
