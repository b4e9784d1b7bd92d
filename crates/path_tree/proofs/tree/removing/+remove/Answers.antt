use Rattle.std.proofs.Common.{Some, ap, sym, ◌∙◌, subst, rules, arith}
use Rattle.path_tree.specs.Plain.{dict, list, tree_size, tree_height}
use Rattle.path_tree.specs.Kept.{FitsMade}
use Rattle.path_tree.specs.Put.{put_field, put_item}
use Rattle.path_tree.specs.Remove.{remove}
use Rattle.path_tree.specs.View.{fields_of, items_of}
use Rattle.path_tree.specs.declared.path.Term.TheVariants as term
use Rattle.path_tree.specs.declared.tree.Entry.{Entry}
use Rattle.path_tree.proofs.Sizes.{changes_field, changes_item}
use Rattle.path_tree.proofs.Entries.{item_at_in, item_at_past}
use Rattle.path_tree.proofs.Filling.{put_item_in}
use Rattle.path_tree.proofs.Steps.{found_at, put_at, now_at, remeasured}
use Rattle.path_tree.proofs.Removals.{change_field_is, change_item_is, remove_further, shrinks, Shrinks, shrunk_fits, shrunk_kept, shrunk_item_kept, there_below, not_there}
use Rattle.path_tree.proofs.tree.removing.+remove.Goals as goal

pub remove_below-measure_change-requires-clause-measured : goal.remove_below-measure_change-requires-clause-measured
remove_below-measure_change-requires-clause-measured t c =
    let es = c.args.dict.now.entries.items in
    let here = c.index.result.now in
    let found = found_at c.args.key.now es c.args.at c.requires.stands here c.index.ensures in
    let put = put_at c.args.key.now es c.args.at c.requires.stands c.index_mut.result.now
    c.index_mut.ensures.value c.remove_in.new.tree in
    let now = now_at es c.args.at _ c.index-2.result.now c.requires.stands.within c.index-2.ensures
    in
    remeasured (λ w. dict (put_field c.args.key.now w (fields_of es))) here.value
    (dict (fields_of es)) c.remove_in.new.tree _
    (changes_field c.args.key.now here.value (fields_of es) found) (ap dict put)
    c.args.dict.now.size c.args.dict.now.height c.requires.kept.size c.requires.kept.height
    c.measure-before.result c.measure-after.result c.measure-before.ensures.size
    c.measure-before.ensures.height
    (c.measure-after.ensures.size ∙ ap (λ (e : Entry). tree_size e.value) now)
    (c.measure-after.ensures.height ∙ ap (λ (e : Entry). tree_height e.value) now)

pub remove_below-measure_change-requires-clause-fits : goal.remove_below-measure_change-requires-clause-fits
remove_below-measure_change-requires-clause-fits t c =
    let es = c.args.dict.now.entries.items in
    let there = c.index_mut.result.now in
    let found = found_at c.args.key.now es c.args.at c.requires.stands there
    c.index_mut.ensures.value in
    let put = put_at c.args.key.now es c.args.at c.requires.stands there c.index_mut.ensures.value
    c.remove_in.new.tree in
    let less = subst (Shrinks there.value) (sym c.in_ok-remove_in.ensures.ok)
    (shrinks c.args.terms.now there.value) in
    subst (λ fs. FitsMade (dict fs)) (sym put)
    (shrunk_fits (λ w. dict (put_field c.args.key.now w (fields_of es))) there.value
    (dict (fields_of es)) c.remove_in.new.tree (changes_field c.args.key.now there.value
    (fields_of es) found) less c.requires.kept.tree)

pub remove_below-returns-clause-ok : goal.remove_below-returns-clause-ok
remove_below-returns-clause-ok t c =
    let es = c.args.dict.now.entries.items in
    let there = c.index_mut.result.now in
    let found = found_at c.args.key.now es c.args.at c.requires.stands there
    c.index_mut.ensures.value in
    let put = put_at c.args.key.now es c.args.at c.requires.stands there c.index_mut.ensures.value
    c.remove_in.new.tree in
    ap (λ xs. dict (fields_of xs)) c.measure_change.ensures.entries ∙ ap dict put
    ∙ ap (λ w. dict (put_field c.args.key.now w (fields_of es))) c.in_ok-remove_in.ensures.ok
    ∙ ap dict (sym (change_field_is c.args.key.now there.value (remove c.args.terms.now)
    (fields_of es) found))
    ∙ sym (remove_further (term.Key c.args.key.now) c.args.terms.now (dict (fields_of es))
    c.requires.some)

pub remove_below-returns-clause-kept : goal.remove_below-returns-clause-kept
remove_below-returns-clause-kept t c =
    let es = c.args.dict.now.entries.items in
    let there = c.index_mut.result.now in
    let found = found_at c.args.key.now es c.args.at c.requires.stands there
    c.index_mut.ensures.value in
    let put = put_at c.args.key.now es c.args.at c.requires.stands there c.index_mut.ensures.value
    c.remove_in.new.tree in
    let less = subst (Shrinks there.value) (sym c.in_ok-remove_in.ensures.ok)
    (shrinks c.args.terms.now there.value) in
    shrunk_kept c.args.dict.now c.measure_change.new.dict c.args.key.now there.value
    c.remove_in.new.tree c.requires.kept found less c.in_ok-remove_in.ensures.inside
    (ap fields_of c.measure_change.ensures.entries ∙ put) c.measure_change.ensures.size
    c.measure_change.ensures.height

pub remove_item-returns-else-index-len-clause-ok : goal.remove_item-returns-else-index-len-clause-ok
remove_item-returns-else-index-len-clause-ok t c =
    not_there c.args.terms.now _ _ _ (item_at_past c.args.list.now.items.items c.args.index
    (omega (arith, c.args.list.now.items.ok.0, c.len.ensures))) c.requires.there

pub remove_under-remove_in-requires : goal.remove_under-remove_in-requires
remove_under-remove_in-requires t c =
    let ts = c.args.list.now.items.items in
    let there = c.index_mut.result.now in
    let found = item_at_in ts c.args.index there c.requires.index
    ∙ ap Some (sym c.index_mut.ensures.value) in
    (search rules, (c.requires.some, there_below c.args.terms.now _ there found c.requires.there))

pub remove_under-measure_change-requires-clause-measured : goal.remove_under-measure_change-requires-clause-measured
remove_under-measure_change-requires-clause-measured t c =
    let ts = c.args.list.now.items.items in
    let here = c.index.result.now in
    let found = item_at_in ts c.args.index here c.requires.index ∙ ap Some (sym c.index.ensures) in
    let put = put_item_in ts c.args.index c.remove_in.new.tree c.requires.index in
    let now = now_at ts c.args.index c.remove_in.new.tree c.index-2.result.now c.requires.index
    c.index-2.ensures in
    remeasured (λ w. list (put_item c.args.index w (items_of ts))) here (list (items_of ts))
    c.remove_in.new.tree _
    (changes_item c.args.index here (items_of ts) found) (ap list put) c.args.list.now.size
    c.args.list.now.height c.requires.kept.size c.requires.kept.height
    c.measure-before.result c.measure-after.result c.measure-before.ensures.size
    c.measure-before.ensures.height
    (c.measure-after.ensures.size ∙ ap tree_size now)
    (c.measure-after.ensures.height ∙ ap tree_height now)

pub remove_under-measure_change-requires-clause-fits : goal.remove_under-measure_change-requires-clause-fits
remove_under-measure_change-requires-clause-fits t c =
    let ts = c.args.list.now.items.items in
    let there = c.index_mut.result.now in
    let found = item_at_in ts c.args.index there c.requires.index
    ∙ ap Some (sym c.index_mut.ensures.value) in
    let put = put_item_in ts c.args.index c.remove_in.new.tree c.requires.index in
    let less = subst (Shrinks there) (sym c.in_ok-remove_in.ensures.ok)
    (shrinks c.args.terms.now there) in
    subst (λ us. FitsMade (list us)) (sym put)
    (shrunk_fits (λ w. list (put_item c.args.index w (items_of ts))) there (list (items_of ts))
    c.remove_in.new.tree (changes_item c.args.index there (items_of ts) found) less
    c.requires.kept.tree)

pub remove_under-returns-clause-ok : goal.remove_under-returns-clause-ok
remove_under-returns-clause-ok t c =
    let ts = c.args.list.now.items.items in
    let there = c.index_mut.result.now in
    let found = item_at_in ts c.args.index there c.requires.index
    ∙ ap Some (sym c.index_mut.ensures.value) in
    let put = put_item_in ts c.args.index c.remove_in.new.tree c.requires.index in
    ap (λ xs. list (items_of xs)) c.measure_change.ensures.items ∙ ap list put
    ∙ ap (λ w. list (put_item c.args.index w (items_of ts))) c.in_ok-remove_in.ensures.ok
    ∙ ap list (sym (change_item_is c.args.index there (remove c.args.terms.now) (items_of ts)
    found))
    ∙ sym (remove_further (term.Index c.args.index) c.args.terms.now (list (items_of ts))
    c.requires.some)

pub remove_under-returns-clause-kept : goal.remove_under-returns-clause-kept
remove_under-returns-clause-kept t c =
    let ts = c.args.list.now.items.items in
    let there = c.index_mut.result.now in
    let found = item_at_in ts c.args.index there c.requires.index
    ∙ ap Some (sym c.index_mut.ensures.value) in
    let put = put_item_in ts c.args.index c.remove_in.new.tree c.requires.index in
    let less = subst (Shrinks there) (sym c.in_ok-remove_in.ensures.ok)
    (shrinks c.args.terms.now there) in
    shrunk_item_kept c.args.list.now c.measure_change.new.list c.args.index there
    c.remove_in.new.tree c.requires.kept found less c.in_ok-remove_in.ensures.inside
    (ap items_of c.measure_change.ensures.items ∙ put) c.measure_change.ensures.size
    c.measure_change.ensures.height
