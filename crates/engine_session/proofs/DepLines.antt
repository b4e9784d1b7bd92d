-- The text of dependencies, by the lines of the items.
use Rattle.std.proofs.Common.{◌≡◌, List, [], ◌∷◌, ◌++◌, map, fold, flat_map, refl, sym, ap, ap₂, ◌∙◌}
use Rattle.std.specs.BTreeSet.{insert_key}
use Rattle.std.specs.Cmp.Lexicographic.{slice_cmp}
use Rattle.std.specs.Ordering.{nat_cmp}
use Rattle.std.proofs.lemmas.List.{map-append}
use Rattle.std.proofs.lemmas.List.Folds.{fold-map}
use Rattle.json_profile.specs.Dependencies.{line_of, with_feed, dep_text_of}
use Rattle.read_sets.specs.Items.{pairs_of}
use Rattle.read_sets.specs.declared.trace.Item.{Item}
use Rattle.engine_session.specs.KeptDeps.{item_line, item_lines, lines_text}

lines_read : (items : List Item) → map line_of (pairs_of items) ≡ item_lines items
lines_read [] = refl
lines_read (i ∷ items) = ap (λ ls. item_line i ∷ ls) (lines_read items)

pub dep_by_lines : (build check : List Item) → dep_text_of (pairs_of build) (pairs_of check)
    ≡ lines_text (item_lines build ++ item_lines check)
dep_by_lines build check = ap (flat_map with_feed)
    (sym (fold-map (insert_key (slice_cmp nat_cmp)) line_of [] (pairs_of build ++ pairs_of check))
    ∙ ap (fold (insert_key (slice_cmp nat_cmp)) [])
    (map-append line_of (pairs_of build) (pairs_of check)
    ∙ ap₂ (λ a b. a ++ b) (lines_read build) (lines_read check)))
