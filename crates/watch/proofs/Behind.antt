-- What holds behind a line that does nothing to the shelf and the rows.
use Rattle.std.proofs.Common.{◌≡◌, ap, arith, subst, sym, option_map, ◌∙◌}
use Rattle.std.specs.Prelude.{Result, Ok, Err, OnOk, vec_items}
use Rattle.keepers.specs.declared.keeper.Keeper as keeper
use Rattle.outside.specs.declared.shelf.Shelf as shelf
use Rattle.outside.specs.declared.source.Source as source
use Rattle.publication.specs.Published.{Knows}
use Rattle.runner.specs.declared.runner.Runner as runner
use Rattle.watch.specs.Sites.{IsBehind, IsLater}
use Rattle.watch.specs.declared.site.Carried.{Carried}
use Rattle.watch.specs.declared.site.Site.{Site}

on_ok : {A E P : Type 0} (r : Result A E) → P → OnOk r P
on_ok (Ok x) p = p
on_ok (Err e) p = tt

module _ {R S H K T A E : Type 0} {M : runner.Ghosts R T} (D : source.Ghosts S)
    (P : shelf.Ghosts H) (Q : keeper.Ghosts K) (result : Result A E)
    (before after : Site R S H K T M) (knows : Knows before.publisher (P.cell before.shelf))
    (same_shelf : after.shelf ≡ before.shelf) (same_publisher : after.publisher ≡ before.publisher)
    (same_carried : after.carried ≡ before.carried) where
  pub behind_scan : IsLater D P Q before after → IsBehind D P Q result before after
  behind_scan later = record {
    later = later;
    unkept = λ none. (
      ap (λ (k : Carried K). k.keeper) same_carried,
      ap (λ (k : Carried K).
          option_map vec_items k.rows) same_carried ∙ none,
    );
    knows = on_ok result (subst (λ p. Knows p (P.cell after.shelf)) (sym same_publisher)
        (subst (λ h. Knows before.publisher (P.cell h)) (sym same_shelf) knows));
  }

  pub behind_still : after.source ≡ before.source → IsBehind D P Q result before after
  behind_still same_source = behind_scan (record {
    source_opened = ap D.opened same_source;
    shelf_opened = ap P.opened same_shelf;
    store_opened = ap (λ (k : Carried K). Q.opened k.keeper) same_carried;
    source_later = let same = ap D.fault_count same_source in omega (arith, same);
    shelf_later = let same = ap P.fault_count same_shelf in omega (arith, same);
    store_later = let same = ap (λ (k : Carried K). Q.fault_count k.keeper) same_carried in omega (arith, same);
  })
