-- A build with a keeper that ended early.
use Rattle.std.proofs.Common.{◌⊎◌, ℕ, List, inl, inr, ap}
use Rattle.command_words.specs.declared.commands.Work.{Work}
use Rattle.kept_build.specs.Builds.{Breaks, Unbegun}
use Rattle.kept_build.specs.Ends.{IsFailure, IsOpening}
use Rattle.kept_build.specs.Stores.{Store}
use Rattle.kept_build.specs.declared.ends.End.{End}
use Rattle.kept_build.specs.declared.ends.End.TheVariants as K
use Rattle.outside.specs.Causes.{Counted}
use Rattle.rebuild.specs.Engines.{Meanings}
use Rattle.site_build.specs.Scenes.{Scene}
use Rattle.site_build.specs.declared.ends.Device.TheVariants as D
use Rattle.site_build.specs.declared.ends.End.TheVariants as E
use Rattle.pan_top.proofs.Counting.{counted_on, counted_same}

-- nothing is written before a build begins
opening_not_out : (e : End) → IsOpening e → IsFailure D.Out e → ⊥
opening_not_out (K.Build E.Source) kind is = cc
opening_not_out (K.Build E.Shelf) kind is = cc
opening_not_out (K.Build (E.Publishing m)) kind is = cc
opening_not_out (K.Build E.Out) (inl kind) is = cc
opening_not_out (K.Build E.Out) (inr kind) is = cc
opening_not_out (K.Build E.Memory) kind is = cc
opening_not_out K.Keeper kind is = is
opening_not_out K.Saving kind is = is
opening_not_out K.BadRows kind is = is

module _ {T : Type 0} (M : Meanings T) (w : Work) (file : List ℕ) (e : End) (before mid : Scene)
    (store store_now : Store) where
  -- the sink has counted its failure, and no other
  pub out_counted : Unbegun w file e before mid store store_now
      ⊎ Breaks M w file e before mid store store_now
      → Counted (IsFailure D.Out e) before.out_count mid.out_count
  out_counted (inl u) =
      counted_same (IsFailure D.Out e) before.out_count mid.out_count u.out_count
      (opening_not_out e u.opening)
  out_counted (inr b) =
      counted_on (IsFailure D.Out e) before.out_count b.mid.out_count mid.out_count
      (ap (λ s. s.out_count) b.opens.scene) b.stops.out_count
