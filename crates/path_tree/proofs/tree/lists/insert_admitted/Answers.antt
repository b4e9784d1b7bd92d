use Rattle.std.proofs.Common.{refl}
use Rattle.path_tree.specs.declared.tree.Items.{Items}
use Rattle.path_tree.proofs.Listing.{inserted_is, inserted_kept}
use Rattle.path_tree.proofs.tree.lists.insert_admitted.Goals as goal

pub returns-clause-ok : goal.returns-clause-ok
returns-clause-ok c =
    let new : Items = record {
      items = c.insert.new.self;
      size = c.args.after.size;
      height =
          c.args.after.height;
    } in
    inserted_is c.args.list.now c.args.value c.requires.kept new c.args.index c.args.after
    c.requires.admitted c.in_ok-insert.ensures.items

pub returns-clause-kept : goal.returns-clause-kept
returns-clause-kept c = inserted_kept c.args.list.now c.args.value c.requires.kept _ c.args.index
    c.args.after c.requires.admitted c.in_ok-insert.ensures.items refl refl
