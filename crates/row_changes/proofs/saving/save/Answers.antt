use Rattle.std.proofs.Common.{subst}
use Rattle.keepers.specs.Keeping.{Follows, replaced}
use Rattle.row_changes.specs.Differing.{gone_from, set_from}
use Rattle.row_changes.proofs.Listed.{lists_wanted}
use Rattle.row_changes.proofs.saving.save.Goals as goal

pub returns-in-Ok-clause-told : goal.returns-in-Ok-clause-told
returns-in-Ok-clause-told g c =
    subst (λ k. Follows (replaced (gone_from k c.args.wanted.items)
    (set_from k c.args.wanted.items)) (g.K.Keeper.cell c.args.keeper.now)
    (g.K.Keeper.cell c.tell_changes.new.keeper)) c.deref.ensures.value
    (subst (λ k. Follows (replaced (gone_from c.deref.result.now k)
    (set_from c.deref.result.now k)) (g.K.Keeper.cell c.args.keeper.now)
    (g.K.Keeper.cell c.tell_changes.new.keeper)) c.deref-2.ensures.value
    c.in-Ok.ensures.told)

pub returns-in-Ok-clause-kept : goal.returns-in-Ok-clause-kept
returns-in-Ok-clause-kept g c =
    lists_wanted c.args.last.items c.args.wanted.items (g.K.Keeper.cell c.args.keeper.now)
    (g.K.Keeper.cell c.tell_changes.new.keeper) c.requires.wanted_rises
    (returns-in-Ok-clause-told g c)
