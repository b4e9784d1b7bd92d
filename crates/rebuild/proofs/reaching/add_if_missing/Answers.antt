use Rattle.std.proofs.Common.{sym, ◌∙◌}
use Rattle.engine_turns.specs.Places.{names}
use Rattle.engine_turns.proofs.Entries.{is_placed, not_placed}
use Rattle.rebuild.proofs.Moves.{not_missing, one_missing}
use Rattle.rebuild.proofs.reaching.add_if_missing.Goals as goal

pub returns-in-Some : goal.returns-in-Some
returns-in-Some g c = not_missing c.args.name.now (names c.args.others.now) c.args.moved.now.items
    (is_placed c.args.name.now c.args.others.now c.in-Some._place
    (sym c.row_near.ensures ∙ c.in-Some.is))

pub returns-in_ok-push-in-None : goal.returns-in_ok-push-in-None
returns-in_ok-push-in-None g c =
    one_missing c.args.name.now (names c.args.others.now) c.args.moved.now.items
    c.push.new.self.items c.in_ok-object_key-in-None.field-0
    (not_placed c.args.name.now c.args.others.now (sym c.row_near.ensures ∙ c.in-None.is))
    c.in_ok-object_key-in-None.ensures c.in_ok-push-in-None.ensures.items
