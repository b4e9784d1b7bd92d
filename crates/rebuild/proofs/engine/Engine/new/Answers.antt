use Rattle.std.proofs.Common.{[], length, subst, sym, ◌≤◌, arith}
use Rattle.base.specs.declared.limits.TheConstants.{MAX_OBJECTS}
use Rattle.engine_machine.proofs.RunnerLaws.{laws_of}
use Rattle.rebuild.proofs.New.{new_reached, situation_is_new, new_is_ready}
use Rattle.rebuild.proofs.Indexing.{index_new}
use Rattle.read_index.specs.Readers.{asks}
use Rattle.rebuild.proofs.engine.Engine.new.Goals as goal

pub invariant_of-result : goal.invariant_of-result
invariant_of-result g c =
    record {
      ready = new_is_ready c.new.result.items c.new-2.result.items c.new-3.result
          c.new.ensures.items c.new-2.ensures.items c.new-3.ensures;
      low = omega arith;
      few = subst (λ rows. length rows ≤ MAX_OBJECTS) (sym c.new-2.ensures.items) (omega arith);
    }

pub returns-clause-sound : goal.returns-clause-sound
returns-clause-sound g c =
    let limits = c.args.limits in
    let dirs = c.args.dirs in
    let m = g.R.Runner.meaning dirs limits in
    let laws = laws_of m (g.met.R.Runner.laws dirs limits) [] [] in
    let fresh = situation_is_new c.new.result.items c.new-2.result.items c.new-3.result
    c.new.ensures.items c.new-2.ensures.items c.new-3.ensures in
    record {
      reached = ∣ new_reached m.build m.check laws _ fresh ∣₁;
      indexed = index_new _ (asks c.new-4.result) fresh c.new-4.ensures;
    }
