use Rattle.std.proofs.Common.{◌≤◌, refl, sym, subst}
use Rattle.base.specs.declared.limits.TheConstants.{MAX_OBJECTS}
use Rattle.rebuild.proofs.Engines.{ready_is}
use Rattle.rebuild.proofs.Forgetting.{IsForgotten, forgets, still_ready, still_few, forget_allowed}
use Rattle.rebuild.proofs.Sound.{forget_sound}
use Rattle.read_index.specs.Readers.{asks}
use Rattle.rebuild.proofs.engine.Engine.forget_runs.Goals as goal

pub invariant_of-self : goal.invariant_of-self
invariant_of-self g c =
    let self = c.args.self.now in
    let old = self.core in
    let rows = c.forget_rows.ensures in
    let f : IsForgotten old (record old { rows = c.forget_rows.new.rows }) =
    record {
      limits = refl;
      dirs = refl;
      counter = refl;
      files = refl;
      chain = refl;
      rows =
          rows;
      builds = refl;
      checks = refl;
    } in
    let m = g.R.Runner.meaning in
    let lawful = g.met.R.Runner.laws in
    record {
      ready = still_ready m lawful old _ (ready_is old self.ready) f;
      low = self.low;
      few = subst (λ k. k ≤ MAX_OBJECTS)
          (sym (still_few m lawful old _ (ready_is old self.ready) f)) self.few;
    }

pub returns-clause-state : goal.returns-clause-state
returns-clause-state g c =
    let self = c.args.self.now in
    let old = self.core in
    let rows = c.forget_rows.ensures in
    let f : IsForgotten old (record old { rows = c.forget_rows.new.rows }) =
    record {
      limits = refl;
      dirs = refl;
      counter = refl;
      files = refl;
      chain = refl;
      rows =
          rows;
      builds = refl;
      checks = refl;
    } in
    forgets g.R.Runner.meaning g.met.R.Runner.laws old _ (ready_is old self.ready) f

pub returns-clause-sound : goal.returns-clause-sound
returns-clause-sound g c sound =
    let self = c.args.self.now in
    let old = self.core in
    let rows = c.forget_rows.ensures in
    let f : IsForgotten old (record old { rows = c.forget_rows.new.rows }) =
    record {
      limits = refl;
      dirs = refl;
      counter = refl;
      files = refl;
      chain = refl;
      rows =
          rows;
      builds = refl;
      checks = refl;
    } in
    forget_sound g.R.Runner.meaning old (record old { rows = c.forget_rows.new.rows })
    (asks self.index) g.met.R.Runner.laws self.ready f c.requires sound

pub returns-clause-allowed : goal.returns-clause-allowed
returns-clause-allowed g c sound =
    let self = c.args.self.now in
    let old = self.core in
    let rows = c.forget_rows.ensures in
    let f : IsForgotten old (record old { rows = c.forget_rows.new.rows }) =
    record {
      limits = refl;
      dirs = refl;
      counter = refl;
      files = refl;
      chain = refl;
      rows =
          rows;
      builds = refl;
      checks = refl;
    } in
    forget_allowed g.R.Runner.meaning g.met.R.Runner.laws old
    (record old { rows = c.forget_rows.new.rows }) (ready_is old self.ready) f c.requires
    sound.reached
