use Rattle.std.proofs.Common.{refl, subst, sym, ap, ◌∙◌}
use Rattle.rebuild.specs.Refused.{IsRefused}
use Rattle.engine_session.specs.Standing.{AreNumbers, counts, IsKept}
use Rattle.engine_turns.specs.States.{pictured}
use Rattle.engine_session.proofs.Fits.{either_way, either_way_two}
use Rattle.engine_session.proofs.Moves.{picture_taken, picture_spent, picture_too_much, taken_kept}
use Rattle.engine_session.proofs.KeptTrees.{trees_left, trees_taken}
use Rattle.engine_session.proofs.taking.take.Goals as goal

pub returns-in-Ok-clause-took : goal.returns-in-Ok-clause-took
returns-in-Ok-clause-took g c = λ begun dirs limits s start at.
    let old = c.args.works.now.engine in
    let new = c.take.new.self in
    let e = c.in-Ok.ensures in
    picture_taken g.R.Runner.meaning dirs limits s old.core new.core c.args.picture start _
    (counts (g.R.Runner.runs_of c.take.new.runner) c.take.new.steps) old.ready e.objects e.few
    new.low (e.state begun.sound) e.files e.dirs e.limits e.runs e.steps at

pub returns-in-Err-TooManyObjects-clause-took : goal.returns-in-Err-TooManyObjects-clause-took
returns-in-Err-TooManyObjects-clause-took g c = λ begun dirs limits s start at.
    let e = c.in-Err-TooManyObjects.ensures in
    picture_too_much g.R.Runner.meaning dirs limits s c.args.works.now.engine.core
    c.take.new.self.core c.args.picture start _ (counts (g.R.Runner.runs_of c.take.new.runner)
    c.take.new.steps) (subst (IsRefused c.args.works.now.engine.core.files.items
    c.args.works.now.engine.core.counter c.args.picture c.args.works.now.engine.core.dirs)
    c.in-Err-TooManyObjects.field-0-is e.refused) e.runs e.refused_steps at

pub returns-in-Err-NumbersSpent-clause-took : goal.returns-in-Err-NumbersSpent-clause-took
returns-in-Err-NumbersSpent-clause-took g c = λ begun dirs limits s start at.
    let e = c.in-Err-NumbersSpent.ensures in
    picture_spent g.R.Runner.meaning dirs limits s c.args.works.now.engine.core c.take.new.self.core
    c.args.picture start _ (counts (g.R.Runner.runs_of c.take.new.runner) c.take.new.steps)
    c.args.works.now.engine.ready
    (subst (IsRefused c.args.works.now.engine.core.files.items
    c.args.works.now.engine.core.counter c.args.picture c.args.works.now.engine.core.dirs)
    c.in-Err-NumbersSpent.field-0-is e.refused) e.runs e.refused_steps at

-- after a take that was refused, the engine and the runner are as before
pub invariant_of-works-clause-files : goal.invariant_of-works-clause-files
invariant_of-works-clause-files g c =
    let e = c.take.ensures in
    either_way_two c.take.result e.given e.files e.runner_before e.before
    (λ given files. given ∙ sym files) (λ same before. ap g.R.Runner.files_of same
    ∙ c.args.works.now.files ∙ ap (λ core. pictured core.files.items) (sym before))

pub invariant_of-works-clause-dirs : goal.invariant_of-works-clause-dirs
invariant_of-works-clause-dirs g c =
    let e = c.take.ensures in
    either_way c.take.result e.given_dirs e.runner_before (λ given. given ∙ sym e.dirs)
    (λ same. ap g.R.Runner.dirs_of same ∙ c.args.works.now.dirs ∙ sym e.dirs)

-- an engine that has taken a picture has its objects and their numbers
pub returns-in-Ok-clause-begun : goal.returns-in-Ok-clause-begun
returns-in-Ok-clause-begun g c = λ begun taken.
    let e = c.in-Ok.ensures in
    let old = c.args.works.now.engine in
    record {
      sound = e.sound begun.sound;
      kept = taken_kept g.R.Runner.meaning old.core c.take.new.self.core c.args.picture old.ready
          e.objects (e.state begun.sound) e.files e.dirs begun.numbers;
    }

pub returns-in-Ok-clause-faithful : goal.returns-in-Ok-clause-faithful
returns-in-Ok-clause-faithful g c = λ f.
    let e = c.in-Ok.ensures in
    let old = c.args.works.now.engine in
    record {
      sound = e.sound f.sound;
      kept = taken_kept g.R.Runner.meaning old.core c.take.new.self.core c.args.picture old.ready
          e.objects (e.state f.sound) e.files e.dirs f.kept.numbers;
    }

-- one that has refused it has what it had
pub returns-in-Err-TooManyObjects-clause-begun : goal.returns-in-Err-TooManyObjects-clause-begun
returns-in-Err-TooManyObjects-clause-begun g c = λ begun e. absurd cc

pub returns-in-Err-TooManyObjects-clause-faithful : goal.returns-in-Err-TooManyObjects-clause-faithful
returns-in-Err-TooManyObjects-clause-faithful g c = λ f.
    let e = c.in-Err-TooManyObjects.ensures in
    record {
      sound = e.sound f.sound;
      kept = subst (λ core. IsKept core) (sym e.before) f.kept;
    }

pub returns-in-Err-NumbersSpent-clause-begun : goal.returns-in-Err-NumbersSpent-clause-begun
returns-in-Err-NumbersSpent-clause-begun g c = λ begun e. absurd cc

pub returns-in-Err-NumbersSpent-clause-faithful : goal.returns-in-Err-NumbersSpent-clause-faithful
returns-in-Err-NumbersSpent-clause-faithful g c = λ f.
    let e = c.in-Err-NumbersSpent.ensures in
    record {
      sound = e.sound f.sound;
      kept = subst (λ core. IsKept core) (sym e.before) f.kept;
    }

pub returns-in-Err-Memory-clause-faithful : goal.returns-in-Err-Memory-clause-faithful
returns-in-Err-Memory-clause-faithful g c = λ f.
    let e = c.in-Err-Memory.ensures in
    record {
      sound = e.sound f.sound;
      kept = subst (λ core. IsKept core) (sym e.before) f.kept;
    }

-- what has begun is still begun
pub returns-in-Ok-clause-still : goal.returns-in-Ok-clause-still
returns-in-Ok-clause-still g c = λ begun.
    let f = returns-in-Ok-clause-begun g c begun refl in
    record { sound = f.sound; numbers = f.kept.numbers }

pub returns-in-Err-TooManyObjects-clause-still : goal.returns-in-Err-TooManyObjects-clause-still
returns-in-Err-TooManyObjects-clause-still g c = λ begun.
    let e = c.in-Err-TooManyObjects.ensures in
    record {
      sound = e.sound begun.sound;
      numbers = subst AreNumbers (ap (λ core. core.files.items) (sym e.before)) begun.numbers;
    }

pub returns-in-Err-NumbersSpent-clause-still : goal.returns-in-Err-NumbersSpent-clause-still
returns-in-Err-NumbersSpent-clause-still g c = λ begun.
    let e = c.in-Err-NumbersSpent.ensures in
    record {
      sound = e.sound begun.sound;
      numbers = subst AreNumbers (ap (λ core. core.files.items) (sym e.before)) begun.numbers;
    }

pub returns-in-Err-Memory-clause-still : goal.returns-in-Err-Memory-clause-still
returns-in-Err-Memory-clause-still g c = λ begun.
    let e = c.in-Err-Memory.ensures in
    record {
      sound = e.sound begun.sound;
      numbers = subst AreNumbers (ap (λ core. core.files.items) (sym e.before)) begun.numbers;
    }

-- a take leaves the trees
pub returns-in-Ok-clause-trees : goal.returns-in-Ok-clause-trees
returns-in-Ok-clause-trees g c = λ begun.
    trees_taken g.R.Runner.meaning c.args.works.now.engine.core c.take.new.self.core c.args.picture
    _ (c.in-Ok.ensures.state begun.sound)

pub returns-in-Err-TooManyObjects-clause-trees : goal.returns-in-Err-TooManyObjects-clause-trees
returns-in-Err-TooManyObjects-clause-trees g c = λ begun.
    trees_left c.args.works.now.engine.core c.take.new.self.core
    c.in-Err-TooManyObjects.ensures.before

pub returns-in-Err-NumbersSpent-clause-trees : goal.returns-in-Err-NumbersSpent-clause-trees
returns-in-Err-NumbersSpent-clause-trees g c = λ begun.
    trees_left c.args.works.now.engine.core c.take.new.self.core c.in-Err-NumbersSpent.ensures.before
