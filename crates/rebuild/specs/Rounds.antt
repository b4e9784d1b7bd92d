-- What a round runs and costs, and which objects are circular, by what a runner means.
use Rattle.std.specs.Prelude.{List}
use Rattle.asking.specs.declared.limits.TheConstants.{MAX_WORK}
use Rattle.load_path.specs.declared.picture.PictureFile.{PictureFile}
use Rattle.runner.specs.Meaning.{Meaning}
use Rattle.engine_laws.specs.Names.{Name}
use Rattle.engine_laws.specs.Circles.{AreCircles}
use Rattle.engine_laws.specs.Rounds.{RunsWhatChanged}
use Rattle.engine_laws.specs.Steps.{AreCosts, IsBounded}
use Rattle.engine_machine.specs.Machine.{runner_of, keeping, judge_of, costs_of}
use Rattle.engine_machine.specs.Pictures.{picture_in}

pub record AreRounds {T : Type 0} (m : Meaning T) : Type 0 where
  -- a take and all its turns run just the objects that had no whole record, or whose record changed
  pub runs : RunsWhatChanged (runner_of m.build) keeping (judge_of m.check)
  -- the turns cost at most what the records, and the runs that are made, may cost
  pub steps : IsBounded (runner_of m.build) keeping (judge_of m.check) (costs_of m)
  pub costs : (files : List PictureFile) (objects : List Name)
      → AreCosts (runner_of m.build) keeping
      (judge_of m.check) (costs_of m) (picture_in files objects) MAX_WORK
  -- an object is circular exactly where its chain of reads never ends
  pub circles : (files : List PictureFile) (objects : List Name)
      → AreCircles (runner_of m.build) (picture_in files objects)
