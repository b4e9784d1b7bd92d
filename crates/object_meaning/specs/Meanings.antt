-- Builds and checks of objects, as what a runner means.
use Rattle.std.specs.Prelude.{ℕ, List, Option, Some, None, cond}
use Rattle.pan_ast.specs.declared.work.Limits.{Limits}
use Rattle.questions.specs.Told.{work_of}
use Rattle.runner.specs.Logged.{put_no_null}
use Rattle.runner.specs.Meaning.{Logged, Meaning}
use Rattle.object_meaning.specs.Rest.{Rest}
use Rattle.object_meaning.specs.Builds.{site_at, build, build_told}
use Rattle.object_meaning.specs.Checks.{check, check_told}

-- how the tree of a build was made, where no change puts null
abbrev pub log_of : Rest → Option Logged
log_of r =
    cond (put_no_null r.log) (Some (record { header = r.header; changes = r.log })) None

abbrev pub meaning_of : List (List ℕ) → Limits → Meaning Rest
meaning_of dirs limits = record {
  build = λ object. build (site_at dirs limits object);
  build_work = λ object pairs. work_of (build_told (site_at dirs limits object) pairs);
  check = λ b. check (site_at dirs limits b.object) b;
  check_work = λ b pairs. work_of (check_told (site_at dirs limits b.object) b pairs);
  log = log_of;
}
