-- What a check's tests are evaluated in: of which object, and over what was built.
use Rattle.std.specs.Prelude.{◌≡◌, ℕ, List, [], Result}
use Rattle.path_tree.specs.Plain.{undef}
use Rattle.pan_ast.specs.declared.fault.Fault.{Fault}
use Rattle.pan_ast.specs.declared.work.Limits.{Limits}
use Rattle.pan_ast.specs.Templates.{Template}
use Rattle.questions.specs.declared.key.Key.TheVariants.{Under}
use Rattle.assign_rules.specs.Globals.{no_globals}
use Rattle.dml_meaning.specs.Around.{ValueCalls}
use Rattle.dml_world.specs.declared.stop.Stop.{Stop}
use Rattle.dml_world.specs.declared.stop.Stop.TheVariants as stop
use Rattle.validate.specs.declared.stop.Stop.{Stop as CheckStop}
use Rattle.validate.specs.declared.stop.Stop.TheVariants as check_stop
use Rattle.validate.specs.Means.{Means}
use Rattle.runner.specs.declared.ends.Built.{Built}
use Rattle.template_meaning.specs.Program.{Site}
use Rattle.plain_statements.specs.declared.site.Site.{Site as RSite}
use Rattle.object_meaning.specs.Rest.{Rest}
use Rattle.object_meaning.specs.Checks.{means_of}

pub record Case : Type 0 where
  pub object : List ℕ
  pub dirs : List (List ℕ)
  pub limits : Limits
  pub built : Built Rest
  deriving IsSet as Case-set

-- of no object
abbrev pub no_case : Case
no_case = record {
  object = [];
  dirs = [];
  limits = record { max_iteration = 0; max_recursion = 0 };
  built = record {
    object = [];
    tree = undef;
    rest = record {
      header = record { file = []; line = 0; column = 0 };
      globals = no_globals;
      functions = [];
      bindings = [];
      valids = [];
      log = [];
    };
  };
}

abbrev pub case_of : RSite → Built Rest → Case
case_of s b = record { object = s.object.now; dirs = s.dirs.now; limits = s.limits; built = b }

abbrev pub case_site : Case → (List ℕ → List ℕ → Result Template Fault) → ValueCalls → Site
case_site c reading calls = record {
  object = c.object;
  dirs = c.dirs;
  limits = c.limits;
  reading = reading;
  calls = calls;
}

abbrev pub case_means : Case → (List ℕ → List ℕ → Result Template Fault) → ValueCalls → Means
case_means c reading calls = means_of (case_site c reading calls) c.built

-- an early end of an evaluation, as one of the check
abbrev pub IsStopOf : Stop → CheckStop → Type 0
IsStopOf stop.Memory x = x ≡ check_stop.Memory
IsStopOf (stop.Fault f) (check_stop.Fault g) = g.value ≡ f.value
IsStopOf (stop.Fault f) (check_stop.Need k) = ⊥
IsStopOf (stop.Fault f) check_stop.Memory = Unit {0}
IsStopOf (stop.Need q) (check_stop.Need k) = k.value ≡ Under q.value.object q.value.terms
IsStopOf (stop.Need q) (check_stop.Fault g) = ⊥
IsStopOf (stop.Need q) check_stop.Memory = Unit {0}
