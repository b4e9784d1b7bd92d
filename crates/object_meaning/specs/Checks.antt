-- The check of what was built, with a whole work of its own. SELF is fixed in its DML, all includes
-- may still be opened, and globals and functions are those at the end of execution.
use Rattle.std.specs.Prelude.{ℕ, List, Some, None, true, false}
use Rattle.path_tree.specs.Paths.{path_text}
use Rattle.asking.specs.Asked.{Answer}
use Rattle.questions.specs.declared.key.Key.{Key}
use Rattle.questions.specs.Contents.{Content, answer_in}
use Rattle.questions.specs.Run.{Outcome}
use Rattle.questions.specs.Told.{Ending, answer_by, whole}
use Rattle.dml_meaning.specs.declared.limits.TheConstants.{MAX_INCLUDES, MAX_OPEN_ITEMS}
use Rattle.dml_meaning.specs.Around.{Around}
use Rattle.dml_meaning.specs.Lookups.{look_at}
use Rattle.dml_meaning.specs.Structures.{dml_run}
use Rattle.dml_meaning.specs.Meaning.{eval}
use Rattle.dml_meaning.specs.Run.{Look}
use Rattle.template_meaning.specs.Program.{Site}
use Rattle.validate.specs.Checked.{checked}
use Rattle.validate.specs.Means.{Means}
use Rattle.runner.specs.declared.ends.Built.{Built}
use Rattle.runner.specs.Ends.{Verdict}
use Rattle.object_meaning.specs.Rest.{Rest}

-- what stands around the DML of a test in a template
abbrev pub around_built : Site → Built Rest → List ℕ → Around
around_built site b template = record {
  globals = b.rest.globals.variables;
  functions = b.rest.functions;
  root = b.tree;
  object = site.object;
  template = template;
  dirs = site.dirs;
  fixed = false;
  iterations = site.limits.max_iteration;
  calls_left = site.limits.max_recursion;
  includes_left = MAX_INCLUDES;
  called = None;
  reading = site.reading;
  calls = site.calls;
}

-- what tests give, and what stands at the path of a link
abbrev pub means_of : Site → Built Rest → Means
means_of site b = record {
  dml = λ template i v. dml_run (eval MAX_OPEN_ITEMS) (around_built site b template) true v i;
  look = λ p path.
      look_at (around_built site b site.object) p (path_text path) path.anchor path.terms;
}

unfoldable pub check_run : Site → Built Rest → Look (Unit {0})
check_run site b = checked (means_of site b) b.rest.header b.tree b.rest.bindings b.rest.valids

abbrev pub check_ending : Ending (Unit {0}) (Unit {0}) Verdict
check_ending = record { done = λ u s. None; returned = λ t s. None; failed = Some }

abbrev pub check_told : Site → Built Rest → List (Key × Content) → Outcome (Unit {0}) (Unit {0})
check_told site b pairs = check_run site b (answer_in pairs) tt whole

-- what a check that is told these pairs gives, or asks next
abbrev pub check : Site → Built Rest → List (Key × Content) → Answer Key Verdict
check site b pairs = answer_by check_ending (check_told site b pairs)
