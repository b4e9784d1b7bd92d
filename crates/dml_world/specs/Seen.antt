-- What the definitions see of the evaluator's values.
use Rattle.std.specs.Prelude.{ℕ, Bool, true, false, List, Option, Some, None, Result, map, option_map}
use Rattle.std.specs.Borrow.{Bor}
use Rattle.pan_ast.specs.Seen.{item_seen}
use Rattle.pan_ast.specs.Syntax.{Item}
use Rattle.pan_ast.specs.declared.syntax.Item.{Item as RItem}
use Rattle.pan_ast.specs.declared.fault.Fault.{Fault}
use Rattle.pan_ast.specs.declared.work.Work.{Work}
use Rattle.pan_ast.specs.Templates.{Template}
use Rattle.questions.specs.declared.key.Key.{Key}
use Rattle.questions.specs.Run.{Meter}
use Rattle.dml_meaning.specs.Run.{Env}
use Rattle.dml_meaning.specs.Around.{Around, Called, Function, ValueCalls}
use Rattle.dml_world.specs.declared.frame.Around.{Around as RAround}
use Rattle.dml_world.specs.declared.frame.Called.{Called as RCalled}
use Rattle.dml_world.specs.declared.frame.Function.{Function as RFunction}
use Rattle.dml_world.specs.declared.frame.Functions.{Functions}
use Rattle.dml_world.specs.declared.frame.Live.{Live}
use Rattle.dml_world.specs.declared.frame.SelfUse.{SelfUse}
use Rattle.dml_world.specs.declared.frame.SelfUse.TheVariants as self_use

abbrev pub env : Live → Env
env l = record { locals = l.locals; self = l.self_value }

abbrev pub meter : Work → List Key → Meter
meter w asked = record { left = w.left; asked = asked }

abbrev pub is_fixed : SelfUse → Bool
is_fixed self_use.Fixed = true
is_fixed self_use.Changeable = false

abbrev pub function_of : RFunction → Function
function_of f = record { name = f.name; body = item_seen f.body.value }

abbrev pub functions_of : Functions → List Function
functions_of fs = map function_of fs.entries.items

abbrev pub called_of : Bor RCalled → Called
called_of c = record { name = c.now.name.now; arguments = c.now.arguments }

abbrev pub around_of : RAround → (List ℕ → List ℕ → Result Template Fault) → ValueCalls → Around
around_of a reading calls = record {
  globals = a.frame.now.globals.now.variables;
  functions = functions_of a.frame.now.functions.now;
  root = a.frame.now.root.now;
  object = a.frame.now.object.now;
  template = a.frame.now.template;
  dirs = a.frame.now.dirs.now;
  fixed = is_fixed a.self_use;
  iterations = a.frame.now.max_iteration;
  calls_left = a.calls_left;
  includes_left = a.includes_left;
  called = option_map called_of a.called;
  reading = reading;
  calls = calls;
}

abbrev pub item_behind : Option (Bor RItem) → Option Item
item_behind None = None
item_behind (Some i) = Some (item_seen i.now)
