-- What the statements of an object change, and what stays the same while they run.
use Rattle.std.specs.Prelude.{ℕ, false, List, [], None, Result}
use Rattle.path_tree.specs.Plain.{dict, no_fields}
use Rattle.pan_ast.specs.declared.fault.Fault.{Fault}
use Rattle.pan_ast.specs.declared.work.Limits.{Limits}
use Rattle.pan_ast.specs.declared.template.TemplateKind.{TemplateKind}
use Rattle.pan_ast.specs.declared.template.TemplateKind.TheVariants as kind
use Rattle.pan_ast.specs.Templates.{Template}
use Rattle.dml_meaning.specs.declared.limits.TheConstants.{MAX_INCLUDES}
use Rattle.dml_meaning.specs.Around.{Around, Function, ValueCalls}
use Rattle.assign_rules.specs.Profiles.{ProfileValue}
use Rattle.assign_rules.specs.Globals.{GlobalsValue, no_globals}
use Rattle.type_defs.specs.Names.{Defined}
use Rattle.type_defs.specs.Bindings.{Bound, Valid}

-- What a run of an object is about: its name, the include directories, the limits, how a file's
-- bytes are read as a template, and what the built-in functions of values give.
pub record Site : Type 0 where
  pub object : List ℕ
  pub dirs : List (List ℕ)
  pub limits : Limits
  pub reading : List ℕ → List ℕ → Result Template Fault
  pub calls : ValueCalls

-- What statements change: the tree with its final paths and its log, the variables, the functions,
-- the types, the types bound to paths, the valid statements, and which unique and declaration
-- templates have run.
pub record Program : Type 0 where
  pub profile : ProfileValue
  pub globals : GlobalsValue
  pub functions : List Function
  pub types : Defined
  pub bindings : List Bound
  pub valids : List Valid
  pub ran : List (List ℕ)

-- an empty dict, and nothing else
abbrev pub no_program : Program
no_program = record {
  profile = record { tree = dict no_fields; finals = []; log = [] };
  globals = no_globals;
  functions = [];
  types = λ name. None;
  bindings = [];
  valids = [];
  ran = [];
}

-- The template whose statements run: its kind, its name, and how many includes may still be opened.
pub record Inside : Type 0 where
  pub kind : TemplateKind
  pub template : List ℕ
  pub includes_left : ℕ

-- the object's own template, inside no include
abbrev pub at_top : Site → Inside
at_top site =
    record { kind = kind.Object; template = site.object; includes_left = MAX_INCLUDES }

-- what stands around the DML of a statement
abbrev pub around_in : Site → Inside → Program → Around
around_in site n s = record {
  globals = s.globals.variables;
  functions = s.functions;
  root = s.profile.tree;
  object = site.object;
  template = n.template;
  dirs = site.dirs;
  fixed = false;
  iterations = site.limits.max_iteration;
  calls_left = site.limits.max_recursion;
  includes_left = n.includes_left;
  called = None;
  reading = site.reading;
  calls = site.calls;
}
