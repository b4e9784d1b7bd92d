-- The build of an object: its statements from an empty dict on, and then the defaults of its
-- bindings, with the work that is left.
use Rattle.std.specs.Prelude.{ℕ, List, Ok, Err}
use Rattle.path_tree.specs.Plain.{undef}
use Rattle.pan_ast.specs.declared.place.Place.{Place}
use Rattle.pan_ast.specs.declared.work.Limits.{Limits}
use Rattle.pan_template.specs.TemplateOf.{template_of}
use Rattle.asking.specs.Asked.{Answer}
use Rattle.questions.specs.declared.key.Key.{Key}
use Rattle.questions.specs.Contents.{Content, answer_in}
use Rattle.questions.specs.Run.{Outcome, ◌>>=◌, give, now, scoped}
use Rattle.questions.specs.Told.{Ending, answer_by, whole}
use Rattle.value_calls.specs.Calls.{value_calls}
use Rattle.defaults.specs.Filled.{Store, Fill, all_filled}
use Rattle.template_meaning.specs.Program.{Site, Program, no_program}
use Rattle.template_meaning.specs.Statements.{Run}
use Rattle.template_meaning.specs.Objects.{object_run, top_place}
use Rattle.runner.specs.declared.ends.Built.{Built}
use Rattle.runner.specs.Ends.{End}
use Rattle.object_meaning.specs.Rest.{Rest}

-- a run of an object, by templates as files spell them and by all built-in functions
abbrev pub site_at : List (List ℕ) → Limits → List ℕ → Site
site_at dirs limits object = record {
  object = object;
  dirs = dirs;
  limits = limits;
  reading = template_of;
  calls = value_calls;
}

-- the tree of a program and its log, and a program with another tree and log
abbrev pub store_of : Program → Store
store_of s = record { tree = s.profile.tree; log = s.profile.log }

abbrev pub with_store : Program → Store → Program
with_store s t = record s { profile = record s.profile { tree = t.tree; log = t.log } }

-- what changes the tree and the log alone
abbrev pub in_store : Fill → Run (Unit {0})
in_store f = scoped store_of with_store (f >>= (λ u. give undef)) >>= (λ t. give tt)

unfoldable pub defaults_run : Run (Unit {0})
defaults_run = now >>= (λ s. in_store (all_filled s.bindings))

-- it gives the place of the header
unfoldable pub built_run : Site → Run Place
built_run site = object_run site >>= (λ header. defaults_run >>= (λ u. give header))

abbrev pub rest_of : Place → Program → Rest
rest_of header s = record {
  header = header;
  globals = s.globals;
  functions = s.functions;
  bindings = s.bindings;
  valids = s.valids;
  log = s.profile.log;
}

abbrev pub built_of : List ℕ → Place → Program → Built Rest
built_of object header s =
    record { object = object; tree = s.profile.tree; rest = rest_of header s }

-- DML that returns ends its statement alone, so a build itself never returns
abbrev pub build_ending : Site → Ending Program Place (End Rest)
build_ending site = record {
  done = λ header s. Ok (built_of site.object header s);
  returned = λ t s. Ok (built_of site.object (top_place site.object) s);
  failed = Err;
}

abbrev pub build_told : Site → List (Key × Content) → Outcome Program Place
build_told site pairs = built_run site (answer_in pairs) no_program whole

-- what a build that is told these pairs gives, or asks next
abbrev pub build : Site → List (Key × Content) → Answer Key (End Rest)
build site pairs = answer_by (build_ending site) (build_told site pairs)
