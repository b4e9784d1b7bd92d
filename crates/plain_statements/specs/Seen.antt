-- What the definitions see of the site, the program and the place of a run.
use Rattle.std.specs.Prelude.{ℕ, List, Result, map}
use Rattle.std.specs.Borrow.{Bor}
use Rattle.pan_ast.specs.Seen.{item_seen}
use Rattle.pan_ast.specs.Syntax.{Item}
use Rattle.pan_ast.specs.declared.syntax.Item.{Item as RItem}
use Rattle.pan_ast.specs.declared.fault.Fault.{Fault}
use Rattle.pan_ast.specs.Templates.{Template}
use Rattle.dml_meaning.specs.Around.{ValueCalls}
use Rattle.dml_world.specs.declared.world.World as world
use Rattle.dml_world.specs.Seen.{functions_of}
use Rattle.type_defs.specs.Tables.{known}
use Rattle.type_defs.specs.BindingsSeen.{bindings_seen, valid_seen}
use Rattle.template_meaning.specs.Program.{Site, Program, Inside}
use Rattle.plain_statements.specs.declared.site.Site.{Site as RSite}
use Rattle.plain_statements.specs.declared.site.Inside.{Inside as RInside}
use Rattle.plain_statements.specs.declared.program.Program.{Program as RProgram}

abbrev pub site_of : RSite → (List ℕ → List ℕ → Result Template Fault) → ValueCalls → Site
site_of s reading calls = record {
  object = s.object.now;
  dirs = s.dirs.now;
  limits = s.limits;
  reading = reading;
  calls = calls;
}

abbrev pub inside_of : RInside → Inside
inside_of n =
    record { kind = n.kind; template = n.template; includes_left = n.includes_left }

-- what a run is about, in a world, seen from inside a template
abbrev pub site_in : {W C : Type 0} → world.Ghosts W C → RInside → Site
site_in M n = site_of n.site.now M.reading M.calls

abbrev pub program_of : RProgram → Program
program_of p = record {
  profile = p.profile;
  globals = p.globals;
  functions = functions_of p.functions;
  types = known p.types;
  bindings = bindings_seen p.bindings;
  valids = map valid_seen p.valids.items;
  ran = p.ran.items;
}

abbrev pub items_at : List (Bor RItem) → List Item
items_at is = map (λ i. item_seen i.now) is
