-- What an object's own template makes, from an empty dict on.
use Rattle.std.specs.Prelude.{ℕ, Bool, true, false, List, ◌++◌, codes, cond, None}
use Rattle.pan_ast.specs.declared.place.Place.{Place}
use Rattle.pan_ast.specs.declared.fault.Code.TheVariants as code
use Rattle.pan_ast.specs.declared.template.TemplateKind.{TemplateKind}
use Rattle.pan_ast.specs.declared.template.TemplateKind.TheVariants as kind
use Rattle.pan_ast.specs.Templates.{Template}
use Rattle.questions.specs.Run.{◌>>=◌, give, fail_about, still}
use Rattle.dml_meaning.specs.declared.limits.TheConstants.{MAX_INCLUDES}
use Rattle.dml_meaning.specs.Lookups.{template_named}
use Rattle.template_meaning.specs.Program.{Site, no_program, at_top, around_in}
use Rattle.template_meaning.specs.Statements.{Run, statements_run, included}

-- line 1, column 1 of the object's file
abbrev pub top_place : List ℕ → Place
top_place object = record { file = object ++ codes ".pan"; line = 1; column = 1 }

abbrev pub is_object_kind : TemplateKind → Bool
is_object_kind kind.Object = true
is_object_kind k = false

-- all includes may still be opened
abbrev pub run_top : Site → Template → Run (Unit {0})
run_top site z = cond (is_object_kind z.kind)
    (statements_run (included MAX_INCLUDES site) site (at_top site) None z.statements)
    (fail_about code.WrongKind (top_place site.object) site.object)

-- The object's template is looked for under its own name alone, as no LOADPATH is set yet; then its
-- statements run. It gives the place of its header.
unfoldable pub object_run : Site → Run Place
object_run site = do
  z ← still (template_named (around_in site (at_top site) no_program) (top_place site.object)
      site.object)
  _ ← run_top site z
  give z.place
