-- Who set the leaves of an object's tree, from scratch, with no numbers, records or turns.
use Rattle.std.specs.Prelude.{ℕ, List, [], ◌++◌, Bool, true, false, map, codes, Option, Some, None, option_map, Ok, Err}
use Rattle.load_path.specs.declared.picture.PictureFile.{PictureFile}
use Rattle.path_tree.specs.Paths.{path_text}
use Rattle.path_tree.specs.declared.path.Anchor.TheVariants.{Absolute}
use Rattle.path_tree.specs.declared.path.Term.{Term}
use Rattle.pan_ast.specs.Printed.{place_text}
use Rattle.pan_blame.specs.Blamed.{Blame, blamed}
use Rattle.runner.specs.Ends.{End}
use Rattle.runner.specs.Meaning.{Logged, Meaning, build_steps}
use Rattle.engine_laws.specs.Names.{Name}
use Rattle.engine_machine.specs.Compiled.{built_end}
use Rattle.session.specs.Machines.{Blamed}
use Rattle.engine_session.specs.Looking.{contents, told}

-- a default of a type was put there
abbrev pub default_text : Bool → List ℕ
default_text true = codes " default"
default_text false = []

-- a leaf's path, the place of the statement or binding that last set it, and whether that was a
-- default
abbrev pub leaf_text : Blame → List ℕ
leaf_text b = path_text (record { anchor = Absolute; terms = b.terms }) ++ codes " "
    ++ place_text b.tag.place ++ default_text b.tag.default

-- the leaves at and below a path, by what is told of how the tree was made: where that is nothing,
-- none
abbrev pub leaves_by : Option Logged → List Term → Option (List (List ℕ))
leaves_by None terms = Some []
leaves_by (Some l) terms = option_map (map leaf_text) (blamed l.header l.changes terms)

module _ {T : Type 0} (m : Meaning T) where
  -- .. of what a build gives; a fault has none
  abbrev pub leaves_of : End T → List Term → Option (List (List ℕ))
  leaves_of (Err fault) terms = Some []
  leaves_of (Ok b) terms = leaves_by (m.log b.rest) terms

  module _ (files : List PictureFile) (objects : List Name) where
    -- what a run of an object's build tells that is made again, and its steps
    abbrev pub blamed_in : Name → List Term → Blamed
    blamed_in o terms = record {
      leaves = leaves_of (built_end m files objects o) terms;
      steps = build_steps m o (told (contents m files objects));
    }
