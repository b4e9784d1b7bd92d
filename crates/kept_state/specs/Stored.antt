-- What an engine keeps, as plain data.
use Rattle.std.specs.Prelude.{ℕ, List}
use Rattle.pan_ast.specs.declared.work.Limits.{Limits}
use Rattle.kept_state.specs.declared.kept.Kept.{Kept}
use Rattle.kept_state.specs.declared.kept.KeptFile.{KeptFile}
use Rattle.kept_state.specs.declared.kept.KeptObject.{KeptObject}

abbrev pub file_name : KeptFile → List ℕ
file_name f = f.name

abbrev pub object_name : KeptObject → List ℕ
object_name o = o.name

-- what is kept, wherever its lists lie in memory
pub record Stored : Type 0 where
  pub counter : ℕ
  pub limits : Limits
  pub dirs : List (List ℕ)
  pub files : List KeptFile
  pub objects : List KeptObject

abbrev pub stored : Kept → Stored
stored k = record {
  counter = k.counter;
  limits = k.limits;
  dirs = k.dirs.items;
  files = k.files.items;
  objects = k.objects.items;
}
