-- What the change of a value in place answers.
use Rattle.std.specs.Prelude.{◌≡◌, ℕ, Bool, true, false, List, ◌∷◌, Result, Ok, Err}
use Rattle.path_tree.specs.Plain.{Plain}
use Rattle.path_tree.specs.declared.path.PutError.{PutError}
use Rattle.path_tree.specs.declared.path.PutError.TheVariants as error
use Rattle.pan_ast.specs.Detail.{fault_at, fault_with}
use Rattle.pan_ast.specs.declared.place.Place.{Place}
use Rattle.pan_ast.specs.declared.fault.Code.{Code}
use Rattle.pan_ast.specs.declared.fault.Code.TheVariants.{TooLarge, BadPath}
use Rattle.dml_world.specs.declared.stop.Exit.{Exit}
use Rattle.dml_world.specs.declared.stop.Exit.TheVariants as exit
use Rattle.dml_world.specs.Exits.{IsFault}
use Rattle.dml_meaning.specs.Indexes.{put_code}
use Rattle.dml_meaning.specs.Around.{with_local}
use Rattle.dml_meaning.specs.Names.{with_root}
use Rattle.dml_world.specs.declared.frame.Live.{Live}
use Rattle.dml_meaning.specs.declared.local.Local.{Local}
use Rattle.dml_world.specs.Seen.{env}
use Rattle.dml_leaves.specs.declared.indexes.Unchanged.{Unchanged}
use Rattle.dml_leaves.specs.declared.indexes.Unchanged.TheVariants as unchanged

abbrev pub IsRefusal : Unchanged → Result Plain Code → Type 0
IsRefusal unchanged.Memory r = Unit {0}
IsRefusal (unchanged.Code c) r = r ≡ Err c

-- the refusal of a put; want of memory is its own
abbrev pub IsUnput : PutError → Unchanged → Type 0
IsUnput error.Memory u = u ≡ unchanged.Memory
IsUnput e u = IsRefusal u (put_code (Err e))

-- the tree is what it should be, or this is why not, or memory is wanting
abbrev pub IsChange : Result (Unit {0}) Unchanged → Plain → Result Plain Code → Type 0
IsChange (Ok x) t r = r ≡ Ok t
IsChange (Err u) t r = IsRefusal u r

-- a local is changed, or this is why not
abbrev pub IsLocalChange : Result (Unit {0}) Unchanged → List ℕ → List Local → List Local
    → Result Plain Code → Type 0
IsLocalChange (Ok u) x old new r = (t : Plain) × (r ≡ Ok t) × (new ≡ with_local x t old)
IsLocalChange (Err u) x old new r = IsRefusal u r

-- SELF or a local is changed, or this is why not
abbrev pub IsRootChange : Result (Unit {0}) Unchanged → List ℕ → Live → Live → Result Plain Code
    → Type 0
IsRootChange (Ok u) x old new r = (t : Plain) × (r ≡ Ok t) × (env new ≡ with_root x t (env old))
IsRootChange (Err u) x old new r = IsRefusal u r

-- a put into what `create` makes was refused: its fault, or want of memory
abbrev pub IsUnputAt : PutError → Exit → Place → List ℕ → Type 0
IsUnputAt error.Memory x p d = x ≡ exit.Memory
IsUnputAt error.TooLarge x p d = IsFault x (fault_at TooLarge p)
IsUnputAt error.TooHigh x p d = IsFault x (fault_at TooLarge p)
IsUnputAt e x p d = IsFault x (fault_with BadPath p d)

-- fewer than two values
abbrev pub is_short : List Plain → Bool
is_short (k ∷ v ∷ ts) = false
is_short _ = true
