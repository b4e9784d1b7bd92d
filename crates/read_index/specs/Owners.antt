-- Whose the marks are.
use Rattle.std.specs.Prelude.{◌≡◌, ℕ, List, [], Option, Some, None, slice_get}
use Rattle.questions.specs.declared.key.Key.{Key}
use Rattle.questions.specs.declared.key.Key.TheVariants.{File, Under}
use Rattle.read_index.specs.declared.nodes.Node.{Node}
use Rattle.read_index.specs.Nodes.{number_in, mark_at}
use Rattle.read_index.specs.Subjects.{reader_key}

-- the name of an object
abbrev pub name_of : Option Key → List ℕ
name_of None = []
name_of (Some (File name)) = []
name_of (Some (Under object terms)) = object

abbrev pub name_at : List Key → ℕ → List ℕ
name_at keys i = name_of (slice_get keys i)

-- what has a mark is an object, and has the number of its name
abbrev pub AreReaders : List Key → List Node → Type 0
AreReaders keys nodes = (i m : ℕ) → mark_at nodes i ≡ Some m
    → number_in (reader_key (name_at keys i)) keys ≡ Some i
