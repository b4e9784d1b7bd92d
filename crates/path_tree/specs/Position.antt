-- What holds at the position of a key among the entries of a dict.
use Rattle.std.specs.Prelude.{◌≡◌, ℕ, ◌<◌, ◌≤◌, List, length, Some, None, Result, MatchResult, slice_index_or, slice_set, insert}
use Rattle.path_tree.specs.Plain.{Plain}
use Rattle.path_tree.specs.declared.tree.Entry.{Entry}
use Rattle.path_tree.specs.View.{fields_of}
use Rattle.path_tree.specs.Find.{find_field}
use Rattle.path_tree.specs.Put.{put_field}
use Rattle.path_tree.specs.Remove.{remove_field}
use Rattle.std.specs.List.{remove}

-- what holds where a key stands at index i
pub record Stands (k : List ℕ) (es : List Entry) (i : ℕ) : Type 0 where
  pub within : i < length es
  pub found : (d : Entry) → find_field k (fields_of es) ≡ Some (slice_index_or es i d).value
  pub put : (d : Entry) (t : Plain)
      → fields_of (slice_set es i (record (slice_index_or es i d) { value = t }))
      ≡ put_field k t (fields_of es)
  pub removed : fields_of (remove es i) ≡ remove_field k (fields_of es)

-- what holds where it would stand there
pub record Lacks (k : List ℕ) (es : List Entry) (i : ℕ) : Type 0 where
  pub within : i ≤ length es
  pub found : find_field k (fields_of es) ≡ None
  pub put : (e : Entry) → e.key ≡ k → fields_of (insert es i e) ≡ put_field k e.value (fields_of es)

abbrev pub IsPosition : List ℕ → List Entry → Result ℕ ℕ → Type 0
IsPosition k es r = MatchResult r (Stands k es) (Lacks k es)
