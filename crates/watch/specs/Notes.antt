-- What a reader is told beside the answers.
use Rattle.std.specs.Prelude.{ℕ, List, ◌++◌, codes}
use Rattle.path_tree.specs.Paths.{path_text}
use Rattle.path_tree.specs.declared.path.Path.{Path}

-- `NAME read OBJECT:PATH, where another value stands now`
abbrev pub another_value : List ℕ → Path → List ℕ
another_value name path =
    name ++ codes " read " ++ path_text path ++ codes ", where another value stands now\n"
