-- The children of a tree as a list.
use Rattle.std.specs.Prelude.{List, [], ◌∷◌}
use Rattle.path_tree.specs.Plain.{Plain, dict, list, text, long, boolean, undef, null, Fields, no_fields, field}
use Rattle.path_tree.specs.Lists.{items_in}

abbrev pub values_in : Fields → List Plain
values_in no_fields = []
values_in (field k t fs) = t ∷ values_in fs

-- the items of a list, the values of a dict in byte order of their keys
abbrev pub children : Plain → List Plain
children (list ts) = items_in ts
children (dict fs) = values_in fs
children (text bytes) = []
children (long z) = []
children (boolean b) = []
children undef = []
children null = []
