-- What kind a value is of, and what a range says of it.
use Rattle.std.specs.Prelude.{ℕ, ℤ, pos, Bool, true, false, not, ◌&&◌, ◌==◌, int_le, if◌then◌else◌, List, count_by, Option, Some, None, Result, Ok, Err}
use Rattle.std.specs.List.{list_any}
use Rattle.std.specs.Cmp.Lexicographic.{pointwise}
use Rattle.path_tree.specs.Plain.{Plain, dict, list, text, long, Items, Fields as Values}
use Rattle.path_tree.specs.Find.{item_count, field_count}
use Rattle.path_tree.specs.Paths.{path_of}
use Rattle.path_tree.specs.declared.kind.Kind.{Kind}
use Rattle.path_tree.specs.declared.kind.Kind.TheVariants as kind
use Rattle.path_tree.specs.declared.path.Path.{Path}
use Rattle.path_tree.specs.declared.path.PathError.{PathError}
use Rattle.path_tree.specs.declared.path.Anchor.{Anchor}
use Rattle.path_tree.specs.declared.path.Anchor.TheVariants as anchor
use Rattle.pan_ast.specs.Detail.{is_continuation}
use Rattle.type_defs.specs.declared.resolved.Base.{Base}
use Rattle.type_defs.specs.declared.resolved.Base.TheVariants as base
use Rattle.type_defs.specs.declared.resolved.Range.{Range}

-- whether a value of a kind is of a type that the language gives
abbrev pub is_of : Base → Kind → Bool
is_of base.Text kind.Text = true
is_of base.Long kind.Long = true
is_of base.Boolean kind.Bool = true
is_of base.Number kind.Long = true
is_of base.Property kind.Text = true
is_of base.Property kind.Long = true
is_of base.Property kind.Bool = true
is_of base.Resource kind.Dict = true
is_of base.Resource kind.List = true
is_of base.Element k = true
is_of base.List kind.List = true
is_of base.Dict kind.Dict = true
is_of b k = false

abbrev pub at_least : Option ℤ → ℤ → Bool
at_least None z = true
at_least (Some low) z = int_le low z

abbrev pub at_most : Option ℤ → ℤ → Bool
at_most None z = true
at_most (Some high) z = int_le z high

abbrev pub is_within : Range → ℤ → Bool
is_within r z = at_least r.low z && at_most r.high z

-- how many characters a text has
abbrev pub char_count : List ℕ → ℕ
char_count bs = count_by (λ b. not (is_continuation b)) bs

-- whether a value is in range: a long by value, a text by characters, a list or a dict by items
abbrev pub is_in : Range → Plain → Bool
is_in r (long z) = is_within r z
is_in r (text bs) = is_within r (pos (char_count bs))
is_in r (list ts) = is_within r (pos (item_count ts))
is_in r (dict fs) = is_within r (pos (field_count fs))
is_in r v = false

abbrev pub is_among : List ℕ → List (List ℕ) → Bool
is_among bs texts = list_any (pointwise ◌==◌ bs) texts

abbrev pub is_rooted : Anchor → Bool
is_rooted anchor.Absolute = true
is_rooted anchor.Relative = false
is_rooted (anchor.External name) = true

abbrev pub rooted : Path → Option Path
rooted p = if is_rooted p.anchor then Some p else None

abbrev pub rooted_path : Result Path PathError → Option Path
rooted_path (Ok p) = rooted p
rooted_path (Err e) = None

-- the path that a value is: a text that is an absolute or external path
abbrev pub link_path : Plain → Option Path
link_path (text bs) = rooted_path (path_of bs)
link_path v = None

abbrev pub items_in : Plain → Option Items
items_in (list ts) = Some ts
items_in v = None

abbrev pub fields_in : Plain → Option Values
fields_in (dict fs) = Some fs
fields_in v = None
