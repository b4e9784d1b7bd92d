-- Whether two trees are equal.
use Rattle.std.specs.Prelude.{Bool, true, false, ◌&&◌, bytes_eq}
use Rattle.std.specs.Bool.{beq}
use Rattle.std.specs.Ordering.{int_eq}
use Rattle.path_tree.specs.Plain.{Plain, dict, list, text, long, boolean, undef, null, Items, no_items, item, Fields, no_fields, field}

abbrev mutual
  pub same_tree : Plain → Plain → Bool
  same_tree (dict fs) (dict gs) = same_fields fs gs
  same_tree (list ts) (list us) = same_items ts us
  same_tree (text bytes) (text others) = bytes_eq bytes others
  same_tree (long z) (long w) = int_eq z w
  same_tree (boolean a) (boolean b) = beq a b
  same_tree undef undef = true
  same_tree null null = true
  same_tree _ _ = false

  pub same_items : Items → Items → Bool
  same_items no_items no_items = true
  same_items (item t ts) (item u us) = same_tree t u && same_items ts us
  same_items _ _ = false

  pub same_fields : Fields → Fields → Bool
  same_fields no_fields no_fields = true
  same_fields (field k t fs) (field l u gs) = bytes_eq k l && same_tree t u && same_fields fs gs
  same_fields _ _ = false
