-- References as arguments, as the code holds them.
use Rattle.std.specs.Prelude.{◌≡◌, Bool, true, false, List, [], ◌∷◌, map, Option, Some, None, option_map}
use Rattle.std.specs.Borrow.{Bor}
use Rattle.pan_ast.specs.declared.syntax.Item.{Item as RItem}
use Rattle.pan_ast.specs.declared.place.Place.{Place}
use Rattle.pan_ast.specs.Seen.{item_seen, node_seen, step_seen}
use Rattle.pan_ast.specs.Syntax.{Items, none, more, Node, Name, Index, Reference, Refer, Step, AtIndex, stepped, steps_on}
use Rattle.dml_meaning.specs.Means as plain
use Rattle.dml_leaves.specs.declared.references.Argument.{Argument}
use Rattle.dml_leaves.specs.declared.references.Reached.{Reached}
use Rattle.dml_leaves.specs.declared.references.Front.{Front}
use Rattle.dml_leaves.specs.declared.references.Front.TheVariants as front
use Rattle.dml_leaves.specs.declared.starting.Purpose.{Purpose}
use Rattle.dml_leaves.specs.declared.starting.Purpose.TheVariants as purpose

-- indexes, the last of which stands first, in front of others
abbrev pub indexes_back : List (Bor RItem) → Items → Items
indexes_back [] is = is
indexes_back (i ∷ back) is = indexes_back back (more (item_seen i.now) is)

abbrev pub argument_of : Argument → Reference
argument_of a = Refer a.place.now a.name.now (indexes_back a.indexes.items none)

abbrev pub reached_of : Reached → plain.Reached
reached_of r = record { keys = r.keys.items; value = r.value }

abbrev pub purpose_of : Purpose → plain.Purpose
purpose_of purpose.Read = plain.ToRead
purpose_of (purpose.Delete p) = plain.ToDelete p.now
purpose_of purpose.Change = plain.ToChange

-- the indexes that steps are, in front of others
abbrev pub indexed : List Step → Items → Option Items
indexed [] is = Some is
indexed (AtIndex i ∷ ss) is = option_map (more i) (indexed ss is)
indexed (s ∷ ss) is = None

abbrev pub is_lone : Items → Bool
is_lone (more i none) = true
is_lone _ = false

abbrev pub is_pair : Items → Bool
is_pair (more i (more j none)) = true
is_pair _ = false

abbrev pub is_index : Step → Bool
is_index (AtIndex i) = true
is_index s = false

-- what is no reference, whatever indexes stand behind it
abbrev pub is_no_reference : Node → Bool
is_no_reference (Name p x) = false
is_no_reference (Index p x i) = false
is_no_reference n = true

-- a node is a name, a chain, or no reference
abbrev pub IsFront : Node → Place → Front → Type 0
IsFront n p (front.Name x) = n ≡ Name p x.now
IsFront n p (front.Chain x s ss) =
    n ≡ steps_on p (stepped p (node_seen x.now) (step_seen s.now)) (map step_seen ss.now)
IsFront n p front.Other = is_no_reference n ≡ true
