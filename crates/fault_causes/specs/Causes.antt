-- What is known of what stands at a path of an object: the value, and who set it.
use Rattle.std.specs.Prelude.{ℕ, zero, suc, List, [], ◌∷◌, take, length, Option, Some, None, option_map, Ok, Err, string_bytes}
use Rattle.path_tree.specs.Find.{get}
use Rattle.path_tree.specs.declared.path.Term.{Term}
use Rattle.json_profile.specs.Json.{json_text_of}
use Rattle.pan_blame.specs.Blamed.{Blame, blamed, leaf_seen}
use Rattle.runner.specs.declared.ends.Built.{Built}
use Rattle.runner.specs.Ends.{End}
use Rattle.runner.specs.Meaning.{Logged, Meaning}
use Rattle.fault_causes.specs.declared.causes.Cause.{Cause}

-- what the build made, the value at the path as JSON, and the leaf that tells who set it
pub record Known (T : Type 0) : Type 0 where
  pub built : Built T
  pub value : Option (List ℕ)
  pub setter : Option Blame

abbrev pub cause_seen : {T : Type 0} → Cause T → Known T
cause_seen c = record {
  built = c.built;
  value = option_map string_bytes c.value;
  setter = option_map leaf_seen c.setter;
}

abbrev pub first_leaf : Option (List Blame) → Option Blame
first_leaf None = None
first_leaf (Some []) = None
first_leaf (Some (leaf ∷ leaves)) = Some leaf

-- the first leaf at or below a path
abbrev pub setter_at : Logged → List Term → Option Blame
setter_at l terms = first_leaf (blamed l.header l.changes terms)

abbrev pub or_else : Option Blame → Option Blame → Option Blame
or_else None other = other
or_else (Some leaf) other = Some leaf

-- .. of the parts of a path that are shorter than its first n terms, of the longest where something
-- is
abbrev pub setter_above : Logged → List Term → ℕ → Option Blame
setter_above l terms zero = None
setter_above l terms (suc n) = or_else (setter_at l (take n terms)) (setter_above l terms n)

-- .. of the path's first n terms, or where nothing is there, above them
abbrev pub setter_within : Logged → List Term → ℕ → Option Blame
setter_within l terms n = or_else (setter_at l (take n terms)) (setter_above l terms n)

-- nothing where nothing is told of how the tree was made
abbrev pub setter_of : Option Logged → List Term → Option Blame
setter_of None terms = None
setter_of (Some l) terms = setter_within l terms (length terms)

-- of what a build gives; a fault has none
abbrev pub cause_in : {T : Type 0} → Meaning T → End T → List Term → Option (Known T)
cause_in m (Err fault) terms = None
cause_in m (Ok b) terms = Some (record {
  built = b;
  value = option_map json_text_of (get terms b.tree);
  setter = setter_of (m.log b.rest) terms;
})
