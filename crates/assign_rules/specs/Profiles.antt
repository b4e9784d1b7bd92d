-- The tree of an object while its statements run, and what an assignment makes of it.
use Rattle.std.specs.Prelude.{◌≡◌, ℕ, Bool, true, false, not, ◌&&◌, ◌||◌, List, [], ◌∷◌, ◌++◌, Option, Some, None, Result, Ok, Err, if◌then◌else◌}
use Rattle.std.specs.List.{list_any}
use Rattle.path_tree.specs.Plain.{Plain, dict, undef, null, no_fields}
use Rattle.path_tree.specs.Find.{get, kind_of}
use Rattle.path_tree.specs.Lists.{is_null}
use Rattle.path_tree.specs.Put.{put}
use Rattle.path_tree.specs.Remove.{remove}
use Rattle.path_tree.specs.declared.path.Term.{Term}
use Rattle.path_tree.specs.declared.path.PutError.{PutError}
use Rattle.pan_ast.specs.declared.change.Change.{Change}
use Rattle.pan_ast.specs.declared.place.Place.{Place}
use Rattle.questions.specs.Keys.{term_eq}
use Rattle.assign_rules.specs.declared.profile.AssignError.{AssignError}
use Rattle.assign_rules.specs.declared.profile.AssignError.TheVariants as error

pub record ProfileValue : Type 0 where
  pub tree : Plain
  -- the paths that no later assignment may change
  pub finals : List (List Term)
  -- each change that was made, in order
  pub log : List Change

-- whether a path begins with another one, or is it
abbrev pub begins_with : List Term → List Term → Bool
begins_with terms [] = true
begins_with [] (p ∷ prefix) = false
begins_with (t ∷ terms) (p ∷ prefix) = term_eq t p && begins_with terms prefix

-- one of two paths stands at or above the other
abbrev pub are_in_line : List Term → List Term → Bool
are_in_line a b = begins_with a b || begins_with b a

-- nothing at, above or below a final path is assigned again
abbrev pub may_assign : List (List Term) → List Term → Bool
may_assign finals terms = not (list_any (are_in_line terms) finals)

-- a value other than undef
abbrev pub is_value : Option Plain → Bool
is_value None = false
is_value (Some undef) = false
is_value (Some t) = true

abbrev pub is_set : Plain → List Term → Bool
is_set tree terms = is_value (get terms tree)

-- null removes
abbrev pub with_change : List Term → Plain → Plain → Result Plain PutError
with_change terms value tree =
    if is_null value then Ok (remove terms tree) else put terms value tree

-- the whole tree is a dict
abbrev pub is_no_root : List Term → Plain → Bool
is_no_root [] (dict fs) = false
is_no_root [] value = true
is_no_root (t ∷ terms) value = false

abbrev pub with_final : List Term → Bool → List (List Term) → List (List Term)
with_final terms last finals = if last then finals ++ terms ∷ [] else finals

-- what an assignment at this place writes into the log
abbrev pub change_at : Place → List Term → Plain → Change
change_at place terms value = record {
  terms = terms;
  value = if is_null value then None else Some value;
  place = place;
  default = false;
}

-- the refusals of a put, as those of an assignment
abbrev pub put_into : Result Plain PutError → Result Plain AssignError
put_into (Ok tree) = Ok tree
put_into (Err e) = Err (error.Put e)

abbrev pub with_tree : Place → List Term → Bool → Plain → ProfileValue → Result Plain AssignError
    → Result ProfileValue AssignError
with_tree place terms last value profile (Err e) = Err e
with_tree place terms last value profile (Ok tree) = Ok (record {
  tree = tree;
  finals = with_final terms last profile.finals;
  log = profile.log ++ change_at place terms value ∷ [];
})

-- an assignment, by a statement at this place; last: the path is final from then on, also where the
-- value was null
abbrev pub assigned : Place → List Term → Bool → Plain → ProfileValue
    → Result ProfileValue AssignError
assigned place terms last value profile =
    if not (may_assign profile.finals terms) then Err error.Final else
    (if is_no_root terms value then Err error.NotDict else
    with_tree place terms last value profile (put_into (with_change terms value profile.tree)))

-- want of memory is no refusal of the definition's
abbrev pub assign_refusal : AssignError → Option AssignError
assign_refusal error.Memory = None
assign_refusal e = Some e

-- what a change of the log makes of a tree
abbrev pub replayed_value : List Term → Option Plain → Plain → Result Plain PutError
replayed_value terms None tree = Ok (remove terms tree)
replayed_value terms (Some value) tree = put terms value tree

abbrev pub goes_on : (Plain → Result Plain PutError) → Result Plain PutError → Result Plain PutError
goes_on next (Ok tree) = next tree
goes_on next (Err e) = Err e

-- what the changes of a log make of a tree, in order
abbrev pub replayed : List Change → Plain → Result Plain PutError
replayed [] tree = Ok tree
replayed (c ∷ log) tree = goes_on (replayed log) (replayed_value c.terms c.value tree)

-- the log, from an empty dict on, gives the tree
abbrev pub IsLogOf : List Change → Plain → Type 0
IsLogOf log tree = replayed log (dict no_fields) ≡ Ok tree
