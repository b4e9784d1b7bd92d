-- A log with one change more.
use Rattle.std.proofs.Common.{◌≡◌, ◌∙◌, ap, refl, subst, Bool, true, false, not, List, [], ◌∷◌, ◌++◌, Option, Some, None, Result, Ok, Err, if◌then◌else◌}
use Rattle.path_tree.specs.Plain.{Plain, dict, no_fields}
use Rattle.path_tree.specs.Lists.{is_null}
use Rattle.path_tree.specs.Put.{put}
use Rattle.path_tree.specs.Remove.{remove}
use Rattle.path_tree.specs.declared.path.Term.{Term}
use Rattle.path_tree.specs.declared.path.PutError.{PutError}
use Rattle.pan_ast.specs.declared.change.Change.{Change}
use Rattle.pan_ast.specs.declared.place.Place.{Place}
use Rattle.assign_rules.specs.declared.profile.AssignError.TheVariants as error
use Rattle.assign_rules.specs.Profiles.{IsLogOf, ProfileValue, assigned, change_at, goes_on, is_no_root, may_assign, put_into, replayed, replayed_value, with_change, with_final, with_tree}

goes_twice : (f g h : Plain → Result Plain PutError) (r : Result Plain PutError)
    → ((t : Plain) → h t ≡ goes_on g (f t)) → goes_on h r ≡ goes_on g (goes_on f r)
goes_twice f g h (Ok t) e = e t
goes_twice f g h (Err x) e = refl

pub replayed_more : (log : List Change) (c : Change) (t : Plain) → replayed (log ++ c ∷ []) t
    ≡ goes_on (replayed_value c.terms c.value) (replayed log t)
replayed_more [] c t = last (replayed_value c.terms c.value t)
  where
    last : (r : Result Plain PutError) → goes_on (replayed []) r ≡ r
    last (Ok u) = refl
    last (Err x) = refl
replayed_more (d ∷ log) c t =
    goes_twice (replayed log) (replayed_value c.terms c.value) (replayed (log ++ c ∷ []))
    (replayed_value d.terms d.value t) (replayed_more log c)

change_replays : (terms : List Term) (value tree : Plain) (b : Bool)
    → replayed_value terms (if b then None else Some value) tree
    ≡ (if b then Ok (remove terms tree) else put terms value tree)
change_replays terms value tree true = refl
change_replays terms value tree false = refl

tree_replays : (place : Place) (terms : List Term) (last : Bool) (value : Plain)
    (old new : ProfileValue) (r : Result Plain PutError)
    → replayed_value terms (change_at place terms value).value old.tree ≡ r
    → with_tree place terms last value old (put_into r) ≡ Ok new → IsLogOf old.log old.tree
    → IsLogOf new.log new.tree
tree_replays place terms last value old new (Err e) made is log = absurd cc
tree_replays place terms last value old new (Ok tree) made is log =
    let same : record {
      tree = tree;
      finals = with_final terms last old.finals;
      log =
          old.log ++ change_at place terms value ∷ [];
    } ≡ new = cc in
    subst (λ (p : ProfileValue). IsLogOf p.log p.tree) same
    (replayed_more old.log (change_at place terms value) (dict no_fields)
    ∙ ap (goes_on (replayed_value terms (change_at place terms value).value)) log ∙ made)

allowed : {X E : Type 0} → (e f : E) (r : Result X E) (x : X) (b c : Bool)
    → (if b then Err e else (if c then Err f else r)) ≡ Ok x → r ≡ Ok x
allowed e f r x true c is = absurd cc
allowed e f r x false true is = absurd cc
allowed e f r x false false is = is

-- an assignment keeps that the log gives the tree
pub assigned_replays : (place : Place) (terms : List Term) (last : Bool) (value : Plain)
    (old new : ProfileValue) → assigned place terms last value old ≡ Ok new
    → IsLogOf old.log old.tree → IsLogOf new.log new.tree
assigned_replays place terms last value old new is log =
    tree_replays place terms last value old new (with_change terms value old.tree)
    (change_replays terms value old.tree (is_null value))
    (allowed error.Final error.NotDict (with_tree place terms last value old
    (put_into (with_change terms value old.tree))) new (not (may_assign old.finals terms))
    (is_no_root terms value) is) log
