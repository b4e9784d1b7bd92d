-- The indexes of a reference, one more.
use Rattle.std.proofs.Common.{◌≡◌, ◌∙◌, ap, refl, Bool, true, false, not, ◌&&◌, List, [], ◌∷◌, ◌++◌, length, Option, is_none, arith}
use Rattle.std.specs.Borrow.{Bor}
use Rattle.path_tree.specs.Plain.{Plain}
use Rattle.pan_ast.specs.declared.place.Place.{Place}
use Rattle.pan_ast.specs.declared.syntax.Item.{Item as RItem}
use Rattle.pan_ast.specs.Seen.{item_seen}
use Rattle.pan_ast.specs.Syntax.{Items, none, more}
use Rattle.questions.specs.Contents.{Answers}
use Rattle.questions.specs.Run.{Meter, Done, then, ◌>>=◌}
use Rattle.dml_meaning.specs.Run.{Env}
use Rattle.dml_meaning.specs.Around.{Around}
use Rattle.dml_meaning.specs.Means.{Means}
use Rattle.dml_meaning.specs.References.{index_step, reach_from}
use Rattle.dml_leaves.specs.References.{indexes_back}
use Rattle.dml_leaves.proofs.Indexed.{back_more}

-- where more indexes are looked at
pub reach_more : (all : Bool) (go : Means) (a : Around) (p : Place) (js : List (Bor RItem))
    (i : Bor RItem) (ks : List Plain) (t : Option Plain) (o : Answers) (e : Env) (m : Meter)
    → (is_none t && not all) ≡ false → reach_from all go a p (indexes_back (js ++ i ∷ []) none) ks t
    o e m ≡ then (go.opens a (item_seen i.now) o e m)
    (λ k. (index_step p t k >>= (λ u. reach_from all go a p (indexes_back js none) (ks ++ k ∷ [])
    u)) o)
unfolding reach_from
reach_more all go a p js i ks t o e m c =
    ap (λ xs. reach_from all go a p xs ks t o e m) (back_more js i none)
    ∙ rw c refl

stops_here : (all : Bool) (go : Means) (a : Around) (p : Place) (is : Items) (ks : List Plain)
    (t : Option Plain) (o : Answers) (e : Env) (m : Meter) → (is_none t && not all) ≡ true
    → reach_from all go a p is ks t o e m ≡ Done (record { keys = ks; value = t }) e m
unfolding reach_from
stops_here all go a p none ks t o e m c = refl
stops_here all go a p (more i is) ks t o e m c = rw c refl

-- where no more are
pub reach_stops : (all : Bool) (go : Means) (a : Around) (p : Place) (is : List (Bor RItem))
    (ks : List Plain) (t : Option Plain) (o : Answers) (e : Env) (m : Meter)
    → (is_none t && not all) ≡ true → reach_from all go a p (indexes_back is none) ks t o e m
    ≡ Done (record { keys = ks; value = t }) e m
reach_stops all go a p is ks t o e m c = stops_here all go a p (indexes_back is none) ks t o e m c

-- and where there is none
pub reach_end : (all : Bool) (go : Means) (a : Around) (p : Place) (is : List (Bor RItem))
    (ks : List Plain) (t : Option Plain) (o : Answers) (e : Env) (m : Meter) → length is ≡ 0
    → reach_from all go a p (indexes_back is none) ks t o e m
    ≡ Done (record { keys = ks; value = t }) e m
unfolding reach_from
reach_end all go a p [] ks t o e m h = refl
reach_end all go a p (i ∷ is) ks t o e m h = absurd (omega arith)

pub ruleset reaches = (reach_more, reach_stops, reach_end)
