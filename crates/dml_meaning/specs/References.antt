-- Lists of items, and references: a name with indexes, as an argument is one.
use Rattle.std.specs.Prelude.{ℕ, List, [], ◌∷◌, ◌++◌, Option, Some, None, is_none, option_and_then, Bool, true, false, not, cond, ◌&&◌}
use Rattle.path_tree.specs.Plain.{Plain}
use Rattle.pan_ast.specs.declared.place.Place.{Place}
use Rattle.pan_ast.specs.declared.fault.Code.TheVariants as code
use Rattle.pan_ast.specs.Syntax.{Item, Node, Items, Reference, Plain as Chain, Refer, Name, Index, none, more}
use Rattle.questions.specs.Run.{◌>>=◌, give, step, now}
use Rattle.dml_meaning.specs.Run.{Run}
use Rattle.dml_meaning.specs.Around.{Around}
use Rattle.dml_meaning.specs.Indexes.{at_index}
use Rattle.dml_meaning.specs.Means.{Purpose, Reached, Means, ToRead, ToDelete, ToChange}
use Rattle.dml_meaning.specs.Names.{value_of, or_fail_about, no_indexes, may_change, root_of}

-- each item in turn: the last one's value
unfoldable pub block_from : Means → Around → Items → Plain → Run Plain
block_from go a none last = give last
block_from go a (more i is) last = do
  t ← go.opens a i
  block_from go a is t

-- the values of items after those that are done
unfoldable pub values_from : Means → Around → Items → List Plain → Run (List Plain)
values_from go a none done = give done
values_from go a (more i is) done = do
  t ← go.opens a i
  values_from go a is (done ++ t ∷ [])

-- what an index of a reference leads to, from what was reached so far
abbrev pub index_step : Place → Option Plain → Plain → Run (Option Plain)
index_step p t k = do
  _ ← step p
  give (option_and_then (at_index k) t)

-- the indexes of a reference after those that were looked at; all: also where they lead nowhere
unfoldable pub reach_from : Bool → Means → Around → Place → Items → List Plain → Option Plain
    → Run Reached
reach_from all go a p none ks t = give (record { keys = ks; value = t })
reach_from all go a p (more i is) ks t =
    cond (is_none t && not all) (give (record { keys = ks; value = t })) (do
      k ← go.opens a i
      u ← index_step p t k
      reach_from all go a p is (ks ++ k ∷ []) u)

abbrev pub is_change : Purpose → Bool
is_change ToChange = true
is_change _ = false

-- where the indexes start from; a call that deletes, at q, wants a name that may be changed, and
-- one that is there
abbrev pub start_run : Around → Purpose → List ℕ → Bool → Run (Option Plain)
start_run a ToRead x whole = now >>= (λ e. give (value_of a x e))
start_run a ToChange x whole = now >>= (λ e. give (root_of e x))
start_run a (ToDelete q) x whole = do
  _ ← may_change a q x whole
  e ← now
  t ← or_fail_about code.NoVariable q x (root_of e x)
  give (Some t)

-- the name of a reference
abbrev pub started : Around → Purpose → Reference → Run (Option Plain)
started a w (Refer p x is) = do
  _ ← step p
  start_run a w x (no_indexes is)

unfoldable pub reach_run : Means → Around → Purpose → Reference → Run Reached
reach_run go a w (Refer p x is) =
    started a w (Refer p x is) >>= reach_from (is_change w) go a p is []

abbrev pub reference_on : Node → Items → Option Reference
reference_on (Name p x) is = Some (Refer p x is)
reference_on (Index p n i) is = reference_on n (more i is)
reference_on _ is = None

-- the reference that an argument is, where it is written as one
abbrev pub reference_in : Item → Option Reference
reference_in (Chain p n) = reference_on n none
reference_in _ = None
