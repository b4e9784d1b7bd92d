-- What each filling keeps from the store before it to the store that it leaves: a relation that
-- every store has to itself, that goes on, and that each put of a default keeps.
use Rattle.std.proofs.Common.{◌≡◌, refl, ℕ, zero, suc, ◌+◌, ◌++◌, Bool, true, false, cond, List, [], ◌∷◌, Option, Some, None, Result, Ok, Err}
use Rattle.path_tree.specs.Plain.{Plain, dict, Fields as Values, no_fields, field}
use Rattle.path_tree.specs.Children.{child_fields, child_items}
use Rattle.path_tree.specs.Find.{get, item_count}
use Rattle.path_tree.specs.Put.{put}
use Rattle.path_tree.specs.declared.path.PutError.{PutError}
use Rattle.path_tree.specs.declared.path.PutError.TheVariants.{TooLarge, TooHigh}
use Rattle.path_tree.specs.declared.path.Term.{Term}
use Rattle.path_tree.specs.declared.path.Term.TheVariants as term
use Rattle.pan_ast.specs.declared.place.Place.{Place}
use Rattle.questions.specs.Contents.{Answers}
use Rattle.questions.specs.Run.{Meter, Outcome, Done, Returned, Failed, Asks, then, ◌>>=◌, stepped}
use Rattle.type_defs.specs.Bindings.{Bound}
use Rattle.type_defs.specs.Resolved.{Resolved, Known, Shape, OfBase, Named, Ranged, ListOf, DictOf, Link, Record, Choice, Fields, none, more}
use Rattle.defaults.specs.Filled.{Store, Fill, leave, default_change, is_missing, put_end, defaulted, items_filled, values_filled, where_dict, visit, visited, filled, filled_inside, fields_filled, all_filled}

-- the store after a default was put
abbrev pub with_default : Place → List Term → Plain → Store → Plain → Store
with_default p ms d s t = record { tree = t; log = s.log ++ default_change p ms d ∷ [] }

module _ (R : Store → Store → Type 0) (same : (s : Store) → R s s)
    (twice : (s t u : Store) → R s t → R t u → R s u)
    (puts : (p : Place) (ms : List Term) (d : Plain) (s : Store) (t : Plain) → put ms d s.tree
    ≡ Ok t → R s (with_default p ms d s t)) where
  -- the store before has the relation to what the run leaves, where it comes to its end
  abbrev pub KeptFrom : Store → Outcome Store (Unit {0}) → Type 0
  KeptFrom s (Done x t m) = R s t
  KeptFrom s (Returned u t m) = R s t
  KeptFrom s _ = Unit {0}

  abbrev Keeps : Fill → Type 0
  Keeps f = (o : Answers) (s : Store) (m : Meter) → KeptFrom s (f o s m)

  kept_on : (z : Outcome Store (Unit {0})) (s t : Store) → R s t → KeptFrom t z → KeptFrom s z
  kept_on (Done x u m) s t h k = twice s t u h k
  kept_on (Returned u v m) s t h k = twice s t v h k
  kept_on (Failed d m) s t h k = tt
  kept_on (Asks q m) s t h k = tt

  kept_then : (z : Outcome Store (Unit {0})) (f : Fill) (o : Answers) (s : Store) → KeptFrom s z
      → Keeps f → KeptFrom s (then z (λ _. f o))
  kept_then (Done x t m) f o s h k = kept_on (f o t m) s t h (k o t m)
  kept_then (Returned t v m) f o s h k = h
  kept_then (Failed d m) f o s h k = tt
  kept_then (Asks q m) f o s h k = tt

  keeps_then : (f g : Fill) → Keeps f → Keeps g → Keeps (f >>= (λ _. g))
  keeps_then f g h k o s m = kept_then (f o s m) g o s (h o s m) k

  keeps_leave : Keeps leave
  keeps_leave o s m = same s

  kept_step : (p : Place) (b : Bool) (s : Store) (m : Meter) → KeptFrom s (stepped b p s m)
  kept_step p true s m = tt
  kept_step p false s m = same s

  keeps_visit : (p : Place) → Keeps (visit p)
  unfolding visit
  keeps_visit p o s m = kept_step p _ s m

  kept_put : (p : Place) (ms : List Term) (d : Plain) (s : Store) (r : Result Plain PutError)
      (o : Answers) (m : Meter) → put ms d s.tree ≡ r → KeptFrom s (put_end p ms d s.log r o s m)
  kept_put p ms d s (Ok t) o m is = puts p ms d s t is
  kept_put p ms d s (Err TooLarge) o m is = tt
  kept_put p ms d s (Err TooHigh) o m is = tt
  kept_put p ms d s (Err _) o m is = same s

  kept_cond : (b : Bool) (f g : Fill) (o : Answers) (s : Store) (m : Meter) → KeptFrom s (f o s m)
      → KeptFrom s (g o s m) → KeptFrom s (cond b f g o s m)
  kept_cond true f g o s m h k = h
  kept_cond false f g o s m h k = k

  keeps_default : (p : Place) (d : Option Plain) (ms : List Term) → Keeps (defaulted p d ms)
  unfolding defaulted
  keeps_default p None ms o s m = same s
  keeps_default p (Some d) ms o s m =
      kept_cond (is_missing (get ms s.tree)) (put_end p ms d s.log (put ms d s.tree)) leave o s m
      (kept_put p ms d s (put ms d s.tree) o m refl) (same s)

  keeps_items : (f : List Term → Fill) → ((ms : List Term) → Keeps (f ms))
      → (ms : List Term) (i n : ℕ) → Keeps (items_filled f ms i n)
  unfolding items_filled
  keeps_items f h ms i zero = keeps_leave
  keeps_items f h ms i (suc n) =
      keeps_then (f (ms ++ term.Index i ∷ [])) (items_filled f ms (i + 1) n)
      (h (ms ++ term.Index i ∷ [])) (keeps_items f h ms (i + 1) n)

  keeps_values : (f : List Term → Fill) → ((ms : List Term) → Keeps (f ms))
      → (ms : List Term) (fs : Values) → Keeps (values_filled f ms fs)
  unfolding values_filled
  keeps_values f h ms no_fields = keeps_leave
  keeps_values f h ms (field k v fs) =
      keeps_then (f (ms ++ term.Key k ∷ [])) (values_filled f ms fs) (h (ms ++ term.Key k ∷ []))
      (keeps_values f h ms fs)

  keeps_where : (v : Plain) (f : Fill) → Keeps f → Keeps (where_dict v f)
  keeps_where (dict fs) f h = h
  keeps_where _ f h = keeps_leave

  keeps_visited : (p : Place) (f : Plain → Fill) → ((v : Plain) → Keeps (f v)) → (x : Option Plain)
      → Keeps (visited p f x)
  keeps_visited p f h None = keeps_leave
  keeps_visited p f h (Some v) = keeps_then (visit p) (f v) (keeps_visit p) (h v)

  mutual
    pub keeps_filled : (p : Place) (t : Resolved) (ms : List Term) → Keeps (filled p t ms)
    keeps_filled p (Known s c template d) ms =
        keeps_then (defaulted p d ms) _ (keeps_default p d ms)
        (λ o t m. keeps_visited p (filled_inside p s ms) (keeps_inside p s ms) (get ms t.tree) o t
        m)

    keeps_inside : (p : Place) (s : Shape) (ms : List Term) (v : Plain)
        → Keeps (filled_inside p s ms v)
    keeps_inside p (OfBase b) ms v = keeps_leave
    keeps_inside p (Named t) ms v = keeps_filled p t ms
    keeps_inside p (Ranged t r) ms v = keeps_filled p t ms
    keeps_inside p (ListOf t r) ms v =
        keeps_items (filled p t) (keeps_filled p t) ms 0 (item_count (child_items v))
    keeps_inside p (DictOf t r) ms v =
        keeps_values (filled p t) (keeps_filled p t) ms (child_fields v)
    keeps_inside p (Link t) ms v = keeps_leave
    keeps_inside p (Record x fs) ms v = keeps_where v (fields_filled p fs ms) (keeps_fields p fs ms)
    keeps_inside p (Choice texts) ms v = keeps_leave

    keeps_fields : (p : Place) (fs : Fields) (ms : List Term) → Keeps (fields_filled p fs ms)
    keeps_fields p none ms = keeps_leave
    keeps_fields p (more k required t fs) ms =
        keeps_then (filled p t (ms ++ term.Key k ∷ [])) (fields_filled p fs ms)
        (keeps_filled p t (ms ++ term.Key k ∷ [])) (keeps_fields p fs ms)

  pub keeps_all : (bs : List Bound) → Keeps (all_filled bs)
  keeps_all [] = keeps_leave
  keeps_all (b ∷ bs) = keeps_then (filled b.place b.resolved b.terms) (all_filled bs)
      (keeps_filled b.place b.resolved b.terms) (keeps_all bs)
