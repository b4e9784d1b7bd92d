-- The parts of a value that are filled, one after the other.
use Rattle.std.proofs.Common.{◌≡◌, ◌≤◌, ℕ, suc, ◌+◌, ◌-◌, ◌<◌, List, [], ◌∷◌, ◌++◌, Option, Some, None, length, drop, get_or, Err, refl, ap, subst, sym, ◌∙◌, arith}
use Rattle.std.proofs.lemmas.List.{drop_more}
use Rattle.path_tree.specs.Plain.{Plain, dict, list, text, long, boolean, undef, null}
use Rattle.path_tree.specs.Children.{child_fields, fields_from}
use Rattle.path_tree.specs.Find.{child_at, child_count, key_at, kind_of}
use Rattle.path_tree.specs.declared.kind.Kind.TheVariants as kind
use Rattle.path_tree.specs.declared.path.Term.{Term}
use Rattle.path_tree.specs.declared.path.Term.TheVariants as term
use Rattle.path_tree.proofs.Children.{all_fields, dict_child, dict_end, dict_key, dict_step}
use Rattle.pan_ast.specs.declared.place.Place.{Place}
use Rattle.questions.specs.Contents.{Answers}
use Rattle.questions.specs.Run.{Meter, Outcome, Done, then}
use Rattle.questions.specs.Told.{LeavesAtMost}
use Rattle.pan_ast.specs.declared.failure.Failure.{Failure}
use Rattle.pan_ast.specs.declared.failure.Failure.TheVariants as failure
use Rattle.dml_meaning.proofs.Leaving.{then_leaves}
use Rattle.type_defs.specs.declared.bindings.Bound.{Bound as RBound}
use Rattle.type_defs.specs.declared.resolved.RecordField.{RecordField as RField}
use Rattle.type_defs.specs.BindingsSeen.{bound_seen, bounds_seen}
use Rattle.type_defs.specs.Resolved.{fields_of}
use Rattle.type_defs.specs.ResolvedSeen.{field_seen}
use Rattle.type_defs.specs.Tables.{all_seen}
use Rattle.defaults.specs.Filled.{Store, Fill, all_filled, fields_filled, filled, items_filled, values_filled, where_dict}
use Rattle.defaults.specs.Fills.{Comes}
use Rattle.defaults.specs.Steps.{entry_filled}
use Rattle.defaults.proofs.Lawful.{all_leave, fields_leave}

module _ (f : List Term → Fill) (ms : List Term) (o : Answers) (s : Store) (m : Meter) where
  pub items_more : (i n : ℕ) → i < n → items_filled f ms i (n - i) o s m
      ≡ then (f (ms ++ term.Index i ∷ []) o s m) (λ _. items_filled f ms (i + 1) (n - (i + 1)) o)
  unfolding items_filled
  items_more i n h = let next : n - i ≡ suc (n - (i + 1)) = omega arith in rw next refl

  pub items_end : (i n : ℕ) → n ≤ i → items_filled f ms i (n - i) o s m ≡ Done tt s m
  unfolding items_filled
  items_end i n h = let done : n - i ≡ 0 = omega arith in rw done refl

  one_value : (i : ℕ) (v : Plain) (k : Option (List ℕ)) (c : Option Plain) → kind_of v ≡ kind.Dict
      → i < child_count v → key_at i v ≡ k → child_at i v ≡ c
      → values_filled f ms (fields_from i v) o s m ≡ then (entry_filled f ms k o s m)
      (λ _. values_filled f ms (fields_from (i + 1) v) o)
  unfolding values_filled entry_filled
  one_value i v None c is within key child = absurd (dict_key v i is within key)
  one_value i v (Some k) None is within key child = absurd (dict_child v i is within child)
  one_value i v (Some k) (Some c) is within key child =
      ap (λ fs. values_filled f ms fs o s m) (dict_step v i k c is key child)

  pub values_more : (i : ℕ) (v : Plain) → kind_of v ≡ kind.Dict → i < child_count v
      → values_filled f ms (fields_from i v) o s m ≡ then (entry_filled f ms (key_at i v) o s m)
      (λ _. values_filled f ms (fields_from (i + 1) v) o)
  values_more i v is within = one_value i v (key_at i v) (child_at i v) is within refl refl

  -- the value of the i-th key is filled, and those after it are left
  pub values_on : (i : ℕ) (v : Plain) (t : Store) (n : Meter) (ps : List Term) → kind_of v
      ≡ kind.Dict → i < child_count v → ps ≡ ms → entry_filled f ps (key_at i v) o s m ≡ Done tt t n
      → values_filled f ms (fields_from i v) o s m ≡ values_filled f ms (fields_from (i + 1) v) o t
      n
  values_on i v t n ps is within same first =
      let here = subst (λ qs. entry_filled f qs (key_at i v) o s m ≡ Done tt t n) same first in
      values_more i v is within
      ∙ ap (λ z. then z (λ _. values_filled f ms (fields_from (i + 1) v) o)) here

  pub values_end : (i : ℕ) (v : Plain) → kind_of v ≡ kind.Dict → i ≡ child_count v
      → values_filled f ms (fields_from i v) o s m ≡ Done tt s m
  unfolding values_filled
  values_end i v is end = ap (λ fs. values_filled f ms fs o s m) (dict_end v i is end)

  pub no_values : (v : Plain) → (kind_of v ≡ kind.Dict → ⊥)
      → values_filled f ms (child_fields v) o s m ≡ Done tt s m
  unfolding values_filled
  no_values (dict fs) h = absurd (h refl)
  no_values (list ts) h = refl
  no_values (text bs) h = refl
  no_values (long z) h = refl
  no_values (boolean b) h = refl
  no_values undef h = refl
  no_values null h = refl

pub values_start : (v : Plain) → fields_from 0 v ≡ child_fields v
values_start v = all_fields (child_fields v)

pub no_record : (v : Plain) (f : Fill) (o : Answers) (s : Store) (m : Meter)
    → (kind_of v ≡ kind.Dict → ⊥) → where_dict v f o s m ≡ Done tt s m
no_record (dict fs) f o s m h = absurd (h refl)
no_record (list ts) f o s m h = refl
no_record (text bs) f o s m h = refl
no_record (long z) f o s m h = refl
no_record (boolean b) f o s m h = refl
no_record undef f o s m h = refl
no_record null f o s m h = refl

pub a_record : (v : Plain) (f : Fill) (o : Answers) (s : Store) (m : Meter) → kind_of v ≡ kind.Dict
    → where_dict v f o s m ≡ f o s m
a_record (dict fs) f o s m h = refl
a_record (list ts) f o s m h = cc
a_record (text bs) f o s m h = cc
a_record (long z) f o s m h = cc
a_record (boolean b) f o s m h = cc
a_record undef f o s m h = cc
a_record null f o s m h = cc

pub fields_more : (p : Place) (fs : List RField) (i : ℕ) (f : RField) (ms : List Term) (o : Answers)
    (s : Store) (m : Meter) → i < length fs → f ≡ get_or fs i f
    → fields_filled p (fields_of (all_seen (drop i fs))) ms o s m
    ≡ then (filled p (field_seen f).resolved (ms ++ term.Key (field_seen f).key ∷ []) o s m)
    (λ _. fields_filled p (fields_of (all_seen (drop (i + 1) fs))) ms o)
fields_more p fs i f ms o s m h is =
    ap (λ r. fields_filled p (fields_of (all_seen r)) ms o s m)
    (drop_more fs i f h ∙ ap (λ r. r ∷ drop (i + 1) fs) (sym is))

pub bounds_more : (bs : List RBound) (i : ℕ) (b : RBound) (o : Answers) (s : Store) (m : Meter)
    → i < length bs → b ≡ get_or bs i b → all_filled (bounds_seen (drop i bs)) o s m
    ≡ then (filled (bound_seen b).place (bound_seen b).resolved (bound_seen b).terms o s m)
    (λ _. all_filled (bounds_seen (drop (i + 1) bs)) o)
bounds_more bs i b o s m h is =
    ap (λ r. all_filled (bounds_seen r) o s m) (drop_more bs i b h
    ∙ ap (λ r. r ∷ drop (i + 1) bs) (sym is))

-- an early end in front of more
comes_then : (x : Failure) (s : Store) (m : Meter) (z : Outcome Store (Unit {0}))
    (f : Unit {0} → Store → Meter → Outcome Store (Unit {0}))
    → ((u : Unit {0}) (t : Store) (n : Meter) → LeavesAtMost n.left (f u t n))
    → Comes {X = Unit {0}} (Err x) s m z → Comes {X = Unit {0}} (Err x) s m (then z f)
comes_then failure.Memory s m z f k h = then_leaves m.left z f k h
comes_then (failure.Fault d) s m z f k h = ap (λ w. then w f) h

pub fields_stop : (x : Failure) (p : Place) (fs : List RField) (i : ℕ) (f : RField) (ms : List Term)
    (o : Answers) (s t : Store) (m n : Meter) → i < length fs → f ≡ get_or fs i f
    → Comes {X = Unit {0}} (Err x) t n (filled p (field_seen f).resolved
    (ms ++ term.Key (field_seen f).key ∷ []) o s m) → Comes {X = Unit {0}} (Err x) t n
    (fields_filled p (fields_of (all_seen (drop i fs))) ms o s m)
fields_stop x p fs i f ms o s t m n h is k =
    rw (fields_more p fs i f ms o s m h is) (comes_then x t n
    (filled p (field_seen f).resolved (ms ++ term.Key (field_seen f).key ∷ []) o s m)
    (λ _. fields_filled p (fields_of (all_seen (drop (i + 1) fs))) ms o)
    (λ _. fields_leave p (fields_of (all_seen (drop (i + 1) fs))) ms o) k)

pub bounds_stop : (x : Failure) (bs : List RBound) (i : ℕ) (b : RBound) (o : Answers) (s t : Store)
    (m n : Meter) → i < length bs → b ≡ get_or bs i b
    → Comes {X = Unit {0}} (Err x) t n (filled (bound_seen b).place (bound_seen b).resolved
    (bound_seen b).terms o s m) → Comes {X = Unit {0}} (Err x) t n
    (all_filled (bounds_seen (drop i bs)) o s m)
bounds_stop x bs i b o s t m n h is k =
    rw (bounds_more bs i b o s m h is) (comes_then x t n
    (filled (bound_seen b).place (bound_seen b).resolved (bound_seen b).terms o s m)
    (λ _. all_filled (bounds_seen (drop (i + 1) bs)) o)
    (λ _. all_leave (bounds_seen (drop (i + 1) bs)) o) k)
