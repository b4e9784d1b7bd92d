-- A child is smaller than its tree.
use Rattle.std.proofs.Common.{◌≡◌, ℕ, zero, suc, ◌+◌, ◌<◌, ◌≤◌, List, Some, None, arith}
use Rattle.std.specs.Ordering.{nat_cmp, match_ordering}
use Rattle.std.specs.Cmp.Lexicographic.{slice_cmp}
use Rattle.std.specs.declared.cmp.Ordering.{Ordering}
use Rattle.std.specs.declared.cmp.Ordering.TheVariants.{Less, Equal, Greater}
use Rattle.path_tree.specs.Plain.{Plain, dict, list, text, long, boolean, undef, null, Items, no_items, item, Fields, no_fields, field, tree_size, items_size, fields_size}
use Rattle.path_tree.specs.Find.{item_at, value_at, child_at, child, find_field}
use Rattle.path_tree.specs.declared.path.Term.{Term}
use Rattle.path_tree.specs.declared.path.Term.TheVariants as term

pub item_smaller : (i : ℕ) (ts : Items) (t : Plain) → item_at i ts ≡ Some t
    → tree_size t ≤ items_size ts
item_smaller zero no_items t e = cc
item_smaller (suc i) no_items t e = cc
item_smaller zero (item u us) t e = let same : tree_size u ≡ tree_size t = cc in omega (arith, same)
item_smaller (suc i) (item u us) t e = omega (arith, item_smaller i us t e)

field_smaller : (i : ℕ) (fs : Fields) (t : Plain) → value_at i fs ≡ Some t
    → tree_size t ≤ fields_size fs
field_smaller zero no_fields t e = cc
field_smaller (suc i) no_fields t e = cc
field_smaller zero (field k u us) t e = let same : tree_size u ≡ tree_size t = cc in
    omega (arith, same)
field_smaller (suc i) (field k u us) t e = omega (arith, field_smaller i us t e)

pub child_smaller : (i : ℕ) (p t : Plain) → child_at i p ≡ Some t → tree_size t < tree_size p
child_smaller i (dict fs) t e = omega (arith, field_smaller i fs t e)
child_smaller i (list ts) t e = omega (arith, item_smaller i ts t e)
child_smaller i (text b) t e = cc
child_smaller i (long z) t e = cc
child_smaller i (boolean b) t e = cc
child_smaller i undef t e = cc
child_smaller i null t e = cc

found_step : (k l : List ℕ) (u : Plain) (us : Fields) (t : Plain) (o : Ordering)
    → match_ordering o None (Some u) (find_field k us) ≡ Some t
    → (find_field k us ≡ Some t → tree_size t ≤ fields_size us)
    → tree_size t ≤ tree_size u + fields_size us
found_step k l u us t Less e h = cc
found_step k l u us t Equal e h = let same : tree_size u ≡ tree_size t = cc in omega (arith, same)
found_step k l u us t Greater e h = omega (arith, h e)

pub found_smaller : (k : List ℕ) (fs : Fields) (t : Plain) → find_field k fs ≡ Some t
    → tree_size t ≤ fields_size fs
found_smaller k no_fields t e = cc
found_smaller k (field l u us) t e =
    found_step k l u us t (slice_cmp nat_cmp k l) e (found_smaller k us t)

-- what a term finds is smaller
pub term_smaller : (m : Term) (p t : Plain) → child m p ≡ Some t → tree_size t < tree_size p
term_smaller (term.Key k) (dict fs) t e = omega (arith, found_smaller k fs t e)
term_smaller (term.Index i) (dict fs) t e = cc
term_smaller (term.Key k) (list ts) t e = cc
term_smaller (term.Index i) (list ts) t e = omega (arith, item_smaller i ts t e)
term_smaller (term.Key k) (text b) t e = cc
term_smaller (term.Index i) (text b) t e = cc
term_smaller (term.Key k) (long z) t e = cc
term_smaller (term.Index i) (long z) t e = cc
term_smaller (term.Key k) (boolean b) t e = cc
term_smaller (term.Index i) (boolean b) t e = cc
term_smaller (term.Key k) undef t e = cc
term_smaller (term.Index i) undef t e = cc
term_smaller (term.Key k) null t e = cc
term_smaller (term.Index i) null t e = cc
