-- Types as plain trees, and back: by them the types that are bound to paths are told apart.
use Rattle.std.specs.Prelude.{◌≡◌, ℕ, zero, suc, ℤ, pos, nat_abs, List, [], ◌∷◌, Option, Some, None}
use Rattle.std.proofs.Common.{refl}
use Rattle.std.specs.Coded.{Coded, code_by}
use Rattle.path_tree.specs.Plain.{Plain, list, text, long, boolean, undef, Items, no_items, item}
use Rattle.path_tree.specs.Code.{plain_code}
use Rattle.pan_ast.specs.Syntax as syntax
use Rattle.type_defs.specs.declared.resolved.Base.{Base}
use Rattle.type_defs.specs.declared.resolved.Base.TheVariants as base
use Rattle.type_defs.specs.declared.resolved.Range.{Range}
use Rattle.type_defs.specs.Resolved.{Resolved, Known, Shape, OfBase, Named, Ranged, ListOf, DictOf, Link, Record, Choice, Fields, none, more}
use Rattle.object_run.specs.SyntaxCode.{item_kept, item_read, item_same}

abbrev base_kept : Base → Plain
base_kept base.Text = long (pos 0)
base_kept base.Long = long (pos 1)
base_kept base.Boolean = long (pos 2)
base_kept base.Number = long (pos 3)
base_kept base.Property = long (pos 4)
base_kept base.Resource = long (pos 5)
base_kept base.Element = long (pos 6)
base_kept base.List = long (pos 7)
base_kept base.Dict = long (pos 8)

abbrev base_at : ℕ → Base
base_at zero = base.Text
base_at (suc zero) = base.Long
base_at (suc (suc zero)) = base.Boolean
base_at (suc (suc (suc zero))) = base.Number
base_at (suc (suc (suc (suc zero)))) = base.Property
base_at (suc (suc (suc (suc (suc zero))))) = base.Resource
base_at (suc (suc (suc (suc (suc (suc zero)))))) = base.Element
base_at (suc (suc (suc (suc (suc (suc (suc zero))))))) = base.List
base_at n = base.Dict

abbrev base_read : Plain → Base
base_read (long z) = base_at (nat_abs z)
base_read t = base.Dict

base_same : (x : Base) → base_read (base_kept x) ≡ x
base_same base.Text = refl
base_same base.Long = refl
base_same base.Boolean = refl
base_same base.Number = refl
base_same base.Property = refl
base_same base.Resource = refl
base_same base.Element = refl
base_same base.List = refl
base_same base.Dict = refl

abbrev end_kept : Option ℤ → Plain
end_kept None = undef
end_kept (Some z) = long z

abbrev end_read : Plain → Option ℤ
end_read (long z) = Some z
end_read t = None

end_same : (x : Option ℤ) → end_read (end_kept x) ≡ x
end_same None = refl
end_same (Some z) = refl

abbrev range_kept : Range → Plain
range_kept r = list (item (end_kept r.low) (item (end_kept r.high) no_items))

abbrev range_read : Plain → Range
range_read (list (item a (item b no_items))) = record { low = end_read a; high = end_read b }
range_read t = record { low = None; high = None }

range_same : (x : Range) → range_read (range_kept x) ≡ x
range_same x = λ k. record { low = end_same x.low k; high = end_same x.high k }

abbrev test_kept : Option syntax.Item → Plain
test_kept None = undef
test_kept (Some i) = list (item (item_kept i) no_items)

abbrev test_read : Plain → Option syntax.Item
test_read (list (item t no_items)) = Some (item_read t)
test_read t = None

test_same : (x : Option syntax.Item) → test_read (test_kept x) ≡ x
test_same None = refl
test_same (Some i) = λ k. Some (item_same i k)

abbrev value_kept : Option Plain → Plain
value_kept None = undef
value_kept (Some t) = list (item t no_items)

abbrev value_read : Plain → Option Plain
value_read (list (item t no_items)) = Some t
value_read t = None

value_same : (x : Option Plain) → value_read (value_kept x) ≡ x
value_same None = refl
value_same (Some t) = refl

abbrev texts_kept : List (List ℕ) → Items
texts_kept [] = no_items
texts_kept (t ∷ ts) = item (text t) (texts_kept ts)

abbrev texts_read : Items → List (List ℕ)
texts_read no_items = []
texts_read (item (text t) ts) = t ∷ texts_read ts
texts_read (item u ts) = texts_read ts

texts_same : (x : List (List ℕ)) → texts_read (texts_kept x) ≡ x
texts_same [] = refl
texts_same (t ∷ ts) = λ k. t ∷ texts_same ts k

abbrev tagged : ℕ → Items → Plain
tagged n ts = list (item (long (pos n)) ts)

abbrev no_shape : Shape
no_shape = OfBase base.Dict

abbrev mutual
  pub type_kept : Resolved → Plain
  type_kept (Known s c n d) = list (item (shape_kept s) (item (test_kept c)
      (item (text n) (item (value_kept d) no_items))))

  shape_kept : Shape → Plain
  shape_kept (OfBase b) = tagged 0 (item (base_kept b) no_items)
  shape_kept (Named t) = tagged 1 (item (type_kept t) no_items)
  shape_kept (Ranged t r) = tagged 2 (item (type_kept t) (item (range_kept r) no_items))
  shape_kept (ListOf t r) = tagged 3 (item (type_kept t) (item (range_kept r) no_items))
  shape_kept (DictOf t r) = tagged 4 (item (type_kept t) (item (range_kept r) no_items))
  shape_kept (Link t) = tagged 5 (item (type_kept t) no_items)
  shape_kept (Record x fs) = tagged 6 (item (boolean x) (item (fields_kept fs) no_items))
  shape_kept (Choice xs) = tagged 7 (texts_kept xs)

  fields_kept : Fields → Plain
  fields_kept none = undef
  fields_kept (more k r t fs) = list (item (text k) (item (boolean r)
      (item (type_kept t) (item (fields_kept fs) no_items))))

abbrev mutual
  pub type_read : Plain → Resolved
  type_read (list (item s (item c (item (text n) (item d no_items))))) =
      Known (shape_read s) (test_read c) n (value_read d)
  type_read t = Known no_shape None [] None

  shape_read : Plain → Shape
  shape_read (list (item (long z) ts)) = shape_by (nat_abs z) ts
  shape_read t = no_shape

  shape_by : ℕ → Items → Shape
  shape_by zero (item b no_items) = OfBase (base_read b)
  shape_by (suc zero) (item t no_items) = Named (type_read t)
  shape_by (suc (suc zero)) (item t (item r no_items)) = Ranged (type_read t) (range_read r)
  shape_by (suc (suc (suc zero))) (item t (item r no_items)) = ListOf (type_read t) (range_read r)
  shape_by (suc (suc (suc (suc zero)))) (item t (item r no_items)) =
      DictOf (type_read t) (range_read r)
  shape_by (suc (suc (suc (suc (suc zero))))) (item t no_items) = Link (type_read t)
  shape_by (suc (suc (suc (suc (suc (suc zero)))))) (item (boolean x) (item fs no_items)) =
      Record x (fields_read fs)
  shape_by (suc (suc (suc (suc (suc (suc (suc zero))))))) ts = Choice (texts_read ts)
  shape_by n ts = no_shape

  fields_read : Plain → Fields
  fields_read (list (item (text k) (item (boolean r) (item t (item fs no_items))))) =
      more k r (type_read t) (fields_read fs)
  fields_read t = none

mutual
  pub type_same : (x : Resolved) → type_read (type_kept x) ≡ x
  type_same (Known s c n d) = λ k. Known (shape_same s k) (test_same c k) n (value_same d k)

  shape_same : (x : Shape) → shape_read (shape_kept x) ≡ x
  shape_same (OfBase b) = λ k. OfBase (base_same b k)
  shape_same (Named t) = λ k. Named (type_same t k)
  shape_same (Ranged t r) = λ k. Ranged (type_same t k) (range_same r k)
  shape_same (ListOf t r) = λ k. ListOf (type_same t k) (range_same r k)
  shape_same (DictOf t r) = λ k. DictOf (type_same t k) (range_same r k)
  shape_same (Link t) = λ k. Link (type_same t k)
  shape_same (Record x fs) = λ k. Record x (fields_same fs k)
  shape_same (Choice xs) = λ k. Choice (texts_same xs k)

  fields_same : (x : Fields) → fields_read (fields_kept x) ≡ x
  fields_same none = refl
  fields_same (more k r t fs) = λ i. more k r (type_same t i) (fields_same fs i)

abbrev pub type_code : Coded Resolved
type_code = code_by Plain plain_code type_kept type_read type_same
