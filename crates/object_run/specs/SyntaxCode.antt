-- Items as plain trees, and back: by them the bodies of functions and of tests are told apart.
use Rattle.std.specs.Prelude.{◌≡◌, ℕ, zero, suc, pos, nat_abs, []}
use Rattle.std.proofs.Common.{refl}
use Rattle.std.specs.Coded.{Coded, code_by}
use Rattle.path_tree.specs.Plain.{Plain, list, text, long, boolean, undef, Items, no_items, item}
use Rattle.path_tree.specs.Code.{plain_code}
use Rattle.path_tree.specs.declared.operators.UnaryOp.{UnaryOp}
use Rattle.path_tree.specs.declared.operators.UnaryOp.TheVariants as unary
use Rattle.path_tree.specs.declared.operators.BinaryOp.{BinaryOp}
use Rattle.path_tree.specs.declared.operators.BinaryOp.TheVariants as binary
use Rattle.pan_ast.specs.declared.place.Place.{Place}
use Rattle.pan_ast.specs.Syntax.{Item, Node, Reference, Block, If, IfElse, While, For, Foreach, Assign, Plain as Chain, Refer, Long, Text, Boolean, Undef, Null, Name, Call, Inside, Index, Unary, Binary, And, Or, none, more}
use Rattle.pan_ast.specs.Syntax as Syntax

abbrev tagged : ℕ → Items → Plain
tagged n ts = list (item (long (pos n)) ts)

abbrev pub place_kept : Place → Plain
place_kept p =
    list (item (text p.file) (item (long (pos p.line)) (item (long (pos p.column)) no_items)))

abbrev pub no_place : Place
no_place = record { file = []; line = 0; column = 0 }

abbrev pub place_read : Plain → Place
place_read (list (item (text f) (item (long l) (item (long c) no_items)))) =
    record { file = f; line = nat_abs l; column = nat_abs c }
place_read t = no_place

abbrev unary_kept : UnaryOp → Plain
unary_kept unary.Plus = long (pos 0)
unary_kept unary.Minus = long (pos 1)
unary_kept unary.Not = long (pos 2)
unary_kept unary.Flip = long (pos 3)

abbrev unary_at : ℕ → UnaryOp
unary_at zero = unary.Plus
unary_at (suc zero) = unary.Minus
unary_at (suc (suc zero)) = unary.Not
unary_at n = unary.Flip

abbrev unary_read : Plain → UnaryOp
unary_read (long z) = unary_at (nat_abs z)
unary_read t = unary.Flip

unary_same : (x : UnaryOp) → unary_read (unary_kept x) ≡ x
unary_same unary.Plus = refl
unary_same unary.Minus = refl
unary_same unary.Not = refl
unary_same unary.Flip = refl

abbrev binary_kept : BinaryOp → Plain
binary_kept binary.Add = long (pos 0)
binary_kept binary.Subtract = long (pos 1)
binary_kept binary.Multiply = long (pos 2)
binary_kept binary.Divide = long (pos 3)
binary_kept binary.Rest = long (pos 4)
binary_kept binary.BitAnd = long (pos 5)
binary_kept binary.BitOr = long (pos 6)
binary_kept binary.BitXor = long (pos 7)
binary_kept binary.Equal = long (pos 8)
binary_kept binary.NotEqual = long (pos 9)
binary_kept binary.Less = long (pos 10)
binary_kept binary.LessEqual = long (pos 11)
binary_kept binary.More = long (pos 12)
binary_kept binary.MoreEqual = long (pos 13)

abbrev binary_at : ℕ → BinaryOp
binary_at zero = binary.Add
binary_at (suc zero) = binary.Subtract
binary_at (suc (suc zero)) = binary.Multiply
binary_at (suc (suc (suc zero))) = binary.Divide
binary_at (suc (suc (suc (suc zero)))) = binary.Rest
binary_at (suc (suc (suc (suc (suc zero))))) = binary.BitAnd
binary_at (suc (suc (suc (suc (suc (suc zero)))))) = binary.BitOr
binary_at (suc (suc (suc (suc (suc (suc (suc zero))))))) = binary.BitXor
binary_at (suc (suc (suc (suc (suc (suc (suc (suc zero)))))))) = binary.Equal
binary_at (suc (suc (suc (suc (suc (suc (suc (suc (suc zero))))))))) = binary.NotEqual
binary_at (suc (suc (suc (suc (suc (suc (suc (suc (suc (suc zero)))))))))) = binary.Less
binary_at (suc (suc (suc (suc (suc (suc (suc (suc (suc (suc (suc zero))))))))))) = binary.LessEqual
binary_at (suc (suc (suc (suc (suc (suc (suc (suc (suc (suc (suc (suc zero)))))))))))) = binary.More
binary_at n = binary.MoreEqual

abbrev binary_read : Plain → BinaryOp
binary_read (long z) = binary_at (nat_abs z)
binary_read t = binary.MoreEqual

binary_same : (x : BinaryOp) → binary_read (binary_kept x) ≡ x
binary_same binary.Add = refl
binary_same binary.Subtract = refl
binary_same binary.Multiply = refl
binary_same binary.Divide = refl
binary_same binary.Rest = refl
binary_same binary.BitAnd = refl
binary_same binary.BitOr = refl
binary_same binary.BitXor = refl
binary_same binary.Equal = refl
binary_same binary.NotEqual = refl
binary_same binary.Less = refl
binary_same binary.LessEqual = refl
binary_same binary.More = refl
binary_same binary.MoreEqual = refl

abbrev no_node : Node
no_node = Undef no_place

abbrev no_item : Item
no_item = Chain no_place no_node

abbrev mutual
  pub item_kept : Item → Plain
  item_kept (Block p is) = tagged 0 (item (place_kept p) (item (items_kept is) no_items))
  item_kept (If p c t) =
      tagged 1 (item (place_kept p) (item (item_kept c) (item (item_kept t) no_items)))
  item_kept (IfElse p c t e) =
      tagged 2 (item (place_kept p) (item (item_kept c) (item (item_kept t)
      (item (item_kept e) no_items))))
  item_kept (While p c b) =
      tagged 3 (item (place_kept p) (item (item_kept c) (item (item_kept b) no_items)))
  item_kept (For p a c n b) =
      tagged 4 (item (place_kept p) (item (item_kept a) (item (item_kept c)
      (item (item_kept n) (item (item_kept b) no_items)))))
  item_kept (Foreach p k v c b) =
      tagged 5 (item (place_kept p) (item (text k) (item (text v)
      (item (item_kept c) (item (item_kept b) no_items)))))
  item_kept (Assign p r i) =
      tagged 6 (item (place_kept p) (item (reference_kept r) (item (item_kept i) no_items)))
  item_kept (Chain p n) = tagged 7 (item (place_kept p) (item (node_kept n) no_items))

  reference_kept : Reference → Plain
  reference_kept (Refer p x is) =
      tagged 0 (item (place_kept p) (item (text x) (item (items_kept is) no_items)))

  node_kept : Node → Plain
  node_kept (Long p z) = tagged 0 (item (place_kept p) (item (long z) no_items))
  node_kept (Text p t) = tagged 1 (item (place_kept p) (item (text t) no_items))
  node_kept (Boolean p b) = tagged 2 (item (place_kept p) (item (boolean b) no_items))
  node_kept (Undef p) = tagged 3 (item (place_kept p) no_items)
  node_kept (Null p) = tagged 4 (item (place_kept p) no_items)
  node_kept (Name p x) = tagged 5 (item (place_kept p) (item (text x) no_items))
  node_kept (Call p f is) =
      tagged 6 (item (place_kept p) (item (text f) (item (items_kept is) no_items)))
  node_kept (Inside p i) = tagged 7 (item (place_kept p) (item (item_kept i) no_items))
  node_kept (Index p n i) =
      tagged 8 (item (place_kept p) (item (node_kept n) (item (item_kept i) no_items)))
  node_kept (Unary p op n) =
      tagged 9 (item (place_kept p) (item (unary_kept op) (item (node_kept n) no_items)))
  node_kept (Binary p op x y) =
      tagged 10 (item (place_kept p) (item (binary_kept op) (item (node_kept x)
      (item (node_kept y) no_items))))
  node_kept (And p x y) =
      tagged 11 (item (place_kept p) (item (node_kept x) (item (node_kept y) no_items)))
  node_kept (Or p x y) =
      tagged 12 (item (place_kept p) (item (node_kept x) (item (node_kept y) no_items)))

  items_kept : Syntax.Items → Plain
  items_kept none = undef
  items_kept (more i is) = list (item (item_kept i) (item (items_kept is) no_items))

abbrev mutual
  pub item_read : Plain → Item
  item_read (list (item (long z) ts)) = item_by (nat_abs z) ts
  item_read t = no_item

  item_by : ℕ → Items → Item
  item_by zero (item p (item is no_items)) = Block (place_read p) (items_read is)
  item_by (suc zero) (item p (item c (item t no_items))) =
      If (place_read p) (item_read c) (item_read t)
  item_by (suc (suc zero)) (item p (item c (item t (item e no_items)))) =
      IfElse (place_read p) (item_read c) (item_read t) (item_read e)
  item_by (suc (suc (suc zero))) (item p (item c (item b no_items))) =
      While (place_read p) (item_read c) (item_read b)
  item_by (suc (suc (suc (suc zero)))) (item p (item a (item c (item n (item b no_items))))) =
      For (place_read p) (item_read a) (item_read c) (item_read n) (item_read b)
  item_by (suc (suc (suc (suc (suc zero))))) (item p (item (text k)
      (item (text v) (item c (item b no_items))))) =
      Foreach (place_read p) k v (item_read c) (item_read b)
  item_by (suc (suc (suc (suc (suc (suc zero)))))) (item p (item r (item i no_items))) =
      Assign (place_read p) (reference_read r) (item_read i)
  item_by (suc (suc (suc (suc (suc (suc (suc zero))))))) (item p (item n no_items)) =
      Chain (place_read p) (node_read n)
  item_by n ts = no_item

  reference_read : Plain → Reference
  reference_read (list (item t (item p (item (text x) (item is no_items))))) =
      Refer (place_read p) x (items_read is)
  reference_read t = Refer no_place [] none

  node_read : Plain → Node
  node_read (list (item (long z) ts)) = node_by (nat_abs z) ts
  node_read t = no_node

  node_by : ℕ → Items → Node
  node_by zero (item p (item (long z) no_items)) = Long (place_read p) z
  node_by (suc zero) (item p (item (text t) no_items)) = Text (place_read p) t
  node_by (suc (suc zero)) (item p (item (boolean b) no_items)) = Boolean (place_read p) b
  node_by (suc (suc (suc zero))) (item p no_items) = Undef (place_read p)
  node_by (suc (suc (suc (suc zero)))) (item p no_items) = Null (place_read p)
  node_by (suc (suc (suc (suc (suc zero))))) (item p (item (text x) no_items)) =
      Name (place_read p) x
  node_by (suc (suc (suc (suc (suc (suc zero)))))) (item p (item (text f) (item is no_items))) =
      Call (place_read p) f (items_read is)
  node_by (suc (suc (suc (suc (suc (suc (suc zero))))))) (item p (item i no_items)) =
      Inside (place_read p) (item_read i)
  node_by (suc (suc (suc (suc (suc (suc (suc (suc zero)))))))) (item p (item n (item i no_items))) =
      Index (place_read p) (node_read n) (item_read i)
  node_by (suc (suc (suc (suc (suc (suc (suc (suc (suc zero)))))))))
      (item p (item op (item n no_items))) =
      Unary (place_read p) (unary_read op) (node_read n)
  node_by (suc (suc (suc (suc (suc (suc (suc (suc (suc (suc zero))))))))))
      (item p (item op (item x (item y no_items)))) =
      Binary (place_read p) (binary_read op) (node_read x) (node_read y)
  node_by (suc (suc (suc (suc (suc (suc (suc (suc (suc (suc (suc zero)))))))))))
      (item p (item x (item y no_items))) =
      And (place_read p) (node_read x) (node_read y)
  node_by (suc (suc (suc (suc (suc (suc (suc (suc (suc (suc (suc (suc zero))))))))))))
      (item p (item x (item y no_items))) =
      Or (place_read p) (node_read x) (node_read y)
  node_by n ts = no_node

  items_read : Plain → Syntax.Items
  items_read (list (item i (item is no_items))) = more (item_read i) (items_read is)
  items_read t = none

mutual
  pub item_same : (x : Item) → item_read (item_kept x) ≡ x
  item_same (Block p is) = λ j. Block p (items_same is j)
  item_same (If p c t) = λ j. If p (item_same c j) (item_same t j)
  item_same (IfElse p c t e) = λ j. IfElse p (item_same c j) (item_same t j) (item_same e j)
  item_same (While p c b) = λ j. While p (item_same c j) (item_same b j)
  item_same (For p a c n b) =
      λ j. For p (item_same a j) (item_same c j) (item_same n j) (item_same b j)
  item_same (Foreach p k v c b) = λ j. Foreach p k v (item_same c j) (item_same b j)
  item_same (Assign p r i) = λ j. Assign p (reference_same r j) (item_same i j)
  item_same (Chain p n) = λ j. Chain p (node_same n j)

  reference_same : (x : Reference) → reference_read (reference_kept x) ≡ x
  reference_same (Refer p x is) = λ j. Refer p x (items_same is j)

  node_same : (x : Node) → node_read (node_kept x) ≡ x
  node_same (Long p z) = refl
  node_same (Text p t) = refl
  node_same (Boolean p b) = refl
  node_same (Undef p) = refl
  node_same (Null p) = refl
  node_same (Name p x) = refl
  node_same (Call p f is) = λ j. Call p f (items_same is j)
  node_same (Inside p i) = λ j. Inside p (item_same i j)
  node_same (Index p n i) = λ j. Index p (node_same n j) (item_same i j)
  node_same (Unary p op n) = λ j. Unary p (unary_same op j) (node_same n j)
  node_same (Binary p op x y) = λ j. Binary p (binary_same op j) (node_same x j) (node_same y j)
  node_same (And p x y) = λ j. And p (node_same x j) (node_same y j)
  node_same (Or p x y) = λ j. Or p (node_same x j) (node_same y j)

  items_same : (x : Syntax.Items) → items_read (items_kept x) ≡ x
  items_same none = refl
  items_same (more i is) = λ j. more (item_same i j) (items_same is j)

abbrev pub item_code : Coded Item
item_code = code_by Plain plain_code item_kept item_read item_same
