-- What the rows hold of a name, after rows are taken out or put in.
use Rattle.std.proofs.Common.{◌≡◌, ℕ, ℤ, Bool, true, false, List, [], ◌∷◌, filter, cond, not, ◌||◌, Option, Some, None, refl, sym, ap, ◌∙◌}
use Rattle.std.specs.Prelude.{bytes_eq}
use Rattle.std.specs.declared.cmp.Ordering.{Ordering}
use Rattle.std.specs.declared.cmp.Ordering.TheVariants.{Less, Equal, Greater}
use Rattle.std.specs.Ordering.{is_eq, match_ordering}
use Rattle.std.proofs.lemmas.Slice.Eq.{bytes_eq-Decides}
use Rattle.sqlite_value.specs.declared.value.Value.{Value}
use Rattle.sqlite_value.specs.declared.value.Value.TheVariants.{Null, Int, Real, Text, Blob}
use Rattle.sqlite_value.specs.Order.{Row, column, bytes, value_cmp}
use Rattle.sqlite_trees.specs.Tree.{rowid, put_row}
use Rattle.sqlite_rules.specs.Edit.{is_taken}
use Rattle.row_table.specs.Rows.{stored, is_text, held}

pub text_is : (n : List ℕ) (v : Value) → is_text n v ≡ true → v ≡ Text n
text_is n Null h = cc
text_is n (Int z) h = cc
text_is n (Real x) h = cc
text_is n (Text t) h = ap Text ((bytes_eq-Decides t n).0 h)
text_is n (Blob b) h = cc

module _ (n m : List ℕ) (v : Value) where
  text_here : is_text n v ≡ true → is_text m v ≡ bytes_eq n m
  text_here h = ap (is_text m) (text_is n v h)

  text_same : bytes_eq n m ≡ true → is_text m v ≡ is_text n v
  text_same h = ap (λ k. is_text k v) (sym ((bytes_eq-Decides n m).0 h))

pushed : (c : Bool) (r : Row) (rs : List Row) (m : List ℕ) → held (cond c (r ∷ rs) rs) m
    ≡ cond c (cond (is_text m (column r 1)) (Some (bytes (column r 2))) (held rs m)) (held rs m)
pushed true r rs m = refl
pushed false r rs m = refl

taken_by : (x y z : Bool) (b mine rest : Option (List ℕ)) → (x ≡ true → z ≡ y) → (y ≡ true → z ≡ x)
    → mine ≡ cond y None rest → cond (not x) (cond z b mine) mine ≡ cond y None (cond z b rest)
taken_by true true z b mine rest p q ih = ih
taken_by true false z b mine rest p q ih = ih ∙ sym (ap (λ c. cond c b rest) (p refl))
taken_by false true z b mine rest p q ih = ap (λ c. cond c b mine) (q refl) ∙ ih
taken_by false false z b mine rest p q ih = ap (λ k. cond z b k) ih

-- once all rows with the name n are taken out
pub held_without : (n m : List ℕ) (rows : List Row)
    → held (filter (λ r. not (is_text n (column r 1))) rows) m
    ≡ cond (bytes_eq n m) None (held rows m)
held_without n m [] = none (bytes_eq n m)
  where
    none : (b : Bool) → ◌≡◌ {A = Option (List ℕ)} None (cond b None None)
    none true = refl
    none false = refl
held_without n m (r ∷ rs) =
    pushed (not (is_text n (column r 1))) r (filter (λ x. not (is_text n (column x 1))) rs) m
    ∙ taken_by (is_text n (column r 1)) (bytes_eq n m) (is_text m (column r 1))
    (Some (bytes (column r 2))) _ (held rs m) (text_here n m (column r 1))
    (text_same n m (column r 1)) (held_without n m rs)

not_there : (x : Bool) (b rest : Option (List ℕ)) (c : List ℕ) → b ≡ Some c → cond x b rest ≡ None
    → (x ≡ false) × (rest ≡ None)
not_there true b rest c is h = absurd (let e : Some c ≡ None = sym is ∙ h in cc)
not_there false b rest c is h = (refl, h)

free_here : (a b : Bool) → (a || b) ≡ false → (a ≡ false) × (b ≡ false)
free_here true b h = absurd (cc)
free_here false b h = (refl, h)

-- once a row with a new name is put in
pub held_put : (id : ℤ) (name b m : List ℕ) (rows : List Row) → is_taken rows (stored id name b)
    ≡ false → held rows name ≡ None → held (put_row (stored id name b) rows) m
    ≡ cond (bytes_eq name m) (Some b) (held rows m)
held_put id name b m [] free none = refl
held_put id name b m (r ∷ rs) free none =
    let new = stored id name b in
    let here = not_there (is_text name (column r 1)) (Some (bytes (column r 2))) (held rs name) _
    refl none in
    let apart = free_here (is_eq (value_cmp (rowid r) (rowid new))) (is_taken rs new) free in
    by (value_cmp (rowid r) (rowid new)) apart.0 here.0 (held_put id name b m rs apart.1 here.1)
  where
    swap : (y z : Bool) (mine his rest : Option (List ℕ)) → (y ≡ true → z ≡ false)
        → cond z his (cond y mine rest) ≡ cond y mine (cond z his rest)
    swap true true mine his rest other = absurd (let e = other refl in cc)
    swap true false mine his rest other = refl
    swap false z mine his rest other = refl

    by : (o : Ordering) → is_eq o ≡ false → is_text name (column r 1) ≡ false
        → held (put_row (stored id name b) rs) m ≡ cond (bytes_eq name m) (Some b) (held rs m)
        → held (match_ordering o (r ∷ put_row (stored id name b) rs) (stored id name b ∷ rs)
        (stored id name b ∷ r ∷ rs)) m ≡ cond (bytes_eq name m) (Some b) (held (r ∷ rs) m)
    by Less other absent ih =
        ap (λ k. cond (is_text m (column r 1)) (Some (bytes (column r 2))) k) ih
        ∙ swap (bytes_eq name m) (is_text m (column r 1)) (Some b) (Some (bytes (column r 2)))
        (held rs m) (λ same. text_same name m (column r 1) same ∙ absent)
    by Equal other absent ih = absurd (cc)
    by Greater other absent ih = refl
