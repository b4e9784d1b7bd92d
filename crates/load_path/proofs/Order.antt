-- The byte order of names.
use Rattle.std.proofs.Common.{◌≡◌, Bool, true, false, List, ℕ, refl, sym, ap, ◌∙◌}
use Rattle.std.specs.Prelude.{bytes_eq}
use Rattle.std.specs.Cmp.Lexicographic.{slice_cmp}
use Rattle.std.specs.declared.cmp.Ordering.{Ordering}
use Rattle.std.specs.declared.cmp.Ordering.TheVariants.{Less, Equal, Greater}
use Rattle.std.specs.Ordering.{nat_cmp, is_lt, is_eq, ordering_reverse}
use Rattle.std.proofs.lemmas.Cmp.{nat_list_cmp_total}
use Rattle.std.proofs.lemmas.Map.Text.{is_eq-slice_cmp}
use Rattle.load_path.specs.Pictures.{is_below}

less : (o : Ordering) → is_lt o ≡ true → o ≡ Less
less Less is = refl
less Equal is = cc
less Greater is = cc

pub below_chain : (a b c : List ℕ) → is_below a b ≡ true → is_below b c ≡ true → is_below a c ≡ true
below_chain a b c p q = ap is_lt (nat_list_cmp_total.trans a b c (less _ p) (less _ q))

below_differs_by : (o : Ordering) (e : Bool) → is_lt o ≡ true → is_eq o ≡ e → e ≡ false
below_differs_by Less e p q = sym q
below_differs_by Equal e p q = cc
below_differs_by Greater e p q = cc

pub below_differs : (a b : List ℕ) → is_below a b ≡ true → bytes_eq a b ≡ false
below_differs a b p = below_differs_by (slice_cmp nat_cmp a b) (bytes_eq a b) p
    (is_eq-slice_cmp a b)

reverse_differs_by : (o : Ordering) (e : Bool) → is_lt (ordering_reverse o) ≡ true → is_eq o ≡ e → e
    ≡ false
reverse_differs_by Less e p q = cc
reverse_differs_by Equal e p q = cc
reverse_differs_by Greater e p q = sym q

pub above_differs : (a b : List ℕ) → is_below b a ≡ true → bytes_eq a b ≡ false
above_differs a b p = reverse_differs_by (slice_cmp nat_cmp a b) (bytes_eq a b)
    (sym (ap is_lt (nat_list_cmp_total.antisymm b a)) ∙ p) (is_eq-slice_cmp a b)

above_by : (o : Ordering) → is_lt o ≡ false → is_eq o ≡ false → is_lt (ordering_reverse o) ≡ true
above_by Less p q = cc
above_by Equal p q = cc
above_by Greater p q = refl

pub else_above : (a b : List ℕ) → is_below a b ≡ false → bytes_eq a b ≡ false → is_below b a ≡ true
else_above a b p q = ap is_lt (nat_list_cmp_total.antisymm b a)
    ∙ above_by (slice_cmp nat_cmp a b) p (is_eq-slice_cmp a b ∙ q)
