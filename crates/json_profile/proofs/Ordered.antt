-- Texts in byte order, each once.
use Rattle.std.proofs.Common.{◌≡◌, ℕ, Bool, List, [], ◌∷◌, ◌||◌, true, false, fold, map, refl, sym, ap, ◌∙◌}
use Rattle.std.specs.Prelude.{bytes_eq}
use Rattle.std.specs.BTreeSet.{insert_key}
use Rattle.std.specs.Cmp.Lexicographic.{slice_cmp}
use Rattle.std.specs.List.{list_any, AllByRecursion}
use Rattle.std.specs.List.Sorted.{IsStrictlySortedBy}
use Rattle.std.specs.Ordering.{nat_cmp, is_eq, match_ordering, ordering_reverse}
use Rattle.std.specs.declared.cmp.Ordering.{Ordering}
use Rattle.std.specs.declared.cmp.Ordering.TheVariants.{Less, Equal, Greater}
use Rattle.std.proofs.lemmas.Cmp.{nat_list_cmp_total}
use Rattle.std.proofs.lemmas.Map.Text.{is_eq-slice_cmp}
use Rattle.std.proofs.lemmas.Slice.Eq.{bytes_eq-Decides}
use Rattle.questions.specs.declared.key.Key.{Key}
use Rattle.json_profile.specs.Dependencies.{line_of, with_line, lines_of, AreInOrder}

abbrev IsAbove : List ℕ → List (List ℕ) → Type 0
IsAbove m ns = AllByRecursion (λ n. slice_cmp nat_cmp m n ≡ Less) ns

above_trans : (m n : List ℕ) (ns : List (List ℕ)) → slice_cmp nat_cmp m n ≡ Less → IsAbove n ns
    → IsAbove m ns
above_trans m n [] below above = tt
above_trans m n (k ∷ ks) below above =
    (nat_list_cmp_total.trans m n k below above.0, above_trans m n ks below above.1)

above_by : (m n k : List ℕ) (ks rest : List (List ℕ)) (o : Ordering) → slice_cmp nat_cmp m n ≡ Less
    → IsAbove m (k ∷ ks) → IsAbove m rest → IsAbove m
    (match_ordering o (n ∷ k ∷ ks) (k ∷ ks) (k ∷ rest))
above_by m n k ks rest Less below above ih = (below, above)
above_by m n k ks rest Equal below above ih = above
above_by m n k ks rest Greater below above ih = (above.0, ih)

above_insert : (m n : List ℕ) (ns : List (List ℕ)) → slice_cmp nat_cmp m n ≡ Less → IsAbove m ns
    → IsAbove m (insert_key (slice_cmp nat_cmp) ns n)
above_insert m n [] below above = (below, tt)
above_insert m n (k ∷ ks) below above =
    above_by m n k ks (insert_key (slice_cmp nat_cmp) ks n) (slice_cmp nat_cmp n k) below above
    (above_insert m n ks below above.1)

rising_by : (n k : List ℕ) (ks rest : List (List ℕ)) (o : Ordering) → slice_cmp nat_cmp n k ≡ o
    → IsStrictlySortedBy (slice_cmp nat_cmp) (k ∷ ks)
    → (slice_cmp nat_cmp k n ≡ Less → IsAbove k rest) → IsStrictlySortedBy (slice_cmp nat_cmp) rest
    → IsStrictlySortedBy (slice_cmp nat_cmp) (match_ordering o (n ∷ k ∷ ks) (k ∷ ks) (k ∷ rest))
unfolding IsStrictlySortedBy
rising_by n k ks rest Less is rising over ih = ((is, above_trans n k ks is rising.0), rising)
rising_by n k ks rest Equal is rising over ih = rising
rising_by n k ks rest Greater is rising over ih =
    (over (nat_list_cmp_total.antisymm k n ∙ ap ordering_reverse is), ih)

-- one more text at its place
pub rising_insert : (n : List ℕ) (ns : List (List ℕ)) → IsStrictlySortedBy (slice_cmp nat_cmp) ns
    → IsStrictlySortedBy (slice_cmp nat_cmp) (insert_key (slice_cmp nat_cmp) ns n)
unfolding IsStrictlySortedBy
rising_insert n [] rising = (tt, tt)
rising_insert n (k ∷ ks) rising =
    rising_by n k ks (insert_key (slice_cmp nat_cmp) ks n) (slice_cmp nat_cmp n k) refl rising
    (λ below. above_insert k n ks below rising.0) (rising_insert n ks rising.1)

or_swap : (a b c : Bool) → (a || (b || c)) ≡ (b || (a || c))
or_swap true true c = refl
or_swap true false c = refl
or_swap false b c = refl

or_same : (a b : Bool) → (a || b) ≡ (a || (a || b))
or_same true b = refl
or_same false b = refl

among_by : (l n k : List ℕ) (ks rest : List (List ℕ)) (o : Ordering) → slice_cmp nat_cmp n k ≡ o
    → list_any (bytes_eq l) rest ≡ (bytes_eq l n || list_any (bytes_eq l) ks)
    → list_any (bytes_eq l) (match_ordering o (n ∷ k ∷ ks) (k ∷ ks) (k ∷ rest))
    ≡ (bytes_eq l n || list_any (bytes_eq l) (k ∷ ks))
among_by l n k ks rest Less is ih = refl
among_by l n k ks rest Equal is ih =
    let same : n ≡ k = (bytes_eq-Decides n k).0 (sym (is_eq-slice_cmp n k) ∙ ap is_eq is) in
    rw same (or_same (bytes_eq l k) (list_any (bytes_eq l) ks))
among_by l n k ks rest Greater is ih =
    ap (λ b. bytes_eq l k || b) ih ∙ or_swap (bytes_eq l k) (bytes_eq l n)
    (list_any (bytes_eq l) ks)

-- which texts are among them then
pub among_insert : (l n : List ℕ) (ns : List (List ℕ))
    → list_any (bytes_eq l) (insert_key (slice_cmp nat_cmp) ns n)
    ≡ (bytes_eq l n || list_any (bytes_eq l) ns)
among_insert l n [] = refl
among_insert l n (k ∷ ks) =
    among_by l n k ks (insert_key (slice_cmp nat_cmp) ks n) (slice_cmp nat_cmp n k) refl
    (among_insert l n ks)

rising_fold : (items : List (Key × ℕ)) (lines : List (List ℕ))
    → IsStrictlySortedBy (slice_cmp nat_cmp) lines
    → IsStrictlySortedBy (slice_cmp nat_cmp) (fold with_line lines items)
rising_fold [] lines rising = rising
rising_fold (i ∷ items) lines rising =
    rising_fold items (with_line lines i) (rising_insert (line_of i) lines rising)

among_fold : (l : List ℕ) (items : List (Key × ℕ)) (lines : List (List ℕ))
    → list_any (bytes_eq l) (fold with_line lines items)
    ≡ (list_any (bytes_eq l) (map line_of items) || list_any (bytes_eq l) lines)
among_fold l [] lines = refl
among_fold l (i ∷ items) lines =
    let one = bytes_eq l (line_of i) in
    let more = list_any (bytes_eq l) (map line_of items) in
    among_fold l items (with_line lines i) ∙ ap (λ b. more || b) (among_insert l (line_of i) lines)
    ∙ or_swap more one (list_any (bytes_eq l) lines)
    ∙ or_assoc one more (list_any (bytes_eq l) lines)
  where
    or_assoc : (a b c : Bool) → (a || (b || c)) ≡ ((a || b) || c)
    or_assoc true b c = refl
    or_assoc false b c = refl

nothing_more : (b : Bool) → (b || false) ≡ b
nothing_more true = refl
nothing_more false = refl

pub lines_in_order : (items : List (Key × ℕ)) → AreInOrder (lines_of items) (map line_of items)
unfolding IsStrictlySortedBy
lines_in_order items = record {
  rising = rising_fold items [] tt;
  exactly = λ l. among_fold l items [] ∙ nothing_more (list_any (bytes_eq l) (map line_of items));
}
