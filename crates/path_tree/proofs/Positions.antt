-- The position of a key among the entries of a dict.
use Rattle.std.proofs.Common.{◌≡◌, ℕ, zero, suc, ◌<◌, ◌≤◌, List, [], ◌∷◌, length, get_or, Result, Ok, Err, false, refl, sym, ap, ◌∙◌, arith, add-one}
use Rattle.std.specs.Ordering.{nat_cmp, ordering_reverse, is_lt}
use Rattle.std.specs.declared.cmp.Ordering.{Ordering}
use Rattle.std.specs.declared.cmp.Ordering.TheVariants.{Less, Equal, Greater}
use Rattle.std.specs.Cmp.Lexicographic.{slice_cmp, nat_list_cmp_total}
use Rattle.std.specs.List.Sorted.{IsSearchInRange, IsBinarySearchResult}
use Rattle.std.proofs.lemmas.List.{get_or_default}
use Rattle.std.proofs.lemmas.List.Sorted.{searchable_from_sorted}
use Rattle.path_tree.specs.Plain.{field, AreFields, IsBefore}
use Rattle.path_tree.specs.declared.tree.Entry.{Entry}
use Rattle.path_tree.specs.View.{fields_of}
use Rattle.path_tree.specs.Position.{Stands, Lacks, IsPosition}

abbrev cmp : List ℕ → List ℕ → Ordering
cmp = slice_cmp nat_cmp

flip : (k l : List ℕ) (o : Ordering) → cmp k l ≡ o → cmp l k ≡ ordering_reverse o
flip k l o h = nat_list_cmp_total.antisymm l k ∙ ap ordering_reverse h

-- a key before the fields is before each of them
above : (k : List ℕ) (es : List Entry) → IsBefore k (fields_of es) → AreFields (fields_of es)
    → (i : ℕ) (d : Entry) → i < length es → cmp k (get_or es i d).key ≡ Less
above k [] b f i d h = absurd (omega arith)
above k (e ∷ es) b f zero d h = b
above k (e ∷ es) b f (suc i) d h =
    nat_list_cmp_total.trans k e.key (get_or es i d).key b
    (above e.key es f.3 f.4 i d (omega arith))

rising : (es : List Entry) → AreFields (fields_of es) → (i : ℕ) (d : Entry) → suc i < length es
    → is_lt (cmp (get_or es (suc i) d).key (get_or es i d).key) ≡ false
rising [] f i d h = absurd (omega arith)
rising (e ∷ []) f i d h = absurd (omega arith)
rising (e ∷ g ∷ es) f zero d h = ap is_lt (flip e.key g.key Less f.3)
rising (e ∷ g ∷ es) f (suc i) d h = rising (g ∷ es) f.4 i d (omega arith)

module _ (k : List ℕ) where
  here : (e : Entry) (es : List Entry) → cmp k e.key ≡ Equal → Stands k (e ∷ es) 0
  here e es is = record {
    within = omega arith;
    found = λ d. rw is refl;
    put = λ d t. rw is refl;
    removed = rw is refl;
  }

  further : (e : Entry) (es : List Entry) (i : ℕ) → cmp k e.key ≡ Greater → Stands k es i
      → Stands k (e ∷ es) (suc i)
  further e es i is h = record {
    within = omega (arith, h.within);
    found = λ d. rw is (h.found d);
    put = λ d t. rw is (ap (field e.key e.value) (h.put d t));
    removed = rw is (ap (field e.key e.value) h.removed);
  }

  stands : (es : List Entry) (i : ℕ) → AreFields (fields_of es) → i < length es
      → ((d : Entry) → cmp (get_or es i d).key k ≡ Equal) → Stands k es i
  stands [] i f h is = absurd (omega arith)
  stands (e ∷ es) zero f h is = here e es (flip e.key k Equal (is e))
  stands (e ∷ es) (suc i) f h is = further e es i after (stands es i f.4 (omega arith) is)
    where
      after : cmp k e.key ≡ Greater
      after = sym (nat_list_cmp_total.congr (get_or es i e).key k e.key (is e))
          ∙ flip e.key (get_or es i e).key Less (above e.key es f.3 f.4 i e (omega arith))

  gap_here : (es : List Entry) → ((d : Entry) → 0 < length es → cmp (get_or es 0 d).key k ≡ Greater)
      → Lacks k es 0
  gap_here [] after = record { within = omega arith; found = refl; put = λ e same. rw same refl }
  gap_here (e ∷ es) after =
      let is : cmp k e.key ≡ Less = flip e.key k Greater (after e (omega arith)) in
      record { within = omega arith; found = rw is refl; put = λ f same. rw (same, is) refl }

  gap_further : (e : Entry) (es : List Entry) (i : ℕ) → cmp k e.key ≡ Greater → Lacks k es i
      → Lacks k (e ∷ es) (suc i)
  gap_further e es i is h = record {
    within = omega (arith, h.within);
    found = rw is h.found;
    put = λ f same. rw is (ap (field e.key e.value) (h.put f same));
  }

  lacks : (es : List Entry) (i : ℕ) → i ≤ length es
      → ((j : ℕ) (d : Entry) → j < i → cmp (get_or es j d).key k ≡ Less)
      → ((d : Entry) → i < length es → cmp (get_or es i d).key k ≡ Greater) → Lacks k es i
  lacks es zero h before after = gap_here es after
  lacks [] (suc i) h before after = absurd (omega arith)
  lacks (e ∷ es) (suc i) h before after =
      gap_further e es i (flip e.key k Less (before 0 e (omega arith)))
      (lacks es i (omega arith) (λ j d lt. before (suc j) d (omega arith))
      (λ d lt. after d (omega arith)))

  -- what a binary search finds
  pub position_ok : (es : List Entry) → AreFields (fields_of es) → (r : Result ℕ ℕ)
      → IsSearchInRange r (length es) → IsBinarySearchResult (λ e. cmp e.key k) es r
      → IsPosition k es r
  position_ok es f (Ok i) within at = stands es i f within at
  position_ok es f (Err i) within parted =
      let p = parted (searchable_from_sorted nat_list_cmp_total (λ (e : Entry). e.key) es k
      (λ j d a b. rw add-one (rising es f j d (omega arith)))) in
      lacks es i within (λ j d lt. p.0 j d (omega arith) lt) (λ d lt. p.1 i d (omega arith) lt)

  -- all stand before a key that is above the last
  below_last : (es : List Entry) (i : ℕ) (e : Entry) → AreFields (fields_of es) → suc i ≡ length es
      → cmp (get_or es i e).key k ≡ Less → (j : ℕ) (d : Entry) → j < length es
      → cmp (get_or es j d).key k ≡ Less
  below_last [] i e f last is j d h = absurd (omega (arith, h))
  below_last (g ∷ es) zero e f last is zero d h = is
  below_last (g ∷ es) zero e f last is (suc j) d h = absurd (omega (arith, last, h))
  below_last (g ∷ es) (suc i) e f last is zero d h =
      nat_list_cmp_total.trans g.key (get_or es i e).key k
      (above g.key es f.3 f.4 i e (omega (arith, last))) is
  below_last (g ∷ es) (suc i) e f last is (suc j) d h =
      below_last es i e f.4 (omega (arith, last)) is j d (omega (arith, h))

  -- a key above the last comes at the end
  pub position_end : (es : List Entry) (i : ℕ) (e : Entry) → AreFields (fields_of es) → suc i
      ≡ length es → cmp (get_or es i e).key k ≡ Less → Lacks k es (length es)
  position_end es i e f last is =
      lacks es (length es) (omega arith) (λ j d lt. below_last es i e f last is j d lt)
      (λ d lt. absurd (omega (arith, lt)))

  pub position_last : (es : List Entry) (i : ℕ) (e : Entry) → AreFields (fields_of es) → suc i
      ≡ length es → cmp (get_or es i e).key k ≡ Equal → Stands k es i
  position_last es i e f last is =
      stands es i f (omega (arith, last)) (λ d. ap (λ (x : Entry). cmp x.key k)
      (get_or_default es i d e (omega (arith, last))) ∙ is)
