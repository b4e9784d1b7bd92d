-- Trees that are read field by field.
use Rattle.std.proofs.Common.{◌≡◌, ◌≢◌, ℕ, zero, suc, ◌+◌, ◌-◌, ◌<◌, ◌≤◌, ◌&&◌, ◌||◌, Bool, true, false, not, cond, nat_lt, List, [], ◌∷◌, Option, Some, None, Result, Ok, Err, refl, sym, ap, ◌∙◌, subst, arith}
use Rattle.std.specs.Ordering.{nat_cmp, is_lt, match_ordering, ordering_reverse}
use Rattle.std.specs.declared.cmp.Ordering.{Ordering}
use Rattle.std.specs.declared.cmp.Ordering.TheVariants.{Less, Equal, Greater}
use Rattle.std.specs.Cmp.Lexicographic.{slice_cmp}
use Rattle.std.proofs.lemmas.Cmp.{nat_list_cmp_total}
use Rattle.base.specs.declared.limits.TheConstants.{MAX_TREE_HEIGHT, MAX_TREE_SIZE}
use Rattle.path_tree.specs.Children.{child_fields}
use Rattle.path_tree.specs.Find.{child_count, field_count, find_field, field_key_at, key_at}
use Rattle.path_tree.specs.Lists.{is_null}
use Rattle.path_tree.specs.Plain.{Plain, dict, list, text, long, boolean, undef, null, Fields, no_fields, field, tree_size, tree_height, IsTree, IsWhole, AreFields}
use Rattle.path_tree.specs.Put.{put, put_field, over, walk, within_size, within_height}
use Rattle.std.specs.Option.{option_map_or}
use Rattle.path_tree.specs.declared.path.PutError.{PutError}
use Rattle.path_tree.specs.declared.path.PutError.TheVariants as error
use Rattle.path_tree.specs.declared.path.Term.TheVariants.{Key}
use Rattle.stored_rows.specs.Rows.{is_below}
use Rattle.record_rows.specs.declared.error.RowsError.{RowsError}
use Rattle.record_rows.specs.declared.error.RowsError.TheVariants as errors
use Rattle.record_rows.specs.Forms.{◌>>=◌, first_byte}
use Rattle.record_rows.specs.Trees.{ok_of, dict_key, stands_behind, with_last, can_add, added, is_within, fields_at, tree_by, tree_at}
use Rattle.record_rows.specs.Results.{Fails}
use Rattle.record_rows.specs.Reading.{added_dict, dict_of, dict_with, dicts_at}
use Rattle.record_rows.proofs.TreeLaws.{limits_within, within_limits_is, or_false}

-- ---- one tree

pub tree_none : (h : ℕ) (bytes : List ℕ) → h ≡ 0 → tree_at h bytes ≡ None
unfolding tree_at
tree_none zero bytes e = refl
tree_none (suc h) bytes e = absurd (omega (arith, e))

tree_step : (h : ℕ) (bytes : List ℕ) → 0 < h → tree_at h bytes
    ≡ (first_byte bytes >>= λ b. tree_by (tree_at (h - 1)) b.0 b.1)
unfolding tree_at
tree_step zero bytes lt = absurd (omega arith)
tree_step (suc h) bytes lt =
    ap (λ n. first_byte bytes >>= λ b. tree_by (tree_at n) b.0 b.1) (omega arith)

pub tree_goes : (h k : ℕ) (bytes rest : List ℕ) → 0 < h → first_byte bytes ≡ Some (k, rest)
    → tree_at h bytes ≡ tree_by (tree_at (h - 1)) k rest
tree_goes h k bytes rest lt e =
    tree_step h bytes lt ∙ ap (λ r. r >>= λ b. tree_by (tree_at (h - 1)) b.0 b.1) e

pub tree_fails : (e : RowsError) (h : ℕ) (bytes : List ℕ) → 0 < h → Fails e (first_byte bytes)
    → Fails e (tree_at h bytes)
tree_fails errors.Memory h bytes lt f = tt
tree_fails errors.BadRows h bytes lt f =
    tree_step h bytes lt ∙ ap (λ r. r >>= λ b. tree_by (tree_at (h - 1)) b.0 b.1) f

-- ---- the last key

pub none_behind : (t : Plain) (k : List ℕ) → child_count t ≡ 0 → stands_behind k (child_fields t)
    ≡ true
none_behind (dict no_fields) k e = refl
none_behind (dict (field l u fs)) k e = absurd (omega (arith, e))
none_behind (list ts) k e = refl
none_behind (text bs) k e = refl
none_behind (long z) k e = refl
none_behind (boolean b) k e = refl
none_behind undef k e = refl
none_behind null k e = refl

last_key : (fs : Fields) (n : ℕ) (k l : List ℕ) → suc n ≡ field_count fs → field_key_at n fs
    ≡ Some l → stands_behind k fs ≡ is_below l k
last_key no_fields n k l e at = absurd (omega (arith, e))
last_key (field m u no_fields) zero k l e at =
    ap (λ x. is_below x k) (let same : ◌≡◌ {A = Option (List ℕ)} (Some m) (Some l) = at in cc)
last_key (field m u no_fields) (suc n) k l e at = absurd (omega (arith, e))
last_key (field m u (field m' u' fs)) zero k l e at = absurd (omega (arith, e))
last_key (field m u (field m' u' fs)) (suc n) k l e at =
    last_key (field m' u' fs) n k l (omega (arith, e)) at

pub behind_last : (t : Plain) (n : ℕ) (k l : List ℕ) → n ≡ child_count t → n ≢ 0 → key_at (n - 1) t
    ≡ Some l → stands_behind k (child_fields t) ≡ is_below l k
behind_last (dict fs) zero k l e some at = absurd (some refl)
behind_last (dict fs) (suc n) k l e some at =
    let one : suc n - 1 ≡ n = omega arith in
    last_key fs n k l e (ap (λ i. field_key_at i fs) (sym one) ∙ at)
behind_last (list ts) n k l e some at =
    absurd (let clash : ◌≡◌ {A = Option (List ℕ)} None (Some l) = at in cc)
behind_last (text bs) n k l e some at =
    absurd (let clash : ◌≡◌ {A = Option (List ℕ)} None (Some l) = at in cc)
behind_last (long z) n k l e some at =
    absurd (let clash : ◌≡◌ {A = Option (List ℕ)} None (Some l) = at in cc)
behind_last (boolean b) n k l e some at =
    absurd (let clash : ◌≡◌ {A = Option (List ℕ)} None (Some l) = at in cc)
behind_last undef n k l e some at =
    absurd (let clash : ◌≡◌ {A = Option (List ℕ)} None (Some l) = at in cc)
behind_last null n k l e some at =
    absurd (let clash : ◌≡◌ {A = Option (List ℕ)} None (Some l) = at in cc)

no_key : (fs : Fields) (n : ℕ) (k : List ℕ) → field_key_at n fs ≡ None → suc n ≡ field_count fs
    → stands_behind k fs ≡ true
no_key no_fields n k at e = refl
no_key (field m u fs) zero k at e =
    absurd (let clash : ◌≡◌ {A = Option (List ℕ)} (Some m) None = at in cc)
no_key (field m u no_fields) (suc n) k at e = absurd (omega (arith, e))
no_key (field m u (field m' u' fs)) (suc n) k at e =
    no_key (field m' u' fs) n k at (omega (arith, e))

pub behind_none : (t : Plain) (n : ℕ) (k : List ℕ) → n ≡ child_count t → n ≢ 0 → key_at (n - 1) t
    ≡ None → stands_behind k (child_fields t) ≡ true
behind_none (dict fs) zero k e some at = absurd (some refl)
behind_none (dict fs) (suc n) k e some at =
    let one : suc n - 1 ≡ n = omega arith in
    no_key fs n k (ap (λ i. field_key_at i fs) (sym one) ∙ at) e
behind_none (list ts) n k e some at = refl
behind_none (text bs) n k e some at = refl
behind_none (long z) n k e some at = refl
behind_none (boolean b) n k e some at = refl
behind_none undef n k e some at = refl
behind_none null n k e some at = refl

-- ---- a field at the end

below_is : (a b : List ℕ) → is_below a b ≡ true → slice_cmp nat_cmp a b ≡ Less
below_is a b e = at (slice_cmp nat_cmp a b) e
  where
    at : (o : Ordering) → is_lt o ≡ true → o ≡ Less
    at Less e = refl
    at Equal e = absurd (let clash : false ≡ true = e in cc)
    at Greater e = absurd (let clash : false ≡ true = e in cc)

above_is : (a b : List ℕ) → slice_cmp nat_cmp a b ≡ Less → slice_cmp nat_cmp b a ≡ Greater
above_is a b e = nat_list_cmp_total.antisymm b a ∙ ap ordering_reverse e

-- the first of the fields stands before the key
first_below : (l k : List ℕ) (t : Plain) (fs : Fields) → AreFields (field l t fs)
    → stands_behind k (field l t fs) ≡ true → slice_cmp nat_cmp l k ≡ Less
first_below l k t no_fields are e = below_is l k e
first_below l k t (field m u fs) are e =
    nat_list_cmp_total.trans l m k are.3 (first_below m k u fs are.4 e)

behind_rest : (l k : List ℕ) (t : Plain) (fs : Fields) → stands_behind k (field l t fs) ≡ true
    → stands_behind k fs ≡ true
behind_rest l k t no_fields e = refl
behind_rest l k t (field m u fs) e = e

not_found : (k : List ℕ) (fs : Fields) → AreFields fs → stands_behind k fs ≡ true → find_field k fs
    ≡ None
not_found k no_fields are e = refl
not_found k (field l t fs) are e =
    ap (λ o. match_ordering o None (Some t) (find_field k fs))
    (above_is l k (first_below l k t fs are e)) ∙ not_found k fs are.4 (behind_rest l k t fs e)

put_last : (k : List ℕ) (v : Plain) (fs : Fields) → AreFields fs → stands_behind k fs ≡ true
    → put_field k v fs ≡ with_last k v fs
put_last k v no_fields are e = refl
put_last k v (field l t fs) are e =
    ap (λ o. match_ordering o (field k v (field l t fs)) (field l v fs)
    (field l t (put_field k v fs))) (above_is l k (first_below l k t fs are e))
    ∙ ap (field l t) (put_last k v fs are.4 (behind_rest l k t fs e))

put_is : (k : List ℕ) (v : Plain) (fs : Fields) → AreFields fs → stands_behind k fs ≡ true
    → put (Key k ∷ []) v (dict fs) ≡ within_height (within_size (Ok (dict (with_last k v fs))))
put_is k v fs are e =
    ap (λ f. within_height (within_size (over (λ c. dict (put_field k c fs))
    (option_map_or (walk 1 [] v) f (Ok v))))) (not_found k fs are e)
    ∙ ap (λ gs. within_height (within_size (Ok (dict gs)))) (put_last k v fs are e)

limited : (t u : Plain) → within_height (within_size (Ok t)) ≡ Ok u → (is_within t ≡ true) × (t ≡ u)
limited t u e = at (nat_lt MAX_TREE_SIZE (tree_size t)) (nat_lt MAX_TREE_HEIGHT (tree_height t))
    refl refl e
  where
    at : (a b : Bool) → nat_lt MAX_TREE_SIZE (tree_size t) ≡ a
        → nat_lt MAX_TREE_HEIGHT (tree_height t) ≡ b → within_height
        (cond a (Err error.TooLarge) (Ok t)) ≡ Ok u → (is_within t ≡ true) × (t ≡ u)
    at true b p q e = absurd (let clash : ◌≡◌ {A = Result Plain PutError} (Err error.TooLarge)
        (Ok u) = e in cc)
    at false true p q e = absurd (let clash : ◌≡◌ {A = Result Plain PutError} (Err error.TooHigh)
        (Ok u) = ap (λ b. cond b (Err error.TooHigh) (Ok t)) (sym q) ∙ e in cc)
    at false false p q e =
        let same : ◌≡◌ {A = Result Plain PutError} (Ok t) (Ok u) =
        ap (λ b. cond b (Err error.TooHigh) (Ok t)) (sym q) ∙ e in
        (within_limits_is t (ap (λ a. a || nat_lt MAX_TREE_HEIGHT (tree_height t)) p ∙ q), cc)

unlimited : (t : Plain) (f : PutError) → within_height (within_size (Ok t)) ≡ Err f → is_within t
    ≡ false
unlimited t f e = at (is_within t) refl
  where
    at : (b : Bool) → is_within t ≡ b → b ≡ false
    at false is = refl
    at true is = absurd (
        let l = limits_within t is in
        let p = or_false (nat_lt MAX_TREE_SIZE (tree_size t))
        (nat_lt MAX_TREE_HEIGHT (tree_height t)) l in
        let size : within_height (within_size (Ok t)) ≡ within_height (Ok t) =
        ap (λ a. within_height (cond a (Err error.TooLarge) (Ok t))) p.0 in
        let height : within_height (Ok t) ≡ Ok t =
        ap (λ b. cond b (Err error.TooHigh) (Ok t)) p.1 in
        let clash : ◌≡◌ {A = Result Plain PutError} (Ok t) (Err f) = sym height ∙ sym size ∙ e in
        cc)

fields_are : (t : Plain) (fs : Fields) → t ≡ dict fs → IsTree t → AreFields fs
fields_are t fs e is = subst IsWhole e is.whole

-- a put at a key behind all others is the field at the end
put_adds : (t v u : Plain) (k : List ℕ) → t ≡ dict (child_fields t) → IsTree t → is_null v ≡ false
    → stands_behind k (child_fields t) ≡ true → put (Key k ∷ []) v t ≡ Ok u
    → added_dict k v (child_fields t) ≡ Some u
put_adds t v u k is tree some behind e =
    let fs = child_fields t in
    let put_at : within_height (within_size (Ok (dict (with_last k v fs)))) ≡ Ok u =
    sym (put_is k v fs (fields_are t fs is tree) behind) ∙ ap (put (Key k ∷ []) v) (sym is)
    ∙ e in
    let l = limited (dict (with_last k v fs)) u put_at in
    ap (λ b. cond b (Some (with_last k v fs)) None >>= dict_of) (may behind some l.0) ∙ ap Some l.1
  where
    may : stands_behind k (child_fields t) ≡ true → is_null v ≡ false
        → is_within (dict (with_last k v (child_fields t))) ≡ true → can_add k v (child_fields t)
        ≡ true
    may a b c = rw (a, b, c) refl

put_refused : (t v : Plain) (k : List ℕ) (f : PutError) → t ≡ dict (child_fields t) → IsTree t
    → stands_behind k (child_fields t) ≡ true → put (Key k ∷ []) v t ≡ Err f
    → added_dict k v (child_fields t) ≡ None
put_refused t v k f is tree behind e =
    let fs = child_fields t in
    let put_at : within_height (within_size (Ok (dict (with_last k v fs)))) ≡ Err f =
    sym (put_is k v fs (fields_are t fs is tree) behind) ∙ ap (put (Key k ∷ []) v) (sym is)
    ∙ e in
    ap (λ b. cond b (Some (with_last k v fs)) None >>= dict_of)
    (and_last (stands_behind k fs && not (is_null v)) (is_within (dict (with_last k v fs)))
    (unlimited (dict (with_last k v fs)) f put_at))
  where
    and_last : (a b : Bool) → b ≡ false → a && b ≡ false
    and_last true b e = e
    and_last false b e = refl

pub put_gives : (t v : Plain) (k : List ℕ) → t ≡ dict (child_fields t) → IsTree t → is_null v
    ≡ false → stands_behind k (child_fields t) ≡ true → added_dict k v (child_fields t)
    ≡ ok_of (put (Key k ∷ []) v t)
put_gives t v k is tree some behind = at (put (Key k ∷ []) v t) refl
  where
    at : (r : Result Plain PutError) → put (Key k ∷ []) v t ≡ r → added_dict k v (child_fields t)
        ≡ ok_of r
    at (Ok u) e = put_adds t v u k is tree some behind e
    at (Err f) e = put_refused t v k f is tree behind e

-- ---- fields one after the other

module _ (below : List ℕ → Option (Plain × List ℕ)) where
  dicts_step : (count i : ℕ) (fs : Fields) (bytes : List ℕ) → i < count
      → dicts_at below (count - i) fs bytes
      ≡ (dict_key.read bytes >>= λ k. below k.1 >>= λ v. added k.0 v.0 fs >>= λ more. dicts_at below
      (count - (i + 1)) more v.1)
  unfolding fields_at
  dicts_step count i fs bytes lt =
      let k : count - i ≡ suc (count - (i + 1)) = omega arith in
      ap (λ n. dicts_at below n fs bytes) k ∙ at (dict_key.read bytes)
    where
      at_added : (rest : List ℕ) (more : Option Fields)
          → ((more >>= λ gs. fields_at below (count - (i + 1)) gs rest) >>= dict_with)
          ≡ (more >>= λ gs. dicts_at below (count - (i + 1)) gs rest)
      at_added rest None = refl
      at_added rest (Some gs) = refl

      at_value : (k : List ℕ) (v : Option (Plain × List ℕ))
          → ((v >>= λ v. added k v.0 fs >>= λ gs. fields_at below (count - (i + 1)) gs v.1) >>=
          dict_with) ≡ (v >>= λ v. added k v.0 fs >>= λ gs. dicts_at below (count - (i + 1)) gs v.1)
      at_value k None = refl
      at_value k (Some v) = at_added v.1 (added k v.0 fs)

      at : (k : Option (List ℕ × List ℕ))
          → ((k >>= λ k. below k.1 >>= λ v. added k.0 v.0 fs >>= λ gs. fields_at below
          (count - (i + 1)) gs v.1) >>= dict_with)
          ≡ (k >>= λ k. below k.1 >>= λ v. added k.0 v.0 fs >>= λ gs. dicts_at below
          (count - (i + 1)) gs v.1)
      at None = refl
      at (Some k) = at_value k.0 (below k.1)

  pub key_fails : (e : RowsError) (count i : ℕ) (fs : Fields) (bytes : List ℕ)
      (total : Option (Plain × List ℕ)) → i < count → Fails e (dict_key.read bytes)
      → dicts_at below (count - i) fs bytes ≡ total → Fails e total
  key_fails errors.Memory count i fs bytes total lt h so_far = tt
  key_fails errors.BadRows count i fs bytes total lt h so_far =
      sym so_far ∙ dicts_step count i fs bytes lt ∙ ap
      (λ r. r >>= λ k. below k.1 >>= λ v. added k.0 v.0 fs >>= λ more. dicts_at below
      (count - (i + 1)) more v.1) h

  pub value_fails : (e : RowsError) (count i : ℕ) (fs : Fields) (bytes k after : List ℕ)
      (total : Option (Plain × List ℕ)) → i < count → dict_key.read bytes ≡ Some (k, after)
      → Fails e (below after) → dicts_at below (count - i) fs bytes ≡ total → Fails e total
  value_fails errors.Memory count i fs bytes k after total lt h f so_far = tt
  value_fails errors.BadRows count i fs bytes k after total lt h f so_far =
      sym so_far ∙ dicts_step count i fs bytes lt ∙ ap
      (λ r. r >>= λ k. below k.1 >>= λ v. added k.0 v.0 fs >>= λ more. dicts_at below
      (count - (i + 1)) more v.1) h
      ∙ ap (λ r. r >>= λ v. added k v.0 fs >>= λ more. dicts_at below (count - (i + 1)) more v.1) f

  from_dict : (more : Option Fields) → (more >>= dict_of) ≡ None → more ≡ None
  from_dict None e = refl
  from_dict (Some gs) e = absurd (let clash : ◌≡◌ {A = Option Plain} (Some (dict gs)) None = e in
      cc)

  to_dict : (more : Option Fields) (d : Plain) → (more >>= dict_of) ≡ Some d
      → (more ≡ Some (child_fields d)) × (d ≡ dict (child_fields d))
  to_dict None d e = absurd (let clash : ◌≡◌ {A = Option Plain} None (Some d) = e in cc)
  to_dict (Some gs) d e =
      let same : dict gs ≡ d =
      (let s : ◌≡◌ {A = Option Plain} (Some (dict gs)) (Some d) = e in cc) in
      (ap (λ x. Some (child_fields x)) same, sym same ∙ ap (λ x. dict (child_fields x)) same)

  pub field_fails : (e : RowsError) (count i : ℕ) (fs : Fields) (v : Plain)
      (bytes k after rest : List ℕ) (total : Option (Plain × List ℕ)) → i < count
      → dict_key.read bytes ≡ Some (k, after) → below after ≡ Some (v, rest)
      → Fails e (added_dict k v fs) → dicts_at below (count - i) fs bytes ≡ total → Fails e total
  field_fails errors.Memory count i fs v bytes k after rest total lt h f g so_far = tt
  field_fails errors.BadRows count i fs v bytes k after rest total lt h f g so_far =
      sym so_far ∙ dicts_step count i fs bytes lt ∙ ap
      (λ r. r >>= λ k. below k.1 >>= λ v. added k.0 v.0 fs >>= λ more. dicts_at below
      (count - (i + 1)) more v.1) h
      ∙ ap (λ r. r >>= λ v. added k v.0 fs >>= λ more. dicts_at below (count - (i + 1)) more v.1) f
      ∙ ap (λ r. r >>= λ more. dicts_at below (count - (i + 1)) more rest)
      (from_dict (added k v fs) g)

  pub record GoesOn (count i : ℕ) (d : Plain) (rest : List ℕ)
      (total : Option (Plain × List ℕ)) : Type 0 where
    pub is_dict : d ≡ dict (child_fields d)
    pub so_far : dicts_at below (count - (i + 1)) (child_fields d) rest ≡ total

  pub field_goes : (count i : ℕ) (fs : Fields) (v d : Plain) (bytes k after rest : List ℕ)
      (total : Option (Plain × List ℕ)) → i < count → dict_key.read bytes ≡ Some (k, after)
      → below after ≡ Some (v, rest) → added_dict k v fs ≡ Some d
      → dicts_at below (count - i) fs bytes ≡ total → GoesOn count i d rest total
  field_goes count i fs v d bytes k after rest total lt h f g so_far =
      let to = to_dict (added k v fs) d g in
      let one : dicts_at below (count - i) fs bytes
      ≡ dicts_at below (count - (i + 1)) (child_fields d) rest =
      dicts_step count i fs bytes lt
      ∙ ap (λ r. r >>= λ k. below k.1 >>= λ v. added k.0 v.0 fs >>= λ more. dicts_at below
      (count - (i + 1)) more v.1) h
      ∙ ap (λ r. r >>= λ v. added k v.0 fs >>= λ more. dicts_at below (count - (i + 1)) more v.1) f
      ∙ ap (λ r. r >>= λ more. dicts_at below (count - (i + 1)) more rest) to.0 in
      record { is_dict = to.1; so_far = sym one ∙ so_far }

  pub fields_done : (count i : ℕ) (d : Plain) (bytes : List ℕ) (total : Option (Plain × List ℕ))
      → count ≤ i → d ≡ dict (child_fields d) → dicts_at below (count - i) (child_fields d) bytes
      ≡ total → total ≡ Some (d, bytes)
  unfolding fields_at
  fields_done count i d bytes total le is so_far =
      let k : count - i ≡ 0 = omega arith in
      sym so_far ∙ ap (λ n. dicts_at below n (child_fields d) bytes) k
      ∙ ap (λ x. Some (x, bytes)) (sym is)
