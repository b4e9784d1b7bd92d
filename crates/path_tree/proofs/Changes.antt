-- What a put through one term leaves.
use Rattle.std.proofs.Common.{◌≡◌, ℕ, ◌+◌, ◌≤◌, List, ◌∷◌, Some, None, Result, Ok, Err, refl, ap, sym, ◌∙◌, arith}
use Rattle.base.specs.declared.limits.TheConstants.{MAX_TREE_HEIGHT, MAX_TREE_SIZE}
use Rattle.path_tree.specs.Plain.{Plain, dict, list, Items, Fields, tree_size, tree_height}
use Rattle.path_tree.specs.Find.{find_field, item_at}
use Rattle.path_tree.specs.Put.{walk, chain, put_field, put_item, over}
use Rattle.path_tree.specs.Kept.{CanWalk, Walks, FitsMade}
use Rattle.path_tree.specs.declared.path.Term.{Term}
use Rattle.path_tree.specs.declared.path.Term.TheVariants as term
use Rattle.path_tree.specs.declared.path.PutError.{PutError}
use Rattle.path_tree.proofs.Sizes.{IsChange, IsAddition, changes_field, changes_item, adds_field}

abbrev pub the_ok : Plain → Result Plain PutError
the_ok t = Ok t

pub ok_is : {a b : Plain} → the_ok a ≡ the_ok b → a ≡ b
ok_is h = cc

-- what a walk leaves keeps the limits
pub fits_after : (ms : List Term) (v t u : Plain) → CanWalk ms v t → Walks ms v t u → FitsMade u
fits_after ms v t u can walks =
    let e : u ≡ can.after = ok_is (sym (walks can.passed) ∙ can.is) in
    record {
      size = omega (arith, ap tree_size e, can.size);
      height =
          omega (arith, ap tree_height e, can.height);
    }

module _ (m : Term) (ms : List Term) (v t : Plain) (f : Plain → Plain) where
  module _ (c : Plain) (h : IsChange f c t) (is : (n : ℕ) → walk n (m ∷ ms) v t
      ≡ over f (walk (n + 1) ms v c)) where
    below : (n : ℕ) (r : Result Plain PutError) (u : Plain) → walk n ms v c ≡ r → over f r ≡ Ok u
        → tree_size u ≤ MAX_TREE_SIZE → tree_height u ≤ MAX_TREE_HEIGHT → CanWalk ms v c
    below n (Ok w) u at e small low =
        let same : f w ≡ u = cc in
        record {
          passed = n;
          after = w;
          is = at;
          size = omega (arith, h.size w, h.smaller, ap tree_size same);
          height = omega (arith, h.reaches w, ap tree_height same);
        }
    below n (Err x) u at e small low = cc

    pub can_below : CanWalk (m ∷ ms) v t → CanWalk ms v c
    can_below can = below (can.passed + 1) (walk (can.passed + 1) ms v c) can.after refl
        (sym (is can.passed) ∙ can.is) can.size can.height

    pub walks_below : (w : Plain) → Walks ms v c w → Walks (m ∷ ms) v t (f w)
    walks_below w walks n = is n ∙ ap (over f) (walks (n + 1))

  module _ (k : ℕ) (h : IsAddition f k t) (is : (n : ℕ) → walk n (m ∷ ms) v t ≡ Ok (f (chain ms v)))
    where
      pub fits_made : CanWalk (m ∷ ms) v t → FitsMade (chain ms v)
      fits_made can =
          let e : f (chain ms v) ≡ can.after = ok_is (sym (is can.passed) ∙ can.is) in
          record {
            size = omega (arith, h.size (chain ms v), ap tree_size e, can.size);
            height = omega (arith, h.height (chain ms v), ap tree_height e, can.height);
          }

-- the two containers
module _ (ms : List Term) (v : Plain) where
  pub field_below : (k : List ℕ) (fs : Fields) (c : Plain) → find_field k fs ≡ Some c
      → CanWalk (term.Key k ∷ ms) v (dict fs) → CanWalk ms v c
  field_below k fs c found =
      can_below (term.Key k) ms v (dict fs) (λ w. dict (put_field k w fs)) c
      (changes_field k c fs found) (λ n. rw found refl)

  pub field_walks : (k : List ℕ) (fs : Fields) (c w : Plain) → find_field k fs ≡ Some c
      → Walks ms v c w → Walks (term.Key k ∷ ms) v (dict fs) (dict (put_field k w fs))
  field_walks k fs c w found =
      walks_below (term.Key k) ms v (dict fs) (λ w. dict (put_field k w fs)) c
      (changes_field k c fs found) (λ n. rw found refl) w

  pub field_fits : (k : List ℕ) (fs : Fields) → find_field k fs ≡ None
      → CanWalk (term.Key k ∷ ms) v (dict fs) → FitsMade (chain ms v)
  field_fits k fs none = fits_made (term.Key k) ms v (dict fs) (λ w. dict (put_field k w fs)) 0
      (adds_field k fs none) (λ n. rw none refl)

  pub field_new : (k : List ℕ) (fs : Fields) → find_field k fs ≡ None
      → Walks (term.Key k ∷ ms) v (dict fs) (dict (put_field k (chain ms v) fs))
  field_new k fs none n = rw none refl

  pub item_below : (i : ℕ) (ts : Items) (c : Plain) → item_at i ts ≡ Some c
      → CanWalk (term.Index i ∷ ms) v (list ts) → CanWalk ms v c
  item_below i ts c found =
      can_below (term.Index i) ms v (list ts) (λ w. list (put_item i w ts)) c
      (changes_item i c ts found) (λ n. rw found refl)

  pub item_walks : (i : ℕ) (ts : Items) (c w : Plain) → item_at i ts ≡ Some c → Walks ms v c w
      → Walks (term.Index i ∷ ms) v (list ts) (list (put_item i w ts))
  item_walks i ts c w found =
      walks_below (term.Index i) ms v (list ts) (λ w. list (put_item i w ts)) c
      (changes_item i c ts found) (λ n. rw found refl) w

  pub item_fits : (i : ℕ) (ts : Items) (k : ℕ) → IsAddition (λ w. list (put_item i w ts)) k
      (list ts) → item_at i ts ≡ None → CanWalk (term.Index i ∷ ms) v (list ts)
      → FitsMade (chain ms v)
  item_fits i ts k adds none =
      fits_made (term.Index i) ms v (list ts) (λ w. list (put_item i w ts)) k adds
      (λ n. rw none refl)

  pub item_new : (i : ℕ) (ts : Items) → item_at i ts ≡ None
      → Walks (term.Index i ∷ ms) v (list ts) (list (put_item i (chain ms v) ts))
  item_new i ts none n = rw none refl
