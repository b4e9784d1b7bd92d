-- Reading each of a list, as a loop does.
use Rattle.std.proofs.Common.{◌≡◌, ℕ, ◌+◌, ◌≤◌, ◌<◌, List, [], ◌∷◌, ◌++◌, Option, Some, None, Result, Ok, Err, IfOk, length, get_or, take, drop, refl, sym, ap, ◌∙◌, subst, append_assoc}
use Rattle.std.proofs.lemmas.List.{append-nil, drop_more, drop_all, take_more}
use Rattle.kept_state.specs.declared.kept.Kept.{Kept}
use Rattle.kept_state.specs.Stored.{Stored, stored}
use Rattle.stored_rows.specs.declared.row.StoredRow.{StoredRow}
use Rattle.record_rows.specs.declared.error.RowsError.{RowsError}
use Rattle.record_rows.specs.declared.error.RowsError.TheVariants as errors
use Rattle.record_rows.specs.Forms.{◌>>=◌, IsBytes}
use Rattle.record_rows.specs.Rows.{Give}
use Rattle.record_rows.specs.Results.{Fails, Reads}
use Rattle.record_rows.specs.Reading.{AreBytes, all_at, given_by}
use Rattle.record_rows.proofs.RowLaws.{given_found, given_again}

-- what was read before, and what is still read
abbrev pub with_all : {B : Type 0} → List B → Option (List B) → Option (List B)
with_all front read = read >>= λ ys. Some (front ++ ys)

module _ {A B : Type 0} (read : A → Option B) where
  regroup : (front : List B) (y : B) (r : Option (List B))
      → with_all front (r >>= λ ys. Some (y ∷ ys)) ≡ with_all (front ++ y ∷ []) r
  regroup front y (Some ys) = ap Some (simp append_assoc)
  regroup front y None = refl

  here : (xs : List A) (i : ℕ) (x : A) → i < length xs → x ≡ get_or xs i x → drop i xs
      ≡ x ∷ drop (i + 1) xs
  here xs i x lt is = drop_more xs i x lt ∙ ap (λ y. y ∷ drop (i + 1) xs) (sym is)

  pub all_goes : (front : List B) (xs : List A) (i : ℕ) (x : A) (y : B) (total : Option (List B))
      → i < length xs → x ≡ get_or xs i x → read x ≡ Some y
      → with_all front (all_at read (drop i xs)) ≡ total
      → with_all (front ++ y ∷ []) (all_at read (drop (i + 1) xs)) ≡ total
  unfolding all_at
  all_goes front xs i x y total lt is h so_far =
      sym (ap (λ ys. with_all front (all_at read ys)) (here xs i x lt is)
      ∙ ap (λ r. with_all front (r >>= λ y. all_at read (drop (i + 1) xs) >>= λ ys. Some (y ∷ ys)))
      h
      ∙ regroup front y (all_at read (drop (i + 1) xs))) ∙ so_far

  pub all_ends : (e : RowsError) (front : List B) (xs : List A) (i : ℕ) (x : A)
      (total : Option (List B)) → i < length xs → x ≡ get_or xs i x → Fails e (read x)
      → with_all front (all_at read (drop i xs)) ≡ total → Fails e total
  unfolding all_at
  all_ends errors.Memory front xs i x total lt is h so_far = tt
  all_ends errors.BadRows front xs i x total lt is h so_far =
      sym so_far ∙ ap (λ ys. with_all front (all_at read ys)) (here xs i x lt is)
      ∙ ap (λ r. with_all front (r >>= λ y. all_at read (drop (i + 1) xs) >>= λ ys. Some (y ∷ ys)))
      h

  pub all_done : (front : List B) (xs : List A) (i : ℕ) (total : Option (List B)) → length xs ≤ i
      → with_all front (all_at read (drop i xs)) ≡ total → total ≡ Some front
  unfolding all_at
  all_done front xs i total le so_far =
      sym so_far ∙ ap (λ ys. with_all front (all_at read ys)) (drop_all i xs le)
      ∙ ap Some (append-nil front)

-- ---- the bytes of rows

bytes_push : (rows : List StoredRow) (r : StoredRow) → AreBytes rows → IsBytes r.bytes
    → AreBytes (rows ++ r ∷ [])
bytes_push [] r h one = (one, tt)
bytes_push (q ∷ rows) r h one = (h.0, bytes_push rows r h.1 one)

pub bytes_more : (rows : List StoredRow) (i : ℕ) (r : StoredRow) → i < length rows → r
    ≡ get_or rows i r → AreBytes (take i rows) → IsBytes r.bytes → AreBytes (take (i + 1) rows)
bytes_more rows i r lt is h one =
    subst AreBytes (sym (take_more rows i r lt ∙ ap (λ q. take i rows ++ q ∷ []) (sym is)))
    (bytes_push (take i rows) r h one)

-- ---- the whole

pub is_found : (rows : List StoredRow) (r : Result Kept RowsError) → AreBytes rows
    → Reads stored r (given_by rows) → IfOk r (λ k. Give rows (stored k))
is_found rows (Ok k) h e = given_found rows (stored k) h e
is_found rows (Err e) h f = tt

pub is_only_one : (rows : List StoredRow) (r : Result Kept RowsError) (s : Stored) → Give rows s
    → Reads stored r (given_by rows) → Reads stored r (Some s)
is_only_one rows r s g e = subst (Reads stored r) (given_again rows s g) e
