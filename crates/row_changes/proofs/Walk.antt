-- What differs in the rest of two lists of rows, where the row whose name stands first is passed.
use Rattle.std.proofs.Common.{◌≡◌, ℕ, ◌-◌, ◌≤◌, Bool, true, false, List, [], ◌∷◌, ◌++◌, length, map, take, drop, ◌&&◌, cond, Some, None, refl, sym, ap, subst, ◌∙◌, arith, append_assoc, zero, suc}
use Rattle.std.specs.Prelude.{bytes_eq, is_some, not, Result, Ok, Err, OnOk, IfOk}
use Rattle.std.specs.declared.alloc.AllocError.{AllocError}
use Rattle.std.specs.Option.{option_eq}
use Rattle.std.specs.declared.cmp.Ordering.{Ordering}
use Rattle.std.specs.declared.cmp.Ordering.TheVariants.{Less, Equal, Greater}
use Rattle.std.specs.Ordering.{is_lt, is_eq, nat_cmp, match_ordering, ordering_reverse}
use Rattle.std.specs.Cmp.Lexicographic.{slice_cmp}
use Rattle.std.proofs.lemmas.Bool.{and_parts}
use Rattle.std.proofs.lemmas.Cmp.{nat_list_cmp_total}
use Rattle.std.proofs.lemmas.List.{append-nil, take_rest}
use Rattle.std.proofs.lemmas.Slice.Eq.{bytes_eq-Decides}
use Rattle.std.proofs.lemmas.Map.Text.{is_eq-slice_cmp}
use Rattle.std.proofs.lemmas.Map.Lookups.{exact_bytes}
use Rattle.stored_rows.specs.declared.row.StoredRow.{StoredRow}
use Rattle.stored_rows.specs.Rows.{row_name, is_below, are_rising, bytes_under}
use Rattle.stored_rows.proofs.Above.{names_rise, above_none}
use Rattle.row_changes.specs.Differing.{has_name, has_row, gone_from, set_from}
use Rattle.row_changes.specs.Passed.{Passes, gone_at, set_at, passed_at, reached_at}

less_of : (o : Ordering) → is_lt o ≡ true → o ≡ Less
less_of Less h = refl
less_of Equal h = cc
less_of Greater h = cc

pub both : (a b : Bool) → a ≡ true → b ≡ true → a && b ≡ true
both true b p q = q
both false b p q = cc

-- ---- names above one

below_then : (a b c : List ℕ) → is_below a b ≡ true → is_below b c ≡ true → is_below a c ≡ true
below_then a b c p q = ap is_lt (nat_list_cmp_total.trans a b c (less_of _ p) (less_of _ q))

pub rises_from : (a b : List ℕ) (rows : List StoredRow) → is_below a b ≡ true
    → names_rise (Some b) rows ≡ true → names_rise (Some a) rows ≡ true
rises_from a b [] p q = refl
rises_from a b (r ∷ rs) p q =
    both _ _ (below_then a b r.name p (and_parts _ _ q).0) (and_parts _ _ q).1

lower_differs : (a b : List ℕ) (o : Ordering) → slice_cmp nat_cmp a b ≡ o → is_lt o ≡ true
    → bytes_eq a b ≡ false
lower_differs a b Less is h = sym (is_eq-slice_cmp a b) ∙ ap is_eq is
lower_differs a b Equal is h = cc
lower_differs a b Greater is h = cc

turned : (a b : List ℕ) (x : Bool) → bytes_eq a b ≡ false → bytes_eq b a ≡ x → x ≡ false
turned a b false p q = refl
turned a b true p q =
    let same : a ≡ b = sym ((bytes_eq-Decides b a).0 q) in
    let clash : true ≡ false = sym ((bytes_eq-Decides a b).1 same) ∙ p in cc

-- two names, of which the first is lower, are two
pub apart : (a b : List ℕ) → is_below a b ≡ true → bytes_eq a b ≡ false
apart a b h = lower_differs a b _ refl h

pub apart_back : (a b : List ℕ) → is_below a b ≡ true → bytes_eq b a ≡ false
apart_back a b h = turned a b _ (apart a b h) refl

-- nothing stands under a name that all others are above
pub absent : (n : List ℕ) (rows : List StoredRow) → names_rise (Some n) rows ≡ true
    → bytes_under rows n ≡ None
absent n [] h = refl
absent n (r ∷ rs) h =
    let p = (and_parts _ _ h).0 in
    ap (λ b. cond b (Some r.bytes) (bytes_under rs n)) (apart_back n r.name p)
    ∙ absent n rs (rises_from n r.name rs p (and_parts _ _ h).1)

-- ---- a row below all rows of the other list changes nothing there

pub gone_skips : (rows : List StoredRow) (b : StoredRow) (bs : List StoredRow)
    → names_rise (Some b.name) rows ≡ true → gone_from rows (b ∷ bs) ≡ gone_from rows bs
gone_skips [] b bs h = refl
gone_skips (r ∷ rs) b bs h =
    let p = (and_parts _ _ h).0 in
    let rest = gone_skips rs b bs (rises_from b.name r.name rs p (and_parts _ _ h).1) in
    ap (λ k. cond (not (is_some (cond k (Some b.bytes) (bytes_under bs r.name))))
    (r.name ∷ gone_from rs (b ∷ bs)) (gone_from rs (b ∷ bs))) (apart b.name r.name p)
    ∙ ap (λ k. cond (not (has_name bs r.name)) (r.name ∷ k) k) rest

pub set_skips : (rows : List StoredRow) (a : StoredRow) (olds : List StoredRow)
    → names_rise (Some a.name) rows ≡ true → set_from (a ∷ olds) rows ≡ set_from olds rows
set_skips [] a olds h = refl
set_skips (r ∷ rs) a olds h =
    let p = (and_parts _ _ h).0 in
    let rest = set_skips rs a olds (rises_from a.name r.name rs p (and_parts _ _ h).1) in
    ap (λ k. cond (not (option_eq bytes_eq (cond k (Some a.bytes) (bytes_under olds r.name))
    (Some r.bytes))) (r ∷ set_from (a ∷ olds) rs) (set_from (a ∷ olds) rs)) (apart a.name r.name p)
    ∙ ap (λ k. cond (not (has_row olds r)) (r ∷ k) k) rest

-- ---- one step

-- a name is gone
pub passes_gone : (a : StoredRow) (olds wanted : List StoredRow) (gone : List (List ℕ))
    (set : List StoredRow) → bytes_under wanted a.name ≡ None
    → set_from (a ∷ olds) wanted ≡ set_from olds wanted
    → Passes (a ∷ olds) wanted gone (gone ++ (a.name ∷ [])) set set 1 0
passes_gone a olds wanted gone set none skips = record {
  last_within = omega arith;
  wanted_within = omega arith;
  moves = λ _. omega arith;
  gone = append_assoc gone (a.name ∷ []) (gone_from olds wanted)
      ∙ ap (λ k. gone ++ k) (sym (ap (λ k. cond (not (is_some k))
      (a.name ∷ gone_from olds wanted) (gone_from olds wanted)) none));
  set = ap (λ k. set ++ k) (sym skips);
}

-- a row is set that was not there
pub passes_new : (b : StoredRow) (last news : List StoredRow) (gone : List (List ℕ))
    (set : List StoredRow) → bytes_under last b.name ≡ None
    → gone_from last (b ∷ news) ≡ gone_from last news
    → Passes last (b ∷ news) gone gone set (set ++ (b ∷ [])) 0 1
passes_new b last news gone set none skips = record {
  last_within = omega arith;
  wanted_within = omega arith;
  moves = λ _. omega arith;
  gone = ap (λ k. gone ++ k) (sym skips);
  set = append_assoc set (b ∷ []) (set_from last news)
      ∙ ap (λ k. set ++ k) (sym (ap (λ k. cond (not (option_eq bytes_eq k
      (Some b.bytes))) (b ∷ set_from last news) (set_from last news)) none));
}

pub same_name : (a b : List ℕ) → a ≡ b → bytes_eq a b ≡ true
same_name a b is = (bytes_eq-Decides a b).1 is

placed : (same : Bool) (b : StoredRow) (set rest : List StoredRow)
    → (set ++ cond same [] (b ∷ [])) ++ rest ≡ set ++ cond (not same) (b ∷ rest) rest
placed true b set rest = append_assoc set [] rest
placed false b set rest = append_assoc set (b ∷ []) rest

pub gone_both : (a b : StoredRow) (olds news : List StoredRow) → a.name ≡ b.name
    → names_rise (Some a.name) olds ≡ true
    → gone_from (a ∷ olds) (b ∷ news) ≡ gone_from olds news
gone_both a b olds news is rise =
    ap (λ k. cond (not (is_some (cond k (Some b.bytes) (bytes_under news a.name))))
    (a.name ∷ gone_from olds (b ∷ news)) (gone_from olds (b ∷ news)))
    (same_name b.name a.name (sym is))
    ∙ gone_skips olds b news (subst (λ k. names_rise (Some k) olds ≡ true) is rise)

pub set_both : (a b : StoredRow) (olds news : List StoredRow) → a.name ≡ b.name
    → names_rise (Some b.name) news ≡ true → set_from (a ∷ olds) (b ∷ news)
    ≡ cond (not (bytes_eq a.bytes b.bytes)) (b ∷ set_from olds news) (set_from olds news)
set_both a b olds news is rise =
    ap (λ k. cond (not (option_eq bytes_eq (cond k (Some a.bytes) (bytes_under olds b.name))
    (Some b.bytes))) (b ∷ set_from (a ∷ olds) news) (set_from (a ∷ olds) news))
    (same_name a.name b.name is)
    ∙ ap (λ k. cond (not (bytes_eq a.bytes b.bytes)) (b ∷ k) k)
    (set_skips news a olds (subst (λ k. names_rise (Some k) news ≡ true) (sym is) rise))

-- the row was there, with these bytes or with others
pub passes_both : (a b : StoredRow) (olds news : List StoredRow) (gone : List (List ℕ))
    (set : List StoredRow) → a.name ≡ b.name → names_rise (Some a.name) olds ≡ true
    → names_rise (Some b.name) news ≡ true
    → Passes (a ∷ olds) (b ∷ news) gone (gone ++ []) set
    (set ++ cond (bytes_eq a.bytes b.bytes) [] (b ∷ [])) 1 1
passes_both a b olds news gone set is p q = record {
  last_within = omega arith;
  wanted_within = omega arith;
  moves = λ _. omega arith;
  gone = append_assoc gone [] (gone_from olds news)
      ∙ ap (λ k. gone ++ k) (sym (gone_both a b olds news is p));
  set = placed (bytes_eq a.bytes b.bytes) b set (set_from olds news)
      ∙ ap (λ k. set ++ k) (sym (set_both a b olds news is q));
}

passes_by : (a b : StoredRow) (olds news : List StoredRow) (gone : List (List ℕ))
    (set : List StoredRow) (o : Ordering) → slice_cmp nat_cmp a.name b.name ≡ o
    → names_rise (Some a.name) olds ≡ true → names_rise (Some b.name) news ≡ true
    → Passes (a ∷ olds) (b ∷ news) gone (gone ++ match_ordering o (a.name ∷ []) [] []) set
    (set ++ match_ordering o [] (cond (bytes_eq a.bytes b.bytes) [] (b ∷ [])) (b ∷ []))
    (match_ordering o 1 1 0) (match_ordering o 0 1 1)
passes_by a b olds news gone set Less is p q =
    let above : names_rise (Some a.name) (b ∷ news) ≡ true = both _ _ (ap is_lt is) q in
    subst (λ k. Passes (a ∷ olds) (b ∷ news) gone (gone ++ (a.name ∷ [])) set k 1 0)
    (sym (append-nil set))
    (passes_gone a olds (b ∷ news) gone set (absent a.name (b ∷ news) above)
    (set_skips (b ∷ news) a olds above))
passes_by a b olds news gone set Equal is p q =
    passes_both a b olds news gone set (exact_bytes a.name b.name is) p q
passes_by a b olds news gone set Greater is p q =
    let lower : is_below b.name a.name ≡ true =
    ap is_lt (nat_list_cmp_total.antisymm b.name a.name ∙ ap ordering_reverse is) in
    let above : names_rise (Some b.name) (a ∷ olds) ≡ true = both _ _ lower p in
    subst (λ k. Passes (a ∷ olds) (b ∷ news) gone k set (set ++ (b ∷ [])) 0 1)
    (sym (append-nil gone))
    (passes_new b (a ∷ olds) news gone set (absent b.name (a ∷ olds) above)
    (gone_skips (a ∷ olds) b news above))

pub above_first : (a : StoredRow) (rows : List StoredRow) → are_rising (map row_name (a ∷ rows))
    ≡ true
    → names_rise (Some a.name) rows ≡ true
above_first a rows h = above_none (a ∷ rows) ∙ h

-- the row whose name stands first, or both where they have one name
pub passes_lower : (a b : StoredRow) (olds news : List StoredRow) (gone : List (List ℕ))
    (set : List StoredRow) → are_rising (map row_name (a ∷ olds)) ≡ true
    → are_rising (map row_name (b ∷ news)) ≡ true
    → Passes (a ∷ olds) (b ∷ news) gone (gone ++ gone_at a b) set (set ++ set_at a b)
    (passed_at a b) (reached_at a b)
passes_lower a b olds news gone set p q =
    passes_by a b olds news gone set _ refl (above_first a olds p) (above_first b news q)

-- .. as a call tells it
pub lower_passes : (a b : StoredRow) (last wanted : List StoredRow)
    (gone_before gone_now : List (List ℕ)) (set_before set_now : List StoredRow)
    (result : Result (ℕ × ℕ) AllocError) → last ≡ a ∷ drop 1 last → wanted ≡ b ∷ drop 1 wanted
    → are_rising (map row_name last) ≡ true → are_rising (map row_name wanted) ≡ true
    → OnOk result (gone_now ≡ gone_before ++ gone_at a b)
    → OnOk result (set_now ≡ set_before ++ set_at a b)
    → IfOk result (λ r. r.0 ≡ passed_at a b) → IfOk result (λ r. r.1 ≡ reached_at a b)
    → IfOk result (λ r. Passes last wanted gone_before gone_now set_before set_now r.0 r.1)
lower_passes a b last wanted gone_before gone_now set_before set_now (Err e) old new p q g s i j =
    tt
lower_passes a b last wanted gone_before gone_now set_before set_now (Ok r) old new p q g s i j =
    let olds = drop 1 last in
    let news = drop 1 wanted in
    let all : Passes (a ∷ olds) (b ∷ news) gone_before (gone_before ++ gone_at a b) set_before
    (set_before ++ set_at a b) (passed_at a b) (reached_at a b) =
    passes_lower a b olds news gone_before set_before
    (subst (λ k. are_rising (map row_name k) ≡ true) old p)
    (subst (λ k. are_rising (map row_name k) ≡ true) new q) in
    subst (λ k. Passes last wanted gone_before gone_now set_before set_now k r.1) (sym i)
    (subst (λ k. Passes last wanted gone_before gone_now set_before set_now (passed_at a b) k)
    (sym j) (subst (λ k. Passes last wanted gone_before k set_before set_now (passed_at a b)
    (reached_at a b)) (sym g) (subst (λ k. Passes last wanted gone_before (gone_before
    ++ gone_at a b) set_before k (passed_at a b) (reached_at a b)) (sym s)
    (subst (λ k. Passes k wanted gone_before (gone_before ++ gone_at a b) set_before (set_before
    ++ set_at a b) (passed_at a b) (reached_at a b)) (sym old)
    (subst (λ k. Passes (a ∷ olds) k gone_before (gone_before ++ gone_at a b) set_before
    (set_before ++ set_at a b) (passed_at a b) (reached_at a b)) (sym new) all)))))

-- ---- the walk

-- So many rows of each list are passed, and what differs in them is noted.
pub record Walked (last wanted : List StoredRow) (gone_now : List (List ℕ))
    (set_now : List StoredRow) (i j : ℕ) : Type 0 where
  pub last_within : i ≤ length last
  pub wanted_within : j ≤ length wanted
  pub gone : gone_now ++ gone_from (drop i last) (drop j wanted) ≡ gone_from last wanted
  pub set : set_now ++ set_from (drop i last) (drop j wanted) ≡ set_from last wanted

pub rises_on : (k : ℕ) (rows : List StoredRow) → are_rising (map row_name rows) ≡ true
    → are_rising (map row_name (drop k rows)) ≡ true
rises_on zero rows h = h
rises_on (suc k) [] h = h
rises_on (suc k) (r ∷ rs) h = rises_on k rs (and_parts _ _ h).1

-- .. as a slice of the rest has them
pub rest_rises : (i : ℕ) (rows : List StoredRow) → are_rising (map row_name rows) ≡ true
    → are_rising (map row_name (take (length rows - i) (drop i rows))) ≡ true
rest_rises i rows h =
    subst (λ k. are_rising (map row_name k) ≡ true) (sym (take_rest rows i)) (rises_on i rows h)
