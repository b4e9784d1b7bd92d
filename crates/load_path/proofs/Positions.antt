-- The positions of names in a picture.
use Rattle.std.proofs.Common.{◌≡◌, ◌≤◌, ◌<◌, ℕ, zero, suc, Bool, true, false, List, [], ◌∷◌, length, Option, Some, None, ◌&&◌, if◌then◌else◌, refl, sym, ap, ◌∙◌, arith}
use Rattle.std.specs.Prelude.{bytes_eq, slice_index_or, slice_get}
use Rattle.std.specs.List.{insert}
use Rattle.std.specs.List.Sorted.{IsPartitionPoint, IsPartitionedBy}
use Rattle.std.proofs.lemmas.Option.{slice_get_read}
use Rattle.load_path.specs.Pictures.{is_below, begins_above, is_rising, has_short_content, are_short, content_in, with_file, position_in}
use Rattle.load_path.specs.declared.picture.Content.{Content}
use Rattle.load_path.specs.declared.picture.PictureFile.{PictureFile}
use Rattle.load_path.proofs.Order.{below_chain, below_differs, above_differs, else_above}

first_true : (a b : Bool) → a && b ≡ true → a ≡ true
first_true true b is = refl
first_true false b is = cc

second_true : (a b : Bool) → a && b ≡ true → b ≡ true
second_true true b is = is
second_true false b is = cc

both_true : (a b : Bool) → a ≡ true → b ≡ true → a && b ≡ true
both_true true b p q = q
both_true false b p q = cc

-- what stands before the first of a rising list stands before each
begins_on : (n : List ℕ) (f : PictureFile) (fs : List PictureFile) → is_below n f.name ≡ true
    → begins_above f.name fs ≡ true → begins_above n fs ≡ true
begins_on n f [] p q = refl
begins_on n f (g ∷ gs) p q = below_chain n f.name g.name p q

above_each : (n : List ℕ) (fs : List PictureFile) (j : ℕ) (d : PictureFile) → begins_above n fs
    ≡ true → is_rising fs ≡ true → j < length fs → is_below n (slice_index_or fs j d).name ≡ true
above_each n [] j d p q h = absurd (omega arith)
above_each n (f ∷ fs) zero d p q h = p
above_each n (f ∷ fs) (suc j) d p q h =
    above_each n fs j d (begins_on n f fs p (first_true _ _ q)) (second_true _ _ q) (omega arith)

pub partitioned : (n : List ℕ) (fs : List PictureFile) → is_rising fs ≡ true
    → IsPartitionedBy (λ (f : PictureFile). is_below f.name n) fs
partitioned n [] q i j d le h p = absurd (omega arith)
partitioned n (f ∷ fs) q zero zero d le h p = p
partitioned n (f ∷ fs) q zero (suc j) d le h p =
    below_chain f.name (slice_index_or fs j d).name n
    (above_each f.name fs j d (first_true _ _ q) (second_true _ _ q) (omega arith)) p
partitioned n (f ∷ fs) q (suc i) zero d le h p = absurd (omega arith)
partitioned n (f ∷ fs) q (suc i) (suc j) d le h p =
    partitioned n fs (second_true _ _ q) i j d (omega arith) (omega arith) p

pub position_is : (n : List ℕ) (fs : List PictureFile) (i : ℕ) → i ≤ length fs
    → IsPartitionPoint (λ (f : PictureFile). is_below f.name n ≡ true)
    (λ (f : PictureFile). is_below f.name n ≡ false) fs i → i ≡ position_in fs n
position_is n [] i le point = omega arith
position_is n (f ∷ fs) zero le point = rw (point.1 0 f (omega arith) (omega arith)) refl
position_is n (f ∷ fs) (suc i) le point =
    let ih : i ≡ position_in fs n =
    position_is n fs i (omega arith) (
      λ k d l h. point.0 (suc k) d (omega arith) (omega arith),
      λ k d l h. point.1 (suc k) d (omega arith) (omega arith),
    ) in
    rw (point.0 0 f (omega arith) (omega arith)) (omega arith)

-- a name above the last, the file `i`, has its position at the end
pub at_end : (n : List ℕ) (fs : List PictureFile) (i : ℕ) (f : PictureFile) → is_rising fs ≡ true
    → suc i ≡ length fs → f ≡ slice_index_or fs i f → is_below f.name n ≡ true → length fs
    ≡ position_in fs n
at_end n [] i f q last is p = absurd (omega arith)
at_end n (g ∷ []) zero f q last is p =
    rw (ap (λ (x : PictureFile). is_below x.name n) (sym is) ∙ p) refl
at_end n (g ∷ []) (suc i) f q last is p = absurd (omega arith)
at_end n (g ∷ h ∷ hs) zero f q last is p = absurd (omega arith)
at_end n (g ∷ h ∷ hs) (suc i) f q last is p =
    let high : is_below g.name f.name ≡ true =
    ap (λ (x : PictureFile). is_below g.name x.name) is
    ∙ above_each g.name (h ∷ hs) i f (first_true _ _ q) (second_true _ _ q) (omega arith) in
    let next : suc i ≡ length (h ∷ hs) = omega (arith, last) in
    let rest : length (h ∷ hs) ≡ position_in (h ∷ hs) n =
    at_end n (h ∷ hs) i f (second_true _ _ q) next is p in
    rw (below_chain g.name f.name n high p) (ap (λ (k : ℕ). suc k) rest)

insert_by : (n : List ℕ) (c : Content) (f : PictureFile) (fs : List PictureFile) (b : Bool)
    → insert fs (position_in fs n) (record { name = n; content = c }) ≡ with_file n c fs
    → insert (f ∷ fs) (if b then suc (position_in fs n) else 0) (record { name = n; content = c })
    ≡ (if b then f ∷ with_file n c fs else record { name = n; content = c } ∷ f ∷ fs)
insert_by n c f fs true ih = ap (λ gs. f ∷ gs) ih
insert_by n c f fs false ih = refl

pub insert_is : (n : List ℕ) (c : Content) (fs : List PictureFile)
    → insert fs (position_in fs n) (record { name = n; content = c }) ≡ with_file n c fs
insert_is n c [] = refl
insert_is n c (f ∷ fs) = insert_by n c f fs (is_below f.name n) (insert_is n c fs)

position_within_by : (b : Bool) (k m : ℕ) → k ≤ m → (if b then suc k else 0) ≤ suc m
position_within_by true k m h = omega arith
position_within_by false k m h = omega arith

pub position_within : (n : List ℕ) (fs : List PictureFile) → position_in fs n ≤ length fs
position_within n [] = omega arith
position_within n (f ∷ fs) =
    position_within_by (is_below f.name n) (position_in fs n) (length fs) (position_within n fs)

slice_get-past : (fs : List PictureFile) (i : ℕ) → length fs ≤ i → slice_get fs i ≡ None
slice_get-past [] i past = refl
slice_get-past (f ∷ fs) zero past = absurd (omega arith)
slice_get-past (f ∷ fs) (suc i) past = slice_get-past fs i (omega arith)

-- a name below all others is in no file
absent : (n : List ℕ) (fs : List PictureFile) → begins_above n fs ≡ true → is_rising fs ≡ true
    → content_in fs n ≡ None
absent n [] p q = refl
absent n (f ∷ fs) p q = rw (above_differs f.name n p)
    (absent n fs (begins_on n f fs p (first_true _ _ q)) (second_true _ _ q))

-- the content of the file at a position, where it has this name
abbrev pub content_at : List ℕ → Option PictureFile → Option Content
content_at n None = None
content_at n (Some f) = if bytes_eq f.name n then Some f.content else None

found_by : (n : List ℕ) (f : PictureFile) (fs : List PictureFile) (b e : Bool) → is_below f.name n
    ≡ b → bytes_eq f.name n ≡ e → is_rising (f ∷ fs) ≡ true → content_in fs n
    ≡ content_at n (slice_get fs (position_in fs n))
    → (if e then Some f.content else content_in fs n)
    ≡ content_at n (slice_get (f ∷ fs) (if b then suc (position_in fs n) else 0))
found_by n f fs true true isb ise q ih = let h : bytes_eq f.name n ≡ false =
    below_differs f.name n isb in cc
found_by n f fs true false isb ise q ih = ih
found_by n f fs false true isb ise q ih = rw ise refl
found_by n f fs false false isb ise q ih =
    rw ise (absent n fs (begins_on n f fs (else_above f.name n isb ise) (first_true _ _ q))
    (second_true _ _ q))

pub found : (n : List ℕ) (fs : List PictureFile) → is_rising fs ≡ true → content_in fs n
    ≡ content_at n (slice_get fs (position_in fs n))
found n [] q = refl
found n (f ∷ fs) q = found_by n f fs (is_below f.name n) (bytes_eq f.name n) refl refl q
    (found n fs (second_true _ _ q))

pub found_none : (n : List ℕ) (fs : List PictureFile) (i : ℕ) → is_rising fs ≡ true → i
    ≡ position_in fs n → length fs ≤ i → content_in fs n ≡ None
found_none n fs i q at past =
    found n fs q ∙ rw (sym at) (ap (content_at n) (slice_get-past fs i past))

item_there : (n : List ℕ) (fs : List PictureFile) (i : ℕ) (f : PictureFile) → i ≡ position_in fs n
    → i < length fs → f ≡ slice_index_or fs i f → slice_get fs (position_in fs n) ≡ Some f
item_there n fs i f at within is = rw (sym at) (slice_get_read fs (length fs) i f refl within is)

pub found_other : (n : List ℕ) (fs : List PictureFile) (i : ℕ) (f : PictureFile) → is_rising fs
    ≡ true → i ≡ position_in fs n → i < length fs → f ≡ slice_index_or fs i f → bytes_eq f.name n
    ≡ false → content_in fs n ≡ None
found_other n fs i f q at within is e =
    found n fs q ∙ ap (content_at n) (item_there n fs i f at within is) ∙ rw e refl

pub found_there : (n : List ℕ) (fs : List PictureFile) (i : ℕ) (f : PictureFile) → is_rising fs
    ≡ true → i ≡ position_in fs n → i < length fs → f ≡ slice_index_or fs i f → bytes_eq f.name n
    ≡ true → content_in fs n ≡ Some f.content
found_there n fs i f q at within is e =
    found n fs q ∙ ap (content_at n) (item_there n fs i f at within is) ∙ rw e refl

short_got : (fs : List PictureFile) (i : ℕ) (f : PictureFile) → are_short fs ≡ true → slice_get fs i
    ≡ Some f → has_short_content f.content ≡ true
short_got [] i f q is = cc
short_got (g ∷ gs) zero f q is = let e : g ≡ f = cc in rw (sym e) (first_true _ _ q)
short_got (g ∷ gs) (suc i) f q is = short_got gs i f (second_true _ _ q) is

pub short_at : (fs : List PictureFile) (i : ℕ) (f : PictureFile) → are_short fs ≡ true
    → i < length fs → f ≡ slice_index_or fs i f → has_short_content f.content ≡ true
short_at fs i f q within is = short_got fs i f q (slice_get_read fs (length fs) i f refl within is)

-- a new file leaves a rising list
begins_with_by : (m n : List ℕ) (c : Content) (g : PictureFile) (gs : List PictureFile) (b : Bool)
    → is_below m n ≡ true → is_below m g.name ≡ true
    → begins_above m (if b then g ∷ with_file n c gs else record { name = n; content = c } ∷ g ∷ gs)
    ≡ true
begins_with_by m n c g gs true p q = q
begins_with_by m n c g gs false p q = p

begins_with : (m n : List ℕ) (c : Content) (fs : List PictureFile) → is_below m n ≡ true
    → begins_above m fs ≡ true → begins_above m (with_file n c fs) ≡ true
begins_with m n c [] p q = p
begins_with m n c (g ∷ gs) p q = begins_with_by m n c g gs (is_below g.name n) p q

rising_by : (n : List ℕ) (c : Content) (f : PictureFile) (fs : List PictureFile) (b e : Bool)
    → is_below f.name n ≡ b → bytes_eq f.name n ≡ e
    → (if e then Some f.content else content_in fs n) ≡ None → is_rising (f ∷ fs) ≡ true
    → (content_in fs n ≡ None → is_rising (with_file n c fs) ≡ true)
    → is_rising (if b then f ∷ with_file n c fs else record { name = n; content = c } ∷ f ∷ fs)
    ≡ true
rising_by n c f fs b true isb ise none q ih = cc
rising_by n c f fs true false isb ise none q ih =
    both_true _ _ (begins_with f.name n c fs isb (first_true _ _ q)) (ih none)
rising_by n c f fs false false isb ise none q ih = both_true _ _ (else_above f.name n isb ise) q

pub rising_with : (n : List ℕ) (c : Content) (fs : List PictureFile) → content_in fs n ≡ None
    → is_rising fs ≡ true → is_rising (with_file n c fs) ≡ true
rising_with n c [] none q = refl
rising_with n c (f ∷ fs) none q =
    rising_by n c f fs (is_below f.name n) (bytes_eq f.name n) refl refl none q
    (λ h. rising_with n c fs h (second_true _ _ q))

short_by : (n : List ℕ) (c : Content) (f : PictureFile) (fs : List PictureFile) (b : Bool)
    → has_short_content c ≡ true → are_short (f ∷ fs) ≡ true → are_short (with_file n c fs) ≡ true
    → are_short (if b then f ∷ with_file n c fs else record { name = n; content = c } ∷ f ∷ fs)
    ≡ true
short_by n c f fs true p q ih = both_true _ _ (first_true _ _ q) ih
short_by n c f fs false p q ih = both_true _ _ p q

pub short_with : (n : List ℕ) (c : Content) (fs : List PictureFile) → has_short_content c ≡ true
    → are_short fs ≡ true → are_short (with_file n c fs) ≡ true
short_with n c [] p q = both_true _ _ p refl
short_with n c (f ∷ fs) p q =
    short_by n c f fs (is_below f.name n) p q (short_with n c fs p (second_true _ _ q))
