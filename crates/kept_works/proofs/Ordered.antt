-- Files in byte order, one by one, are a picture.
use Rattle.std.proofs.Common.{◌≡◌, ◌<◌, ℕ, zero, suc, true, List, [], ◌∷◌, length, take, get_or, Some, None, if◌then◌else◌, refl, ap, ◌∙◌, arith}
use Rattle.load_path.specs.Pictures.{is_below, content_in, has_short_content, are_short, with_file}
use Rattle.load_path.specs.declared.picture.PictureFile.{PictureFile}
use Rattle.load_path.proofs.Order.{below_chain, below_differs}
use Rattle.object_names.specs.Objects.{begins_above, are_rising}
use Rattle.engine_machine.proofs.Truths.{both}
use Rattle.engine_turns.specs.declared.rows.FileRow.{FileRow}
use Rattle.engine_turns.specs.Places.{file_names}
use Rattle.engine_turns.specs.States.{pictured}

abbrev Rise : List FileRow → Type 0
Rise fs = are_rising (file_names fs) ≡ true

-- the file at this place
abbrev pub StandsAt : List FileRow → ℕ → FileRow → Type 0
StandsAt fs i r = (i < length fs) × (r ≡ get_or fs i r)

later : (f : FileRow) (fs : List FileRow) (i : ℕ) (r : FileRow) → StandsAt (f ∷ fs) (suc i) r
    → StandsAt fs i r
later f fs i r (lt, is) = (omega (arith, lt), is)

-- the first of these stands before the others, which rise
parts : (f : FileRow) (fs : List FileRow) → Rise (f ∷ fs)
    → (begins_above f.name (file_names fs) ≡ true) × Rise fs
parts f fs rise = both (begins_above f.name (file_names fs)) (are_rising (file_names fs)) rise

-- what stands before the first of these stands before each
begins_on : (n : List ℕ) (f : FileRow) (fs : List FileRow) → is_below n f.name ≡ true
    → begins_above f.name (file_names fs) ≡ true → begins_above n (file_names fs) ≡ true
begins_on n f [] p q = refl
begins_on n f (g ∷ gs) p q = below_chain n f.name g.name p q

above_each : (n : List ℕ) (fs : List FileRow) (i : ℕ) (r : FileRow)
    → begins_above n (file_names fs) ≡ true → Rise fs → StandsAt fs i r
    → is_below n r.name ≡ true
above_each n [] i r p rise (lt, is) = absurd (omega (arith, lt))
above_each n (f ∷ fs) zero r p rise (lt, is) = ap (λ x. is_below n x.name) is ∙ p
above_each n (f ∷ fs) (suc i) r p rise there =
    let two = parts f fs rise in
    above_each n fs i r (begins_on n f fs p two.0) two.1 (later f fs i r there)

-- the first of these has a name below that of each later one
first_below : (f : FileRow) (fs : List FileRow) (i : ℕ) (r : FileRow) → Rise (f ∷ fs)
    → StandsAt (f ∷ fs) (suc i) r → is_below f.name r.name ≡ true
first_below f fs i r rise there =
    let two = parts f fs rise in
    above_each f.name fs i r two.0 two.1 (later f fs i r there)

-- the name of a file is that of none before it
pub new_name : (fs : List FileRow) (i : ℕ) (r : FileRow) → Rise fs → StandsAt fs i r
    → content_in (pictured (take i fs)) r.name ≡ None
new_name [] i r rise (lt, is) = absurd (omega (arith, lt))
new_name (f ∷ fs) zero r rise there = refl
new_name (f ∷ fs) (suc i) r rise there =
    ap (λ b. if b then Some f.content else content_in (pictured (take i fs)) r.name)
    (below_differs f.name r.name (first_below f fs i r rise there))
    ∙ new_name fs i r (parts f fs rise).1 (later f fs i r there)

-- and it comes behind those
pub one_more : (fs : List FileRow) (i : ℕ) (r : FileRow) → Rise fs → StandsAt fs i r
    → with_file r.name r.content (pictured (take i fs)) ≡ pictured (take (suc i) fs)
one_more [] i r rise (lt, is) = absurd (omega (arith, lt))
one_more (f ∷ fs) zero r rise (lt, is) =
    ap (λ x. record { name = x.name; content = x.content } ∷ []) is
one_more (f ∷ fs) (suc i) r rise there =
    let first : PictureFile = record { name = f.name; content = f.content } in
    let new : PictureFile = record { name = r.name; content = r.content } in
    let before = pictured (take i fs) in
    ap (λ b. if b then first ∷ with_file r.name r.content before else new ∷ first ∷ before)
    (first_below f fs i r rise there)
    ∙ ap (λ l. first ∷ l) (one_more fs i r (parts f fs rise).1 (later f fs i r there))

pub short_at : (fs : List FileRow) (i : ℕ) (r : FileRow) → are_short (pictured fs) ≡ true
    → StandsAt fs i r → has_short_content r.content ≡ true
short_at [] i r short (lt, is) = absurd (omega (arith, lt))
short_at (f ∷ fs) zero r short (lt, is) =
    ap (λ x. has_short_content x.content) is
    ∙ (both (has_short_content f.content) (are_short (pictured fs)) short).0
short_at (f ∷ fs) (suc i) r short there =
    short_at fs i r (both (has_short_content f.content) (are_short (pictured fs)) short).1
    (later f fs i r there)
