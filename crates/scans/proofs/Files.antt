-- A scan, file by file.
use Rattle.std.proofs.Common.{◌≡◌, ℕ, suc, zero, ◌+◌, ◌<◌, ◌≤◌, true, false, List, [], ◌∷◌, Option, Some, None, IfSome, nat_lt, length, drop, sum_by, count_by, fold, refl, sym, ap, ◌∙◌, arith}
use Rattle.std.specs.Prelude.{slice_get, option_map, if◌then◌else◌, cond}
use Rattle.std.proofs.lemmas.List.Sums.{sum_by-cons}
use Rattle.base.specs.declared.limits.TheConstants.{MAX_SCAN_FILES, MAX_SCAN_BYTES}
use Rattle.outside.specs.declared.source.MemFile.{MemFile}
use Rattle.load_path.specs.declared.picture.PictureFile.{PictureFile}
use Rattle.outside.specs.Pictures.{next_picture}
use Rattle.scans.specs.Scans.{has_file_name, weight_of, taken_in, scanned_of}

-- file number i stands before those behind it
at_file : (P : MemFile → Type 0) (fs : List MemFile) (i : ℕ) → i < length fs
    → IfSome (slice_get fs i) P → (f : MemFile) × (drop i fs ≡ f ∷ drop (i + 1) fs) × P f
at_file P [] i within h = absurd (omega (arith, within))
at_file P (f ∷ fs) zero within h = (f, refl, h)
at_file P (f ∷ fs) (suc i) within h =
    let r = at_file P fs i (omega (arith, within)) h in
    let next : suc i + 1 ≡ suc (i + 1) = omega arith in
    (r.0, r.1 ∙ ap (λ k. r.0 ∷ drop k (f ∷ fs)) (sym next), r.2)

-- one file is counted
pub count_step : (told : Option (List MemFile)) (i named n count : ℕ) → i < count
    → IfSome told (λ fs. IfSome (slice_get fs i) (λ f. n ≡ (if has_file_name f then 1 else 0)))
    → IfSome told (λ fs. length fs ≡ count → named + count_by has_file_name (drop i fs)
    ≡ count_by has_file_name fs) → IfSome told (λ fs. length fs ≡ count
    → named + n + count_by has_file_name (drop (i + 1) fs) ≡ count_by has_file_name fs)
count_step None i named n count within is before = tt
count_step (Some fs) i named n count within is before = λ long.
    let r = at_file (λ f. n ≡ (if has_file_name f then 1 else 0)) fs i (omega (arith, within, long))
    is in
    let split : count_by has_file_name (drop i fs)
    ≡ (if has_file_name r.0 then 1 else 0) + count_by has_file_name (drop (i + 1) fs) =
    ap (count_by has_file_name) r.1 ∙ sum_by-cons (λ x. cond (has_file_name x) 1 0) r.0
    (drop (i + 1) fs) in
    omega (arith, before long, split, r.2)

-- one file is read
pub weight_step : (told : Option (List MemFile)) (i count passed w : ℕ) (old new : List PictureFile)
    → i < count → IfSome told (λ fs. length fs ≡ count)
    → IfSome told (λ fs. IfSome (slice_get fs i) (λ f. (w ≡ weight_of f) × (new ≡ taken_in old f)))
    → IfSome told (λ fs. passed + sum_by weight_of (drop i fs) ≡ sum_by weight_of fs)
    → IfSome told (λ fs. passed + w + sum_by weight_of (drop (i + 1) fs) ≡ sum_by weight_of fs)
weight_step None i count passed w old new within long read before = tt
weight_step (Some fs) i count passed w old new within long read before =
    let r = at_file (λ f. (w ≡ weight_of f) × (new ≡ taken_in old f)) fs i
    (omega (arith, within, long)) read in
    let split : sum_by weight_of (drop i fs) ≡ weight_of r.0 + sum_by weight_of (drop (i + 1) fs) =
    ap (sum_by weight_of) r.1 ∙ sum_by-cons weight_of r.0 (drop (i + 1) fs) in
    omega (arith, before, split, r.2.0)

pub picture_step : (told : Option (List MemFile)) (i count w : ℕ) (old new : List PictureFile)
    → i < count → IfSome told (λ fs. length fs ≡ count)
    → IfSome told (λ fs. IfSome (slice_get fs i) (λ f. (w ≡ weight_of f) × (new ≡ taken_in old f)))
    → IfSome told (λ fs. fold taken_in old (drop i fs) ≡ fold taken_in [] fs)
    → IfSome told (λ fs. fold taken_in new (drop (i + 1) fs) ≡ fold taken_in [] fs)
picture_step None i count w old new within long read before = tt
picture_step (Some fs) i count w old new within long read before =
    let r = at_file (λ f. (w ≡ weight_of f) × (new ≡ taken_in old f)) fs i
    (omega (arith, within, long)) read in
    ap (λ p. fold taken_in p (drop (i + 1) fs)) r.2.1 ∙ sym (ap (fold taken_in old) r.1) ∙ before

-- the bytes that are read pass the limit
pub scan_much : (coming : Option (List (List MemFile))) (told : Option (List MemFile))
    (count named i passed : ℕ) → told ≡ option_map next_picture coming
    → IfSome told (λ fs. length fs ≡ count) → IfSome told
    (λ fs. length fs ≡ count → named ≡ count_by has_file_name fs) → named ≤ MAX_SCAN_FILES
    → MAX_SCAN_BYTES < passed → IfSome told (λ fs. passed + sum_by weight_of (drop i fs)
    ≡ sum_by weight_of fs) → IfSome coming (λ ps. None ≡ scanned_of (next_picture ps))
scan_much None told count named i passed is long names few over weights = tt
scan_much (Some ps) told count named i passed is long names few over weights =
    let counted : named ≡ count_by has_file_name (next_picture ps) =
    (rw is at names) (rw is at long) in
    let total : passed + sum_by weight_of (drop i (next_picture ps))
    ≡ sum_by weight_of (next_picture ps) = rw is at weights in
    let under : nat_lt MAX_SCAN_FILES (count_by has_file_name (next_picture ps)) ≡ false =
    grind (arith, counted, few) in
    let much : nat_lt MAX_SCAN_BYTES (sum_by weight_of (next_picture ps)) ≡ true =
    grind (arith, total, over) in
    rw (under, much) refl
