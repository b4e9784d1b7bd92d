-- Each template has one text or is a fault.
use Rattle.std.proofs.Common.{◌≡◌, ◌≤◌, ◌+◌, ℕ, Bool, true, false, List, [], ◌∷◌, Result, Ok, Err, length, refl, arith}
use Rattle.std.specs.Prelude.{cond, is_err, ◌&&◌, if◌then◌else◌}
use Rattle.std.proofs.lemmas.List.{length-append}
use Rattle.std.proofs.lemmas.List.Sums.{sum_by-cons}
use Rattle.format_files.specs.Layouts.{is_template, is_fault, layout_of, want_in, wants_of, layouts, template_count, fault_count}
use Rattle.load_path.specs.declared.picture.PictureFile.{PictureFile}
use Rattle.pan_format.specs.Formatted.{Refusal}
use Rattle.publication.specs.declared.want.Want.{Want}

one_by : (name : List ℕ) (laid : Result (List ℕ) Refusal) (template : Bool)
    → length {A = Want} (if template then want_in name laid else []) + cond
    (template && is_err laid) 1 0 ≡ cond template 1 0
one_by name (Ok text) true = refl
one_by name (Err refused) true = refl
one_by name laid false = refl

pub counted : (fs : List PictureFile) → length (layouts fs) + fault_count fs ≡ template_count fs
counted [] = refl
counted (f ∷ fs) =
    let one = one_by f.name (layout_of f) (is_template f) in
    let more = counted fs in
    let texts : length (layouts (f ∷ fs)) ≡ length (wants_of f) + length (layouts fs) =
    length-append (wants_of f) (layouts fs) in
    let faults : fault_count (f ∷ fs) ≡ cond (is_fault f) 1 0 + fault_count fs = sum_by-cons
    (λ x. cond (is_fault x) 1 0) f fs in
    let templates : template_count (f ∷ fs) ≡ cond (is_template f) 1 0 + template_count fs =
    sum_by-cons (λ x. cond (is_template x) 1 0) f fs in
    omega (arith, one, more, texts, faults, templates)

pub few_faults : (fs : List PictureFile) → fault_count fs ≤ template_count fs
few_faults fs = let all = counted fs in omega (arith, all)
