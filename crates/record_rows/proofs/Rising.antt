-- The names of rows rise where those of the files and those of the objects do.
use Rattle.std.proofs.Common.{◌≡◌, ℕ, List, [], ◌∷◌, ◌++◌, map, ◌&&◌, Bool, true, false, refl, ap, ◌∙◌}
use Rattle.std.specs.List.{list_all}
use Rattle.kept_state.specs.declared.kept.KeptFile.{KeptFile}
use Rattle.kept_state.specs.declared.kept.KeptObject.{KeptObject}
use Rattle.kept_state.specs.Stored.{Stored, file_name, object_name}
use Rattle.stored_rows.specs.declared.row.StoredRow.{StoredRow}
use Rattle.stored_rows.specs.Rows.{row_name, is_below, are_rising}
use Rattle.record_rows.specs.declared.format.Format.{Format}
use Rattle.record_rows.specs.declared.format.Format.TheVariants.{Third}
use Rattle.record_rows.specs.Fields.{Header, header}
use Rattle.record_rows.specs.Rows.{file_row, object_row, header_in, header_row, is_kept, is_kept_file, is_kept_object, are_in_order, are_distinct, file_numbers, tree_numbers, rows_of}
use Rattle.record_rows.proofs.Laws.{and_true}

objects_rise : (format : Format) (counter : ℕ) (os : List KeptObject)
    → are_rising (map row_name (map (object_row format counter) os))
    ≡ are_rising (map object_name os)
objects_rise format counter [] = refl
objects_rise format counter (o ∷ []) = refl
objects_rise format counter (o ∷ p ∷ os) =
    ap (λ b. is_below o.name p.name && b) (objects_rise format counter (p ∷ os))

-- the header stands before each object
header_first : (format : Format) (counter : ℕ) (h : Header) (os : List KeptObject)
    → are_rising (map row_name (header_row h ∷ map (object_row format counter) os))
    ≡ are_rising (map object_name os)
header_first format counter h [] = refl
header_first format counter h (o ∷ os) = objects_rise format counter (o ∷ os)

grouped : (a b c : Bool) → (a && (b && c)) ≡ ((a && b) && c)
grouped true b c = refl
grouped false b c = refl

-- and behind each file
all_rise : (format : Format) (counter : ℕ) (h : Header) (fs : List KeptFile)
    (os : List KeptObject) → are_rising (map row_name (map (file_row counter) fs
    ++ header_row h ∷ map (object_row format counter) os))
    ≡ (are_rising (map file_name fs) && are_rising (map object_name os))
all_rise format counter h [] os = header_first format counter h os
all_rise format counter h (f ∷ []) os = header_first format counter h os
all_rise format counter h (f ∷ g ∷ fs) os =
    ap (λ b. is_below f.name g.name && b) (all_rise format counter h (g ∷ fs) os)
    ∙ grouped (is_below f.name g.name) (are_rising (map file_name (g ∷ fs)))
    (are_rising (map object_name os))

-- what is kept has rows whose names rise
pub kept_rise : (s : Stored) (rows : List StoredRow) → rows ≡ rows_of s
    → is_kept Third s ≡ true → are_rising (map row_name rows) ≡ true
kept_rise s rows is kept =
    let parts = header.fits (header_in Third s) && list_all (is_kept_file s.counter) s.files
    && list_all (is_kept_object Third s.counter) s.objects in
    let order = and_true parts (are_in_order s.files s.objects) kept in
    let names = and_true (are_rising (map file_name s.files)
    && are_rising (map object_name s.objects))
    (are_distinct (file_numbers s.files ++ tree_numbers s.objects)) order.1 in
    ap (λ rs. are_rising (map row_name rs)) is
    ∙ all_rise Third s.counter (header_in Third s) s.files s.objects ∙ names.0
