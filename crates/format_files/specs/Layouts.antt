-- What becomes of the templates of a picture, in the order of its files.
use Rattle.std.specs.Prelude.{ℕ, ◌-◌, Bool, ◌&&◌, is_err, nat_eq, if◌then◌else◌, List, [], ◌∷◌, ◌++◌, Result, Ok, Err, codes, count_by, decimal, flat_map}
use Rattle.std.specs.List.{ends_with}
use Rattle.load_path.specs.declared.picture.Content.{Content}
use Rattle.load_path.specs.declared.picture.Content.TheVariants as content
use Rattle.load_path.specs.declared.picture.PictureFile.{PictureFile}
use Rattle.pan_ast.specs.Printed.{line_of}
use Rattle.pan_format.specs.Formatted.{Refusal, formatted}
use Rattle.pan_format.specs.Formatted.Refusal.{Faulty, TooLong}
use Rattle.publication.specs.declared.want.Want.{Want}

-- the name of a template's file ends in `.pan`
abbrev pub is_template : PictureFile → Bool
is_template f = ends_with nat_eq f.name (codes ".pan")

-- a file's layout, or why it has none: a file over the limit is too long
abbrev pub laid_out : List ℕ → Content → Result (List ℕ) Refusal
laid_out name (content.Bytes bytes) = formatted name bytes
laid_out name content.TooLong = Err TooLong

unfoldable pub layout_of : PictureFile → Result (List ℕ) Refusal
layout_of f = laid_out f.name f.content

-- the text of a template is wanted under the template's name
abbrev pub want_in : List ℕ → Result (List ℕ) Refusal → List Want
want_in name (Ok text) = record { name = name; bytes = text } ∷ []
want_in name (Err refused) = []

-- why a template has no layout, a line
abbrev pub refusal_line : List ℕ → Refusal → List ℕ
refusal_line name (Faulty f) =
    codes "fault " ++ name ++ codes " " ++ line_of f ++ codes "\n"
refusal_line name TooLong = codes "too long " ++ name ++ codes "\n"

abbrev pub line_in : List ℕ → Result (List ℕ) Refusal → List ℕ
line_in name (Ok text) = []
line_in name (Err refused) = refusal_line name refused

-- a template has its text or its line; another file has neither
abbrev pub wants_of : PictureFile → List Want
wants_of f = if is_template f then want_in f.name (layout_of f) else []

abbrev pub lines_of : PictureFile → List ℕ
lines_of f = if is_template f then line_in f.name (layout_of f) else []

-- the texts of all templates, and the lines
abbrev pub layouts : List PictureFile → List Want
layouts picture = flat_map wants_of picture

abbrev pub lines : List PictureFile → List ℕ
lines picture = flat_map lines_of picture

-- how many templates there are, and how many of them have no layout
abbrev pub template_count : List PictureFile → ℕ
template_count picture = count_by is_template picture

abbrev pub is_fault : PictureFile → Bool
is_fault f = is_template f && is_err (layout_of f)

abbrev pub fault_count : List PictureFile → ℕ
fault_count picture = count_by is_fault picture

-- files F ok K faults M
abbrev pub totals_line : ℕ → ℕ → List ℕ
totals_line templates faults =
    codes "files " ++ decimal templates
    ++ codes " ok " ++ decimal (templates - faults)
    ++ codes " faults " ++ decimal faults ++ codes "\n"

-- what is written of a picture
abbrev pub report : List PictureFile → List ℕ
report picture = lines picture ++ totals_line (template_count picture) (fault_count picture)
