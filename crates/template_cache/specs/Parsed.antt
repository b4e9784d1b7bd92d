-- What a file spells, as it is kept.
use Rattle.std.specs.Prelude.{◌≡◌, ℕ, List, Result, Ok, Err}
use Rattle.pan_ast.specs.declared.fault.Fault.{Fault}
use Rattle.pan_ast.specs.Templates.{Template}
use Rattle.pan_ast.specs.TemplatesSeen.{template_seen}
use Rattle.pan_ast.proofs.Sets.{reading_set}
use Rattle.pan_template.specs.TemplateOf.{template_of}
use Rattle.template_cache.specs.declared.cache.Parsed.{Parsed}
use Rattle.template_cache.specs.declared.cache.Parsed.TheVariants as parsed

abbrev pub parsed_seen : Parsed → Result Template Fault
parsed_seen (parsed.Template t) = Ok (template_seen t.value)
parsed_seen (parsed.Fault f) = Err f

-- it is what a file with these bytes spells
abbrev pub IsParsed : List ℕ → List ℕ → Parsed → Type 0
IsParsed file bytes p = template_of file bytes ≡ parsed_seen p

pub IsParsed-prop : (file bytes : List ℕ) (p : Parsed) → IsProp (IsParsed file bytes p)
IsParsed-prop file bytes p = reading_set (template_of file bytes) (parsed_seen p)
