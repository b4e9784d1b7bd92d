-- The written fields of a record, one after the other.
use Rattle.std.proofs.Common.{◌≡◌, ℕ, ◌+◌, ◌<◌, List, ◌∷◌, length, drop, get_or, ap, sym, ◌∙◌}
use Rattle.std.proofs.lemmas.List.{drop_more}
use Rattle.path_tree.specs.Plain.{Plain}
use Rattle.pan_ast.specs.declared.types.Field.{Field as RField}
use Rattle.pan_ast.specs.TypesSeen.{field_seen, fields_seen}
use Rattle.type_defs.specs.Names.{Defined}
use Rattle.type_defs.specs.Resolved.{Field}
use Rattle.type_defs.specs.Resolving.{◌>>=◌, field_resolved, fields_resolved}

-- the field at i, and those after it
pub resolved_more : (known : Defined) (template : List ℕ) (fs : List RField) (i : ℕ) (f : RField)
    (done : List Field) (ds : List Plain) → i < length fs → f ≡ get_or fs i f
    → fields_resolved known template (fields_seen (drop i fs)) done ds
    ≡ (field_resolved known template (field_seen f) done ds >>=
    (λ r. fields_resolved known template (fields_seen (drop (i + 1) fs)) r.0 r.1))
resolved_more known template fs i f done ds h is =
    ap (λ r. fields_resolved known template (fields_seen r) done ds)
    (drop_more fs i f h ∙ ap (λ r. r ∷ drop (i + 1) fs) (sym is))
