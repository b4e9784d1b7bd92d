-- Lists of which one more is seen.
use Rattle.std.proofs.Common.{map, ◌≡◌, List, [], ◌∷◌, ◌++◌, ap, ◌∙◌}
use Rattle.std.proofs.lemmas.List.{map_push}
use Rattle.pan_ast.specs.declared.types.Field.{Field}
use Rattle.pan_ast.specs.declared.template.Statement.{Statement}
use Rattle.pan_ast.specs.TypesSeen.{field_seen}
use Rattle.pan_ast.specs.TemplatesSeen.{statement_seen}

pub fields_seen_push : (new fs : List Field) (f : Field) → new ≡ fs ++ f ∷ [] → map field_seen new
    ≡ map field_seen fs ++ field_seen f ∷ []
fields_seen_push new fs f e = ap (map field_seen) e ∙ map_push field_seen fs f

pub statements_seen_push : (new ss : List Statement) (s : Statement) → new ≡ ss ++ s ∷ []
    → map statement_seen new ≡ map statement_seen ss ++ statement_seen s ∷ []
statements_seen_push new ss s e = ap (map statement_seen) e ∙ map_push statement_seen ss s
