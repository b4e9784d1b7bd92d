-- Suffixes, one after the other.
use Rattle.std.proofs.Common.{◌≡◌, ℕ, ◌+◌, ◌<◌, List, ◌∷◌, length, drop, get_or, ap, sym, ◌∙◌}
use Rattle.std.proofs.lemmas.List.{drop_more}
use Rattle.pan_ast.specs.declared.types.Suffix.{Suffix}
use Rattle.type_defs.specs.Resolved.{Resolved}
use Rattle.pan_ast.specs.declared.place.Place.{Place}
use Rattle.type_defs.specs.Resolving.{◌>>=◌, with_suffix, with_suffixes}

-- the suffix at i, and those after it
pub suffixes_more : (template : List ℕ) (p : Place) (ss : List Suffix) (i : ℕ) (s : Suffix)
    (t : Resolved) → i < length ss → s ≡ get_or ss i s → with_suffixes template p t (drop i ss)
    ≡ (with_suffix template p t s >>= (λ u. with_suffixes template p u (drop (i + 1) ss)))
unfolding with_suffixes
suffixes_more template p ss i s t h is =
    ap (with_suffixes template p t) (drop_more ss i s h ∙ ap (λ r. r ∷ drop (i + 1) ss) (sym is))
