-- What each call gives with the pattern of a text and a matcher of it.
use Rattle.std.proofs.Common.{◌≡◌, ℕ, ◌<◌, Bool, List, [], ◌∷◌, length, Option, get_or, is_some, sym, ap, ap₂, ◌∙◌}
use Rattle.std.specs.Prelude.{Ok}
use Rattle.path_tree.specs.Plain.{Plain, boolean, text}
use Rattle.regex.specs.Patterns.{find_str, find_all_str}
use Rattle.regex.specs.Strings.{matcher_names, matcher_pattern, regex_names, regex_pattern}
use Rattle.regex.specs.declared.string.matcher.Matcher.{Matcher}
use Rattle.regex.specs.declared.string.regex.Regex.{Regex}
use Rattle.path_tree.specs.Lists.{list_of}
use Rattle.path_tree.specs.Values.{text_value}
use Rattle.builtins_patterns.specs.Calls.{cuts, groups_of, match_of, matches_of, pieces_of, replace_of, rewritten, split_within}
use Rattle.builtins_patterns.specs.Pattern.{Searches}
use Rattle.builtins_patterns.proofs.Alike.{groups_alike, pieces_alike, replaced_by_alike}
use Rattle.builtins_patterns.proofs.Compiled.{given_pattern, matched}

module _ (source hay : List ℕ) (r : Regex) (m : Matcher) (s : Searches source r m)
    (bytes : (k : ℕ) → get_or hay k 0 < 256) where
  match_with : (found : Bool) → found ≡ is_some (find_str (matcher_pattern m) hay 0)
      → match_of (text hay ∷ text source ∷ []) ≡ Ok (boolean found)
  match_with found e = matched source hay r found s.compiled bytes
      (e ∙ ap (λ re. is_some (find_str re hay 0)) s.pattern)

  replace_with : (template out : List ℕ) → out ≡ rewritten
      (record { meaning = regex_pattern r; names = regex_names r }) template hay →
      text_value out ≡ replace_of (text source ∷ text template ∷ text hay ∷ [])
  replace_with template out e =
      ap text_value (e ∙ ap (λ names. rewritten (record
      { meaning = regex_pattern r; names = names }) template hay) s.compiled.names
      ∙ replaced_by_alike s.compiled.pattern.names template hay s.compiled.alike bytes)
      ∙ sym (given_pattern source r s.compiled _)

  split_with : (limit : Option ℕ) (pieces : List Plain) → pieces
      ≡ pieces_of hay (cuts limit (find_all_str (matcher_pattern m) hay)) →
      list_of pieces ≡ split_within limit source hay
  split_with limit pieces e =
      ap list_of (e ∙ ap (λ re. pieces_of hay (cuts limit (find_all_str re hay))) s.pattern
      ∙ pieces_alike s.compiled.alike hay bytes limit)
      ∙ sym (given_pattern source r s.compiled _)

  matches_with : (groups : List Plain) → groups
      ≡ groups_of hay (length (matcher_names m)) (find_str (matcher_pattern m) hay 0) →
      list_of groups ≡ matches_of (text hay ∷ text source ∷ [])
  matches_with groups e =
      ap list_of (e ∙ ap₂ (groups_of hay) (ap length (s.names ∙ s.compiled.names))
      (ap (λ re. find_str re hay 0) s.pattern)
      ∙ groups_alike s.compiled.alike hay bytes (length s.compiled.pattern.names))
      ∙ sym (given_pattern source r s.compiled _)

-- the same, where the text of the pattern has another name
module _ (source hay value : List ℕ) (r : Regex) (m : Matcher) (s : Searches source r m)
    (is : source ≡ value) (bytes : (k : ℕ) → get_or hay k 0 < 256) where
  pub match_given : (found : Bool) → found ≡ is_some (find_str (matcher_pattern m) hay 0)
      → match_of (text hay ∷ text value ∷ []) ≡ Ok (boolean found)
  match_given found e = ap (λ p. match_of (text hay ∷ text p ∷ [])) (sym is)
      ∙ match_with source hay r m s bytes found e

  pub replace_given : (template out : List ℕ) → out
      ≡ rewritten (record { meaning = regex_pattern r; names = regex_names r }) template hay →
      text_value out ≡ replace_of (text value ∷ text template ∷ text hay ∷ [])
  replace_given template out e =
      replace_with source hay r m s bytes template out e
      ∙ ap (λ p. replace_of (text p ∷ text template ∷ text hay ∷ [])) is

  pub split_given : (limit : Option ℕ) (pieces : List Plain) → pieces
      ≡ pieces_of hay (cuts limit (find_all_str (matcher_pattern m) hay)) →
      list_of pieces ≡ split_within limit value hay
  split_given limit pieces e =
      split_with source hay r m s bytes limit pieces e ∙ ap (λ p. split_within limit p hay) is

  pub matches_given : (groups : List Plain) → groups
      ≡ groups_of hay (length (matcher_names m)) (find_str (matcher_pattern m) hay 0) →
      list_of groups ≡ matches_of (text hay ∷ text value ∷ [])
  matches_given groups e =
      matches_with source hay r m s bytes groups e ∙ ap (λ p. matches_of (text hay ∷ text p ∷ []))
      is
