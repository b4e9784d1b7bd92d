-- What a compiled pattern and a refusal say of the text.
use Rattle.std.proofs.Common.{◌≡◌, ℕ, ◌<◌, ◌≤◌, Bool, true, false, cond, List, length, Option, None, Some, IsSomeAnd, IfSome, is_some, refl, sym, ap, ◌∙◌, get_or, inl, inr}
use Rattle.std.specs.Prelude.{option_and_then, nat_lt, Result, Ok}
use Rattle.std.specs.Str.{chars}
use Rattle.std.proofs.lemmas.Bool.{le-ltb, lt-ltb, cond-false, cond-true}
use Rattle.regex.specs.Patterns.{Re, SameCaptures, default_config, find_str, Reads, Refuses}
use Rattle.regex.specs.Sources.{IsRefusal}
use Rattle.regex.specs.Failures.{IsRightKind}
use Rattle.regex.specs.Strings.{regex_pattern, regex_names, regex_source, regex_config, IsReadFromSource}
use Rattle.regex.specs.declared.string.regex.Regex.{Regex}
use Rattle.regex.specs.declared.error.Error.{Error}
use Rattle.regex.specs.declared.error.Error.TheVariants.{Syntax}
use Rattle.regex.proofs.ForCallers.{is_match_alike}
use Rattle.regex_syntax.specs.Brackets.{Nested}
use Rattle.regex_syntax.specs.Grammar.{Names, read, group_count}
use Rattle.regex_syntax.specs.declared.error.Error as parser
use Rattle.path_tree.specs.Plain.{Plain, boolean}
use Rattle.path_tree.specs.declared.refused.Refused.{Refused}
use Rattle.path_tree.specs.declared.refused.Refused.TheVariants.{BadPattern}
use Rattle.base.specs.Answers.{given}
use Rattle.builtins_patterns.specs.declared.pattern.TheConstants.{MAX_PATTERN_BYTES}
use Rattle.builtins_patterns.specs.Pattern.{Pattern, IsCompiled, pattern_of, within_nesting}

-- a reading within the limit is a pattern
of_reading : (o : Option (Nested Re × Names)) (a : Re) (names : Names) →
    IsSomeAnd o (λ (re, found). (re.depth ≤ default_config.nest_limit) × SameCaptures a re.value
    × (names ≡ found) × (group_count a ≤ length names)) →
    (p : Pattern) × (option_and_then within_nesting o ≡ Some p) × SameCaptures a p.meaning
    × (names ≡ p.names)
of_reading None a names h = absurd h
of_reading (Some found) a names h = (
  record { meaning = found.0.value; names = found.1 },
  cond-false
      (nat_lt default_config.nest_limit found.0.depth) None _ (le-ltb _ _ h.0),
  h.1,
  h.2,
)

pub compiled_is : (source : List ℕ) (r : Regex) → length source ≤ MAX_PATTERN_BYTES → regex_source r
    ≡ source → regex_config r ≡ default_config →
    IsReadFromSource r → IsCompiled source r
unfolding Reads
compiled_is source r short is_source is_config is_read =
    let reading = of_reading (read default_config (chars source)) (regex_pattern r) (regex_names r)
    (rw (is_source, is_config) at is_read) in
    record {
      pattern = reading.0;
      is = cond-false _ None _ (le-ltb _ _ short) ∙ reading.1;
      alike =
          reading.2;
      names = reading.3;
    }

either_none : (test : Bool) (o : Option Pattern) → o ≡ None → cond test None o ≡ None
either_none true o e = refl
either_none false o e = e

too_deep : (o : Option (Nested Re × Names)) → IfSome o
    (λ (re, found). default_config.nest_limit < re.depth) → option_and_then within_nesting o ≡ None
too_deep None h = refl
too_deep (Some found) h =
    cond-true (nat_lt default_config.nest_limit found.0.depth) None _ (lt-ltb _ _ h)

pub refused_is : (source : List ℕ) (e : Error) (inner : parser.Error) → e ≡ Syntax inner
    → IsRefusal default_config source e → IsRightKind default_config source e →
    pattern_of source ≡ None
unfolding Refuses
refused_is source e inner is by_grammar kind =
    either_none (nat_lt MAX_PATTERN_BYTES (length source)) _ (elim (by_grammar inner is) [
      | inl memory ↦ absurd ((rw is at kind) memory)
      | inr refused ↦ elim refused
          [ inl none ↦ ap (option_and_then within_nesting) none | inr deep ↦ too_deep _ deep.1 ]
    ])

-- on a text, the compiled pattern matches where the pattern does
pub matched : (source hay : List ℕ) (r : Regex) (found : Bool) → IsCompiled source r
    → ((k : ℕ) → get_or hay k 0 < 256) →
    found ≡ is_some (find_str (regex_pattern r) hay 0) →
    given BadPattern (pattern_of source) (λ pattern. Ok
    (boolean (is_some (find_str pattern.meaning hay 0)))) ≡ Ok (boolean found)
matched source hay r found c bytes is =
    ap (λ o. given BadPattern o
    (λ pattern. Ok (boolean (is_some (find_str pattern.meaning hay 0))))) c.is
    ∙ ap (λ b. Ok (boolean b)) (sym (is ∙ is_match_alike c.alike hay bytes true 0))

-- what a call goes on to with the pattern of a text
pub given_pattern : (source : List ℕ) (r : Regex) (c : IsCompiled source r)
    (f : Pattern → Result Plain Refused) → given BadPattern (pattern_of source) f ≡ f c.pattern
given_pattern source r c f = ap (λ o. given BadPattern o f) c.is
