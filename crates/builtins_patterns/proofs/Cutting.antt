-- How a text is cut match by match.
use Rattle.std.proofs.Common.{◌≡◌, ℕ, zero, suc, ◌+◌, ◌-◌, ◌≤◌, true, false, List, [], ◌∷◌, ◌++◌, map, length, take, Option, None, Some, MatchOption, slice_range, append_assoc, true≢false, refl, sym, ap, ap₂, ◌∙◌, arith}
use Rattle.std.specs.Prelude.{option_map}
use Rattle.std.proofs.lemmas.Option.{same_Some}
use Rattle.path_tree.specs.Plain.{Plain, text}
use Rattle.regex.specs.Patterns.{Match, Re, find_all_str, span}
use Rattle.regex.specs.Search.{IsNextLeft, gaps, matches_after, matches_left, next_match}
use Rattle.regex.specs.Strings.{match_span}
use Rattle.regex.specs.declared.string.matcher.Match as found
use Rattle.regex.proofs.SearchLemmas.{matches_after_none, matches_after_some, matches_after_text, next_within}
use Rattle.builtins_patterns.specs.Calls.{cuts, pieces_of}
use Rattle.builtins_patterns.specs.Pieces.{is_spent}

module _ (re : Re) (hay : List ℕ) where
  -- the texts between these matches, from a place on
  abbrev between : ℕ → List Match → List Plain
  between at ms = map text (map (λ gap. slice_range hay gap.0 gap.1) (gaps (length hay) at ms))

  -- the pieces that are left, with so many cuts, from the end of the last match on
  abbrev pub pieces_after : Option ℕ → ℕ → List Plain
  pieces_after left after = between (after - 1) (matches_left true re hay left after)

  -- all of them
  pub begins : (limit : Option ℕ) → pieces_after (option_map (λ n. n - 1) limit) 0
      ≡ pieces_of hay (cuts limit (find_all_str re hay))
  begins None = ap (between 0) (matches_after_text re hay)
  begins (Some n) = ap (λ ms. between 0 (take (n - 1) ms)) (matches_after_text re hay)

  -- the next one
  pub goes_on : (made all : List Plain) (left : Option ℕ) (after : ℕ) (m : Match) (s : ℕ × ℕ)
      → IsNextLeft true re hay left after m s →
      made ++ pieces_after left after ≡ all →
      (made ++ text (slice_range hay (after - 1) s.0) ∷ [])
      ++ pieces_after (option_map (λ n. n - 1) left) (s.1 + 1) ≡ all
  goes_on made all left after m s h so_far =
      let start : s.0 ≡ m.start = ap (λ (p : ℕ × ℕ). p.0) h.spans in
      let end : s.1 ≡ m.trace.end = ap (λ (p : ℕ × ℕ). p.1) h.spans in
      let back : s.1 + 1 - 1 ≡ m.trace.end = omega (arith, end) in
      let rest = matches_left true re hay (option_map (λ n. n - 1) left) (s.1 + 1) in
      append_assoc made (text (slice_range hay (after - 1) s.0) ∷ []) (between (s.1 + 1 - 1) rest)
      ∙ ap₂ (λ x n. made ++ text (slice_range hay (after - 1) x) ∷ between n rest) start back
      ∙ ap (λ ms. made ++ between (after - 1) ms) (sym h.first)
      ∙ so_far

  -- the last one
  pub ends : (made all : List Plain) (left : Option ℕ) (after : ℕ)
      → matches_left true re hay left after ≡ [] → made ++ pieces_after left after ≡ all →
      made ++ text (slice_range hay (after - 1) (length hay)) ∷ [] ≡ all
  ends made all left after none so_far =
      ap (λ ms. made ++ between (after - 1) ms) (sym none) ∙ so_far

  pub within : (left : Option ℕ) (after : ℕ) (m : Match) (s : ℕ × ℕ)
      → IsNextLeft true re hay left after m s → (after ≤ s.1) × (s.1 ≤ length hay)
  within left after m s h =
      let end : s.1 ≡ m.trace.end = ap (λ (p : ℕ × ℕ). p.1) h.spans in
      let at = next_within re hay true after m h.is_next in
      (omega (arith, end, at.0), omega (arith, end, at.1))

  none_left : (left : Option ℕ) (after : ℕ) → next_match true re hay after ≡ None
      → matches_left true re hay left after ≡ []
  none_left None after e = matches_after_none re hay true after e
  none_left (Some zero) after e = refl
  none_left (Some (suc k)) after e = ap (take (suc k)) (matches_after_none re hay true after e)

  first_left : (left : Option ℕ) (after : ℕ) (m : Match) → is_spent left ≡ false
      → next_match true re hay after ≡ Some m →
      matches_left true re hay left after ≡ m ∷ matches_left true re hay
      (option_map (λ n. n - 1) left) (m.trace.end + 1)
  first_left None after m some e = matches_after_some re hay true after m e
  first_left (Some zero) after m some e = absurd (true≢false some)
  first_left (Some (suc k)) after m some e =
      let back : suc k - 1 ≡ k = omega arith in
      ap (take (suc k)) (matches_after_some re hay true after m e)
      ∙ ap (λ n. m ∷ take n (matches_after true re hay (m.trace.end + 1))) (sym back)

  is_next : (left : Option ℕ) (after : ℕ) (m : Match) (s : ℕ × ℕ) → is_spent left ≡ false
      → next_match true re hay after ≡ Some m → s ≡ span m →
      IsNextLeft true re hay left after m s
  is_next left after m s some e same = record {
    spans = same;
    is_next = e;
    first = first_left left after m some e
        ∙ ap (λ (p : ℕ × ℕ). m ∷ matches_left true re hay (option_map (λ n. n - 1) left) (p.1 + 1))
        (sym same);
  }

  cut_by : (left : Option ℕ) (after : ℕ) (o : Option Match) (r : Option found.Match) → is_spent left
      ≡ false → next_match true re hay after ≡ o →
      option_map match_span r ≡ option_map span o →
      MatchOption r (matches_left true re hay left after ≡ [])
      (λ x. (m : Match) × IsNextLeft true re hay left after m (match_span x))
  cut_by left after None None some e same = none_left left after e
  cut_by left after (Some m) (Some x) some e same =
      (m, is_next left after m (match_span x) some e (same_Some _ _ same))
  cut_by left after None (Some x) some e same = absurd cc
  cut_by left after (Some m) None some e same = absurd cc

  -- the next match is the first that is left
  pub cut_found : (left : Option ℕ) (after : ℕ) (r : Option found.Match) → is_spent left ≡ false →
      option_map match_span r ≡ option_map span (next_match true re hay after) →
      MatchOption r (matches_left true re hay left after ≡ [])
      (λ x. (m : Match) × IsNextLeft true re hay left after m (match_span x))
  cut_found left after r some same =
      cut_by left after (next_match true re hay after) r some refl same
