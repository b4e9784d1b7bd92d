-- How a text is put together match by match.
use Rattle.std.proofs.Common.{◌≡◌, ℕ, ◌+◌, ◌-◌, ◌<◌, ◌≤◌, Bool, true, false, cond, List, [], ◌∷◌, ◌++◌, length, take, Option, None, Some, slice_range, append_assoc, get_or, refl, sym, ap, ap₂, ◌∙◌, subst, arith}
use Rattle.std.specs.Prelude.{Result, Ok, Err, nat_lt, option_map}
use Rattle.std.proofs.lemmas.List.{flat_map_more, take_all, take_more, take_rest}
use Rattle.std.proofs.lemmas.Option.{same_Some}
use Rattle.base.specs.declared.limits.TheConstants.{MAX_TEXT_BYTES}
use Rattle.call_values.specs.Drafts.{drafted, finished}
use Rattle.path_tree.specs.Plain.{Plain, text}
use Rattle.path_tree.specs.Values.{text_value}
use Rattle.path_tree.specs.declared.refused.Refused.{Refused}
use Rattle.path_tree.specs.declared.refused.Refused.TheVariants.{TooLarge}
use Rattle.regex.specs.Patterns.{Match, Re, find_str, span}
use Rattle.regex.specs.Replace.{group_bytes, replaced_by}
use Rattle.regex.specs.Search.{group_span, matches_after, next_match}
use Rattle.regex.specs.Strings.{IsCapturesOf, captures_span, match_span}
use Rattle.regex.specs.Templates.{written_after}
use Rattle.regex.specs.declared.string.captures.Captures.{Captures}
use Rattle.regex.specs.declared.string.matcher.Match as found
use Rattle.regex.proofs.SearchLemmas.{matches_after_none, matches_after_some, matches_after_text, next_later, next_same, next_within}
use Rattle.builtins_patterns.specs.Calls.{rewritten}
use Rattle.builtins_patterns.specs.Parts.{captured_text, part_text, written, WritesNext}
use Rattle.builtins_patterns.specs.declared.template.Part.{Part}
use Rattle.builtins_patterns.specs.declared.template.Part.TheVariants.{Text, Group, Nothing}
use Rattle.builtins_patterns.proofs.Captured.{group_is}

-- the same groups write the same
part_same : (g h : ℕ → List ℕ) → ((n : ℕ) → g n ≡ h n) → (p : Part) → part_text g p ≡ part_text h p
part_same g h e (Text t) = refl
part_same g h e (Group n) = e n
part_same g h e Nothing = refl

written_same : (g h : ℕ → List ℕ) → ((n : ℕ) → g n ≡ h n) → (ps : List Part) → written g ps
    ≡ written h ps
written_same g h e [] = refl
written_same g h e (p ∷ ps) = ap₂ ◌++◌ (part_same g h e p) (written_same g h e ps)

replaced_same : (f g : Match → List ℕ) (hay : List ℕ) → ((m : Match) → f m ≡ g m)
    → (at : ℕ) (ms : List Match) → replaced_by f hay at ms ≡ replaced_by g hay at ms
unfolding replaced_by
replaced_same f g hay e at [] = refl
replaced_same f g hay e at (m ∷ ms) =
    ap₂ ◌++◌ (ap (λ x. slice_range hay at m.start ++ x) (e m))
    (replaced_same f g hay e m.trace.end ms)

pub at_captures : (hay : List ℕ) (m : Match) (c : Captures) (ps : List Part) → IsCapturesOf hay m c
    → written (captured_text c) ps ≡ written (group_bytes hay m) ps
at_captures hay m c ps h =
    written_same (captured_text c) (group_bytes hay m) (group_is hay m c h) ps

-- one part more was written
pub part_more : (g : ℕ → List ℕ) (ps : List Part) (i : ℕ) (w : List ℕ) (d : Part) → i < length ps →
    (w ++ written g (take i ps)) ++ part_text g (get_or ps i d) ≡ w ++ written g (take (i + 1) ps)
part_more g ps i w d h =
    flat_map_more (part_text g) w (take i ps) (get_or ps i d)
    ∙ ap (λ xs. w ++ written g xs) (sym (take_more ps i d h))

-- all were written
pub parts_all : (g : ℕ → List ℕ) (ps : List Part) (i : ℕ) (w : List ℕ) → length ps ≤ i
    → drafted (w ++ written g (take i ps)) ≡ drafted (w ++ written g ps)
parts_all g ps i w h = ap (λ xs. drafted (w ++ written g xs)) (take_all i ps h)

-- the whole of a capture is where the match stands
pub whole_span : (hay : List ℕ) (m : Match) (c : Captures) (x : found.Match) → IsCapturesOf hay m c
    → Some (match_span x) ≡ captures_span c 0 → match_span x ≡ span m
unfolding group_span
whole_span hay m c x h e = same_Some _ _ e ∙ h.1.whole_is

-- the text with what the parts write in the place of each of these matches
abbrev pub replaced_in : List Part → List ℕ → ℕ → List Match → List ℕ
replaced_in ps hay at ms = replaced_by (λ m. written (group_bytes hay m) ps) hay at ms

-- what is left to write, from the end of the last match on
abbrev pub left_of : Re → List Part → List ℕ → ℕ → List ℕ
left_of re ps hay after = replaced_in ps hay (after - 1) (matches_after true re hay after)

module _ (re : Re) (ps : List Part) (hay : List ℕ) where
  step : (after : ℕ) (m : Match) → next_match true re hay after ≡ Some m →
      (slice_range hay (after - 1) m.start ++ written (group_bytes hay m) ps)
      ++ left_of re ps hay (m.trace.end + 1) ≡ left_of re ps hay after
  unfolding replaced_by
  step after m e =
      let back : m.trace.end + 1 - 1 ≡ m.trace.end = omega arith in
      ap (λ n. (slice_range hay (after - 1) m.start ++ written (group_bytes hay m) ps)
      ++ replaced_in ps hay n (matches_after true re hay (m.trace.end + 1))) back
      ∙ sym (ap (replaced_in ps hay (after - 1)) (matches_after_some re hay true after m e))

  last : (after : ℕ) → next_match true re hay after ≡ None
      → slice_range hay (after - 1) (length hay) ≡ left_of re ps hay after
  unfolding replaced_by
  last after e = take_rest hay (after - 1) ∙ sym
      (ap (replaced_in ps hay (after - 1)) (matches_after_none re hay true after e))

  -- what is made goes on to the whole
  pub record GoesOn (draft : Option (List ℕ)) (after : ℕ) : Type 0 where
    pub made : List ℕ
    pub is : draft ≡ drafted made
    pub whole : made ++ left_of re ps hay after ≡ left_of re ps hay 0

  pub begins : (draft : Option (List ℕ)) → draft ≡ drafted [] → GoesOn draft 0
  begins draft is = record { made = []; is = is; whole = refl }

  pub goes_on : (draft new : Option (List ℕ)) (after end : ℕ) → GoesOn draft after
      → WritesNext re ps hay after draft new (Some end) → GoesOn new (end + 1)
  goes_on draft new after end h (m, next, ends, grows) = record {
    made = h.made ++ (slice_range hay (after - 1) m.start ++ written (group_bytes hay m) ps);
    is = grows h.made h.is;
    whole =
        append_assoc h.made (slice_range hay (after - 1) m.start ++ written (group_bytes hay m) ps)
        (left_of re ps hay (end + 1))
        ∙ ap (λ n. h.made ++ ((slice_range hay (after - 1) m.start
        ++ written (group_bytes hay m) ps) ++ left_of re ps hay (n + 1))) (sym ends)
        ∙ ap (λ x. h.made ++ x) (step after m next) ∙ h.whole;
  }

  pub within : (draft new : Option (List ℕ)) (after end : ℕ)
      → WritesNext re ps hay after draft new (Some end) → (after ≤ end) × (end ≤ length hay)
  within draft new after end (m, next, ends, grows) =
      let h = next_within re hay true after m next in
      (omega (arith, h.0, ends), omega (arith, h.1, ends))

  pub ends : (draft old new : Option (List ℕ)) (after : ℕ) → GoesOn draft after
      → WritesNext re ps hay after draft old None →
      ((w : List ℕ) → old ≡ drafted w → new ≡ drafted
      (w ++ slice_range hay (after - 1) (length hay))) → new ≡ drafted (left_of re ps hay 0)
  ends draft old new after h (none, same) grows =
      grows h.made (same ∙ h.is) ∙ ap drafted (ap (λ x. h.made ++ x) (last after none) ∙ h.whole)

  pub all_of_it : (names : List (Option (List ℕ))) (template : List ℕ)
      → ((groups : ℕ → List ℕ) → written groups ps ≡ written_after names groups template 0) →
      left_of re ps hay 0 ≡ rewritten (record { meaning = re; names = names }) template hay
  all_of_it names template reads =
      replaced_same (λ m. written (group_bytes hay m) ps)
      (λ m. written_after names (group_bytes hay m) template 0) hay
      (λ m. reads (group_bytes hay m)) 0 (matches_after true re hay 0)
      ∙ ap (replaced_by (λ m. written_after names (group_bytes hay m) template 0) hay 0)
      (matches_after_text re hay)

twice : (b : Bool) (x z : Result Plain Refused) → cond b x (cond b x z) ≡ cond b x z
twice true x z = refl
twice false x z = refl

of_kept : (b : Bool) (w : List ℕ) → finished (cond b None (Some w))
    ≡ cond b (Err TooLarge) (text_value w)
of_kept true w = refl
of_kept false w = refl

-- the value of a draft is that of its text
pub finished_is : (w : List ℕ) → finished (drafted w) ≡ text_value w
finished_is w = of_kept (nat_lt MAX_TEXT_BYTES (length w)) w
    ∙ twice (nat_lt MAX_TEXT_BYTES (length w)) (Err TooLarge) (Ok (text w))

module _ (re : Re) (hay : List ℕ) where
  -- where the next match is the leftmost
  pub starts_first : (after : ℕ) → after ≡ 0 → find_str re hay 0 ≡ next_match true re hay after
  starts_first after z = sym (ap (next_match true re hay) z
      ∙ next_same re hay true 0 (λ m f. omega arith))

  pub starts_later : (after : ℕ) (o : Option Match) (s : ℕ × ℕ) → find_str re hay (after - 1) ≡ o
      → Some s ≡ option_map span o → s.1 < after →
      find_str re hay after ≡ next_match true re hay after
  starts_later after None s e h lt = absurd cc
  starts_later after (Some m) s e h lt =
      let same : s.1 ≡ m.trace.end = ap (λ (p : ℕ × ℕ). p.1) (same_Some _ _ h) in
      sym (next_later re hay true after m e (omega (arith, same, lt)))

  pub starts_there : (after : ℕ) (o : Option Match) (s : ℕ × ℕ) → find_str re hay (after - 1) ≡ o
      → Some s ≡ option_map span o → after ≤ s.1 →
      find_str re hay (after - 1) ≡ next_match true re hay after
  starts_there after None s e h le = absurd cc
  starts_there after (Some m) s e h le =
      let same : s.1 ≡ m.trace.end = ap (λ (p : ℕ × ℕ). p.1) (same_Some _ _ h) in
      sym (next_same re hay true after (λ x f. let other : m.trace.end ≡ x.trace.end =
      ap (λ (y : Match). y.trace.end) (same_Some _ _ (sym e ∙ f)) in
      omega (arith, same, le, other)))

  pub starts_nowhere : (after : ℕ) (o : Option Match) → find_str re hay (after - 1) ≡ o → None
      ≡ option_map span o → find_str re hay (after - 1) ≡ next_match true re hay after
  starts_nowhere after (Some m) e h = absurd cc
  starts_nowhere after None e h =
      sym (next_same re hay true after (λ x f. absurd (let no : None ≡ Some x = sym e ∙ f in cc)))

-- what was written, with the pattern, the parts and the end under other names
pub as_told : (re re' : Re) (ps ps' : List Part) (hay : List ℕ) (after : ℕ)
    (old new : Option (List ℕ)) (o o' : Option ℕ) → re ≡ re' → ps ≡ ps' → o ≡ o' →
    WritesNext re ps hay after old new o → WritesNext re' ps' hay after old new o'
as_told re re' ps ps' hay after old new o o' e f g h =
    let P : Re → Type 0 = λ r. WritesNext r ps hay after old new o in
    let Q : List Part → Type 0 = λ qs. WritesNext re' qs hay after old new o in
    let R : Option ℕ → Type 0 = λ q. WritesNext re' ps' hay after old new q in
    subst R g (subst Q f (subst P e h))
