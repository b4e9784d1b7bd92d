-- An object has a file in some directory.
use Rattle.std.proofs.Common.{◌≡◌, ◌⊎◌, ◌<◌, ◌+◌, ℕ, suc, Bool, true, false, List, [], ◌∷◌, ◌++◌, length, drop, get_or, map, fold, flat_map, Option, Some, None, is_some, ◌&&◌, ◌||◌, if◌then◌else◌, refl, sym, ap, ◌∙◌, inl, inr, arith}
use Rattle.std.proofs.lemmas.List.{drop_more, append-nil, append_assoc}
use Rattle.std.specs.Prelude.{bytes_eq, codes}
use Rattle.std.specs.List.{list_any}
use Rattle.path_tree.specs.Grammar.{is_name}
use Rattle.load_path.specs.Pictures.{content_in}
use Rattle.load_path.specs.Candidates.{with_slash, candidate, all_candidates, with_name, candidates}
use Rattle.load_path.specs.declared.picture.Content.{Content}
use Rattle.load_path.specs.declared.picture.PictureFile.{PictureFile}
use Rattle.object_names.specs.Objects.{or_next, first_there, stands_in, are_rising, is_object_content, is_object_in, AreObjects}
use Rattle.object_names.specs.Finding.{HasFile, Adds}

module _ (files : List PictureFile) where
  -- some of these files are there
  abbrev are_there : List (List ℕ) → Bool
  are_there [] = false
  are_there (n ∷ ns) = is_some (content_in files n) || are_there ns

  or_some : (c next : Option Content) → is_some (or_next c next) ≡ is_some c || is_some next
  or_some None next = refl
  or_some (Some c) next = refl

  there_some : (ns : List (List ℕ)) → is_some (first_there files ns) ≡ are_there ns
  there_some [] = refl
  there_some (n ∷ ns) = or_some (content_in files n) (first_there files ns)
      ∙ ap (λ b. is_some (content_in files n) || b) (there_some ns)

  or_false : (a b : Bool) → a ≡ false → b ≡ false → a || b ≡ false
  or_false true b p q = p
  or_false false b p q = q

  parts_false : (a b : Bool) → a || b ≡ false → (a ≡ false) × (b ≡ false)
  parts_false true b e = absurd (let clash : true ≡ false = e in cc)
  parts_false false b e = (refl, e)

  there_append : (ns ms : List (List ℕ)) → are_there ns ≡ false → are_there ms ≡ false
      → are_there (ns ++ ms) ≡ false
  there_append [] ms p q = q
  there_append (n ∷ ns) ms p q = let e =
      parts_false (is_some (content_in files n)) (are_there ns) p in
      or_false _ _ e.0 (there_append ns ms e.1 q)

  there_with : (ns : List (List ℕ)) (n : List ℕ) → are_there ns ≡ false
      → is_some (content_in files n) ≡ false → are_there (with_name ns n) ≡ false
  there_with ns n p q = at (list_any (bytes_eq n) ns)
    where
      at : (b : Bool) → are_there (if b then ns else ns ++ (n ∷ [])) ≡ false
      at true = p
      at false = there_append ns (n ∷ []) p (or_false _ _ q refl)

  there_fold : (found ns : List (List ℕ)) → are_there found ≡ false → are_there ns ≡ false
      → are_there (fold with_name found ns) ≡ false
  there_fold found [] p q = p
  there_fold found (n ∷ ns) p q = let e =
      parts_false (is_some (content_in files n)) (are_there ns) q in
      there_fold (with_name found n) ns (there_with found n p e.0) e.1

  -- a directory has a file of this name
  abbrev pub Reaches : List (List ℕ) → List ℕ → Bool
  Reaches [] name = false
  Reaches (d ∷ ds) name = is_some (content_in files (with_slash d ++ (name ++ codes ".pan")))
      || Reaches ds name

  candidate_is : (name d : List ℕ) → candidate name (codes ".pan") [] d ≡ with_slash d
      ++ (name ++ codes ".pan")
  candidate_is name d = append_assoc (with_slash d ++ []) name (codes ".pan")
      ∙ ap (λ z. z ++ (name ++ codes ".pan")) (append-nil (with_slash d))

  there_dirs : (ds : List (List ℕ)) (name : List ℕ)
      → are_there (map (candidate name (codes ".pan") []) ds) ≡ Reaches ds name
  there_dirs [] name = refl
  there_dirs (d ∷ ds) name =
      ap (λ n. is_some (content_in files n) || are_there
      (map (candidate name (codes ".pan") []) ds)) (candidate_is name d)
      ∙ ap (λ b. is_some (content_in files (with_slash d ++ (name ++ codes ".pan"))) || b)
      (there_dirs ds name)

  none_there : (ds : List (List ℕ)) (name : List ℕ) → Reaches ds name ≡ false
      → are_there (candidates name (codes ".pan") [] ds) ≡ false
  none_there ds name e = there_fold [] (all_candidates name (codes ".pan") [] ds) refl
      (ap are_there (append-nil (map (candidate name (codes ".pan") []) ds)) ∙ there_dirs ds name
      ∙ e)

  object_some : (c : Option Content) → is_object_content c ≡ true → is_some c ≡ true
  object_some None e = e
  object_some (Some c) e = refl

  second_true : (a b : Bool) → a && b ≡ true → b ≡ true
  second_true true b is = is
  second_true false b is = cc

  -- an object has a file in some directory
  pub reaches : (ds : List (List ℕ)) (name : List ℕ) → is_object_in files ds name ≡ true
      → Reaches ds name ≡ true
  reaches ds name object = at (Reaches ds name) refl
    where
      some : are_there (candidates name (codes ".pan") [] ds) ≡ true
      some = sym (there_some (candidates name (codes ".pan") [] ds))
          ∙ object_some (first_there files (candidates name (codes ".pan") [] ds))
          (second_true (is_name name) _ object)

      at : (b : Bool) → Reaches ds name ≡ b → b ≡ true
      at true e = refl
      at false e = absurd (let clash : true ≡ false = sym some ∙ none_there ds name e in cc)

  -- what was added of the directories before j
  pub record FoundTo (dirs : List (List ℕ)) (j : ℕ) (now : List (List ℕ)) : Type 0 where
    pub rising : are_rising now ≡ true
    pub sound : (name : List ℕ) → stands_in name now ≡ true → is_object_in files dirs name ≡ true
    pub covers : (name : List ℕ) → is_object_in files dirs name ≡ true → (stands_in name now ≡ true)
        ⊎ (Reaches (drop j dirs) name ≡ true)

  pub found_first : (dirs now : List (List ℕ)) → now ≡ [] → FoundTo dirs 0 now
  found_first dirs now is = record {
    rising = ap are_rising is;
    sound = λ name e. absurd (let clash : false ≡ true = sym (ap (stands_in name) is) ∙ e in cc);
    covers = λ name e. inr (reaches dirs name e);
  }

  pub found_next : (dirs : List (List ℕ)) (j : ℕ) (now new : List (List ℕ)) (d : List ℕ)
      → j < length dirs → d ≡ get_or dirs j d → FoundTo dirs j now
      → Adds files dirs (HasFile files (with_slash d)) now new → FoundTo dirs (j + 1) new
  found_next dirs j now new d lt is f s = record {
    rising = s.rising;
    sound = λ n e. sound_on n (s.sound n e);
    covers = λ n e. covers_on n e (f.covers n e);
  }
    where
      sound_on : (n : List ℕ) → (stands_in n now ≡ true) ⊎ (is_object_in files dirs n ≡ true)
          → is_object_in files dirs n ≡ true
      sound_on n (inl e) = f.sound n e
      sound_on n (inr e) = e

      more : drop j dirs ≡ d ∷ drop (j + 1) dirs
      more = drop_more dirs j d lt ∙ ap (λ x. x ∷ drop (j + 1) dirs) (sym is)

      here : (n : List ℕ) → is_object_in files dirs n ≡ true → (b : Bool)
          → is_some (content_in files (with_slash d ++ (n ++ codes ".pan"))) ≡ b → b
          || Reaches (drop (j + 1) dirs) n ≡ true → (stands_in n new ≡ true)
          ⊎ (Reaches (drop (j + 1) dirs) n ≡ true)
      here n object true there e = inl (s.covers n there object)
      here n object false there e = inr e

      covers_on : (n : List ℕ) → is_object_in files dirs n ≡ true → (stands_in n now ≡ true)
          ⊎ (Reaches (drop j dirs) n ≡ true) → (stands_in n new ≡ true)
          ⊎ (Reaches (drop (j + 1) dirs) n ≡ true)
      covers_on n object (inl e) = inl (s.keeps n e)
      covers_on n object (inr e) = here n object _ refl (sym (ap (λ ds. Reaches ds n) more) ∙ e)

  pub found_last : (dirs : List (List ℕ)) (j : ℕ) (now : List (List ℕ)) → drop j dirs ≡ []
      → FoundTo dirs j now → AreObjects files dirs now
  found_last dirs j now end f =
      record {
        rising = f.rising;
        exactly =
            λ n. at n (stands_in n now) refl (is_object_in files dirs n) refl;
      }
    where
      covers_on : (n : List ℕ) → (stands_in n now ≡ true) ⊎ (Reaches (drop j dirs) n ≡ true)
          → stands_in n now ≡ true
      covers_on n (inl e) = e
      covers_on n (inr e) = absurd (let clash : false ≡ true =
          sym (ap (λ ds. Reaches ds n) end) ∙ e in cc)

      at : (n : List ℕ) (a : Bool) → stands_in n now ≡ a → (b : Bool) → is_object_in files dirs n
          ≡ b → stands_in n now ≡ is_object_in files dirs n
      at n true e true o = e ∙ sym o
      at n true e false o = e ∙ sym (f.sound n e)
      at n false e true o = covers_on n (f.covers n o) ∙ sym o
      at n false e false o = e ∙ sym o
