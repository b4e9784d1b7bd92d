-- What is added, file after file and directory after directory.
use Rattle.std.proofs.Common.{◌≡◌, ◌⊎◌, ◌<◌, ◌+◌, ℕ, suc, Bool, true, false, List, [], ◌∷◌, ◌++◌, length, drop, get_or, Option, Some, None, is_some, ◌&&◌, ◌||◌, if◌then◌else◌, refl, sym, ap, ◌∙◌, subst, inl, inr, arith}
use Rattle.std.proofs.lemmas.List.{drop_more}
use Rattle.std.specs.Prelude.{bytes_eq, codes}
use Rattle.load_path.specs.Pictures.{content_in}
use Rattle.load_path.specs.declared.picture.PictureFile.{PictureFile}
use Rattle.object_names.specs.Objects.{stands_in, are_rising, is_object_in, AreObjects}
use Rattle.object_names.specs.Finding.{with_object, with_found, HasFile, Adds}
use Rattle.object_names.proofs.Places.{rising_with, stands_with, bytes_same, bytes_refl}

or_right : (a b : Bool) → b ≡ true → a || b ≡ true
or_right true b e = refl
or_right false b e = e

module _ (files : List PictureFile) (dirs : List (List ℕ)) where
  -- one name is looked at
  pub adds_found : (name : List ℕ) (IsSo : List ℕ → Type 0) (old new : List (List ℕ))
      → are_rising old ≡ true → new ≡ with_found files dirs name old
      → ((n : List ℕ) → IsSo n → n ≡ name) → Adds files dirs IsSo old new
  adds_found name IsSo old new rising is only =
      subst (Adds files dirs IsSo old) (sym is) (at (is_object_in files dirs name) refl)
    where
      sound_with : is_object_in files dirs name ≡ true → (n : List ℕ) (b : Bool) → bytes_eq name n
          ≡ b → b || stands_in n old ≡ true → (stands_in n old ≡ true)
          ⊎ (is_object_in files dirs n ≡ true)
      sound_with object n true same e =
          inr (ap (is_object_in files dirs) (sym (bytes_same name n same)) ∙ object)
      sound_with object n false same e = inl e

      at : (b : Bool) → is_object_in files dirs name ≡ b
          → Adds files dirs IsSo old (if b then with_object name old else old)
      at true object = record {
        rising = rising_with name old rising;
        keeps = λ n e. stands_with name n old ∙ or_right (bytes_eq name n) (stands_in n old) e;
        sound = λ n e. sound_with object n (bytes_eq name n) refl
            (sym (stands_with name n old) ∙ e);
        covers = λ n so e. stands_with name n old ∙ ap (λ z. bytes_eq z n || stands_in n old)
            (sym (only n so)) ∙ ap (λ b. b || stands_in n old) (bytes_refl n);
      }
      at false none = record {
        rising = rising;
        keeps = λ n e. e;
        sound = λ n e. inl e;
        covers = λ n so e. absurd (let clash : true ≡ false =
            sym e ∙ ap (is_object_in files dirs) (only n so) ∙ none in cc);
      }

  -- no name is so
  pub adds_none : (IsSo : List ℕ → Type 0) (old : List (List ℕ)) → are_rising old ≡ true
      → ((n : List ℕ) → IsSo n → is_object_in files dirs n ≡ true → ⊥)
      → Adds files dirs IsSo old old
  adds_none IsSo old rising none =
      record {
        rising = rising;
        keeps = λ n e. e;
        sound = λ n e. inl e;
        covers =
            λ n so e. absurd (none n so e);
      }

  -- the files from i on have this name
  abbrev pub Later : ℕ → List ℕ → List ℕ → Type 0
  Later i front n = is_some (content_in (drop i files) (front ++ (n ++ codes ".pan"))) ≡ true

  -- what was added of the files before i
  pub record AddedTo (i : ℕ) (front : List ℕ) (old now : List (List ℕ)) : Type 0 where
    pub rising : are_rising now ≡ true
    pub keeps : (name : List ℕ) → stands_in name old ≡ true → stands_in name now ≡ true
    pub sound : (name : List ℕ) → stands_in name now ≡ true → (stands_in name old ≡ true)
        ⊎ (is_object_in files dirs name ≡ true)
    pub covers : (name : List ℕ) → Later 0 front name → is_object_in files dirs name ≡ true
        → (stands_in name now ≡ true) ⊎ Later i front name

  pub added_first : (front : List ℕ) (old : List (List ℕ)) → are_rising old ≡ true
      → AddedTo 0 front old old
  added_first front old rising =
      record { rising = rising; keeps = λ n e. e; sound = λ n e. inl e; covers = λ n so e. inr so }

  pub added_next : (i : ℕ) (front : List ℕ) (old now new : List (List ℕ)) (f : PictureFile)
      → i < length files → f ≡ get_or files i f → AddedTo i front old now
      → Adds files dirs (λ name. front ++ (name ++ codes ".pan") ≡ f.name) now new
      → AddedTo (i + 1) front old new
  added_next i front old now new f lt is a s = record {
    rising = s.rising;
    keeps = λ n e. s.keeps n (a.keeps n e);
    sound = λ n e. sound_on n (s.sound n e);
    covers = λ n so e. covers_on n e (a.covers n so e);
  }
    where
      sound_on : (n : List ℕ) → (stands_in n now ≡ true) ⊎ (is_object_in files dirs n ≡ true)
          → (stands_in n old ≡ true) ⊎ (is_object_in files dirs n ≡ true)
      sound_on n (inl e) = a.sound n e
      sound_on n (inr e) = inr e

      more : drop i files ≡ f ∷ drop (i + 1) files
      more = drop_more files i f lt ∙ ap (λ x. x ∷ drop (i + 1) files) (sym is)

      here : (n : List ℕ) → is_object_in files dirs n ≡ true → (b : Bool)
          → bytes_eq f.name (front ++ (n ++ codes ".pan")) ≡ b
          → is_some (if b then Some f.content else content_in (drop (i + 1) files)
          (front ++ (n ++ codes ".pan"))) ≡ true → (stands_in n new ≡ true) ⊎ Later (i + 1) front n
      here n object true same e = inl (s.covers n (sym (bytes_same f.name _ same)) object)
      here n object false same e = inr e

      covers_on : (n : List ℕ) → is_object_in files dirs n ≡ true → (stands_in n now ≡ true)
          ⊎ Later i front n → (stands_in n new ≡ true) ⊎ Later (i + 1) front n
      covers_on n object (inl e) = inl (s.keeps n e)
      covers_on n object (inr e) =
          here n object (bytes_eq f.name (front ++ (n ++ codes ".pan"))) refl
          (sym (ap (λ fs. is_some (content_in fs (front ++ (n ++ codes ".pan")))) more) ∙ e)

  pub added_last : (i : ℕ) (front : List ℕ) (old now : List (List ℕ)) → drop i files ≡ []
      → AddedTo i front old now → Adds files dirs (HasFile files front) old now
  added_last i front old now end a = record {
    rising = a.rising;
    keeps = a.keeps;
    sound = a.sound;
    covers = λ n so e. covers_on n (a.covers n so e);
  }
    where
      covers_on : (n : List ℕ) → (stands_in n now ≡ true) ⊎ Later i front n → stands_in n now ≡ true
      covers_on n (inl e) = e
      covers_on n (inr e) = absurd (let clash : false ≡ true =
          sym (ap (λ fs. is_some (content_in fs (front ++ (n ++ codes ".pan")))) end) ∙ e in cc)
