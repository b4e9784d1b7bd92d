-- What the index reaches is what the machine touches.
use Rattle.std.proofs.Common.{◌≡◌, ℕ, zero, suc, ◌⊎◌, ◌||◌, ◌&&◌, not, List, [], ◌∷◌, Bool, true, false, cond, nat_eq, Some, None, length, refl, sym, ap, ◌∙◌, subst, inl, inr, ⊎_elim}
use Rattle.std.specs.Prelude.{bytes_eq}
use Rattle.std.specs.List.{list_any}
use Rattle.std.proofs.lemmas.Bool.{eq-eqb}
use Rattle.load_path.specs.declared.picture.PictureFile.{PictureFile}
use Rattle.path_tree.specs.declared.path.Term.{Term}
use Rattle.questions.specs.declared.key.Key.{Key}
use Rattle.questions.specs.declared.key.Key.TheVariants.{File, Under}
use Rattle.questions.specs.Contents.{Content}
use Rattle.questions.specs.Keys.{key_eq}
use Rattle.questions.specs.KeyLaws.{key_same, key_refl}
use Rattle.read_index.specs.Subjects.{subject, reader_key}
use Rattle.read_index.specs.Reached.{Reaches, reads_moved, reads_reader, AreReaching}
use Rattle.engine_laws.specs.Names.{Name, equal}
use Rattle.engine_laws.specs.Runner.{Picture, IsIn}
use Rattle.engine_laws.specs.Engine.{is_among, lacks_record, any_key, is_moved, if_object_of, all_settled, moves, items_at, is_touched_first, is_touched, touched_by}
use Rattle.engine_laws.proofs.Names.{equal-is}
use Rattle.engine_laws.proofs.Touched.{AllKeys, all_both, or_left, or_right, is_spared}
use Rattle.engine_machine.specs.Pictures.{target_in, picture_in}
use Rattle.engine_machine.proofs.RunnerLaws.{is_in, target_among}
use Rattle.engine_turns.specs.States.{EngineState}
use Rattle.rebuild.specs.Engines.{EngineSituation}
use Rattle.rebuild.specs.Reaching.{Asking, asks_for}
use Rattle.rebuild.proofs.Moves.{not_true, not_both}

pub true_of : (b : Bool) → (b ≡ false → ⊥) → b ≡ true
true_of true h = refl
true_of false h = absurd (h refl)

pub same_truth : (a b : Bool) → (a ≡ true → b ≡ true) → (b ≡ true → a ≡ true) → a ≡ b
same_truth true b f g = sym (f refl)
same_truth false true f g = g refl
same_truth false false f g = refl

-- a key of the items that passes a test
some_key : {K : Type 0} (test : K → Bool) (P : K → Type 0) (items : List (K × ℕ))
    → any_key test items ≡ true → AllKeys P items → (j : K) × (test j ≡ true) × P j
some_key test P [] e all = absurd (let clash : false ≡ true = e in cc)
some_key {K} test P (q ∷ items) e all = at (λ e. some_key test P items e all.1) (test q.0) refl e
  where
    at : (any_key test items ≡ true → (j : K) × (test j ≡ true) × P j) → (b : Bool) → test q.0 ≡ b
        → b || any_key test items ≡ true → (j : K) × (test j ≡ true) × P j
    at later true is e = (q.0, is, all.0)
    at later false is e = later e

found_key : {K : Type 0} (test : K → Bool) (items : List (K × ℕ)) → any_key test items ≡ true
    → (j : K) × (test j ≡ true) × ((other : K → Bool) → other j ≡ true → any_key other items ≡ true)
found_key test [] e = absurd (let clash : false ≡ true = e in cc)
found_key {K} test (q ∷ items) e = at (found_key test items) (test q.0) refl e
  where
    at : (any_key test items ≡ true → (j : K) × (test j ≡ true)
        × ((other : K → Bool) → other j ≡ true → any_key other items ≡ true)) → (b : Bool) → test
        q.0 ≡ b → b || any_key test items ≡ true → (j : K) × (test j ≡ true)
        × ((other : K → Bool) → other j ≡ true → any_key other (q ∷ items) ≡ true)
    at later true is e = (q.0, is, λ other h. or_left (other q.0) (any_key other items) h)
    at later false is e = let l = later e in
        (l.0, l.1, λ other h. or_right (other q.0) (any_key other items) (l.2 other h))

module _ {T : Type 0} (fs fs' : List PictureFile) (os os' : List Name) (s : EngineState T)
    (number : Key → ℕ) where
  abbrev pub before : EngineSituation T
  before = record { picture = picture_in fs os; state = s }

  abbrev pub after : Picture Key Content
  after = picture_in fs' os'

  -- it is touched whatever the others are and whatever moves
  abbrev pub by_itself : Name → Bool
  by_itself p = lacks_record (s.reads p) (s.checked p)
      || (not (all_settled before after number) && s.touched p)

  -- what a key that moves is: a file with another number; an object that is gone or new, or is
  -- touched
  -- by itself
  abbrev pub IsMoving : Key → Type 0
  IsMoving (File f) = nat_eq (number (File f)) (s.number (File f)) ≡ false
  IsMoving (Under p terms) =
      ((is_among p os ≡ true) × (is_among p os' ≡ false))
      ⊎ ((is_among p os ≡ false) × (is_among p os' ≡ true))
      ⊎ ((is_among p os ≡ true) × (by_itself p ≡ true))

  -- what the index says, and what moves
  pub record IsGiven (asks : Asking) (moved : List Key) : Type 0 where
    pub small : (p : Name) (terms : List Term) → number (Under p terms) ≡ s.number (Under p terms)
    pub absent : (p : Name) (k : Key) → is_among p os ≡ false → asks (reader_key p) k ≡ false
    pub fits : (p : Name) (k : Key) → is_among p os ≡ true → by_itself p ≡ false
        → asks (reader_key p) k ≡ asks_for k (items_at before after number p)
    pub file_in : (f : Name) → IsMoving (File f) → list_any (key_eq (File f)) moved ≡ true
    pub object_in : (p : Name) → IsMoving (reader_key p) → list_any (key_eq (reader_key p)) moved
        ≡ true
    pub only : (k : Key) → list_any (key_eq k) moved ≡ true → IsMoving k

  among : (k : Key) (p : Name) → target_in os k ≡ Some p → IsIn p os
  among k p e = is_in p os (target_among os k p e).0

  -- a key that moves is a file or an object that does
  moves_in : (asks : Asking) (moved : List Key) → IsGiven asks moved → (j : Key)
      → moves before after number j ≡ true → list_any (key_eq (subject j)) moved ≡ true
  moves_in asks moved g (File f) e =
      g.file_in f (not_true (nat_eq (number (File f)) (s.number (File f))) e)
  moves_in asks moved g (Under p terms) e = at (is_among p os) refl (is_among p os') refl e
    where
      at : (a : Bool) → is_among p os ≡ a → (b : Bool) → is_among p os' ≡ b
          → is_moved (cond a (Some p) None) (cond b (Some p) None) (s.number (Under p terms))
          (number (Under p terms)) ≡ true → list_any (key_eq (reader_key p)) moved ≡ true
      at true is true is' e = not_both (equal p p) (equal-is p p refl) (not_true (equal p p) e)
      at true is false is' e = g.object_in p (inl (is, is'))
      at false is true is' e = g.object_in p (inr (inl (is, is')))
      at false is false is' e =
          not_both (nat_eq (number (Under p terms)) (s.number (Under p terms)))
          (eq-eqb (number (Under p terms)) (s.number (Under p terms)) (g.small p terms))
          (not_true (nat_eq (number (Under p terms)) (s.number (Under p terms))) e)

  gone_moves : (p : Name) (terms : List Term) → is_among p os ≡ true → is_among p os' ≡ false
      → moves before after number (Under p terms) ≡ true
  gone_moves p terms a b =
      (λ i. is_moved (cond (a i) (Some p) None) (cond (b i) (Some p) None)
      (s.number (Under p terms)) (number (Under p terms)))

  new_moves : (p : Name) (terms : List Term) → is_among p os ≡ false → is_among p os' ≡ true
      → moves before after number (Under p terms) ≡ true
  new_moves p terms a b = (λ i. is_moved (cond (a i) (Some p) None) (cond (b i) (Some p) None)
      (s.number (Under p terms)) (number (Under p terms)))

  -- ways to be touched
  first_up : (n : ℕ) (o : Name) → is_touched_first before after number o ≡ true
      → is_touched before after number n o ≡ true
  first_up zero o e = e
  first_up (suc n) o e = or_left (is_touched_first before after number o)
      (any_key (λ k. if_object_of (is_touched before after number n) (target_in os k))
      (items_at before after number o)) e

  itself_first : (o : Name) → by_itself o ≡ true → is_touched_first before after number o ≡ true
  itself_first o e = or_right (not (is_among o os)) _
      (at (lacks_record (s.reads o) (s.checked o)) (not (all_settled before after number)
      && s.touched o) e)
    where
      at : (a b : Bool) → a || b ≡ true → a
          || (b || any_key (moves before after number) (items_at before after number o)) ≡ true
      at true b e = refl
      at false true e = refl
      at false false e = absurd (let clash : false ≡ true = e in cc)

  touched_up : (o : Name) → is_touched before after number (length os) o ≡ true
      → touched_by before after number o ≡ true
  touched_up o e = or_right (not (is_among o os')) (is_touched before after number (length os) o) e

  -- what the key of an item of an object that is not touched is not
  spared_key : (j : Key) → moves before after number j ≡ false
      → if_object_of (is_touched before after number (length os)) (target_in os j) ≡ false
      → IsMoving (subject j) → ⊥
  spared_key (File f) still off m =
      not_both (nat_eq (number (File f)) (s.number (File f)))
      (at (nat_eq (number (File f)) (s.number (File f))) still) m
    where
      at : (b : Bool) → not b ≡ false → b ≡ true
      at true e = refl
      at false e = absurd (let clash : true ≡ false = e in cc)
  spared_key (Under p terms) still off m =
      ⊎_elim
      (λ (a : (is_among p os ≡ true) × (is_among p os' ≡ false)). not_both
      (moves before after number (Under p terms)) (gone_moves p terms a.0 a.1) still)
      (⊎_elim
      (λ (a : (is_among p os ≡ false) × (is_among p os' ≡ true)). not_both
      (moves before after number (Under p terms)) (new_moves p terms a.0 a.1) still)
      (λ (a : (is_among p os ≡ true) × (by_itself p ≡ true)). not_both
      (if_object_of (is_touched before after number (length os)) (target_in os (Under p terms)))
      (ap (λ b. if_object_of (is_touched before after number (length os))
      (cond b (Some p) None)) a.0 ∙ first_up (length os) p (itself_first p a.1)) off))
      m

  -- nor does it ask for an object that is touched
  spared_object : (j : Key) (object : Name) → key_eq (reader_key object) (subject j) ≡ true
      → moves before after number j ≡ false → if_object_of
      (is_touched before after number (length os)) (target_in os j) ≡ false → is_among object os
      ≡ true → touched_by before after number object ≡ true → ⊥
  spared_object (File f) object same still off a touched = let clash : false ≡ true = same in cc
  spared_object (Under p terms) object same still off a touched =
      at (is_among object os') refl touched
    where
      named : object ≡ p
      named = let e : reader_key object ≡ reader_key p =
          key_same (reader_key object) (reader_key p) same in cc

      in_old : is_among p os ≡ true
      in_old = ap (λ z. is_among z os) (sym named) ∙ a

      at : (b : Bool) → is_among object os' ≡ b → not b
          || is_touched before after number (length os) object ≡ true → ⊥
      at false is e = not_both (moves before after number (Under p terms))
          (gone_moves p terms in_old (ap (λ z. is_among z os') (sym named) ∙ is)) still
      at true is e = not_both (if_object_of (is_touched before after number (length os))
          (target_in os (Under p terms)))
          (ap (λ b. if_object_of (is_touched before after number (length os))
          (cond b (Some p) None)) in_old ∙ ap (is_touched before after number (length os))
          (sym named) ∙ e) off

  module _ (asks : Asking) (moved : List Key) (g : IsGiven asks moved) where
    abbrev IsTouchedNow : Name → Type 0
    IsTouchedNow p = (is_among p os ≡ true) × (touched_by before after number p ≡ true)

    -- an object that asks for a key, unless it is not touched
    asks_touched : (name : Name) (k : Key) → asks (reader_key name) k ≡ true
        → ((j : Key) → key_eq k (subject j) ≡ true → moves before after number j
        ≡ false → if_object_of (is_touched before after number (length os)) (target_in os j) ≡ false
        → ⊥) → IsTouchedNow name
    asks_touched name k a never = at (is_among name os) refl
      where
        spares : is_among name os ≡ true → by_itself name ≡ false
            → touched_by before after number name ≡ false → ⊥
        spares is off e =
            let sp = is_spared before after number among name e in
            let P : Key → Type 0 = λ j. moves before after number j ≡ false in
            let Q : Key → Type 0 = λ j. if_object_of (is_touched before after number (length os))
            (target_in os j) ≡ false in
            let items = items_at before after number name in
            let j = some_key (λ j. key_eq k (subject j)) (λ j. P j × Q j) items
            (sym (g.fits name k is off) ∙ a) (all_both P Q items sp.unmoved sp.reads) in
            never j.0 j.1 j.2.0 j.2.1

        touched : is_among name os ≡ true → (b : Bool) → by_itself name ≡ b
            → touched_by before after number name ≡ true
        touched is true on = touched_up name (first_up (length os) name (itself_first name on))
        touched is false off = true_of (touched_by before after number name) (spares is off)

        at : (b : Bool) → is_among name os ≡ b → IsTouchedNow name
        at true is = (is, touched is (by_itself name) refl)
        at false is = not_both (asks (reader_key name) k) a (g.absent name k is)

    -- what is reached is touched
    pub reached_touched : (name : Name) → Reaches asks moved name → IsTouchedNow name
    reached_touched _ (reads_moved name k a m) =
        asks_touched name k a (λ j same still off. spared_key j still off
        (subst IsMoving (key_same k (subject j) same) (g.only k m)))
    reached_touched _ (reads_reader name object a r) =
        let o = reached_touched object r in
        asks_touched name (reader_key object) a (λ j same still off. spared_object j object same
        still off o.0 o.1)

    module _ (reached : List Name) (r : AreReaching asks moved reached) where
      abbrev is_flagged : Name → Bool
      is_flagged o = by_itself o || list_any (bytes_eq o) reached

      flag_reached : (o : Name) → Reaches asks moved o → is_flagged o ≡ true
      flag_reached o h = or_right (by_itself o) (list_any (bytes_eq o) reached) (r.all o h)

      -- an item of an object that is not touched by itself is in the index
      item_asked : (o : Name) → is_among o os ≡ true → by_itself o ≡ false → (j : Key)
          → ((other : Key → Bool) → other j ≡ true → any_key other (items_at before after number o)
          ≡ true) → asks (reader_key o) (subject j) ≡ true
      item_asked o a off j found =
          g.fits o (subject j) a off ∙ found (λ i. key_eq (subject j) (subject i))
          (key_refl (subject j))

      first_flagged : (o : Name) → is_among o os ≡ true → is_touched_first before after number o
          ≡ true → is_flagged o ≡ true
      first_flagged o a e = at_among (is_among o os) a e
        where
          by_moves : by_itself o ≡ false → any_key (moves before after number)
              (items_at before after number o) ≡ true → is_flagged o ≡ true
          by_moves off e =
              let j = found_key (moves before after number) (items_at before after number o) e in
              flag_reached o (reads_moved o (subject j.0) (item_asked o a off j.0 j.2)
              (moves_in asks moved g j.0 j.1))

          rest : (p q : Bool) → p || (q || any_key (moves before after number)
              (items_at before after number o)) ≡ true → p || q
              ≡ false → any_key (moves before after number) (items_at before after number o) ≡ true
          rest true q e off = absurd (let clash : true ≡ false = off in cc)
          rest false true e off = absurd (let clash : true ≡ false = off in cc)
          rest false false e off = e

          at : lacks_record (s.reads o) (s.checked o)
              || ((not (all_settled before after number) && s.touched o)
              || any_key (moves before after number) (items_at before after number o))
              ≡ true → (b : Bool) → by_itself o ≡ b → is_flagged o ≡ true
          at e true on = or_left (by_itself o) (list_any (bytes_eq o) reached) on
          at e false off = by_moves off (rest (lacks_record (s.reads o) (s.checked o))
              (not (all_settled before after number) && s.touched o) e off)

          at_among : (b : Bool) → b ≡ true → not b || (lacks_record (s.reads o) (s.checked o)
              || ((not (all_settled before after number) && s.touched o)
              || any_key (moves before after number) (items_at before after number o)))
              ≡ true → is_flagged o ≡ true
          at_among true is e = at e (by_itself o) refl
          at_among false is e = absurd (let clash : false ≡ true = is in cc)

      -- what is touched is flagged
      touched_flagged : (n : ℕ) (o : Name) → is_among o os ≡ true
          → is_touched before after number n o ≡ true → is_flagged o ≡ true
      touched_flagged zero o a e = first_flagged o a e
      touched_flagged (suc n) o a e =
          at (touched_flagged n) (is_touched_first before after number o) refl e
        where
          by_read : ((p : Name) → is_among p os ≡ true → is_touched before after number n p
              ≡ true → is_flagged p ≡ true) → by_itself o ≡ false → (j : Key)
              → ((other : Key → Bool) → other j ≡ true → any_key other
              (items_at before after number o) ≡ true) → if_object_of
              (is_touched before after number n) (target_in os j) ≡ true → is_flagged o ≡ true
          by_read ih off (File f) found e = absurd (let clash : false ≡ true = e in cc)
          by_read ih off (Under p terms) found e = at_object (is_among p os) refl e
            where
              reads_it : asks (reader_key o) (reader_key p) ≡ true
              reads_it = item_asked o a off (Under p terms) found

              by_flag : (b : Bool) → by_itself p ≡ b → is_among p os ≡ true → b
                  || list_any (bytes_eq p) reached ≡ true → is_flagged o ≡ true
              by_flag true on is e = flag_reached o (reads_moved o (reader_key p) reads_it
                  (g.object_in p (inr (inr (is, on)))))
              by_flag false on is e = flag_reached o (reads_reader o p reads_it (r.only p e))

              at_object : (b : Bool) → is_among p os ≡ b → if_object_of
                  (is_touched before after number n) (cond b (Some p) None) ≡ true → is_flagged o
                  ≡ true
              at_object true is e = by_flag (by_itself p) refl is (ih p is e)
              at_object false is e = absurd (let clash : false ≡ true = e in cc)

          by_reads : ((p : Name) → is_among p os ≡ true → is_touched before after number n p
              ≡ true → is_flagged p ≡ true) → any_key (λ k. if_object_of
              (is_touched before after number n) (target_in os k)) (items_at before after number o)
              ≡ true → (b : Bool) → by_itself o ≡ b → is_flagged o ≡ true
          by_reads ih e true on = or_left (by_itself o) (list_any (bytes_eq o) reached) on
          by_reads ih e false off =
              let j = found_key (λ k. if_object_of (is_touched before after number n)
              (target_in os k)) (items_at before after number o) e in
              by_read ih off j.0 j.2 j.1

          at : ((p : Name) → is_among p os ≡ true → is_touched before after number n p
              ≡ true → is_flagged p ≡ true) → (b : Bool) → is_touched_first before after number o
              ≡ b → b || any_key (λ k. if_object_of (is_touched before after number n)
              (target_in os k)) (items_at before after number o) ≡ true → is_flagged o ≡ true
          at ih true is e = first_flagged o a is
          at ih false is e = by_reads ih e (by_itself o) refl

      -- an object's flag after the Take
      pub flags_are : (o : Name) → is_among o os' ≡ true → is_among o os ≡ true → is_flagged o
          ≡ touched_by before after number o
      flags_are o a' a = same_truth (is_flagged o) (touched_by before after number o)
          (to (by_itself o) refl) (λ e. touched_flagged (length os) o a (from e))
        where
          to : (b : Bool) → by_itself o ≡ b → b || list_any (bytes_eq o) reached ≡ true
              → touched_by before after number o ≡ true
          to true on e = touched_up o (first_up (length os) o (itself_first o on))
          to false off e = (reached_touched o (r.only o e)).1

          from : touched_by before after number o ≡ true
              → is_touched before after number (length os) o ≡ true
          from e = ap (λ b. not b || is_touched before after number (length os) o) (sym a') ∙ e

      -- one that was none before is touched
      pub new_flag : (o : Name) → is_among o os ≡ false → touched_by before after number o ≡ true
      new_flag o off = touched_up o (first_up (length os) o
          (or_left (not (is_among o os)) _ (ap not off)))
