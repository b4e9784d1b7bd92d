-- The check of an object whose build has failed asks for nothing, wherever events lead.
use Rattle.std.proofs.Common.{◌≡◌, ℕ, List, [], ◌∷◌, Bool, true, false, cond, Option, Some, None, refl, sym, ap, ◌∙◌, subst, ⊎_elim}
use Rattle.engine_laws.specs.Names.{Name, equal}
use Rattle.engine_laws.proofs.Names.{equal-true}
use Rattle.engine_laws.specs.Runner.{Runner, Picture}
use Rattle.asking.specs.Asked.{Ran, Finished, Stops, Lost, ran}
use Rattle.engine_laws.specs.Engine.{Why, NoRecord, Changed, why_unread, Grade, Circle, Failure, Whole, Keeping, Judge, State, Situation, Event, Take, Turn, Forget, happens, after, IsNew, Compared, AllEqual, Differs, Waits, compared, is_among, number_by, tells, dropped, after_run, after_compare, with_record, least, judged, after_check, check_end, after_rerun, check_held, entered, after_check_compare, with_check, check_grade, check_last, check_opened, open_turn, turn_chain, turn_at, turn}
use Rattle.engine_laws.specs.Rows.{AreSoundRows}
use Rattle.engine_laws.specs.Reached.{IsReached}
use Rattle.engine_laws.proofs.Facts.{both_same}

module _ {K C R S F : Type 0} (kp : Keeping K C R S) where
  -- where the result is a fault the check asked for nothing
  abbrev pub IsBareAt : Option (ℕ × S) → Option (List (K × ℕ) × F) → Type 0
  IsBareAt l c = (n : ℕ) (t : S) → l ≡ Some (n, t) → (kp.grade t ≡ Whole → ⊥)
      → (items : List (K × ℕ)) (f : F) → c ≡ Some (items, f) → items ≡ []

  abbrev pub AreBare : State K R S F → Type 0
  AreBare s = (o : Name) → IsBareAt (s.last o) (s.checked o)

  none_bare : (l : Option (ℕ × S)) → IsBareAt l None
  none_bare l n t is fails items f e =
      absurd (let clash : ◌≡◌ {A = Option (List (K × ℕ) × F)} None (Some (items, f)) = e in cc)

module _ {K C R S F : Type 0} (run : Runner K C R) (kp : Keeping K C R S) (jd : Judge K C R F)
    (w : Picture K C) where
  run_bare : (s : State K R S F) → AreBare kp s
      → (o : Name) (rest : List Name) (y : Why K) (x : Ran K R)
      → AreBare kp (after_run run kp w (dropped run kp w s o y) o rest x)
  run_bare s bare o rest y (Finished items r) p = at (equal p o)
    where
      at : (b : Bool) → IsBareAt kp
          (cond b (Some (
            number_by run kp (kp.grade (kp.keep r)) s.counter (kp.keep r) (s.last o),
            kp.keep r,
          )) (s.last p)) (cond b None (cond b None (s.checked p)))
      at true = none_bare kp _
      at false = bare p
  run_bare s bare o rest y (Stops q) p = at (equal p o)
    where
      at : (b : Bool) → IsBareAt kp (s.last p) (cond b None (s.checked p))
      at true = none_bare kp (s.last p)
      at false = bare p
  run_bare s bare o rest y Lost p = at (equal p o)
    where
      at : (b : Bool) → IsBareAt kp (s.last p) (cond b None (s.checked p))
      at true = none_bare kp (s.last p)
      at false = bare p

  -- a part that is judged by these items
  judged_bare : (s : State K R S F) → AreBare kp s → (o : Name) (items : List (K × ℕ)) (f : F)
      → ((n : ℕ) (t : S) → s.last o ≡ Some (n, t) → (kp.grade t ≡ Whole → ⊥) → items ≡ [])
      → AreBare kp (judged run kp jd w s o items f)
  judged_bare s bare o items f h p = at (equal p o) refl
    where
      at : (b : Bool) → equal p o ≡ b → IsBareAt kp (s.last p)
          (cond b (Some (items, f)) (s.checked p))
      at true is n t l fails its g e =
          sym (both_same items its f g e).0 ∙ h n t (ap s.last (sym (equal-true p o is)) ∙ l) fails
      at false is n t l fails its g e = bare p n t l fails its g e

  -- of an object whose result is a tree
  module _ (s : State K R S F) (bare : AreBare kp s) (o : Name) (q : ℕ × S) (is : s.last o ≡ Some q)
      (whole : kp.grade q.1 ≡ Whole) where
    any_bare : (items : List (K × ℕ)) (n : ℕ) (t : S) → s.last o ≡ Some (n, t)
        → (kp.grade t ≡ Whole → ⊥) → items ≡ []
    any_bare items n t l fails =
        absurd (let same : q ≡ (n, t) = let both : ◌≡◌ {A = Option (ℕ × S)} (Some q) (Some (n, t)) =
        sym is ∙ l in cc in fails (ap (λ z. kp.grade z.1) (sym same) ∙ whole))

    module _ (y : Why K) where
      abbrev asked : State K R S F
      asked = entered run kp jd w (record s { checking = None }) o y

      value_bare : (x : Ran K F) → AreBare kp (after_check run kp jd w asked o x)
      value_bare (Finished items f) = judged_bare asked bare o items f (any_bare items)
      value_bare (Stops p) = judged_bare asked bare o [] jd.unfinished (any_bare [])
      value_bare Lost = bare

      end_bare : (v : R) (g : Grade) → AreBare kp (check_end run kp jd w asked o v g)
      end_bare v Whole = value_bare (ran (jd.check v) (tells run kp w asked) run.limit [])
      end_bare v Circle = judged_bare asked bare o [] (jd.fault v) (any_bare [])
      end_bare v Failure = judged_bare asked bare o [] (jd.fault v) (any_bare [])

      rerun_bare : (x : Ran K R) → AreBare kp (after_rerun run kp jd w asked o x)
      rerun_bare (Finished items v) = end_bare v (kp.grade (kp.keep v))
      rerun_bare (Stops p) = judged_bare asked bare o [] jd.unfinished (any_bare [])
      rerun_bare Lost = bare

      held_bare : (x : Option R) → AreBare kp (check_held run kp jd w asked o x)
      held_bare (Some v) = value_bare (ran (jd.check v) (tells run kp w asked) run.limit [])
      held_bare None = rerun_bare (ran (run.build o) (tells run kp w asked) run.limit [])

    compare_bare : (x : Compared K)
        → AreBare kp (after_check_compare run kp jd w (record s { checking = None }) o x)
    compare_bare AllEqual = bare
    compare_bare (Waits p) = bare
    compare_bare (Differs k) = held_bare (Changed k) (s.held o)

    checked_bare : (x : Option (List (K × ℕ) × F))
        → AreBare kp (with_check run kp jd w (record s { checking = None }) o x)
    checked_bare None = held_bare NoRecord (s.held o)
    checked_bare (Some c) = compare_bare (compared (tells run kp w (record s { checking = None }))
        c.0)

  turn_bare : (s : State K R S F) → AreBare kp s → AreBare kp (turn run kp jd w s)
  turn_bare s bare = at_checking s.checking
    where
      at_compared : (o : Name) (rest : List Name) (x : Compared K)
          → AreBare kp (after_compare run kp w s o rest x)
      at_compared o rest AllEqual = bare
      at_compared o rest (Waits p) = bare
      at_compared o rest (Differs k) =
          run_bare s bare o rest (Changed k) (ran (run.build o) (tells run kp w s) run.limit [])

      at_reads : (o : Name) (rest : List Name) (x : Option (List (K × ℕ)))
          → AreBare kp (with_record run kp w s o rest x)
      at_reads o rest None = run_bare s bare o rest (why_unread (s.why o))
          (ran (run.build o) (tells run kp w s) run.limit [])
      at_reads o rest (Some items) = at_compared o rest (compared (tells run kp w s) items)

      at_opened : (x : Option Name) → AreBare kp (check_opened run kp jd w s x)
      at_opened None = bare
      at_opened (Some o) = bare

      at_least : (x : Option Name) → AreBare kp (open_turn run kp jd w s x)
      at_least None = at_opened (least s.open_check w.objects)
      at_least (Some o) = bare

      at_chain : (c : List Name) → AreBare kp (turn_chain run kp jd w s c)
      at_chain [] = at_least (least s.open_build w.objects)
      at_chain (o ∷ rest) = at_reads o rest (s.reads o)

      at_grade : (o : Name) (q : ℕ × S) → s.last o ≡ Some q → (g : Grade) → kp.grade q.1 ≡ g
          → AreBare kp (check_grade run kp jd w (record s { checking = None }) o g)
      at_grade o q is Whole whole = checked_bare s bare o q is whole (s.checked o)
      at_grade o q is Circle grade =
          judged_bare (record s { checking = None }) bare o [] jd.none (λ n t l fails. refl)
      at_grade o q is Failure grade =
          judged_bare (record s { checking = None }) bare o [] jd.none (λ n t l fails. refl)

      at_last : (o : Name) (x : Option (ℕ × S)) → s.last o ≡ x
          → AreBare kp (check_last run kp jd w (record s { checking = None }) o x)
      at_last o None is = bare
      at_last o (Some q) is = at_grade o q is (kp.grade q.1) refl

      at_checking : (x : Option Name) → AreBare kp (turn_at run kp jd w s x)
      at_checking None = at_chain s.chain
      at_checking (Some o) = at_last o (s.last o) refl

module _ {K C R S F : Type 0} (run : Runner K C R) (kp : Keeping K C R S) (jd : Judge K C R F) where
  event_bare : (x : Situation K C R S F) (e : Event K C) → AreBare kp x.state
      → AreBare kp (happens run kp jd x e).state
  event_bare x (Take w number counter) bare = λ p. at p (is_among p w.objects)
    where
      at : (p : Name) (b : Bool) → IsBareAt kp (cond b (x.state.last p) None)
          (cond b (x.state.checked p) None)
      at p true = bare p
      at p false = none_bare kp None
  event_bare x Turn bare = turn_bare run kp jd x.picture x.state bare
  event_bare x Forget bare = bare

  events_bare : (x : Situation K C R S F) (es : List (Event K C)) → AreBare kp x.state
      → AreBare kp (after run kp jd x es).state
  events_bare x [] bare = bare
  events_bare x (e ∷ es) bare = events_bare (happens run kp jd x e) es (event_bare x e bare)

  new_bare : (x : Situation K C R S F) → IsNew run kp jd x → AreBare kp x.state
  new_bare x n o m t l fails items f e =
      absurd (let clash : ◌≡◌ {A = Option (ℕ × S)} None (Some (m, t)) = sym (n.no_last o) ∙ l in cc)

  rows_bare : (x : Situation K C R S F) → AreSoundRows run kp jd x → AreBare kp x.state
  rows_bare x r o m t l fails items f e =
      let a = r.results o m t l in
      let c = r.checks o a.2 in
      (both_same items c.0 f c.1 (sym e ∙ c.2)).0 ∙ c.4 (λ whole. fails (ap kp.grade a.3 ∙ whole))

  pub reached_bare : (x : Situation K C R S F) → IsReached run kp jd x → AreBare kp x.state
  reached_bare x r = subst (λ y. AreBare kp y.state) r.leads
      (events_bare r.begin r.events (⊎_elim (λ (n : IsNew run kp jd r.begin). new_bare r.begin n)
      (λ (s : AreSoundRows run kp jd r.begin). rows_bare r.begin s) r.sound))
