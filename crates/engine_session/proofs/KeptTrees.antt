-- A tree that an object has under a number of before is the tree that it had then; so texts that
-- are
-- kept stay those of the trees.
use Rattle.std.proofs.Common.{◌≡◌, ◌<◌, ◌≤◌, ◌+◌, ◌++◌, ◌⊎◌, ℕ, zero, suc, length, get_or, List, [], ◌∷◌, Bool, true, false, cond, nat_eq, Option, Some, None, Ok, Err, refl, sym, ap, ◌∙◌, subst, arith, inl, inr, ⊎_elim, lt_of_lt_of_le, le_trans, le_refl}
use Rattle.load_path.specs.declared.picture.PictureFile.{PictureFile}
use Rattle.json_profile.specs.Json.{profile_of}
use Rattle.path_tree.specs.Plain.{Plain}
use Rattle.pan_ast.specs.declared.fault.Fault.{Fault}
use Rattle.questions.specs.declared.key.Key.{Key}
use Rattle.questions.specs.Contents.{Content}
use Rattle.runner.specs.Ends.{End, Verdict}
use Rattle.asking.specs.Asked.{Ran, Finished, Stops, Lost, ran}
use Rattle.engine_laws.specs.Names.{Name, equal}
use Rattle.engine_laws.proofs.Names.{equal-true}
use Rattle.engine_laws.specs.Runner.{Runner, Picture}
use Rattle.engine_laws.specs.Engine.{Grade, Circle, Failure, Whole, Why, NoRecord, Changed, why_unread, Keeping, Judge, State, Compared, AllEqual, Differs, Waits, least, compared, tells, dropped, number_by, old_or_drawn, settled_on, after_run, run_turn, after_compare, with_record, pushed, judged, after_check, check_value, check_end, after_rerun, check_held, entered, run_check_turn, after_check_compare, with_check, check_grade, check_last, check_turn, check_opened, open_turn, turn_chain, turn_at, turn}
use Rattle.engine_machine.specs.Machine.{Kept, keep, grade, same_kept, runner_of, keeping, judge_of}
use Rattle.engine_machine.proofs.Trees.{same-true}
use Rattle.engine_turns.specs.declared.core_data.Core.{Core}
use Rattle.rebuild.specs.Engines.{Meanings, EngineSituation, EngineValue, situation_of, value_of, after_take, after_turn, after_forget}
use Rattle.rebuild.proofs.Takings.{counter_up}
use Rattle.engine_session.specs.KeptTexts.{KeepsTrees, IsTextIn, AreTextsIn, AreTexts, Serve, IsAdded}
use Rattle.engine_session.specs.declared.kept_texts.Entry.{Entry}
use Rattle.engine_session.specs.declared.kept_texts.KeptTexts.{KeptTexts}

abbrev Sort : Type 0 → Type 0
Sort T = State Key (End T) Kept Verdict

-- a state after another one
record Keeps {T : Type 0} (s t : Sort T) : Type 0 where
  later : s.counter ≤ t.counter
  same : (o : Name) (n : ℕ) (v : Plain) → n < s.counter → t.last o ≡ Some (n, Ok v)
      → s.last o ≡ Some (n, Ok v)

-- .. that has the same results
record IsCalm {T : Type 0} (s t : Sort T) : Type 0 where
  last : t.last ≡ s.last
  counter : t.counter ≡ s.counter

calm : {T : Type 0} {s t : Sort T} → t.last ≡ s.last → t.counter ≡ s.counter → IsCalm s t
calm last counter = record { last = last; counter = counter }

calm_keeps : {T : Type 0} (s t : Sort T) → IsCalm s t → Keeps s t
calm_keeps s t c = record {
  later = subst (λ n. s.counter ≤ n) (sym c.counter) (le_refl s.counter);
  same = λ o n v low e. ap (λ f. f o) (sym c.last) ∙ e;
}

abbrev first_or : {A B : Type 0} → A → Option (A × B) → A
first_or a None = a
first_or a (Some p) = p.0

abbrev second_or : {A B : Type 0} → B → Option (A × B) → B
second_or b None = b
second_or b (Some p) = p.1

pair_first : {A B : Type 0} {a c : A} {b d : B}
    → ◌≡◌ {A = Option (A × B)} (Some (a, b)) (Some (c, d)) → a ≡ c
pair_first {A} {B} {a} {c} {b} {d} e = ap (first_or {A = A} {B = B} a) e

pair_second : {A B : Type 0} {a c : A} {b d : B}
    → ◌≡◌ {A = Option (A × B)} (Some (a, b)) (Some (c, d)) → b ≡ d
pair_second {A} {B} {a} {c} {b} {d} e = ap (second_or {A = A} {B = B} b) e

same_kept_is : (k : Kept) (v : Plain) → same_kept k (Ok v) ≡ true → k ≡ Ok v
same_kept_is (Ok t) v e = ap Ok (same-true t v e)
same_kept_is (Err f) v e = absurd (let clash : false ≡ true = e in cc)

-- a number that was drawn before is given to the tree of before alone
number_old : {T : Type 0} (run : Runner Key Content (End T)) (c n : ℕ) (v : Plain)
    (l : Option (ℕ × Kept)) → n < c → old_or_drawn run keeping c (Ok v) l ≡ n → l ≡ Some (n, Ok v)
number_old run c n v None low e = absurd (omega (arith, low, e))
number_old run c n v (Some q) low e = at (same_kept q.1 (Ok v)) refl e
  where
    at : (b : Bool) → same_kept q.1 (Ok v) ≡ b → cond b q.0 c ≡ n
        → ◌≡◌ {A = Option (ℕ × Kept)} (Some q) (Some (n, Ok v))
    at true is e = let tree = same_kept_is q.1 v is in λ i. Some (e i, tree i)
    at false is e = absurd (omega (arith, low, e))

module _ {T : Type 0} (run : Runner Key Content (End T)) (jd : Judge Key Content (End T) Verdict)
    (w : Picture Key Content) where
  abbrev kp : Keeping Key Content (End T) Kept
  kp = keeping

  -- checks
  after_calm : (s : Sort T) (o : Name) (r : Ran Key Verdict)
      → IsCalm s (after_check run kp jd w s o r)
  after_calm s o (Finished items f) = calm refl refl
  after_calm s o (Stops p) = calm refl refl
  after_calm s o Lost = calm refl refl

  end_calm : (s : Sort T) (o : Name) (v : End T) (g : Grade)
      → IsCalm s (check_end run kp jd w s o v g)
  end_calm s o v Whole = after_calm s o (ran (jd.check v) (tells run kp w s) run.limit [])
  end_calm s o v Circle = calm refl refl
  end_calm s o v Failure = calm refl refl

  rerun_calm : (s : Sort T) (o : Name) (r : Ran Key (End T))
      → IsCalm s (after_rerun run kp jd w s o r)
  rerun_calm s o (Finished items v) = end_calm s o v (grade (keep v))
  rerun_calm s o (Stops p) = calm refl refl
  rerun_calm s o Lost = calm refl refl

  held_calm : (s : Sort T) (o : Name) (h : Option (End T)) → IsCalm s (check_held run kp jd w s o h)
  held_calm s o (Some v) = after_calm s o (ran (jd.check v) (tells run kp w s) run.limit [])
  held_calm s o None = rerun_calm s o (ran (run.build o) (tells run kp w s) run.limit [])

  run_check_calm : (s : Sort T) (o : Name) (y : Why Key)
      → IsCalm s (run_check_turn run kp jd w s o y)
  run_check_calm s o y =
      let c = held_calm (entered run kp jd w s o y) o (s.held o) in
      record { last = c.last; counter = c.counter }

  compared_calm : (s : Sort T) (o : Name) (c : Compared Key)
      → IsCalm s (after_check_compare run kp jd w s o c)
  compared_calm s o AllEqual = calm refl refl
  compared_calm s o (Differs k) = run_check_calm s o (Changed k)
  compared_calm s o (Waits p) = calm refl refl

  with_check_calm : (s : Sort T) (o : Name) (q : Option (List (Key × ℕ) × Verdict))
      → IsCalm s (with_check run kp jd w s o q)
  with_check_calm s o None = run_check_calm s o NoRecord
  with_check_calm s o (Some q) = compared_calm s o (compared (tells run kp w s) q.0)

  grade_calm : (s : Sort T) (o : Name) (g : Grade) → IsCalm s (check_grade run kp jd w s o g)
  grade_calm s o Whole = with_check_calm s o (s.checked o)
  grade_calm s o Circle = calm refl refl
  grade_calm s o Failure = calm refl refl

  last_calm : (s : Sort T) (o : Name) (l : Option (ℕ × Kept))
      → IsCalm s (check_last run kp jd w s o l)
  last_calm s o None = calm refl refl
  last_calm s o (Some q) = grade_calm s o (grade q.1)

  check_turn_calm : (s : Sort T) (o : Name) → IsCalm s (check_turn run kp jd w s o)
  check_turn_calm s o =
      let c = last_calm (record s { checking = None }) o (s.last o) in
      record { last = c.last; counter = c.counter }

  -- builds
  drawn_up : (c : ℕ) (b : Bool) → c ≤ cond b (c + 1) c
  drawn_up c true = omega arith
  drawn_up c false = le_refl c

  settled_tree : (c n : ℕ) (v : Plain) (k : Kept) (l : Option (ℕ × Kept)) → n < c → k ≡ Ok v
      → number_by run kp (grade k) c k l ≡ n → l ≡ Some (n, Ok v)
  settled_tree c n v (Ok t) l low e is =
      let tree : t ≡ v = cc in
      number_old run c n v l low (subst (λ x. old_or_drawn run kp c (Ok x) l ≡ n) tree is)
  settled_tree c n v (Err f) l low e is =
      absurd (let clash : ◌≡◌ {A = Kept} (Err f) (Ok v) = e in cc)

  settled_keeps : (s : Sort T) (o : Name) (rest : List Name) (items : List (Key × ℕ)) (r : End T)
      → Keeps s (settled_on run kp w s o rest items r)
  settled_keeps s o rest items r =
      let k : Kept = keep r in
      let m = number_by run kp (grade k) s.counter k (s.last o) in
      record {
        later = drawn_up s.counter (nat_eq m s.counter);
        same = λ j n v low e. at j n v low (equal j o) refl e;
      }
    where
      at : (j : Name) (n : ℕ) (v : Plain) → n < s.counter → (b : Bool) → equal j o ≡ b
          → cond b (Some (number_by run kp (grade (keep r)) s.counter (keep r) (s.last o), keep r))
          (s.last j) ≡ Some (n, Ok v) → s.last j ≡ Some (n, Ok v)
      at j n v low true is e =
          ap s.last (equal-true j o is)
          ∙ settled_tree s.counter n v (keep r) (s.last o) low (pair_second e) (pair_first e)
      at j n v low false is e = e

  run_keeps : (s : Sort T) (o : Name) (rest : List Name) (r : Ran Key (End T))
      → Keeps s (after_run run kp w s o rest r)
  run_keeps s o rest (Finished items r) = settled_keeps s o rest items r
  run_keeps s o rest (Stops p) = calm_keeps _ _ (calm refl refl)
  run_keeps s o rest Lost = calm_keeps _ _ (calm refl refl)

  run_turn_keeps : (s : Sort T) (o : Name) (rest : List Name) (y : Why Key)
      → Keeps s (run_turn run kp w s o rest y)
  run_turn_keeps s o rest y =
      let k = run_keeps (dropped run kp w s o y) o rest
      (ran (run.build o) (tells run kp w s) run.limit []) in
      record { later = k.later; same = k.same }

  compare_keeps : (s : Sort T) (o : Name) (rest : List Name) (c : Compared Key)
      → Keeps s (after_compare run kp w s o rest c)
  compare_keeps s o rest AllEqual = calm_keeps _ _ (calm refl refl)
  compare_keeps s o rest (Differs k) = run_turn_keeps s o rest (Changed k)
  compare_keeps s o rest (Waits p) = calm_keeps _ _ (calm refl refl)

  record_keeps : (s : Sort T) (o : Name) (rest : List Name) (q : Option (List (Key × ℕ)))
      → Keeps s (with_record run kp w s o rest q)
  record_keeps s o rest None = run_turn_keeps s o rest (why_unread (s.why o))
  record_keeps s o rest (Some items) = compare_keeps s o rest (compared (tells run kp w s) items)

  opened_keeps : (s : Sort T) (o : Option Name) → Keeps s (check_opened run kp jd w s o)
  opened_keeps s None = calm_keeps _ _ (calm refl refl)
  opened_keeps s (Some o) = calm_keeps _ _ (calm refl refl)

  open_keeps : (s : Sort T) (o : Option Name) → Keeps s (open_turn run kp jd w s o)
  open_keeps s (Some o) = calm_keeps _ _ (calm refl refl)
  open_keeps s None = opened_keeps s (least s.open_check w.objects)

  chain_keeps : (s : Sort T) (os : List Name) → Keeps s (turn_chain run kp jd w s os)
  chain_keeps s [] = open_keeps s (least s.open_build w.objects)
  chain_keeps s (o ∷ rest) = record_keeps s o rest (s.reads o)

  at_keeps : (s : Sort T) (o : Option Name) → Keeps s (turn_at run kp jd w s o)
  at_keeps s (Some o) = calm_keeps _ _ (check_turn_calm s o)
  at_keeps s None = chain_keeps s s.chain

  turn_keeps : (s : Sort T) → Keeps s (turn run kp jd w s)
  turn_keeps s = at_keeps s s.checking

left_last : (b : Bool) (l : Option (ℕ × Kept)) (n : ℕ) (v : Plain) → cond b l None
    ≡ Some (n, Ok v) → l ≡ Some (n, Ok v)
left_last true l n v e = e
left_last false l n v e =
    absurd (let clash : ◌≡◌ {A = Option (ℕ × Kept)} None (Some (n, Ok v)) = e in cc)

module _ {T : Type 0} (M : Meanings T) (e : EngineValue T) where
  turned_trees : KeepsTrees e.situation (after_turn M e)
  turned_trees =
      let m = M e.dirs e.limits in
      let k = turn_keeps (runner_of m.build) (judge_of m.check) e.situation.picture
      e.situation.state in
      record { later = k.later; same = k.same }

  taken_trees : (files : List PictureFile) (objects : List Name)
      → KeepsTrees e.situation (after_take M e files objects)
  taken_trees files objects = record {
    later = counter_up e.files e.situation.state.counter files;
    same = λ o n v low is. left_last _ (e.situation.state.last o) n v is;
  }

  forgotten_trees : KeepsTrees e.situation (after_forget M e)
  forgotten_trees = record { later = le_refl _; same = λ o n v low is. is }

module _ {T : Type 0} where
  pub same_trees : (x : EngineSituation T) → KeepsTrees x x
  same_trees x = record { later = le_refl _; same = λ o n v low is. is }

  pub trees_then : (x y z : EngineSituation T) → KeepsTrees x y → KeepsTrees y z → KeepsTrees x z
  trees_then x y z a b = record {
    later = le_trans a.later b.later;
    same = λ o n v low is. a.same o n v low (b.same o n v (lt_of_lt_of_le low a.later) is);
  }

  -- of an engine's own data
  pub trees_turned : (M : Meanings T) (old new : Core T)
      → situation_of new ≡ after_turn M (value_of old)
      → KeepsTrees (situation_of old) (situation_of new)
  trees_turned M old new state =
      subst (KeepsTrees (situation_of old)) (sym state) (turned_trees M (value_of old))

  pub trees_taken : (M : Meanings T) (old new : Core T) (files : List PictureFile)
      (objects : List Name) → situation_of new ≡ after_take M (value_of old) files objects
      → KeepsTrees (situation_of old) (situation_of new)
  trees_taken M old new files objects state =
      subst (KeepsTrees (situation_of old)) (sym state) (taken_trees M (value_of old) files objects)

  pub trees_forgotten : (M : Meanings T) (old new : Core T)
      → situation_of new ≡ after_forget M (value_of old)
      → KeepsTrees (situation_of old) (situation_of new)
  trees_forgotten M old new state =
      subst (KeepsTrees (situation_of old)) (sym state) (forgotten_trees M (value_of old))

  pub trees_left : (old new : Core T) → new ≡ old
      → KeepsTrees (situation_of old) (situation_of new)
  trees_left old new same = subst (λ core. KeepsTrees (situation_of old) (situation_of core))
      (sym same) (same_trees (situation_of old))

  -- texts
  texts_in : (x y : EngineSituation T) → KeepsTrees x y → (es : List Entry) → AreTextsIn x es
      → AreTextsIn y es
  texts_in x y k [] h = tt
  texts_in x y k (e ∷ es) h = (
    record {
      drawn = lt_of_lt_of_le h.0.drawn k.later;
      text = λ t is. h.0.text t (k.same e.name e.number t h.0.drawn is);
    },
    texts_in x y k es h.1,
  )

  pub texts_still : (x y : EngineSituation T) → KeepsTrees x y → (texts : KeptTexts)
      → AreTexts x texts → AreTexts y texts
  texts_still x y k texts h = record {
    entries = texts_in x y k texts.entries.items h.entries;
    before = texts_in x y k texts.before.items h.before;
  }

  pub no_texts : (x : EngineSituation T) (texts : KeptTexts) → texts.entries.items ≡ []
      → texts.before.items ≡ [] → AreTexts x texts
  no_texts x texts entries before = record {
    entries = subst (AreTextsIn x) (sym entries) tt;
    before = subst (AreTextsIn x) (sym before) tt;
  }

  -- they serve the tree that the object has
  pub texts_serve : (x : EngineSituation T) (name : List ℕ) (number : ℕ) (tree : Plain)
      → x.state.last name ≡ Some (number, Ok tree) → (es : List Entry) → AreTextsIn x es
      → Serve name number tree es
  texts_serve x name number tree last [] h = tt
  texts_serve x name number tree last (e ∷ es) h = (
    (λ same_name same_number. h.0.text tree (ap x.state.last same_name ∙ last
        ∙ ap (λ n. Some (n, Ok tree)) (sym same_number))),
    texts_serve x name number tree last es h.1,
  )

  texts_more : (x : EngineSituation T) (es : List Entry) (e : Entry) → AreTextsIn x es
      → IsTextIn x e → AreTextsIn x (es ++ e ∷ [])
  texts_more x [] e h is = (is, tt)
  texts_more x (d ∷ es) e h is = (h.0, texts_more x es e h.1 is)

  pub texts_added : (x : EngineSituation T) (name : List ℕ) (number : ℕ) (tree : Plain)
      → number < x.state.counter → x.state.last name ≡ Some (number, Ok tree)
      → (old new : KeptTexts) → new.before.items ≡ old.before.items
      → (new.entries.items ≡ old.entries.items)
      ⊎ IsAdded name number tree old.entries.items new.entries.items
      → AreTexts x old → AreTexts x new
  texts_added x name number tree low last old new before entries h = record {
    entries = ⊎_elim
        (λ (same : new.entries.items ≡ old.entries.items).
        subst (AreTextsIn x) (sym same) h.entries)
        (λ (a : IsAdded name number tree old.entries.items new.entries.items).
        subst (AreTextsIn x) (sym a.is) (texts_more x old.entries.items a.entry h.entries (record {
          drawn = subst (λ n. n < x.state.counter) (sym a.number_is) low;
          text = λ t is.
              let both : ◌≡◌ {A = Option (ℕ × Kept)} (Some (a.entry.number, Ok t))
              (Some (number, Ok tree)) =
              sym is ∙ ap x.state.last a.name_is ∙ last in
              let same : ◌≡◌ {A = Kept} (Ok t) (Ok tree) = pair_second both in
              a.text_is ∙ ap profile_of (sym (ok_same same));
        })))
        entries;
    before = subst (AreTextsIn x) (sym before) h.before;
  }
    where
      ok_same : {t u : Plain} → ◌≡◌ {A = Kept} (Ok t) (Ok u) → t ≡ u
      ok_same e = cc

  pub texts_begun : (x : EngineSituation T) (old new : KeptTexts)
      → new.before.items ≡ old.entries.items → new.entries.items ≡ [] → AreTexts x old
      → AreTexts x new
  texts_begun x old new before entries h = record {
    entries = subst (AreTextsIn x) (sym entries) tt;
    before = subst (AreTextsIn x) (sym before) h.entries;
  }

  pub texts_ended : (x : EngineSituation T) (old new : KeptTexts)
      → new.before.items ≡ [] → new.entries.items ≡ old.entries.items → AreTexts x old
      → AreTexts x new
  texts_ended x old new before entries h = record {
    entries = subst (AreTextsIn x) (sym entries) h.entries;
    before = subst (AreTextsIn x) (sym before) tt;
  }

-- the entry at a place serves, where it is of the name
pub serve_at : (name : List ℕ) (number : ℕ) (tree : Plain) (es : List Entry) (i : ℕ) (e : Entry)
    → Serve name number tree es → i < length es → e ≡ get_or es i e → e.name ≡ name
    → e.number ≡ number → e.json ≡ profile_of tree
serve_at name number tree [] i e h low is same_name same_number = absurd (omega (arith, low))
serve_at name number tree (d ∷ es) zero e h low is same_name same_number =
    ap (λ (x : Entry). x.json) is ∙ h.0 (ap (λ (x : Entry). x.name) (sym is) ∙ same_name)
    (ap (λ (x : Entry). x.number) (sym is) ∙ same_number)
serve_at name number tree (d ∷ es) (suc i) e h low is same_name same_number =
    serve_at name number tree es i e h.1 (omega (arith, low)) is same_name same_number
