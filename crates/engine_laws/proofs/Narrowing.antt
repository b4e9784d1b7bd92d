-- Of an object that is not touched the items that name objects tell what all items tell, wherever
-- events lead.
use Rattle.std.proofs.Common.{◌≡◌, ℕ, ◌⊎◌, List, [], ◌∷◌, ◌++◌, Bool, true, false, cond, Option, Some, None, refl, sym, ap, ◌∙◌, subst, inl, inr, ⊎_elim}
use Rattle.std.proofs.lemmas.Bool.{eq-eqb}
use Rattle.engine_laws.specs.Names.{Name, equal}
use Rattle.engine_laws.specs.Runner.{Runner, Picture, Laws, IsIn, IsTrail}
use Rattle.asking.specs.Asked.{Answer, Asks, RunsTo, Word, Needs, Tells, Ran, Finished, Stops, Lost, ran}
use Rattle.engine_laws.specs.Bounded.{built, content}
use Rattle.engine_laws.specs.Engine.{Why, NoRecord, Changed, why_unread, key_number, HasNumber, both_items, moved, noted, Grade, Circle, Failure, Whole, Keeping, KeepLaws, Judge, State, Situation, Event, Take, Turn, Forget, happens, after, IsAllowed, AreAllowed, IsNew, Compared, AllEqual, Differs, Waits, compare_on, compared, is_among, number_by, tells_last, tells_object, tells_at, tells, dropped, after_run, run_turn, after_compare, with_record, least, judged, after_check, check_value, check_end, after_rerun, check_held, entered, after_check_compare, with_check, check_grade, check_last, check_opened, open_turn, turn_chain, turn_at, turn}
use Rattle.engine_laws.specs.Rows.{IsGraded, AreSoundRows}
use Rattle.engine_laws.specs.Reached.{IsReached}
use Rattle.engine_laws.specs.Narrowed.{if_named, named_items, AreNarrowed, AreLeftAlone}
use Rattle.engine_laws.proofs.Names.{equal-true}
use Rattle.engine_laws.proofs.Walk.{AreNow, RanWell, runs_well}
use Rattle.engine_laws.proofs.Tables.{one_of, moved_other}
use Rattle.engine_laws.proofs.Facts.{Now, NowAt, both_same, noted_number}
use Rattle.engine_laws.proofs.Turn.{Invariant, IsChecking, IsChain, CanPush, IsQuiet, honest, quiet, on_chain_circular, turn_keeps}
use Rattle.engine_laws.proofs.Events.{Holds, begins, take_holds, forget_holds}
use Rattle.engine_laws.proofs.Rows.{restored}
use Rattle.engine_laws.proofs.Links.{needs_target}
use Rattle.engine_laws.proofs.Touched.{AllKeys, all_up}
use Rattle.engine_laws.proofs.Failing.{reached_bare}
use Rattle.engine_laws.proofs.Untouched.{truly, now_move, NowIn, IsCalm, AreCalm, take_calm}

module _ {K C : Type 0} (words : K → Word C) where
  -- each item has the number that is told of its key, if one is told
  abbrev pub Fits : List (K × ℕ) → Type 0
  Fits [] = Unit {0}
  Fits (q ∷ items) = ((m : ℕ) (c : C) → words q.0 ≡ Tells m c → q.1 ≡ m) × Fits items

  fits_same : (items : List (K × ℕ)) → Fits items → (k : K) → compared words items ≡ Differs k → ⊥
  fits_same [] f k e = let clash : ◌≡◌ {A = Compared K} AllEqual (Differs k) = e in cc
  fits_same (q ∷ items) f k e = at (fits_same items f.1 k) (words q.0) refl e
    where
      at : (compared words items ≡ Differs k → ⊥) → (x : Word C) → words q.0 ≡ x
          → compare_on x q (compared words items) ≡ Differs k → ⊥
      at later (Needs p) is e = let clash : ◌≡◌ {A = Compared K} (Waits p) (Differs k) = e in cc
      at later (Tells m c) is e =
          later (sym (ap (λ b. cond b (compared words items) (Differs q.0))
          (eq-eqb q.1 m (f.0 m c is))) ∙ e)

  -- items that name no object change nothing
  fits_named : (names : K → Option Name) → ((k : K) (p : Name) → words k ≡ Needs p → names k
      ≡ Some p) → (items : List (K × ℕ)) → Fits items → compared words items
      ≡ compared words (named_items names items)
  fits_named names needs [] f = refl
  fits_named names needs (q ∷ items) f = at (names q.0) refl (fits_named names needs items f.1)
    where
      at : (n : Option Name) → names q.0 ≡ n → compared words items
          ≡ compared words (named_items names items) → compare_on (words q.0) q
          (compared words items) ≡ compared words (if_named n q (named_items names items))
      at (Some p) is ih = ap (compare_on (words q.0) q) ih
      at None is ih = at_word (words q.0) refl
        where
          at_word : (x : Word C) → words q.0 ≡ x → compare_on x q (compared words items)
              ≡ compared words (named_items names items)
          at_word (Needs p) e = absurd (let clash : ◌≡◌ {A = Option Name} None (Some p) =
              sym is ∙ needs q.0 p e in cc)
          at_word (Tells m c) e = ap (λ b. cond b (compared words items) (Differs q.0))
              (eq-eqb q.1 m (f.0 m c e)) ∙ ih

  fits_all : ((k : K) (p : Name) → words k ≡ Needs p → ⊥) → (items : List (K × ℕ)) → Fits items
      → compared words items ≡ AllEqual
  fits_all none [] f = refl
  fits_all none (q ∷ items) f = at (words q.0) refl (fits_all none items f.1)
    where
      at : (x : Word C) → words q.0 ≡ x → compared words items ≡ AllEqual
          → compare_on x q (compared words items) ≡ AllEqual
      at (Needs p) is ih = absurd (none q.0 p is)
      at (Tells m c) is ih = ap (λ b. cond b (compared words items) (Differs q.0))
          (eq-eqb q.1 m (f.0 m c is)) ∙ ih

module _ {K C R S F : Type 0} (run : Runner K C R) (kp : Keeping K C R S) (jd : Judge K C R F)
    (w : Picture K C) (laws : Laws run w) (klaws : KeepLaws run kp w) where
  abbrev CalmIn : State K R S F → Type 0
  CalmIn s = AreCalm run kp jd w laws klaws s

  -- the number of an item of an object that is not touched is what is told of its key
  word_fits : (s : State K R S F) → Invariant run kp jd w laws klaws s → CalmIn s → (k : K) (n : ℕ)
      → NowIn run kp jd w laws klaws s k n → ((p : Name) → w.target k ≡ Some p → s.touched p
      ≡ false) → ((p : Name) → w.target k ≡ Some p → is_among p s.chain ≡ true
      → run.is_circular (built run w p) ≡ true) → (m : ℕ) (c : C) → tells run kp w s k
      ≡ Tells m c → n ≡ m
  word_fits s inv calm k n now off circles m c e = at (w.target k) refl now e
    where
      two : (p : Name) (num : ℕ) → s.last p ≡ Some (num, kp.keep (built run w p))
          → run.is_circular (built run w p) ≡ true → key_number (kp.grade (kp.keep (built run w p)))
          (s.table k) num ≡ 2
      two p num is circular =
          let circle = klaws.circle_kept (built run w p) circular in
          let graded : IsGraded num Circle =
          subst (IsGraded num) circle (inv.facts.graded p num (kp.keep (built run w p)) is) in
          ap (λ g. key_number g (s.table k) num) circle ∙ graded

      at_last : (num : ℕ) (t : S) (l : Option (ℕ × S)) → l ≡ Some (num, t)
          → tells_last run kp k (s.table k) l ≡ Tells m c → key_number (kp.grade t) (s.table k) num
          ≡ m
      at_last num t None is e =
          absurd (let clash : ◌≡◌ {A = Option (ℕ × S)} None (Some (num, t)) = is in cc)
      at_last num t (Some q) is e =
          let same : q ≡ (num, t) = one_of refl is in
          let word : ◌≡◌ {A = Word C} (Tells (key_number (kp.grade q.1) (s.table k) q.0)
          (kp.seen k q.1)) (Tells m c) = e in
          let number : key_number (kp.grade q.1) (s.table k) q.0 ≡ m = cc in
          ap (λ z. key_number (kp.grade z.1) (s.table k) z.0) (sym same) ∙ number

      at_object : (p : Name) → w.target k ≡ Some p → (num : ℕ) → s.last p
          ≡ Some (num, kp.keep (built run w p)) → (a u : Bool) → is_among p s.chain ≡ a
          → tells_object run kp a u p k (s.table k) (s.last p) ≡ Tells m c
          → key_number (kp.grade (kp.keep (built run w p))) (s.table k) num ≡ m
      at_object p t num is true u on e =
          let word : ◌≡◌ {A = Word C} (Tells 2 (run.circular k)) (Tells m c) = e in
          let number : 2 ≡ m = cc in
          two p num is (circles p t on) ∙ number
      at_object p t num is false true on e =
          absurd (let clash : ◌≡◌ {A = Word C} (Needs p) (Tells m c) = e in cc)
      at_object p t num is false false on e = at_last num (kp.keep (built run w p)) (s.last p) is e

      at : (x : Option Name) → w.target k ≡ x → NowAt run kp w laws klaws s.number s.table s.last
          (λ p. false) k n x → tells_at run kp w s k x ≡ Tells m c → n ≡ m
      at None t a e =
          let word : ◌≡◌ {A = Word C} (Tells (s.number k) (w.told k)) (Tells m c) = e in
          let number : s.number k ≡ m = cc in
          a ∙ number
      at (Some p) t a e =
          let d = (calm p (laws.among k p t) (off p t)).present in
          let same : n ≡ key_number (kp.grade (kp.keep (built run w p))) (s.table k) d.num =
          ⊎_elim
          (λ (b : (false ≡ false) × HasNumber kp s.table s.last k n p). b.1.2
          ∙ ap (λ z. key_number (kp.grade z.1) (s.table k) z.0) (one_of b.1.1 d.is_last))
          (λ (b : (n ≡ 2) × (run.is_circular (built run w p) ≡ true)). b.0
          ∙ sym (two p d.num d.is_last b.1))
          a in
          same ∙ at_object p t d.num d.is_last (is_among p s.chain) (s.open_build p) refl e

  -- so do all items of a true run
  items_fit : {X : Type 0} (ask : List (K × C) → Answer K X) (s : State K R S F)
      → Invariant run kp jd w laws klaws s → CalmIn s
      → ((asked : List (K × C)) (k : K) (p : Name) → IsTrail ask (content run w) asked → ask asked
      ≡ Asks k → w.target k ≡ Some p → is_among p s.chain ≡ true → run.is_circular (built run w p)
      ≡ true) → (items : List (K × ℕ)) (asked : List (K × C)) (end : X) → IsTrail ask
      (content run w) asked → RunsTo ask asked (truly (content run w) items) end
      → AreNow (NowIn run kp jd w laws klaws s) items
      → AllKeys (λ k. (p : Name) → w.target k ≡ Some p → s.touched p ≡ false) items
      → Fits (tells run kp w s) items
  items_fit ask s inv calm circles [] asked end trail runs now off = tt
  items_fit ask s inv calm circles (q ∷ items) asked end trail runs now off = (
    word_fits s inv calm q.0 q.1 now.0 off.0 (λ p t on. circles asked q.0 p trail runs.0 t on),
    items_fit ask s inv calm circles items ((q.0, content run w q.0) ∷ asked) end
        (trail, runs.0, refl) runs.1 now.1 off.1,
  )

  build_fits : (s : State K R S F) → Invariant run kp jd w laws klaws s → CalmIn s
      → (o : Name) (rest : List Name) → s.chain ≡ o ∷ rest → (c : IsCalm run kp jd w laws klaws s o)
      → Fits (tells run kp w s) c.present.items
  build_fits s inv calm o rest e c =
      let P : List Name → Type 0 = λ l. IsChain run w laws s.open_build l in
      let chain : P (o ∷ rest) = subst P e inv.chain in
      items_fit (run.build o) s inv calm
      (λ asked k p trail asks t on. on_chain_circular run w laws s.open_build p o rest chain
      (ap (is_among p) (sym e) ∙ on)
      (record { asked = asked; key = k; trail = trail; asks = asks; of = t }))
      c.present.items [] (built run w o) tt c.present.runs c.present.are_now c.reads

  check_fits : (s : State K R S F) → Invariant run kp jd w laws klaws s → CalmIn s → (o : Name)
      → s.chain ≡ [] → (c : IsCalm run kp jd w laws klaws s o) → kp.grade (kp.keep (built run w o))
      ≡ Whole → Fits (tells run kp w s) c.present.checked
  check_fits s inv calm o empty c whole =
      items_fit (jd.check (built run w o)) s inv calm
      (λ asked k p trail asks t on. absurd (let off : is_among p s.chain ≡ false =
      ap (is_among p) empty in let clash : true ≡ false = sym on ∙ off in cc))
      c.present.checked [] c.present.verdict tt (c.present.judges whole) c.present.are_now_checked
      c.checks

  -- what happens spares the objects that are not touched
  record Spares (s t : State K R S F) : Type 0 where
    touched : t.touched ≡ s.touched
    number : t.number ≡ s.number
    same : (p : Name) → s.touched p ≡ false → (t.reads p ≡ s.reads p) × (t.last p ≡ s.last p)
        × ((t.checked p ≡ s.checked p) ⊎ ((kp.grade (kp.keep (built run w p)) ≡ Whole → ⊥)
        × (t.checked p ≡ Some ([], jd.none))))
    not_run : (p : Name) → s.touched p ≡ false → t.runs p ≡ true → s.runs p ≡ true
    -- the numbers of their keys
    keys : (k : K) (p : Name) (q : ℕ × S) → w.target k ≡ Some p → s.touched p ≡ false → s.last p
        ≡ Some q → key_number (kp.grade q.1) (s.table k) q.0
        ≡ key_number (kp.grade q.1) (t.table k) q.0

  spares_calm : (s t : State K R S F) → Spares s t → CalmIn s → CalmIn t
  spares_calm s t sp calm o i e =
      let off : s.touched o ≡ false = ap (λ f. f o) (sym sp.touched) ∙ e in
      let c = calm o i off in
      let a = sp.same o off in
      ⊎_elim
      (λ (b : t.checked o ≡ s.checked o). record {
        present = record {
          num = c.present.num;
          items = c.present.items;
          is_last = a.1 ∙ c.present.is_last;
          is_reads = a.0 ∙ c.present.is_reads;
          runs = c.present.runs;
          are_now = nows c.present.items c.reads c.present.are_now;
          checked = c.present.checked;
          verdict = c.present.verdict;
          is_checked = b ∙ c.present.is_checked;
          judges = c.present.judges;
          are_now_checked = nows c.present.checked c.checks c.present.are_now_checked;
        };
        reads = offs c.present.items c.reads;
        checks = offs c.present.checked c.checks;
      })
      (λ (b : (kp.grade (kp.keep (built run w o)) ≡ Whole → ⊥)
      × (t.checked o ≡ Some ([], jd.none))). record {
        present = record {
          num = c.present.num;
          items = c.present.items;
          is_last = a.1 ∙ c.present.is_last;
          is_reads = a.0 ∙ c.present.is_reads;
          runs = c.present.runs;
          are_now = nows c.present.items c.reads c.present.are_now;
          checked = [];
          verdict = jd.none;
          is_checked = b.1;
          judges = λ whole. absurd (b.0 whole);
          are_now_checked = tt;
        };
        reads = offs c.present.items c.reads;
        checks = tt;
      })
      a.2
    where
      later : (k : K) → ((p : Name) → w.target k ≡ Some p → s.touched p ≡ false) → (n : ℕ)
          → NowIn run kp jd w laws klaws s k n → NowIn run kp jd w laws klaws t k n
      later k off n = at (w.target k) refl off
        where
          at : (x : Option Name) → w.target k ≡ x → ((p : Name) → x ≡ Some p → s.touched p ≡ false)
              → NowAt run kp w laws klaws s.number s.table s.last (λ p. false) k n x
              → NowAt run kp w laws klaws t.number t.table t.last (λ p. false) k n x
          at None of h a = a ∙ ap (λ f. f k) (sym sp.number)
          at (Some p) of h a =
              ⊎_elim
              (λ (b : (false ≡ false) × HasNumber kp s.table s.last k n p). inl (
                refl,
                (
                  b.1.0,
                  (sp.same p (h p refl)).1 ∙ b.1.1,
                  b.1.2
                      ∙ sp.keys k p b.1.0 of (h p refl) b.1.1,
                ),
              ))
              (λ (b : (n ≡ 2) × (run.is_circular (built run w p) ≡ true)). inr b)
              a

      nows : (items : List (K × ℕ)) → AllKeys (λ k. (p : Name) → w.target k ≡ Some p → s.touched p
          ≡ false) items → AreNow (NowIn run kp jd w laws klaws s) items → AreNow
          (NowIn run kp jd w laws klaws t) items
      nows items off now = now_move (NowIn run kp jd w laws klaws s)
          (NowIn run kp jd w laws klaws t) items (all_up
          (λ k. (p : Name) → w.target k ≡ Some p → s.touched p ≡ false)
          (λ k. (n : ℕ) → NowIn run kp jd w laws klaws s k n → NowIn run kp jd w laws klaws t k n)
          later items off) now

      offs : (items : List (K × ℕ)) → AllKeys (λ k. (p : Name) → w.target k ≡ Some p → s.touched p
          ≡ false) items → AllKeys (λ k. (p : Name) → w.target k ≡ Some p → t.touched p ≡ false)
          items
      offs = all_up (λ k. (p : Name) → w.target k ≡ Some p → s.touched p ≡ false)
          (λ k. (p : Name) → w.target k ≡ Some p → t.touched p ≡ false)
          (λ k h p e. ap (λ f. f p) sp.touched ∙ h p e)

  -- records and results stay
  stays : (s t : State K R S F) → t.touched ≡ s.touched → t.number ≡ s.number → t.reads ≡ s.reads
      → t.last ≡ s.last → t.checked ≡ s.checked → t.table ≡ s.table
      → ((p : Name) → t.runs p ≡ true → s.runs p ≡ true) → Spares s t
  stays s t touched number reads last checked table run_up =
      record {
        touched = touched;
        number = number;
        not_run = λ p e. run_up p;
        same =
            λ p e. (ap (λ f. f p) reads, ap (λ f. f p) last, inl (ap (λ f. f p) checked));
        keys =
            λ k p q of e l. ap (λ f. key_number (kp.grade q.1) (f k) q.0) (sym table);
      }

  -- all but those of an object that is touched
  others_stay : (s t : State K R S F) (o : Name) → (s.touched o ≡ false → ⊥) → t.touched ≡ s.touched
      → t.number ≡ s.number → ((p : Name) → equal p o ≡ false → (t.reads p ≡ s.reads p)
      × (t.last p ≡ s.last p) × (t.checked p ≡ s.checked p))
      → ((p : Name) → equal p o ≡ false → t.runs p ≡ s.runs p)
      → ((k : K) (p : Name) (q : ℕ × S) → w.target k ≡ Some p → equal p o ≡ false → s.last p
      ≡ Some q → key_number (kp.grade q.1) (s.table k) q.0
      ≡ key_number (kp.grade q.1) (t.table k) q.0) → Spares s t
  others_stay s t o on touched number h run_h keys =
      record {
        touched = touched;
        number = number;
        not_run =
            λ p e. run_at p e (equal p o) refl;
        same = λ p e. at p e (equal p o) refl;
        keys =
            λ k p q of e l. key_at k p q of e l (equal p o) refl;
      }
    where
      run_at : (p : Name) → s.touched p ≡ false → (b : Bool) → equal p o ≡ b → t.runs p ≡ true
          → s.runs p ≡ true
      run_at p e true is r = absurd (on (ap s.touched (sym (equal-true p o is)) ∙ e))
      run_at p e false is r = sym (run_h p is) ∙ r

      key_at : (k : K) (p : Name) (q : ℕ × S) → w.target k ≡ Some p → s.touched p ≡ false → s.last p
          ≡ Some q → (b : Bool) → equal p o ≡ b → key_number (kp.grade q.1) (s.table k) q.0
          ≡ key_number (kp.grade q.1) (t.table k) q.0
      key_at k p q of e l true is = absurd (on (ap s.touched (sym (equal-true p o is)) ∙ e))
      key_at k p q of e l false is = keys k p q of is l

      at : (p : Name) → s.touched p ≡ false → (b : Bool) → equal p o ≡ b → (t.reads p ≡ s.reads p)
          × (t.last p ≡ s.last p) × ((t.checked p ≡ s.checked p)
          ⊎ ((kp.grade (kp.keep (built run w p)) ≡ Whole → ⊥) × (t.checked p ≡ Some ([], jd.none))))
      at p e true is = absurd (on (ap s.touched (sym (equal-true p o is)) ∙ e))
      at p e false is = let a = h p is in (a.0, a.1, inl a.2)

  -- items that are now are entered
  AreNowIn : State K R S F → List (K × ℕ) → Type 0
  AreNowIn s items = AreNow (Now run kp w laws klaws s.number s.table s.last s.open_build) items

  noted_key : (s : State K R S F) (items : List (K × ℕ)) → AreNowIn s items
      → (k : K) (p : Name) (q : ℕ × S) → w.target k ≡ Some p → s.last p ≡ Some q
      → key_number (kp.grade q.1) (s.table k) q.0 ≡ key_number (kp.grade q.1)
      (noted kp w items s.table k) q.0
  unfolding AreNowIn
  noted_key s items are_now k p q of l =
      noted_number run kp w laws klaws s.number s.table s.last s.open_build items are_now k p q of l

  run_turn_spares : (s : State K R S F) → Invariant run kp jd w laws klaws s
      → (o : Name) (rest : List Name) (y : Why K) → s.chain ≡ o ∷ rest → (s.touched o ≡ false → ⊥)
      → Spares s (run_turn run kp w s o rest y)
  unfolding AreNowIn
  run_turn_spares s inv o rest y is_chain on =
      at (ran (run.build o) (tells run kp w s) run.limit [])
      (runs_well (run.build o) w (content run w) inv.stands s.counter
      (CanPush run w laws s.open_build (o ∷ rest)) (Now run kp w laws klaws s.number s.table s.last
      s.open_build) (tells run kp w s) (honest run kp jd w laws klaws s inv.stands o rest inv.facts
      is_chain chain) run.limit [] tt)
    where
      chain : IsChain run w laws s.open_build (o ∷ rest)
      chain = let P : List Name → Type 0 = λ l. IsChain run w laws s.open_build l in
          subst P is_chain inv.chain

      settled_key : (items : List (K × ℕ)) (r : R) → AreNowIn s items
          → (k : K) (p : Name) (q : ℕ × S) → w.target k ≡ Some p → equal p o ≡ false → s.last p
          ≡ Some q → let m = number_by run kp (kp.grade (kp.keep r)) s.counter (kp.keep r)
          (s.last o) in key_number (kp.grade q.1) (s.table k) q.0
          ≡ key_number (kp.grade q.1) (moved kp (noted kp w items s.table) o m (kp.keep r)
          (s.last o) k) q.0
      settled_key items r are_now k p q of e l =
          let m = number_by run kp (kp.grade (kp.keep r)) s.counter (kp.keep r) (s.last o) in
          noted_key s items are_now k p q of l
          ∙ ap (λ z. key_number (kp.grade q.1) z q.0) (sym
          (moved_other run kp w klaws (noted kp w items s.table) o m (kp.keep r) (s.last o) k p
          (klaws.names_target k p of) e))

      settles : (items : List (K × ℕ)) (r : R) → AreNowIn s items
          → Spares s (after_run run kp w (dropped run kp w s o y) o rest (Finished items r))
      settles items r are_now =
          others_stay s (after_run run kp w (dropped run kp w s o y) o rest (Finished items r)) o on
          refl refl (λ p e. (
            ap (λ b. cond b (Some items) (cond b None (s.reads p))) e,
            ap
                (λ b. cond b (Some (
                  number_by run kp (kp.grade (kp.keep r)) s.counter (kp.keep r)
                      (s.last o),
                  kp.keep r,
                )) (s.last p)) e,
            ap (λ b. cond b None (cond b None (s.checked p)))
                e,
          )) (λ p e. ap (λ b. cond b true (s.runs p)) e) (settled_key items r are_now)

      at : (x : Ran K R) → RanWell (run.build o) w (content run w) inv.stands s.counter
          (CanPush run w laws s.open_build (o ∷ rest)) (Now run kp w laws klaws s.number s.table
          s.last s.open_build) [] x → Spares s (after_run run kp w (dropped run kp w s o y) o rest
          x)
      at (Finished items r) h = settles items r h.3
      at (Stops q) h = others_stay s (after_run run kp w (dropped run kp w s o y) o rest (Stops q))
          o on refl refl (λ p e. (
            ap (λ b. cond b None (s.reads p)) e,
            refl,
            ap
                (λ b. cond b None (s.checked p)) e,
          )) (λ p e. ap (λ b. cond b true (s.runs p)) e)
          (λ k p q of e l. refl)
      at Lost h = others_stay s (dropped run kp w s o y) o on refl refl
          (λ p e. (
            ap (λ b. cond b None (s.reads p)) e,
            refl,
            ap (λ b. cond b None (s.checked p))
                e,
          )) (λ p e. ap (λ b. cond b true (s.runs p)) e) (λ k p q of e l. refl)

  -- a run of the check part
  module _ (s : State K R S F) (stands : K → ℕ → C)
      (quiet_now : IsQuiet run kp jd w laws klaws (record s { checking = None }) stands) (o : Name)
      (y : Why K) (on : s.touched o ≡ false → ⊥) where
    judged_spares : (items : List (K × ℕ)) (f : F) → AreNowIn s items
        → Spares s (judged run kp jd w (entered run kp jd w (record s { checking = None }) o y) o
        items f)
    judged_spares items f are_now =
        others_stay s (judged run kp jd w (entered run kp jd w (record s { checking = None }) o y) o
        items f) o on refl refl (λ p e. (
          refl,
          refl,
          ap
              (λ b. cond b (Some (items, f)) (s.checked p)) e,
        ))
        (λ p e. ap (λ b. cond b true (s.runs p)) e) (λ k p q of e l. noted_key s items are_now k p q
        of l)

    nothing_spares : (f : F)
        → Spares s (judged run kp jd w (entered run kp jd w (record s { checking = None }) o y) o []
        f)
    unfolding AreNowIn
    nothing_spares f = judged_spares [] f tt

    entered_spares : Spares s (entered run kp jd w (record s { checking = None }) o y)
    entered_spares = others_stay s (entered run kp jd w (record s { checking = None }) o y) o on
        refl refl (λ p e. (refl, refl, refl)) (λ p e. ap (λ b. cond b true (s.runs p)) e)
        (λ k p q of e l. refl)

    value_spares : (v : R) → Spares s (check_value run kp jd w
        (entered run kp jd w (record s { checking = None }) o y) o v)
    unfolding AreNowIn
    value_spares v = at (ran (jd.check v) (tells run kp w s) run.limit [])
        (runs_well (jd.check v) w (content run w) stands s.counter (λ p. ⊥)
        (Now run kp w laws klaws s.number s.table s.last s.open_build) (tells run kp w s)
        (quiet run kp jd w laws klaws (jd.check v) (record s { checking = None }) stands
        quiet_now.facts quiet_now.empty quiet_now.all) run.limit [] tt)
      where
        at : (x : Ran K F) → RanWell (jd.check v) w (content run w) stands s.counter (λ p. ⊥)
            (Now run kp w laws klaws s.number s.table s.last s.open_build) [] x
            → Spares s (after_check run kp jd w (entered run kp jd w (record s { checking = None })
            o y) o x)
        at (Finished items f) h = judged_spares items f h.3
        at (Stops p) h = nothing_spares jd.unfinished
        at Lost h = entered_spares

    end_spares : (v : R) (g : Grade)
        → Spares s (check_end run kp jd w (entered run kp jd w (record s { checking = None }) o y) o
        v g)
    end_spares v Whole = value_spares v
    end_spares v Circle = nothing_spares (jd.fault v)
    end_spares v Failure = nothing_spares (jd.fault v)

    rerun_spares : (x : Ran K R)
        → Spares s (after_rerun run kp jd w (entered run kp jd w (record s { checking = None }) o y)
        o x)
    rerun_spares (Finished items v) = end_spares v (kp.grade (kp.keep v))
    rerun_spares (Stops p) = nothing_spares jd.unfinished
    rerun_spares Lost = entered_spares

    held_spares : (x : Option R)
        → Spares s (check_held run kp jd w (entered run kp jd w (record s { checking = None }) o y)
        o x)
    held_spares (Some v) = value_spares v
    held_spares None = rerun_spares (ran (run.build o) (tells run kp w s) run.limit [])

  no_needs : (s : State K R S F) → s.chain ≡ []
      → ((p : Name) → IsIn p w.objects → s.open_build p ≡ false) → (k : K) (q : Name)
      → tells run kp w s k ≡ Needs q → ⊥
  no_needs s empty all k q e =
      let t = needs_target run kp w s k q e in
      let at : tells_at run kp w s k (Some q) ≡ Needs q = ap (tells_at run kp w s k) (sym t) ∙ e in
      let off : tells_object run kp false false q k (s.table k) (s.last q) ≡ Needs q =
      ap (λ b. tells_object run kp false b q k (s.table k) (s.last q))
      (sym (all q (laws.among k q t)))
      ∙ ap (λ b. tells_object run kp b (s.open_build q) q k (s.table k) (s.last q))
      (sym (ap (is_among q) empty)) ∙ at in
      at_last (s.last q) off
    where
      at_last : (l : Option (ℕ × S)) → tells_last run kp k (s.table k) l ≡ Needs q → ⊥
      at_last None e = let clash : ◌≡◌ {A = Word C} (Tells 2 (run.circular k)) (Needs q) = e in cc
      at_last (Some a) e = let clash : ◌≡◌ {A = Word C}
          (Tells (key_number (kp.grade a.1) (s.table k) a.0) (kp.seen k a.1)) (Needs q) = e in cc

  -- each turn spares them
  turn_spares : (s : State K R S F) → Invariant run kp jd w laws klaws s → CalmIn s
      → Spares s (turn run kp jd w s)
  unfolding AreNowIn
  turn_spares s inv calm = at_checking s.checking inv.checking
    where
      same_items : (a b : List (K × ℕ)) (x : Option (List (K × ℕ))) → x ≡ Some a → x ≡ Some b → a
          ≡ b
      same_items a b x e e' = let both : ◌≡◌ {A = Option (List (K × ℕ))} (Some a) (Some b) =
          sym e ∙ e' in cc

      quiet_at : (o : Name) → IsChecking run kp jd w laws klaws s (Some o)
          → IsQuiet run kp jd w laws klaws (record s { checking = None }) inv.stands
      quiet_at o h = record {
        facts = inv.facts;
        checks = inv.checks;
        empty = h.1;
        all = h.2;
        none =
            refl;
      }

      chain_in : (o : Name) (rest : List Name) → s.chain ≡ o ∷ rest → IsIn o w.objects
      chain_in o rest e = let P : List Name → Type 0 = λ l. IsChain run w laws s.open_build l in
          let c : P (o ∷ rest) = subst P e inv.chain in c.0

      at_compared : (o : Name) (rest : List Name) (items : List (K × ℕ)) → s.chain ≡ o ∷ rest
          → s.reads o ≡ Some items → (x : Compared K) → compared (tells run kp w s) items ≡ x
          → Spares s (after_compare run kp w s o rest x)
      at_compared o rest items e is AllEqual c = stays s _ refl refl refl refl refl refl (λ p e. e)
      at_compared o rest items e is (Waits p) c = stays s _ refl refl refl refl refl refl (λ p e. e)
      at_compared o rest items e is (Differs k) c =
          run_turn_spares s inv o rest (Changed k) e
          (λ off.
          let a = calm o (chain_in o rest e) off in
          let same = same_items a.present.items items (s.reads o) a.present.is_reads is in
          let fits = subst (Fits (tells run kp w s)) same (build_fits s inv calm o rest e a) in
          fits_same (tells run kp w s) items fits k c)

      at_reads : (o : Name) (rest : List Name) → s.chain ≡ o ∷ rest → (x : Option (List (K × ℕ)))
          → s.reads o ≡ x → Spares s (with_record run kp w s o rest x)
      at_reads o rest e None is =
          run_turn_spares s inv o rest (why_unread (s.why o)) e
          (λ off. let a = calm o (chain_in o rest e) off in
          let clash : ◌≡◌ {A = Option (List (K × ℕ))} None (Some a.present.items) =
          sym is ∙ a.present.is_reads in cc)
      at_reads o rest e (Some items) is =
          at_compared o rest items e is (compared (tells run kp w s) items) refl

      at_opened : (x : Option Name) → Spares s (check_opened run kp jd w s x)
      at_opened None = stays s s refl refl refl refl refl refl (λ p e. e)
      at_opened (Some o) = stays s _ refl refl refl refl refl refl (λ p e. e)

      at_least : (x : Option Name) → Spares s (open_turn run kp jd w s x)
      at_least None = at_opened (least s.open_check w.objects)
      at_least (Some o) = stays s _ refl refl refl refl refl refl (λ p e. e)

      at_chain : (c : List Name) → s.chain ≡ c → Spares s (turn_chain run kp jd w s c)
      at_chain [] e = at_least (least s.open_build w.objects)
      at_chain (o ∷ rest) e = at_reads o rest e (s.reads o) refl

      at_check_compared : (o : Name) → IsChecking run kp jd w laws klaws s (Some o)
          → kp.grade (kp.keep (built run w o)) ≡ Whole → (q : List (K × ℕ) × F) → s.checked o
          ≡ Some q → (x : Compared K) → compared (tells run kp w s) q.0 ≡ x
          → Spares s (after_check_compare run kp jd w (record s { checking = None }) o x)
      at_check_compared o h whole q is AllEqual c =
          stays s _ refl refl refl refl refl refl (λ p e. e)
      at_check_compared o h whole q is (Waits p) c =
          stays s _ refl refl refl refl refl refl (λ p e. e)
      at_check_compared o h whole q is (Differs k) c =
          held_spares s inv.stands (quiet_at o h) o (Changed k)
          (λ off.
          let a = calm o h.0 off in
          let same = both_same a.present.checked q.0 a.present.verdict q.1
          (sym a.present.is_checked ∙ is) in
          let fits = subst (Fits (tells run kp w s)) same.0 (check_fits s inv calm o h.1 a whole) in
          fits_same (tells run kp w s) q.0 fits k c)
          (s.held o)

      at_checked : (o : Name) → IsChecking run kp jd w laws klaws s (Some o)
          → kp.grade (kp.keep (built run w o)) ≡ Whole → (x : Option (List (K × ℕ) × F))
          → s.checked o ≡ x → Spares s (with_check run kp jd w (record s { checking = None }) o x)
      at_checked o h whole None is =
          held_spares s inv.stands (quiet_at o h) o NoRecord
          (λ off. let a = calm o h.0 off in
          let clash : ◌≡◌ {A = Option (List (K × ℕ) × F)} None
          (Some (a.present.checked, a.present.verdict)) = sym is ∙ a.present.is_checked in cc)
          (s.held o)
      at_checked o h whole (Some q) is =
          at_check_compared o h whole q is (compared (tells run kp w s) q.0) refl

      nothing : (o : Name) (g : Grade) → kp.grade (kp.keep (built run w o)) ≡ g → (g ≡ Whole → ⊥)
          → Spares s (judged run kp jd w (record s { checking = None }) o [] jd.none)
      nothing o g is other = record {
        touched = refl;
        number = refl;
        not_run = λ p e r. r;
        same =
            λ p e. at p (equal p o) refl;
        keys = λ k p q of e l. noted_key s [] tt k p q of l;
      }
        where
          at : (p : Name) (b : Bool) → equal p o ≡ b → (s.reads p ≡ s.reads p)
              × (s.last p ≡ s.last p) × ((cond b (Some ([], jd.none)) (s.checked p) ≡ s.checked p)
              ⊎ ((kp.grade (kp.keep (built run w p)) ≡ Whole → ⊥)
              × (cond b (Some ([], jd.none)) (s.checked p) ≡ Some ([], jd.none))))
          at p true e = (
            refl,
            refl,
            inr (
              λ whole. other
                  (sym is ∙ ap (λ y. kp.grade (kp.keep (built run w y))) (sym (equal-true p o e))
                  ∙ whole),
              refl,
            ),
          )
          at p false e = (refl, refl, inl refl)

      at_grade : (o : Name) → IsChecking run kp jd w laws klaws s (Some o) → (g : Grade)
          → kp.grade (kp.keep (built run w o)) ≡ g → Spares s
          (check_grade run kp jd w (record s { checking = None }) o g)
      at_grade o h Whole is = at_checked o h is (s.checked o) refl
      at_grade o h Circle is = nothing o Circle is (λ c. let clash : Circle ≡ Whole = c in cc)
      at_grade o h Failure is = nothing o Failure is (λ c. let clash : Failure ≡ Whole = c in cc)

      at_last : (o : Name) → IsChecking run kp jd w laws klaws s (Some o)
          → Spares s (check_last run kp jd w (record s { checking = None }) o (s.last o))
      at_last o h =
          let d = inv.facts.settled o h.0 (h.2 o h.0) in
          let P : Option (ℕ × S) → Type 0 =
          λ l. Spares s (check_last run kp jd w (record s { checking = None }) o l) in
          let here : P (Some (d.num, kp.keep (built run w o))) =
          at_grade o h (kp.grade (kp.keep (built run w o))) refl in
          subst P (sym d.is_last) here

      at_checking : (x : Option Name) → IsChecking run kp jd w laws klaws s x
          → Spares s (turn_at run kp jd w s x)
      at_checking None h = at_chain s.chain refl
      at_checking (Some o) h = at_last o h

  pub turn_calm : (s : State K R S F) → Invariant run kp jd w laws klaws s → CalmIn s
      → CalmIn (turn run kp jd w s)
  turn_calm s inv calm = spares_calm s (turn run kp jd w s) (turn_spares s inv calm) calm

  pub forgotten_calm : (s : State K R S F) → CalmIn s → CalmIn (record s { runs = λ p. false })
  forgotten_calm s = spares_calm s (record s { runs = λ p. false })
      (stays s (record s { runs = λ p. false }) refl refl refl refl refl refl
      (λ p e. absurd (let clash : false ≡ true = e in cc)))

module _ {K C R S F : Type 0} (run : Runner K C R) (kp : Keeping K C R S) (jd : Judge K C R F) where
  record Calms (x : Situation K C R S F) : Type 0 where
    holds : Holds run kp jd x
    calm : AreCalm run kp jd x.picture holds.laws holds.klaws x.state

  event_calm : (x : Situation K C R S F) (e : Event K C) → Calms x → IsAllowed run kp jd x e
      → Calms (happens run kp jd x e)
  event_calm x (Take w number counter) h a = record {
    holds = record {
      laws = a.0;
      klaws = a.1;
      inv =
          take_holds run kp jd x w number counter h.holds a;
    };
    calm = take_calm run kp jd x h.holds h.calm w number counter a.0 a.1 a.2;
  }
  event_calm x Turn h a = record {
    holds = record {
      laws = h.holds.laws;
      klaws = h.holds.klaws;
      inv =
          turn_keeps run kp jd x.picture h.holds.laws h.holds.klaws x.state h.holds.inv;
    };
    calm = turn_calm run kp jd x.picture h.holds.laws h.holds.klaws x.state h.holds.inv h.calm;
  }
  event_calm x Forget h a = record {
    holds = record {
      laws = h.holds.laws;
      klaws = h.holds.klaws;
      inv =
          forget_holds run kp jd x h.holds;
    };
    calm = forgotten_calm run kp jd x.picture h.holds.laws h.holds.klaws x.state h.calm;
  }

  events_calm : (x : Situation K C R S F) (es : List (Event K C)) → Calms x
      → AreAllowed run kp jd x es → Calms (after run kp jd x es)
  events_calm x [] h a = h
  events_calm x (e ∷ es) h a = events_calm (happens run kp jd x e) es (event_calm x e h a.0) a.1

  new_calm : (x : Situation K C R S F) → IsNew run kp jd x → Calms x
  new_calm x n = record {
    holds = begins run kp jd x n;
    calm =
        λ o i e. absurd (let P : List Name → Type 0 = λ l. IsIn o l in subst P n.no_object i);
  }

  rows_calm : (x : Situation K C R S F) → AreSoundRows run kp jd x → Calms x
  rows_calm x r = record {
    holds = restored run kp jd x r;
    calm =
        λ o i e. absurd (let on = r.all_touched o in let clash : true ≡ false = sym on ∙ e in cc);
  }

  reached_calm : (x : Situation K C R S F) → IsReached run kp jd x → Calms x
  reached_calm x r = subst Calms r.leads (events_calm r.begin r.events
      (⊎_elim (λ (n : IsNew run kp jd r.begin). new_calm r.begin n)
      (λ (s : AreSoundRows run kp jd r.begin). rows_calm r.begin s) r.sound) r.allowed)

  pub narrowed : AreNarrowed run kp jd
  narrowed x reached o i off =
      let h = reached_calm x reached in
      let laws = h.holds.laws in
      let klaws = h.holds.klaws in
      let c = h.calm o i off in
      record {
        items = c.present.items;
        is_reads = c.present.is_reads;
        build = λ rest e. fits_named (tells run kp x.picture x.state) kp.names
            (λ k p n. klaws.names_target k p (needs_target run kp x.picture x.state k p n))
            c.present.items (build_fits run kp jd x.picture laws klaws x.state h.holds.inv h.calm o
            rest e c);
        same = λ rest k e. fits_same (tells run kp x.picture x.state) c.present.items
            (build_fits run kp jd x.picture laws klaws x.state h.holds.inv h.calm o rest e c) k;
        check = λ e num t is whole.
            let P : Option Name → Type 0 =
            λ y. IsChecking run kp jd x.picture laws klaws x.state y in
            let check : P (Some o) = subst P e h.holds.inv.checking in
            let same = both_same c.present.num num (kp.keep (built run x.picture o)) t
            (sym c.present.is_last ∙ is) in
            let fits = check_fits run kp jd x.picture laws klaws x.state h.holds.inv h.calm o
            check.1 c (ap kp.grade same.1 ∙ whole) in (
              c.present.checked,
              c.present.verdict,
              c.present.is_checked,
              fits_all
                  (tells run kp x.picture x.state) (no_needs run kp jd x.picture laws klaws x.state
                  check.1 check.2) c.present.checked fits,
            );
      }

  pub left_alone : AreLeftAlone run kp jd
  left_alone x reached o i off =
      let h = reached_calm x reached in
      let s = x.state in
      let c = (h.calm o i off).present in
      let sp = turn_spares run kp jd x.picture h.holds.laws h.holds.klaws s h.holds.inv h.calm in
      let a = sp.same o off in
      let t = turn run kp jd x.picture s in
      record {
        not_run = sp.not_run o off;
        last = a.1;
        reads = a.0;
        items = ⊎_elim
            (λ (b : t.checked o ≡ s.checked o). (λ j. both_items (a.0 j) (b j)))
            (λ (b : (kp.grade (kp.keep (built run x.picture o)) ≡ Whole → ⊥)
            × (t.checked o ≡ Some ([], jd.none))).
            let bare = reached_bare run kp jd x reached o c.num (kp.keep (built run x.picture o))
            c.is_last b.0 c.checked c.verdict c.is_checked in
            (λ j. both_items (a.0 j) (b.1 j))
            ∙ (λ j. both_items (c.is_reads j) (Some ([], jd.none)))
            ∙ ap (λ l. c.items ++ l) (sym bare)
            ∙ sym (λ j. both_items (c.is_reads j) (c.is_checked j)))
            a.2;
      }

  -- a turn touches nothing, and leaves nothing untouched that was not
  pub turn_touched : (x : Situation K C R S F) → IsReached run kp jd x
      → (happens run kp jd x Turn).state.touched ≡ x.state.touched
  turn_touched x reached = let h = reached_calm x reached in
      (turn_spares run kp jd x.picture h.holds.laws h.holds.klaws x.state h.holds.inv
      h.calm).touched
