-- What is kept where events lead, with nothing unsettled, is sound rows.
use Rattle.std.proofs.Common.{◌≡◌, ℕ, ◌<◌, ◌≤◌, ◌⊎◌, List, [], ◌∷◌, Bool, true, false, ◌&&◌, not, cond, nat_le, ltb, Option, Some, None, refl, sym, ap, ◌∙◌, subst, inl, inr, ⊎_elim, arith}
use Rattle.std.proofs.lemmas.Bool.{ltb-true, ltb-false, le-leb}
use Rattle.engine_laws.specs.Names.{Name}
use Rattle.engine_laws.specs.Runner.{Runner, IsIn}
use Rattle.asking.specs.Asked.{Answer}
use Rattle.engine_laws.specs.Bounded.{built, content}
use Rattle.engine_laws.specs.Engine.{Grade, Circle, Failure, Whole, Keeping, Judge, is_among, key_number, HasNumber, or_else, first_number, Situation, IsPresentAt, AreReads}
use Rattle.engine_laws.specs.Rows.{IsGraded, if_whole, if_tree, number_read, number_kept, row_entry, AreNamed, AreSoundRows}
use Rattle.engine_laws.specs.Restored.{at_rest, restored, AllSettled, KeepsSoundRows}
use Rattle.engine_laws.proofs.Walk.{AreNow}
use Rattle.engine_laws.proofs.Facts.{both_same, Now, NowAt}
use Rattle.engine_laws.proofs.Tables.{one_of, own_none, own_some, first_is}
use Rattle.engine_laws.proofs.Take.{of_object}
use Rattle.engine_laws.proofs.Touched.{in_among, among_in}
use Rattle.engine_laws.proofs.Events.{Holds, from_scratch}
use Rattle.engine_laws.proofs.Reached.{reached_holds}
use Rattle.engine_laws.proofs.Failing.{AreBare, reached_bare}

-- an item of a list
abbrev HasItem : {K : Type 0} → K → ℕ → List (K × ℕ) → Type 0
HasItem k n [] = ⊥
HasItem k n (q ∷ items) = ((q.0 ≡ k) × (q.1 ≡ n)) ⊎ HasItem k n items

either_of : (a b : Option ℕ) (m : ℕ) → or_else a b ≡ Some m → (a ≡ Some m) ⊎ (b ≡ Some m)
either_of None b m e = inr e
either_of (Some n) b m e = inl e

-- there is one
abbrev HasOne : Option ℕ → Type 0
HasOne e = (m : ℕ) × (e ≡ Some m)

first_else : (a b : Option ℕ) → HasOne a → HasOne (or_else a b)
first_else None b h = absurd (let clash : ◌≡◌ {A = Option ℕ} None (Some h.0) = h.1 in cc)
first_else (Some n) b h = h

second_else : (a b : Option ℕ) → HasOne b → HasOne (or_else a b)
second_else None b h = h
second_else (Some n) b h = (n, refl)

only_tree : {S : Type 0} (grade : S → Grade) (g : Grade) (e : Option ℕ) (m : ℕ) → if_whole g e
    ≡ Some m → e ≡ Some m
only_tree grade Circle e m h = absurd (let clash : ◌≡◌ {A = Option ℕ} None (Some m) = h in cc)
only_tree grade Failure e m h = absurd (let clash : ◌≡◌ {A = Option ℕ} None (Some m) = h in cc)
only_tree grade Whole e m h = h

module _ {K C R S F : Type 0} (run : Runner K C R) (kp : Keeping K C R S) (jd : Judge K C R F)
    (x : Situation K C R S F) (h : Holds run kp jd x) (named : AreNamed kp x.picture)
    (all : AllSettled run kp jd x) (bare : AreBare kp x.state) where
  abbrev IsNow : K → ℕ → Type 0
  IsNow = Now run kp x.picture h.laws h.klaws x.state.number x.state.table x.state.last
      x.state.open_build

  abbrev rest : Situation K C R S F
  rest = restored kp x

  -- what is there of an object is what was there
  at_object : {A : Type 0} (f : Name → Option A) (o : Name) → IsIn o x.picture.objects
      → cond (is_among o x.picture.objects) (f o) None ≡ f o
  at_object f o i = ap (λ b. cond b (f o) None) (among_in o x.picture.objects i)

  -- both parts of a record, whose items have the present numbers
  record Kept (o : Name) : Type 0 where
    items : List (K × ℕ)
    is_reads : x.state.reads o ≡ Some items
    now : AreNow IsNow items
    citems : List (K × ℕ)
    verdict : F
    is_checked : x.state.checked o ≡ Some (citems, verdict)
    check_now : AreNow IsNow citems

  kept : (o : Name) → IsIn o x.picture.objects → Kept o
  kept o i =
      let a = h.inv.facts.settled o i (all o i).0 in
      let c = h.inv.checks.judged o i (all o i).1 in
      record {
        items = a.items;
        is_reads = a.is_reads;
        now = a.are_now;
        citems = c.items;
        verdict =
            c.verdict;
        is_checked = c.is;
        check_now = c.are_now;
      }

  -- the two parts as they are kept
  read_kept : (k : K) (o : Name) (i : IsIn o x.picture.objects)
      → number_read kp k (rest.state.reads o) (rest.state.checked o)
      ≡ or_else (first_number kp k (kept o i).items) (first_number kp k (kept o i).citems)
  read_kept k o i =
      let a = kept o i in
      (λ j. number_read kp k ((at_object x.state.reads o i ∙ a.is_reads) j)
      ((at_object x.state.checked o i ∙ a.is_checked) j))

  -- a number that the records name is the present one
  first_now : (k : K) (m : ℕ) (os : List Name) → ((o : Name) → IsIn o os → IsIn o x.picture.objects)
      → number_kept kp rest.state k os ≡ Some m → (3 ≤ m) × IsNow k m
  first_now k m [] within e = absurd (let clash : ◌≡◌ {A = Option ℕ} None (Some m) = e in cc)
  first_now k m (o ∷ os) within e =
      let i = within o (inl refl) in
      let a = kept o i in
      let first : (items : List (K × ℕ)) → AreNow IsNow items → first_number kp k items ≡ Some m
      → (3 ≤ m) × IsNow k m = λ items now is. first_is run kp x.picture h.klaws IsNow k m items
      now is in
      ⊎_elim
      (λ (here : number_read kp k (rest.state.reads o) (rest.state.checked o) ≡ Some m).
      ⊎_elim
      (λ (b : first_number kp k a.items ≡ Some m). first a.items a.now b)
      (λ (c : first_number kp k a.citems ≡ Some m). first a.citems a.check_now c)
      (either_of (first_number kp k a.items) (first_number kp k a.citems) m
      (sym (read_kept k o i) ∙ here)))
      (λ (later : number_kept kp rest.state k os ≡ Some m). first_now k m os
      (λ p j. within p (inr j)) later)
      (either_of (number_read kp k (rest.state.reads o) (rest.state.checked o))
      (number_kept kp rest.state k os) m e)

  -- each item from 3 on has one
  item_first : (k : K) (n : ℕ) → 3 ≤ n → (items : List (K × ℕ)) → HasItem k n items
      → HasOne (first_number kp k items)
  item_first k n le [] i = absurd i
  item_first k n le (q ∷ items) i =
      at (kp.same_key q.0 k && nat_le 3 q.1) refl (item_first k n le items) i
    where
      at : (b : Bool) → (kp.same_key q.0 k && nat_le 3 q.1) ≡ b
          → (HasItem k n items → HasOne (first_number kp k items)) → HasItem k n (q ∷ items)
          → HasOne (cond b (Some q.1) (first_number kp k items))
      at true is later i = (q.1, refl)
      at false is later i =
          ⊎_elim
          (λ (here : (q.0 ≡ k) × (q.1 ≡ n)).
          let key : kp.same_key q.0 k ≡ true =
          ap (λ j. kp.same_key j k) here.0 ∙ h.klaws.same_key_all k in
          let large : nat_le 3 q.1 ≡ true = ap (nat_le 3) here.1 ∙ le-leb 3 n le in
          absurd (let clash : true ≡ false = sym (λ j. key j && large j) ∙ is in cc))
          (λ (more : HasItem k n items). later more)
          i

  object_first : (k : K) (o : Name) (os : List Name) → IsIn o os
      → HasOne (number_read kp k (rest.state.reads o) (rest.state.checked o))
      → HasOne (number_kept kp rest.state k os)
  object_first k o [] i e = absurd i
  object_first k o (p ∷ os) i e =
      ⊎_elim
      (λ (here : p ≡ o). first_else (number_read kp k (rest.state.reads p) (rest.state.checked p))
      (number_kept kp rest.state k os) (let P : Name → Type 0 =
      λ q. HasOne (number_read kp k (rest.state.reads q) (rest.state.checked q)) in
      subst P (sym here) e))
      (λ (later : IsIn o os). second_else (number_read kp k (rest.state.reads p)
      (rest.state.checked p)) (number_kept kp rest.state k os) (object_first k o os later e))
      i

  -- these items are of records
  abbrev AreKept : List (K × ℕ) → Type 0
  AreKept items = (k : K) (n : ℕ) → HasItem k n items → 3 ≤ n
      → HasOne (number_kept kp rest.state k x.picture.objects)

  build_kept : (o : Name) (i : IsIn o x.picture.objects) → AreKept (kept o i).items
  build_kept o i k n has le =
      let one = first_else (first_number kp k (kept o i).items)
      (first_number kp k (kept o i).citems) (item_first k n le (kept o i).items has) in
      object_first k o x.picture.objects i (subst HasOne (sym (read_kept k o i)) one)

  check_kept : (o : Name) (i : IsIn o x.picture.objects) → AreKept (kept o i).citems
  check_kept o i k n has le =
      let one = second_else (first_number kp k (kept o i).items)
      (first_number kp k (kept o i).citems) (item_first k n le (kept o i).citems has) in
      object_first k o x.picture.objects i (subst HasOne (sym (read_kept k o i)) one)

  -- the present number of a key of a tree is from 3 on
  tree_large : (k : K) (p : Name) (n : ℕ) (t : S) (e : Option ℕ) → kp.names k ≡ Some p
      → x.state.table k ≡ e → x.state.last p ≡ Some (n, t) → kp.grade t ≡ Whole
      → 3 ≤ key_number Whole e n
  tree_large k p n t None names has l whole =
      let G : Grade → Type 0 = λ g. IsGraded n g in
      subst G whole (h.inv.facts.graded p n t l)
  tree_large k p n t (Some m) names has l whole = h.inv.facts.table_large k p m n t names has l

  -- two present numbers of a key are the same, where one is from 3 on
  same_number : (k : K) (p : Name) (n m : ℕ) → HasNumber kp x.state.table x.state.last k n p → 3 ≤ m
      → NowAt run kp x.picture h.laws h.klaws x.state.number x.state.table x.state.last
      x.state.open_build k m (Some p) → m ≡ n
  same_number k p n m a le now =
      ⊎_elim
      (λ (b : (x.state.open_build p ≡ false) × HasNumber kp x.state.table x.state.last k m p).
      let q : a.0 ≡ b.1.0 = one_of a.1 b.1.1 in
      b.1.2 ∙ ap (λ l. key_number (kp.grade l.1) (x.state.table k) l.0) (sym q) ∙ sym a.2)
      (λ (b : (m ≡ 2) × (run.is_circular (built run x.picture p) ≡ true)). absurd
      (let two = b.0 in omega (arith, le, two)))
      now

  -- the number of a key, by the records
  number_at : (k : K) (p : Name) (n : ℕ) (q : ℕ × S) → x.picture.target k ≡ Some p
      → (3 ≤ n → HasOne (number_kept kp rest.state k x.picture.objects)) → x.state.last p ≡ Some q
      → n ≡ key_number (kp.grade q.1) (x.state.table k) q.0 → (g : Grade) → kp.grade q.1 ≡ g → n
      ≡ key_number g (if_whole g (number_kept kp rest.state k x.picture.objects)) q.0
  number_at k p n q of has l is Circle grade =
      is ∙ ap (λ g. key_number g (x.state.table k) q.0) grade
  number_at k p n q of has l is Failure grade =
      is ∙ ap (λ g. key_number g (x.state.table k) q.0) grade
  number_at k p n q of has l is Whole grade =
      let own = is ∙ ap (λ g. key_number g (x.state.table k) q.0) grade in
      let large = tree_large k p q.0 q.1 (x.state.table k) (h.klaws.names_target k p of) refl l
      grade in
      let one = has (subst (λ i. 3 ≤ i) (sym own) large) in
      let first = first_now k one.0 x.picture.objects (λ o i. i) one.1 in
      let P : Option Name → Type 0 =
      λ y. NowAt run kp x.picture h.laws h.klaws x.state.number x.state.table x.state.last
      x.state.open_build k one.0 y in
      sym (same_number k p n one.0 (q, l, is) first.0 (subst P of first.1))
      ∙ sym (ap (λ e. key_number Whole e q.0) one.1)

  -- what is present stays so
  present_at : (k : K) (n : ℕ) → (3 ≤ n → HasOne (number_kept kp rest.state k x.picture.objects))
      → (o : Option Name) → x.picture.target k ≡ o → NowAt run kp x.picture h.laws h.klaws
      x.state.number x.state.table x.state.last x.state.open_build k n o
      → IsPresentAt run kp jd rest k n o
  present_at k n has None of now = now
  present_at k n has (Some p) of now =
      ⊎_elim
      (λ (a : (x.state.open_build p ≡ false) × HasNumber kp x.state.table x.state.last k n p).
      let i = h.laws.among k p of in
      let is_last = at_object x.state.last p i ∙ a.1.1 in
      let entry : rest.state.table k ≡ if_whole (kp.grade a.1.0.1)
      (number_kept kp rest.state k x.picture.objects) =
      ap (row_entry kp (at_rest x) k) of
      ∙ ap (λ l. if_tree kp l (number_kept kp rest.state k x.picture.objects)) is_last in
      inl (
        ap not (among_in p x.picture.objects i),
        (
          a.1.0,
          is_last,
          number_at k p n a.1.0 of has a.1.1 a.1.2 (kp.grade a.1.0.1) refl
              ∙ sym (ap (λ e. key_number (kp.grade a.1.0.1) e a.1.0.0) entry),
        ),
      ))
      (λ (a : (n ≡ 2) × (run.is_circular (built run x.picture p) ≡ true)). inr a)
      now

  abbrev ArePresent : List (K × ℕ) → Type 0
  ArePresent [] = Unit {0}
  ArePresent (q ∷ items) =
      IsPresentAt run kp jd rest q.0 q.1 (x.picture.target q.0) × ArePresent items

  are_present : (items : List (K × ℕ)) → AreKept items → AreNow IsNow items → ArePresent items
  are_present [] has now = tt
  are_present (q ∷ items) has now = (
    present_at q.0 q.1 (has q.0 q.1 (inl (refl, refl))) (x.picture.target q.0) refl now.0,
    are_present items (λ k n i. has k n (inr i)) now.1,
  )

  are_reads : {X : Type 0} (ask : List (K × C) → Answer K X) (asked : List (K × C))
      (items : List (K × ℕ)) (end : X) → ArePresent items → AreReads run kp jd x ask asked items end
      → AreReads run kp jd rest ask asked items end
  are_reads ask asked [] end now reads = reads
  are_reads ask asked (q ∷ items) end now reads = (
    reads.0,
    now.0,
    are_reads ask ((q.0, content run x.picture q.0) ∷ asked) items end now.1
        reads.2,
  )

  now_low : (k : K) (m : ℕ) → 3 ≤ m → (o : Option Name) → x.picture.target k ≡ o
      → NowAt run kp x.picture h.laws h.klaws x.state.number x.state.table x.state.last
      x.state.open_build k m o → m < x.state.counter
  now_low k m le None of now = let low = h.inv.facts.number_low k in omega (arith, now, low)
  now_low k m le (Some p) of now =
      ⊎_elim
      (λ (a : (x.state.open_build p ≡ false) × HasNumber kp x.state.table x.state.last k m p). own
      (x.state.table k) refl a.1.0 a.1.1 a.1.2)
      (λ (a : (m ≡ 2) × (run.is_circular (built run x.picture p) ≡ true)). absurd
      (let two = a.0 in omega (arith, le, two)))
      now
    where
      own : (e : Option ℕ) → x.state.table k ≡ e → (q : ℕ × S) → x.state.last p ≡ Some q → m
          ≡ key_number (kp.grade q.1) e q.0 → m < x.state.counter
      own None has q l is =
          let same = is ∙ own_none (kp.grade q.1) q.0 in
          let low = h.inv.facts.last_low p q.0 q.1 l in
          omega (arith, same, low)
      own (Some n) has q l is =
          let a = h.inv.facts.table_is k p n q.0 q.1 (h.klaws.names_target k p of) has l in
          let same = is ∙ own_some (kp.grade q.1) n q.0 a.1 in
          let low = a.0 in
          omega (arith, same, low)

  entry_low : (k : K) (m : ℕ) (o : Option Name) → x.picture.target k ≡ o
      → row_entry kp (at_rest x) k o ≡ Some m → m < x.state.counter
  entry_low k m None of e = absurd (let clash : ◌≡◌ {A = Option ℕ} None (Some m) = e in cc)
  entry_low k m (Some p) of e =
      let first = first_now k m x.picture.objects (λ o i. i) (of_tree (rest.state.last p) e) in
      now_low k m first.0 (x.picture.target k) refl first.1
    where
      of_tree : (l : Option (ℕ × S)) → if_tree kp l (number_kept kp rest.state k x.picture.objects)
          ≡ Some m → number_kept kp rest.state k x.picture.objects ≡ Some m
      of_tree None e = absurd (let clash : ◌≡◌ {A = Option ℕ} None (Some m) = e in cc)
      of_tree (Some q) e = only_tree kp.grade (kp.grade q.1)
          (number_kept kp rest.state k x.picture.objects) m e

  is_object : {A : Type 0} (b : Bool) (f : Option A) (a : A) → cond b f None ≡ Some a → b ≡ true
  is_object true f a e = refl
  is_object {A} false f a e = absurd (let clash : ◌≡◌ {A = Option A} None (Some a) = e in cc)

  pub rows_sound : AreSoundRows run kp jd (restored kp x)
  rows_sound = record {
    laws = h.laws;
    keep_laws = h.klaws;
    named = named;
    three = h.inv.facts.three;
    low = h.inv.facts.number_low;
    numbers = λ k e. at_number k e (ltb (x.state.number k) 3) refl;
    results = λ p n t e.
        let l = of_object (is_among p x.picture.objects) (x.state.last p) (n, t) e in
        let i = in_among p x.picture.objects (is_object (is_among p x.picture.objects)
        (x.state.last p) (n, t) e) in
        let a = h.inv.facts.settled p i (all p i).0 in (
          h.inv.facts.last_low p n t l,
          h.inv.facts.graded p n t l,
          i,
          (both_same n a.num t (kp.keep (built run x.picture p)) (sym l ∙ a.is_last)).1,
        );
    has = λ o i. let a = h.inv.facts.settled o i (all o i).0 in
        (a.num, at_object x.state.last o i ∙ a.is_last);
    builds = λ o i.
        let b = (from_scratch run kp jd x h).builds o i (all o i).0 in
        let a = kept o i in
        let same : a.items ≡ b.2 = one_of a.is_reads b.3 in
        let P : List (K × ℕ) → Type 0 = λ l. ArePresent l in (
          b.2,
          at_object x.state.reads o i ∙ b.3,
          are_reads (run.build o) [] b.2
              (built run x.picture o) (subst P same (are_present a.items (build_kept o i) a.now))
              b.4,
        );
    table = λ k. refl;
    table_low = λ k m e. entry_low k m (x.picture.target k) refl e;
    only = λ o items e. in_among o x.picture.objects
        (is_object (is_among o x.picture.objects) (x.state.reads o) items e);
    checks = λ o i.
        let c = (from_scratch run kp jd x h).checks o i (all o i).1 in
        let d = h.inv.facts.settled o i (all o i).0 in
        let a = kept o i in
        let same : a.citems ≡ c.0 =
        (both_same a.citems c.0 a.verdict c.1 (sym a.is_checked ∙ c.2)).0 in
        let P : List (K × ℕ) → Type 0 = λ l. ArePresent l in
        let present = subst P same (are_present a.citems (check_kept o i) a.check_now) in (
          c.0,
          c.1,
          at_object x.state.checked o i ∙ c.2,
          (λ whole. are_reads (jd.check (built run x.picture o)) [] c.0 c.1 present (c.3 whole)),
          λ fails. bare o d.num (kp.keep (built run x.picture o)) d.is_last fails c.0 c.1 c.2,
        );
    settled = λ o i. ap not (among_in o x.picture.objects i);
    no_held = λ o. refl;
    no_chain = refl;
    no_check = refl;
    none_run = λ o. refl;
    no_why = λ o. refl;
    all_touched = λ o. refl;
  }
    where
      at_number : (k : K) → x.picture.target k ≡ None → (b : Bool) → ltb (x.state.number k) 3 ≡ b
          → ((x.state.number k < 3) × (kp.small k (x.state.number k) ≡ x.picture.told k))
          ⊎ (3 ≤ x.state.number k)
      at_number k e true lt =
          let small = ltb-true (x.state.number k) 3 lt in
          inl (
            small,
            sym (h.inv.facts.small_is k (x.state.number k) small)
                ∙ h.inv.facts.number_is k e,
          )
      at_number k e false ge = inr (ltb-false (x.state.number k) 3 ge)

module _ {K C R S F : Type 0} (run : Runner K C R) (kp : Keeping K C R S) (jd : Judge K C R F) where
  pub keeps_sound_rows : KeepsSoundRows run kp jd
  keeps_sound_rows x reached named all =
      rows_sound run kp jd x (reached_holds run kp jd x reached) named all
      (reached_bare run kp jd x reached)
