-- What takes and turns make of an engine is what the machine of a session says.
use Rattle.std.proofs.Common.{◌≡◌, ◌≤◌, ◌<◌, ◌+◌, ℕ, suc, List, [], ◌∷◌, ◌||◌, Bool, true, false, cond, not, nat_eq, nat_lt, length, fold, Option, Some, None, Ok, Err, is_some, if◌then◌else◌, refl, sym, ap, ap₂, ◌∙◌, subst, arith}
use Rattle.std.specs.Prelude.{bytes_eq}
use Rattle.std.proofs.lemmas.Bool.{lt-ltb, le-ltb, ne_eqb}
use Rattle.asking.specs.declared.limits.TheConstants.{END_OF_NUMBERS}
use Rattle.base.specs.declared.limits.TheConstants.{MAX_OBJECTS}
use Rattle.load_path.specs.Pictures.{content_in}
use Rattle.load_path.specs.declared.picture.Content.{Content}
use Rattle.load_path.specs.declared.picture.Content.TheVariants.{Bytes, TooLong}
use Rattle.load_path.specs.declared.picture.PictureFile.{PictureFile}
use Rattle.object_names.specs.Objects.{stands_in, begins_above, are_rising, AreObjects}
use Rattle.object_names.specs.Finding.{with_found}
use Rattle.object_names.proofs.Places.{first_true, second_true, bytes_same, bytes_refl}
use Rattle.pan_ast.specs.declared.work.Limits.{Limits}
use Rattle.questions.specs.declared.key.Key.TheVariants.{File}
use Rattle.engine_laws.specs.Names.{Name}
use Rattle.engine_turns.specs.declared.core_data.Core.{Core}
use Rattle.engine_turns.specs.declared.rows.FileRow.{FileRow}
use Rattle.engine_turns.specs.Places.{names, file_names, file_in, file_number_in}
use Rattle.engine_turns.specs.Spent.{IsSpent, IsSpentAtMost}
use Rattle.engine_turns.specs.States.{pictured, file_number}
use Rattle.rebuild.specs.Engines.{Meanings, situation_of, objects_of, value_of, new_situation, take_of, after_take, after_turn, after_forget, turn_work_of, is_ready}
use Rattle.rebuild.specs.Refused.{IsRefused}
use Rattle.rebuild.specs.Taking.{same_content, number_before, old_or_none, number_or, counter_or, numbered, counter_after}
use Rattle.rebuild.specs.declared.taking.TakeError.TheVariants as take_error
use Rattle.rebuild.proofs.Engines.{ready_is}
use Rattle.session.specs.Machines.{Machine, TooManyObjects, NumbersSpent}
use Rattle.session.specs.Sessions.{Next, state_in, worked, unless_spent, with_turns, with_taken}
use Rattle.engine_session.specs.Compiler as compiled
use Rattle.engine_session.specs.Compiler.{Compiled, nothing, rows_by, rows_of, compiler, taken, take, turned, work_of, counter_with, forgotten}
use Rattle.engine_session.specs.Names.{names_below, objects_in}
use Rattle.engine_session.specs.Standing.{Here, compiled_in, AreNumbers, IsKept, IsIn, Counts, counts, HasSpent, HasSpentAtMost, IsAt, IsRising, MakesTurn, MakesTurns, Turning, Takes}
use Rattle.engine_session.specs.declared.taking.Took.TheVariants as took
use Rattle.engine_session.proofs.Counting.{at_most, at_most_on, spent_on, spent_some, next_turn_below}
use Rattle.engine_session.proofs.Lists.{apart, only_objects}

pub not_past : (n m : ℕ) → m ≤ n → nat_lt n m ≡ false
not_past n m le = le-ltb n m le

pub past : (n m : ℕ) → n < m → nat_lt n m ≡ true
past n m lt = lt-ltb n m lt

-- a fact about an engine's own directories, limits and state is one about those that it has come to
pub along : {T : Type 0} (core : Core T) (P : List (List ℕ) → Limits → Compiled T → Type 0)
    (dirs : List (List ℕ)) (limits : Limits) (e : Compiled T) → IsIn dirs limits core e
    → P core.dirs core.limits (compiled_in core) → P dirs limits e
along core P dirs limits e is p =
    subst (P dirs limits) is.is (subst (λ l. P dirs l (compiled_in core)) is.limits_are
    (subst (λ d. P d core.limits (compiled_in core)) is.dirs_are p))

-- an engine that has taken nothing
none_below : (dirs : List (List ℕ)) → names_below [] dirs ≡ []
none_below [] = refl
none_below (d ∷ ds) = none_below ds

no_objects : (dirs : List (List ℕ)) → objects_in [] dirs ≡ []
no_objects dirs = ap (fold (λ names name. with_found [] dirs name names) []) (none_below dirs)

pub new_in : {T : Type 0} (core : Core T) (dirs : List (List ℕ)) (limits : Limits)
    → situation_of core ≡ new_situation → core.limits ≡ limits → core.dirs ≡ dirs → core.files.items
    ≡ [] → IsIn dirs limits core nothing
new_in core dirs limits fresh same_limits same_dirs files = record {
  dirs_are = same_dirs;
  limits_are = same_limits;
  is = λ i. record { files = pictured (files i); situation = fresh i };
}

pub new_kept : {T : Type 0} (core : Core T) → situation_of core ≡ new_situation → core.files.items
    ≡ [] → IsKept core
new_kept core fresh files = record {
  objects = ap (λ x. x.picture.objects) fresh ∙ sym (no_objects core.dirs)
      ∙ ap (λ fs. objects_in (pictured fs) core.dirs) (sym files);
  numbers = subst AreNumbers (sym files) (λ f. refl);
}

module _ {T : Type 0} (M : Meanings T) where
  -- a turn
  pub turned_in : (old new : Core T) → new.files.items ≡ old.files.items → new.dirs ≡ old.dirs
      → new.limits ≡ old.limits → situation_of new ≡ after_turn M (value_of old)
      → (dirs : List (List ℕ)) (limits : Limits) (e : Compiled T) → IsIn dirs limits old e
      → IsIn dirs limits new (turned (M dirs limits) dirs e)
  turned_in old new files same_dirs same_limits state dirs limits e is = record {
    dirs_are = same_dirs ∙ is.dirs_are;
    limits_are = same_limits ∙ is.limits_are;
    is = along old (λ d l x. compiled_in new ≡ turned (M d l) d x) dirs limits e is
        (λ i. record { files = pictured (files i); situation = state i });
  }

  -- the runs are forgotten
  pub forgotten_in : (old new : Core T) → new.files.items ≡ old.files.items → new.dirs ≡ old.dirs
      → new.limits ≡ old.limits → situation_of new ≡ after_forget M (value_of old)
      → (dirs : List (List ℕ)) (limits : Limits) (e : Compiled T) → IsIn dirs limits old e
      → IsIn dirs limits new (forgotten (M dirs limits) dirs e)
  forgotten_in old new files same_dirs same_limits state dirs limits e is = record {
    dirs_are = same_dirs ∙ is.dirs_are;
    limits_are = same_limits ∙ is.limits_are;
    is = along old (λ d l x. compiled_in new ≡ forgotten (M d l) d x) dirs limits e is
        (λ i. record { files = pictured (files i); situation = state i });
  }

  pub same_kept : (old new : Core T) → new.files.items ≡ old.files.items → new.dirs ≡ old.dirs
      → objects_of new ≡ objects_of old → IsKept old → IsKept new
  same_kept old new files same_dirs same_objects kept = record {
    objects = same_objects ∙ kept.objects ∙ ap₂ (λ fs d. objects_in (pictured fs) d) (sym files)
        (sym same_dirs);
    numbers = subst AreNumbers (sym files) kept.numbers;
  }

  pub turned_kept : (old new : Core T) → new.files.items ≡ old.files.items → new.dirs ≡ old.dirs
      → situation_of new ≡ after_turn M (value_of old) → IsKept old → IsKept new
  turned_kept old new files same_dirs state kept =
      same_kept old new files same_dirs (ap (λ x. x.picture.objects) state) kept

  pub forgotten_kept : (old new : Core T) → new.files.items ≡ old.files.items → new.dirs ≡ old.dirs
      → situation_of new ≡ after_forget M (value_of old) → IsKept old → IsKept new
  forgotten_kept old new files same_dirs state kept =
      same_kept old new files same_dirs (ap (λ x. x.picture.objects) state) kept

  module _ (dirs : List (List ℕ)) (limits : Limits) (s : Here T) (old new : Core T)
      (start mid : Counts) (runs steps : ℕ) where
    work_same : IsIn dirs limits old s.engine → turn_work_of M (value_of old)
        ≡ work_of (M dirs limits) dirs s.engine
    work_same is = along old (λ d l x. turn_work_of M (value_of old) ≡ work_of (M d l) d x) dirs
        limits s.engine is refl

    pub turn_made : IsAt dirs limits s old start mid → new.files.items ≡ old.files.items → new.dirs
        ≡ old.dirs → new.limits ≡ old.limits → situation_of new ≡ after_turn M (value_of old)
        → (situation_of new).state.counter ≤ END_OF_NUMBERS
        → IsSpent (turn_work_of M (value_of old)) mid.steps steps mid.runs runs
        → MakesTurn (compiler (M dirs limits) dirs) dirs limits s true new start (counts runs steps)
    turn_made at files same_dirs same_limits state low spent =
        let is = turned_in old new files same_dirs same_limits state dirs limits s.engine at.engine
        in
        let count : (turned (M dirs limits) dirs s.engine).situation.state.counter
        ≡ (situation_of new).state.counter = ap (λ x. x.situation.state.counter) (sym is.is) in
        let within : nat_lt END_OF_NUMBERS (turned (M dirs limits) dirs
        s.engine).situation.state.counter ≡ false =
        ap (nat_lt END_OF_NUMBERS) count ∙ not_past END_OF_NUMBERS
        (situation_of new).state.counter low in (
          turned (M dirs limits) dirs s.engine,
          ap (λ b. if b then None else Some (turned (M dirs limits) dirs s.engine)) within,
          record {
            engine = is;
            spent = let h = spent_on (compiler (M dirs limits) dirs) s
                ((compiler (M dirs limits) dirs).turn s.engine) (turn_work_of M (value_of old))
                start mid runs steps (ap (λ w. w.0) (sym (work_same at.engine)))
                (ap (λ w. w.1) (sym (work_same at.engine))) at.spent spent in
                record { in_runs = h.in_runs; in_steps = h.in_steps };
          },
        )

    counter_same : IsIn dirs limits old s.engine → (after_turn M (value_of old)).state.counter
        ≡ (turned (M dirs limits) dirs s.engine).situation.state.counter
    counter_same is = along old (λ d l x. (after_turn M (value_of old)).state.counter
        ≡ (turned (M d l) d x).situation.state.counter) dirs limits s.engine is refl

    pub turn_cut : IsAt dirs limits s old start mid
        → IsSpentAtMost (turn_work_of M (value_of old)) mid.steps steps mid.runs runs
        → HasSpentAtMost (worked (compiler (M dirs limits) dirs)
        ((compiler (M dirs limits) dirs).turn s.engine) s) start (counts runs steps)
    turn_cut at spent = spent_some (compiler (M dirs limits) dirs) s
        ((compiler (M dirs limits) dirs).turn s.engine) (turn_work_of M (value_of old)) start mid
        runs steps (ap (λ w. w.0) (sym (work_same at.engine)))
        (ap (λ w. w.1) (sym (work_same at.engine))) at.spent spent

    pub turn_spent : IsAt dirs limits s old start mid
        → END_OF_NUMBERS < (after_turn M (value_of old)).state.counter
        → IsSpentAtMost (turn_work_of M (value_of old)) mid.steps steps mid.runs runs
        → MakesTurn (compiler (M dirs limits) dirs) dirs limits s false new start
        (counts runs steps)
    turn_spent at high spent = (
      ap (λ b. if b then None else Some (turned (M dirs limits) dirs s.engine))
          (ap (nat_lt END_OF_NUMBERS) (sym (counter_same at.engine))
          ∙ past END_OF_NUMBERS (after_turn M (value_of old)).state.counter high),
      turn_cut at spent,
    )

-- turns, one after the other
module _ {T : Type 0} (machine : Machine (Compiled T)) (dirs : List (List ℕ)) (limits : Limits)
    (count : ℕ) (s : Here T) (start : Counts) where
  pub turning_begins : (core : Core T) (now : Counts) → IsAt dirs limits s core start now
      → (left : ℕ) → left ≡ count → Turning machine dirs limits count left s core start now
  turning_begins core now at left all = record {
    state = s;
    leads = λ next. ap (λ k. with_turns machine k s next) (sym all);
    moved = record {
      kept = refl;
      coming = refl;
      shelf = refl;
      may_stand = refl;
      has_faults =
          refl;
      text = refl;
    };
    taken = refl;
    stands = at;
  }

  module _ (left rest : ℕ) (old new : Core T) (mid now : Counts) (more : left ≡ suc rest)
      (t : Turning machine dirs limits count left s old start mid) where
    pub turning_step : MakesTurn machine dirs limits t.state true new start now
        → Turning machine dirs limits count rest s new start now
    turning_step made = record {
      state = record (worked machine (machine.turn t.state.engine) t.state) { engine = made.0 };
      leads = λ next. t.leads next ∙ ap (λ k. with_turns machine k t.state next) more
          ∙ ap (λ o. unless_spent machine o (worked machine (machine.turn t.state.engine) t.state)
          (λ u. with_turns machine rest u next)) made.1;
      moved = record {
        kept = t.moved.kept;
        coming = t.moved.coming;
        shelf =
            t.moved.shelf;
        may_stand = t.moved.may_stand;
        has_faults = t.moved.has_faults;
        text =
            t.moved.text;
      };
      taken = t.taken;
      stands = made.2;
    }

    pub turning_spent : MakesTurn machine dirs limits t.state false new start now
        → MakesTurns machine dirs limits count s false new start now
    turning_spent made = record {
      state = worked machine (machine.turn t.state.engine) t.state;
      leads = λ next. t.leads next ∙ ap (λ k. with_turns machine k t.state next) more
          ∙ ap (λ o. unless_spent machine o (worked machine (machine.turn t.state.engine) t.state)
          (λ u. with_turns machine rest u next)) made.0;
      moved = record {
        kept = t.moved.kept;
        coming = t.moved.coming;
        shelf =
            t.moved.shelf;
        may_stand = t.moved.may_stand;
        has_faults = t.moved.has_faults;
        text =
            t.moved.text;
      };
      taken = t.taken;
      stands = made.1;
    }

    pub turning_cut : HasSpentAtMost (worked machine (machine.turn t.state.engine) t.state) start
        now → (next : Here T → Next (Compiled T)) → IsRising next
        → HasSpentAtMost (state_in (with_turns machine count s next)) start now
    turning_cut cut next rising =
        let here : with_turns machine count s next ≡ with_turns machine (suc rest) t.state next =
        t.leads next ∙ ap (λ k. with_turns machine k t.state next) more in
        subst (λ n. HasSpentAtMost (state_in n) start now) (sym here)
        (at_most_on (worked machine (machine.turn t.state.engine) t.state)
        (state_in (with_turns machine (suc rest) t.state next)) start now
        (next_turn_below machine next rising rest t.state) cut)

  -- all of them were made, and memory was wanting behind them
  pub all_made_cut : (core : Core T) (now : Counts)
      → MakesTurns machine dirs limits count s true core start now
      → (next : Here T → Next (Compiled T)) → IsRising next
      → HasSpentAtMost (state_in (with_turns machine count s next)) start now
  all_made_cut core now made next rising =
      subst (λ n. HasSpentAtMost (state_in n) start now) (sym (made.leads next))
      (at_most_on made.state (state_in (next made.state)) start now (rising made.state)
      (at_most made.state start now made.stands.spent))

  pub turning_done : (core : Core T) (now : Counts) (left : ℕ) → left ≡ 0
      → Turning machine dirs limits count left s core start now
      → MakesTurns machine dirs limits count s true core start now
  turning_done core now left none t = record {
    state = t.state;
    leads = λ next. t.leads next ∙ ap (λ k. with_turns machine k t.state next) none;
    moved = t.moved;
    taken = t.taken;
    stands = t.stands;
  }

-- the numbers of files
differs_back : (a b : List ℕ) → bytes_eq a b ≡ false → bytes_eq b a ≡ false
differs_back a b other = at (bytes_eq b a) refl
  where
    at : (x : Bool) → bytes_eq b a ≡ x → x ≡ false
    at true is = absurd (let clash : true ≡ false =
        sym (ap (bytes_eq a) (bytes_same b a is) ∙ bytes_refl a) ∙ other in cc)
    at false is = refl

both_false : (a b : Bool) → a || b ≡ false → (a ≡ false) × (b ≡ false)
both_false true b e = absurd (let clash : true ≡ false = e in cc)
both_false false b e = (refl, e)

rows_agree : (r : FileRow) (all fs : List FileRow) → stands_in r.name (file_names fs) ≡ false
    → rows_by (pictured fs) (file_number (r ∷ all)) ≡ rows_by (pictured fs) (file_number all)
rows_agree r all [] none = refl
rows_agree r all (g ∷ fs) none =
    let two = both_false (bytes_eq g.name r.name) (stands_in r.name (file_names fs)) none in
    ap₂ (λ n rows. record { name = g.name; number = n; content = g.content } ∷ rows)
    (ap (λ b. cond b r.number (file_number_in all g.name)) (differs_back g.name r.name two.0))
    (rows_agree r all fs two.1)

pub rows_are : (files : List FileRow) → are_rising (file_names files) ≡ true
    → rows_by (pictured files) (file_number files) ≡ files
rows_are [] rising = refl
rows_are (r ∷ fs) rising =
    ap₂ (λ n rows. record { name = r.name; number = n; content = r.content } ∷ rows)
    (ap (λ b. cond b r.number (file_number_in fs r.name)) (bytes_refl r.name))
    (rows_agree r fs fs (apart r.name (file_names fs)
    (first_true (begins_above r.name (file_names fs)) (are_rising (file_names fs)) rising)
    (second_true (begins_above r.name (file_names fs)) (are_rising (file_names fs)) rising))
    ∙ rows_are fs (second_true (begins_above r.name (file_names fs)) (are_rising (file_names fs))
    rising))

found_row : (old : List FileRow) (name : List ℕ) (r : FileRow) → file_in old name ≡ Some r
    → (file_number_in old name ≡ r.number) × (is_some (content_in (pictured old) name) ≡ true)
found_row [] name r e = absurd (let clash : ◌≡◌ {A = Option FileRow} None (Some r) = e in cc)
found_row (q ∷ old) name r e = at (found_row old name r) (bytes_eq q.name name) e
  where
    at : (file_in old name ≡ Some r → (file_number_in old name ≡ r.number)
        × (is_some (content_in (pictured old) name) ≡ true)) → (b : Bool) → cond b (Some q)
        (file_in old name) ≡ Some r → (cond b q.number (file_number_in old name) ≡ r.number)
        × (is_some (if b then Some q.content else content_in (pictured old) name) ≡ true)
    at later true e = let same : q ≡ r = cc in (ap (λ z. z.number) same, refl)
    at later false e = later e

positive : (n : ℕ) → 0 < n → nat_eq n 0 ≡ false
positive n lt = ne_eqb n 0 (λ e. omega (arith, e))

module _ (old : List FileRow) (are : AreNumbers old) where
  number_there : (counter : ℕ) → 0 < counter → (name : List ℕ) (content : Content)
      → nat_eq (number_or counter (old_or_none old name content)) 0 ≡ false
  number_there counter lt name TooLong = refl
  number_there counter lt name (Bytes bs) = at (file_in old name) refl
    where
      at : (x : Option FileRow) → file_in old name ≡ x
          → nat_eq (number_or counter (number_before (Bytes bs) x)) 0 ≡ false
      at None e = positive counter lt
      at (Some r) e = by (same_content r.content (Bytes bs))
        where
          by : (b : Bool) → nat_eq (number_or counter (cond b (Some r.number) None)) 0 ≡ false
          by true = let f = found_row old name r e in
              ap (λ n. nat_eq n 0) (sym f.0) ∙ are name ∙ ap not f.1
          by false = positive counter lt

  counter_more : (counter : ℕ) (o : Option ℕ) → counter ≤ counter_or counter o
  counter_more counter None = omega arith
  counter_more counter (Some n) = omega arith

  numbered_are : (fs : List PictureFile) (counter : ℕ) → 0 < counter → (f : List ℕ)
      → nat_eq (file_number_in (numbered old counter fs) f) 0 ≡ not (is_some (content_in fs f))
  numbered_are [] counter lt f = refl
  numbered_are (g ∷ fs) counter lt f =
      at (bytes_eq g.name f) (numbered_are fs (counter_or counter
      (old_or_none old g.name g.content)) (let more =
      counter_more counter (old_or_none old g.name g.content) in omega (arith, lt, more)) f)
    where
      at : (b : Bool) → nat_eq
          (file_number_in (numbered old (counter_or counter (old_or_none old g.name g.content)) fs)
          f) 0 ≡ not (is_some (content_in fs f)) → nat_eq
          (cond b (number_or counter (old_or_none old g.name g.content))
          (file_number_in (numbered old (counter_or counter (old_or_none old g.name g.content)) fs)
          f)) 0 ≡ not (is_some (if b then Some g.content else content_in fs f))
      at true later = number_there counter lt g.name g.content
      at false later = later

-- a picture
module _ {T : Type 0} (M : Meanings T) where
  pub taken_in : (old new : Core T) (picture : List PictureFile) → is_ready old ≡ true
      → AreObjects picture old.dirs (objects_of new) → situation_of new
      ≡ after_take M (value_of old) picture (objects_of new) → pictured new.files.items ≡ picture
      → new.dirs ≡ old.dirs → new.limits ≡ old.limits
      → (dirs : List (List ℕ)) (limits : Limits) (e : Compiled T) → IsIn dirs limits old e
      → IsIn dirs limits new (taken (M dirs limits) dirs picture e)
  taken_in old new picture ready are state files same_dirs same_limits dirs limits e is = record {
    dirs_are = same_dirs ∙ is.dirs_are;
    limits_are = same_limits ∙ is.limits_are;
    is = along old (λ d l x. compiled_in new ≡ taken (M d l) d picture x) dirs limits e is
        (λ i. record { files = files i; situation = whole i });
  }
    where
      named : objects_of new ≡ objects_in picture old.dirs
      named = only_objects picture old.dirs (objects_of new) are

      whole : situation_of new
          ≡ (taken (M old.dirs old.limits) old.dirs picture (compiled_in old)).situation
      whole = state ∙ ap (λ objects. after_take M (value_of old) picture objects) named
          ∙ ap (λ rows. compiled.after (M old.dirs old.limits) old.dirs (compiled_in old)
          (take_of rows old.counter picture (objects_in picture old.dirs)))
          (sym (rows_are old.files.items (ready_is old ready).files))

  pub taken_kept : (old new : Core T) (picture : List PictureFile) → is_ready old ≡ true
      → AreObjects picture old.dirs (objects_of new) → situation_of new
      ≡ after_take M (value_of old) picture (objects_of new) → pictured new.files.items ≡ picture
      → new.dirs ≡ old.dirs → AreNumbers old.files.items → IsKept new
  taken_kept old new picture ready are state files same_dirs old_numbers = record {
    objects = only_objects picture old.dirs (objects_of new) are
        ∙ ap₂ (λ fs d. objects_in fs d) (sym files) (sym same_dirs);
    numbers = λ f. ap (λ x. nat_eq (x.state.number (File f)) 0) state
        ∙ numbered_are old.files.items old_numbers picture old.counter
        (let three = (ready_is old ready).three in omega (arith, three)) f
        ∙ ap (λ fs. not (is_some (content_in fs f))) (sym files);
  }

  module _ (dirs : List (List ℕ)) (limits : Limits) (s : Here T) (old new : Core T)
      (picture : List PictureFile) (start mid now : Counts) where
    -- the session with the steps of a take
    abbrev stepped : Here T
    stepped = record s { steps = s.steps + length picture }

    stepped_spent : IsAt dirs limits s old start mid → now.runs ≡ mid.runs → now.steps
        ≡ mid.steps + length picture → HasSpent stepped start now
    stepped_spent at same steps =
        record {
          in_runs = same ∙ at.spent.in_runs;
          in_steps = let e = at.spent.in_steps in
              omega (arith, steps, e);
        }

    pub stepped_most : IsAt dirs limits s old start mid → now.runs ≡ mid.runs
        → now.steps ≤ mid.steps + length picture → HasSpentAtMost stepped start now
    stepped_most at same steps =
        let h = at_most s start mid at.spent in
        record {
          no_fewer = let a = h.no_fewer in omega (arith, a, same);
          in_runs = let a = h.in_runs in omega (arith, a, same);
          in_steps = let e = at.spent.in_steps in omega (arith, steps, e);
        }

    rows_same : is_ready old ≡ true → IsIn dirs limits old s.engine
        → counter_after old.files.items old.counter picture
        ≡ counter_with (M dirs limits) dirs picture s.engine
    rows_same ready is = along old (λ d l x. counter_after old.files.items old.counter picture
        ≡ counter_with (M d l) d picture x) dirs limits s.engine is
        (ap (λ rows. counter_after rows old.counter picture)
        (sym (rows_are old.files.items (ready_is old ready).files)))

    named_in : (names : List Name) → AreObjects picture old.dirs names
        → IsIn dirs limits old s.engine → names ≡ objects_in picture dirs
    named_in names are is = only_objects picture old.dirs names are
        ∙ ap (objects_in picture) is.dirs_are

    take_by : (many spent : Bool) → nat_lt MAX_OBJECTS (length (objects_in picture dirs)) ≡ many
        → nat_lt END_OF_NUMBERS (counter_with (M dirs limits) dirs picture s.engine) ≡ spent
        → take (M dirs limits) dirs picture s.engine
        ≡ (if many then Err TooManyObjects else if spent then Err NumbersSpent else Ok
        (taken (M dirs limits) dirs picture s.engine))
    take_by many spent a b =
        ap₂ (λ x y. if x then Err TooManyObjects else if y then Err NumbersSpent else Ok
        (taken (M dirs limits) dirs picture s.engine)) a b

    counter_is : is_ready old ≡ true → situation_of new
        ≡ after_take M (value_of old) picture (objects_of new) → new.counter
        ≡ counter_after old.files.items old.counter picture
    counter_is ready state = ap (λ x. x.state.counter) state

    pub picture_taken : is_ready old ≡ true → AreObjects picture old.dirs (objects_of new)
        → length (objects_of new) ≤ MAX_OBJECTS → new.counter ≤ END_OF_NUMBERS → situation_of new
        ≡ after_take M (value_of old) picture (objects_of new) → pictured new.files.items ≡ picture
        → new.dirs ≡ old.dirs → new.limits ≡ old.limits → now.runs ≡ mid.runs → now.steps
        ≡ mid.steps + length picture → IsAt dirs limits s old start mid
        → Takes (compiler (M dirs limits) dirs) dirs limits picture s took.Taken new start now
    picture_taken ready are few low state files same_dirs same_limits runs steps at = record {
      state = record s {
        steps = s.steps + length picture;
        engine =
            taken (M dirs limits) dirs picture s.engine;
        has_taken = true;
      };
      leads = λ next. ap (λ r. with_taken (compiler (M dirs limits) dirs) r
          (record s { steps = s.steps + length picture }) next)
          (take_by false false (not_past MAX_OBJECTS (length (objects_in picture dirs))
          (subst (λ n. n ≤ MAX_OBJECTS) (ap length (named_in (objects_of new) are at.engine)) few))
          (not_past END_OF_NUMBERS (counter_with (M dirs limits) dirs picture s.engine)
          (subst (λ n. n ≤ END_OF_NUMBERS) (counter_is ready state ∙ rows_same ready at.engine)
          low)));
      moved = record {
        kept = refl;
        coming = refl;
        shelf = refl;
        may_stand = refl;
        has_faults =
            refl;
        text = refl;
      };
      taken = refl;
      stands = record {
        engine =
            taken_in old new picture ready are state files same_dirs same_limits dirs limits
            s.engine
            at.engine;
        spent = let h = stepped_spent at runs steps in
            record { in_runs = h.in_runs; in_steps = h.in_steps };
      };
    }

    pub picture_spent : is_ready old ≡ true → IsRefused old.files.items old.counter picture old.dirs
        take_error.NumbersSpent → now.runs ≡ mid.runs → now.steps ≤ mid.steps + length picture
        → IsAt dirs limits s old start mid → Takes (compiler (M dirs limits) dirs) dirs limits
        picture s took.SpendsNumbers new start now
    picture_spent ready refused runs steps at = record {
      state = stepped;
      leads = λ next. ap (λ r. with_taken (compiler (M dirs limits) dirs) r stepped next)
          (take_by false true (not_past MAX_OBJECTS (length (objects_in picture dirs))
          (subst (λ n. n ≤ MAX_OBJECTS) (ap length (named_in refused.0 refused.1 at.engine))
          refused.2)) (past END_OF_NUMBERS (counter_with (M dirs limits) dirs picture s.engine)
          (subst (λ n. END_OF_NUMBERS < n) (rows_same ready at.engine) refused.3)));
      moved = record {
        kept = refl;
        coming = refl;
        shelf = refl;
        may_stand = refl;
        has_faults =
            refl;
        text = refl;
      };
      taken = refl;
      stands = stepped_most at runs steps;
    }

    pub picture_too_much : IsRefused old.files.items old.counter picture old.dirs
        take_error.TooManyObjects → now.runs ≡ mid.runs → now.steps ≤ mid.steps + length picture
        → IsAt dirs limits s old start mid → Takes (compiler (M dirs limits) dirs) dirs limits
        picture s took.IsTooMuch new start now
    picture_too_much refused runs steps at = record {
      state = stepped;
      leads = λ next. ap (λ r. with_taken (compiler (M dirs limits) dirs) r stepped next)
          (take_by true (nat_lt END_OF_NUMBERS (counter_with (M dirs limits) dirs picture s.engine))
          (past MAX_OBJECTS (length (objects_in picture dirs))
          (subst (λ n. MAX_OBJECTS < n) (ap length (named_in refused.0 refused.1 at.engine))
          refused.2)) refl);
      moved = record {
        kept = refl;
        coming = refl;
        shelf = refl;
        may_stand = refl;
        has_faults =
            refl;
        text = refl;
      };
      taken = refl;
      stands = stepped_most at runs steps;
    }
