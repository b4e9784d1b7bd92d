-- Rows of which the paths alone differ, and what was entered in them.
use Rattle.std.proofs.Common.{◌≡◌, ◌≤◌, ◌<◌, ◌&&◌, ℕ, zero, suc, List, [], ◌∷◌, Bool, true, false, not, cond, nat_le, Option, Some, None, option_map, map, length, refl, sym, ap, ◌∙◌, subst}
use Rattle.asking.specs.declared.limits.TheConstants.{END_OF_NUMBERS}
use Rattle.asking.specs.Asked.{Finished}
use Rattle.questions.specs.declared.key.Key.{Key}
use Rattle.questions.specs.declared.key.Key.TheVariants.{File, Under}
use Rattle.questions.specs.Contents.{Content}
use Rattle.questions.specs.Keys.{key_eq}
use Rattle.questions.specs.KeyLaws.{key_same}
use Rattle.runner.specs.Ends.{End, Verdict}
use Rattle.foreign_values.specs.Chains.{below}
use Rattle.object_names.specs.Objects.{are_rising}
use Rattle.engine_laws.specs.Names.{Name, equal}
use Rattle.engine_laws.specs.Runner.{Picture}
use Rattle.engine_laws.specs.Engine.{NotRun, NoRecord, Why, or_else, if_some, first_number, noting, dropped, settled_at, number_by, judged_at, entered}
use Rattle.engine_machine.specs.Machine.{keeping, keep, grade, runner_of}
use Rattle.engine_machine.specs.Pictures.{target_in}
use Rattle.engine_turns.specs.declared.rows.Row.{Row}
use Rattle.engine_turns.specs.declared.core_data.Core.{Core}
use Rattle.engine_turns.specs.Changes.{cause_for, check_cause}
use Rattle.engine_turns.specs.Entering.{is_wanted_key, wanted, entered_one, entered_all, bare, IsEntered}
use Rattle.engine_turns.specs.Places.{row_place, row_in, of_row, column, names, file_names}
use Rattle.engine_turns.specs.States.{EngineState, file_number, last_of, reads_of, checked_of, why_by, why_of, held_of, chain_of, checking_of, picture_of, is_graded, are_graded, table_in}
use Rattle.engine_turns.specs.Ready.{core_state, core_picture, top_name, is_open, is_unchecked, is_chain, are_known, none_before, IsReady, StaysReady, IsBuildTop, IsCheckTop}
use Rattle.engine_turns.specs.Turning.{no_build, no_judge, moved_turn, settled_turn, top_cause, judged_run_turn, ended_turn, top_check_cause}
use Rattle.engine_turns.proofs.ByName.{names_length}

module _ {T : Type 0} where
  names_bare : (rows : List (Row T)) → names (map bare rows) ≡ names rows
  names_bare [] = refl
  names_bare (r ∷ rows) = ap (λ ns. r.name ∷ ns) (names_bare rows)

  graded_bare : (rows : List (Row T)) → are_graded (map bare rows) ≡ are_graded rows
  graded_bare [] = refl
  graded_bare (r ∷ rows) = ap (λ b. is_graded r.last && b) (graded_bare rows)

  open_bare : (n : ℕ) (rows : List (Row T)) → none_before is_open n (map bare rows)
      ≡ none_before is_open n rows
  open_bare zero rows = refl
  open_bare (suc n) [] = refl
  open_bare (suc n) (r ∷ rows) = ap (λ b. not r.open_build && b) (open_bare n rows)

  unchecked_bare : (n : ℕ) (rows : List (Row T)) → none_before is_unchecked n (map bare rows)
      ≡ none_before is_unchecked n rows
  unchecked_bare zero rows = refl
  unchecked_bare (suc n) [] = refl
  unchecked_bare (suc n) (r ∷ rows) = ap (λ b. not r.open_check && b) (unchecked_bare n rows)

  row_bare : (p : Name) (rows : List (Row T)) → row_in p (map bare rows)
      ≡ option_map bare (row_in p rows)
  row_bare p [] = refl
  row_bare p (x ∷ rows) = at (equal x.name p) (row_bare p rows)
    where
      at : (b : Bool) → row_in p (map bare rows) ≡ option_map bare (row_in p rows)
          → cond b (Some (bare x)) (row_in p (map bare rows))
          ≡ option_map bare (cond b (Some x) (row_in p rows))
      at true e = refl
      at false e = e

  place_bare : (p : Name) (i : ℕ) (rows : List (Row T)) → row_place p i (map bare rows)
      ≡ row_place p i rows
  place_bare p i [] = refl
  place_bare p i (x ∷ rows) = ap (cond (equal x.name p) (Some i)) (place_bare p (suc i) rows)

module _ {T : Type 0} (rows new : List (Row T)) (e : map bare new ≡ map bare rows) where
  pub same_names : names new ≡ names rows
  same_names = sym (names_bare new) ∙ ap names e ∙ names_bare rows

  pub same_graded : are_graded new ≡ are_graded rows
  same_graded = sym (graded_bare new) ∙ ap are_graded e ∙ graded_bare rows

  same_open : (n : ℕ) → none_before is_open n new ≡ none_before is_open n rows
  same_open n = sym (open_bare n new) ∙ ap (none_before is_open n) e ∙ open_bare n rows

  same_unchecked : (n : ℕ) → none_before is_unchecked n new ≡ none_before is_unchecked n rows
  same_unchecked n = sym (unchecked_bare n new) ∙ ap (none_before is_unchecked n) e
      ∙ unchecked_bare n rows

  same_place : (p : Name) → row_place p 0 new ≡ row_place p 0 rows
  same_place p = sym (place_bare p 0 new) ∙ ap (row_place p 0) e ∙ place_bare p 0 rows

  pub same_length : length new ≡ length rows
  same_length = sym (names_length new) ∙ ap length same_names ∙ names_length rows

  same_row : (p : Name) → option_map bare (row_in p new) ≡ option_map bare (row_in p rows)
  same_row p = sym (row_bare p new) ∙ ap (row_in p) e ∙ row_bare p rows

  -- a column that has nothing to do with paths
  pub same_column : {A : Type 0} (get : Row T → A) (d : A) → ((r : Row T) → get (bare r) ≡ get r)
      → column get d new ≡ column get d rows
  same_column get d inv i p =
      (to (row_in p new) ∙ ap (of_row get d) (same_row p) ∙ sym (to (row_in p rows))) i
    where
      to : (x : Option (Row T)) → of_row get d x ≡ of_row get d (option_map bare x)
      to None = refl
      to (Some r) = sym (inv r)

-- what is entered is what the machine notes
module _ (T : Type 0) (objects : List Name) where
  no_target : (k : Key) → is_wanted_key objects k ≡ false → target_in objects k ≡ None
  no_target (File f) e = refl
  no_target (Under p terms) e = ap (λ b. cond b (Some p) None) e

  a_target : (k : Key) (e : Option ℕ) → is_wanted_key objects k ≡ true
      → if_some (target_in objects k) e ≡ e
  a_target (File f) e w = absurd (let clash : false ≡ true = w in cc)
  a_target (Under p terms) e w = ap (λ b. if_some (cond b (Some p) None) e) w

  else_twice : (a : Option ℕ) (n : ℕ) (x : Option ℕ) → or_else (or_else a (Some n)) x
      ≡ or_else a (Some n)
  else_twice None n x = refl
  else_twice (Some m) n x = refl

  pub all_noted : (items : List (Key × ℕ)) (table : Key → Option ℕ) (k : Key)
      → entered_all objects (wanted objects items) table k
      ≡ or_else (table k) (if_some (target_in objects k) (first_number (keeping {T = T}) k items))
  all_noted [] table k = at (table k) (target_in objects k)
    where
      at : (a : Option ℕ) (x : Option Name) → a ≡ or_else a (if_some x None)
      at None None = refl
      at None (Some p) = refl
      at (Some n) x = refl
  all_noted (q ∷ items) table k =
      at_key (is_wanted_key objects q.0) (nat_le 3 q.1) (key_eq q.0 k) refl refl refl
      (λ t. all_noted items t k)
    where
      at_key : (a b c : Bool) → is_wanted_key objects q.0 ≡ a → nat_le 3 q.1 ≡ b → key_eq q.0 k ≡ c
          → ((t : Key → Option ℕ) → entered_all objects (wanted objects items) t k
          ≡ or_else (t k) (if_some (target_in objects k) (first_number (keeping {T = T}) k items)))
          → entered_all objects (cond (a && b) (q ∷ wanted objects items) (wanted objects items))
          table k ≡ or_else (table k) (if_some (target_in objects k)
          (cond (c && b) (Some q.1) (first_number (keeping {T = T}) k items)))
      at_key true true true wk large same later =
          let here : entered_one objects q table k ≡ or_else (table k) (Some q.1) =
          (λ i. cond ((wk i && large i) && same i) (or_else (table k) (Some q.1)) (table k)) in
          let target = ap (λ j. is_wanted_key objects j) (sym (key_same q.0 k same)) ∙ wk in
          later (entered_one objects q table)
          ∙ ap (λ a. or_else a (if_some (target_in objects k)
          (first_number (keeping {T = T}) k items))) here
          ∙ else_twice (table k) q.1 (if_some (target_in objects k)
          (first_number (keeping {T = T}) k items))
          ∙ sym (ap (or_else (table k)) (a_target k (Some q.1) target))
      at_key true true false wk large same later =
          let here : entered_one objects q table k ≡ table k =
          (λ i. cond ((wk i && large i) && same i) (or_else (table k) (Some q.1)) (table k)) in
          later (entered_one objects q table)
          ∙ ap (λ a. or_else a (if_some (target_in objects k)
          (first_number (keeping {T = T}) k items))) here
      at_key true false true wk large same later = later table
      at_key true false false wk large same later = later table
      at_key false b true wk large same later =
          let none = no_target k (ap (λ j. is_wanted_key objects j) (sym (key_same q.0 k same))
          ∙ wk) in
          later table ∙ (λ i. or_else (table k) (if_some (none i)
          (first_number (keeping {T = T}) k items)))
          ∙ sym (λ i. or_else (table k) (if_some (none i)
          (cond b (Some q.1) (first_number (keeping {T = T}) k items))))
      at_key false b false wk large same later = later table

module _ {T : Type 0} (c new : Core T) (only : new ≡ record c { rows = new.rows }) where
  -- the data stays ready
  pub ready_entered : map bare new.rows.items ≡ map bare c.rows.items → IsReady c → StaysReady c new
  ready_entered e ready =
      let rows = c.rows.items in
      let ns = same_names rows new.rows.items e in
      record {
        ready = record {
          three = subst (λ z. 3 ≤ z.counter) (sym only) ready.three;
          rising = ap are_rising ns ∙ ready.rising;
          files = ap (λ z. are_rising (file_names z.files.items)) only ∙ ready.files;
          builds = ap (λ z. none_before is_open z.first_build new.rows.items) only
              ∙ same_open rows new.rows.items e c.first_build ∙ ready.builds;
          checks = ap (λ z. none_before is_unchecked z.first_check new.rows.items) only
              ∙ same_unchecked rows new.rows.items e c.first_check ∙ ready.checks;
          graded = same_graded rows new.rows.items e ∙ ready.graded;
          chain = ap (λ z. is_chain z.chain) only ∙ ready.chain;
          known = (λ i. are_known (ns i) (only i).chain) ∙ ready.known;
        };
        limits = ap (λ z. z.limits) only;
        dirs = ap (λ z. z.dirs) only;
        files = ap (λ z. z.files.items) only;
        objects = ns;
        low = λ h. subst (λ z. z.counter ≤ END_OF_NUMBERS) (sym only) h;
      }

  pub top_entered : map bare new.rows.items ≡ map bare c.rows.items → (at : ℕ) → IsBuildTop c at
      → IsBuildTop new at
  top_entered e at top =
      let P : Core T → Type 0 = λ z. IsBuildTop z at in
      let there : IsBuildTop (record c { rows = new.rows }) at =
      record {
        top = top.top;
        place =
            same_place c.rows.items new.rows.items e (top_name c.chain) ∙ top.place;
        within =
            subst (λ n. at < n) (sym (same_length c.rows.items new.rows.items e)) top.within;
      } in
      subst P (sym only) there

  pub check_top_entered : map bare new.rows.items ≡ map bare c.rows.items → (at : ℕ)
      → IsCheckTop c at → IsCheckTop new at
  check_top_entered e at top =
      let P : Core T → Type 0 = λ z. IsCheckTop z at in
      let there : IsCheckTop (record c { rows = new.rows }) at =
      record {
        top = top.top;
        place =
            same_place c.rows.items new.rows.items e (top_name c.chain) ∙ top.place;
        within =
            subst (λ n. at < n) (sym (same_length c.rows.items new.rows.items e)) top.within;
      } in
      subst P (sym only) there

  module _ (items : List (Key × ℕ)) (is : IsEntered (wanted (names c.rows.items) items) c.rows.items
      new.rows.items) where
    -- the state has noted the items
    state_entered : core_state new ≡ noting (runner_of {T = T} no_build) keeping (core_picture c)
        (core_state c) items
    state_entered i = record {
      counter = (only i).counter;
      number = file_number (only i).files.items;
      last = same_column c.rows.items new.rows.items is.bare last_of None (λ r. refl) i;
      table = λ k. (is.table k ∙ all_noted T (names c.rows.items) items (table_in c.rows.items) k)
          i;
      reads = same_column c.rows.items new.rows.items is.bare reads_of None (λ r. refl) i;
      checked = same_column c.rows.items new.rows.items is.bare checked_of None (λ r. refl) i;
      open_build = same_column c.rows.items new.rows.items is.bare (λ r. r.open_build) true
          (λ r. refl) i;
      open_check = same_column c.rows.items new.rows.items is.bare (λ r. r.open_check) true
          (λ r. refl) i;
      held = same_column c.rows.items new.rows.items is.bare held_of None (λ r. refl) i;
      chain = chain_of (only i).chain;
      checking = checking_of (only i).chain;
      runs = same_column c.rows.items new.rows.items is.bare (λ r. r.run) false (λ r. refl) i;
      why = same_column c.rows.items new.rows.items is.bare why_of NotRun (λ r. refl) i;
      touched = same_column c.rows.items new.rows.items is.bare (λ r. r.touched) true (λ r. refl) i;
    }

    picture_entered : core_picture new ≡ core_picture c
    picture_entered i = picture_of (only i).files.items
        (same_names c.rows.items new.rows.items is.bare i)

    cause_bare : (differs : Option ℕ) (r : Row T) → why_by (cause_for differs (bare r))
        ≡ why_by (cause_for differs r)
    cause_bare None r = refl
    cause_bare (Some n) r = refl

    pub cause_entered : (differs : Option ℕ) → top_cause differs new ≡ top_cause differs c
    cause_entered differs =
        ap (λ f. f (top_name new.chain)) (same_column c.rows.items new.rows.items is.bare
        (λ r. why_by (cause_for differs r)) NoRecord (cause_bare differs))
        ∙ ap (λ z. of_row (λ r. why_by (cause_for differs r)) NoRecord
        (row_in (top_name z.chain) c.rows.items)) only

    -- the part settles by the machine
    pub settled_entered : (y : Why Key) (r : End T) → moved_turn new y items r
        ≡ settled_turn c y items r
    settled_entered y r i =
        let w = picture_entered i in
        let s = state_entered i in
        let o = top_name (only i).chain in
        settled_at (runner_of no_build) keeping w (dropped (runner_of no_build) keeping w s o y) o
        (chain_of (below (only i).chain)) items r
        (number_by (runner_of {T = T} no_build) keeping (grade (keep r)) s.counter (keep r)
        (s.last o))

    pub check_cause_entered : (differs : Option ℕ) → top_check_cause differs new
        ≡ top_check_cause differs c
    check_cause_entered differs =
        ap (λ f. f (top_name new.chain)) (same_column c.rows.items new.rows.items is.bare
        (λ r. why_by (check_cause differs r.check)) NoRecord (λ r. refl))
        ∙ ap (λ z. of_row (λ r. why_by (check_cause differs r.check)) NoRecord
        (row_in (top_name z.chain) c.rows.items)) only

    pub judged_entered : (y : Why Key) (f : Verdict) → judged_run_turn new y items f
        ≡ ended_turn c y (Finished items f)
    judged_entered y f i =
        let w = picture_entered i in
        let s = record (state_entered i) { checking = None } in
        let o = top_name (only i).chain in
        judged_at (runner_of no_build) keeping no_judge w
        (entered (runner_of no_build) keeping no_judge w s o y) o items f

-- nothing is noted of no items
pub nothing_noted : {T : Type 0} → (w : Picture Key Content) (s : EngineState T)
    → noting (runner_of {T = T} no_build) keeping w s [] ≡ s
nothing_noted w s i = record s { table = λ k. at (s.table k) (w.target k) i }
  where
    at : (a : Option ℕ) (x : Option Name) → or_else a (if_some x None) ≡ a
    at None None = refl
    at None (Some p) = refl
    at (Some n) x = refl

-- the part of a fault is judged by no items
pub nothing_judged : {T : Type 0} → (w : Picture Key Content) (s : EngineState T) (o : Name)
    (f : Verdict) → judged_at (runner_of {T = T} no_build) keeping no_judge w s o [] f
    ≡ judged_at (runner_of {T = T} no_build) keeping no_judge w
    (noting (runner_of {T = T} no_build) keeping w s []) o [] f
nothing_judged w s o f =
    ap (λ z. judged_at (runner_of no_build) keeping no_judge w z o [] f) (sym (nothing_noted w s))
