-- An engine that forgets which names were run.
use Rattle.std.proofs.Common.{◌≡◌, ℕ, zero, suc, ◌≤◌, not, List, [], ◌∷◌, Bool, true, false, ◌&&◌, cond, Option, Some, None, option_map, map, length, refl, sym, ap, ◌∙◌, subst}
use Rattle.std.proofs.Math.Logic.{∥∥₁_map}
use Rattle.pan_ast.specs.declared.work.Limits.{Limits}
use Rattle.questions.specs.declared.key.Key.{Key}
use Rattle.questions.specs.declared.key.Key.TheVariants.{File, Under}
use Rattle.runner.specs.Meaning.{IsLawful}
use Rattle.engine_laws.specs.Names.{Name, equal}
use Rattle.engine_laws.specs.Engine.{NotRun, Forget}
use Rattle.engine_laws.specs.Reached.{IsReached}
use Rattle.engine_laws.proofs.Reached.{leads_on}
use Rattle.engine_machine.specs.Machine.{runner_of, keeping, judge_of}
use Rattle.engine_turns.specs.declared.core_data.Core.{Core}
use Rattle.engine_turns.specs.declared.rows.Row.{Row}
use Rattle.engine_turns.specs.Changes.{forgotten_row}
use Rattle.engine_turns.specs.Places.{row_in, of_row, column, names, file_names}
use Rattle.engine_turns.specs.States.{file_number, own_of, table_in, picture_of, last_of, reads_of, checked_of, why_of, held_of, chain_of, checking_of, is_graded, are_graded}
use Rattle.object_names.specs.Objects.{are_rising}
use Rattle.engine_turns.specs.Ready.{is_chain, are_known, none_before, is_open, is_unchecked, IsReady}
use Rattle.rebuild.specs.Engines.{EngineSituation, Meanings, situation_of, value_of, turns_left_of, is_ready, IsEngine, after_forget, IsForgetAllowed}
use Rattle.rebuild.proofs.Engines.{is_ready_of}
use Rattle.rebuild.proofs.Fewer.{counts}

row_forgotten : {T : Type 0} → (p : Name) (rows : List (Row T)) → row_in p (map forgotten_row rows)
    ≡ option_map forgotten_row (row_in p rows)
row_forgotten p [] = refl
row_forgotten {T} p (r ∷ rows) =
    ap (cond (equal r.name p) (Some (forgotten_row r))) (row_forgotten p rows) ∙ at (equal r.name p)
  where
    at : (b : Bool) → cond b (Some (forgotten_row r)) (option_map forgotten_row (row_in p rows))
        ≡ option_map forgotten_row (cond b (Some r) (row_in p rows))
    at true = refl
    at false = refl

-- a column that forgetting leaves
column_left : {T A : Type 0} → (get : Row T → A) (d : A)
    → ((r : Row T) → get (forgotten_row r) ≡ get r) → (rows : List (Row T))
    → column get d (map forgotten_row rows) ≡ column get d rows
column_left {T} get d same rows i p =
    (ap (of_row get d) (row_forgotten p rows) ∙ at (row_in p rows)) i
  where
    at : (x : Option (Row T)) → of_row get d (option_map forgotten_row x) ≡ of_row get d x
    at None = refl
    at (Some r) = same r

-- so does it the tables
table_left : {T : Type 0} → (rows : List (Row T)) → table_in (map forgotten_row rows)
    ≡ table_in rows
table_left {T} rows i k = at k i
  where
    at : (k : Key) → table_in (map forgotten_row rows) k ≡ table_in rows k
    at (File f) = refl
    at (Under p terms) = ap (λ f. f p) (column_left (own_of terms) None (λ r. refl) rows)

none_run : {T : Type 0} → (rows : List (Row T)) → column (λ r. r.run) false (map forgotten_row rows)
    ≡ (λ p. false)
none_run {T} rows i p = (ap (of_row (λ r. r.run) false) (row_forgotten p rows) ∙ at (row_in p rows))
    i
  where
    at : (x : Option (Row T)) → of_row (λ r. r.run) false (option_map forgotten_row x) ≡ false
    at None = refl
    at (Some r) = refl

pub names_left : {T : Type 0} → (rows : List (Row T)) → names (map forgotten_row rows) ≡ names rows
names_left [] = refl
names_left (r ∷ rows) = ap (λ ns. r.name ∷ ns) (names_left rows)

pub graded_left : {T : Type 0} → (rows : List (Row T)) → are_graded (map forgotten_row rows)
    ≡ are_graded rows
graded_left [] = refl
graded_left (r ∷ rows) = ap (λ b. is_graded r.last && b) (graded_left rows)

pub length_left : {T : Type 0} → (rows : List (Row T)) → length (map forgotten_row rows)
    ≡ length rows
length_left [] = refl
length_left (r ∷ rows) = ap suc (length_left rows)

none_left : {T : Type 0} → (test : Row T → Bool) → ((r : Row T) → test (forgotten_row r) ≡ test r)
    → (n : ℕ) (rows : List (Row T)) → none_before test n (map forgotten_row rows)
    ≡ none_before test n rows
none_left test same zero rows = refl
none_left test same (suc n) [] = refl
none_left test same (suc n) (r ∷ rows) =
    (λ i. not (same r i) && none_before test n (map forgotten_row rows))
    ∙ ap (λ b. not (test r) && b) (none_left test same n rows)

-- the data with the rows forgotten
pub record IsForgotten {T : Type 0} (c n : Core T) : Type 0 where
  pub limits : n.limits ≡ c.limits
  pub dirs : n.dirs ≡ c.dirs
  pub counter : n.counter ≡ c.counter
  pub files : n.files ≡ c.files
  pub chain : n.chain ≡ c.chain
  pub rows : n.rows.items ≡ map forgotten_row c.rows.items
  pub builds : n.first_build ≡ c.first_build
  pub checks : n.first_check ≡ c.first_check

module _ {T : Type 0} (m : Meanings T) (lawful : (dirs : List (List ℕ)) (limits : Limits) → IsLawful
    (m dirs limits)) (c n : Core T) (ready : IsReady c) (f : IsForgotten c n) where
  pub same_names : names n.rows.items ≡ names c.rows.items
  same_names = ap names f.rows ∙ names_left c.rows.items

  pub forgets : situation_of n ≡ after_forget m (value_of c)
  forgets i = record {
    picture = (ap (λ v. picture_of v.items (names n.rows.items)) f.files
        ∙ ap (picture_of c.files.items) same_names) i;
    state = record {
      counter = f.counter i;
      number = ap (λ v. file_number v.items) f.files i;
      last = (ap (column last_of None) f.rows ∙ column_left last_of None (λ r. refl) c.rows.items)
          i;
      table = (ap table_in f.rows ∙ table_left c.rows.items) i;
      reads = (ap (column reads_of None) f.rows ∙ column_left reads_of None (λ r. refl)
          c.rows.items) i;
      checked = (ap (column checked_of None) f.rows
          ∙ column_left checked_of None (λ r. refl) c.rows.items) i;
      open_build = (ap (column (λ r. r.open_build) true) f.rows
          ∙ column_left (λ r. r.open_build) true (λ r. refl) c.rows.items) i;
      open_check = (ap (column (λ r. r.open_check) true) f.rows
          ∙ column_left (λ r. r.open_check) true (λ r. refl) c.rows.items) i;
      held = (ap (column held_of None) f.rows ∙ column_left held_of None (λ r. refl) c.rows.items)
          i;
      chain = ap chain_of f.chain i;
      checking = ap checking_of f.chain i;
      runs = (ap (column (λ r. r.run) false) f.rows ∙ none_run c.rows.items) i;
      why = (ap (column why_of NotRun) f.rows ∙ column_left why_of NotRun (λ r. refl) c.rows.items)
          i;
      touched = (ap (column (λ r. r.touched) true) f.rows
          ∙ column_left (λ r. r.touched) true (λ r. refl) c.rows.items) i;
    };
  }

  pub still_ready : is_ready n ≡ true
  still_ready = is_ready_of n (record {
    three = subst (λ k. 3 ≤ k) (sym f.counter) ready.three;
    rising = ap are_rising same_names ∙ ready.rising;
    files = ap (λ v. are_rising (file_names v.items)) f.files ∙ ready.files;
    builds = (λ i. none_before is_open (f.builds i) (f.rows i))
        ∙ none_left is_open (λ r. refl) c.first_build c.rows.items ∙ ready.builds;
    checks = (λ i. none_before is_unchecked (f.checks i) (f.rows i))
        ∙ none_left is_unchecked (λ r. refl) c.first_check c.rows.items ∙ ready.checks;
    graded = ap are_graded f.rows ∙ graded_left c.rows.items ∙ ready.graded;
    chain = ap is_chain f.chain ∙ ready.chain;
    known = (λ i. are_known (same_names i) (f.chain i)) ∙ ready.known;
  })

  pub still_few : length n.rows.items ≡ length c.rows.items
  still_few = ap length f.rows ∙ length_left c.rows.items

  forgets_on : turns_left_of c ≡ 0 → IsEngine m (value_of c) → IsEngine m (value_of n)
  forgets_on none e =
      let settled = (counts m lawful c ready e).settled none in
      let next = leads_on (runner_of (m c.dirs c.limits).build) keeping
      (judge_of (m c.dirs c.limits).check) (situation_of c) e Forget (λ o i. (settled o i).0) in
      let P : Limits → List (List ℕ) → EngineSituation T → Type 0 =
      λ l d x. IsReached (runner_of (m d l).build) keeping (judge_of (m d l).check) x in
      subst (λ l. P l n.dirs (situation_of n)) (sym f.limits)
      (subst (λ d. P c.limits d (situation_of n)) (sym f.dirs)
      (subst (P c.limits c.dirs) (sym forgets) next))

  pub still_engine : turns_left_of c ≡ 0 → ∥ IsEngine m (value_of c) ∥₁
      → ∥ IsEngine m (value_of n) ∥₁
  still_engine none kept = ∥∥₁_map kept (forgets_on none)

  -- forgetting is an event that the machine's laws speak of
  pub forget_allowed : turns_left_of c ≡ 0 → ∥ IsEngine m (value_of c) ∥₁
      → ∥ IsForgetAllowed m (value_of c) ∥₁
  forget_allowed none kept =
      ∥∥₁_map kept (λ (e : IsEngine m (value_of c)). λ o i.
      ((counts m lawful c ready e).settled none o i).0)
