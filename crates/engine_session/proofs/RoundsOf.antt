-- The rounds of a session are rounds of the machine.
use Rattle.std.proofs.Common.{◌≡◌, ◌+◌, ◌≤◌, ◌<◌, ◌⊎◌, ◌==◌, if◌then◌else◌, ℕ, zero, suc, List, [], ◌∷◌, Bool, true, false, cond, bytes_eq, refl, sym, ap, ◌∙◌, subst, inl, inr, ⊎_elim, arith}
use Rattle.std.proofs.lemmas.Bool.Decides.{nat_tests}
use Rattle.asking.specs.declared.limits.TheConstants.{MAX_WORK}
use Rattle.load_path.specs.declared.picture.PictureFile.{PictureFile}
use Rattle.questions.specs.declared.key.Key.{Key}
use Rattle.questions.specs.declared.key.Key.TheVariants.{File, Under}
use Rattle.runner.specs.Meaning.{Meaning, IsLawful}
use Rattle.object_names.proofs.Places.{bytes_same}
use Rattle.engine_laws.specs.Names.{Name}
use Rattle.engine_laws.specs.Runner.{IsIn}
use Rattle.engine_laws.specs.Engine.{AreNumbered, Turn, Forget, IsAllowed, AreAllowed, happens}
use Rattle.engine_laws.specs.Reached.{IsReached}
use Rattle.engine_laws.specs.Rounds.{turns, IsRound}
use Rattle.engine_laws.specs.Rows.{IsOnce, EndsSoon}
use Rattle.engine_laws.specs.Steps.{AreCostsOf, events_steps, events_bound}
use Rattle.engine_laws.proofs.Bounds.{bounded}
use Rattle.engine_laws.proofs.FileNumbers.{same_numbers}
use Rattle.engine_laws.proofs.Idle.{counted}
use Rattle.engine_laws.proofs.Reached.{leads_on, reached_holds}
use Rattle.engine_laws.proofs.Rounding.{changed}
use Rattle.engine_machine.specs.Machine.{runner_of, keeping, judge_of, costs_of}
use Rattle.engine_machine.specs.Pictures.{picture_in}
use Rattle.engine_machine.proofs.Costs.{are_costs, ends_soon}
use Rattle.engine_machine.proofs.RunnerLaws.{laws_of, keep_laws_of}
use Rattle.engine_turns.specs.declared.rows.FileRow.{FileRow}
use Rattle.engine_turns.specs.Places.{file_number_in}
use Rattle.engine_turns.specs.States.{picture_of, pictured, file_number}
use Rattle.engine_turns.proofs.Once.{rising_once}
use Rattle.rebuild.specs.Taking.{old_or_none, number_or, counter_or, numbered, counter_after}
use Rattle.rebuild.specs.Engines.{EngineSituation, take_of}
use Rattle.rebuild.proofs.EngineTakes.{pictured_numbered}
use Rattle.rebuild.proofs.Fewer.{once_is}
use Rattle.rebuild.proofs.New.{new_reached}
use Rattle.rebuild.proofs.Takings.{are_numbered}
use Rattle.engine_session.specs.Compiler.{Compiled, nothing, rows_by, rows_of, compiler, taken, turned, forgotten, work_of}
use Rattle.engine_session.specs.Names.{objects_in}
use Rattle.engine_session.specs.Rounds.{Comes, at_first, at_rows, with_picture, with_turn, with_report, with_turns, turns_steps, turn_events, IsRoundOf, Round, reported, behind, rounds_steps, rounds_bound, HasRounds}
use Rattle.engine_session.proofs.Lists.{are_objects}

-- the files are those with their numbers
same_files : (files : List PictureFile) (number : Key → ℕ) → pictured (rows_by files number) ≡ files
same_files [] number = refl
same_files (f ∷ fs) number = ap (λ gs. f ∷ gs) (same_files fs number)

-- the number of a file in rows, or of one that is not there
number_there : (files : List PictureFile) (number : Key → ℕ) (f : List ℕ)
    → (file_number_in (rows_by files number) f ≡ number (File f))
    ⊎ ((file_number_in (rows_by files number) f ≡ 0)
    × ((old : List FileRow) (counter : ℕ) → file_number_in (numbered old counter files) f ≡ 0))
number_there [] number f = inr (refl, λ old counter. refl)
number_there (g ∷ files) number f = at (bytes_eq g.name f) refl (number_there files number f)
  where
    at : (b : Bool) → bytes_eq g.name f ≡ b → (file_number_in (rows_by files number) f
        ≡ number (File f)) ⊎ ((file_number_in (rows_by files number) f ≡ 0)
        × ((old : List FileRow) (counter : ℕ) → file_number_in (numbered old counter files) f ≡ 0))
        → (cond b (number (File g.name)) (file_number_in (rows_by files number) f)
        ≡ number (File f)) ⊎ ((cond b (number (File g.name))
        (file_number_in (rows_by files number) f) ≡ 0)
        × ((old : List FileRow) (counter : ℕ) → cond b
        (number_or counter (old_or_none old g.name g.content))
        (file_number_in (numbered old (counter_or counter (old_or_none old g.name g.content)) files)
        f) ≡ 0))
    at true is later = inl (ap (λ n. number (File n)) (bytes_same g.name f is))
    at false is (inl e) = inl e
    at false is (inr none) =
        inr (
          none.0,
          λ old counter. none.1 old (counter_or counter
              (old_or_none old g.name g.content)),
        )

-- rows with the numbers of a take have those numbers
same_rows : (old : List FileRow) (counter : ℕ) (files : List PictureFile) (k : Key)
    → file_number (rows_by files (file_number (numbered old counter files))) k
    ≡ file_number (numbered old counter files) k
same_rows old counter files (File f) =
    ⊎_elim
    (λ e. e)
    (λ (none : (file_number_in (rows_by files (file_number (numbered old counter files))) f ≡ 0)
    × ((o : List FileRow) (c : ℕ) → file_number_in (numbered o c files) f ≡ 0)). none.0
    ∙ sym (none.1 old counter))
    (number_there files (file_number (numbered old counter files)) f)
same_rows old counter files (Under p terms) = refl

module _ {T : Type 0} (m : Meaning T) (lawful : IsLawful m) (dirs : List (List ℕ)) where
  -- events lead to the engine, and its files have its numbers
  record Stands (e : Compiled T) : Type 0 where
    reached : IsReached (runner_of m.build) keeping (judge_of m.check) e.situation
    objects : List Name
    once : IsOnce objects
    picture : e.situation.picture ≡ picture_in e.files objects
    numbers : (k : Key) → file_number (rows_of e) k ≡ e.situation.state.number k

  once_objects : (files : List PictureFile) → IsOnce (objects_in files dirs)
  once_objects files = once_is (objects_in files dirs)
      (rising_once (objects_in files dirs) (are_objects files dirs).rising)

  -- a take is allowed
  allowed : (picture : List PictureFile) (e : Compiled T) → Stands e
      → IsAllowed (runner_of m.build) keeping (judge_of m.check) e.situation
      (take_of (rows_of e) e.situation.state.counter picture (objects_in picture dirs))
  allowed picture e s =
      let h = reached_holds (runner_of m.build) keeping (judge_of m.check) e.situation s.reached in
      let old = rows_of e in
      let counter = e.situation.state.counter in
      let objects = objects_in picture dirs in
      let low : (f : List ℕ) → file_number_in old f < counter =
      λ f. subst (λ n. n < counter) (sym (s.numbers (File f))) (h.inv.facts.number_low (File f))
      in
      let given = are_numbered {T = T} old s.objects objects counter picture h.inv.facts.three low
      in
      let now = subst (λ fs. AreNumbered (keeping {T = T}) (picture_of old s.objects)
      (picture_in fs objects) (file_number old) (file_number (numbered old counter picture))
      counter (counter_after old counter picture)) (pictured_numbered old counter picture) given
      in
      let before : picture_of old s.objects ≡ e.situation.picture =
      ap (λ fs. picture_in fs s.objects) (same_files e.files e.situation.state.number)
      ∙ sym s.picture in
      let from = subst (λ w. AreNumbered (keeping {T = T}) w (picture_in picture objects)
      (file_number old) (file_number (numbered old counter picture)) counter
      (counter_after old counter picture)) before now in
      let number : file_number old ≡ e.situation.state.number = λ i k. s.numbers k i in
      let all = subst (λ n. AreNumbered (keeping {T = T}) e.situation.picture
      (picture_in picture objects) n (file_number (numbered old counter picture)) counter
      (counter_after old counter picture)) number from in
      (laws_of m lawful picture objects, keep_laws_of m.build picture objects, all)

  stands : (e : Compiled T) → Comes m dirs e → Stands e
  stands e at_first = record {
    reached = new_reached m.build m.check (laws_of m lawful [] []) nothing.situation refl;
    objects = [];
    once = tt;
    picture = refl;
    numbers = nothing_numbered;
  }
    where
      nothing_numbered : (k : Key) → file_number (rows_of (nothing {T = T})) k
          ≡ (nothing {T = T}).situation.state.number k
      nothing_numbered (File f) = refl
      nothing_numbered (Under p terms) = refl
  stands e (at_rows _ rows) = record {
    reached = record {
      begin = e.situation;
      sound = inr rows.rows;
      events = [];
      allowed =
          tt;
      leads = refl;
    };
    objects = rows.objects;
    once = rows.once;
    picture = rows.picture;
    numbers = rows.numbers;
  }
  stands e (with_picture picture before comes) =
      let s = stands before comes in
      record {
        reached = leads_on (runner_of m.build) keeping (judge_of m.check) before.situation s.reached
            (take_of (rows_of before) before.situation.state.counter picture
            (objects_in picture dirs)) (allowed picture before s);
        objects = objects_in picture dirs;
        once = once_objects picture;
        picture = refl;
        numbers = same_rows (rows_of before) before.situation.state.counter picture;
      }
  stands e (with_turn before comes) =
      let s = stands before comes in
      let same = same_numbers (runner_of m.build) keeping (judge_of m.check)
      before.situation.picture before.situation.state in
      record {
        reached = leads_on (runner_of m.build) keeping (judge_of m.check) before.situation s.reached
            Turn tt;
        objects = s.objects;
        once = s.once;
        picture = s.picture;
        numbers = λ k. ap (λ n. file_number (rows_by before.files n) k) same ∙ s.numbers k
            ∙ sym (ap (λ n. n k) same);
      }
  stands e (with_report before comes none) =
      let s = stands before comes in
      let soon = subst (λ w. EndsSoon (runner_of m.build) (judge_of m.check) w) (sym s.picture)
      (ends_soon m lawful before.files s.objects s.once) in
      let settled = (counted (runner_of m.build) keeping (judge_of m.check) before.situation
      s.reached soon).settled none in
      record {
        reached = leads_on (runner_of m.build) keeping (judge_of m.check) before.situation s.reached
            Forget (λ o i. (settled o i).0);
        objects = s.objects;
        once = s.once;
        picture = s.picture;
        numbers = s.numbers;
      }

  -- the turns of a session are those of the machine
  same_turns : (n : ℕ) (e : Compiled T) → (with_turns m dirs n e).situation
      ≡ turns (runner_of m.build) keeping (judge_of m.check) n e.situation
  same_turns zero e = refl
  same_turns (suc n) e = same_turns n (turned m dirs e)

  same_steps : (n : ℕ) (e : Compiled T) → turns_steps m dirs n e
      ≡ events_steps (runner_of m.build) keeping (judge_of m.check) (costs_of m) e.situation
      (turn_events m dirs n)
  same_steps zero e = refl
  same_steps (suc n) e = ap (λ k. (work_of m dirs e).1 + k) (same_steps n (turned m dirs e))

  no_more : (n : ℕ) (x : EngineSituation T) → events_bound (runner_of m.build) keeping
      (judge_of m.check) (costs_of m) x (turn_events m dirs n) ≡ 0
  no_more zero x = refl
  no_more (suc n) x = no_more n (happens (runner_of m.build) keeping (judge_of m.check) x Turn)

  turns_allowed : (n : ℕ) (x : EngineSituation T)
      → AreAllowed (runner_of m.build) keeping (judge_of m.check) x (turn_events m dirs n)
  turns_allowed zero x = tt
  turns_allowed (suc n) x =
      (tt, turns_allowed n (happens (runner_of m.build) keeping (judge_of m.check) x Turn))

  turns_cost : (n : ℕ) → AreCostsOf (runner_of m.build) keeping (judge_of m.check) (costs_of m)
      MAX_WORK (turn_events m dirs n)
  turns_cost zero = tt
  turns_cost (suc n) = turns_cost n

  round_of : (picture : List PictureFile) (e : Compiled T) (n : ℕ) → Comes m dirs e
      → IsRoundOf m dirs picture e n
  round_of picture e n comes =
      let s = stands e comes in
      let old = rows_of e in
      let counter = e.situation.state.counter in
      let objects = objects_in picture dirs in
      let begun = taken m dirs picture e in
      record {
        runs = λ none settled o i.
            let is = changed (runner_of m.build) keeping (judge_of m.check) e.situation s.reached
            none (picture_in picture objects) (file_number (numbered old counter picture))
            (counter_after old counter picture) n (allowed picture e s) in
            subst (λ z. IsRound (runner_of m.build) keeping (judge_of m.check) begun.situation z o)
            (sym (same_turns n begun))
            (is (λ p j. ap (λ z. z.state.open_check p) (sym (same_turns n begun))
            ∙ settled p (subst (IsIn p) (objects_left n begun.situation) j)) o
            (subst (IsIn o) (sym (objects_left n begun.situation)) i));
        steps =
            let events = take_of old counter picture objects ∷ turn_events m dirs n in
            let most = bounded (runner_of m.build) keeping (judge_of m.check) (costs_of m)
            e.situation events MAX_WORK (inr (s.reached, tt))
            (allowed picture e s, turns_allowed n begun.situation)
            (are_costs m lawful picture objects, turns_cost n) in
            let none = no_more n begun.situation in
            let same = same_steps n begun in
            omega (arith, most, none, same);
      }
    where
      objects_left : (k : ℕ) (x : EngineSituation T)
          → (turns (runner_of m.build) keeping (judge_of m.check) k x).picture.objects
          ≡ x.picture.objects
      objects_left zero x = refl
      objects_left (suc k) x =
          objects_left k (happens (runner_of m.build) keeping (judge_of m.check) x Turn)

  -- what turns come to, a session comes to
  comes_by : (n : ℕ) (e : Compiled T) → Comes m dirs e → Comes m dirs (with_turns m dirs n e)
  comes_by zero e comes = comes
  comes_by (suc n) e comes = comes_by n (turned m dirs e) (with_turn e comes)

  comes_reported : (e : Compiled T) → Comes m dirs e → Comes m dirs (reported m dirs e)
  comes_reported e comes = at ((compiler m dirs).turns_left e == 0) refl
    where
      at : (b : Bool) → ((compiler m dirs).turns_left e == 0) ≡ b
          → Comes m dirs (if b then forgotten m dirs e else e)
      at true is = with_report e comes (grind (arith, nat_tests, is))
      at false is = comes

  costs_sum : (rounds : List Round) (e : Compiled T) → Comes m dirs e
      → rounds_steps m dirs rounds e ≤ rounds_bound m dirs rounds e
  costs_sum [] e comes = omega arith
  costs_sum (r ∷ rs) e comes =
      let begun = taken m dirs r.picture e in
      let here = (round_of r.picture e r.turns comes).steps in
      let rest = costs_sum rs (behind m dirs r e) (comes_reported (with_turns m dirs r.turns begun)
      (comes_by r.turns begun (with_picture r.picture e comes))) in
      omega (arith, here, rest)

pub has_rounds : {T : Type 0} → (m : Meaning T) → IsLawful m → (dirs : List (List ℕ))
    → HasRounds m dirs
has_rounds m lawful dirs = record {
  each = round_of m lawful dirs;
  sum = costs_sum m lawful dirs;
}
