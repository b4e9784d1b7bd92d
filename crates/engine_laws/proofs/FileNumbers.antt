-- A turn leaves the numbers of files.
use Rattle.std.proofs.Common.{◌≡◌, ℕ, List, [], ◌∷◌, Option, Some, None, refl}
use Rattle.asking.specs.Asked.{Ran, Finished, Stops, Lost, ran}
use Rattle.engine_laws.specs.Engine.{Why, NoRecord, Changed, why_unread, Grade, Circle, Failure, Whole, Keeping, Judge, State, Compared, AllEqual, Differs, Waits, compared, tells, dropped, after_run, run_turn, after_compare, with_record, least, after_check, check_end, after_rerun, check_held, entered, after_check_compare, with_check, check_grade, check_last, check_opened, open_turn, turn_chain, turn_at, turn}
use Rattle.engine_laws.specs.Names.{Name}
use Rattle.engine_laws.specs.Runner.{Runner, Picture}

module _ {K C R S F : Type 0} (run : Runner K C R) (kp : Keeping K C R S) (jd : Judge K C R F)
    (w : Picture K C) (s : State K R S F) where
  -- the same numbers of files
  abbrev Numbered : State K R S F → Type 0
  Numbered t = t.number ≡ s.number

  at_run : (o : Name) (rest : List Name) (y : Why K) → Numbered (run_turn run kp w s o rest y)
  at_run o rest y = at (ran (run.build o) (tells run kp w s) run.limit [])
    where
      at : (x : Ran K R) → Numbered (after_run run kp w (dropped run kp w s o y) o rest x)
      at (Finished items r) = refl
      at (Stops p) = refl
      at Lost = refl

  at_compared : (o : Name) (rest : List Name) (x : Compared K)
      → Numbered (after_compare run kp w s o rest x)
  at_compared o rest AllEqual = refl
  at_compared o rest (Differs k) = at_run o rest (Changed k)
  at_compared o rest (Waits p) = refl

  at_record : (o : Name) (rest : List Name) (x : Option (List (K × ℕ)))
      → Numbered (with_record run kp w s o rest x)
  at_record o rest None = at_run o rest (why_unread (s.why o))
  at_record o rest (Some items) = at_compared o rest (compared (tells run kp w s) items)

  at_opened : (x : Option Name) → Numbered (check_opened run kp jd w s x)
  at_opened None = refl
  at_opened (Some o) = refl

  at_least : (x : Option Name) → Numbered (open_turn run kp jd w s x)
  at_least None = at_opened (least s.open_check w.objects)
  at_least (Some o) = refl

  at_chain : (c : List Name) → Numbered (turn_chain run kp jd w s c)
  at_chain [] = at_least (least s.open_build w.objects)
  at_chain (o ∷ rest) = at_record o rest (s.reads o)

  at_ran : (o : Name) (y : Why K) (x : Ran K F)
      → Numbered (after_check run kp jd w (entered run kp jd w (record s { checking = None }) o y) o
      x)
  at_ran o y (Finished items f) = refl
  at_ran o y (Stops p) = refl
  at_ran o y Lost = refl

  at_end : (o : Name) (y : Why K) (v : R) (g : Grade)
      → Numbered (check_end run kp jd w (entered run kp jd w (record s { checking = None }) o y) o v
      g)
  at_end o y v Whole = at_ran o y (ran (jd.check v) (tells run kp w s) run.limit [])
  at_end o y v Circle = refl
  at_end o y v Failure = refl

  at_rerun : (o : Name) (y : Why K) (x : Ran K R)
      → Numbered (after_rerun run kp jd w (entered run kp jd w (record s { checking = None }) o y) o
      x)
  at_rerun o y (Finished items v) = at_end o y v (kp.grade (kp.keep v))
  at_rerun o y (Stops p) = refl
  at_rerun o y Lost = refl

  at_held : (o : Name) (y : Why K) (x : Option R)
      → Numbered (check_held run kp jd w (entered run kp jd w (record s { checking = None }) o y) o
      x)
  at_held o y (Some v) = at_ran o y (ran (jd.check v) (tells run kp w s) run.limit [])
  at_held o y None = at_rerun o y (ran (run.build o) (tells run kp w s) run.limit [])

  at_check_compared : (o : Name) (x : Compared K)
      → Numbered (after_check_compare run kp jd w (record s { checking = None }) o x)
  at_check_compared o AllEqual = refl
  at_check_compared o (Differs k) = at_held o (Changed k) (s.held o)
  at_check_compared o (Waits p) = refl

  at_checked : (o : Name) (x : Option (List (K × ℕ) × F))
      → Numbered (with_check run kp jd w (record s { checking = None }) o x)
  at_checked o None = at_held o NoRecord (s.held o)
  at_checked o (Some q) = at_check_compared o (compared (tells run kp w s) q.0)

  at_grade : (o : Name) (g : Grade)
      → Numbered (check_grade run kp jd w (record s { checking = None }) o g)
  at_grade o Whole = at_checked o (s.checked o)
  at_grade o Circle = refl
  at_grade o Failure = refl

  at_last : (o : Name) (x : Option (ℕ × S)) → Numbered
      (check_last run kp jd w (record s { checking = None }) o x)
  at_last o None = refl
  at_last o (Some q) = at_grade o (kp.grade q.1)

  at_checking : (x : Option Name) → Numbered (turn_at run kp jd w s x)
  at_checking None = at_chain s.chain
  at_checking (Some o) = at_last o (s.last o)

  pub same_numbers : (turn run kp jd w s).number ≡ s.number
  same_numbers = at_checking s.checking
