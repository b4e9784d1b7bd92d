-- Scans, and what an engine makes of the picture.
use Rattle.std.proofs.Common.{◌≡◌, ◌≤◌, ◌+◌, ℕ, List, true, length, Option, Some, None, Result, Ok, Err, IfOk, OnErr, inl, inr, refl, sym, ap, ◌∙◌, subst, arith}
use Rattle.std.specs.Prelude.{option_map}
use Rattle.load_path.specs.declared.picture.PictureFile.{PictureFile}
use Rattle.outside.specs.Causes.{Rose}
use Rattle.outside.specs.Pictures.{next_picture, later_pictures}
use Rattle.outside.specs.declared.source.MemFile.{MemFile}
use Rattle.pan_ast.specs.declared.work.Limits.{Limits}
use Rattle.engine_turns.specs.declared.core_data.Core.{Core}
use Rattle.scans.specs.Outcomes.{Coming, IsScan, IsPassed, IsPerhapsPassed}
use Rattle.scans.specs.Scans.{scanned_of}
use Rattle.session.specs.Machines.{Machine, Refusal, TooManyObjects, NumbersSpent}
use Rattle.session.specs.Sessions.{Next, NotBegun, BrokeOff, Done, state_in, passed, with_taken, with_picture, scanned}
use Rattle.engine_session.specs.Compiler.{Compiled}
use Rattle.engine_session.specs.Standing.{Here, Counts, HasSpentAtMost, IsAt, IsBelow, IsRising, IsFailed, Takes, TakesNext, has_failed}
use Rattle.engine_session.specs.declared.taking.Took.{Took}
use Rattle.engine_session.specs.declared.taking.Took.TheVariants as took
use Rattle.engine_session.proofs.Counting.{at_most, at_most_on, below_same}

module _ {T : Type 0} (machine : Machine (Compiled T)) where
  taken_rises : (next : Here T → Next (Compiled T)) → IsRising next
      → (r : Result (Compiled T) Refusal) (w : Here T)
      → IsBelow w (state_in (with_taken machine r w next))
  taken_rises next rising (Ok e) w = let h = rising (record w { engine = e; has_taken = true }) in
      record { in_runs = h.in_runs; in_steps = h.in_steps }
  taken_rises next rising (Err TooManyObjects) w = below_same w
  taken_rises next rising (Err NumbersSpent) w = below_same w

  picture_rises : (next : Here T → Next (Compiled T)) → IsRising next
      → (p : Option (List PictureFile)) (s : Here T)
      → IsBelow s (state_in (with_picture machine p s next))
  picture_rises next rising None s = below_same s
  picture_rises next rising (Some picture) s = let h =
      taken_rises next rising (machine.take picture s.engine)
      (record s { steps = s.steps + length picture }) in
      record { in_runs = h.in_runs; in_steps = let e = h.in_steps in omega (arith, e) }

  pub scan_rises : (next : Here T → Next (Compiled T)) → IsRising next
      → IsRising (λ s. scanned machine Done s next)
  scan_rises next rising s = let h =
      picture_rises next rising (scanned_of (next_picture s.coming)) (passed machine s) in
      record { in_runs = h.in_runs; in_steps = h.in_steps }

  no_fault : has_failed Done ≡ true → ⊥
  no_fault e = cc

  told_picture : (coming : Coming) (ps : List (List MemFile)) (got : Option (List PictureFile))
      → coming ≡ Some ps → IsScan coming got → scanned_of (next_picture ps) ≡ got
  told_picture coming ps got told scan = let P : Coming → Type 0 = λ c. IsScan c got in
      sym (subst P told scan)

  told_later : (coming coming' : Coming) (ps : List (List MemFile)) → coming ≡ Some ps
      → IsPassed coming coming' → coming' ≡ Some (later_pictures ps)
  told_later coming coming' ps told passes = passes ∙ ap (option_map later_pictures) told

  module _ (dirs : List (List ℕ)) (limits : Limits) (s : Here T) (old new : Core T)
      (start mid now : Counts) (coming coming' : Coming) (faults faults' : ℕ) where
    pub at_passed : IsAt dirs limits s old start mid
        → IsAt dirs limits (passed machine s) old start mid
    at_passed at = record {
      engine = at.engine;
      spent =
          record { in_runs = at.spent.in_runs; in_steps = at.spent.in_steps };
    }

    module _ (picture : List PictureFile) (told : coming ≡ Some s.coming)
        (scan : IsScan coming (Some picture)) (passes : IsPassed coming coming') where
      scan_is : (next : Here T → Next (Compiled T)) → scanned machine Done s next
          ≡ with_picture machine (Some picture) (passed machine s) next
      scan_is next = ap (λ p. with_picture machine p (passed machine s) next)
          (told_picture coming s.coming (Some picture) told scan)

      -- a picture that was scanned and handed to the engine
      pub next_taken : (how : Took) → (how ≡ took.Failed → ⊥) → faults' ≡ faults
          → Takes machine dirs limits picture (passed machine s) how new start now
          → TakesNext machine dirs limits s how new start now coming' faults faults'
      next_taken how not_failed same t = record {
        scan = Done;
        failed = done_of how not_failed;
        rose = λ e. absurd (no_fault e);
        most = omega (arith, same);
        state = t.state;
        leads = λ next. scan_is next ∙ t.leads next;
        pictures = told_later coming coming' s.coming told passes ∙ ap Some (sym t.moved.coming);
        taken = t.taken;
        kept = t.moved.kept;
        shelf = t.moved.shelf;
        may_stand = t.moved.may_stand;
        has_faults = t.moved.has_faults;
        text = t.moved.text;
        stands = t.stands;
      }
        where
          done_of : (how : Took) → (how ≡ took.Failed → ⊥) → IsFailed how Done
          done_of took.Failed never = absurd (never refl)
          done_of took.Taken never = refl
          done_of took.SpendsNumbers never = refl
          done_of took.IsTooMuch never = refl

      -- memory was wanting for the take
      pub take_cut : IsAt dirs limits s old start mid → now.runs ≡ mid.runs
          → now.steps ≤ mid.steps + length picture → (next : Here T → Next (Compiled T))
          → IsRising next → HasSpentAtMost (state_in (scanned machine Done s next)) start now
      take_cut at runs steps next rising =
          let h = at_most s start mid at.spent in
          let stepped : HasSpentAtMost (record (passed machine s)
          { steps = s.steps + length picture }) start now = record {
            no_fewer = let a = h.no_fewer in omega (arith, a, runs);
            in_runs = let a = h.in_runs in omega (arith, a, runs);
            in_steps = let a = at.spent.in_steps in omega (arith, a, steps);
          } in
          subst (λ n. HasSpentAtMost (state_in n) start now) (sym (scan_is next))
          (at_most_on (record (passed machine s) { steps = s.steps + length picture })
          (state_in (with_picture machine (Some picture) (passed machine s) next)) start now
          (taken_rises next rising (machine.take picture s.engine)
          (record (passed machine s) { steps = s.steps + length picture })) stepped)

    -- the picture is past the limits of a scan
    pub next_too_much : coming ≡ Some s.coming → IsScan coming None → IsPassed coming coming'
        → faults' ≡ faults → IsAt dirs limits s old start now
        → TakesNext machine dirs limits s took.IsTooMuch new start now coming' faults faults'
    next_too_much told scan passes same at = record {
      scan = Done;
      failed = refl;
      rose = λ e. absurd (no_fault e);
      most = omega (arith, same);
      state = passed machine s;
      leads = λ next. ap (λ p. with_picture machine p (passed machine s) next)
          (told_picture coming s.coming None told scan);
      pictures = told_later coming coming' s.coming told passes;
      taken = refl;
      kept = refl;
      shelf = refl;
      may_stand = refl;
      has_faults = refl;
      text = refl;
      stands = let h = at_most s start now at.spent in
          record { no_fewer = h.no_fewer; in_runs = h.in_runs; in_steps = h.in_steps };
    }

    -- the source failed
    pub next_failed : coming ≡ Some s.coming → IsPerhapsPassed coming coming' → Rose faults faults'
        → faults' ≤ faults + 1 → IsAt dirs limits s new start now
        → TakesNext machine dirs limits s took.Failed new start now coming' faults faults'
    next_failed told (inl same) rose once at = record {
      scan = NotBegun;
      failed = refl;
      rose = λ e. rose;
      most = once;
      state = s;
      leads = λ next. refl;
      pictures = same ∙ told;
      taken = refl;
      kept = refl;
      shelf = refl;
      may_stand = refl;
      has_faults = refl;
      text = refl;
      stands = at;
    }
    next_failed told (inr passes) rose once at = record {
      scan = BrokeOff;
      failed = refl;
      rose = λ e. rose;
      most = once;
      state = passed machine s;
      leads = λ next. refl;
      pictures = told_later coming coming' s.coming told passes;
      taken = refl;
      kept = refl;
      shelf = refl;
      may_stand = refl;
      has_faults = refl;
      text = refl;
      stands = record {
        engine = at.engine;
        spent =
            record { in_runs = at.spent.in_runs; in_steps = at.spent.in_steps };
      };
    }

    -- memory was wanting for the scan
    pub scan_cut : IsAt dirs limits s old start now → (next : Here T → Next (Compiled T))
        → IsRising next → HasSpentAtMost (state_in (scanned machine Done s next)) start now
    scan_cut at next rising =
        at_most_on s (state_in (scanned machine Done s next)) start now (scan_rises next rising s)
        (at_most s start now at.spent)

pub if_ok_both : {A E : Type 0} {P Q R : A → Type 0} (r : Result A E) → IfOk r P → IfOk r Q
    → ((a : A) → P a → Q a → R a) → IfOk r R
if_ok_both (Ok a) p q f = f a p q
if_ok_both (Err e) p q f = tt

pub on_err_is : {A E P : Type 0} (r : Result A E) → P → OnErr r P
on_err_is (Ok a) p = tt
on_err_is (Err e) p = p
