-- A tree that compiling from scratch gives keeps what its check promises.
use Rattle.std.proofs.Common.{◌≡◌, refl, subst, List, Some, None, Ok, Err}
use Rattle.load_path.specs.declared.picture.PictureFile.{PictureFile}
use Rattle.path_tree.specs.Plain.{Plain}
use Rattle.asking.specs.Asked.{Ends}
use Rattle.asking.specs.declared.limits.TheConstants.{MAX_WORK}
use Rattle.questions.specs.declared.key.Key.{Key}
use Rattle.questions.specs.Contents.{Content}
use Rattle.runner.specs.declared.ends.Built.{Built}
use Rattle.runner.specs.Ends.{End, Verdict}
use Rattle.runner.specs.Meaning.{Meaning, IsLawful, BuildsByName}
use Rattle.engine_laws.specs.Names.{Name}
use Rattle.engine_laws.specs.Engine.{verdict}
use Rattle.engine_machine.specs.Machine.{Kept, runner_of, keeping, judge_of, costs_of}
use Rattle.engine_machine.specs.Pictures.{picture_in}
use Rattle.engine_machine.specs.Compiled.{built_end, by_verdict, checked_end, compiled}
use Rattle.engine_machine.proofs.RunnerLaws.{laws_of}
use Rattle.engine_machine.proofs.Costs.{are_costs}
use Rattle.promised_profiles.specs.Promised.{EndsTold, true_content, KeepsPromise}
use Rattle.promised_profiles.proofs.Ending.{EndsBy, build_told, check_told}

module _ {T : Type 0} (m : Meaning T) (laws : IsLawful m) (by_name : BuildsByName m)
    (promise : Built T → List (Key × Content) → Type 0)
    (kept : (b : Built T) (pairs : List (Key × Content)) → m.check b pairs
    ≡ Ends None → promise b pairs) (files : List PictureFile) (objects : List Name) where
  abbrev tell : Key → Content
  tell = true_content m files objects

  build_ends : (o : Name) → EndsBy (m.build o) tell (built_end m files objects o)
  build_ends o = build_told (runner_of m.build) keeping (judge_of m.check) (costs_of m)
      (picture_in files objects) (laws_of m laws files objects) MAX_WORK
      (are_costs m laws files objects) o

  check_ends : (b : Built T) → EndsBy (m.check b) tell
      (verdict (runner_of m.build) (judge_of m.check) (picture_in files objects) (Ok b))
  check_ends b = check_told (runner_of m.build) keeping (judge_of m.check) (costs_of m)
      (picture_in files objects) (laws_of m laws files objects) MAX_WORK
      (are_costs m laws files objects) (Ok b)

  pub keeps_promise : (o : Name) (t : Plain) → compiled m files objects o ≡ Ok t
      → KeepsPromise m files objects promise o t
  keeps_promise o t e = at (built_end m files objects o) refl e
    where
      found : (b : Built T) → built_end m files objects o ≡ Ok b → (v : Verdict)
          → verdict (runner_of m.build) (judge_of m.check) (picture_in files objects) (Ok b) ≡ v
          → by_verdict b.tree v ≡ Ok t → KeepsPromise m files objects promise o t
      found b is None none e =
          let builds = build_ends o in
          let checks = check_ends b in
          let made : EndsTold (m.build o) tell builds.0 (Ok b) =
          subst (λ r. EndsTold (m.build o) tell builds.0 r) is builds.1 in
          let clean : EndsTold (m.check b) tell checks.0 None =
          subst (λ v. EndsTold (m.check b) tell checks.0 v) none checks.1 in
          record {
            built = b;
            build_told = builds.0;
            check_told = checks.0;
            object = by_name o builds.0 b made.1;
            tree = (let same : ◌≡◌ {A = Kept} (Ok b.tree) (Ok t) = e in cc);
            builds = made;
            checks = clean;
            promised = kept b checks.0 clean.1;
          }
      found b is (Some f) none e = absurd (let clash : ◌≡◌ {A = Kept} (Err f) (Ok t) = e in cc)

      at : (r : End T) → built_end m files objects o ≡ r → checked_end m files objects r ≡ Ok t
          → KeepsPromise m files objects promise o t
      at (Err f) is e = absurd (let clash : ◌≡◌ {A = Kept} (Err f) (Ok t) = e in cc)
      at (Ok b) is e = found b is (verdict (runner_of m.build) (judge_of m.check)
          (picture_in files objects) (Ok b)) refl e
