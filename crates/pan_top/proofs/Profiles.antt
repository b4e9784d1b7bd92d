-- Each profile is the text of a tree that keeps what a check promises.
use Rattle.std.proofs.Common.{◌≡◌, ◌∙◌, ℕ, List, Bool, true, false, cond, Some, None, Ok, Err, refl, sym, ap}
use Rattle.std.specs.Prelude.{option_map}
use Rattle.asking.specs.Asked.{Ends}
use Rattle.json_profile.specs.Json.{profile_of}
use Rattle.load_path.specs.declared.picture.PictureFile.{PictureFile}
use Rattle.pan_ast.specs.declared.work.Limits.{Limits}
use Rattle.questions.specs.declared.key.Key.{Key}
use Rattle.questions.specs.Contents.{Content}
use Rattle.runner.specs.declared.ends.Built.{Built}
use Rattle.runner.specs.Meaning.{IsLawful, BuildsByName}
use Rattle.engine_laws.specs.Engine.{is_among}
use Rattle.engine_machine.specs.Machine.{Kept}
use Rattle.engine_machine.specs.Compiled.{compiled}
use Rattle.rebuild.specs.Engines.{Meanings}
use Rattle.session.specs.Sessions.{outcome_of}
use Rattle.session.specs.declared.Answer.{Answer}
use Rattle.session.specs.declared.Outcome.TheVariants.{Profile}
use Rattle.promised_profiles.proofs.Promised.{keeps_promise}
use Rattle.engine_session.specs.Compiler.{answer_of, outcome_by}
use Rattle.engine_session.specs.Names.{objects_in}
use Rattle.engine_session.proofs.Said.{found_in}
use Rattle.pan_top.specs.Profiles.{IsKept, AreKept}

module _ {T : Type 0} (means : Meanings T)
    (laws : (dirs : List (List ℕ)) (limits : Limits) → IsLawful (means dirs limits))
    (by_name : (dirs : List (List ℕ)) (limits : Limits) → BuildsByName (means dirs limits))
    (promises : List (List ℕ) → Limits → Built T → List (Key × Content) → Type 0)
    (kept : (dirs : List (List ℕ)) (limits : Limits) (b : Built T) (pairs : List (Key × Content))
    → (means dirs limits).check b pairs ≡ Ends None → promises dirs limits b pairs) where
  module _ (dirs : List (List ℕ)) (limits : Limits) (files : List PictureFile)
      (name json dep : List ℕ) where
    by_tree : (text : List ℕ) (k : Kept)
        → compiled (means dirs limits) files (objects_in files dirs) name ≡ k
        → outcome_by k text ≡ Profile json dep → IsKept means promises dirs limits files name json
    by_tree text (Err fault) is e = cc
    by_tree text (Ok t) is e = record {
      tree = t;
      text = let same : Profile (profile_of t) text ≡ Profile json dep = e in cc;
      keeps = keeps_promise (means dirs limits) (laws dirs limits) (by_name dirs limits)
          (promises dirs limits) (kept dirs limits) files (objects_in files dirs) name t is;
    }

    by_place : (a : Answer) (b : Bool)
        → a ≡ answer_of (means dirs limits) dirs files (objects_in files dirs) name
        → option_map outcome_of (cond b (Some a) None) ≡ Some (Profile json dep)
        → a.outcome ≡ Profile json dep
    by_place a true is e = cc
    by_place a false is e = cc

    kept_by : option_map outcome_of (cond (is_among name (objects_in files dirs))
        (Some (answer_of (means dirs limits) dirs files (objects_in files dirs) name)) None)
        ≡ Some (Profile json dep) → IsKept means promises dirs limits files name json
    kept_by e =
        let a = answer_of (means dirs limits) dirs files (objects_in files dirs) name in
        by_tree _ (compiled (means dirs limits) files (objects_in files dirs) name) refl
        (by_place a (is_among name (objects_in files dirs)) refl e)

  pub are_kept : AreKept means promises
  are_kept dirs limits files name json dep e =
      kept_by dirs limits files name json dep
      (ap (λ a. option_map outcome_of a)
      (sym (found_in (means dirs limits) dirs files (objects_in files dirs) (objects_in files dirs)
      name)) ∙ e)
