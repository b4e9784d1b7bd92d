-- How runs end in code, against the runs over words.
use Rattle.std.proofs.Common.{◌≡◌, ◌∙◌, ap, sym, subst, refl, ℕ, List, Option, Some, None, Result, Ok, Err, IfOk, map}
use Rattle.std.specs.declared.alloc.AllocError.{AllocError}
use Rattle.path_tree.specs.Plain.{Plain}
use Rattle.path_tree.specs.declared.path.Term.{Term}
use Rattle.load_path.specs.declared.picture.PictureFile.{PictureFile}
use Rattle.pan_ast.specs.declared.place.Place.{Place}
use Rattle.asking.specs.Asked.{Word, Tells as Told, Needs}
use Rattle.questions.specs.declared.key.Key.{Key}
use Rattle.questions.specs.declared.key.Key.TheVariants.{File, Under}
use Rattle.questions.specs.Contents.{Content}
use Rattle.questions.specs.Run.{Meter, Outcome, Done, Returned, Failed, Asks}
use Rattle.questions.specs.Told.{Ending, numbered, ran_by, content_of, answers_of}
use Rattle.read_sets.specs.declared.trace.Item.{Item}
use Rattle.read_sets.specs.Items.{keys_in, pairs_of}
use Rattle.runner.specs.declared.ends.Built.{Built}
use Rattle.runner.specs.declared.ends.BuildEnd.{BuildEnd}
use Rattle.runner.specs.declared.ends.CheckEnd.{CheckEnd}
use Rattle.runner.specs.Words.{words, object_word}
use Rattle.runner.specs.Ends.{End, build_ran, check_ran}
use Rattle.dml_world.specs.declared.stop.Stop.{Stop}
use Rattle.dml_world.specs.declared.stop.Stop.TheVariants as stop
use Rattle.dml_world.specs.Exits.{Tells}
use Rattle.validate.specs.declared.stop.Stop.{Stop as CheckStop}
use Rattle.validate.specs.declared.stop.Stop.TheVariants as check_stop
use Rattle.validate.specs.Exits.{Comes}
use Rattle.template_meaning.specs.Program.{Site, Program}
use Rattle.run_world.specs.Noted.{AreNumbered, AreWords}
use Rattle.object_meaning.specs.Rest.{Rest}
use Rattle.object_meaning.specs.Builds.{build_ending}
use Rattle.object_meaning.specs.Checks.{check_ending}
use Rattle.object_run.specs.declared.rest.Rest.{Rest as RRest}
use Rattle.object_run.specs.Ended.{ended, ran_ended, IsBuildEnd, IsCheckEnd, IsNeed}

-- what an ending makes of an outcome

ran_of : (tells : Key → Word Content) (site : Site) (o : Outcome Program Place)
    → ran_by tells (build_ending site) o ≡ ran_ended tells (ended (build_ending site) o)
ran_of tells site (Done x s m) = refl
ran_of tells site (Returned t s m) = refl
ran_of tells site (Failed d m) = refl
ran_of tells site (Asks k m) = refl

asks_back : {S X R : Type 0} → (f : Ending S X R) (o : Outcome S X) (k : Key) (m : Meter)
    → ended f o ≡ Asks k m → o ≡ Asks k m
asks_back {S} {X} {R} f (Done x s n) k m e =
    let clash : ◌≡◌ {A = Outcome (Unit {0}) R} (Done (f.done x s) tt n) (Asks k m) = e in cc
asks_back {S} {X} {R} f (Returned t s n) k m e =
    let clash : ◌≡◌ {A = Outcome (Unit {0}) R} (Done (f.returned t s) tt n) (Asks k m) = e in cc
asks_back {S} {X} {R} f (Failed d n) k m e =
    let clash : ◌≡◌ {A = Outcome (Unit {0}) R} (Failed d n) (Asks k m) = e in cc
asks_back {S} {X} {R} f (Asks j n) k m e =
    let same : ◌≡◌ {A = Outcome (Unit {0}) R} (Asks j n) (Asks k m) = e in cc

-- a word that waits names this object
abbrev pub NeedsOwn : List ℕ → Word Content → Type 0
NeedsOwn p (Needs q) = q ≡ p
NeedsOwn p (Told n c) = Unit {0}

own_word : (p : List ℕ) (w : Word Content) → NeedsOwn p w → content_of w ≡ None → w ≡ Needs p
own_word p (Needs q) h e = ap Needs h
own_word p (Told n c) h e = let clash : ◌≡◌ {A = Option Content} (Some c) None = e in cc

-- words of a picture and of what is known name the object that is missing
pub needs_own : (picture : List PictureFile) (numbers : List ℕ → ℕ)
    (objects : List ℕ → List Term → Option (ℕ × Option Plain)) (tells : Key → Word Content)
    → AreWords (words picture numbers objects) tells → (p : List ℕ) (terms : List Term)
    → NeedsOwn p (tells (Under p terms))
needs_own picture numbers objects tells same p terms =
    subst (NeedsOwn p) (same (Under p terms)) (at (objects p terms))
  where
    at : (o : Option (ℕ × Option Plain)) → NeedsOwn p (object_word p o)
    at None = refl
    at (Some q) = tt

module _ (tells : Key → Word Content) (fits : (p : List ℕ) (terms : List Term) → NeedsOwn p
    (tells (Under p terms))) (trace : List Item) (m : Meter) (asked : m.asked ≡ keys_in trace)
    (are : AreNumbered tells trace) where
  pairs : pairs_of trace ≡ map (numbered tells) m.asked
  pairs = are ∙ ap (map (numbered tells)) (sym asked)

  -- builds

  build_is : (b : Result (Built Rest) Stop) (z : Outcome (Unit {0}) (End Rest)) (e : BuildEnd RRest)
      → Tells Ok b m z → ((k : Key) → z ≡ Asks k m → answers_of tells k ≡ None)
      → IsBuildEnd b trace e → ran_ended tells z ≡ build_ran e
  build_is (Ok b) z e gives unknown is = rw is (rw gives (rw pairs refl))
  build_is (Err (stop.Fault f)) z e gives unknown is = rw is (rw gives (rw pairs refl))
  build_is (Err (stop.Need q)) z e gives unknown is =
      let p = q.value.object in
      let key = Under p q.value.terms in
      rw is (rw gives (rw (own_word p (tells key) (fits p q.value.terms) (unknown key gives)) refl))
  build_is (Err stop.Memory) z e gives unknown is = absurd is

  pub build_ended : (b : Result (Built Rest) Stop) (site : Site) (o : Outcome Program Place)
      (end : Result (BuildEnd RRest) AllocError) → Tells Ok b m (ended (build_ending site) o)
      → ((k : Key) → o ≡ Asks k m → answers_of tells k ≡ None)
      → IfOk end (λ e. IsBuildEnd b trace e) → IfOk end
      (λ e. ran_by tells (build_ending site) o ≡ build_ran e)
  build_ended b site o (Ok e) gives unknown is =
      ran_of tells site o ∙ build_is b (ended (build_ending site) o) e gives
      (λ k h. unknown k (asks_back (build_ending site) o k m h)) is
  build_ended b site o (Err x) gives unknown is = tt

  -- checks

  check_is : (c : Result (Unit {0}) CheckStop) (z : Outcome (Unit {0}) (Unit {0})) (e : CheckEnd)
      → Comes (λ x. x) c m z → ((k : Key) → z ≡ Asks k m → answers_of tells k ≡ None)
      → IsCheckEnd c trace e → ran_by tells check_ending z ≡ check_ran e
  check_is (Ok x) z e gives unknown is = rw is (rw gives (rw pairs refl))
  check_is (Err (check_stop.Fault f)) z e gives unknown is = rw is (rw gives (rw pairs refl))
  check_is (Err (check_stop.Need k)) z e gives unknown is =
      rw gives (of_key k.value (unknown k.value gives) is)
    where
      of_key : (k : Key) → answers_of tells k ≡ None → IsNeed k e
          → ran_by tells check_ending (Asks k m) ≡ check_ran e
      of_key (Under p terms) none is =
          rw is (rw (own_word p (tells (Under p terms)) (fits p terms) none) refl)
      of_key (File f) none is = absurd is
  check_is (Err check_stop.Memory) z e gives unknown is = absurd is

  pub check_ended : (c : Result (Unit {0}) CheckStop) (z : Outcome (Unit {0}) (Unit {0}))
      (end : Result CheckEnd AllocError) → Comes (λ x. x) c m z
      → ((k : Key) → z ≡ Asks k m → answers_of tells k ≡ None)
      → IfOk end (λ e. IsCheckEnd c trace e) → IfOk end
      (λ e. ran_by tells check_ending z ≡ check_ran e)
  check_ended c z (Ok e) gives unknown is = check_is c z e gives unknown is
  check_ended c z (Err x) gives unknown is = tt
