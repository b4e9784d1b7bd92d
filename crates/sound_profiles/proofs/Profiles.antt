-- Checks of objects tell whether what was built is sound.
use Rattle.std.proofs.Common.{◌≡◌, ◌↔◌, ap, sym, subst, refl, ℕ, inl, inr, List, [], Option, Some, None, Bool, true, false, cond, Ok, Err, arith}
use Rattle.std.specs.Str.{bytes_eq}
use Rattle.path_tree.specs.Find.{get}
use Rattle.path_tree.specs.Paths.{path_text}
use Rattle.path_tree.specs.declared.path.Anchor.{Anchor}
use Rattle.path_tree.specs.declared.path.Anchor.TheVariants as anchor
use Rattle.path_tree.specs.declared.path.Term.{Term}
use Rattle.pan_ast.specs.declared.place.Place.{Place}
use Rattle.pan_ast.specs.declared.work.Limits.{Limits}
use Rattle.asking.specs.Asked.{Answer, Ends}
use Rattle.asking.specs.Asked as asked
use Rattle.questions.specs.declared.key.Key.{Key}
use Rattle.questions.specs.declared.key.Key.TheVariants.{Under}
use Rattle.questions.specs.Contents.{Content, Answers, answer_in}
use Rattle.questions.specs.Contents as content
use Rattle.questions.specs.Run.{Meter, Outcome, Done, Returned, Failed, Asks, then, give, answered}
use Rattle.questions.specs.Told.{answer_by, whole}
use Rattle.dml_meaning.specs.declared.limits.TheConstants.{MAX_OPEN_ITEMS}
use Rattle.dml_meaning.specs.Around.{Around}
use Rattle.dml_meaning.specs.Lookups.{Looked, looked_in, looked_under, look_other, look_at}
use Rattle.dml_meaning.specs.Meaning.{eval}
use Rattle.validate.specs.Conforms.{EndsWith, Whole}
use Rattle.validate.specs.Sound.{IsSpent}
use Rattle.validate.specs.Steady.{Agrees, IsSteady}
use Rattle.validate.proofs.Sound.{checks_soundness}
use Rattle.runner.specs.declared.ends.Built.{Built}
use Rattle.runner.specs.Ends.{End, Verdict}
use Rattle.runner.specs.Meaning.{BuildsByName}
use Rattle.template_meaning.specs.Program.{Site, Program}
use Rattle.object_meaning.specs.Rest.{Rest}
use Rattle.object_meaning.specs.Builds.{site_at, build_ending, build_told}
use Rattle.object_meaning.specs.Checks.{around_built, means_of, check_run, check_ending, check_told}
use Rattle.object_meaning.specs.Meanings.{meaning_of}
use Rattle.sound_profiles.specs.Built.{told_whole, IsSoundBuilt, PromisesSound}
use Rattle.sound_profiles.proofs.Steady.{Alike}
use Rattle.sound_profiles.proofs.SteadyLeaves.{look_at_steady}
use Rattle.sound_profiles.proofs.SteadyCreate.{dml_steady}
use Rattle.sound_profiles.proofs.SteadyItems.{eval_steady}
use Rattle.sound_profiles.proofs.Staying.{IsNoReturn, Stays, StayingMeans, dml_stays, look_stays, checked_stays}

-- more work changes no answer

agrees : {X : Type 0} → (left : ℕ) (z w : Outcome (Unit {0}) X) → Alike left z w → Agrees left z w
agrees left (Done x s m) w h = (record { meter = h.0; is = h.1 }, h.3)
agrees left (Returned t s m) w h = λ x e. let a = h.1 in let b = e.is in cc
agrees left (Failed f m) w (inl h) = λ x e. h
agrees left (Failed f m) w (inr h) = λ x e. let a = h.1 in let b = e.is in absurd cc
agrees left (Asks k m) w h = λ x e. let a = h.1 in let b = e.is in cc

-- a value that is seen is seen from any place

module _ (a : Around) (o : Answers) (m : Meter) (p q : Place) (t : List ℕ) (x : Looked) where
  told_elsewhere : (n : List ℕ) (k : Key) (c : Option Content)
      → EndsWith x (then (answered c k tt m) (λ c. looked_under p n c o))
      → EndsWith x (then (answered c k tt m) (λ c. looked_under q n c o))
  told_elsewhere n k None e = e
  told_elsewhere n k (Some content.Failed) e = let clash = e.is in absurd cc
  told_elsewhere n k (Some content.Circular) e = let clash = e.is in absurd cc
  told_elsewhere n k (Some content.NoValue) e = e
  told_elsewhere n k (Some (content.Value v)) e = e
  told_elsewhere n k (Some _) e = e

  other_elsewhere : (n : List ℕ) (ms : List Term) (b : Bool)
      → EndsWith x (cond b (give (looked_in (get ms a.root))) (look_other p n ms) o tt m)
      → EndsWith x (cond b (give (looked_in (get ms a.root))) (look_other q n ms) o tt m)
  other_elsewhere n ms true e = e
  other_elsewhere n ms false e = told_elsewhere n (Under n ms) (o (Under n ms)) e

  elsewhere : (from : Anchor) (ms : List Term) → EndsWith x (look_at a p t from ms o tt m)
      → EndsWith x (look_at a q t from ms o tt m)
  elsewhere anchor.Absolute ms e = e
  elsewhere anchor.Relative ms e = let clash = e.is in absurd cc
  elsewhere (anchor.External n) ms e = other_elsewhere n ms (bytes_eq n a.object) e

module _ (site : Site) (b : Built Rest) where
  means_steady : (w : Whole) → IsSteady (means_of site b) w
  means_steady w = record {
    values = λ template i v m l. agrees m.left _ _
        ((dml_steady (eval MAX_OPEN_ITEMS) (eval_steady MAX_OPEN_ITEMS)
        (around_built site b template) true v i).alike w.answers tt m
        (record { left = w.work; asked = [] }) l);
    looks = λ p path m l. agrees m.left _ _
        ((look_at_steady (around_built site b site.object) p (path_text path) path.anchor
        path.terms).alike w.answers tt m (record { left = w.work; asked = [] }) l);
    anywhere = λ p q path x e. elsewhere (around_built site b site.object) w.answers
        (record { left = w.work; asked = [] }) p q (path_text path) x path.anchor path.terms e;
  }

  means_stay : StayingMeans (means_of site b)
  means_stay = record {
    dml = λ template i v. dml_stays (eval MAX_OPEN_ITEMS) (around_built site b template) true v i;
    look = λ p path. look_stays (around_built site b site.object) p (path_text path) path.anchor
        path.terms;
  }

  check_stays : Stays (check_run site b)
  unfolding check_run
  check_stays = checked_stays (means_of site b) means_stay b.rest.header b.tree b.rest.bindings
      b.rest.valids

  -- a check ends without a fault where it is done

  done_where : (z : Outcome (Unit {0}) (Unit {0})) → IsNoReturn z → answer_by check_ending z
      ≡ Ends None → EndsWith tt z
  done_where (Done x s m) h e = record { meter = m; is = refl }
  done_where (Returned t s m) h e = absurd h
  done_where (Failed f m) h e =
      let clash : ◌≡◌ {A = Answer Key Verdict} (Ends (Some f)) (Ends None) = e in absurd cc
  done_where (Asks k m) h e = let clash : ◌≡◌ {A = Answer Key Verdict} (asked.Asks k) (Ends None) =
      e in absurd cc

  none_where : (z : Outcome (Unit {0}) (Unit {0})) → EndsWith tt z → answer_by check_ending z
      ≡ Ends None
  none_where z e = ap (answer_by check_ending) e.is

  pub tells : (pairs : List (Key × Content)) → (answer_by check_ending (check_told site b pairs)
      ≡ Ends None) ↔ (IsSoundBuilt site b pairs × (IsSpent (check_told site b pairs) → ⊥))
  unfolding check_run
  tells pairs =
      let law = checks_soundness (means_of site b) (told_whole pairs)
      (means_steady (told_whole pairs)) b.rest.header b.tree b.rest.bindings b.rest.valids whole
      (omega arith) in (
        λ e. law.0 (done_where (check_told site b pairs)
            (check_stays.ends (answer_in pairs) tt whole) e),
        λ h. none_where (check_told site b pairs) (law.1 h),
      )

pub check_tells : (dirs : List (List ℕ)) (limits : Limits) (b : Built Rest)
    (pairs : List (Key × Content)) → ((meaning_of dirs limits).check b pairs ≡ Ends None)
    ↔ (IsSoundBuilt (site_at dirs limits b.object) b pairs
    × (IsSpent (check_told (site_at dirs limits b.object) b pairs) → ⊥))
check_tells dirs limits b pairs = tells (site_at dirs limits b.object) b pairs

-- what was built is of the object

same_object : (x b : Built Rest) → ◌≡◌ {A = Answer Key (End Rest)} (Ends (Ok x)) (Ends (Ok b))
    → b.object ≡ x.object
same_object x b e = let is : x ≡ b = cc in sym (ap (λ y. y.object) is)

built_object : (site : Site) (z : Outcome Program Place) (b : Built Rest)
    → answer_by (build_ending site) z ≡ Ends (Ok b) → b.object ≡ site.object
built_object site (Done x s m) b e = same_object _ b e
built_object site (Returned t s m) b e = same_object _ b e
built_object site (Failed f m) b e =
    let clash : ◌≡◌ {A = Answer Key (End Rest)} (Ends (Err f)) (Ends (Ok b)) = e in cc
built_object site (Asks k m) b e =
    let clash : ◌≡◌ {A = Answer Key (End Rest)} (asked.Asks k) (Ends (Ok b)) = e in cc

-- the promise of a runner

pub builds_by_name : (dirs : List (List ℕ)) (limits : Limits)
    → BuildsByName (meaning_of dirs limits)
builds_by_name dirs limits object asked b done =
    built_object (site_at dirs limits object) (build_told (site_at dirs limits object) asked) b done

pub keeps_sound : (dirs : List (List ℕ)) (limits : Limits) (b : Built Rest)
    (pairs : List (Key × Content)) → (meaning_of dirs limits).check b pairs ≡ Ends None
    → PromisesSound dirs limits b pairs
keeps_sound dirs limits b pairs none = ((check_tells dirs limits b pairs).0 none).0

pub profiles_sound : (dirs : List (List ℕ)) (limits : Limits) (object : List ℕ) (b : Built Rest)
    (build_pairs check_pairs : List (Key × Content))
    → (meaning_of dirs limits).build object build_pairs ≡ Ends (Ok b)
    → (meaning_of dirs limits).check b check_pairs ≡ Ends None
    → IsSoundBuilt (site_at dirs limits object) b check_pairs
profiles_sound dirs limits object b build_pairs check_pairs done none =
    subst (λ o. IsSoundBuilt (site_at dirs limits o) b check_pairs)
    (builds_by_name dirs limits object build_pairs b done)
    (keeps_sound dirs limits b check_pairs none)
