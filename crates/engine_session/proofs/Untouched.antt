-- An object that the machine does not name as touched is as before.
use Rattle.std.proofs.Common.{◌≡◌, ◌≤◌, ℕ, length, List, [], ◌∷◌, ◌++◌, ◌||◌, Bool, true, false, cond, map, Option, Some, None, Ok, Err, refl, sym, ap, ap₂, ◌∙◌, inl, inr, ⊎_elim, subst}
use Rattle.asking.specs.declared.limits.TheConstants.{MAX_WORK}
use Rattle.load_path.specs.declared.picture.PictureFile.{PictureFile}
use Rattle.json_profile.specs.Dependencies.{dep_text_of}
use Rattle.object_names.specs.Objects.{AreObjects}
use Rattle.questions.specs.declared.key.Key.{Key}
use Rattle.questions.specs.Told.{more_than_asked}
use Rattle.runner.specs.Ends.{End}
use Rattle.runner.specs.Looking.{LooksForTemplates}
use Rattle.runner.specs.Meaning.{Meaning, IsLawful}
use Rattle.engine_laws.specs.Names.{Name, equal}
use Rattle.engine_laws.proofs.Names.{equal-true}
use Rattle.engine_laws.specs.Engine.{is_among}
use Rattle.engine_laws.specs.Rows.{EndsSoon}
use Rattle.engine_machine.specs.Compiled.{built_end}
use Rattle.engine_machine.specs.Machine.{runner_of, judge_of}
use Rattle.engine_machine.specs.Pictures.{picture_in}
use Rattle.engine_machine.proofs.Costs.{ends_soon}
use Rattle.engine_turns.proofs.Once.{rising_once}
use Rattle.rebuild.proofs.Fewer.{once_is}
use Rattle.pan_impact.specs.Touched.{touched_in}
use Rattle.pan_impact.proofs.Listed.{are_touched}
use Rattle.session.specs.Texts.{answer_in}
use Rattle.impact_laws.specs.Alike.{IsAsked}
use Rattle.touched_laws.specs.Edits.{IsEdit, Has, IsRegister}
use Rattle.touched_laws.specs.Untouched.{IsAsBefore}
use Rattle.touched_laws.proofs.Kept.{leaves_untouched}
use Rattle.touched_laws.proofs.Objects.{new_objects}
use Rattle.engine_session.specs.Compiler.{compiler, outcome_by, answer_of, answers_of}
use Rattle.engine_session.specs.Looking.{presence, asked_in, contents, build_asks, check_asks, item_of, entry_of, register_in}
use Rattle.engine_session.specs.Names.{objects_in}
use Rattle.engine_session.specs.Untouched.{KeepsAnswers, ComesByFile, LeavesRest}
use Rattle.engine_session.proofs.Asked.{asked_has}
use Rattle.engine_session.proofs.Lists.{are_objects}
use Rattle.engine_session.proofs.Said.{found_in}

item_among : (q : Key × ℕ) (qs : List (Key × ℕ)) → Has q qs → Has (item_of q) (map item_of qs)
item_among q [] has = absurd has
item_among q (p ∷ qs) has =
    ⊎_elim (λ (same : p ≡ q). inl (ap item_of same))
    (λ (later : Has q qs). inr (item_among q qs later)) has

has_left : (q : Key × ℕ) (xs ys : List (Key × ℕ)) → Has q xs → Has q (xs ++ ys)
has_left q [] ys has = absurd has
has_left q (x ∷ xs) ys has =
    ⊎_elim (λ (same : x ≡ q). inl same) (λ (later : Has q xs). inr (has_left q xs ys later)) has

has_right : (q : Key × ℕ) (xs ys : List (Key × ℕ)) → Has q ys → Has q (xs ++ ys)
has_right q [] ys has = has
has_right q (x ∷ xs) ys has = inr (has_right q xs ys has)

module _ {T : Type 0} (m : Meaning T) (lawful : IsLawful m) (files : List PictureFile)
    (objects : List Name) (soon : EndsSoon (runner_of m.build) (judge_of m.check)
    (picture_in files objects)) where
  entry_among : (all : List Name) (o : Name) → is_among o all ≡ true
      → Has (entry_of m files objects o) (map (entry_of m files objects) all)
  entry_among [] o among = absurd (let clash : false ≡ true = among in cc)
  entry_among (x ∷ all) o among = at (equal x o) refl (entry_among all o) among
    where
      at : (b : Bool) → equal x o ≡ b
          → (is_among o all ≡ true
          → Has (entry_of m files objects o) (map (entry_of m files objects) all))
          → (b || is_among o all) ≡ true
          → Has (entry_of m files objects o) (map (entry_of m files objects) (x ∷ all))
      at true same later e = inl (ap (entry_of m files objects) (equal-true x o same))
      at false same later e = inr (later e)

  built_asks : (o : Name) (k : Key) → IsAsked (m.build o) (contents m files objects) k
      → Has (k, presence (contents m files objects k)) (build_asks m files objects o)
  built_asks o k asked = asked_has (m.build o) (contents m files objects) more_than_asked soon.room
      (soon.builds o) k asked

  -- the register from scratch has all that is asked
  pub is_register : IsRegister m files objects (register_in m files objects)
  is_register = record {
    builds = λ o there k asked. record {
      entry = entry_of m files objects o;
      item = item_of (k, presence (contents m files objects k));
      among = entry_among objects o there;
      named = refl;
      within = item_among (k, presence (contents m files objects k))
          (build_asks m files objects o ++ check_asks m files objects (built_end m files objects o))
          (has_left (k, presence (contents m files objects k)) (build_asks m files objects o)
          (check_asks m files objects (built_end m files objects o)) (built_asks o k asked));
      keyed = refl;
      absent = λ e. ap presence e;
    };
    checks = λ o there b is k asked. record {
      entry = entry_of m files objects o;
      item = item_of (k, presence (contents m files objects k));
      among = entry_among objects o there;
      named = refl;
      within = item_among (k, presence (contents m files objects k))
          (build_asks m files objects o ++ check_asks m files objects (built_end m files objects o))
          (has_right (k, presence (contents m files objects k)) (build_asks m files objects o)
          (check_asks m files objects (built_end m files objects o))
          (subst (λ r. Has (k, presence (contents m files objects k))
          (check_asks m files objects r)) (sym is) (asked_has (m.check b)
          (contents m files objects) more_than_asked soon.room (soon.checks (Ok b)) k asked)));
      keyed = refl;
      absent = λ e. ap presence e;
    };
  }

module _ {T : Type 0} (m : Meaning T) (old new : List PictureFile) (objects others : List Name)
    (o : Name) (same : IsAsBefore m old new objects others o) where
  same_checks : check_asks m old objects (built_end m old objects o)
      ≡ check_asks m new others (built_end m new others o)
  same_checks = at (built_end m old objects o) refl ∙ ap (check_asks m new others) same.built
    where
      at : (r : End T) → built_end m old objects o ≡ r → check_asks m old objects r
          ≡ check_asks m new others r
      at (Err f) is = refl
      at (Ok b) is = ap asked_in (same.check b is presence)

  same_answer : (dirs : List (List ℕ)) → answer_of m dirs new others o
      ≡ answer_of m dirs old objects o
  same_answer dirs = sym (ap₂ (λ kept dep. record { name = o; outcome = outcome_by kept dep })
      same.answer (ap₂ dep_text_of (ap asked_in (same.build presence)) same_checks))

-- a name among answers is an object, and no other
answered : {A : Type 0} (found : Option A) (there : Bool) (given a : A) → found
    ≡ cond there (Some given) None → found ≡ Some a → (there ≡ true) × (given ≡ a)
answered found true given a is some = let e : ◌≡◌ {A = Option _} (Some given) (Some a) =
    sym is ∙ some in (refl, (let c = e in cc))
answered found false given a is some =
    absurd (let clash : ◌≡◌ {A = Option _} None (Some a) = sym is ∙ some in (let c = clash in cc))

unanswered : {A : Type 0} (found : Option A) (there : Bool) (given : A) → found
    ≡ cond there (Some given) None → found ≡ None → there ≡ false
unanswered found true given is none =
    absurd (let clash : ◌≡◌ {A = Option _} (Some given) None = sym is ∙ none in
    (let c = clash in cc))
unanswered found false given is none = refl

module _ {T : Type 0} (m : Meaning T) (dirs : List (List ℕ)) (lawful : IsLawful m)
    (looks : LooksForTemplates m dirs) (few : length dirs ≤ MAX_WORK) (file : List ℕ)
    (old new : List PictureFile) (edit : IsEdit file old new) where
  before : AreObjects old dirs (objects_in old dirs)
  before = are_objects old dirs

  after : AreObjects new dirs (objects_in new dirs)
  after = are_objects new dirs

  soon : EndsSoon (runner_of m.build) (judge_of m.check) (picture_in old (objects_in old dirs))
  soon = ends_soon m lawful old (objects_in old dirs)
      (once_is (objects_in old dirs) (rising_once (objects_in old dirs) before.rising))

  pub kept : KeepsAnswers (compiler m dirs) dirs file old new
  kept name a was apart =
      let here = answered (answer_in (answers_of m dirs old (objects_in old dirs)) name)
      (is_among name (objects_in old dirs)) (answer_of m dirs old (objects_in old dirs) name) a
      (found_in m dirs old (objects_in old dirs) (objects_in old dirs) name) was in
      let same : IsAsBefore m old new (objects_in old dirs) (objects_in new dirs) name =
      leaves_untouched m dirs old new (objects_in old dirs) (objects_in new dirs) file
      (register_in m old (objects_in old dirs)) (touched_in
      (register_in m old (objects_in old dirs)) file dirs) lawful looks few before after edit
      (is_register m lawful old (objects_in old dirs) soon)
      (are_touched (register_in m old (objects_in old dirs)) file dirs) name here.0 apart in
      found_in m dirs new (objects_in new dirs) (objects_in new dirs) name
      ∙ ap (λ b. cond b (Some (answer_of m dirs new (objects_in new dirs) name)) None) same.there
      ∙ ap Some (same_answer m old new (objects_in old dirs) (objects_in new dirs) name same dirs
      ∙ here.1)

  pub come : ComesByFile (compiler m dirs) dirs file old new
  come name a was is =
      let gone = unanswered (answer_in (answers_of m dirs old (objects_in old dirs)) name)
      (is_among name (objects_in old dirs)) (answer_of m dirs old (objects_in old dirs) name)
      (found_in m dirs old (objects_in old dirs) (objects_in old dirs) name) was in
      let here = answered (answer_in (answers_of m dirs new (objects_in new dirs)) name)
      (is_among name (objects_in new dirs)) (answer_of m dirs new (objects_in new dirs) name) a
      (found_in m dirs new (objects_in new dirs) (objects_in new dirs) name) is in
      new_objects dirs old new (objects_in old dirs) (objects_in new dirs) file before after edit
      name gone here.0

pub leaves_rest : {T : Type 0} (m : Meaning T) (dirs : List (List ℕ)) → IsLawful m
    → LooksForTemplates m dirs → length dirs ≤ MAX_WORK → LeavesRest m dirs
leaves_rest m dirs lawful looks few = record {
  kept = λ file old new edit. kept m dirs lawful looks few file old new edit;
  come = λ file old new edit. come m dirs lawful looks few file old new edit;
}
