-- An object that is not touched is told the same before and after the edit.
use Rattle.std.proofs.Common.{◌≡◌, ◌≤◌, ℕ, length, List, [], ◌∷◌, ◌&&◌, Bool, true, false, not, cond, Option, Some, None, Ok, Err, refl, sym, ap, ◌∙◌, ⊎_elim, subst}
use Rattle.std.specs.Prelude.{bytes_eq}
use Rattle.std.specs.List.{list_any}
use Rattle.load_path.specs.Pictures.{content_in}
use Rattle.load_path.specs.declared.picture.Content.{Content as FileContent}
use Rattle.load_path.specs.declared.picture.PictureFile.{PictureFile}
use Rattle.object_names.specs.Objects.{or_next, first_there, is_object_content, AreObjects}
use Rattle.path_tree.specs.Grammar.{is_name}
use Rattle.path_tree.specs.declared.path.Term.{Term}
use Rattle.asking.specs.Asked.{Answer}
use Rattle.asking.specs.declared.limits.TheConstants.{MAX_WORK}
use Rattle.questions.specs.declared.key.Key.{Key}
use Rattle.questions.specs.declared.key.Key.TheVariants.{File, Under}
use Rattle.questions.specs.Contents.{Content, Missing, Absent}
use Rattle.questions.specs.Told.{more_than_asked}
use Rattle.runner.specs.Words.{file_content}
use Rattle.runner.specs.Ends.{End}
use Rattle.runner.specs.declared.ends.Built.{Built}
use Rattle.runner.specs.Looking.{Looks, LooksForTemplates}
use Rattle.runner.specs.Meaning.{Meaning, IsLawful}
use Rattle.engine_laws.specs.Names.{Name}
use Rattle.engine_laws.specs.Engine.{is_among}
use Rattle.engine_laws.specs.Runner.{IsTrail}
use Rattle.engine_laws.specs.Bounded.{built, content_at}
use Rattle.engine_machine.specs.Machine.{judge_of, runner_of}
use Rattle.engine_machine.specs.Pictures.{picture_in}
use Rattle.engine_machine.specs.Compiled.{by_verdict, checked_end, built_end}
use Rattle.engine_machine.proofs.RunnerLaws.{laws_of}
use Rattle.impact_laws.specs.Alike.{IsToldAt, IsToldAlike, AreToldAlike, IsRunAlike, RunsAlike}
use Rattle.impact_laws.proofs.Alike.{builds, runs}
use Rattle.pan_impact.specs.declared.register.Entry.{Entry}
use Rattle.pan_impact.specs.Touched.{stands_in}
use Rattle.pan_impact.specs.Touched.{templates_of, hits, IsTouched, at_once, by_read, AreTouched}
use Rattle.touched_laws.specs.Edits.{IsEdit, HasItem, IsRegister, contents}
use Rattle.touched_laws.specs.Untouched.{IsAsBefore, LeavesUntouched}
use Rattle.touched_laws.proofs.Objects.{yes_or_no, is_object, first_same, object_same}
use Rattle.touched_laws.proofs.Items.{file_hit, absent_hit, object_read}

module _ {T : Type 0} (m : Meaning T) (dirs : List (List ℕ)) (old new : List PictureFile)
    (objects others : List Name) (file : List ℕ) (entries : List Entry) (touched : List (List ℕ))
    (laws : IsLawful m) (looks : LooksForTemplates m dirs) (few : length dirs ≤ MAX_WORK)
    (before : AreObjects old dirs objects) (after : AreObjects new dirs others)
    (edit : IsEdit file old new) (register : IsRegister m old objects entries)
    (are : AreTouched entries file dirs touched) where
  -- objects that are not touched
  abbrev free : Name → Bool
  free p = is_among p objects && not (stands_in p touched)

  free_is : (p : Name) → is_among p objects ≡ true → stands_in p touched ≡ false → free p ≡ true
  free_is p there not_in = rw there (rw not_in refl)

  free_there : (p : Name) → free p ≡ true → is_among p objects ≡ true
  free_there p e = at (is_among p objects) e
    where
      at : (b : Bool) → (b && not (stands_in p touched)) ≡ true → b ≡ true
      at true e = refl
      at false e = e

  free_not : (p : Name) → free p ≡ true → IsTouched entries file dirs p → ⊥
  free_not p e is = at (is_among p objects) (stands_in p touched) e (are.whole p is)
    where
      at : (a b : Bool) → (a && not b) ≡ true → b ≡ true → ⊥
      at true true e t = let clash : false ≡ true = e in cc
      at true false e t = let clash : false ≡ true = t in cc
      at false b e t = let clash : false ≡ true = e in cc

  no_hit : (p : Name) → free p ≡ true → hits entries file dirs p ≡ true → ⊥
  no_hit p e h = free_not p e (at_once p h)

  -- a file that an object which is not touched asks for is another one
  other_file : (o : Name) → free o ≡ true → (f : List ℕ) (c : Content)
      → HasItem entries o (File f) c → bytes_eq f file ≡ false
  other_file o e f c h = ⊎_elim
      (λ (t : bytes_eq f file ≡ true). absurd (no_hit o e (file_hit entries file dirs o f c h t)))
      (λ (s : bytes_eq f file ≡ false). s)
      (yes_or_no (bytes_eq f file))

  -- its own template is the same
  first_kept : (o : Name) → free o ≡ true → (names : List (List ℕ)) (asked : List (Key × Content))
      → IsTrail (m.build o) (contents m old objects) asked → Looks (m.build o) names asked
      → first_there old names ≡ first_there new names
  first_kept o e [] asked trail asks = refl
  first_kept o e (n ∷ names) asked trail asks =
      ap (λ c. or_next c (first_there old names)) same
      ∙ at (content_in new n) (ap (λ c. file_content c) same)
      (λ missing. first_kept o e names ((File n, Missing) ∷ asked) (trail, asks.0, sym missing)
      asks.1)
    where
      same : content_in old n ≡ content_in new n
      same = edit n (other_file o e n (contents m old objects (File n))
          (register.builds o (free_there o e) (File n) (asked, trail, asks.0)))

      at : (c : Option FileContent) → file_content (content_in old n) ≡ file_content c
          → (file_content (content_in old n) ≡ Missing → first_there old names
          ≡ first_there new names) → or_next c (first_there old names)
          ≡ or_next c (first_there new names)
      at None is later = later is
      at (Some c) is later = refl

  name_of : (p : Name) → is_among p objects ≡ true → is_name p ≡ true
  name_of p there = at (is_name p) (is_object_content (first_there old (templates_of dirs p)))
      (sym (is_object old dirs objects before p) ∙ there)
    where
      at : (b c : Bool) → (b && c) ≡ true → b ≡ true
      at true c e = refl
      at false c e = e

  stays_there : (p : Name) → free p ≡ true → is_among p others ≡ true
  stays_there p e =
      is_object new dirs others after p
      ∙ sym (object_same old new dirs p (first_kept p e (templates_of dirs p) [] tt
      (looks p (name_of p (free_there p e)) few)))
      ∙ sym (is_object old dirs objects before p)
      ∙ free_there p e

  -- an object that is not there and was asked for does not come
  stays_away : (o : Name) → free o ≡ true → (p : Name) (terms : List Term) (c : Content)
      → HasItem entries o (Under p terms) c → c ≡ Absent → is_among p objects ≡ false
      → is_among p others ≡ false
  stays_away o e p terms c h absent away = ⊎_elim
      (λ (t : list_any (bytes_eq file) (templates_of dirs p) ≡ true). absurd
      (no_hit o e (absent_hit entries file dirs o p terms c h absent t)))
      (λ (f : list_any (bytes_eq file) (templates_of dirs p) ≡ false).
      is_object new dirs others after p
      ∙ sym (object_same old new dirs p (first_same file old new edit (templates_of dirs p) f))
      ∙ sym (is_object old dirs objects before p) ∙ away)
      (yes_or_no (list_any (bytes_eq file) (templates_of dirs p)))

  -- an object that is asked for by one that is not touched is not touched
  free_on : (o : Name) → free o ≡ true → (p : Name) (terms : List Term) (c : Content)
      → HasItem entries o (Under p terms) c → is_among p objects ≡ true → free p ≡ true
  free_on o e p terms c h there = ⊎_elim
      (λ (t : stands_in p touched ≡ true). absurd (free_not o e
      (by_read o p (object_read entries file dirs o p terms c h) (are.sound p t))))
      (λ (f : stands_in p touched ≡ false). free_is p there f)
      (yes_or_no (stands_in p touched))

  told : (o : Name) → free o ≡ true → (k : Key) → HasItem entries o k (contents m old objects k)
      → IsToldAlike free (picture_in old objects) (picture_in new others) k
  told o e (File f) h = (
    refl,
    ap file_content (sym
        (edit f (other_file o e f (contents m old objects (File f)) h))),
  )
  told o e (Under p terms) h = at (is_among p objects) refl
    where
      absent : is_among p objects ≡ false → contents m old objects (Under p terms) ≡ Absent
      absent away = ap (λ b. content_at (runner_of m.build) (picture_in old objects)
          (built (runner_of m.build) (picture_in old objects)) (Under p terms)
          (cond b (Some p) None)) away

      at : (b : Bool) → is_among p objects ≡ b → IsToldAlike free (picture_in old objects)
          (picture_in new others) (Under p terms)
      at true there =
          let go_on = free_on o e p terms (contents m old objects (Under p terms)) h there in
          subst (λ b. IsToldAt free (picture_in new others) (Under p terms) Absent
          (cond b (Some p) None)) (sym there)
          (ap (λ b. cond b (Some p) None) (stays_there p go_on), go_on)
      at false away =
          let gone = stays_away o e p terms (contents m old objects (Under p terms)) h (absent away)
          away in
          subst (λ b. IsToldAt free (picture_in new others) (Under p terms) Absent
          (cond b (Some p) None)) (sym away)
          (ap (λ b. cond b (Some p) None) gone, refl)

  alike : AreToldAlike (runner_of m.build) (picture_in old objects) (picture_in new others) free
  alike p e k asked = told p e k (register.builds p (free_there p e) k asked)

  same_runs : {X : Type 0} (ask : List (Key × Content) → Answer Key X)
      → IsRunAlike (runner_of m.build) (picture_in old objects) (picture_in new others) free ask
      → RunsAlike (runner_of m.build) (picture_in old objects) (picture_in new others) free ask
  same_runs ask each = runs (runner_of m.build) (picture_in old objects) (picture_in new others)
      free (laws_of m laws old objects) (laws_of m laws new others) alike ask each

  module _ (o : Name) (e : free o ≡ true) where
    same_built : built_end m old objects o ≡ built_end m new others o
    same_built = builds (runner_of m.build) (picture_in old objects) (picture_in new others) free
        (laws_of m laws old objects) (laws_of m laws new others) alike o e

    check_alike : (b : Built T) → built_end m old objects o ≡ Ok b
        → RunsAlike (runner_of m.build) (picture_in old objects) (picture_in new others) free
        (m.check b)
    check_alike b is = same_runs (m.check b) (λ k asked. told o e k
        (register.checks o (free_there o e) b is k asked))

    same_end : (r : End T) → built_end m old objects o ≡ r → checked_end m old objects r
        ≡ checked_end m new others r
    same_end (Err f) is = refl
    same_end (Ok b) is = ap (by_verdict b.tree) ((check_alike b is).ends
        (judge_of m.check).unfinished
        (runner_of m.build).limit)

    pub as_before : IsAsBefore m old new objects others o
    as_before = record {
      there = stays_there o e;
      built = same_built;
      answer = same_end (built_end m old objects o) refl ∙ ap (checked_end m new others) same_built;
      build = λ number. (same_runs (m.build o) (λ k asked. alike o e k asked)).asks number
          more_than_asked;
      check = λ b is number. (check_alike b is).asks number more_than_asked;
    }

pub leaves_untouched : {T : Type 0} (m : Meaning T) → LeavesUntouched m
leaves_untouched m dirs old new objects others file entries touched laws looks few before after edit
    register are o there apart =
    as_before m dirs old new objects others file entries touched laws looks few before after edit
    register are o
    (free_is m dirs old new objects others file entries touched laws looks few before after edit
    register are o there apart)
