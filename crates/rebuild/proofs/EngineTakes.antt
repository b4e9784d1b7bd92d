-- An engine after a take.
use Rattle.std.proofs.Common.{◌≡◌, ◌≤◌, length, ℕ, List, [], ◌∷◌, true, Result, Ok, Err, OnOk, OnErr, refl, sym, ap, ◌∙◌, subst}
use Rattle.std.proofs.Math.Logic.{∥∥₁_map}
use Rattle.asking.specs.declared.limits.TheConstants.{END_OF_NUMBERS}
use Rattle.base.specs.declared.limits.TheConstants.{MAX_OBJECTS}
use Rattle.object_names.specs.Objects.{AreObjects}
use Rattle.load_path.specs.declared.picture.PictureFile.{PictureFile}
use Rattle.pan_ast.specs.declared.work.Limits.{Limits}
use Rattle.questions.specs.declared.key.Key.TheVariants.{File}
use Rattle.runner.specs.Meaning.{IsLawful}
use Rattle.engine_laws.specs.Names.{Name}
use Rattle.engine_laws.specs.Engine.{AreNumbered}
use Rattle.engine_laws.specs.Reached.{IsReached}
use Rattle.engine_laws.proofs.Reached.{leads_on, reached_holds}
use Rattle.engine_machine.specs.Machine.{runner_of, keeping, judge_of}
use Rattle.engine_machine.specs.Pictures.{picture_in}
use Rattle.engine_machine.proofs.RunnerLaws.{laws_of, keep_laws_of}
use Rattle.engine_turns.specs.declared.core_data.Core.{Core}
use Rattle.engine_turns.specs.declared.rows.FileRow.{FileRow}
use Rattle.rebuild.specs.declared.taking.TakeError.{TakeError}
use Rattle.engine_turns.specs.Places.{names}
use Rattle.engine_turns.specs.States.{picture_of, pictured, file_number}
use Rattle.rebuild.specs.Taking.{old_or_none, counter_or, numbered, counter_after}
use Rattle.rebuild.specs.Reaching.{Asking, AreIndexed}
use Rattle.rebuild.specs.Renewing.{IsTaken, IsPictureTaken}
use Rattle.engine_turns.specs.Ready.{core_picture, IsReady}
use Rattle.rebuild.specs.Engines.{EngineSituation, Meanings, situation_of, objects_of, value_of, is_ready, IsEngine, IsTakeAllowed, take_of, after_take}
use Rattle.rebuild.proofs.Engines.{ready_is, is_ready_of}
use Rattle.rebuild.proofs.Takings.{are_numbered}
use Rattle.engine_turns.proofs.ByName.{names_length}

-- the numbered files are the picture's
pub pictured_numbered : (old : List FileRow) (counter : ℕ) (files : List PictureFile)
    → pictured (numbered old counter files) ≡ files
pictured_numbered old counter [] = refl
pictured_numbered old counter (f ∷ fs) =
    ap (λ gs. f ∷ gs) (pictured_numbered old (counter_or counter (old_or_none old f.name f.content))
    fs)

module _ {T : Type 0} (m : Meanings T) (lawful : (dirs : List (List ℕ)) (limits : Limits) → IsLawful
    (m dirs limits)) where
  pub take_situation : (asks : Asking) (files : List PictureFile) (objects : List Name)
      (c n : Core T) → IsTaken asks files objects c n → AreIndexed asks (situation_of c)
      → situation_of n ≡ after_take m (value_of c) files objects
  take_situation asks files objects c n t indexed i =
      record {
        picture = (ap (λ f. picture_of f (names n.rows.items)) t.files_are
            ∙ ap (λ os. picture_of (numbered c.files.items c.counter files) os) t.objects_are
            ∙ ap (λ f. picture_in f objects) (pictured_numbered c.files.items c.counter files)) i;
        state =
            t.state indexed i;
      }

  -- a take is one that the machine's laws speak of
  pub take_allowed : (files : List PictureFile) (objects : List Name) (c : Core T) → IsReady c
      → IsEngine m (value_of c) → IsTakeAllowed m (value_of c) files objects
  take_allowed files objects c ready e =
      let h = reached_holds (runner_of (m c.dirs c.limits).build) keeping
      (judge_of (m c.dirs c.limits).check) (situation_of c) e in
      let given = are_numbered {T = T} c.files.items (names c.rows.items) objects c.counter files
      ready.three (λ f. h.inv.facts.number_low (File f)) in
      let numbers = subst (λ f. AreNumbered (keeping {T = T}) (core_picture c)
      (picture_in f objects) (file_number c.files.items)
      (file_number (numbered c.files.items c.counter files)) c.counter
      (counter_after c.files.items c.counter files))
      (pictured_numbered c.files.items c.counter files) given in
      let laws = laws_of (m c.dirs c.limits) (lawful c.dirs c.limits) files objects in
      (laws, keep_laws_of (m c.dirs c.limits).build files objects, numbers)

  pub engine_taken : (asks : Asking) (files : List PictureFile) (objects : List Name) (c n : Core T)
      → IsReady c → IsTaken asks files objects c n → AreIndexed asks (situation_of c)
      → IsEngine m (value_of c) → IsEngine m (value_of n)
  engine_taken asks files objects c n ready t indexed e =
      let next = leads_on (runner_of (m c.dirs c.limits).build) keeping
      (judge_of (m c.dirs c.limits).check) (situation_of c) e
      (take_of c.files.items c.counter files objects) (take_allowed files objects c ready e) in
      let P : Limits → List (List ℕ) → EngineSituation T → Type 0 =
      λ l d x. IsReached (runner_of (m d l).build) keeping (judge_of (m d l).check) x in
      subst (λ l. P l n.dirs (situation_of n)) (sym t.limits)
      (subst (λ d. P c.limits d (situation_of n)) (sym t.dirs)
      (subst (P c.limits c.dirs) (sym (take_situation asks files objects c n t indexed)) next))

  -- the same where events lead, told without them
  pub allowed_take : (files : List PictureFile) (objects : List Name) (c : Core T) → IsReady c
      → ∥ IsEngine m (value_of c) ∥₁ → ∥ IsTakeAllowed m (value_of c) files objects ∥₁
  allowed_take files objects c ready reached = ∥∥₁_map reached (take_allowed files objects c ready)

  -- what holds of the engine after a take, refused or not
  pub record AfterTake (files : List PictureFile) (c n : Core T) {A : Type 0}
      (r : Result A TakeError) : Type 0 where
    pub ready : is_ready n ≡ true
    pub low : n.counter ≤ END_OF_NUMBERS
    pub few : length n.rows.items ≤ MAX_OBJECTS
    pub dirs : n.dirs ≡ c.dirs
    pub limits : n.limits ≡ c.limits
    pub objects : OnOk r (AreObjects files c.dirs (objects_of n))
    pub few_objects : OnOk r (length (objects_of n) ≤ MAX_OBJECTS)
    pub files_are : OnOk r (pictured n.files.items ≡ files)

  pub take_facts : {A : Type 0} (asks : Asking) (files : List PictureFile) (c n : Core T)
      (r : Result A TakeError) → OnOk r (IsPictureTaken asks files c n) → OnErr r (n ≡ c)
      → is_ready c ≡ true → c.counter ≤ END_OF_NUMBERS → length c.rows.items ≤ MAX_OBJECTS
      → AfterTake files c n r
  take_facts asks files c n (Ok a) t before ready low few = record {
    ready = is_ready_of n t.taken.ready;
    low = t.taken.low low;
    few = t.few;
    dirs = t.taken.dirs;
    limits = t.taken.limits;
    objects = t.objects;
    few_objects = subst (λ k. k ≤ MAX_OBJECTS) (sym (names_length n.rows.items)) t.few;
    files_are = ap pictured t.taken.files_are ∙ pictured_numbered c.files.items c.counter files;
  }
  take_facts asks files c n (Err e) t before ready low few = record {
    ready = ap is_ready before ∙ ready;
    low = subst (λ z. z.counter ≤ END_OF_NUMBERS) (sym before) low;
    few = subst (λ z. length z.rows.items ≤ MAX_OBJECTS) (sym before) few;
    dirs = ap (λ z. z.dirs) before;
    limits = ap (λ z. z.limits) before;
    objects = tt;
    few_objects = tt;
    files_are = tt;
  }
