-- Without their places the leaves that are told of an object are those of its profile.
use Rattle.std.proofs.Common.{◌≡◌, List, [], Option, Some, None, Ok, Err, IfSome, refl, sym, ap, ◌∙◌, subst, ⊎_elim}
use Rattle.asking.specs.Asked.{Ends}
use Rattle.load_path.specs.declared.picture.PictureFile.{PictureFile}
use Rattle.path_tree.specs.Plain.{Plain}
use Rattle.pan_blame.proofs.Shown.{shows_tree}
use Rattle.questions.specs.declared.key.Key.{Key}
use Rattle.questions.specs.Contents.{Content}
use Rattle.questions.specs.Told.{more_than_asked}
use Rattle.runner.specs.Ends.{End, Verdict}
use Rattle.runner.specs.Logged.{IsLogFor, LogItsTrees}
use Rattle.runner.specs.Meaning.{Logged, Meaning, IsLawful}
use Rattle.runner.specs.declared.ends.Built.{Built}
use Rattle.engine_laws.specs.Names.{Name}
use Rattle.engine_laws.specs.Bounded.{content, told_end}
use Rattle.engine_laws.specs.Engine.{verdict}
use Rattle.engine_laws.proofs.Truth.{fixed}
use Rattle.engine_machine.specs.Compiled.{built_end, by_verdict, checked_end, compiled}
use Rattle.engine_machine.specs.Machine.{Kept, nowhere, runner_of, judge_of}
use Rattle.engine_machine.specs.Pictures.{picture_in}
use Rattle.engine_machine.proofs.RunnerLaws.{laws_of}
use Rattle.run_again.proofs.Running.{scratch_by}
use Rattle.blamed_works.specs.Profiles.{TellsTree, TellsProfile}

-- the leaves of a log that gives the tree
pub tells_tree : (l : Option Logged) (tree : Plain) → IfSome l (IsLogFor tree)
    → IfSome l (TellsTree tree)
tells_tree None tree e = tt
tells_tree (Some l) tree e = shows_tree l.header l.changes tree e.gives

module _ {T : Type 0} (m : Meaning T) (lawful : IsLawful m) (logged : LogItsTrees m)
    (files : List PictureFile) (objects : List Name) (o : Name) where
  abbrev end : End T
  end = built_end m files objects o

  -- what a build gives from scratch is its end by some answers
  build_ends : (b : Built T) → end ≡ Ok b → (asked : List (Key × Content))
      × (m.build o asked ≡ Ends (Ok b))
  build_ends b is =
      ⊎_elim
      (λ (never : told_end (Err nowhere) (m.build o)
      (content (runner_of m.build) (picture_in files objects)) more_than_asked [] ≡ Err
      nowhere).
      absurd (let clash : ◌≡◌ {A = End T} (Ok b) (Err nowhere) = sym is ∙ again ∙ never in cc))
      (λ (by : (asked : List (Key × Content)) ×
      (m.build o asked ≡ Ends (told_end (Err nowhere) (m.build o)
      (content (runner_of m.build) (picture_in files objects)) more_than_asked []))).
      (by.0, by.1 ∙ ap Ends (sym again ∙ is)))
      (scratch_by (m.build o) (Err nowhere) (content (runner_of m.build) (picture_in files objects))
      more_than_asked [])
    where
      again : end ≡ told_end (Err nowhere) (m.build o)
          (content (runner_of m.build) (picture_in files objects)) more_than_asked []
      again = fixed (runner_of m.build) (picture_in files objects)
          (laws_of m lawful files objects) o

  tree_of : (b : Built T) (tree : Plain) (v : Verdict) → by_verdict b.tree v ≡ Ok tree
      → b.tree ≡ tree
  tree_of b tree None e = same b.tree tree e
    where
      same : (t u : Plain) → ◌≡◌ {A = Kept} (Ok t) (Ok u) → t ≡ u
      same t u e = cc
  tree_of b tree (Some f) e = absurd (let clash : ◌≡◌ {A = Kept} (Err f) (Ok tree) = e in cc)

  pub tells_profile : (tree : Plain) → compiled m files objects o ≡ Ok tree
      → TellsProfile m files objects o tree
  tells_profile tree is = at end refl is
    where
      at : (r : End T) → end ≡ r → checked_end m files objects r ≡ Ok tree
          → TellsProfile m files objects o tree
      at (Err f) ends checked = absurd (let clash : ◌≡◌ {A = Kept} (Err f)
          (Ok tree) = checked in cc)
      at (Ok b) ends checked =
          let by = build_ends b ends in
          let same = tree_of b tree (verdict (runner_of m.build) (judge_of m.check)
          (picture_in files objects) (Ok b)) checked in
          record {
            built = b;
            ends = ends;
            same = same;
            leaves = tells_tree (m.log b.rest) tree
                (subst (λ t. IfSome (m.log b.rest) (IsLogFor t)) same (logged o by.0 b by.1));
          }

  -- where the tree is whole, what was built is there
  pub built_of : (tree : Plain) → compiled m files objects o ≡ Ok tree
      → (b : Built T) × (end ≡ Ok b)
  built_of tree is = let t = tells_profile tree is in (t.built, t.ends)
