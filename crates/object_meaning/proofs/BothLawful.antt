-- Builds and checks are lawful runs, and so their laws hold.
use Rattle.std.proofs.Common.{refl, ℕ, List, true}
use Rattle.path_tree.specs.Paths.{path_text}
use Rattle.pan_ast.specs.declared.work.Limits.{Limits}
use Rattle.pan_template.specs.TemplateOf.{template_of}
use Rattle.questions.specs.declared.key.Key.{Key}
use Rattle.questions.specs.Laws.{MayAsk}
use Rattle.questions.specs.Told.{IsRanBy, IsWorkOf, IsEnd}
use Rattle.questions.proofs.Lawful.{Lawful, lawful_scoped}
use Rattle.questions.proofs.Runs.{run_laws, ran_is, work_is}
use Rattle.dml_meaning.specs.declared.limits.TheConstants.{MAX_OPEN_ITEMS}
use Rattle.dml_meaning.specs.Laws.{IsReading}
use Rattle.dml_meaning.proofs.Leaves.{look_at_lawful, pieces}
use Rattle.dml_meaning.proofs.Leaving.{dml_leaves, look_at_leaves}
use Rattle.dml_meaning.proofs.Create.{dml_lawful}
use Rattle.dml_meaning.proofs.Items.{eval_lawful}
use Rattle.defaults.proofs.Lawful.{all_lawful}
use Rattle.template_meaning.specs.Program.{Site, no_program}
use Rattle.template_meaning.proofs.EachStatement.{Suits}
use Rattle.template_meaning.proofs.OfObjects.{object_lawful, suits}
use Rattle.validate.specs.Means.{LeaveNoMore}
use Rattle.validate.proofs.Lawful.{LawfulMeans, checked_lawful}
use Rattle.runner.specs.Ends.{is_circular_end, is_circular_verdict}
use Rattle.runner.specs.Meaning.{IsLawful}
use Rattle.runner.specs.declared.ends.Built.{Built}
use Rattle.object_meaning.specs.Rest.{Rest}
use Rattle.object_meaning.specs.Builds.{site_at, defaults_run, built_run, build_ending}
use Rattle.object_meaning.specs.Checks.{around_built, means_of, check_run, check_ending}
use Rattle.object_meaning.specs.Meanings.{meaning_of}
use Rattle.pan_template.proofs.Files.{not_circular}

-- no file's fault is that of a circular object
reading : IsReading template_of
reading = record { plain = not_circular }

-- builds

filled_lawful : (may : Key → Type 0) → Lawful may 0 defaults_run
unfolding defaults_run
filled_lawful may = search (pieces, lawful_scoped, all_lawful) depth 10

built_lawful : (may : Key → Type 0) (site : Site) → Suits may site → Lawful may 0 (built_run site)
unfolding built_run
built_lawful may site w = search (pieces, object_lawful, filled_lawful)

-- checks

means_lawful : (may : Key → Type 0) (site : Site) → Suits may site → (b : Built Rest)
    → LawfulMeans may (means_of site b)
means_lawful may site w b =
    let go = eval_lawful may MAX_OPEN_ITEMS in
    record {
      dml = λ template i v. search (pieces, dml_lawful);
      look = λ p path. look_at_lawful may (around_built site b site.object) w p (path_text path)
          path.anchor path.terms;
    }

-- and leave no more work than they began with, wherever no file's fault is that of a circular
-- object
pub tests_leave : (site : Site) → IsReading site.reading → (b : Built Rest)
    → LeaveNoMore (means_of site b)
tests_leave site w b = record {
  dml = λ template i v. dml_leaves (around_built site b template) w MAX_OPEN_ITEMS true v i;
  look = λ p path. look_at_leaves (around_built site b site.object) w p (path_text path) path.anchor
      path.terms;
}

tested_lawful : (may : Key → Type 0) (site : Site) → Suits may site → (b : Built Rest)
    → Lawful may 0 (check_run site b)
unfolding check_run
tested_lawful may site w b =
    checked_lawful may (means_of site b) (means_lawful may site w b) b.rest.header b.tree
    b.rest.bindings b.rest.valids

-- the laws of both

module _ (dirs : List (List ℕ)) (limits : Limits) where
  abbrev site : List ℕ → Site
  site = site_at dirs limits

  pub build_is_lawful : (object : List ℕ) → Lawful (MayAsk object) 0 (built_run (site object))
  build_is_lawful object = built_lawful (MayAsk object) (site object) (suits (site object) reading)

  pub check_is_lawful : (b : Built Rest) → Lawful (MayAsk b.object) 0 (check_run (site b.object) b)
  check_is_lawful b = tested_lawful (MayAsk b.object) (site b.object)
      (suits (site b.object) reading) b

  build_ends : (object : List ℕ) → IsEnd (build_ending (site object)) is_circular_end
  build_ends object = record { done = λ p s. refl; returned = λ t s. refl; failed = λ f. refl }

  check_ends : IsEnd check_ending is_circular_verdict
  check_ends = record { done = λ u s. refl; returned = λ t s. refl; failed = λ f. refl }

  pub is_lawful : IsLawful (meaning_of dirs limits)
  is_lawful = record {
    builds = λ object. run_laws (MayAsk object) (built_run (site object)) no_program
        (build_ending (site object)) (build_is_lawful object) is_circular_end (build_ends object);
    checks = λ b. run_laws (MayAsk b.object) (check_run (site b.object) b) tt check_ending
        (check_is_lawful b) is_circular_verdict check_ends;
  }

  pub build_ran : (object : List ℕ) → IsRanBy (build_ending (site object)) (built_run (site object))
      no_program
  build_ran object = ran_is (MayAsk object) (built_run (site object)) no_program
      (build_ending (site object)) (build_is_lawful object)

  pub build_work : (object : List ℕ) → IsWorkOf (build_ending (site object))
      (built_run (site object)) no_program
  build_work object = work_is (MayAsk object) (built_run (site object)) no_program
      (build_ending (site object)) (build_is_lawful object)

  pub check_ran : (b : Built Rest) → IsRanBy check_ending (check_run (site b.object) b) tt
  check_ran b = ran_is (MayAsk b.object) (check_run (site b.object) b) tt check_ending
      (check_is_lawful b)

  pub check_work : (b : Built Rest) → IsWorkOf check_ending (check_run (site b.object) b) tt
  check_work b = work_is (MayAsk b.object) (check_run (site b.object) b) tt check_ending
      (check_is_lawful b)
