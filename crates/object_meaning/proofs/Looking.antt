-- The build of an object looks for its template first.
use Rattle.std.proofs.Common.{◌≡◌, ◌∙◌, ◌<◌, ◌-◌, ℕ, List, [], ◌∷◌, false, cond, nat_eq, codes, Option, Some, None, refl, sym, ap, subst, arith}
use Rattle.std.proofs.lemmas.Bool.Decides.{nat_tests}
use Rattle.load_path.specs.Candidates.{candidates}
use Rattle.path_tree.specs.Grammar.{is_name}
use Rattle.pan_ast.specs.declared.place.Place.{Place}
use Rattle.pan_ast.specs.declared.work.Limits.{Limits}
use Rattle.questions.specs.declared.key.Key.TheVariants.{File}
use Rattle.questions.specs.Contents.{Missing, Answers, answer_in}
use Rattle.questions.specs.Run.{Meter, Asks, ◌>>=◌, give, still}
use Rattle.questions.specs.Told.{answer_by, whole}
use Rattle.dml_meaning.specs.Around.{Around}
use Rattle.dml_meaning.specs.Lookups.{Present, first_present, candidates_of, on_bytes, or_fault, named_so, template_named}
use Rattle.dml_meaning.specs.Run.{Look}
use Rattle.template_meaning.specs.Program.{Site, no_program, at_top, around_in}
use Rattle.template_meaning.specs.Statements.{Run}
use Rattle.template_meaning.specs.Objects.{top_place, run_top, object_run}
use Rattle.runner.specs.Looking.{Looks, LooksForTemplates}
use Rattle.runner.proofs.Looking.{spent, GoesThrough, looks_through}
use Rattle.object_meaning.specs.Builds.{site_at, defaults_run, built_run, build_ending}
use Rattle.object_meaning.specs.Meanings.{meaning_of}

-- files that are looked for

some_left : (n : ℕ) → 0 < n → nat_eq n 0 ≡ false
some_left n h = grind (arith, nat_tests)

module _ (p : Place) (n : List ℕ) (names : List (List ℕ)) (o : Answers) (m : Meter)
    (left : nat_eq m.left 0 ≡ false) where
  file_asked : o (File n) ≡ None → (k : Meter) × (first_present p (n ∷ names) o tt m
      ≡ Asks (File n) k)
  unfolding first_present
  file_asked new = (record { left = m.left - 1; asked = m.asked }, rw left (rw new refl))

  file_missing : o (File n) ≡ Some Missing → first_present p (n ∷ names) o tt m
      ≡ first_present p names o tt (spent n m)
  unfolding first_present
  file_missing missing = rw left (rw missing refl)

-- the build, by what looks for the template's file

module _ (site : Site) where
  abbrev a : Around
  a = around_in site (at_top site) no_program

  abbrev p : Place
  p = top_place site.object

  abbrev built_by : Look (Option Present) → Run Place
  built_by look =
      still (look >>= (λ file. on_bytes p site.object (λ f bs. or_fault (a.reading f bs)) file >>=
      (λ z. named_so site.object z)))
      >>= (λ z. run_top site z >>= (λ u. give z.place))
      >>= (λ header. defaults_run >>= (λ u. give header))

  built_is : built_run site
      ≡ built_by (cond (is_name site.object) (first_present p
      (candidates_of a site.object (codes ".pan"))) (give None))
  unfolding built_run object_run template_named
  built_is = refl

  through : GoesThrough (λ names o m. built_by (first_present p names) o no_program m)
  through = record {
    asks = λ n names o m left new. let found =
        file_asked p n names o m (some_left m.left left) new in
        (found.0, ap (λ z. built_by (λ o s m. z) o no_program m) found.1);
    passes = λ n names o m left missing. ap (λ z. built_by (λ o s m. z) o no_program m)
        (file_missing p n names o m (some_left m.left left) missing);
  }

pub looks_for_template : (dirs : List (List ℕ)) (limits : Limits)
    → LooksForTemplates (meaning_of dirs limits) dirs
looks_for_template dirs limits o name within =
    let site = site_at dirs limits o in
    let named : built_run site
    ≡ built_by site (first_present (top_place o) (candidates o (codes ".pan") [] dirs)) =
    built_is site ∙ ap (λ b. built_by site (cond b
    (first_present (top_place o) (candidates o (codes ".pan") [] dirs)) (give None))) name in
    subst (λ (r : Run Place). Looks (λ qs. answer_by (build_ending site)
    (r (answer_in qs) no_program whole)) (candidates o (codes ".pan") [] dirs) [])
    (sym named)
    (looks_through (λ names o' m. built_by site (first_present (top_place o) names) o' no_program m)
    (through site) (build_ending site) o (codes ".pan") dirs within)
