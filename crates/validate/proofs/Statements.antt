-- Bindings and valid statements, one after the other.
use Rattle.std.proofs.Common.{◌≡◌, ℕ, ◌+◌, ◌<◌, List, ◌∷◌, length, drop, get_or, ap, sym, ◌∙◌}
use Rattle.std.proofs.lemmas.List.{drop_more}
use Rattle.path_tree.specs.Plain.{Plain}
use Rattle.path_tree.specs.Find.{get}
use Rattle.questions.specs.Contents.{Answers}
use Rattle.questions.specs.Run.{Meter, then}
use Rattle.type_defs.specs.declared.bindings.Bound.{Bound as RBound}
use Rattle.type_defs.specs.declared.bindings.Valid.{Valid as RValid}
use Rattle.type_defs.specs.BindingsSeen.{bound_seen, bounds_seen, valid_seen}
use Rattle.validate.specs.Checked.{bound_run, bounds_run, valid_run, valids_run}
use Rattle.validate.specs.Means.{Means}
use Rattle.validate.specs.Statements.{valids_seen}

pub bounds_more : (e : Means) (root : Plain) (bs : List RBound) (i : ℕ) (b : RBound) (o : Answers)
    (m : Meter) → i < length bs → b ≡ get_or bs i b
    → bounds_run e root (bounds_seen (drop i bs)) o tt m
    ≡ then (bound_run e (bound_seen b) (get b.terms root) o tt m)
    (λ _. bounds_run e root (bounds_seen (drop (i + 1) bs)) o)
unfolding bounds_run
bounds_more e root bs i b o m h is =
    ap (λ r. bounds_run e root (bounds_seen r) o tt m)
    (drop_more bs i b h ∙ ap (λ r. r ∷ drop (i + 1) bs) (sym is))

pub valids_more : (e : Means) (root : Plain) (ss : List RValid) (i : ℕ) (s : RValid) (o : Answers)
    (m : Meter) → i < length ss → s ≡ get_or ss i s
    → valids_run e root (valids_seen (drop i ss)) o tt m
    ≡ then (valid_run e (valid_seen s) (get s.terms root) o tt m)
    (λ _. valids_run e root (valids_seen (drop (i + 1) ss)) o)
unfolding valids_run
valids_more e root ss i s o m h is =
    ap (λ r. valids_run e root (valids_seen r) o tt m)
    (drop_more ss i s h ∙ ap (λ r. r ∷ drop (i + 1) ss) (sym is))
