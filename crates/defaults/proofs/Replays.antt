-- A filling keeps that the log gives the tree; where the log has not grown, the tree is as before.
use Rattle.std.proofs.Common.{◌≡◌, ◌≤◌, ◌∙◌, ap, refl, subst, List, [], ◌∷◌, Some, None, Result, Ok, Err, OnOk, length, arith}
use Rattle.std.proofs.lemmas.List.{length-append}
use Rattle.path_tree.specs.Plain.{Plain, dict, no_fields}
use Rattle.path_tree.specs.Put.{put}
use Rattle.path_tree.specs.declared.path.Term.{Term}
use Rattle.pan_ast.specs.declared.failure.Failure.{Failure}
use Rattle.pan_ast.specs.declared.place.Place.{Place}
use Rattle.pan_ast.specs.declared.work.Work.{Work}
use Rattle.assign_rules.specs.Profiles.{IsLogOf, goes_on, replayed_value}
use Rattle.assign_rules.proofs.Logs.{replayed_more}
use Rattle.questions.specs.Contents.{Answers}
use Rattle.questions.specs.Run.{Meter, Outcome, Done, Returned, Failed, Asks}
use Rattle.type_defs.specs.Bindings.{Bound}
use Rattle.type_defs.specs.Resolved.{Resolved}
use Rattle.defaults.specs.Fills.{Fills, meter}
use Rattle.defaults.specs.Filled.{Store, all_filled, default_change, filled}
use Rattle.defaults.proofs.Kept.{KeptFrom, keeps_all, keeps_filled, with_default}

-- where the log gives the tree, it does so afterwards
abbrev Replays : Store → Store → Type 0
Replays s t = IsLogOf s.log s.tree → IsLogOf t.log t.tree

put_replays : (p : Place) (ms : List Term) (d : Plain) (s : Store) (t : Plain) → put ms d s.tree
    ≡ Ok t → Replays s (with_default p ms d s t)
put_replays p ms d s t is log =
    replayed_more s.log (default_change p ms d) (dict no_fields)
    ∙ ap (goes_on (replayed_value ms (Some d))) log ∙ is

-- where a call that fills succeeds, the log that it leaves gives the tree that it leaves
pub fill_replays : (r : Result (Unit {0}) Failure) (bs : List Bound) (s t : Store)
    (before after : Work) → Fills r s before t after (all_filled bs) → IsLogOf s.log s.tree
    → OnOk r (IsLogOf t.log t.tree)
fill_replays (Ok x) bs s t before after h log =
    subst (KeptFrom Replays (λ u g. g) (λ u v w g k l. k (g l)) put_replays s) (h (λ k. None) [])
    (keeps_all Replays (λ u g. g) (λ u v w g k l. k (g l)) put_replays bs (λ k. None) s
    (meter before [])) log
fill_replays (Err e) bs s t before after h log = tt

-- the log of what a run leaves gives its tree
abbrev pub LeavesLog : Outcome Store (Unit {0}) → Type 0
LeavesLog (Done x t m) = IsLogOf t.log t.tree
LeavesLog (Returned u t m) = IsLogOf t.log t.tree
LeavesLog _ = Unit {0}

pub all_replays : (bs : List Bound) (o : Answers) (s : Store) (m : Meter) → IsLogOf s.log s.tree
    → LeavesLog (all_filled bs o s m)
all_replays bs o s m log =
    at (all_filled bs o s m) (keeps_all Replays (λ u g. g) (λ u v w g k l. k (g l)) put_replays bs o
    s m)
  where
    at : (z : Outcome Store (Unit {0})) → KeptFrom Replays (λ u g. g) (λ u v w g k l. k (g l))
        put_replays s z → LeavesLog z
    at (Done x t n) k = k log
    at (Returned u t n) k = k log
    at (Failed f n) k = tt
    at (Asks q n) k = tt

-- the log never shrinks, and where it has not grown, the tree is as before
abbrev Grows : Store → Store → Type 0
Grows s t = (length s.log ≤ length t.log) × (length t.log ≡ length s.log → t.tree ≡ s.tree)

grows_same : (s : Store) → Grows s s
grows_same s = (omega arith, λ h. refl)

grows_twice : (s t u : Store) → Grows s t → Grows t u → Grows s u
grows_twice s t u h k =
    let first = h.0 in
    let second = k.0 in (
      omega (arith, first, second),
      λ e. k.1 (omega (arith, first, second, e))
          ∙ h.1 (omega (arith, first, second, e)),
    )

put_grows : (p : Place) (ms : List Term) (d : Plain) (s : Store) (t : Plain) → put ms d s.tree
    ≡ Ok t → Grows s (with_default p ms d s t)
put_grows p ms d s t is =
    let longer = length-append s.log (default_change p ms d ∷ []) in
    (omega (arith, longer), λ e. absurd (omega (arith, longer, e)))

pub fill_unlogged : (r : Result (Unit {0}) Failure) (p : Place) (t : Resolved) (ms : List Term)
    (s u : Store) (before after : Work) → Fills r s before u after (filled p t ms)
    → OnOk r (length u.log ≡ length s.log → u.tree ≡ s.tree)
fill_unlogged (Ok x) p t ms s u before after h =
    (subst (KeptFrom Grows grows_same grows_twice put_grows s) (h (λ k. None) [])
    (keeps_filled Grows grows_same grows_twice put_grows p t ms (λ k. None) s
    (meter before []))).1
fill_unlogged (Err e) p t ms s u before after h = tt
