-- How an assignment and a longer list end where a part of them does.
use Rattle.std.proofs.Common.{ℕ, List, length, arith}
use Rattle.path_tree.specs.Plain.{Plain}
use Rattle.pan_ast.specs.declared.place.Place.{Place}
use Rattle.questions.specs.Contents.{Answers}
use Rattle.questions.specs.Run.{Meter, Outcome, Done, then}
use Rattle.questions.specs.Told.{LeavesAtMost}
use Rattle.dml_meaning.specs.Run.{Env}
use Rattle.dml_meaning.specs.Names.{change}
use Rattle.dml_meaning.specs.Meaning.{set_value, steps}
use Rattle.dml_meaning.proofs.Leaving.{change_leaves, then_leaves}
use Rattle.dml_world.specs.declared.stop.Exit.{Exit}
use Rattle.dml_world.specs.Exits.{Ends}
use Rattle.dml_world.proofs.Ends.{ends_then}

changed_leaves : (p : Place) (x : List ℕ) (ks : List Plain) (v : Plain) (o : Answers) (e : Env)
    (m : Meter) → LeavesAtMost m.left (then (change p x ks v o e m) (λ u s n. Done v s n))
changed_leaves p x ks v o e m =
    then_leaves m.left (change p x ks v o e m) (λ u s n. Done v s n) (λ u s n. omega arith)
    (change_leaves p x ks v o e m)

-- the steps of the indexes, in front of the change
pub steps_stop : (end : Exit) (p : Place) (x : List ℕ) (ks : List Plain) (v : Plain) (o : Answers)
    (e s : Env) (m n : Meter) → Ends end s n (steps (length ks) p o e m)
    → Ends end s n (set_value p x ks v o e m)
steps_stop end p x ks v o e s m n h =
    ends_then end s n (steps (length ks) p o e m)
    (λ u t l. then (change p x ks v o t l) (λ u s n. Done v s n))
    (λ u t l. changed_leaves p x ks v o t l) h

-- the change, after them
pub change_stops : (end : Exit) (p : Place) (x : List ℕ) (ks : List Plain) (v : Plain) (o : Answers)
    (e s : Env) (m n : Meter) → Ends end s n (change p x ks v o e m)
    → Ends end s n (then (change p x ks v o e m) (λ u s n. Done v s n))
change_stops end p x ks v o e s m n h =
    ends_then end s n (change p x ks v o e m) (λ u s n. Done v s n) (λ u s n. omega arith) h
