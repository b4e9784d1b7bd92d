-- A change without indexes, which sets a name as a whole.
use Rattle.std.proofs.Common.{◌≡◌, ◌∙◌, ap, refl, ℕ, ◌<◌, List, [], ◌∷◌, length, Ok, Err, Bool, true, false, ◌&&◌, unwrap_or, cond, arith}
use Rattle.std.proofs.lemmas.Bool.Decides.{nat_tests}
use Rattle.std.specs.Prelude.{nat_lt}
use Rattle.base.specs.declared.limits.TheConstants.{MAX_TREE_HEIGHT, MAX_TREE_SIZE}
use Rattle.path_tree.specs.Plain.{Plain, dict, list, text, long, boolean, undef, null, IsTree, tree_height, tree_size}
use Rattle.path_tree.specs.Put.{put, within_height}
use Rattle.path_tree.specs.declared.path.PutError.{PutError}
use Rattle.path_tree.specs.declared.path.PutError.TheVariants.{TooLarge, TooHigh}
use Rattle.pan_ast.specs.declared.place.Place.{Place}
use Rattle.questions.specs.Contents.{Answers}
use Rattle.questions.specs.Run.{Meter, Done, then}
use Rattle.dml_meaning.specs.Run.{Env}
use Rattle.dml_meaning.specs.Indexes.{changed, put_code}
use Rattle.dml_meaning.specs.Names.{change, root_of, set_root, with_root}
use Rattle.dml_meaning.specs.Meaning.{set_value, steps}
use Rattle.dml_world.specs.declared.stop.Exit.{Exit}
use Rattle.dml_world.specs.Exits.{Ends}
use Rattle.dml_leaves.proofs.Stopping.{change_stops}

-- two tests, in the other order
pub turned : (a b : Bool) → (a && b) ≡ (b && a)
turned true true = refl
turned true false = refl
turned false true = refl
turned false false = refl

not_refused : (b : Bool) (e : PutError) (t : Plain) → b ≡ false
    → cond b (Err e) (Ok t) ≡ Ok t
not_refused b e t h = rw h refl

-- a tree that is put as a whole is within the limits
put_whole : (v t : Plain) → IsTree v → put [] v t ≡ Ok v
put_whole v t is =
    ap within_height (not_refused (nat_lt MAX_TREE_SIZE (tree_size v)) TooLarge v
    (let h = is.size in grind (arith, nat_tests)))
    ∙ not_refused (nat_lt MAX_TREE_HEIGHT (tree_height v)) TooHigh v
    (let h = is.height in grind (arith, nat_tests))

changed_whole : (v t : Plain) → IsTree v → changed [] v t ≡ Ok v
changed_whole (dict fs) t is = ap put_code (put_whole (dict fs) t is)
changed_whole (list ts) t is = ap put_code (put_whole (list ts) t is)
changed_whole (text bs) t is = ap put_code (put_whole (text bs) t is)
changed_whole (long z) t is = ap put_code (put_whole (long z) t is)
changed_whole (boolean b) t is = ap put_code (put_whole (boolean b) t is)
changed_whole undef t is = ap put_code (put_whole undef t is)
changed_whole null t is = refl

-- without indexes the name gets the value
pub change_whole : (p : Place) (x : List ℕ) (v : Plain) (o : Answers) (e : Env) (m : Meter)
    → IsTree v → change p x [] v o e m ≡ Done tt (with_root x v e) m
change_whole p x v o e m is =
    ap (λ r. set_root p x r o e m) (changed_whole v (unwrap_or (root_of e x) undef) is)

no_keys : (ks : List Plain) → length ks < 1 → ks ≡ []
no_keys [] h = refl
no_keys (k ∷ ks) h = absurd (omega arith)

-- an assignment without indexes takes no step
pub whole_set : (p : Place) (x : List ℕ) (ks : List Plain) (v : Plain) (o : Answers) (e s : Env)
    (m n : Meter) → length ks < 1 → change p x [] v o e m ≡ Done tt s n
    → set_value p x ks v o e m ≡ Done v s n
unfolding steps
whole_set p x ks v o e s m n is h =
    rw (no_keys ks is) (ap (λ z. then z (λ u t l. Done v t l)) h)

-- and ends where the change does
pub whole_stops : (end : Exit) (p : Place) (x : List ℕ) (ks : List Plain) (v : Plain) (o : Answers)
    (e s : Env) (m n : Meter) → length ks < 1 → Ends end s n (change p x [] v o e m)
    → Ends end s n (set_value p x ks v o e m)
unfolding steps
whole_stops end p x ks v o e s m n is h =
    rw (no_keys ks is) (change_stops end p x [] v o e s m n h)
