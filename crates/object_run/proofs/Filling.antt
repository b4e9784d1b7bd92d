-- The defaults of a program, put into its tree and its log.
use Rattle.std.proofs.Common.{◌≡◌, ap, subst, refl, ℕ, List, arith}
use Rattle.path_tree.specs.Plain.{Plain, undef}
use Rattle.pan_ast.specs.declared.change.Change.{Change}
use Rattle.pan_ast.specs.declared.fault.Fault.{Fault}
use Rattle.questions.specs.Contents.{Answers}
use Rattle.questions.specs.Run.{Meter, Outcome, Done, Returned, Failed, Asks, ◌>>=◌, then, give, ended}
use Rattle.questions.specs.Told.{Ending, LeavesAtMost}
use Rattle.pan_ast.specs.declared.place.Place.{Place}
use Rattle.defaults.proofs.Lawful.{all_leave}
use Rattle.dml_meaning.proofs.Leaving.{then_leaves}
use Rattle.dml_world.specs.declared.stop.Stop.{Stop}
use Rattle.dml_world.specs.declared.stop.Stop.TheVariants as stop
use Rattle.dml_world.specs.Exits.{Stops}
use Rattle.template_meaning.specs.Objects.{object_run}
use Rattle.object_run.specs.Ended as end
use Rattle.defaults.specs.Filled.{Store, all_filled}
use Rattle.template_meaning.specs.Program.{Program, Site, no_program}
use Rattle.object_meaning.specs.Builds.{build_ending, built_run, store_of, with_store, defaults_run}

-- an outcome of what fills, as one of the program
put_back : (o : Answers) (s : Program) → Outcome Store (Unit {0}) → Outcome Program (Unit {0})
put_back o s z = then (ended (with_store s) (then z (λ u. give undef o))) (λ t. give tt o)

parts : (s : Program) (tree : Plain) (log : List Change) (P : Store → Type 0) → tree
    ≡ s.profile.tree → log ≡ s.profile.log → P (record { tree = tree; log = log }) → P (store_of s)
parts s tree log P is_tree is_log h =
    subst (λ l. P (record { tree = s.profile.tree; log = l })) is_log
    (subst (λ t. P (record { tree = t; log = log })) is_tree h)

pub filled_done : (o : Answers) (s : Program) (m n : Meter) (tree : Plain) (log : List Change)
    (t : Store) → tree ≡ s.profile.tree → log ≡ s.profile.log
    → all_filled s.bindings o (record { tree = tree; log = log }) m ≡ Done tt t n
    → defaults_run o s m ≡ Done tt (with_store s t) n
unfolding defaults_run put_back
filled_done o s m n tree log t is_tree is_log e =
    ap (put_back o s) (parts s tree log (λ x. all_filled s.bindings o x m ≡ Done tt t n) is_tree
    is_log e)

pub filled_failed : (o : Answers) (s : Program) (m n : Meter) (tree : Plain) (log : List Change)
    (f : Fault) → tree ≡ s.profile.tree → log ≡ s.profile.log
    → all_filled s.bindings o (record { tree = tree; log = log }) m ≡ Failed f n
    → defaults_run o s m ≡ Failed f n
unfolding defaults_run put_back
filled_failed o s m n tree log f is_tree is_log e =
    ap (put_back o s) (parts s tree log (λ x. all_filled s.bindings o x m ≡ Failed f n) is_tree
    is_log e)

-- and what is left of work

put_back_leaves : (o : Answers) (s : Program) (n : ℕ) (z : Outcome Store (Unit {0}))
    → LeavesAtMost n z → LeavesAtMost n (put_back o s z)
unfolding put_back
put_back_leaves o s n (Done u t m) h = h
put_back_leaves o s n (Returned t u m) h = h
put_back_leaves o s n (Failed f m) h = h
put_back_leaves o s n (Asks k m) h = h

pub filled_left : (o : Answers) (s : Program) (m n : Meter) (tree : Plain) (log : List Change)
    → tree ≡ s.profile.tree → log ≡ s.profile.log
    → LeavesAtMost n.left (all_filled s.bindings o (record { tree = tree; log = log }) m)
    → LeavesAtMost n.left (defaults_run o s m)
unfolding defaults_run put_back
filled_left o s m n tree log is_tree is_log h =
    put_back_leaves o s n.left (all_filled s.bindings o (store_of s) m)
    (parts s tree log (λ x. LeavesAtMost n.left (all_filled s.bindings o x m)) is_tree is_log h)

header_leaves : (header : Place) (o : Answers) (s : Program) (m : Meter)
    → LeavesAtMost m.left (then (defaults_run o s m) (λ u t n. Done header t n))
header_leaves header o s m =
    then_leaves m.left (defaults_run o s m) (λ u t n. Done header t n) (λ u t n. omega arith)
    (filled_left o s m m s.profile.tree s.profile.log refl refl
    (all_leave s.bindings o (store_of s) m))

ended_leaves : {S X R : Type 0} → (f : Ending S X R) (n : ℕ) (z : Outcome S X) → LeavesAtMost n z
    → LeavesAtMost n (end.ended f z)
ended_leaves f n (Done x s m) h = h
ended_leaves f n (Returned t s m) h = h
ended_leaves f n (Failed d m) h = h
ended_leaves f n (Asks k m) h = h

-- where the statements of an object do not come to their end
pub build_stops : (site : Site) (x : Stop) (o : Answers) (m n : Meter)
    → Stops x n (object_run site o no_program m) → Stops x n
    (end.ended (build_ending site) (built_run site o no_program m))
unfolding built_run
build_stops site stop.Memory o m n h =
    ended_leaves (build_ending site) n.left (then (object_run site o no_program m)
    (λ header t l. then (defaults_run o t l) (λ u t n. Done header t n)))
    (then_leaves n.left (object_run site o no_program m)
    (λ header t l. then (defaults_run o t l) (λ u t n. Done header t n))
    (λ header. header_leaves header o) h)
build_stops site (stop.Fault f) o m n h =
    ap (λ z. end.ended (build_ending site) (then z
    (λ header t l. then (defaults_run o t l) (λ u t n. Done header t n)))) h
build_stops site (stop.Need q) o m n h =
    ap (λ z. end.ended (build_ending site) (then z
    (λ header t l. then (defaults_run o t l) (λ u t n. Done header t n)))) h
