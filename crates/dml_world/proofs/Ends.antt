-- How a refusal ends a run.
use Rattle.std.proofs.Common.{◌≡◌, ap, sym, refl, ℕ, Result, Ok, Err, IfSome, arith}
use Rattle.path_tree.specs.Plain.{Plain}
use Rattle.path_tree.specs.Refusals.{refusal}
use Rattle.path_tree.specs.declared.refused.Refused.{Refused}
use Rattle.path_tree.specs.declared.refused.Refused.TheVariants as refused
use Rattle.pan_ast.specs.declared.fault.Fault.{Fault}
use Rattle.pan_ast.specs.declared.place.Place.{Place}
use Rattle.questions.specs.Contents.{Answers}
use Rattle.questions.specs.Run.{Meter, Outcome, Done, Returned, Failed, Asks, then, beside, fault_at}
use Rattle.questions.specs.Told.{LeavesAtMost}
use Rattle.dml_meaning.specs.Run.{Env}
use Rattle.dml_meaning.proofs.Leaving.{then_leaves}
use Rattle.dml_meaning.specs.Leaves.{code_of, or_refuse}
use Rattle.dml_world.specs.declared.stop.Exit.{Exit}
use Rattle.dml_world.specs.declared.stop.Exit.TheVariants as exit
use Rattle.dml_world.specs.declared.stop.Stop.{Stop}
use Rattle.dml_world.specs.declared.stop.Stop.TheVariants as stop
use Rattle.dml_world.specs.Exits.{Ends, IsFault, IsRefused, Stops, exit_of}

pub fault_ends : (X : Type 0) (x : Exit) (f : Fault) (e : Env) (m : Meter) → IsFault x f
    → Ends {Y = X} x e m (Failed f m)
fault_ends X exit.Memory f e m h = omega arith
fault_ends X (exit.Fault g) f e m h = ap (λ z. Failed z m) (sym h)
fault_ends X (exit.Need q) f e m h = absurd h
fault_ends X (exit.Return t) f e m h = absurd h

refuses : (e : Refused) (x : Exit) (p : Place) (r : Result Plain Refused) (o : Answers) (v : Env)
    (m : Meter) → IsFault x (fault_at (code_of e) p) → r ≡ Err e
    → Ends {Y = Plain} x v m (or_refuse p r o v m)
refuses e x p r o v m h k = rw k (fault_ends Plain x (fault_at (code_of e) p) v m h)

refuse_leaves : (p : Place) (r : Result Plain Refused) (o : Answers) (v : Env) (m : Meter)
    → LeavesAtMost m.left (or_refuse p r o v m)
refuse_leaves p (Ok t) o v m = omega arith
refuse_leaves p (Err e) o v m = omega arith

-- a refusal of what makes a value ends as the definition does
pub refused_comes : (e : Refused) (x : Exit) (p : Place) (r : Result Plain Refused) (o : Answers)
    (v : Env) (m : Meter) → IsRefused e x p → IfSome (refusal e) (λ f. r ≡ Err f)
    → Ends {Y = Plain} x v m (or_refuse p r o v m)
refused_comes refused.Memory x p r o v m h k = rw h (refuse_leaves p r o v m)
refused_comes refused.TypeClash x p r o v m h k = refuses refused.TypeClash x p r o v m h k
refused_comes refused.Overflow x p r o v m h k = refuses refused.Overflow x p r o v m h k
refused_comes refused.ZeroDivisor x p r o v m h k = refuses refused.ZeroDivisor x p r o v m h k
refused_comes refused.BadArgument x p r o v m h k = refuses refused.BadArgument x p r o v m h k
refused_comes refused.BadPattern x p r o v m h k = refuses refused.BadPattern x p r o v m h k
refused_comes refused.BadIndex x p r o v m h k = refuses refused.BadIndex x p r o v m h k
refused_comes refused.TooLarge x p r o v m h k = refuses refused.TooLarge x p r o v m h k

-- an early end in front of more
pub ends_then : {X Y : Type 0} → (x : Exit) (e : Env) (m : Meter) (z : Outcome Env X)
    (f : X → Env → Meter → Outcome Env Y)
    → ((y : X) (s : Env) (n : Meter) → LeavesAtMost n.left (f y s n)) → Ends x e m z
    → Ends x e m (then z f)
ends_then exit.Memory e m z f k h = then_leaves m.left z f k h
ends_then (exit.Fault d) e m z f k h = ap (λ w. then w f) h
ends_then (exit.Need q) e m z f k h = ap (λ w. then w f) h
ends_then (exit.Return t) e m z f k h = ap (λ w. then w f) h

-- a run that stops, in front of more
pub stops_then : {S X Y : Type 0} → (x : Stop) (m : Meter) (z : Outcome S X)
    (f : X → S → Meter → Outcome S Y)
    → ((y : X) (s : S) (n : Meter) → LeavesAtMost n.left (f y s n)) → Stops x m z
    → Stops x m (then z f)
stops_then stop.Memory m z f k h = then_leaves m.left z f k h
stops_then (stop.Fault d) m z f k h = ap (λ w. then w f) h
stops_then (stop.Need q) m z f k h = ap (λ w. then w f) h

-- one without state, in front of more
pub stopped_ends : {X Y : Type 0} → (s : Stop) (x : Exit) (e : Env) (m : Meter)
    (o : Outcome (Unit {0}) X) (f : X → Env → Meter → Outcome Env Y) → x ≡ exit_of s → Stops s m o
    → LeavesAtMost m.left (then (beside e o) f) → Ends x e m (then (beside e o) f)
stopped_ends stop.Memory x e m o f h k l = rw h l
stopped_ends (stop.Fault g) x e m o f h k l = rw (h, k) refl
stopped_ends (stop.Need q) x e m o f h k l = rw (h, k) refl

-- a run without state, beside one
pub beside_leaves : {S X : Type 0} → (s : S) (n : ℕ) (z : Outcome (Unit {0}) X) → LeavesAtMost n z
    → LeavesAtMost n (beside s z)
beside_leaves s n (Done x t m) h = h
beside_leaves s n (Returned u t m) h = h
beside_leaves s n (Failed f m) h = h
beside_leaves s n (Asks k m) h = h

-- and by itself
pub stopped_still : {X : Type 0} → (s : Stop) (x : Exit) (e : Env) (m : Meter)
    (o : Outcome (Unit {0}) X) → x ≡ exit_of s → Stops s m o → Ends x e m (beside e o)
stopped_still stop.Memory x e m o h k = rw h (beside_leaves e m.left o k)
stopped_still (stop.Fault g) x e m o h k = rw (h, k) refl
stopped_still (stop.Need q) x e m o h k = rw (h, k) refl

pub ruleset stops = (stopped_ends, stopped_still)
