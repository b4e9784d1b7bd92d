-- A change that is refused ends as the definition does.
use Rattle.std.proofs.Common.{◌≡◌, refl, sym, ap, ℕ, Bool, true, false, List, [], ◌∷◌, ◌++◌, Result, Ok, Err, IfSome, cond, arith}
use Rattle.pan_ast.specs.declared.place.Place.{Place}
use Rattle.path_tree.specs.declared.path.PutError.TheVariants as put_error
use Rattle.assign_rules.specs.Profiles.{ProfileValue, assign_refusal}
use Rattle.assign_rules.specs.Globals.{GlobalsValue, set_refusal}
use Rattle.assign_rules.specs.declared.profile.AssignError.{AssignError}
use Rattle.assign_rules.specs.declared.profile.AssignError.TheVariants as assign_error
use Rattle.assign_rules.specs.declared.globals.SetError.{SetError}
use Rattle.assign_rules.specs.declared.globals.SetError.TheVariants as set_error
use Rattle.type_defs.specs.declared.type_error.TypeError.{TypeError}
use Rattle.type_defs.specs.declared.type_error.TypeError.TheVariants as type_error
use Rattle.type_defs.specs.Refusals.{type_refusal}
use Rattle.type_defs.specs.Resolved.{Resolved}
use Rattle.dml_world.specs.declared.stop.Stop.{Stop}
use Rattle.dml_world.specs.declared.stop.Stop.TheVariants as stop
use Rattle.dml_world.specs.declared.frame.DefineError.{DefineError}
use Rattle.dml_world.specs.declared.frame.DefineError.TheVariants as define_error
use Rattle.dml_world.specs.Functions.{defined}
use Rattle.dml_world.specs.Exits.{IsStop, Stops}
use Rattle.dml_meaning.specs.Around.{Function, ValueCalls, is_function}
use Rattle.pan_ast.specs.declared.fault.Fault.{Fault}
use Rattle.pan_ast.specs.Syntax.{Item}
use Rattle.questions.specs.Contents.{Answers}
use Rattle.questions.specs.Run.{Meter, Outcome, Failed, then}
use Rattle.questions.specs.Told.{LeavesAtMost}
use Rattle.template_meaning.specs.Program.{Program}
use Rattle.template_meaning.specs.Statements.{or_unchanged, or_unset, or_no_type}
use Rattle.plain_statements.specs.Refusals.{IsUnassigned, IsUnset, IsUntyped}

pub stop_fails : (X : Type 0) (x : Stop) (f : Fault) (m : Meter) → IsStop x f
    → Stops {S = Program} {Y = X} x m (Failed f m)
stop_fails X stop.Memory f m h = omega arith
stop_fails X (stop.Fault g) f m h = ap (λ z. Failed z m) (sym h)
stop_fails X (stop.Need q) f m h = absurd h

pub unassigned_comes : (X : Type 0) (e : AssignError) (x : Stop) (p : Place) (d : List ℕ)
    (r : Result ProfileValue AssignError) (o : Answers) (s : Program) (m : Meter)
    (k : ProfileValue → Program → Meter → Outcome Program X) → IsUnassigned e x p d
    → IfSome (assign_refusal e) (λ f. r ≡ Err f) → LeavesAtMost m.left
    (then (or_unchanged p d r o s m) k) → Stops {S = Program} {Y = X} x m
    (then (or_unchanged p d r o s m) k)
unassigned_comes X assign_error.Memory x p d r o s m k h is l = rw h l
unassigned_comes X assign_error.Final x p d r o s m k h is l = rw is (stop_fails X x _ m h)
unassigned_comes X assign_error.NotDict x p d r o s m k h is l = rw is (stop_fails X x _ m h)
unassigned_comes X (assign_error.Put put_error.TooLarge) x p d r o s m k h is l =
    rw is (stop_fails X x _ m h)
unassigned_comes X (assign_error.Put put_error.TooHigh) x p d r o s m k h is l =
    rw is (stop_fails X x _ m h)
unassigned_comes X (assign_error.Put (put_error.ThroughProperty n)) x p d r o s m k h is l =
    rw is (stop_fails X x _ m h)
unassigned_comes X (assign_error.Put put_error.KeyInList) x p d r o s m k h is l =
    rw is (stop_fails X x _ m h)
unassigned_comes X (assign_error.Put put_error.IndexInDict) x p d r o s m k h is l =
    rw is (stop_fails X x _ m h)
unassigned_comes X (assign_error.Put put_error.Memory) x p d r o s m k h is l =
    rw is (stop_fails X x _ m h)

pub unset_comes : (X : Type 0) (e : SetError) (x : Stop) (p : Place) (d : List ℕ)
    (r : Result GlobalsValue SetError) (o : Answers) (s : Program) (m : Meter)
    (k : GlobalsValue → Program → Meter → Outcome Program X) → IsUnset e x p d
    → IfSome (set_refusal e) (λ f. r ≡ Err f) → LeavesAtMost m.left (then (or_unset p d r o s m) k)
    → Stops {S = Program} {Y = X} x m (then (or_unset p d r o s m) k)
unset_comes X set_error.Memory x p d r o s m k h is l = rw h l
unset_comes X set_error.Automatic x p d r o s m k h is l = rw is (stop_fails X x _ m h)
unset_comes X set_error.Final x p d r o s m k h is l = rw is (stop_fails X x _ m h)

pub untyped_comes : (e : TypeError) (x : Stop) (q : Place) (r : Result Resolved TypeError)
    (o : Answers) (s : Program) (m : Meter) → IsUntyped e x
    → IfSome (type_refusal e) (λ f. r ≡ Err f) → LeavesAtMost m.left (or_no_type q r o s m)
    → Stops {S = Program} {Y = Resolved} x m (or_no_type q r o s m)
untyped_comes type_error.Memory x q r o s m h is l = rw h l
untyped_comes (type_error.NoType p name) x q r o s m h is l = rw is (stop_fails Resolved x _ m h)
untyped_comes (type_error.Redefined p key) x q r o s m h is l = rw is (stop_fails Resolved x _ m h)
untyped_comes (type_error.BadRange p) x q r o s m h is l = rw is (stop_fails Resolved x _ m h)
untyped_comes (type_error.TooDeep p) x q r o s m h is l = rw is (stop_fails Resolved x _ m h)

-- what the definition of a function that was made, or refused, says of its name

pub defined_ok : (calls : ValueCalls) (f : List ℕ) (i : Item) (fs gs : List Function)
    → defined calls f i fs ≡ Ok gs → (is_function calls fs f ≡ false)
    × (gs ≡ fs ++ record { name = f; body = i } ∷ [])
defined_ok calls f i fs gs e = at (is_function calls fs f) refl e
  where
    at : (b : Bool) → is_function calls fs f ≡ b → cond b (Err define_error.Redefined)
        (Ok (fs ++ record { name = f; body = i } ∷ [])) ≡ Ok gs → (is_function calls fs f ≡ false)
        × (gs ≡ fs ++ record { name = f; body = i } ∷ [])
    at true is h = let clash : ◌≡◌ {A = Result (List Function) DefineError}
        (Err define_error.Redefined) (Ok gs) = h in absurd cc
    at false is h = (
      is,
      let same : ◌≡◌ {A = Result (List Function) DefineError}
          (Ok (fs ++ record { name = f; body = i } ∷ [])) (Ok gs) = h in cc,
    )

pub defined_err : (calls : ValueCalls) (f : List ℕ) (i : Item) (fs : List Function)
    → defined calls f i fs ≡ Err define_error.Redefined → is_function calls fs f ≡ true
defined_err calls f i fs e = at (is_function calls fs f) refl e
  where
    at : (b : Bool) → is_function calls fs f ≡ b → cond b (Err define_error.Redefined)
        (Ok (fs ++ record { name = f; body = i } ∷ [])) ≡ Err define_error.Redefined
        → is_function calls fs f ≡ true
    at true is h = is
    at false is h = let clash : ◌≡◌ {A = Result (List Function) DefineError}
        (Ok (fs ++ record { name = f; body = i } ∷ [])) (Err define_error.Redefined) = h in
        absurd cc

pub ruleset defined_ends = (defined_ok, defined_err)
