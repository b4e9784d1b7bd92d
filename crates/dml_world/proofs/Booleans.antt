-- Values that are booleans, and others.
use Rattle.std.proofs.Common.{◌≡◌, ◌≢◌, refl, true, false, Some, None}
use Rattle.path_tree.specs.Plain.{Plain, dict, list, text, long, boolean, undef, null}
use Rattle.path_tree.specs.Find.{boolean_of}
use Rattle.pan_ast.specs.declared.place.Place.{Place}
use Rattle.pan_ast.specs.declared.fault.Code.{Code}
use Rattle.questions.specs.Contents.{Answers}
use Rattle.questions.specs.Run.{Meter, fail, then}
use Rattle.dml_meaning.specs.Run.{Env, Run}
use Rattle.dml_meaning.specs.Leaves.{as_boolean, apply_boolean, both, either}

-- what is no boolean
pub booleans : (c : Code) (p : Place) (t : Plain) (o : Answers) (e : Env) (m : Meter) → boolean_of t
    ≡ None → as_boolean c p t o e m ≡ fail c p o e m
booleans c p (boolean b) o e m h = absurd (cc)
booleans c p (dict fs) o e m h = refl
booleans c p (list ts) o e m h = refl
booleans c p (text bs) o e m h = refl
booleans c p (long z) o e m h = refl
booleans c p undef o e m h = refl
booleans c p null o e m h = refl

-- what does not let the right operand decide
pub others_both : (p : Place) (r : Run Plain) (t : Plain) (o : Answers) (e : Env) (m : Meter)
    → boolean_of t ≢ Some true → both p r t o e m ≡ apply_boolean p t o e m
others_both p r (boolean true) o e m h = absurd (h refl)
others_both p r (boolean false) o e m h = refl
others_both p r (dict fs) o e m h = refl
others_both p r (list ts) o e m h = refl
others_both p r (text bs) o e m h = refl
others_both p r (long z) o e m h = refl
others_both p r undef o e m h = refl
others_both p r null o e m h = refl

pub others_either : (p : Place) (r : Run Plain) (t : Plain) (o : Answers) (e : Env) (m : Meter)
    → boolean_of t ≢ Some false → either p r t o e m ≡ apply_boolean p t o e m
others_either p r (boolean false) o e m h = absurd (h refl)
others_either p r (boolean true) o e m h = refl
others_either p r (dict fs) o e m h = refl
others_either p r (list ts) o e m h = refl
others_either p r (text bs) o e m h = refl
others_either p r (long z) o e m h = refl
others_either p r undef o e m h = refl
others_either p r null o e m h = refl

-- and what does
pub true_both : (p : Place) (r : Run Plain) (t : Plain) (o : Answers) (e : Env) (m : Meter)
    → boolean_of t ≡ Some true → both p r t o e m ≡ then (r o e m) (λ u. apply_boolean p u o)
true_both p r (boolean true) o e m h = refl
true_both p r (boolean false) o e m h = absurd cc
true_both p r (dict fs) o e m h = absurd cc
true_both p r (list ts) o e m h = absurd cc
true_both p r (text bs) o e m h = absurd cc
true_both p r (long z) o e m h = absurd cc
true_both p r undef o e m h = absurd cc
true_both p r null o e m h = absurd cc

pub false_either : (p : Place) (r : Run Plain) (t : Plain) (o : Answers) (e : Env) (m : Meter)
    → boolean_of t ≡ Some false → either p r t o e m ≡ then (r o e m) (λ u. apply_boolean p u o)
false_either p r (boolean false) o e m h = refl
false_either p r (boolean true) o e m h = absurd cc
false_either p r (dict fs) o e m h = absurd cc
false_either p r (list ts) o e m h = absurd cc
false_either p r (text bs) o e m h = absurd cc
false_either p r (long z) o e m h = absurd cc
false_either p r undef o e m h = absurd cc
false_either p r null o e m h = absurd cc

pub ruleset boths = (others_both, true_both)

pub ruleset eithers = (others_either, false_either)
