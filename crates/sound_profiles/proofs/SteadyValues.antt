-- Names, values and changes are steady runs.
use Rattle.std.proofs.Common.{ℕ, zero, suc, List, [], ◌∷◌, Option, Some, None, Bool, true, false, Result, Ok, Err}
use Rattle.path_tree.specs.Plain.{Plain}
use Rattle.path_tree.specs.Plain as plain
use Rattle.path_tree.specs.Find.{text_of}
use Rattle.path_tree.specs.declared.operators.UnaryOp.{UnaryOp}
use Rattle.path_tree.specs.declared.operators.BinaryOp.{BinaryOp}
use Rattle.path_tree.specs.declared.path.PutError.{PutError}
use Rattle.path_tree.specs.declared.path.PutError.TheVariants as error
use Rattle.path_tree.specs.declared.path.Term.{Term}
use Rattle.path_tree.specs.declared.refused.Refused.{Refused}
use Rattle.pan_ast.specs.declared.place.Place.{Place}
use Rattle.pan_ast.specs.declared.fault.Code.{Code}
use Rattle.dml_meaning.specs.declared.words.Automatic.{Automatic}
use Rattle.dml_meaning.specs.declared.words.Automatic.TheVariants as automatic
use Rattle.dml_meaning.specs.Run.{Run}
use Rattle.dml_meaning.specs.Around.{Around}
use Rattle.dml_meaning.specs.Names.{or_fail_about, read, may_change_by, may_change, set_root, change}
use Rattle.dml_meaning.specs.Leaves.{or_refuse, as_boolean, or_bad_index, literal_run, name_run, apply_index, apply_binary, apply_unary, apply_boolean, both, either, on_text_of, on_text}
use Rattle.dml_meaning.specs.Loops.{assign_name, set_pair}
use Rattle.dml_meaning.specs.Structures.{put_fault, assigned_at, set_key, set_keys}
use Rattle.dml_meaning.specs.Calls.{open_call}
use Rattle.dml_meaning.specs.Meaning.{steps, set_value}
use Rattle.sound_profiles.proofs.Steady.{Steady}
use Rattle.sound_profiles.proofs.SteadyLeaves.{pieces}

-- names

pub about_steady : {X : Type 0} → (c : Code) (p : Place) (d : List ℕ) (o : Option X)
    → Steady (or_fail_about c p d o)
about_steady c p d (Some x) = search pieces
about_steady c p d None = search pieces

read_steady : (a : Around) (p : Place) (x : List ℕ) → Steady (read a p x)
read_steady a p x = search (pieces, about_steady)

change_by_steady : (a : Around) (p : Place) (x : List ℕ) (whole local : Bool) (n : Option Automatic)
    → Steady (may_change_by a p x whole local n)
change_by_steady a p x whole local (Some automatic.OwnValue) = search pieces
change_by_steady a p x whole local None = search pieces
change_by_steady a p x whole local _ = search pieces

pub may_change_steady : (a : Around) (p : Place) (x : List ℕ) (whole : Bool)
    → Steady (may_change a p x whole)
may_change_steady a p x whole = search (pieces, change_by_steady)

-- changes

set_root_steady : (p : Place) (x : List ℕ) (r : Result Plain Code) → Steady (set_root p x r)
set_root_steady p x (Ok t) = search pieces
set_root_steady p x (Err c) = search pieces

pub change_steady : (p : Place) (x : List ℕ) (ks : List Plain) (v : Plain)
    → Steady (change p x ks v)
change_steady p x ks v = search (pieces, set_root_steady)

pub assign_name_steady : (a : Around) (p : Place) (x : List ℕ) (t : Plain)
    → Steady (assign_name a p x t)
assign_name_steady a p x t = search (pieces, may_change_steady, change_steady)

pub set_pair_steady : (a : Around) (p : Place) (k v : List ℕ) (pair : Plain × Plain)
    → Steady (set_pair a p k v pair)
set_pair_steady a p k v pair = search (pieces, assign_name_steady)

steps_steady : (n : ℕ) (p : Place) → Steady (steps n p)
unfolding steps
steps_steady zero p = search pieces
steps_steady (suc n) p = let next = steps_steady n p in search pieces

pub set_value_steady : (p : Place) (x : List ℕ) (ks : List Plain) (v : Plain)
    → Steady (set_value p x ks v)
set_value_steady p x ks v = search (pieces, steps_steady, change_steady)

-- values

pub refuse_steady : (p : Place) (r : Result Plain Refused) → Steady (or_refuse p r)
refuse_steady p (Ok t) = search pieces
refuse_steady p (Err r) = search pieces

pub boolean_steady : (c : Code) (p : Place) (t : Plain) → Steady (as_boolean c p t)
boolean_steady c p (plain.boolean b) = search pieces
boolean_steady c p _ = search pieces

index_steady : (p : Place) (t : Option Plain) → Steady (or_bad_index p t)
index_steady p (Some t) = search pieces
index_steady p None = search pieces

pub literal_steady : (p : Place) (t : Plain) → Steady (literal_run p t)
literal_steady p t = search pieces

pub name_steady : (a : Around) (p : Place) (x : List ℕ) → Steady (name_run a p x)
name_steady a p x = search (pieces, read_steady)

pub apply_index_steady : (p : Place) (t k : Plain) → Steady (apply_index p t k)
apply_index_steady p t k = search (pieces, index_steady)

pub apply_binary_steady : (p : Place) (op : BinaryOp) (s t : Plain) → Steady (apply_binary p op s t)
apply_binary_steady p op s t = search (pieces, refuse_steady)

pub apply_unary_steady : (p : Place) (op : UnaryOp) (t : Plain) → Steady (apply_unary p op t)
apply_unary_steady p op t = search (pieces, refuse_steady)

pub apply_boolean_steady : (p : Place) (t : Plain) → Steady (apply_boolean p t)
apply_boolean_steady p t = search (pieces, boolean_steady)

pub both_steady : (p : Place) (second : Run Plain) (t : Plain) → Steady second
    → Steady (both p second t)
both_steady p second (plain.boolean true) h = search (pieces, apply_boolean_steady)
both_steady p second t h = apply_boolean_steady p t

pub either_steady : (p : Place) (second : Run Plain) (t : Plain) → Steady second
    → Steady (either p second t)
either_steady p second (plain.boolean false) h = search (pieces, apply_boolean_steady)
either_steady p second t h = apply_boolean_steady p t

text_of_steady : (p : Place) (next : List ℕ → Run Plain) (o : Option (List ℕ))
    → ((t : List ℕ) → Steady (next t)) → Steady (on_text_of p next o)
text_of_steady p next (Some t) h = h t
text_of_steady p next None h = search pieces

pub text_steady : (p : Place) (next : List ℕ → Run Plain) (v : Plain)
    → ((t : List ℕ) → Steady (next t)) → Steady (on_text p next v)
text_steady p next v h = text_of_steady p next (text_of v) h

pub open_call_steady : (a : Around) (p : Place) (ts : List Plain) → Steady (open_call a p ts)
open_call_steady a p ts = search (pieces, refuse_steady)

-- what `create` makes

put_steady : {S : Type 0} → (r : Result Plain PutError) (p : Place) (d : List ℕ)
    → Steady {S = S} (put_fault r p d)
put_steady (Ok t) p d = search pieces
put_steady (Err error.TooLarge) p d = search pieces
put_steady (Err error.TooHigh) p d = search pieces
put_steady (Err _) p d = search pieces

pub assigned_steady : {S : Type 0} → (p : Place) (d : List ℕ) (ms : List Term) (t v : Plain)
    → Steady {S = S} (assigned_at p d ms t v)
assigned_steady p d ms t v = search (pieces, put_steady)

set_key_steady : (p : Place) (v t : Plain) (k : List ℕ) → Steady (set_key p v t k)
set_key_steady p v t k = search (pieces, assigned_steady)

pub set_keys_steady : (p : Place) (pairs : List Plain) (t : Plain) → Steady (set_keys p pairs t)
unfolding set_keys
set_keys_steady p [] t = search pieces
set_keys_steady p (k ∷ []) t = search pieces
set_keys_steady p (k ∷ v ∷ ts) t = let next = set_keys_steady p ts in
    search (pieces, text_steady, set_key_steady)
