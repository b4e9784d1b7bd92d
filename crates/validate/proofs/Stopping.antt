-- How a check ends where a part of it does.
use Rattle.std.proofs.Common.{◌≡◌, ap, ℕ, ◌<◌, ◌+◌, List, length, drop, get_or, Result, Err}
use Rattle.path_tree.specs.Plain.{Plain}
use Rattle.path_tree.specs.Children.{child_fields}
use Rattle.path_tree.specs.Find.{get, kind_of}
use Rattle.path_tree.specs.declared.kind.Kind.TheVariants as kind
use Rattle.pan_ast.specs.declared.place.Place.{Place}
use Rattle.questions.specs.Contents.{Answers}
use Rattle.questions.specs.Run.{Meter, Outcome, then}
use Rattle.questions.specs.Told.{LeavesAtMost}
use Rattle.questions.proofs.Runs.{Leaves}
use Rattle.type_defs.specs.declared.bindings.Bound.{Bound as RBound}
use Rattle.type_defs.specs.declared.bindings.Valid.{Valid as RValid}
use Rattle.type_defs.specs.declared.resolved.RecordField.{RecordField as RField}
use Rattle.type_defs.specs.BindingsSeen.{bound_seen, bounds_seen, valid_seen}
use Rattle.type_defs.specs.Resolved.{Resolved, Known, Link, fields_of}
use Rattle.type_defs.specs.ResolvedSeen.{field_seen}
use Rattle.type_defs.specs.Tables.{all_seen}
use Rattle.dml_meaning.proofs.Leaving.{then_leaves}
use Rattle.validate.specs.declared.refusal.Exit.{Exit}
use Rattle.validate.specs.declared.refusal.Exit.TheVariants as exit
use Rattle.validate.specs.declared.stop.Stop.{Stop}
use Rattle.validate.specs.declared.stop.Stop.TheVariants as stop
use Rattle.validate.specs.Check.{visit, check, condition_run, fields_run, shape_run, target_run}
use Rattle.validate.specs.Checked.{bound_run, bounds_run, valid_run, valids_run}
use Rattle.validate.specs.Exits.{ComesOrRefuses, Ends}
use Rattle.validate.specs.Kinds.{link_path}
use Rattle.validate.specs.Means.{LeaveNoMore, Means}
use Rattle.validate.specs.Refusals.{Checks, Refusal, behind, go_on, unless_refused}
use Rattle.validate.specs.Statements.{valids_seen}
use Rattle.validate.specs.Walks.{typed_run}
use Rattle.validate.proofs.Leaving.{behind_leaves, bounds_leave, fields_leave, inside_leaves, unless_leaves, valids_leave}
use Rattle.validate.proofs.Statements.{bounds_more, valids_more}
use Rattle.validate.proofs.Walking.{typed_more}

-- an early end in front of more
ends_then : {X Y : Type 0} → (x : Stop) (m : Meter) (z : Outcome (Unit {0}) X)
    (f : X → Unit {0} → Meter → Outcome (Unit {0}) Y)
    → ((y : X) (s : Unit {0}) (n : Meter) → LeavesAtMost n.left (f y s n)) → Ends x m z
    → Ends x m (then z f)
ends_then stop.Memory m z f k h = then_leaves m.left z f k h
ends_then (stop.Fault d) m z f k h = ap (λ w. then w f) h
ends_then (stop.Need q) m z f k h = ap (λ w. then w f) h

-- the same, where a refusal ends too
judged_then : {X Y Z : Type 0} → (view : X → Y) (x : Exit) (m : Meter) (o : Answers)
    (z : Outcome (Unit {0}) (Result Y Refusal)) (f : Y → Checks Z) → ((y : Y) → Leaves (f y))
    → ComesOrRefuses view (Err x) m z → ComesOrRefuses {X = Z} {Y = Z} (λ y. y) (Err x) m
    (then z (λ y. unless_refused f y o))
judged_then view (exit.Refused r) m o z f k h = ap (λ w. then w (λ y. unless_refused f y o)) h
judged_then view (exit.Stopped s) m o z f k h =
    ends_then s m z (λ y. unless_refused f y o) (λ y. unless_leaves f y k o) h

module _ (e : Means) (h : LeaveNoMore e) where
  pub visit_stops : (x : Stop) (p : Place) (t : Resolved) (v : Plain) (o : Answers) (m n : Meter)
      → Ends x n (visit p o tt m) → Ends x n (check e p t v o tt m)
  visit_stops x p (Known s c template d) v o m n k =
      ends_then x n (visit p o tt m) (λ _. go_on (shape_run e p s v)
      (λ _. condition_run e p c template v) o) (λ _. inside_leaves e h p s c template v o) k

  pub target_stops : {X : Type 0} → (view : X → Plain) (x : Exit) (p : Place) (t : Resolved)
      (v : Plain) (o : Answers) (m n : Meter) → ComesOrRefuses view (Err x) n
      (target_run e p (link_path v) o tt m) → ComesOrRefuses {X = Unit {0}} {Y = Unit {0}} (λ y. y)
      (Err x) n (shape_run e p (Link t) v o tt m)
  target_stops view x p t v o m n k =
      judged_then view x n o (target_run e p (link_path v) o tt m) (λ w. behind (check e p t w))
      (λ w. behind_leaves e h p t w) k

  pub fields_stop : (x : Exit) (p : Place) (fs : List RField) (i : ℕ) (f : RField) (v : Plain)
      (o : Answers) (m n : Meter) → kind_of v ≡ kind.Dict → i < length fs → f ≡ get_or fs i f
      → ComesOrRefuses {X = Unit {0}} {Y = Unit {0}} (λ y. y) (Err x) n
      (typed_run e p (field_seen f) v o tt m) → ComesOrRefuses {X = Unit {0}} {Y = Unit {0}}
      (λ y. y) (Err x) n (fields_run e p (fields_of (all_seen (drop i fs))) (child_fields v) o tt m)
  fields_stop x p fs i f v o m n d below is k =
      rw (typed_more e p fs i f v o m d below is) (judged_then (λ y. y) x n o
      (typed_run e p (field_seen f) v o tt m) (λ _. fields_run e p
      (fields_of (all_seen (drop (i + 1) fs))) (child_fields v))
      (λ _. fields_leave e h p (fields_of (all_seen (drop (i + 1) fs))) (child_fields v)) k)

  pub bounds_stop : (x : Stop) (root : Plain) (bs : List RBound) (i : ℕ) (b : RBound) (o : Answers)
      (m n : Meter) → i < length bs → b ≡ get_or bs i b
      → Ends x n (bound_run e (bound_seen b) (get b.terms root) o tt m)
      → Ends x n (bounds_run e root (bounds_seen (drop i bs)) o tt m)
  bounds_stop x root bs i b o m n below is k =
      rw (bounds_more e root bs i b o m below is) (ends_then x n
      (bound_run e (bound_seen b) (get b.terms root) o tt m)
      (λ _. bounds_run e root (bounds_seen (drop (i + 1) bs)) o)
      (λ _. bounds_leave e h root (bounds_seen (drop (i + 1) bs)) o) k)

  pub valids_stop : (x : Stop) (root : Plain) (ss : List RValid) (i : ℕ) (s : RValid) (o : Answers)
      (m n : Meter) → i < length ss → s ≡ get_or ss i s
      → Ends x n (valid_run e (valid_seen s) (get s.terms root) o tt m)
      → Ends x n (valids_run e root (valids_seen (drop i ss)) o tt m)
  valids_stop x root ss i s o m n below is k =
      rw (valids_more e root ss i s o m below is) (ends_then x n
      (valid_run e (valid_seen s) (get s.terms root) o tt m)
      (λ _. valids_run e root (valids_seen (drop (i + 1) ss)) o)
      (λ _. valids_leave e h root (valids_seen (drop (i + 1) ss)) o) k)
