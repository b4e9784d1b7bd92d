-- How a run ends where a part of it does: with what the part ends with, and at want of memory as
-- what goes on behind it leaves no more work.
use Rattle.std.proofs.Common.{◌≡◌, ℕ, ◌+◌, ◌-◌, ◌<◌, List, ◌∷◌, [], ◌++◌, Option, Some, None, length, drop, get_or, arith}
use Rattle.std.specs.Borrow.{Bor}
use Rattle.path_tree.specs.Plain.{Plain}
use Rattle.pan_ast.specs.declared.place.Place.{Place}
use Rattle.pan_ast.specs.declared.fault.Code.{Code}
use Rattle.pan_ast.specs.declared.syntax.Item.{Item as RItem}
use Rattle.pan_ast.specs.Seen.{item_seen}
use Rattle.questions.specs.Contents.{Answers}
use Rattle.questions.specs.Run.{Meter, Done}
use Rattle.questions.specs.Told.{LeavesAtMost}
use Rattle.questions.proofs.Runs.{Leaves}
use Rattle.dml_meaning.specs.Laws.{IsReading}
use Rattle.dml_meaning.specs.Lookups.{template_named}
use Rattle.dml_meaning.proofs.Leaving.{template_leaves}
use Rattle.dml_world.specs.declared.stop.Stop.{Stop}
use Rattle.dml_world.specs.Exits.{Stops}
use Rattle.dml_world.proofs.Ends.{beside_leaves, stops_then}
use Rattle.template_meaning.specs.Program.{Site, Program, Inside, around_in}
use Rattle.template_meaning.specs.Statements.{default_run, defaults_run, named_in, or_fail_about}
use Rattle.template_meaning.proofs.Leaving.{defaults_leave}
use Rattle.plain_statements.specs.Seen.{items_at}
use Rattle.plain_statements.proofs.Items.{defaults_more}

-- what is there, or a fault
pub sought_leaves : {X : Type 0} → (c : Code) (p : Place) (d : List ℕ) (o : Option X)
    → Leaves (or_fail_about c p d o)
sought_leaves c p d (Some x) o s m = omega arith
sought_leaves c p d None o s m = omega arith

module _ (site : Site) (w : IsReading site.reading) where
  pub named_leaves : (n : Inside) (p : Place) (name : List ℕ) (o : Answers) (s : Program)
      (m : Meter) → LeavesAtMost m.left (named_in site n p name o s m)
  named_leaves n p name o s m =
      beside_leaves s m.left (template_named (around_in site n s) p name o tt m)
      (template_leaves (around_in site n s) w p name o tt m)

  pub defaults_stop : (x : Stop) (n : Inside) (is : List (Bor RItem)) (i : ℕ) (f : Bor RItem)
      (done : List Plain) (o : Answers) (s : Program) (m l : Meter) → i < length is → f
      ≡ get_or is i f → Stops x l (default_run site n (item_seen f.now) o s m)
      → Stops x l (defaults_run site n (items_at (drop i is)) done o s m)
  defaults_stop x n is i f done o s m l below same end =
      rw (defaults_more site n is i f done o s m below same)
      (stops_then x l (default_run site n (item_seen f.now) o s m)
      (λ t. defaults_run site n (items_at (drop (i + 1) is)) (done ++ t ∷ []) o)
      (λ t. defaults_leave site w n (items_at (drop (i + 1) is)) (done ++ t ∷ []) o) end)

  -- a value that cannot be kept
  pub defaults_left : (n : Inside) (is : List (Bor RItem)) (i : ℕ) (f : Bor RItem)
      (done : List Plain) (t : Plain) (o : Answers) (s c : Program) (m l : Meter) → i < length is
      → f ≡ get_or is i f → default_run site n (item_seen f.now) o s m ≡ Done t c l
      → LeavesAtMost l.left (defaults_run site n (items_at (drop i is)) done o s m)
  defaults_left n is i f done t o s c m l below same made =
      rw (defaults_more site n is i f done o s m below same, made)
      (defaults_leave site w n (items_at (drop (i + 1) is)) (done ++ t ∷ []) o c l)
