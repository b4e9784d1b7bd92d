-- What is known of a log that a runner tells of a build: it puts values.
use Rattle.std.proofs.Common.{◌≡◌, ◌≢◌, ◌&&◌, List, [], ◌∷◌, Bool, true, false, not, Option, Some, None, IfSome, refl, sym, ap, ◌∙◌, subst}
use Rattle.path_tree.specs.Plain.{Plain, null}
use Rattle.path_tree.specs.Lists.{is_null}
use Rattle.pan_ast.specs.declared.change.Change.{Change}
use Rattle.pan_blame.specs.Underway.{AreValues}
use Rattle.runner.specs.Logged.{IsLogFor, is_no_null, put_no_null}
use Rattle.runner.specs.Meaning.{Logged}

both : (a b : Bool) → (a && b) ≡ true → (a ≡ true) × (b ≡ true)
both true b e = (refl, e)
both false b e = absurd (let clash : false ≡ true = e in cc)

value_is : (v : Option Plain) → is_no_null v ≡ true → IfSome v (λ t. t ≢ null)
value_is None e = tt
value_is (Some t) e = λ same. let clash : false ≡ true = sym (ap (λ u. not (is_null u)) same)
    ∙ e in cc

-- a log that puts no null puts values
pub values_are : (log : List Change) → put_no_null log ≡ true → AreValues log
values_are [] e = tt
values_are (c ∷ log) e = let two = both (is_no_null c.value) (put_no_null log) e in
    (value_is c.value two.0, values_are log two.1)

pub logged_values : (l : Option Logged) (log : Logged) (tree : Plain) → Some log ≡ l
    → IfSome l (IsLogFor tree) → AreValues log.changes
logged_values l log tree is laws = let here : IfSome (Some log) (IsLogFor tree) = subst
    (λ o. IfSome o (IsLogFor tree)) (sym is) laws in values_are log.changes here.values
