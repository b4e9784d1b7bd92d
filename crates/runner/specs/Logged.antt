-- How the tree of a build was made.
use Rattle.std.specs.Prelude.{◌≡◌, ℕ, List, Bool, true, not, Option, Some, None, Ok, IfSome}
use Rattle.std.specs.List.{list_all}
use Rattle.asking.specs.Asked.{Ends}
use Rattle.assign_rules.specs.Profiles.{IsLogOf}
use Rattle.path_tree.specs.Lists.{is_null}
use Rattle.path_tree.specs.Plain.{Plain}
use Rattle.pan_ast.specs.declared.change.Change.{Change}
use Rattle.questions.specs.declared.key.Key.{Key}
use Rattle.questions.specs.Contents.{Content}
use Rattle.runner.specs.declared.ends.Built.{Built}
use Rattle.runner.specs.declared.log.Log.{Log}
use Rattle.runner.specs.Meaning.{Logged, Meaning}

abbrev pub seen_log : Log → Logged
seen_log l = record { header = l.header.now; changes = l.changes.now }

-- whether a change puts no null: it puts another value, or removes
abbrev pub is_no_null : Option Plain → Bool
is_no_null None = true
is_no_null (Some v) = not (is_null v)

abbrev pub puts_no_null : Change → Bool
puts_no_null c = is_no_null c.value

abbrev pub put_no_null : List Change → Bool
put_no_null = list_all puts_no_null

-- the changes put no null, and give the tree, from an empty dict on
pub record IsLogFor (tree : Plain) (l : Logged) : Type 0 where
  pub values : put_no_null l.changes ≡ true
  pub gives : IsLogOf l.changes tree

-- what is told of what was built is how its tree was made
abbrev pub LogItsTrees : {T : Type 0} → Meaning T → Type 0
LogItsTrees {T} m = (object : List ℕ) (asked : List (Key × Content)) (b : Built T)
    → m.build object asked ≡ Ends (Ok b) → IfSome (m.log b.rest) (IsLogFor b.tree)
