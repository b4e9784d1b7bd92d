-- How a statement includes templates.
use Rattle.dml_world.specs.declared.world.World as world
use Rattle.template_meaning.specs.Statements.{Includes, included}
use Rattle.plain_statements.specs.declared.site.Inside.{Inside}
use Rattle.plain_statements.specs.Seen.{site_in}

-- how a statement inside it includes templates
abbrev pub includes_in : {W C : Type 0} → world.Ghosts W C → Inside → Includes
includes_in M n = included n.includes_left (site_in M n)
