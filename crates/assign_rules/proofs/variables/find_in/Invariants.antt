use Rattle.std.proofs.Common.{◌≡◌, drop}
use Rattle.dml_meaning.specs.Around.{found}
use Rattle.assign_rules.proofs.variables.find_in.Given as goal

abbrev pub invariant-entries : goal.invariant-entries
invariant-entries l = found (drop l.entry-index l.entries) l.name ≡ found l.entries l.name
