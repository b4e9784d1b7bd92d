use Rattle.std.proofs.Common.{◌≡◌, drop, map}
use Rattle.dml_meaning.specs.Around.{found_function}
use Rattle.dml_world.specs.Seen.{function_of}
use Rattle.dml_world.proofs.frame.find_in.Given as goal

abbrev pub invariant-functions : goal.invariant-functions
invariant-functions l = found_function (map function_of (drop l.function-index l.functions)) l.name
    ≡ found_function (map function_of l.functions) l.name
