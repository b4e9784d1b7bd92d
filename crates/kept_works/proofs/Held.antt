-- What is kept of an engine, by what it has come to.
use Rattle.std.proofs.Common.{◌≡◌, ℕ, true, List, map, sym, ap}
use Rattle.pan_ast.specs.declared.work.Limits.{Limits}
use Rattle.engine_turns.specs.declared.core_data.Core.{Core}
use Rattle.engine_turns.specs.Places.{names}
use Rattle.engine_turns.specs.Ready.{core_state}
use Rattle.rebuild.specs.Engines.{is_ready, value_of}
use Rattle.rebuild.proofs.Engines.{ready_is}
use Rattle.engine_rows.specs.Storing.{kept_file, kept_objects, kept_of}
use Rattle.engine_session.specs.Compiler.{Compiled}
use Rattle.engine_session.specs.Standing.{compiled_in, IsIn}
use Rattle.engine_session.proofs.Moves.{along, rows_are}
use Rattle.kept_works.specs.Kept.{kept_by}

module _ {T : Type 0} (core : Core T) (ready : is_ready core ≡ true) where
  kept_here : kept_of (value_of core) ≡ kept_by core.dirs core.limits (compiled_in core)
  kept_here = ap (λ rows. record {
    counter = core.counter;
    limits = core.limits;
    dirs = core.dirs;
    files = map kept_file rows;
    objects = kept_objects (core_state core) (names core.rows.items);
  }) (sym (rows_are core.files.items (ready_is core ready).files))

  pub kept_is : (dirs : List (List ℕ)) (limits : Limits) (e : Compiled T)
      → IsIn dirs limits core e → kept_of (value_of core) ≡ kept_by dirs limits e
  kept_is dirs limits e is =
      along core (λ d l x. kept_of (value_of core) ≡ kept_by d l x) dirs limits e is kept_here
