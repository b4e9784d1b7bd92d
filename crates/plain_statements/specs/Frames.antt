-- The frame of the DML of a statement.
use Rattle.std.specs.Prelude.{◌≡◌}
use Rattle.dml_world.specs.declared.frame.Frame.{Frame}
use Rattle.plain_statements.specs.declared.site.Inside.{Inside}
use Rattle.plain_statements.specs.declared.program.Program.{Program}

-- it shows the program so far, the template that the statement stands in, and what the run is about
abbrev pub IsFrame : Inside → Program → Frame → Type 0
IsFrame n s f = (f.globals.now ≡ s.globals) × (f.functions.now ≡ s.functions)
    × (f.root.now ≡ s.profile.tree) × (f.template ≡ n.template)
    × (f.object.now ≡ n.site.now.object.now) × (f.dirs.now ≡ n.site.now.dirs.now)
    × (f.max_iteration ≡ n.site.now.limits.max_iteration)
