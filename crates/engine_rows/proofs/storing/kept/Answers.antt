use Rattle.std.proofs.Common.{rules, ◌≡◌, map, ◌∙◌}
use Rattle.engine_rows.specs.Storing.{kept_file, kept_rows}
use Rattle.engine_rows.proofs.Stored.{rows_kept}
use Rattle.engine_rows.proofs.storing.kept.Goals as goal

pub returns : goal.returns
returns g c =
    let core = c.args.core.now in
    let dirs : c.in_ok-dirs.dirs.items ≡ core.dirs = search rules in
    let files : c.in_ok-files.files.items ≡ map kept_file core.files.items = search rules in
    let objects : c.in_ok-objects.objects.items ≡ kept_rows core.rows.items = search rules in
    let all = objects ∙ rows_kept core c.requires in
    λ i. record {
      counter = core.counter;
      limits = core.limits;
      dirs = dirs i;
      files =
          files i;
      objects = all i;
    }
