use Rattle.load_path.proofs.Positions.{short_at}
use Rattle.format_files.proofs.laying_out.lay_out_files.Goals as goal

pub lay_out_file-requires : goal.lay_out_file-requires
lay_out_file-requires c = short_at c.args.files.now c.loop-file.file-index c.file-item.result
    c.requires c.loop-file-test.true c.file-item.is
