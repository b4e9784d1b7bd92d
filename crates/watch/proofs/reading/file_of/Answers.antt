use Rattle.std.proofs.Common.{sym, ◌∙◌}
use Rattle.std.proofs.lemmas.Str.{IsUtf8-from_ascii}
use Rattle.watch.proofs.FileNames.{file_ascii}
use Rattle.watch.proofs.reading.file_of.Goals as goal

pub unreachable-requires : goal.unreachable-requires
unreachable-requires c = c.in-Err.ensures.cases.0 (IsUtf8-from_ascii c.args.bytes.now (file_ascii
    c.args.bytes.now (sym c.is_file_name.ensures ∙ c.if-not-is_file_name.false)))
