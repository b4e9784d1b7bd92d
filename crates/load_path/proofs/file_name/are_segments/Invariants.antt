use Rattle.std.proofs.Common.{◌≡◌, ◌==◌, drop, if◌then◌else◌}
use Rattle.load_path.specs.FileNames.{are_segments, are_segments_on}
use Rattle.load_path.proofs.file_name.are_segments.Given as goal

abbrev pub invariant-loop-byte : goal.invariant-loop-byte
invariant-loop-byte l = (if l.before == 47 then are_segments (drop l.byte-index l.bytes) else
    are_segments_on (drop l.byte-index l.bytes)) ≡ are_segments l.bytes
