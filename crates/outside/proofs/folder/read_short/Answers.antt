use Rattle.std.proofs.Common.{◌≤◌, length, refl, arith}
use Rattle.base.specs.declared.limits.TheConstants.{MAX_FILE_BYTES}
use Rattle.outside.proofs.Short.{short_told}
use Rattle.outside.proofs.folder.read_short.Goals as goal

pub returns-then-len-le-MAX_FILE_BYTES-clause-told : goal.returns-then-len-le-MAX_FILE_BYTES-clause-told
returns-then-len-le-MAX_FILE_BYTES-clause-told g c =
    let few : length c.read_to_end.new.buf.items ≤ MAX_FILE_BYTES =
    omega (arith, c.len.ensures, c.if-len-le-MAX_FILE_BYTES.true) in
    short_told (g.F.Read.remaining c.args.from) c.read_to_end.new.buf.items MAX_FILE_BYTES refl
    (rw (c.take.ensures.limit, c.take.ensures.inner, c.clear.ensures.items) at
    c.in_ok-read_to_end.ensures.bytes) few
