use Rattle.std.proofs.Common.{◌≡◌, ◌<◌, get_or, length, arith, ap, sym}
use Rattle.std.proofs.lemmas.Bool.{eqb-false}
use Rattle.std.proofs.lemmas.Str.{IsCharBoundary-after_ascii}
use Rattle.builtins_patterns.proofs.template.behind.Goals as goal

pub range_from-requires : goal.range_from-requires
range_from-requires c =
    let text = c.args.text.now in
    let some : 0 < length text =
    omega (
      arith,
      eqb-false _ 0 (sym c.if-is_empty.ensures),
      ap length
          c.as_bytes-bytes.ensures.value,
    ) in
    let first : get_or text 0 0 ≡ c.args.first =
    rw c.as_bytes-bytes.ensures.value at c.if-bytes-first.false in
    λ _. IsCharBoundary-after_ascii text 0 c.utf8.text some (omega (arith, first, c.requires.ascii))
