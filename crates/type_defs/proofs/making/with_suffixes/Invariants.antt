use Rattle.std.proofs.Common.{◌≡◌, drop}
use Rattle.type_defs.specs.Resolving.{with_suffixes}
use Rattle.type_defs.specs.ResolvedSeen.{resolved_seen}
use Rattle.type_defs.proofs.making.with_suffixes.Given as goal

abbrev pub invariant-loop-suffix : goal.invariant-loop-suffix
invariant-loop-suffix l =
    with_suffixes l.template l.place (resolved_seen l.whole) (drop l.suffix-index l.suffixes)
    ≡ with_suffixes l.template l.place (resolved_seen l.fn.inner) l.suffixes
