use Rattle.std.proofs.Common.{◌≡◌, drop}
use Rattle.questions.specs.declared.key.Key.{Key}
use Rattle.read_index.specs.Readers.{asks}
use Rattle.rebuild.specs.Reaching.{cleared}
use Rattle.rebuild.proofs.reaching.clear_all.Given as goal

abbrev pub invariant-loop-reader : goal.invariant-loop-reader
invariant-loop-reader l =
    (r k : Key) → cleared (drop l.reader-index l.readers) (asks l.index) r k
    ≡ cleared l.readers (asks l.fn.index) r k
