use Rattle.std.proofs.Common.{◌≡◌, drop, false}
use Rattle.questions.specs.declared.key.Key.{Key}
use Rattle.read_index.specs.Readers.{asks}
use Rattle.read_index.specs.Subjects.{reader_key}
use Rattle.engine_laws.specs.Names.{Name}
use Rattle.engine_turns.specs.Places.{column}
use Rattle.rebuild.specs.Reaching.{noted_rows}
use Rattle.rebuild.proofs.reaching.note_all.Given as goal

-- with the rows to come the index is up to date, and of the others it says what it said
abbrev pub invariant-loop-row : goal.invariant-loop-row
invariant-loop-row g l = record {
  noted : (r k : Key) → noted_rows (drop l.row-index l.rows) (asks l.index) r k
      ≡ noted_rows l.rows (asks l.fn.index) r k;
  others : (p : Name) (k : Key) → column (λ r. r.touched) false l.rows p ≡ false
      → asks l.index (reader_key p) k ≡ asks l.fn.index (reader_key p) k;
}
