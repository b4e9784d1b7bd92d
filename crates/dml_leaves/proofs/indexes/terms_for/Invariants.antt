use Rattle.std.proofs.Common.{◌≡◌, drop}
use Rattle.path_tree.specs.Find.{get}
use Rattle.dml_meaning.specs.Indexes.{terms_from, terms_for}
use Rattle.dml_leaves.proofs.indexes.terms_for.Given as goal

abbrev pub invariant-keys : goal.invariant-keys
invariant-keys l = terms_from l.terms.items (drop l.key-index l.keys) (get l.terms.items l.value)
    ≡ terms_for l.keys l.value
