use Rattle.std.proofs.Common.{ℕ, List, sym, ap, ◌∙◌}
use Rattle.path_tree.specs.declared.path.Term.{Term}
use Rattle.questions.specs.Keys.{terms_eq}
use Rattle.path_numbers.specs.Hashing.{path_hash}
use Rattle.path_numbers.specs.Numbers.{number_in, own_or}
use Rattle.path_numbers.proofs.Sides.{terms_same}
use Rattle.path_numbers.proofs.table.PathTable.enter.Goals as goal

pub returns : goal.returns
returns c t =
    let hash = c.path_hash-hash.ensures ∙ ap (path_hash 0) c.as_slice.ensures in
    let here = c.enter.ensures (path_hash 0 t) t (λ e. ap (path_hash 0)
    (sym (terms_same c.fresh.inside.terms t e)) ∙ sym hash) in
    here ∙ ap (λ (f : List Term × ℕ). own_or (terms_eq f.0 t) (number_in c.args.self.now t) f.1)
    c.fresh.view_is
