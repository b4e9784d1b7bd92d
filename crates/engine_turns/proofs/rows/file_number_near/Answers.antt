use Rattle.std.proofs.Common.{◌≡◌, ap, sym, ◌∙◌, Some, true, rules}
use Rattle.std.specs.Prelude.{bytes_eq}
use Rattle.engine_laws.specs.Names.{equal}
use Rattle.engine_turns.specs.Places.{file_name}
use Rattle.engine_turns.proofs.Sorted.{keyed_near, number_or_none, number_of_file}
use Rattle.engine_turns.proofs.rows.file_number_near.Goals as goal

pub returns-then-eq : goal.returns-then-eq
returns-then-eq c =
    let file = c.in-Some.file.now in
    let files = c.args.files.now in
    let name = c.args.name.now in
    let same : bytes_eq file.name name ≡ true = search rules in
    let lookup = c.in-Some.ensures.lookup in
    let found = keyed_near file_name name files c.args.near file c.requires lookup.3.0
    (ap (λ z. equal z.name name) (sym lookup.1) ∙ same) in
    ap number_or_none (ap Some lookup.1 ∙ sym found) ∙ number_of_file files name
