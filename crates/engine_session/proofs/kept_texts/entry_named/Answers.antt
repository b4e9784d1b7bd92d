use Rattle.std.proofs.Common.{◌≡◌, ◌<◌, length, rules}
use Rattle.engine_session.proofs.KeptTrees.{serve_at}
use Rattle.engine_session.proofs.kept_texts.entry_named.Goals as goal

pub returns-clause-serves : goal.returns-clause-serves
returns-clause-serves c = λ number tree serve same_number.
    let same : c.in_ok-entry.entry.now.name ≡ c.args.name.now = search rules in
    let low : c.args.at < length c.args.entries.now = search rules in
    serve_at c.args.name.now number tree c.args.entries.now c.args.at c.in_ok-entry.entry.now serve
    low c.in_ok-entry.ensures.lookup.1 same same_number
