use Rattle.std.proofs.Common.{◌++◌, ◌∷◌, [], ap, inr, ◌∙◌}
use Rattle.engine_session.proofs.kept_texts.KeptTexts.outcome.Goals as goal

pub returns-clause-entries : goal.returns-clause-entries
returns-clause-entries c = λ serve. inr (record {
  entry = c.in_ok-entry.entry;
  is = c.in_ok-push.ensures.items ∙ ap (λ es. es ++ c.in_ok-entry.entry ∷ []) c.entry.ensures.entries;
  name_is = c.in_ok-entry.ensures.name;
  number_is = c.in_ok-entry.ensures.number;
  text_is = c.in_ok-entry.ensures.json serve;
})
