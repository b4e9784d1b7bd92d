use Rattle.std.proofs.Common.{subst}
use Rattle.std.specs.Prelude.{string_bytes}
use Rattle.std.proofs.lemmas.Str.{IsUtf8-string_bytes}
use Rattle.base.specs.Answers.{Gives}
use Rattle.path_tree.specs.Refusals.{refusal}
use Rattle.builtins_text.proofs.Utf8.{utf8_text}
use Rattle.builtins_text.proofs.values.unescaped.Goals as goal

pub returns : goal.returns
returns c = subst (Gives (λ t. t) refusal c.string_value.result)
    (utf8_text (string_bytes c.args.text) (IsUtf8-string_bytes c.args.text)) c.string_value.ensures
