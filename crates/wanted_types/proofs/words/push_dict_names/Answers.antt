use Rattle.std.proofs.Common.{◌++◌, ap, ◌∙◌, append_assoc, codes}
use Rattle.std.proofs.lemmas.Result.{on_ok_weaker}
use Rattle.wanted_types.specs.Words.{names}
use Rattle.wanted_types.proofs.words.push_dict_names.Goals as goal

pub returns : goal.returns
returns c =
    on_ok_weaker c.push_names.result (λ h. h
    ∙ ap (λ text. text ++ names c.args.keys.now) c.in_ok-extend_from_slice.ensures.items
    ∙ append_assoc c.args.into.now.items (codes "a dict with ") (names c.args.keys.now))
    c.push_names.ensures
