use Rattle.std.proofs.Common.{List, ℕ, ◌++◌, take, ap, ◌∙◌}
use Rattle.std.specs.List.{flat_map}
use Rattle.std.proofs.lemmas.List.{take_all}
use Rattle.path_tree.specs.Plain.{Plain}
use Rattle.call_values.specs.Drafts.{drafted}
use Rattle.builtins_text.specs.Joins.{text_or_nothing}
use Rattle.builtins_text.proofs.Joined.{one_more}
use Rattle.builtins_text.proofs.joining.push_rest.Goals as goal

pub loop-value-preserved : goal.loop-value-preserved
loop-value-preserved c w e =
    let f : Plain → List ℕ = λ v. c.args.separator.now ++ text_or_nothing v in
    let made = w ++ flat_map f (take c.loop-value.value-index c.args.values.now) in
    c.in_ok-push_one.ensures made (c.loop-value.invariant w e)
    ∙ ap drafted (ap (λ x. made ++ (c.args.separator.now ++ x)) c.text_of.ensures
    ∙ one_more f w c.args.values.now c.loop-value.value-index c.value-item.result
    c.value-item.is c.loop-value-test.true)

pub returns : goal.returns
returns c w e = c.loop-value.invariant w e ∙ ap
    (λ vs. drafted (w ++ flat_map (λ v. c.args.separator.now ++ text_or_nothing v) vs))
    (take_all c.loop-value.value-index c.args.values.now c.loop-value-test.false)
