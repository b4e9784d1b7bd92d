use Rattle.std.proofs.Common.{refl, sym, ◌∙◌}
use Rattle.pan_ast.specs.declared.syntax.Form.TheVariants as form
use Rattle.pan_ast.proofs.Pointers.{grown_left}
use Rattle.pan_ast.proofs.make_items.with_step.Goals as goal

pub returns-in_ok-push-in-Spine-clause-pointers : goal.returns-in_ok-push-in-Spine-clause-pointers
returns-in_ok-push-in-Spine-clause-pointers c =
    let spine = c.in-Spine in
    grown_left c.args.left (record {
      place = c.into_parts-place.result.0;
      form =
          form.Spine spine.first spine.second c.push.new.self;
    }) spine.first spine.second spine.rest
    c.push.new.self c.args.step (sym c.into_parts-place.ensures.form ∙ spine.is) refl
    c.in_ok-push-in-Spine.ensures.items
