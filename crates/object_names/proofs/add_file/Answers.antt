use Rattle.std.proofs.Common.{◌≡◌, ◌++◌, ◌∙◌, sym, ap, Option, Some, option_copied, List, ℕ}
use Rattle.std.specs.Prelude.{codes}
use Rattle.std.proofs.lemmas.Result.{on_ok_weaker}
use Rattle.object_names.proofs.Adding.{adds_found}
use Rattle.object_names.proofs.add_file.Goals as goal

pub returns-in-Ok : goal.returns-in-Ok
returns-in-Ok c =
    let picture = c.args.picture.now in
    let only : (n : List ℕ) → c.args.front.now ++ (n ++ codes ".pan") ≡ c.args.file.now → n
    ≡ c.in-Ok.name =
    λ n so.
    let found : ◌≡◌ {A = Option (List ℕ)} (Some c.in-Some.name.now) (Some n) =
    sym (ap option_copied c.in-Some.is) ∙ c.name_in.ensures.complete n so in
    let same : c.in-Some.name.now ≡ n = cc in
    sym same ∙ sym c.in-Ok.ensures.value in
    on_ok_weaker c.add_object.result (λ e. adds_found picture c.args.dirs.now c.in-Ok.name _
    c.args.names.now.items c.add_object.new.names.items c.requires e only) c.add_object.ensures
