use Rattle.std.proofs.Common.{None, refl}
use Rattle.std.proofs.lemmas.Result.{IfOk-weaker, on_err_weaker}
use Rattle.publication.specs.declared.trouble.Which.TheVariants.{Json}
use Rattle.publication.specs.Published.{BringsFile}
use Rattle.publication.proofs.Files.{json_failed, json_done, partly}
use Rattle.publication.specs.OwnNames.{json_name}
use Rattle.publication.proofs.Keys.{first_keys, keys_result}
use Rattle.publication.proofs.Logging.{first_log, second_result, at_name}
use Rattle.publication.proofs.publisher.Publisher.bring_profile.Goals as goal

pub returns-in-Some-clause-ok : goal.returns-in-Some-clause-ok
returns-in-Some-clause-ok g c =
    json_failed c.args.profile.now c.in-Some.trouble _ _ _ _ c.requires.proper
    (rw c.in-Some.is at c.in_ok-trouble.ensures.ok)

pub returns-clause-ok : goal.returns-clause-ok
returns-clause-ok g c = IfOk-weaker _ _ _ (λ t file. json_done c.args.profile.now t _ _ _ _ _ _
    c.requires.proper (rw c.in_default.is at c.in_ok-trouble.ensures.ok)
    file) c.bring_file-2.ensures.ok

pub returns-clause-err : goal.returns-clause-err
returns-clause-err g c =
    let json : BringsFile c.args.profile.now.name Json c.args.profile.now.json None
    (g.H.Shelf.fault_count c.args.shelf.now) (g.H.Shelf.fault_count c.bring_file.new.shelf)
    (g.H.Shelf.cell c.args.shelf.now) (g.H.Shelf.cell c.bring_file.new.shelf) =
    rw c.in_default.is at c.in_ok-trouble.ensures.ok in
    on_err_weaker c.bring_file-2.result (λ unsettles. partly c.args.profile.now _ _ _
    json.brings.left unsettles) c.bring_file-2.ensures.unsettles

pub returns-in-Some-clause-log : goal.returns-in-Some-clause-log
returns-in-Some-clause-log g c =
    λ told. first_log c.args.profile.now c.in-Some.trouble (g.H.Shelf.cell c.args.shelf.now) _ _
    (rw c.in-Some.is at c.in_ok-trouble.ensures.ok).on
    (told (json_name c.args.profile.now.name)) (at_name
    (g.H.Shelf.cell c.args.shelf.now (json_name c.args.profile.now.name)) _ _ _ _ _ _ _
    refl c.in-Some.is c.in_ok-trouble.ensures.log)

pub returns-clause-log : goal.returns-clause-log
returns-clause-log g c =
    let json : BringsFile c.args.profile.now.name Json c.args.profile.now.json None
    (g.H.Shelf.fault_count c.args.shelf.now) (g.H.Shelf.fault_count c.bring_file.new.shelf)
    (g.H.Shelf.cell c.args.shelf.now) (g.H.Shelf.cell c.bring_file.new.shelf) =
    rw c.in_default.is at c.in_ok-trouble.ensures.ok in
    second_result c.args.profile.now c.bring_file-2.result (g.H.Shelf.cell c.args.shelf.now)
    (g.H.Shelf.cell c.bring_file.new.shelf) _ _ _ c.args.profile.now.dep _ _ _
    c.requires.proper refl json.brings.left
    (at_name (g.H.Shelf.cell c.args.shelf.now (json_name c.args.profile.now.name)) _ _ _ _ _ _ _
    refl c.in_default.is c.in_ok-trouble.ensures.log)
    c.bring_file-2.ensures.ok c.bring_file-2.ensures.log

pub returns-in-Some-clause-keys : goal.returns-in-Some-clause-keys
returns-in-Some-clause-keys g c =
    let failed = json_failed c.args.profile.now c.in-Some.trouble _ _ _ _ c.requires.proper
    (rw c.in-Some.is at c.in_ok-trouble.ensures.ok) in
    first_keys c.args.profile.now c.in-Some.trouble _ _ c.requires.proper
    (rw c.in-Some.is at c.in_ok-trouble.ensures.ok).on failed.on.1
    c.in_ok-trouble.ensures.keys

pub returns-clause-keys : goal.returns-clause-keys
returns-clause-keys g c =
    keys_result c.args.profile.now c.bring_file-2.result _ _ _ _ _ _ _ _
    c.in_ok-trouble.ensures.keys c.bring_file-2.ensures.ok c.bring_file-2.ensures.keys
