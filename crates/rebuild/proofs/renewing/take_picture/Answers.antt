use Rattle.std.proofs.Common.{OnOk, IfErr, ap, ◌∙◌, subst, arith}
use Rattle.object_names.specs.Objects.{AreObjects, are_rising}
use Rattle.load_path.specs.Pictures.{is_rising}
use Rattle.read_index.specs.Readers.{asks}
use Rattle.rebuild.specs.Refused.{IsSpent}
use Rattle.rebuild.specs.Renewing.{IsTaken}
use Rattle.rebuild.specs.Taking.{counter_after}
use Rattle.rebuild.proofs.Objects.{picture_taken, refused_by}
use Rattle.rebuild.proofs.renewing.take_picture.Goals as goal

pub take_files-requires-clause-objects : goal.take_files-requires-clause-objects
take_files-requires-clause-objects g c =
    ap are_rising c.deref.ensures.value ∙ c.in_ok-found.ensures.rising

pub take_files-requires-clause-rising : goal.take_files-requires-clause-rising
take_files-requires-clause-rising g c = ap is_rising c.files.ensures.files ∙ c.files.ensures.rising

pub returns-clause-taken : goal.returns-clause-taken
returns-clause-taken g c =
    let old = c.args.core.now in
    let new = c.take_files.new.core in
    let picture = c.args.picture.now in
    let found = c.in_ok-found.found.items in
    let gt = c.if-len-gt-MAX_OBJECTS.false in
    let count = c.len.ensures in
    let of_files = subst (λ fs. OnOk c.take_files.result
    (IsTaken (asks c.args.index.now) fs c.deref.result.now old new)) c.files.ensures.files
    c.take_files.ensures.taken in
    let taken = subst (λ os. OnOk c.take_files.result
    (IsTaken (asks c.args.index.now) picture os old new)) c.deref.ensures.value of_files in
    let are = subst (λ ds. AreObjects picture ds found) c.as_slice.ensures c.in_ok-found.ensures in
    picture_taken (asks c.args.index.now) picture found old new c.take_files.result are
    (omega (arith, gt, count)) taken

pub returns-clause-refused : goal.returns-clause-refused
returns-clause-refused g c =
    let old = c.args.core.now in
    let picture = c.args.picture.now in
    let found = c.in_ok-found.found.items in
    let gt = c.if-len-gt-MAX_OBJECTS.false in
    let count = c.len.ensures in
    let are = subst (λ ds. AreObjects picture ds found) c.as_slice.ensures c.in_ok-found.ensures in
    let refused = subst (λ fs. IfErr c.take_files.result
    (λ e. IsSpent e (counter_after old.files.items old.counter fs))) c.files.ensures.files
    c.take_files.ensures.refused in
    refused_by old.files.items old.counter picture old.dirs found c.take_files.result are
    (omega (arith, gt, count)) refused
