use Rattle.std.proofs.Common.{◌≡◌, ◌-◌, suc, length, true, arith, rules}
use Rattle.std.proofs.lemmas.List.Sorted.{IsPartitionPoint-from_clause}
use Rattle.load_path.specs.Pictures.{is_below}
use Rattle.load_path.specs.declared.picture.PictureFile.{PictureFile}
use Rattle.load_path.proofs.Positions.{at_end, partitioned, position_is}
use Rattle.load_path.proofs.picture.position_of.Goals as goal

pub returns : goal.returns
returns c =
    let point = IsPartitionPoint-from_clause (λ (f : PictureFile). is_below f.name c.args.name.now)
    _ _ c.partition_point.ensures.partitioned (partitioned c.args.name.now c.args.files.now
    c.requires) (λ a r q k. search rules) in
    position_is c.args.name.now c.args.files.now c.partition_point.result
    c.partition_point.ensures.bound point

pub returns-then-lt : goal.returns-then-lt
returns-then-lt c =
    let last : suc (length c.args.files.now - 1) ≡ length c.args.files.now =
    omega (arith, c.if-count-gt0.true) in
    let below : is_below c.index-files-count.result.name c.args.name.now ≡ true = search rules in
    at_end c.args.name.now c.args.files.now (length c.args.files.now - 1) c.index-files-count.result
    c.requires last c.index-files-count.is below
