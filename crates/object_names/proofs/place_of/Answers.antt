use Rattle.std.proofs.Common.{◌≡◌, ℕ, List, rules}
use Rattle.std.proofs.lemmas.List.Sorted.{IsPartitionPoint-from_clause}
use Rattle.load_path.specs.Pictures.{is_below}
use Rattle.object_names.proofs.Places.{partitioned, place_is}
use Rattle.object_names.proofs.place_of.Goals as goal

pub returns : goal.returns
returns c =
    let point = IsPartitionPoint-from_clause (λ (x : List ℕ). is_below x c.args.name.now) _ _
    c.partition_point.ensures.partitioned (partitioned c.args.name.now c.args.names.now
    c.requires) (λ a r q k. search rules) in
    place_is c.args.name.now c.args.names.now c.partition_point.result
    c.partition_point.ensures.bound point
