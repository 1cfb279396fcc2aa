use Rattle.std.proofs.Common.{ltb, rules}
use Rattle.std.proofs.lemmas.List.Sorted.{IsPartitionPoint-from_clause, IsPartitionedBy-ltb}
use Rattle.stores.specs.Slots.{key}
use Rattle.stores.proofs.Searches.{keys_rise, place_is}
use Rattle.stores.proofs.sorted.Sorted.lower_bound.Goals as goal

pub returns-clause-count : goal.returns-clause-count
returns-clause-count c =
    let es = c.args.self.slots.now in
    let q = c.args.path.number in
    let parted = IsPartitionedBy-ltb key es q (keys_rise es c.args.self.in_order) in
    let point = IsPartitionPoint-from_clause (λ s. ltb (key s) q) _ _ c.partition_point.ensures.partitioned parted (λ a r f k. search rules) in
    place_is es q _ c.partition_point.ensures.bound point
